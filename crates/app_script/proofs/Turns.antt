-- Turns from the length of the text on give the same tokens.
use Rattle.std.proofs.Common.{◌≡◌, ℕ, zero, suc, ◌+◌, ◌≤◌, Bool, true, false, if◌then◌else◌, nat_eq, [], ◌∷◌, length, drop, Ok, Err, refl, ap, sym, ◌∙◌, arith, length-drop}
use Rattle.std.proofs.lemmas.Bool.{false≢true}
use Rattle.std.specs.List.{prefix_len}
use Rattle.script_tree.specs.Lexing.{Text, Lexed, Piece, is_blank, is_in_comment, piece, with_token, after_piece, after_comment, lex_from, lex}
use Rattle.app_script.specs.Lexer.{lexed, nothing_left}
use Rattle.parser_model.proofs.PieceSizes.{IsWithin, piece_within}

abbrev Go : Type 0
Go = ℕ → Text → Lexed

-- both read the same in texts of at most so many bytes
abbrev SameWithin : ℕ → Go → Go → Type 0
SameWithin n f g = (at : ℕ) (text : Text) → length text ≤ n → f at text ≡ g at text

same_if : (b : Bool) {x y u v : Lexed} → x ≡ u → y ≡ v → (if b then x else y) ≡ (if b then u else v)
same_if true p q = p
same_if false p q = q

same_comment : (n : ℕ) (f g : Go) (at : ℕ) (text : Text) → SameWithin n f g → length text ≤ n → after_comment f at text ≡ after_comment g at text
same_comment n f g at [] same h = same at [] h
same_comment n f g at (b ∷ bs) same h = same_if (nat_eq b 10) (same (at + 1) bs (omega arith)) refl

same_piece : (n : ℕ) (f g : Go) (at : ℕ) (text : Text) (p : Piece) → SameWithin n f g → length text ≤ suc n → IsWithin (length text) p → after_piece f at text p ≡ after_piece g at text p
same_piece n f g at text (Ok p) same h within =
    let short : length (drop p.1 text) ≤ n = omega (arith, length-drop p.1 text) in
    ap (λ l. with_token at p.0 l) (same (at + p.1) (drop p.1 text) short)
same_piece n f g at text (Err kind) same h within = refl

enough : (n m at : ℕ) (text : Text) → length text ≤ n → length text ≤ m → lex_from n at text ≡ lex_from m at text
enough zero zero at [] h k = refl
enough zero (suc m) at [] h k = refl
enough (suc n) zero at [] h k = refl
enough (suc n) (suc m) at [] h k = refl
enough zero m at (b ∷ bs) h k = absurd (omega arith)
enough (suc n) zero at (b ∷ bs) h k = absurd (omega arith)
enough (suc n) (suc m) at (b ∷ bs) h k =
    let same : SameWithin (length bs) (lex_from n) (lex_from m) = λ place text short. enough n m place text (omega arith) (omega arith) in
    let len = prefix_len is_in_comment bs in
    let short : length (drop len bs) ≤ length bs = omega (arith, length-drop len bs) in
    same_if (is_blank b) (same (at + 1) bs (omega arith))
    (same_if (nat_eq b 35) (same_comment (length bs) (lex_from n) (lex_from m) (at + 1 + len) (drop len bs) same short)
    (same_piece (length bs) (lex_from n) (lex_from m) at (b ∷ bs) (piece (b ∷ bs)) same (omega arith) (piece_within (b ∷ bs))))

-- the same as with the turns that are left in a text of n bytes
same_lexed : (n : ℕ) → SameWithin n (lex_from n) lexed
unfolding lexed
same_lexed n at text h = enough n (length text) at text h (omega arith)

-- ---- the tokens of a text, by what stands at its front

pub lexed_nil : (at : ℕ) → lexed at [] ≡ nothing_left
unfolding lexed
lexed_nil at = refl

pub lexed_blank : (at b : ℕ) (bs : Text) → is_blank b ≡ true → lexed at (b ∷ bs) ≡ lexed (at + 1) bs
unfolding lexed
lexed_blank at b bs h = rw h refl

pub lexed_comment : (at : ℕ) (bs : Text) → lexed at (35 ∷ bs) ≡ after_comment lexed (at + 1 + prefix_len is_in_comment bs) (drop (prefix_len is_in_comment bs) bs)
unfolding lexed
lexed_comment at bs =
    let short : length (drop (prefix_len is_in_comment bs) bs) ≤ length bs = omega (arith, length-drop (prefix_len is_in_comment bs) bs) in
    same_comment (length bs) (lex_from (length bs)) lexed (at + 1 + prefix_len is_in_comment bs) (drop (prefix_len is_in_comment bs) bs) (same_lexed (length bs)) short

if_no : (t : Bool) (x y : Lexed) → t ≡ false → (if t then x else y) ≡ y
if_no true x y h = absurd (false≢true (sym h))
if_no false x y h = refl

piece_turn : (n at b : ℕ) (bs : Text) → is_blank b ≡ false → nat_eq b 35 ≡ false → lex_from (suc n) at (b ∷ bs) ≡ after_piece (lex_from n) at (b ∷ bs) (piece (b ∷ bs))
piece_turn n at b bs blank comment =
    if_no (is_blank b) (lex_from n (at + 1) bs) _ blank
    ∙ if_no (nat_eq b 35) (after_comment (lex_from n) (at + 1 + prefix_len is_in_comment bs) (drop (prefix_len is_in_comment bs) bs)) (after_piece (lex_from n) at (b ∷ bs) (piece (b ∷ bs))) comment

pub lexed_piece : (at b : ℕ) (bs : Text) → is_blank b ≡ false → nat_eq b 35 ≡ false → lexed at (b ∷ bs) ≡ after_piece lexed at (b ∷ bs) (piece (b ∷ bs))
unfolding lexed
lexed_piece at b bs blank comment =
    piece_turn (length bs) at b bs blank comment
    ∙ same_piece (length bs) (lex_from (length bs)) lexed at (b ∷ bs) (piece (b ∷ bs)) (same_lexed (length bs)) (omega arith) (piece_within (b ∷ bs))

pub lex_is : (text : Text) → lex text ≡ lexed 0 text
unfolding lex lexed
lex_is text = refl
