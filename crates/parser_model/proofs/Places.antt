-- Lexed tokens stand in rising places, and a fault or the end comes behind them.
use Rattle.std.specs.Prelude.{◌-◌, if◌then◌else◌, nat_eq, drop, Ok, Err}
use Rattle.std.proofs.Common.{◌≡◌, ℕ, zero, suc, ◌+◌, ◌≤◌, [], ◌∷◌, length, refl, Bool, true, false, Option, Some, None, arith}
use Rattle.std.specs.List.{prefix_len}
use Rattle.std.proofs.lemmas.List.{length-drop}
use Rattle.std.proofs.lemmas.List.Sums.{prefix_len-le-length}
use Rattle.script_tree.specs.declared.fault.SyntaxFault.{SyntaxFault}
use Rattle.script_tree.specs.Lexing.{Text, Lexed, Piece, is_blank, is_in_comment, piece, after_piece, after_comment, lex_from, lex}
use Rattle.script_tree.specs.Grammar.{Placed}
use Rattle.parser_model.proofs.Least.{Ordered}
use Rattle.parser_model.proofs.PieceSizes.{IsWithin, piece_within}

if_case : {A : Type 0} (P : A → Type 0) (c : Bool) (x y : A) → (c ≡ true → P x) → (c ≡ false → P y) → P (if c then x else y)
if_case P true x y hit miss = hit refl
if_case P false x y hit miss = miss refl

-- the places rise from here on, up to the end of the text
abbrev Rises : ℕ → Text → Lexed → Type 0
Rises at text l = Ordered at l.tokens l.fault (at + length text)

sooner : (lo hi : ℕ) (rest : Placed) (fault : Option (ℕ × SyntaxFault)) (len more : ℕ) → lo ≤ hi → len ≤ more → Ordered hi rest fault len → Ordered lo rest fault more
sooner lo hi [] None len more le longer h = omega (arith, le, longer, h)
sooner lo hi [] (Some p) len more le longer h = omega (arith, le, h)
sooner lo hi (x ∷ rest) fault len more le longer h = (omega (arith, le, h.0), sooner (x.0 + 1) (x.0 + 1) rest fault len more (omega arith) longer h.1)

later : (at to : ℕ) (text rest : Text) (l : Lexed) → at ≤ to → to + length rest ≤ at + length text → Rises to rest l → Rises at text l
later at to text rest l le longer h = sooner at to l.tokens l.fault (to + length rest) (at + length text) le longer h

abbrev AllRise : (ℕ → Text → Lexed) → Type 0
AllRise go = (at : ℕ) (text : Text) → Rises at text (go at text)

piece_rises : (go : ℕ → Text → Lexed) (at : ℕ) (text : Text) (p : Piece) → AllRise go → IsWithin (length text) p → Rises at text (after_piece go at text p)
piece_rises go at text (Err kind) h takes = omega arith
piece_rises go at text (Ok p) h takes =
    let dropped : length (drop p.1 text) ≡ length text - p.1 = length-drop p.1 text in
    let l : Lexed = go (at + p.1) (drop p.1 text) in
    (omega arith, sooner (at + 1) (at + p.1) l.tokens l.fault ((at + p.1) + length (drop p.1 text)) (at + length text) (omega (arith, takes.0)) (omega (arith, takes.1, dropped)) (h (at + p.1) (drop p.1 text)))

comment_rises : (go : ℕ → Text → Lexed) (at : ℕ) (text : Text) → AllRise go → Rises at text (after_comment go at text)
comment_rises go at [] h = h at []
comment_rises go at (b ∷ bs) h = if_case (Rises at (b ∷ bs)) (nat_eq b 10) _ _ (λ e. later at (at + 1) (b ∷ bs) bs (go (at + 1) bs) (omega arith) (omega arith) (h (at + 1) bs)) (λ e. omega arith)

lex_rises : (n : ℕ) → AllRise (lex_from n)
lex_rises zero at [] = omega arith
lex_rises (suc n) at [] = omega arith
lex_rises zero at (b ∷ bs) = omega arith
lex_rises (suc n) at (b ∷ bs) = if_case (Rises at (b ∷ bs)) (is_blank b) _ _
    (λ e. later at (at + 1) (b ∷ bs) bs (lex_from n (at + 1) bs) (omega arith) (omega arith) (lex_rises n (at + 1) bs))
    (λ e. if_case (Rises at (b ∷ bs)) (nat_eq b 35) _ _
    (λ f.
    let k : ℕ = prefix_len is_in_comment bs in
    let most : k ≤ length bs = prefix_len-le-length is_in_comment bs in
    let dropped : length (drop k bs) ≡ length bs - k = length-drop k bs in
    later at (at + 1 + k) (b ∷ bs) (drop k bs) (after_comment (lex_from n) (at + 1 + k) (drop k bs)) (omega arith) (omega (arith, most, dropped))
    (comment_rises (lex_from n) (at + 1 + k) (drop k bs) (lex_rises n)))
    (λ f. piece_rises (lex_from n) at (b ∷ bs) (piece (b ∷ bs)) (lex_rises n) (piece_within (b ∷ bs))))

pub lexed_ordered : (text : Text) → Ordered 0 (lex text).tokens (lex text).fault (length text)
unfolding lex
lexed_ordered text =
    let l : Lexed = lex_from (length text) 0 text in
    sooner 0 0 l.tokens l.fault (0 + length text) (length text) (omega arith) (omega arith) (lex_rises (length text) 0 text)
