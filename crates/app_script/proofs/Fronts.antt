-- The first token of a text that begins with no blank and no comment.
use Rattle.std.proofs.Common.{◌≡◌, ◌==◌, true, false, ℕ, ◌+◌, ◌<◌, ◌≤◌, [], ◌∷◌, length, drop, Ok, Err, ap, sym, subst, ◌∙◌, arith, length-drop}
use Rattle.std.proofs.lemmas.Bool.Decides.{nat_tests}
use Rattle.script_tree.specs.declared.token.Token.{Token}
use Rattle.script_tree.specs.declared.fault.SyntaxFault.{SyntaxFault}
use Rattle.script_tree.specs.Lexing.{Text, piece, after_piece, with_token, stops_at}
use Rattle.app_script.specs.Lexer.{lexed, left, nothing_left, BeginsPiece}
use Rattle.app_script.specs.Unread.{Unread}
use Rattle.parser_model.proofs.PieceSizes.{IsWithin, piece_within}
use Rattle.app_script.proofs.Turns.{lexed_nil, lexed_piece}

abbrev unread : ℕ → Text → Unread
unread place text = record { place = place; text = text }

pub takes : (text : Text) (token : Token) (len : ℕ) → piece text ≡ Ok (token, len) → (1 ≤ len) × (len ≤ length text)
takes text token len is = subst (IsWithin (length text)) is (piece_within text)

front_token : (place : ℕ) (text : Text) (token : Token) (len : ℕ) → BeginsPiece text → 0 < length text → piece text ≡ Ok (token, len) → lexed place text ≡ with_token place token (lexed (place + len) (drop len text))
front_token place [] token len begins long is = absurd (omega arith)
front_token place (b ∷ bs) token len begins long is = lexed_piece place b bs begins.0 begins.1 ∙ ap (after_piece lexed place (b ∷ bs)) is

front_fault : (place : ℕ) (text : Text) (kind : SyntaxFault) → BeginsPiece text → 0 < length text → piece text ≡ Err kind → lexed place text ≡ stops_at place kind
front_fault place [] kind begins long is = absurd (omega arith)
front_fault place (b ∷ bs) kind begins long is = lexed_piece place b bs begins.0 begins.1 ∙ ap (after_piece lexed place (b ∷ bs)) is

front_none : (place : ℕ) (text : Text) → length text ≤ 0 → lexed place text ≡ nothing_left
front_none place [] empty = lexed_nil place
front_none place (b ∷ bs) empty = absurd (omega arith)

-- what a test for emptiness tells
pub no_bytes : (text : Text) → true ≡ (length text == 0) → length text ≤ 0
no_bytes text h = grind (arith, nat_tests)

pub some_bytes : (text : Text) → false ≡ (length text == 0) → 0 < length text
some_bytes text h = grind (arith, nat_tests)

-- ---- the same of what is left of a text

pub left_token : (place : ℕ) (text : Text) (token : Token) (len : ℕ) (old new : Unread) → unread place text ≡ old → BeginsPiece old.text → 0 < length text → piece text ≡ Ok (token, len) → new ≡ record { place = old.place + len; text = drop len old.text } → (left old ≡ with_token place token (left new)) × (length new.text < length old.text)
left_token place text token len old new view begins long is next =
    let begins_there : BeginsPiece text = subst (λ u. BeginsPiece u.text) (sym view) begins in
    let now : new ≡ unread (place + len) (drop len text) = next ∙ ap (λ u. unread (u.place + len) (drop len u.text)) (sym view) in
    let some = takes text token len is in
    let short : length (drop len text) < length text = omega (arith, length-drop len text) in
    let shorter : length new.text < length text = subst (λ u. length u.text < length text) (sym now) short in (
      ap left (sym view) ∙ front_token place text token len begins_there long is ∙ ap (λ u. with_token place token (left u)) (sym now),
      subst (λ u. length new.text < length u.text) view shorter,
    )

pub left_fault : (place : ℕ) (text : Text) (kind : SyntaxFault) (old : Unread) → unread place text ≡ old → BeginsPiece old.text → 0 < length text → piece text ≡ Err kind → left old ≡ stops_at place kind
left_fault place text kind old view begins long is = ap left (sym view) ∙ front_fault place text kind (subst (λ u. BeginsPiece u.text) (sym view) begins) long is

pub left_none : (place : ℕ) (text : Text) (old : Unread) → unread place text ≡ old → length text ≤ 0 → left old ≡ nothing_left
left_none place text old view empty = ap left (sym view) ∙ front_none place text empty
