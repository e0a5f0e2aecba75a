-- A piece takes a byte at least, and no more than there are.
use Rattle.std.proofs.Common.{◌≡◌, ℕ, suc, ◌+◌, ◌<◌, ◌≤◌, Bool, true, false, if◌then◌else◌, ◌&&◌, nat_eq, nat_le, nat_lt, List, [], ◌∷◌, length, take, Option, Some, None, Ok, Err, pos, refl, arith}
use Rattle.std.proofs.lemmas.Bool.Decides.{nat_tests}
use Rattle.std.proofs.lemmas.Bool.{false≢true}
use Rattle.std.proofs.lemmas.List.Folds.{length-prefix_len}
use Rattle.std.proofs.lemmas.List.Sums.{prefix_len-le-length}
use Rattle.std.specs.Char.{is_ascii_digit}
use Rattle.std.specs.List.{prefix_len, list_all}
use Rattle.script_tree.specs.BuiltIns.{lookup}
use Rattle.script_tree.specs.declared.token.Token.TheVariants as t
use Rattle.script_tree.specs.declared.token.Symbol.{Symbol}
use Rattle.script_tree.specs.declared.fault.SyntaxFault.TheVariants.{WrongToken, WrongNumber}
use Rattle.script_tree.specs.Lexing.{Text, Piece, keywords, named, max_name, digits_value, begins_name, is_in_name, is_printable, is_number, name_piece, number_piece, text_end, text_escape, text_piece, with_byte, with_escape, escaped, begins_with, symbols, symbol_piece, piece}

abbrev pub IsWithin : ℕ → Piece → Type 0
IsWithin n (Ok p) = (1 ≤ p.1) × (p.1 ≤ n)
IsWithin n (Err kind) = Unit {0}

either : (n : ℕ) (t : Bool) (x y : Piece) → (t ≡ true → IsWithin n x) → (t ≡ false → IsWithin n y) → IsWithin n (if t then x else y)
either n true x y f g = f refl
either n false x y f g = g refl

-- ---- names and numbers

begins_run : (b : ℕ) (bs : Text) → is_in_name b ≡ true → 1 ≤ prefix_len is_in_name (b ∷ bs)
begins_run b bs h = rw h (omega arith)

run_within : (b : ℕ) (bs : Text) → is_in_name b ≡ true → (1 ≤ length (take (prefix_len is_in_name (b ∷ bs)) (b ∷ bs))) × (length (take (prefix_len is_in_name (b ∷ bs)) (b ∷ bs)) ≤ length (b ∷ bs))
run_within b bs h =
    let size : length (take (prefix_len is_in_name (b ∷ bs)) (b ∷ bs)) ≡ prefix_len is_in_name (b ∷ bs) = length-prefix_len is_in_name (b ∷ bs) in
    let low = begins_run b bs h in
    let high = prefix_len-le-length is_in_name (b ∷ bs) in
    (omega arith, omega arith)

name_within : (n : ℕ) (run : Text) → (1 ≤ length run) × (length run ≤ n) → IsWithin n (name_piece run)
name_within n run h = either n (nat_le (length run) max_name) (Ok (named (lookup keywords run) run, length run)) (Err WrongToken) (λ _. h) (λ _. tt {0})

number_within : (n : ℕ) (run : Text) → (1 ≤ length run) × (length run ≤ n) → IsWithin n (number_piece run)
number_within n run h = either n (is_number run) (Ok (t.Number (pos (digits_value run)), length run)) (Err WrongNumber) (λ _. h) (λ _. tt {0})

name_byte : (b : ℕ) → begins_name b ≡ true → is_in_name b ≡ true
name_byte b h = grind (arith, nat_tests)

digit_byte : (b : ℕ) → is_ascii_digit b ≡ true → is_in_name b ≡ true
digit_byte b h = grind (arith, nat_tests)

-- ---- texts

abbrev IsEndWithin : ℕ → Option (Text × ℕ) → Type 0
IsEndWithin n (Some r) = r.1 ≤ n
IsEndWithin n None = Unit {0}

either_end : (n : ℕ) (t : Bool) (x y : Option (Text × ℕ)) → IsEndWithin n x → IsEndWithin n y → IsEndWithin n (if t then x else y)
either_end n true x y f g = f
either_end n false x y f g = g

with_byte_within : (n b k : ℕ) (end : Option (Text × ℕ)) → IsEndWithin n end → IsEndWithin (n + k) (with_byte b k end)
with_byte_within n b k (Some r) h = omega arith
with_byte_within n b k None h = tt

with_escape_within : (n : ℕ) (byte : Option ℕ) (end : Option (Text × ℕ)) → IsEndWithin n end → IsEndWithin (n + 2) (with_escape byte end)
with_escape_within n (Some b) end h = with_byte_within n b 2 end h
with_escape_within n None end h = tt

more : (n m : ℕ) (end : Option (Text × ℕ)) → n ≤ m → IsEndWithin n end → IsEndWithin m end
more n m (Some r) le h = omega arith
more n m None le h = tt

mutual
  end_within : (bs : Text) → IsEndWithin (length bs) (text_end bs)
  end_within [] = tt
  end_within (b ∷ bs) =
      either_end _ (nat_eq b 34) _ _ (omega arith)
      (either_end _ (nat_eq b 92) _ _ (more (length bs + 1) _ _ (omega arith) (escape_within bs))
      (either_end _ (is_printable b) _ _ (more (length bs + 1) _ _ (omega arith) (with_byte_within (length bs) b 1 (text_end bs) (end_within bs))) tt))

  escape_within : (bs : Text) → IsEndWithin (length bs + 1) (text_escape bs)
  escape_within [] = tt
  escape_within (b ∷ bs) = more (length bs + 2) _ _ (omega arith) (with_escape_within (length bs) (escaped b) (text_end bs) (end_within bs))

text_within : (n : ℕ) (end : Option (Text × ℕ)) → IsEndWithin n end → IsWithin (suc n) (text_piece end)
text_within n (Some r) h = (omega arith, omega arith)
text_within n None h = tt

-- ---- symbols

left_of : (x y : Bool) → (x && y) ≡ true → x ≡ true
left_of true y h = refl
left_of false y h = h

right_of : (x y : Bool) → (x && y) ≡ true → y ≡ true
right_of true y h = h
right_of false y h = absurd (false≢true h)

abbrev is_spelled : Text × Symbol → Bool
is_spelled e = nat_lt 0 (length e.0)

pub begins_with_fits : (bs cs : Text) → begins_with bs cs ≡ true → length bs ≤ length cs
begins_with_fits [] cs h = omega arith
begins_with_fits (b ∷ bs) [] h = absurd cc
begins_with_fits (b ∷ bs) (c ∷ cs) h =
    let fits : length bs ≤ length cs = begins_with_fits bs cs (right_of (nat_eq b c) (begins_with bs cs) h) in
    omega arith

spelled : (e : Text × Symbol) → is_spelled e ≡ true → 1 ≤ length e.0
spelled e h = grind (arith, nat_tests)

symbol_within : (es : List (Text × Symbol)) (text : Text) → list_all is_spelled es ≡ true → IsWithin (length text) (symbol_piece es text)
symbol_within [] text h = tt
symbol_within (e ∷ es) text h =
    either (length text) (begins_with e.0 text) (Ok (t.Symbol e.1, length e.0)) (symbol_piece es text)
    (λ front. (spelled e (left_of (is_spelled e) (list_all is_spelled es) h), begins_with_fits e.0 text front))
    (λ _. symbol_within es text (right_of (is_spelled e) (list_all is_spelled es) h))

-- ---- all pieces

pub piece_within : (text : Text) → IsWithin (length text) (piece text)
piece_within [] = tt
piece_within (b ∷ bs) =
    either _ (begins_name b) _ _ (λ h. name_within _ _ (run_within b bs (name_byte b h)))
    (λ _. either _ (is_ascii_digit b) _ _ (λ h. number_within _ _ (run_within b bs (digit_byte b h)))
    (λ _. either _ (nat_eq b 34) _ _ (λ _. text_within (length bs) (text_end bs) (end_within bs))
    (λ _. symbol_within symbols (b ∷ bs) refl)))
