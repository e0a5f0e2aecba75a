-- Names, words and numbers in front of a text.
use Rattle.std.specs.Prelude.{◌&&◌, ◌||◌, not, nat_eq, nat_le, nat_lt, take, decimal, pos, ◌^◌, Option, ◌-◌, ◌*◌}
use Rattle.std.specs.List.{prefix_len, list_all, fold}
use Rattle.std.specs.Char.{is_ascii_digit}
use Rattle.std.specs.Str.{all_ascii_digits}
use Rattle.std.proofs.Common.{◌≡◌, ℕ, zero, suc, ◌+◌, ◌<◌, ◌≤◌, Bool, true, false, [], ◌∷◌, ◌++◌, length, get_or, refl, Some, None, ap, sym, subst, ◌∙◌, arith}
use Rattle.std.proofs.Math.Seq.{take-append_seam}
use Rattle.std.proofs.lemmas.Bool.Decides.{nat_tests}
use Rattle.std.proofs.lemmas.Fmt.{digits_decimal, digits_value-decimal, first_decimal, decimal_digit}
use Rattle.std.proofs.lemmas.Str.Parse.{IsNumeralModel, FoldsDigits, numerals_by_fold, tells_all_ascii_digits}
use Rattle.script_tree.specs.declared.token.Token.TheVariants as t
use Rattle.script_tree.specs.declared.token.Keyword.{Keyword}
use Rattle.script_tree.specs.declared.token.Keyword.TheVariants as w
use Rattle.script_tree.specs.BuiltIns.{lookup}
use Rattle.script_tree.specs.Lexing.{Text, is_blank, begins_name, is_in_name, max_name, keywords, named, name_piece, digits_value, is_number, number_piece}
use Rattle.script_tree.specs.Spelling.{Tokens}
use Rattle.print_parse_roundtrip.specs.Lexes.{Lexes, IsName, word_text, goes_on}
use Rattle.print_parse_roundtrip.proofs.Turns.{if_true, if_false, both, join, Begins, with_piece}

-- ---- where a run of bytes of names ends

run_length : (x rest : Text) → list_all is_in_name x ≡ true → goes_on rest ≡ false → prefix_len is_in_name (x ++ rest) ≡ length x
run_length [] [] all ends = refl
run_length [] (b ∷ bs) all ends = if_false _ _ ends
run_length (b ∷ bs) rest all ends =
    let parts = both (is_in_name b) (list_all is_in_name bs) all in
    if_true _ _ parts.0 ∙ ap (λ n. 1 + n) (run_length bs rest parts.1 ends) ∙ omega arith

run_is : (x rest : Text) → list_all is_in_name x ≡ true → goes_on rest ≡ false → take (prefix_len is_in_name (x ++ rest)) (x ++ rest) ≡ x
run_is x rest all ends = ap (λ n. take n (x ++ rest)) (run_length x rest all ends) ∙ take-append_seam x rest

-- ---- names and words

name_byte : (b : ℕ) → begins_name b ≡ true → (is_in_name b ≡ true) × (is_blank b ≡ false) × (nat_eq b 35 ≡ false)
name_byte b h = (grind (arith, nat_tests), grind (arith, nat_tests), grind (arith, nat_tests))

abbrev is_run : Text → Bool
is_run [] = false
is_run (b ∷ bs) = begins_name b && (list_all is_in_name bs && nat_le (length (b ∷ bs)) max_name)

run_begins : (b : ℕ) (bs rest : Text) → is_run (b ∷ bs) ≡ true → goes_on rest ≡ false → Begins b bs rest (named (lookup keywords (b ∷ bs)) (b ∷ bs))
run_begins b bs rest run ends =
    let parts = both (begins_name b) (list_all is_in_name bs && nat_le (length (b ∷ bs)) max_name) run in
    let others = both (list_all is_in_name bs) (nat_le (length (b ∷ bs)) max_name) parts.1 in
    let byte = name_byte b parts.0 in
    let all : list_all is_in_name (b ∷ bs) ≡ true = join (is_in_name b) (list_all is_in_name bs) byte.0 others.0 in
    record {
      no_blank = byte.1;
      no_comment = byte.2;
      is = if_true _ _ parts.0 ∙ ap name_piece (run_is (b ∷ bs) rest all ends) ∙ if_true _ _ others.1;
    }

with_run : (x rest : Text) (ts : Tokens) → is_run x ≡ true → goes_on rest ≡ false → Lexes rest ts → Lexes (x ++ rest) (named (lookup keywords x) x ∷ ts)
with_run [] rest ts run ends more = absurd (cc)
with_run (b ∷ bs) rest ts run ends more = with_piece b bs rest (named (lookup keywords (b ∷ bs)) (b ∷ bs)) ts (run_begins b bs rest run ends) more

with_found : (x rest : Text) (ts : Tokens) (found : Option Keyword) → lookup keywords x ≡ found → is_run x ≡ true → goes_on rest ≡ false → Lexes rest ts → Lexes (x ++ rest) (named found x ∷ ts)
with_found x rest ts found is run ends more = subst (λ o. Lexes (x ++ rest) (named o x ∷ ts)) is (with_run x rest ts run ends more)

name_run : (x : Text) (first : ℕ) (others : Text) → x ≡ first ∷ others → begins_name first ≡ true → list_all is_in_name others ≡ true → length x ≤ max_name → is_run x ≡ true
name_run x first others is begins rest short =
    let few : nat_le (length x) max_name ≡ true = grind (arith, nat_tests) in
    let same : nat_le (length (first ∷ others)) max_name ≡ true = subst (λ y. nat_le (length y) max_name ≡ true) is few in
    subst (λ y. is_run y ≡ true) (sym is) (join (begins_name first) (list_all is_in_name others && nat_le (length (first ∷ others)) max_name) begins (join (list_all is_in_name others) (nat_le (length (first ∷ others)) max_name) rest same))

pub with_any_name : (x rest : Text) (ts : Tokens) → IsName x → goes_on rest ≡ false → Lexes rest ts → Lexes (x ++ rest) (t.Name x ∷ ts)
with_any_name x rest ts name ends more = with_found x rest ts None name.free (name_run x name.first name.others name.is name.begins name.rest name.short) ends more

word_run : (k : Keyword) → is_run (word_text k) ≡ true
word_run w.App = refl
word_run w.Cached = refl
word_run w.Join = refl
word_run w.Main = refl
word_run w.Outputs = refl
word_run w.Let = refl
word_run w.While = refl
word_run w.For = refl
word_run w.In = refl
word_run w.If = refl
word_run w.Else = refl
word_run w.Return = refl
word_run w.Raise = refl
word_run w.Write = refl
word_run w.Print = refl
word_run w.Checkpoint = refl
word_run w.Call = refl
word_run w.To = refl
word_run w.And = refl
word_run w.Or = refl
word_run w.Not = refl
word_run w.Nothing = refl

word_found : (k : Keyword) → lookup keywords (word_text k) ≡ Some k
word_found w.App = refl
word_found w.Cached = refl
word_found w.Join = refl
word_found w.Main = refl
word_found w.Outputs = refl
word_found w.Let = refl
word_found w.While = refl
word_found w.For = refl
word_found w.In = refl
word_found w.If = refl
word_found w.Else = refl
word_found w.Return = refl
word_found w.Raise = refl
word_found w.Write = refl
word_found w.Print = refl
word_found w.Checkpoint = refl
word_found w.Call = refl
word_found w.To = refl
word_found w.And = refl
word_found w.Or = refl
word_found w.Not = refl
word_found w.Nothing = refl

pub with_any_word : (k : Keyword) (rest : Text) (ts : Tokens) → goes_on rest ≡ false → Lexes rest ts → Lexes (word_text k ++ rest) (t.Keyword k ∷ ts)
with_any_word k rest ts ends more = with_found (word_text k) rest ts (Some k) (word_found k) (word_run k) ends more

-- ---- numbers

digit_byte : (b : ℕ) → is_ascii_digit b ≡ true → (begins_name b ≡ false) × (is_in_name b ≡ true) × (is_blank b ≡ false) × (nat_eq b 35 ≡ false)
digit_byte b h = (grind (arith, nat_tests), grind (arith, nat_tests), grind (arith, nat_tests), grind (arith, nat_tests))

digits_in_name : (ds : Text) → list_all is_ascii_digit ds ≡ true → list_all is_in_name ds ≡ true
digits_in_name [] all = refl
digits_in_name (d ∷ ds) all =
    let parts = both (is_ascii_digit d) (list_all is_ascii_digit ds) all in
    join (is_in_name d) (list_all is_in_name ds) (digit_byte d parts.0).1 (digits_in_name ds parts.1)

number_begins : (d : ℕ) (ds rest : Text) → list_all is_ascii_digit (d ∷ ds) ≡ true → is_number (d ∷ ds) ≡ true → goes_on rest ≡ false → Begins d ds rest (t.Number (pos (digits_value (d ∷ ds))))
number_begins d ds rest all number ends =
    let digit = (both (is_ascii_digit d) (list_all is_ascii_digit ds) all).0 in
    let byte = digit_byte d digit in
    record {
      no_blank = byte.2;
      no_comment = byte.3;
      is = if_false _ _ byte.0 ∙ if_true _ _ digit ∙ ap number_piece (run_is (d ∷ ds) rest (digits_in_name (d ∷ ds) all) ends) ∙ if_true _ _ number;
    }

-- one digit, or a first digit that isn't 0
abbrev IsNoZero : Text → Type 0
IsNoZero [] = ⊥
IsNoZero (d ∷ ds) = (nat_eq (length (d ∷ ds)) 1 || not (nat_eq d 48)) ≡ true

number_test : (d : ℕ) (ds : Text) → list_all is_ascii_digit (d ∷ ds) ≡ true → IsNoZero (d ∷ ds) → digits_value (d ∷ ds) < 2 ^ 63 → is_number (d ∷ ds) ≡ true
number_test d ds all first small =
    let less : nat_lt (digits_value (d ∷ ds)) (2 ^ 63) ≡ true = grind (arith, nat_tests) in
    let first_is = nat_eq (length (d ∷ ds)) 1 || not (nat_eq d 48) in
    join (list_all is_ascii_digit (d ∷ ds) && first_is) (nat_lt (digits_value (d ∷ ds)) (2 ^ 63)) (join (list_all is_ascii_digit (d ∷ ds)) first_is all first) less

with_digits : (x rest : Text) (ts : Tokens) → list_all is_ascii_digit x ≡ true → IsNoZero x → digits_value x < 2 ^ 63 → goes_on rest ≡ false → Lexes rest ts → Lexes (x ++ rest) (t.Number (pos (digits_value x)) ∷ ts)
with_digits [] rest ts all first small ends more = absurd first
with_digits (d ∷ ds) rest ts all first small ends more =
    with_piece d ds rest (t.Number (pos (digits_value (d ∷ ds)))) ts (number_begins d ds rest all (number_test d ds all first small) ends) more

abbrev read_on : ℕ → Text → ℕ
read_on = fold (λ n d. 10 * n + (d - 48))

folds_on : FoldsDigits read_on
folds_on = record { empty = λ n. refl; more = λ n c cs digit. ap (λ m. read_on m cs) (omega arith) }

own : IsNumeralModel (λ ds. all_ascii_digits ds ≡ true) digits_value
own = numerals_by_fold _ tells_all_ascii_digits read_on folds_on

all_listed : (ds : Text) → all_ascii_digits ds ≡ true → list_all is_ascii_digit ds ≡ true
all_listed [] all = refl
all_listed (d ∷ ds) all =
    let parts = both (is_ascii_digit d) (all_ascii_digits ds) all in
    join (is_ascii_digit d) (list_all is_ascii_digit ds) parts.0 (all_listed ds parts.1)

high_first : (x : Text) → 48 < get_or x 0 0 → IsNoZero x
high_first [] h = omega arith
high_first (d ∷ ds) h = grind (arith, nat_tests)

no_zero : (n : ℕ) → n < 2 ^ 63 → IsNoZero (decimal n)
no_zero zero small = subst IsNoZero (sym (decimal_digit 0 (omega arith))) refl
no_zero (suc n) small = high_first (decimal (suc n)) (first_decimal (suc n) (omega arith) (omega arith))

pub with_any_number : (n : ℕ) (rest : Text) (ts : Tokens) → n < 2 ^ 63 → goes_on rest ≡ false → Lexes rest ts → Lexes (decimal n ++ rest) (t.Number (pos n) ∷ ts)
with_any_number n rest ts small ends more =
    let wide : n < 2 ^ 64 = omega arith in
    let value : digits_value (decimal n) ≡ n = digits_value-decimal own n wide in
    let below : digits_value (decimal n) < 2 ^ 63 = subst (λ m. m < 2 ^ 63) (sym value) small in
    subst (λ m. Lexes (decimal n ++ rest) (t.Number (pos m) ∷ ts)) value
    (with_digits (decimal n) rest ts (all_listed (decimal n) (digits_decimal own n wide)) (no_zero n small) below ends more)
