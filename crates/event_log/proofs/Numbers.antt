-- Numbers of a log and their text.
use Rattle.std.specs.Prelude.{◌&&◌, if◌then◌else◌, nat_lt, decimal, ◌^◌, ◌-◌, ◌*◌}
use Rattle.std.specs.List.{list_all, fold}
use Rattle.std.specs.Char.{is_ascii_digit}
use Rattle.std.specs.Str.{all_ascii_digits}
use Rattle.std.proofs.Common.{◌≡◌, ℕ, zero, suc, ◌+◌, ◌<◌, Bool, true, false, List, [], ◌∷◌, length, get_or, Option, Some, None, refl, ap, sym, subst, ◌∙◌, arith}
use Rattle.std.proofs.lemmas.Bool.{ltb-true}
use Rattle.std.proofs.lemmas.Bool.Decides.{nat_tests}
use Rattle.std.proofs.lemmas.Option.{cond_some}
use Rattle.std.proofs.lemmas.Fmt.{digits_decimal, digits_value-decimal, decimal-digits_value, first_decimal, decimal_digit}
use Rattle.std.proofs.lemmas.Str.Parse.{IsNumeralModel, FoldsDigits, numerals_by_fold, tells_all_ascii_digits}
use Rattle.script_tree.specs.Lexing.{digits_value}
use Rattle.event_log.specs.Logs.{IsShort}
use Rattle.event_log.specs.Reading.{is_in_word, value_below, has_no_zero, long_of, below, number_of}
use Rattle.event_log.proofs.Branches.{if_true, parts_of, join}
use Rattle.event_log.proofs.Readers.{IsWord}

abbrev read_on : ℕ → List ℕ → ℕ
read_on = fold (λ n d. 10 * n + (d - 48))

folds_on : FoldsDigits read_on
folds_on = record { empty = λ n. refl; more = λ n c cs digit. ap (λ m. read_on m cs) (omega arith) }

own : IsNumeralModel (λ ds. all_ascii_digits ds ≡ true) digits_value
own = numerals_by_fold _ tells_all_ascii_digits read_on folds_on

all_listed : (ds : List ℕ) → all_ascii_digits ds ≡ true → list_all is_ascii_digit ds ≡ true
all_listed [] all = refl
all_listed (d ∷ ds) all =
    let parts = parts_of (is_ascii_digit d) (all_ascii_digits ds) all in
    join (is_ascii_digit d) (list_all is_ascii_digit ds) parts.0 (all_listed ds parts.1)

all_told : (ds : List ℕ) → list_all is_ascii_digit ds ≡ true → all_ascii_digits ds ≡ true
all_told [] all = refl
all_told (d ∷ ds) all =
    let parts = parts_of (is_ascii_digit d) (list_all is_ascii_digit ds) all in
    join (is_ascii_digit d) (all_ascii_digits ds) parts.0 (all_told ds parts.1)

digit_in_word : (b : ℕ) → is_ascii_digit b ≡ true → is_in_word b ≡ true
digit_in_word b h = grind (arith, nat_tests)

digits_in_word : (ds : List ℕ) → list_all is_ascii_digit ds ≡ true → list_all is_in_word ds ≡ true
digits_in_word [] all = refl
digits_in_word (d ∷ ds) all =
    let parts = parts_of (is_ascii_digit d) (list_all is_ascii_digit ds) all in
    join (is_in_word d) (list_all is_in_word ds) (digit_in_word d parts.0) (digits_in_word ds parts.1)

-- ---- no zero in front

no_zero_length : (w : List ℕ) → has_no_zero w ≡ true → 0 < length w
no_zero_length [] h = absurd (cc)
no_zero_length (d ∷ ds) h = omega arith

no_zero_one : (w : List ℕ) → has_no_zero w ≡ true → get_or w 0 0 ≡ 48 → length w ≡ 1
no_zero_one [] h e = absurd (cc)
no_zero_one (d ∷ []) h e = refl
no_zero_one (d ∷ f ∷ ds) h e = absurd (grind (arith, nat_tests))

high_first : (w : List ℕ) → 48 < get_or w 0 0 → has_no_zero w ≡ true
high_first [] h = absurd (omega arith)
high_first (d ∷ []) h = refl
high_first (d ∷ f ∷ ds) h = grind (arith, nat_tests)

no_zero : (n : ℕ) → n < 2 ^ 64 → has_no_zero (decimal n) ≡ true
no_zero zero small = subst (λ w. has_no_zero w ≡ true) (sym (decimal_digit 0 (omega arith))) refl
no_zero (suc n) small = high_first (decimal (suc n)) (first_decimal (suc n) (omega arith) small)

-- ---- numbers up to 2^64

abbrev IsLong : ℕ → Type 0
IsLong n = n < 2 ^ 64

digits_decimal_are : (n : ℕ) → IsLong n → list_all is_ascii_digit (decimal n) ≡ true
digits_decimal_are n small = all_listed (decimal n) (digits_decimal own n small)

long_takes : (w : List ℕ) (n : ℕ) → long_of w ≡ Some n → IsLong n × (w ≡ decimal n)
long_takes w n e =
    let first = by_test (has_no_zero w) (value_below (2 ^ 64) w) e in
    let parts = cond_some (list_all is_ascii_digit w && nat_lt (digits_value w) (2 ^ 64)) (digits_value w) n first.1 in
    let tests = parts_of (list_all is_ascii_digit w) (nat_lt (digits_value w) (2 ^ 64)) parts.0 in
    let small : digits_value w < 2 ^ 64 = ltb-true _ _ tests.1 in
    let text : decimal (digits_value w) ≡ w = decimal-digits_value own w (all_told w tests.0) (no_zero_length w first.0) (no_zero_one w first.0) small in
    subst (λ m. IsLong m × (w ≡ decimal m)) parts.1 (small, sym text)
  where
    by_test : (t : Bool) (o : Option ℕ) → (if t then o else None) ≡ Some n → (t ≡ true) × (o ≡ Some n)
    by_test true o h = (refl, h)
    by_test false o h = absurd (cc)

long_again : (n : ℕ) → IsLong n → long_of (decimal n) ≡ Some n
long_again n small =
    let value : digits_value (decimal n) ≡ n = digits_value-decimal own n small in
    let fits : digits_value (decimal n) < 2 ^ 64 = subst (λ m. m < 2 ^ 64) (sym value) small in
    let less : nat_lt (digits_value (decimal n)) (2 ^ 64) ≡ true = grind (arith, nat_tests) in
    if_true _ _ (no_zero n small) ∙ if_true _ _ (join _ _ (digits_decimal_are n small) less) ∙ ap (λ m. Some m) value

pub word_of_long : IsWord long_of decimal IsLong
word_of_long = record { takes = long_takes; again = long_again; plain = λ n small. digits_in_word (decimal n) (digits_decimal_are n small) }

-- ---- numbers up to 2^32

below_some : (limit : ℕ) (o : Option ℕ) (n : ℕ) → below limit o ≡ Some n → (n < limit) × (o ≡ Some n)
below_some limit (Some m) n e =
    let parts = cond_some (nat_lt m limit) m n e in
    let small : m < limit = ltb-true _ _ parts.0 in
    (subst (λ k. k < limit) parts.1 small, ap (λ k. Some k) parts.1)
below_some limit None n e = absurd (cc)

number_takes : (w : List ℕ) (n : ℕ) → number_of w ≡ Some n → IsShort n × (w ≡ decimal n)
number_takes w n e =
    let parts = below_some (2 ^ 32) (long_of w) n e in
    (parts.0, (long_takes w n parts.1).1)

pub number_again : (n : ℕ) → IsShort n → number_of (decimal n) ≡ Some n
number_again n small =
    let less : nat_lt n (2 ^ 32) ≡ true = grind (arith, nat_tests) in
    ap (below (2 ^ 32)) (long_again n (omega arith)) ∙ if_true _ _ less

pub short_digits : (n : ℕ) → IsShort n → list_all is_ascii_digit (decimal n) ≡ true
short_digits n small = digits_decimal_are n (omega arith)

pub word_of_number : IsWord number_of decimal IsShort
word_of_number = record { takes = number_takes; again = number_again; plain = λ n small. digits_in_word (decimal n) (short_digits n small) }
