-- The value of a run of digits grows from digit to digit.
use Rattle.std.proofs.Common.{◌≡◌, ℕ, Bool, true, false, ◌&&◌, if◌then◌else◌, nat_lt, Some, None, refl, ◌+◌, ◌-◌, ◌*◌, ◌<◌, ◌≤◌, List, [], ◌∷◌, length, get_or, take, drop, fold, ap, sym, ◌∙◌, arith}
use Rattle.std.proofs.lemmas.List.{take-append-drop, take_all}
use Rattle.std.proofs.lemmas.List.Sums.{fold-append, fold_more}
use Rattle.std.proofs.lemmas.Bool.Decides.{nat_tests}
use Rattle.std.specs.Char.{is_ascii_digit}
use Rattle.std.specs.List.{list_all}
use Rattle.event_log.specs.Reading.{value_below}
use Rattle.script_tree.specs.Lexing.{digits_value}

abbrev step : ℕ → ℕ → ℕ
step n d = 10 * n + (d - 48)

fold_grows : (n : ℕ) (ds : List ℕ) → n ≤ fold step n ds
fold_grows n [] = omega arith
fold_grows n (d ∷ ds) = omega (arith, fold_grows (step n d) ds)

value_grows : (run : List ℕ) (i : ℕ) → digits_value (take i run) ≤ digits_value run
value_grows run i =
    let e : digits_value run ≡ fold step (digits_value (take i run)) (drop i run) = ap (fold step 0) (sym (take-append-drop i run)) ∙ fold-append step 0 (take i run) (drop i run) in
    omega (arith, e, fold_grows (digits_value (take i run)) (drop i run))

pub value_past : (run : List ℕ) (i : ℕ) → i < length run → 10 * digits_value (take i run) + (get_or run i 0 - 48) ≤ digits_value run
value_past run i h = omega (arith, value_grows run (i + 1), fold_more step 0 run i 0 h)

none_of : (v : ℕ) {t : Bool} (b : Bool) → t ≡ false → (if b && t then Some v else None) ≡ None
none_of v true e = ap (λ x. if x then Some v else None) e
none_of v false e = refl

pub value_below_none : (limit : ℕ) (run : List ℕ) → limit ≤ digits_value run → value_below limit run ≡ None
value_below_none limit run h = let e : nat_lt (digits_value run) limit ≡ false = grind (arith, nat_tests) in none_of (digits_value run) (list_all is_ascii_digit run) e

value_below_some : (limit : ℕ) (run : List ℕ) → list_all is_ascii_digit run ≡ true → digits_value run < limit → Some (digits_value run) ≡ value_below limit run
value_below_some limit run digits h =
    let e : nat_lt (digits_value run) limit ≡ true = grind (arith, nat_tests) in
    sym (ap (λ b. if b && nat_lt (digits_value run) limit then Some (digits_value run) else None) digits ∙ ap (λ b. if b then Some (digits_value run) else None) e)

pub value_below_whole : (limit : ℕ) (run : List ℕ) (i v : ℕ) → length run ≤ i → list_all is_ascii_digit (take i run) ≡ true → v < limit → v ≡ digits_value (take i run) → Some v ≡ value_below limit run
value_below_whole limit run i v short digits less is =
    let e : take i run ≡ run = take_all i run short in
    let d : list_all is_ascii_digit run ≡ true = ap (list_all is_ascii_digit) (sym e) ∙ digits in
    let same : v ≡ digits_value run = is ∙ ap digits_value e in
    let below : digits_value run < limit = omega arith in
    ap (λ x. Some x) same ∙ value_below_some limit run d below
