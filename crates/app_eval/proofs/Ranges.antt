-- The Ints of a range.
use Rattle.std.proofs.Common.{◌≡◌, ℕ, zero, suc, ◌+◌, ◌<◌, ◌≤◌, max, true, false, ℤ, pos, ◌+ℤ◌, ◌-ℤ◌, ◌<ℤ◌, ◌≤ℤ◌, List, [], ◌∷◌, ◌++◌, map, sum, fold, refl, sym, ap, ◌∙◌, negsuc, append_assoc, arith}
use Rattle.std.proofs.lemmas.Int.{ints}
use Rattle.std.proofs.lemmas.Bool.Decides.{nat_tests}
use Rattle.std.specs.Prelude.{unsigned_abs, nat_le, ◌&&◌}
use Rattle.flow_base.specs.declared.value.Value.{Value, fold-roll-Value}
use Rattle.flow_base.specs.declared.value.Value.TheVariants as v
use Rattle.flow_base.specs.declared.value.Value.TheVariants.{rolls-Int}
use Rattle.flow_base.specs.declared.outcome.Exception.TheVariants as x
use Rattle.flow_base.specs.Values.{units, levels, fits, max_units, max_levels}
use Rattle.flow_meaning.specs.Act.{Give, Throw}
use Rattle.flow_meaning.specs.Operators.{limited, ints_from, count_between}
use Rattle.app_eval.specs.Gives.{IsGiven}
use Rattle.app_eval.proofs.Fitting.{given_limited, is_given, past_limits}
use Rattle.app_eval.proofs.Measures.{levels-List}
use Rattle.app_eval.proofs.Sizes.{units-Int, units-List}

units_from : (m : ℕ) (a : ℤ) (n : ℕ) → fold ◌+◌ m (map units (ints_from a n)) ≡ m + n
units_from m a zero = omega arith
units_from m a (suc n) = units_from (m + units (v.Int a)) (a +ℤ pos 1) n ∙ omega (arith, units-Int a)

units_of_ints : (a : ℤ) (n : ℕ) → sum (map units (ints_from a n)) ≡ n
units_of_ints a n = units_from 0 a n ∙ omega arith

levels-Int : (n : ℤ) → levels (v.Int n) ≡ 1
unfolding levels
levels-Int n = rw (← rolls-Int n, fold-roll-Value) refl

greatest_from : (m : ℕ) (a : ℤ) (n : ℕ) → m ≤ 1 → fold max m (map levels (ints_from a n)) ≤ 1
greatest_from m a zero h = h
greatest_from m a (suc n) h = greatest_from (max m (levels (v.Int a))) (a +ℤ pos 1) n (omega (arith, levels-Int a))

fits_test : (u l : ℕ) (n : ℕ) → u ≡ 1 + n → l ≤ 2 → (nat_le u max_units && nat_le l max_levels) ≡ nat_le (1 + n) max_units
fits_test u l n h k = grind (arith, nat_tests)

fits_ints : (a : ℤ) (n : ℕ) → fits (v.List (ints_from a n)) ≡ nat_le (1 + n) max_units
fits_ints a n = fits_test (units (v.List (ints_from a n))) (levels (v.List (ints_from a n))) n (omega (arith, units-List (ints_from a n), units_of_ints a n)) (omega (arith, levels-List (ints_from a n), greatest_from 0 a n (omega arith)))

pub ints_past : (a : ℤ) (n : ℕ) → nat_le (1 + n) max_units ≡ false → limited (v.List (ints_from a n)) ≡ Throw x.SizeError
ints_past a n h = past_limits (v.List (ints_from a n)) (fits_ints a n ∙ h)

pub ints_given : (a : ℤ) (n : ℕ) → nat_le (1 + n) max_units ≡ true → IsGiven (limited (v.List (ints_from a n)))
ints_given a n h = is_given (v.List (ints_from a n)) (fits_ints a n ∙ h)

pub ints_within : (a : ℤ) (n : ℕ) → nat_le (1 + n) max_units ≡ true → limited (v.List (ints_from a n)) ≡ Give (v.List (ints_from a n))
ints_within a n h = given_limited (v.List (ints_from a n)) (ints_given a n h)

pub ruleset limit_rules = (ints_past, ints_given, ints_within)

count_none : (d : ℤ) → d ≤ℤ pos 0 → 0 ≡ count_between d
count_none (pos zero) h = refl
count_none (pos (suc n)) h = absurd (omega (arith, ints))
count_none (negsuc n) h = refl

count_some : (d : ℤ) → pos 0 <ℤ d → unsigned_abs d ≡ count_between d
count_some (pos n) h = refl
count_some (negsuc n) h = absurd (omega (arith, ints))

count_next : (d : ℤ) → pos 0 <ℤ d → count_between d ≡ suc (count_between (d -ℤ pos 1))
count_next (pos zero) h = absurd (omega (arith, ints))
count_next (pos (suc n)) h = let e : pos (suc n) -ℤ pos 1 ≡ pos n = omega (arith, ints) in rw e refl
count_next (negsuc n) h = absurd (omega (arith, ints))

pub none_between : (from to : ℤ) → to ≤ℤ from → 0 ≡ count_between (to -ℤ from)
none_between from to h = count_none (to -ℤ from) (omega (arith, ints))

pub some_between : (from to : ℤ) → from <ℤ to → unsigned_abs (to -ℤ from) ≡ count_between (to -ℤ from)
some_between from to h = count_some (to -ℤ from) (omega (arith, ints))

pub ints_end : (n to : ℤ) → to ≤ℤ n → ints_from n (count_between (to -ℤ n)) ≡ []
ints_end n to h = ap (ints_from n) (sym (none_between n to h))

pub ints_step : (items : List Value) (n to : ℤ) → n <ℤ to → (items ++ v.Int n ∷ []) ++ ints_from (n +ℤ pos 1) (count_between (to -ℤ (n +ℤ pos 1))) ≡ items ++ ints_from n (count_between (to -ℤ n))
ints_step items n to h =
    let e : to -ℤ (n +ℤ pos 1) ≡ (to -ℤ n) -ℤ pos 1 = omega (arith, ints) in
    let k : count_between (to -ℤ n) ≡ suc (count_between (to -ℤ (n +ℤ pos 1))) = rw e (count_next (to -ℤ n) (omega (arith, ints))) in
    rw k (append_assoc items (v.Int n ∷ []) (ints_from (n +ℤ pos 1) (count_between (to -ℤ (n +ℤ pos 1)))))

-- the same with the next Int as a loop has it
pub ints_preserved : (items more all : List Value) (n next to : ℤ) → more ≡ items ++ v.Int n ∷ [] → next ≡ n +ℤ pos 1 → n <ℤ to → items ++ ints_from n (count_between (to -ℤ n)) ≡ all → more ++ ints_from next (count_between (to -ℤ next)) ≡ all
ints_preserved items more all n next to pushed is h same = rw (pushed, is) (ints_step items n to h ∙ same)

pub ruleset count_rules = (none_between, some_between)

pub ruleset ints_rules = (ints_end, ints_step)
