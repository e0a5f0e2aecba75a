-- An Int by the number that its digits spell, where that number is kept within 64 bits.
use Rattle.std.proofs.Common.{◌≡◌, ℕ, zero, suc, ◌-◌, ◌^◌, ◌<◌, ◌≤◌, min, Option, Some, None, pos, ap, sym, ◌∙◌, arith}
use Rattle.std.proofs.lemmas.Int.{ints}
use Rattle.std.proofs.lemmas.Bool.Decides.{nat_tests}
use Rattle.std.specs.Prelude.{neg_ℤ}
use Rattle.flow_base.specs.declared.outcome.Exception.{Exception}
use Rattle.flow_base.specs.declared.outcome.Exception.TheVariants as x
use Rattle.flow_meaning.specs.Act.{Give, Throw}
use Rattle.flow_meaning.specs.Operators.{int, negative, positive, the_number}
use Rattle.app_eval.specs.Numbers.{capped}

small : (n : ℕ) → n ≤ 2 ^ 63 → min n (2 ^ 64 - 1) ≡ n
small n h = omega arith

pub overflow_positive : (n : ℕ) → 2 ^ 63 ≤ n → int (pos n) ≡ Throw x.OverflowError
overflow_positive n h = grind (arith, ints, nat_tests)

pub overflow_negative : (n : ℕ) → 2 ^ 63 < n → int (neg_ℤ (pos n)) ≡ Throw x.OverflowError
overflow_negative zero h = absurd (omega arith)
overflow_negative (suc n) h = grind (arith, ints, nat_tests)

capped_positive : (n : ℕ) → int (pos (min n (2 ^ 64 - 1))) ≡ int (pos n)
capped_positive n = grind (arith, small, overflow_positive)

capped_negative : (n : ℕ) → int (neg_ℤ (pos (min n (2 ^ 64 - 1)))) ≡ int (neg_ℤ (pos n))
capped_negative n = grind (arith, small, overflow_negative)

pub positive_number : (o : Option ℕ) (m : ℕ) → capped o ≡ Give m → the_number (positive o) ≡ int (pos m)
positive_number None m e = absurd (cc)
positive_number (Some n) m e = let k : min n (2 ^ 64 - 1) ≡ m = cc in sym (capped_positive n) ∙ ap (λ k. int (pos k)) k

pub negative_number : (o : Option ℕ) (m : ℕ) → capped o ≡ Give m → the_number (negative o) ≡ int (neg_ℤ (pos m))
negative_number None m e = absurd (cc)
negative_number (Some n) m e = let k : min n (2 ^ 64 - 1) ≡ m = cc in sym (capped_negative n) ∙ ap (λ k. int (neg_ℤ (pos k))) k

pub positive_none : (o : Option ℕ) (exception : Exception) → capped o ≡ Throw exception → the_number (positive o) ≡ Throw exception
positive_none None exception e = cc
positive_none (Some n) exception e = absurd (cc)

pub negative_none : (o : Option ℕ) (exception : Exception) → capped o ≡ Throw exception → the_number (negative o) ≡ Throw exception
negative_none None exception e = cc
negative_none (Some n) exception e = absurd (cc)

pub ruleset int_rules = (overflow_positive, overflow_negative)

pub ruleset number_rules = (positive_number, negative_number, positive_none, negative_none)
