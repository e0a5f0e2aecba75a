-- A body before its first statement.
use Rattle.std.proofs.Common.{◌≡◌, ℕ, zero, suc, ◌+◌, ◌<◌, ◌≤◌, min, List, [], ◌∷◌, ◌++◌, Some, None, length, take, get_or, slice_set, refl, ap, arith}
use Rattle.std.proofs.lemmas.Grind.{common_steps}
use Rattle.flow_base.specs.declared.value.Value.{Value}
use Rattle.flow_meaning.specs.Operators.{Text}
use Rattle.body_program.specs.declared.code.Step.{Step}
use Rattle.body_program.specs.Meaning.{Store, Slots, steps_do, none_set, with_arguments}
use Rattle.app_eval.specs.Does.{steps_at}

pub begins_at : (names : List Text) (steps : List Step) (s : Store) → steps_at names steps 0 None s ≡ steps_do names steps s
begins_at names [] s = refl
begins_at names (step ∷ steps) s = refl

none_next : (n : ℕ) → none_set n ++ None ∷ [] ≡ none_set (suc n)
none_next zero = refl
none_next (suc n) = ap (λ (slots : Slots). None ∷ slots) (none_next n)

-- one slot more
pub none_more : (n : ℕ) → none_set n ++ None ∷ [] ≡ none_set (n + 1)
none_more n = let next : n + 1 ≡ suc n = omega arith in rw next (none_next n)

-- Parameters beyond the arguments, and arguments beyond the parameters, set nothing.
pub with_all : (parameters : List ℕ) (arguments : List Value) (n : ℕ) (slots : Slots) → n ≡ min (length parameters) (length arguments) → with_arguments (take n parameters) (take n arguments) slots ≡ with_arguments parameters arguments slots
with_all [] arguments zero slots h = refl
with_all [] arguments (suc n) slots h = refl
with_all (k ∷ ks) [] zero slots h = refl
with_all (k ∷ ks) [] (suc n) slots h = refl
with_all (k ∷ ks) (value ∷ values) zero slots h = absurd (omega arith)
with_all (k ∷ ks) (value ∷ values) (suc n) slots h = ap (λ (set : Slots). slice_set set k (Some value)) (with_all ks values n slots (omega arith))

with_last : (parameters : List ℕ) (arguments : List Value) (n k : ℕ) (value : Value) (slots : Slots) → n < length parameters → n < length arguments → k ≡ get_or parameters n 0 → value ≡ get_or arguments n value → with_arguments (take n parameters) (take n arguments) (slice_set slots k (Some value)) ≡ with_arguments (take (suc n) parameters) (take (suc n) arguments) slots
with_last [] arguments n k value slots p q h g = absurd (omega arith)
with_last (first ∷ ks) [] n k value slots p q h g = absurd (omega arith)
with_last (first ∷ ks) (one ∷ values) zero k value slots p q h g = grind (arith, common_steps)
with_last (first ∷ ks) (one ∷ values) (suc n) k value slots p q h g = ap (λ (set : Slots). slice_set set first (Some one)) (with_last ks values n k value slots (omega arith) (omega arith) h g)

-- the last of so many parameters is set before the others
pub with_less : (parameters : List ℕ) (arguments : List Value) (m n k : ℕ) (value : Value) (slots : Slots) → m ≡ suc n → m ≤ length parameters → m ≤ length arguments → k ≡ get_or parameters n 0 → value ≡ get_or arguments n value → with_arguments (take n parameters) (take n arguments) (slice_set slots k (Some value)) ≡ with_arguments (take m parameters) (take m arguments) slots
with_less parameters arguments m n k value slots e p q h g = rw e (with_last parameters arguments n k value slots (omega arith) (omega arith) h g)
