-- An output that was not written.
use Rattle.std.proofs.Common.{◌≡◌, ℕ, zero, suc, ◌<◌, ◌+◌, List, [], ◌∷◌, ◌++◌, Option, Some, None, length, drop, get_or, slice_get, refl, arith}
use Rattle.std.proofs.lemmas.Grind.{common_steps}
use Rattle.flow_base.specs.declared.outcome.FileOut.{FileOut}
use Rattle.flow_base.specs.declared.outcome.Exception.TheVariants as x
use Rattle.flow_meaning.specs.Act.{Throw}
use Rattle.flow_meaning.specs.Operators.{Text}
use Rattle.flow_meaning.specs.Meaning.{files_from}

pub missing_end : (given : List FileOut) (names : List Text) (written : List (Option Text)) (i : ℕ) → i < length names → slice_get written i ≡ None → files_from given (drop i names) (drop i written) ≡ Throw x.MissingOutputs
missing_end given [] ws i p h = absurd (omega arith)
missing_end given (n ∷ ns) [] zero p h = refl
missing_end given (n ∷ ns) [] (suc i) p h = grind (arith, common_steps, missing_end given ns [] i)
missing_end given (n ∷ ns) (w ∷ ws) zero p h = grind (arith, common_steps)
missing_end given (n ∷ ns) (w ∷ ws) (suc i) p h = missing_end given ns ws i (omega arith) h

pub missing_slot : (given : List FileOut) (names : List Text) (written : List (Option Text)) (i : ℕ) → i < length names → slice_get written i ≡ Some None → files_from given (drop i names) (drop i written) ≡ Throw x.MissingOutputs
missing_slot given [] ws i p h = absurd (omega arith)
missing_slot given (n ∷ ns) [] i p h = grind (arith, common_steps)
missing_slot given (n ∷ ns) (w ∷ ws) zero p h = grind (arith, common_steps)
missing_slot given (n ∷ ns) (w ∷ ws) (suc i) p h = missing_slot given ns ws i (omega arith) h

file_next : (given : List FileOut) (names : List Text) (written : List (Option Text)) (i : ℕ) (n content : Text) → i < length names → n ≡ get_or names i n → slice_get written i ≡ Some (Some content) → files_from (given ++ record { name = n; content = content } ∷ []) (drop (suc i) names) (drop (suc i) written) ≡ files_from given (drop i names) (drop i written)
file_next given [] ws i n content p e h = absurd (omega arith)
file_next given (m ∷ ms) [] zero n content p e h = absurd (cc)
file_next given (m ∷ ms) [] (suc i) n content p e h = absurd (cc)
file_next given (m ∷ ms) (w ∷ ws) zero n content p e h = grind (arith, common_steps)
file_next given (m ∷ ms) (w ∷ ws) (suc i) n content p e h = file_next given ms ws i n content (omega arith) e h

pub files_step : (given : List FileOut) (names : List Text) (written : List (Option Text)) (i : ℕ) (n content : Text) → i < length names → n ≡ get_or names i n → slice_get written i ≡ Some (Some content) → files_from (given ++ record { name = n; content = content } ∷ []) (drop (i + 1) names) (drop (i + 1) written) ≡ files_from given (drop i names) (drop i written)
files_step given names written i n content p e h = let next : i + 1 ≡ suc i = omega arith in rw next (file_next given names written i n content p e h)

pub ruleset files_rules = (missing_end, missing_slot)
