-- Lists of different lengths are not the same.
use Rattle.std.proofs.Common.{◌≡◌, false, List, [], ◌∷◌, length, map, refl, arith}
use Rattle.std.proofs.lemmas.Grind.{common_steps}
use Rattle.flow_base.specs.declared.value.Value.{Value}
use Rattle.flow_base.specs.Values.{all_match, same}

pub as_many : (items others : List Value) → (length items ≡ length others → ⊥) → false ≡ all_match (map same items) others
as_many [] [] differ = absurd (differ refl)
as_many [] (w ∷ ws) differ = refl
as_many (v ∷ vs) [] differ = refl
as_many (v ∷ vs) (w ∷ ws) differ = grind (arith, common_steps, as_many vs ws)
