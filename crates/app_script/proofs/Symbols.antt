-- Texts that begin with a symbol.
use Rattle.std.proofs.Common.{◌≡◌, ℕ, eqb, ◌&&◌, List, [], ◌∷◌, length, take, refl, ap}
use Rattle.std.specs.Cmp.Lexicographic.{pointwise}
use Rattle.script_tree.specs.Lexing.{begins_with}

pub begins_with_front : (bs cs : List ℕ) → pointwise eqb bs (take (length bs) cs) ≡ begins_with bs cs
begins_with_front [] cs = refl
begins_with_front (b ∷ bs) [] = refl
begins_with_front (b ∷ bs) (c ∷ cs) = ap (λ r. eqb b c && r) (begins_with_front bs cs)
