use Rattle.std.proofs.Common.{◌≡◌, [], ◌∷◌, map, take}
use Rattle.dependency_graph.proofs.tests.paths.Given as goal

abbrev pub invariant-loop-number : goal.invariant-loop-number
invariant-loop-number l = l.paths ≡ map (λ n. n ∷ []) (take l.number-index l.numbers)
