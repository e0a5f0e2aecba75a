use Rattle.std.proofs.Common.{◌≡◌, ◌+◌, ◌∷◌, drop, flat_map}
use Rattle.script_tree.specs.Marks.{Other, listed, parameters_from}
use Rattle.app_check.specs.Seeing.{seen}
use Rattle.app_check.proofs.definition.see_names.Given as goal

abbrev pub invariant-loop-before : goal.invariant-loop-before
invariant-loop-before l = seen l.checker (flat_map (λ f. Other ∷ f) (parameters_from (l.before + 1) (drop l.before l.rest))) ≡ seen l.fn.checker (listed (parameters_from 0 l.fn.names))
