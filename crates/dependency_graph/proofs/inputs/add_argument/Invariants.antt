use Rattle.std.proofs.Common.{◌≡◌, drop}
use Rattle.std.specs.List.{flat_map}
use Rattle.flow_base.specs.declared.value.Value.{out-Value}
use Rattle.flow_meaning.specs.Inputs.{path_in}
use Rattle.dependency_graph.specs.Added.{added_all}
use Rattle.dependency_graph.proofs.inputs.add_argument.Given as goal

abbrev pub invariant-loop-item : goal.invariant-loop-item
invariant-loop-item l = added_all l.paths (flat_map (λ v. path_in (out-Value v)) (drop l.item-index l.item-items)) ≡ added_all l.fn.paths (flat_map (λ v. path_in (out-Value v)) l.item-items)
