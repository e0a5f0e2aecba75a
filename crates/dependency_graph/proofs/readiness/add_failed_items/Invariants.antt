use Rattle.std.proofs.Common.{◌≡◌, drop}
use Rattle.std.specs.List.{flat_map}
use Rattle.flow_base.specs.declared.value.Value.{out-Value}
use Rattle.flow_meaning.specs.Inputs.{path_in}
use Rattle.flow_meaning.specs.Sequential.{failed_among}
use Rattle.dependency_graph.specs.Added.{added_all}
use Rattle.dependency_graph.proofs.readiness.add_failed_items.Given as goal

abbrev pub invariant-loop-item : goal.invariant-loop-item
invariant-loop-item g l =
    let ts = g.O.Outcomes.tasks l.outcomes in
    added_all l.failed (flat_map (λ v. failed_among ts (path_in (out-Value v))) (drop l.item-index l.items)) ≡ added_all l.fn.failed (failed_among ts (flat_map (λ v. path_in (out-Value v)) l.items))
