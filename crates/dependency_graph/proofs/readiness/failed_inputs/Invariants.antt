use Rattle.std.proofs.Common.{◌≡◌, drop}
use Rattle.std.specs.List.{flat_map}
use Rattle.flow_base.specs.declared.value.Value.{out-Value}
use Rattle.flow_meaning.specs.Inputs.{inputs, paths_in}
use Rattle.flow_meaning.specs.Sequential.{failed_among}
use Rattle.dependency_graph.specs.Added.{added_all}
use Rattle.dependency_graph.proofs.readiness.failed_inputs.Given as goal

abbrev pub invariant-loop-argument : goal.invariant-loop-argument
invariant-loop-argument g l =
    let ts = g.O.Outcomes.tasks l.outcomes in
    added_all l.failed (flat_map (λ v. failed_among ts (paths_in (out-Value v))) (drop l.argument-index l.arguments)) ≡ failed_among ts (inputs l.arguments)
