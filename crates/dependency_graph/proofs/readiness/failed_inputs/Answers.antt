use Rattle.std.proofs.Common.{List, ap, ◌∙◌}
use Rattle.std.specs.List.{flat_map}
use Rattle.flow_base.specs.declared.value.Value.{out-Value}
use Rattle.flow_meaning.specs.Inputs.{Path, inputs, paths_in}
use Rattle.flow_meaning.specs.Sequential.{failed, failed_among, outcome_at}
use Rattle.dependency_graph.specs.Added.{added_all}
use Rattle.dependency_graph.proofs.Distinct.{passed_added, added_next}
use Rattle.dependency_graph.proofs.readiness.failed_inputs.Goals as goal

pub loop-argument-init : goal.loop-argument-init
loop-argument-init g c =
    let ts = g.O.Outcomes.tasks c.args.outcomes.now in
    ap (λ (ps : List Path). added_all ps (flat_map (λ v. failed_among ts (paths_in (out-Value v))) c.args.arguments.now)) c.new-failed.ensures
    ∙ passed_added (λ p. failed (outcome_at ts p)) c.args.arguments.now

pub loop-argument-preserved : goal.loop-argument-preserved
loop-argument-preserved g c =
    let ts = g.O.Outcomes.tasks c.args.outcomes.now in
    added_next (λ v. failed_among ts (paths_in (out-Value v))) _ _ c.args.arguments.now (failed_among ts (inputs c.args.arguments.now)) c.loop-argument.argument-index c.argument-item.result c.loop-argument-test.true c.argument-item.is c.in_ok-add_failed.ensures c.loop-argument.invariant
