use Rattle.std.proofs.Common.{ap, sym}
use Rattle.std.specs.List.{flat_map}
use Rattle.flow_base.specs.declared.value.Value.{out-Value}
use Rattle.flow_meaning.specs.Inputs.{path_in}
use Rattle.flow_meaning.specs.Sequential.{failed, failed_among, outcome_at}
use Rattle.dependency_graph.specs.Added.{added_all}
use Rattle.dependency_graph.proofs.Distinct.{filter-each, added_next}
use Rattle.dependency_graph.proofs.readiness.add_failed_items.Goals as goal

pub loop-item-init : goal.loop-item-init
loop-item-init g c =
    let ts = g.O.Outcomes.tasks c.args.outcomes.now in
    ap (added_all c.args.failed.now) (sym (filter-each (λ p. failed (outcome_at ts p)) (λ v. path_in (out-Value v)) c.args.items.now))

pub loop-item-preserved : goal.loop-item-preserved
loop-item-preserved g c =
    let ts = g.O.Outcomes.tasks c.args.outcomes.now in
    added_next (λ v. failed_among ts (path_in (out-Value v))) _ _ c.args.items.now (added_all c.args.failed.now (failed_among ts (flat_map (λ v. path_in (out-Value v)) c.args.items.now))) c.loop-item.item-index c.item-item.result c.loop-item-test.true c.item-item.is c.in_ok-add_failed_item.ensures c.loop-item.invariant
