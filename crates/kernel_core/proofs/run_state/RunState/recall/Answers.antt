use Rattle.std.proofs.Common.{refl, ◌∙◌, ap, arith}
use Rattle.dependency_graph.specs.declared.monitor.Settlement.{Settlement}
use Rattle.dependency_graph.specs.Graphs.{with_settlement}
use Rattle.task_record.specs.declared.status.Status.TheVariants as status
use Rattle.kernel_model.specs.Acts.{hit, settled_in}
use Rattle.kernel_core.proofs.StateViews.{indexed-behind}
use Rattle.kernel_core.proofs.RecallingActs.{recall-allowed, recall-keeps, recall-refused, recall-tells}
use Rattle.kernel_core.proofs.run_state.RunState.recall.Goals as goal

pub returns-then-units-self-clause-refused : goal.returns-then-units-self-clause-refused
returns-then-units-self-clause-refused g c = recall-refused _ _ c.self.inside.tasks.items c.self.inside.steps.items c.self.inside.log.items c.self.inside.running c.self.inside.stored c.outcome_units-units.result c.args.k c.args.outcome
    c.self.view_is (record { is = refl; sound = c.self.invariant.0 }) c.requires.may c.outcome_units-units.ensures c.if-units-self.true

pub finish-requires-clause-transition : goal.finish-requires-clause-transition
finish-requires-clause-transition g c = recall-allowed _ _ c.self.inside.tasks.items c.self.inside.steps.items c.self.inside.log.items c.args.k c.index_mut.result.now c.args.outcome c.self.view_is refl c.requires.may c.index_mut.ensures.value

pub invariant_of-self-2 : goal.invariant_of-self-2
invariant_of-self-2 g c =
    let a = recall-keeps _ _ c.self.inside.tasks.items c.self.inside.steps.items c.self.inside.log.items c.reserve.new.self.items c.push_reserved.new.self.items c.push_reserved-2.new.self.items c.self.inside.running c.self.inside.stored c.outcome_units-units.result c.args.k
    c.index_mut.result.now c.index.result.now c.index-2.result.now c.index_mut-2.result.now c.finish.new.self c.in_ok-hit_path.hit_path c.in_ok-path.path c.args.outcome
    c.self.view_is refl (record { is = refl; sound = c.self.invariant.0 }) c.requires.may c.index_mut.ensures.value c.finish.ensures c.index.ensures (c.in_ok-hit_path.ensures ∙ c.path.ensures) c.index-2.ensures (c.in_ok-path.ensures ∙ c.path-2.ensures) c.index_mut-2.ensures.value
    c.outcome_units-units.ensures c.if-units-self.false c.in_ok-reserve.ensures.items c.push_reserved.ensures.items c.push_reserved-2.ensures.items in
    (a.sound, indexed-behind _ c.args.self.now (settled_in (hit c.args.self.now c.args.k) c.args.k status.MemoDone c.args.outcome) _ c.self.inside.places c.self.inside.mains c.self.view_is c.self.invariant.1 refl refl a.view, c.self.invariant.2, omega (arith, c.in_ok-reserve.ensures.ok, c.push_reserved.ensures.len, c.push_reserved.ensures.capacity, c.push_reserved-2.ensures.len, c.push_reserved-2.ensures.capacity))

pub returns-clause-ok : goal.returns-clause-ok
returns-clause-ok g c =
    let a = recall-keeps _ _ c.self.inside.tasks.items c.self.inside.steps.items c.self.inside.log.items c.reserve.new.self.items c.push_reserved.new.self.items c.push_reserved-2.new.self.items c.self.inside.running c.self.inside.stored c.outcome_units-units.result c.args.k
    c.index_mut.result.now c.index.result.now c.index-2.result.now c.index_mut-2.result.now c.finish.new.self c.in_ok-hit_path.hit_path c.in_ok-path.path c.args.outcome
    c.self.view_is refl (record { is = refl; sound = c.self.invariant.0 }) c.requires.may c.index_mut.ensures.value c.finish.ensures c.index.ensures (c.in_ok-hit_path.ensures ∙ c.path.ensures) c.index-2.ensures (c.in_ok-path.ensures ∙ c.path-2.ensures) c.index_mut-2.ensures.value
    c.outcome_units-units.ensures c.if-units-self.false c.in_ok-reserve.ensures.items c.push_reserved.ensures.items c.push_reserved-2.ensures.items in
    a.view

pub returns-clause-settled : goal.returns-clause-settled
returns-clause-settled g c =
    c.in_ok-settled.ensures.ok ∙ ap (λ (s : Settlement). with_settlement s c.args.graph.now)
    (recall-tells _ _ c.self.inside.tasks.items c.self.inside.steps.items c.self.inside.log.items c.args.k c.index-2.result.now c.in_ok-path.path c.args.outcome c.self.view_is refl c.requires.may c.index-2.ensures (c.in_ok-path.ensures ∙ c.path-2.ensures))
