use Rattle.std.proofs.Common.{refl, ◌∙◌, arith}
use Rattle.flow_base.specs.declared.outcome.Outcome.TheVariants as o
use Rattle.kernel_model.specs.Acts.{settled_as}
use Rattle.kernel_core.proofs.StateViews.{indexed-behind}
use Rattle.kernel_core.proofs.TaskActs.{fail-allowed, fail-keeps}
use Rattle.kernel_core.proofs.run_state.RunState.fail.Goals as goal

pub finish-requires-clause-transition : goal.finish-requires-clause-transition
finish-requires-clause-transition g c = fail-allowed _ _ c.self.inside.tasks.items c.self.inside.steps.items c.self.inside.log.items c.args.k c.index_mut.result.now c.args.exception c.status_of-status.result c.self.view_is refl c.requires.can c.index_mut.ensures.value c.status_of-status.ensures

pub invariant_of-self-2 : goal.invariant_of-self-2
invariant_of-self-2 g c =
    let a = fail-keeps _ _ c.self.inside.tasks.items c.self.inside.steps.items c.self.inside.log.items c.reserve.new.self.items c.push_reserved.new.self.items c.self.inside.running c.self.inside.stored c.args.k
    c.index_mut.result.now c.index.result.now c.index_mut-2.result.now c.finish.new.self c.in_ok-path.path c.args.exception c.status_of-status.result
    c.self.view_is refl (record { is = refl; sound = c.self.invariant.0 }) c.requires.can c.index_mut.ensures.value c.finish.ensures c.index.ensures (c.in_ok-path.ensures ∙ c.path.ensures) c.index_mut-2.ensures.value c.status_of-status.ensures c.in_ok-reserve.ensures.items c.push_reserved.ensures.items in
    (a.sound, indexed-behind _ c.args.self.now (settled_as c.args.self.now c.args.k (o.Failed c.args.exception)) _ c.self.inside.places c.self.inside.mains c.self.view_is c.self.invariant.1 refl refl a.view, c.self.invariant.2, omega (arith, c.in_ok-reserve.ensures.ok, c.push_reserved.ensures.len, c.push_reserved.ensures.capacity))

pub returns-clause-ok : goal.returns-clause-ok
returns-clause-ok g c =
    let a = fail-keeps _ _ c.self.inside.tasks.items c.self.inside.steps.items c.self.inside.log.items c.reserve.new.self.items c.push_reserved.new.self.items c.self.inside.running c.self.inside.stored c.args.k
    c.index_mut.result.now c.index.result.now c.index_mut-2.result.now c.finish.new.self c.in_ok-path.path c.args.exception c.status_of-status.result
    c.self.view_is refl (record { is = refl; sound = c.self.invariant.0 }) c.requires.can c.index_mut.ensures.value c.finish.ensures c.index.ensures (c.in_ok-path.ensures ∙ c.path.ensures) c.index_mut-2.ensures.value c.status_of-status.ensures c.in_ok-reserve.ensures.items c.push_reserved.ensures.items in
    a.view
