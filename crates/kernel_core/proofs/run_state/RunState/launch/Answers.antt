use Rattle.std.proofs.Common.{refl, ◌∙◌, arith}
use Rattle.kernel_model.specs.Acts.{launched}
use Rattle.kernel_core.proofs.StateViews.{indexed-behind}
use Rattle.kernel_core.proofs.TaskActs.{launch-keeps}
use Rattle.kernel_core.proofs.run_state.RunState.launch.Goals as goal

pub invariant_of-self-2 : goal.invariant_of-self-2
invariant_of-self-2 c =
    let a = launch-keeps _ _ c.self.inside.tasks.items c.self.inside.steps.items c.self.inside.log.items c.reserve.new.self.items c.push_reserved.new.self.items c.self.inside.running c.self.inside.stored c.args.k
    c.index_mut.result.now c.index-2.result.now c.index.result.now c.launched.new.self c.in_ok-path.path c.attempts-attempt.result
    c.self.view_is (record { is = refl; sound = c.self.invariant.0 }) c.requires c.index_mut.ensures.value c.launched.ensures c.index.ensures (c.in_ok-path.ensures ∙ c.path.ensures) c.index-2.ensures c.attempts-attempt.ensures c.in_ok-reserve.ensures.items c.push_reserved.ensures.items in
    (a.sound, indexed-behind _ c.args.self.now (launched c.args.self.now c.args.k) _ c.self.inside.places c.self.inside.mains c.self.view_is c.self.invariant.1 refl refl a.view, c.self.invariant.2, omega (arith, c.in_ok-reserve.ensures.ok, c.push_reserved.ensures.len, c.push_reserved.ensures.capacity))

pub returns-clause-ok : goal.returns-clause-ok
returns-clause-ok c =
    let a = launch-keeps _ _ c.self.inside.tasks.items c.self.inside.steps.items c.self.inside.log.items c.reserve.new.self.items c.push_reserved.new.self.items c.self.inside.running c.self.inside.stored c.args.k
    c.index_mut.result.now c.index-2.result.now c.index.result.now c.launched.new.self c.in_ok-path.path c.attempts-attempt.result
    c.self.view_is (record { is = refl; sound = c.self.invariant.0 }) c.requires c.index_mut.ensures.value c.launched.ensures c.index.ensures (c.in_ok-path.ensures ∙ c.path.ensures) c.index-2.ensures c.attempts-attempt.ensures c.in_ok-reserve.ensures.items c.push_reserved.ensures.items in
    a.view
