use Rattle.std.proofs.Common.{refl, arith}
use Rattle.kernel_model.specs.Acts.{over}
use Rattle.kernel_core.proofs.StateViews.{indexed-behind}
use Rattle.kernel_core.proofs.Settling.{end-keeps}
use Rattle.kernel_core.proofs.run_state.RunState.end.Goals as goal

pub invariant_of-self-2 : goal.invariant_of-self-2
invariant_of-self-2 c =
    let a = end-keeps _ _ c.self.inside.tasks.items c.self.inside.steps.items c.self.inside.log.items c.reserve.new.self.items c.push_reserved.new.self.items c.self.inside.running c.self.inside.stored
    c.self.view_is (record { is = refl; sound = c.self.invariant.0 }) c.requires c.in_ok-reserve.ensures.items c.push_reserved.ensures.items in
    (a.sound, indexed-behind _ c.args.self.now (over c.args.self.now) _ c.self.inside.places c.self.inside.mains c.self.view_is c.self.invariant.1 refl refl a.view, c.self.invariant.2, omega (arith, c.in_ok-reserve.ensures.ok, c.push_reserved.ensures.len, c.push_reserved.ensures.capacity))

pub returns-clause-ok : goal.returns-clause-ok
returns-clause-ok c =
    let a = end-keeps _ _ c.self.inside.tasks.items c.self.inside.steps.items c.self.inside.log.items c.reserve.new.self.items c.push_reserved.new.self.items c.self.inside.running c.self.inside.stored
    c.self.view_is (record { is = refl; sound = c.self.invariant.0 }) c.requires c.in_ok-reserve.ensures.items c.push_reserved.ensures.items in
    a.view
