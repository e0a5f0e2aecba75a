use Rattle.std.proofs.Common.{[], refl}
use Rattle.kernel_core.proofs.StateViews.{indexed-same}
use Rattle.kernel_core.proofs.MainWrites.{wait-sound}
use Rattle.kernel_core.proofs.run_state.RunState.wait.Goals as goal

pub invariant_of-self-2 : goal.invariant_of-self-2
invariant_of-self-2 c =
    let k = c.self.inside in
    (rw (c.push_reserved.ensures.items, c.in_ok-reserve.ensures.items) (wait-sound _ k.script.tree k.tasks.items k.steps.items k.arrived k.ending k.memo k.log.items k.refusal [] k.running k.stored c.args.k c.self.invariant.0 c.self.view_is c.requires), indexed-same _ _ c.self.inside.places c.self.inside.mains c.self.invariant.1 refl refl, c.self.invariant.2, c.self.invariant.3)
