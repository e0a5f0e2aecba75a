use Rattle.std.proofs.Common.{[], refl}
use Rattle.kernel_core.proofs.StateViews.{indexed-same}
use Rattle.kernel_core.proofs.MainWrites.{end_main-sound}
use Rattle.kernel_core.proofs.run_state.RunState.end_main.Goals as goal

pub invariant_of-self : goal.invariant_of-self
invariant_of-self c =
    let k = c.self.inside in
    (end_main-sound _ k.script.tree k.tasks.items k.steps.items k.arrived k.ending k.memo k.log.items k.refusal [] k.running k.stored c.args.ending c.self.invariant.0 c.self.view_is c.requires, indexed-same _ _ c.self.inside.places c.self.inside.mains c.self.invariant.1 refl refl, c.self.invariant.2, c.self.invariant.3)
