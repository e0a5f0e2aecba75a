use Rattle.std.proofs.Common.{refl}
use Rattle.kernel_model.proofs.KeepingMain.{keep-refused}
use Rattle.kernel_core.proofs.StateViews.{sound-same, indexed-same}
use Rattle.kernel_core.proofs.run_state.RunState.refuse.Goals as goal

pub invariant_of-self : goal.invariant_of-self
invariant_of-self c = (sound-same _ _ c.self.inside.tasks.items c.self.inside.steps.items c.self.inside.running c.self.inside.stored c.self.invariant.0 (keep-refused _ _ c.self.invariant.0.fact.inv) refl refl refl, indexed-same _ _ c.self.inside.places c.self.inside.mains c.self.invariant.1 refl refl, c.self.invariant.2, c.self.invariant.3)
