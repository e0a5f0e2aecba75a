use Rattle.std.proofs.Common.{refl, ap, ◌∙◌}
use Rattle.kernel_model.specs.Known.{known}
use Rattle.kernel_core.proofs.PathTables.{known-by}
use Rattle.kernel_core.proofs.run_state.RunState.settled.Goals as goal

pub returns : goal.returns
returns c =
    let k = c.self.inside in
    known-by _ k.places k.mains k.tasks.items c.as_slice.result.now c.self.invariant.1 refl refl c.as_slice.ensures.value ∙ ap known c.self.view_is
