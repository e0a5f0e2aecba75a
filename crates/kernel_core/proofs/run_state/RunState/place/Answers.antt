use Rattle.std.proofs.Common.{subst}
use Rattle.kernel_model.specs.Known.{Known}
use Rattle.kernel_core.specs.Views.{IsIndexed}
use Rattle.kernel_core.proofs.PathTables.{placed-at}
use Rattle.kernel_core.proofs.run_state.RunState.place.Goals as goal

pub returns : goal.returns
returns c =
    let k = c.self.inside in
    placed-at c.args.self.now k.places k.mains c.args.path.now c.place.result (subst (λ (w : Known). IsIndexed w k.places k.mains) c.self.view_is c.self.invariant.1) c.place.ensures.place
