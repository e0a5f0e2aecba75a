use Rattle.std.proofs.Common.{◌∙◌, sym, ap, subst}
use Rattle.std.proofs.lemmas.Bool.{false≢true}
use Rattle.kernel_model.specs.Jobs.{JobView}
use Rattle.kernel_core.specs.Turned.{IsNowhere, IsPlaceOf}
use Rattle.kernel_core.proofs.RunReadings.{no-place, no-job}
use Rattle.kernel_core.proofs.run_state.RunState.running_as.Goals as goal

pub returns-in_err-k : goal.returns-in_err-k
returns-in_err-k c =
    rw c.from_residual.ensures (no-place c.args.self.now c.args.job.now c.facts.ensures.fact.inv.holds.tracks (subst (λ (j : JobView). IsNowhere c.args.self.now j.path) c.job.view_is c.in_err-k.ensures))

pub returns-else-is_job : goal.returns-else-is_job
returns-else-is_job c =
    no-job c.args.self.now c.args.job.now c.in_ok-k.k c.facts.ensures.fact.inv.holds.tracks (subst (λ (j : JobView). IsPlaceOf c.args.self.now j.path c.in_ok-k.k) c.job.view_is c.in_ok-k.ensures)
    (λ runs. false≢true (sym c.if-is_job.false ∙ c.is_job.ensures.1 runs))
