use Rattle.std.proofs.Common.{rules, ◌≡◌, ◌∙◌, refl, ap, subst}
use Rattle.std.specs.Prelude.{◌↔◌, IsTrue}
use Rattle.task_record.specs.declared.status.Status.TheVariants as status
use Rattle.kernel_model.specs.Jobs.{JobView}
use Rattle.kernel_model.specs.Turns.{IsRunning}
use Rattle.kernel_core.proofs.RunReadings.{shows, IsOfJob, running-is}
use Rattle.kernel_core.proofs.run_state.RunState.is_job.Goals as goal

pub returns-then-same_names : goal.returns-then-same_names
returns-then-same_names c =
    let state : c.index.result.now.record.status ≡ status.Running = search rules in
    let attempt : c.index.result.now.record.attempts ≡ c.job.inside.attempt = search rules in
    let manager : c.job.inside.manager ≡ 1 = search rules in
    let app : c.index.result.now.record.app ≡ c.job.inside.app = search rules in
    let names : c.index.result.now.record.names ≡ c.job.inside.names = search rules in
    let s = shows _ c.args.self.now c.self.inside.tasks.items c.self.view_is refl refl in
    let path = ap (λ (j : JobView). j.path) c.job.view_is ∙ c.requires.path in
    let job : JobView = record { path = c.job.inside.path; attempt = c.job.inside.attempt; manager = c.job.inside.manager; app = c.job.inside.app; arguments = c.job.inside.arguments; names = c.job.inside.names } in
    let of : IsOfJob c.args.self.now c.index.result.now job c.args.k = record { state = state; path = path; attempt = attempt; manager = manager; app = app; names = names } in
    let given = c.as_slice-then-same_names.ensures ∙ c.arguments.ensures in
    let is = running-is c.args.self.now c.self.inside.tasks.items _ c.args.k c.index.result.now job c.as_slice-then-same_names.result.now c.as_slice-then-same_names-2.result.now c.is_resolved.result s c.settled.ensures c.requires.within c.index.ensures of given c.as_slice-then-same_names-2.ensures c.is_resolved.ensures in
    subst (λ (j : JobView). IsTrue c.is_resolved.result ↔ IsRunning c.args.self.now j c.args.k) c.job.view_is is
