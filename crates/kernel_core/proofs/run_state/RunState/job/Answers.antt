use Rattle.std.proofs.Common.{◌∙◌, refl}
use Rattle.kernel_core.proofs.RunReadings.{shows, job-is}
use Rattle.kernel_core.proofs.run_state.RunState.job.Goals as goal

pub returns : goal.returns
returns c =
    let s = shows _ c.args.self.now c.self.inside.tasks.items c.self.view_is refl refl in
    let given = c.as_slice.ensures ∙ c.arguments.ensures in
    let path = c.in_ok-copy.ensures ∙ c.path.ensures in
    let names = c.in_ok-copy_names.ensures ∙ c.as_slice-2.ensures ∙ c.names.ensures in
    let is = job-is c.args.self.now c.self.inside.tasks.items _ c.args.k c.index.result.now c.as_slice.result.now s c.settled.ensures c.requires c.index.ensures given in
    rw (path, c.attempts.ensures, c.app.ensures, c.in_ok-resolve.ensures, names) is
