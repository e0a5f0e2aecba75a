use Rattle.std.proofs.Common.{ap, ◌∙◌}
use Rattle.flow_meaning.specs.Sequential.{end_of}
use Rattle.body_program.specs.Meaning.{program_act}
use Rattle.std.specs.Arc.{arc_value}
use Rattle.app_eval.specs.Runnings.{ended_in, wants}
use Rattle.app_eval.proofs.Walks.{ends_as}
use Rattle.app_eval.proofs.plain_app.end_alone.Goals as goal

pub returns : goal.returns
returns c =
    c.end_by.ensures ∙ ap ended_in c.in_ok-advance.ensures.advances.0 ∙ ap (λ ran. ended_in (wants ran)) c.in_ok-running.ensures.runs ∙ ends_as _
    ∙ λ i. end_of (program_act (arc_value c.args.program) (c.as_slice.ensures i) (c.as_slice-names.ensures i))
