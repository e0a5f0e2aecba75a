use Rattle.std.proofs.Common.{ap, ◌∙◌}
use Rattle.app_eval.specs.Walks.{act_of}
use Rattle.app_eval.proofs.Walks.{act_of_begin}
use Rattle.app_eval.proofs.walker.walk.Goals as goal

pub returns-clause-left : goal.returns-clause-left
returns-clause-left c = ap act_of c.in_ok-running.ensures.runs ∙ act_of_begin _
