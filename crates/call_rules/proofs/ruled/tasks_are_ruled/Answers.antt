use Rattle.call_rules.proofs.Whole.{tasks_ruled}
use Rattle.call_rules.proofs.ruled.tasks_are_ruled.Goals as goal

pub returns : goal.returns
returns c = tasks_ruled
