use Rattle.body_requests.proofs.Performed.{seq_good}
use Rattle.body_requests.proofs.asked.tasks_are_ordered.Goals as goal

pub returns : goal.returns
returns c = seq_good
