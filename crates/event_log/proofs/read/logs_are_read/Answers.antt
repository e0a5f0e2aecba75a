use Rattle.event_log.proofs.Whole.{are_read}
use Rattle.event_log.proofs.read.logs_are_read.Goals as goal

pub returns : goal.returns
returns c = are_read
