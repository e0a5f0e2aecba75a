use Rattle.std.specs.Prelude.{[]}
use Rattle.body_requests.proofs.Told.{act_told, wait_told}
use Rattle.body_requests.proofs.asked.waits_are_told.Goals as goal

pub returns : goal.returns
returns c = λ s app arguments h rs k f is. wait_told _ [] rs f (act_told s app arguments h) k is
