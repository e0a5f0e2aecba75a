use Rattle.std.specs.Prelude.{[]}
use Rattle.body_requests.proofs.Told.{act_told, gave_told}
use Rattle.body_requests.proofs.asked.gives_own_calls.Goals as goal

pub returns : goal.returns
returns c = λ s app arguments h rs left k d is. gave_told _ [] rs left d (act_told s app arguments h) k is
