use Rattle.std.specs.Prelude.{[]}
use Rattle.body_requests.proofs.Told.{act_told, call_inputs_told}
use Rattle.body_requests.proofs.asked.calls_wait_for_earlier.Goals as goal

pub returns : goal.returns
returns c = λ s app arguments h rs k number given names is. call_inputs_told _ [] rs number given names (act_told s app arguments h) k is
