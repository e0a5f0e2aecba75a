use Rattle.body_requests.proofs.Told.{act_told}
use Rattle.body_requests.proofs.asked.bodies_ask_told.Goals as goal

pub returns : goal.returns
returns c = act_told
