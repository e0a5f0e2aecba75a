use Rattle.body_requests.proofs.Limits.{act_within}
use Rattle.body_requests.proofs.asked.bodies_ask_within.Goals as goal

pub returns : goal.returns
returns c = act_within
