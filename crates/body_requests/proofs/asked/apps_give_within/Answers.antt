use Rattle.body_requests.proofs.Limits.{apply_within}
use Rattle.body_requests.proofs.asked.apps_give_within.Goals as goal

pub returns : goal.returns
returns c = apply_within
