use Rattle.body_requests.proofs.Told.{apply_plain}
use Rattle.body_requests.proofs.asked.apps_give_plain.Goals as goal

pub returns : goal.returns
returns c = apply_plain
