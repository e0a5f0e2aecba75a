use Rattle.body_requests.proofs.Declared.{plain_asks_nothing}
use Rattle.body_requests.proofs.asked.plain_apps_ask_nothing.Goals as goal

pub returns : goal.returns
returns c = plain_asks_nothing
