use Rattle.log_lines.proofs.Apps.{tasks-apps}
use Rattle.log_lines.proofs.lines.tasks_are_of_apps.Goals as goal

pub returns : goal.returns
returns c = tasks-apps
