use Rattle.run_report.proofs.LogFound.{logs_found}
use Rattle.run_report.proofs.read_back.logs_are_found.Goals as goal

pub returns : goal.returns
returns c = logs_found
