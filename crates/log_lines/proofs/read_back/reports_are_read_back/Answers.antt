use Rattle.log_lines.proofs.Reports.{reports-read}
use Rattle.log_lines.proofs.read_back.reports_are_read_back.Goals as goal

pub returns : goal.returns
returns c = reports-read
