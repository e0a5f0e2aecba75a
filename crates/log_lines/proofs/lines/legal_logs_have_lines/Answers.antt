use Rattle.log_lines.proofs.Whole.{legal-lines}
use Rattle.log_lines.proofs.lines.legal_logs_have_lines.Goals as goal

pub returns : goal.returns
returns c = legal-lines
