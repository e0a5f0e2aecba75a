use Rattle.log_lines.proofs.Names.{texts-names}
use Rattle.log_lines.proofs.lines.texts_have_names.Goals as goal

pub returns : goal.returns
returns c = texts-names
