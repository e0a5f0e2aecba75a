use Rattle.parser_model.proofs.Parsing.{text_says}
use Rattle.parser_model.proofs.verdict.verdict_is_right.Goals as goal

pub returns : goal.returns
returns c = text_says
