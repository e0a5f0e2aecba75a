use Rattle.std.proofs.Common.{◌∙◌}
use Rattle.app_script.proofs.Symbols.{begins_with_front}
use Rattle.app_script.proofs.piece.begins_with.Goals as goal

pub returns-clause-value : goal.returns-clause-value
returns-clause-value c = c.starts_with.ensures.value ∙ begins_with_front c.args.spelling.now c.args.text.now
