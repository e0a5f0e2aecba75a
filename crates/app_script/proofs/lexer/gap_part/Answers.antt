use Rattle.std.proofs.Common.{sym, ◌∙◌}
use Rattle.app_script.proofs.Gaps.{blank_passed}
use Rattle.app_script.proofs.lexer.gap_part.Goals as goal

pub returns-in-len1-up-clause-gap : goal.returns-in-len1-up-clause-gap
returns-in-len1-up-clause-gap c = blank_passed c.args.text.now c.in-len1-up.len_at_least (sym c.is_blank.ensures ∙ c.if-is_blank.true)
