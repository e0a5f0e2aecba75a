use Rattle.std.proofs.Common.{sym, ◌∙◌}
use Rattle.app_script.proofs.Gaps.{comment_is_passed, comment_is_stopped}
use Rattle.app_script.proofs.lexer.comment_gap.Goals as goal

pub returns-then-ends_line-clause-gap : goal.returns-then-ends_line-clause-gap
returns-then-ends_line-clause-gap c =
    comment_is_passed c.args.comment.now c.comment_len-len.result c.comment_len-len.ensures.value (sym c.ends_line.ensures ∙ c.if-ends_line.true)

pub returns-else-ends_line-clause-gap : goal.returns-else-ends_line-clause-gap
returns-else-ends_line-clause-gap c =
    comment_is_stopped c.args.comment.now c.comment_len-len.result c.comment_len-len.ensures.value (sym c.ends_line.ensures ∙ c.if-ends_line.false)
