use Rattle.std.proofs.Common.{◌∙◌, ◌^◌, sym, arith}
use Rattle.event_log.proofs.Digits.{value_past, value_below_none, value_below_whole}
use Rattle.event_log.proofs.cursor.digits_value.Goals as goal

pub returns-in_err-checked_mul : goal.returns-in_err-checked_mul
returns-in_err-checked_mul c =
    let more = value_past c.args.run.now c.loop-digit.digit-index c.loop-digit-test.true in
    c.from_residual.ensures ∙ sym (value_below_none (2 ^ 64) c.args.run.now (omega arith))

pub returns-in_err-value : goal.returns-in_err-value
returns-in_err-value c =
    let more = value_past c.args.run.now c.loop-digit.digit-index c.loop-digit-test.true in
    c.from_residual-in_err-value.ensures ∙ sym (value_below_none (2 ^ 64) c.args.run.now (omega arith))

pub returns : goal.returns
returns c =
    let facts = c.loop-digit.invariant in
    value_below_whole (2 ^ 64) c.args.run.now c.loop-digit.digit-index c.loop-digit.value c.loop-digit-test.false facts.0 facts.1 facts.2
