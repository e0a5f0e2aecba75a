use Rattle.std.proofs.Common.{sym, ◌∙◌, arith}
use Rattle.app_eval.proofs.Fitting.{join_texts_within, join_texts_past, join_lists_within, join_lists_past}
use Rattle.app_eval.proofs.limits.can_join.Goals as goal

pub returns-then-units_fit : goal.returns-then-units_fit
returns-then-units_fit c = join_texts_within c.args.left.now c.args.right.now c.in-Text.a c.in-Text-right.b c.saturating_add.result c.in-Text.is c.in-Text-right.is (omega arith) (sym c.units_fit.ensures ∙ c.if-units_fit.true)

pub returns-else-units_fit : goal.returns-else-units_fit
returns-else-units_fit c = join_texts_past c.args.left.now c.args.right.now c.in-Text.a c.in-Text-right.b c.saturating_add.result c.in-Text.is c.in-Text-right.is (omega arith) (sym c.units_fit.ensures ∙ c.if-units_fit.false)

pub returns-then-lists_fit : goal.returns-then-lists_fit
returns-then-lists_fit c = join_lists_within c.args.left.now c.args.right.now c.in-List.field-0 c.in-List-right.field-0 c.in-List.is c.in-List-right.is (sym c.lists_fit.ensures ∙ c.if-lists_fit.true)

pub returns-else-lists_fit : goal.returns-else-lists_fit
returns-else-lists_fit c = join_lists_past c.args.left.now c.args.right.now c.in-List.field-0 c.in-List-right.field-0 c.in-List.is c.in-List-right.is (sym c.lists_fit.ensures ∙ c.if-lists_fit.false)
