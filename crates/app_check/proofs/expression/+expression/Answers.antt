use Rattle.std.proofs.Common.{rules, arith}
use Rattle.std.proofs.lemmas.Grind.{common_steps}
use Rattle.script_tree.specs.Folds.{fold_expr, fold_conj, fold_comp, fold_compared, fold_sum, fold_term, fold_added, fold_unary, fold_factor, fold_post, fold_atom, fold_call}
use Rattle.app_check.proofs.Atoms.{variable_seen, built_in_seen}
use Rattle.app_check.proofs.Equations.{expr_rules}
use Rattle.app_check.proofs.expression.+expression.Goals as goal

pub see_atom-returns-in-Variable : goal.see_atom-returns-in-Variable
see_atom-returns-in-Variable t c = variable_seen _ c.in-Variable.name _ _ c.in-Variable.is c.use_variable.ensures

pub see_atom-returns-in-BuiltIn : goal.see_atom-returns-in-BuiltIn
see_atom-returns-in-BuiltIn t c =
    built_in_seen _ c.in-BuiltIn.name c.in-BuiltIn.arguments _ _ _ _ _ c.in-BuiltIn.is c.len.ensures c.as_slice.ensures c.apply_built_in.ensures c.see_items.ensures

pub see_conj-loop-other-preserved : goal.see_conj-loop-other-preserved
unfolding fold_expr fold_conj fold_comp fold_compared fold_sum fold_term fold_added fold_unary fold_factor fold_post fold_atom fold_call
see_conj-loop-other-preserved t c = first_of (search (rules, expr_rules), grind (arith, common_steps, expr_rules))

pub see_conj-returns : goal.see_conj-returns
unfolding fold_expr fold_conj fold_comp fold_compared fold_sum fold_term fold_added fold_unary fold_factor fold_post fold_atom fold_call
see_conj-returns t c = first_of (search (rules, expr_rules), grind (arith, common_steps, expr_rules))

pub see_expr-loop-other-preserved : goal.see_expr-loop-other-preserved
unfolding fold_expr fold_conj fold_comp fold_compared fold_sum fold_term fold_added fold_unary fold_factor fold_post fold_atom fold_call
see_expr-loop-other-preserved t c = first_of (search (rules, expr_rules), grind (arith, common_steps, expr_rules))

pub see_expr-returns : goal.see_expr-returns
unfolding fold_expr fold_conj fold_comp fold_compared fold_sum fold_term fold_added fold_unary fold_factor fold_post fold_atom fold_call
see_expr-returns t c = first_of (search (rules, expr_rules), grind (arith, common_steps, expr_rules))

pub see_listed-loop-item-preserved : goal.see_listed-loop-item-preserved
unfolding fold_expr fold_conj fold_comp fold_compared fold_sum fold_term fold_added fold_unary fold_factor fold_post fold_atom fold_call
see_listed-loop-item-preserved t c = first_of (search (rules, expr_rules), grind (arith, common_steps, expr_rules))

pub see_listed-returns-after-loop-item : goal.see_listed-returns-after-loop-item
unfolding fold_expr fold_conj fold_comp fold_compared fold_sum fold_term fold_added fold_unary fold_factor fold_post fold_atom fold_call
see_listed-returns-after-loop-item t c = first_of (search (rules, expr_rules), grind (arith, common_steps, expr_rules))

pub see_post-loop-index-preserved : goal.see_post-loop-index-preserved
unfolding fold_expr fold_conj fold_comp fold_compared fold_sum fold_term fold_added fold_unary fold_factor fold_post fold_atom fold_call
see_post-loop-index-preserved t c = first_of (search (rules, expr_rules), grind (arith, common_steps, expr_rules))

pub see_post-returns : goal.see_post-returns
unfolding fold_expr fold_conj fold_comp fold_compared fold_sum fold_term fold_added fold_unary fold_factor fold_post fold_atom fold_call
see_post-returns t c = first_of (search (rules, expr_rules), grind (arith, common_steps, expr_rules))

pub see_sum-loop-other-preserved : goal.see_sum-loop-other-preserved
unfolding fold_expr fold_conj fold_comp fold_compared fold_sum fold_term fold_added fold_unary fold_factor fold_post fold_atom fold_call
see_sum-loop-other-preserved t c = first_of (search (rules, expr_rules), grind (arith, common_steps, expr_rules))

pub see_sum-returns : goal.see_sum-returns
unfolding fold_expr fold_conj fold_comp fold_compared fold_sum fold_term fold_added fold_unary fold_factor fold_post fold_atom fold_call
see_sum-returns t c = first_of (search (rules, expr_rules), grind (arith, common_steps, expr_rules))

pub see_term-loop-other-preserved : goal.see_term-loop-other-preserved
unfolding fold_expr fold_conj fold_comp fold_compared fold_sum fold_term fold_added fold_unary fold_factor fold_post fold_atom fold_call
see_term-loop-other-preserved t c = first_of (search (rules, expr_rules), grind (arith, common_steps, expr_rules))

pub see_term-returns : goal.see_term-returns
unfolding fold_expr fold_conj fold_comp fold_compared fold_sum fold_term fold_added fold_unary fold_factor fold_post fold_atom fold_call
see_term-returns t c = first_of (search (rules, expr_rules), grind (arith, common_steps, expr_rules))
