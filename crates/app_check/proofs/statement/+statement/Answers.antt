use Rattle.std.proofs.Common.{rules, arith}
use Rattle.std.proofs.lemmas.Grind.{common_steps}
use Rattle.std.proofs.lemmas.Result.{on_ok_weaker}
use Rattle.script_tree.specs.Folds.{fold_block, fold_statement}
use Rattle.app_check.specs.Seeing.{seen}
use Rattle.app_check.proofs.Equations.{statement_rules}
use Rattle.app_check.proofs.Statements.{while_seen, for_seen, if_seen, else_seen}
use Rattle.app_check.proofs.statement.+statement.Goals as goal

pub see_block-returns : goal.see_block-returns
unfolding fold_block fold_statement seen
see_block-returns t c = first_of (search (rules, statement_rules), grind (arith, common_steps, statement_rules))

pub see_statement-returns-in-While : goal.see_statement-returns-in-While
see_statement-returns-in-While t c =
    on_ok_weaker _ (while_seen _ c.in-While.e c.in-While.body _ _ _ _ c.in-While.is c.get.ensures c.see_head.ensures) c.see_block.ensures

pub see_statement-returns-in-For : goal.see_statement-returns-in-For
see_statement-returns-in-For t c =
    on_ok_weaker _ (for_seen _ c.in-For.name c.in-For.e c.in-For.body _ _ _ _ c.in-For.is c.get-in-For.ensures c.see_for.ensures) c.see_block-in-For.ensures

pub see_statement-returns-in-None : goal.see_statement-returns-in-None
see_statement-returns-in-None t c =
    on_ok_weaker _ (if_seen _ c.in-If.e c.in-If.block _ _ _ _ _ c.in-If.is c.in-None.is c.get-in-None.ensures c.see_head-in-If.ensures) c.see_block-in-None.ensures

pub see_statement-returns-in_ok-see_then-in-Some : goal.see_statement-returns-in_ok-see_then-in-Some
see_statement-returns-in_ok-see_then-in-Some t c =
    on_ok_weaker _
    (else_seen _ c.in-If.e c.in-If.block c.in-Some.other _ _ _ _ _ _ _ c.in-If.is c.in-Some.is c.get-in-Some.ensures c.get-in-Some-2.ensures c.see_head-in-If.ensures c.in_ok-see_then-in-Some.ensures)
    c.see_block-in-Some.ensures

pub see_statements-loop-statement-preserved : goal.see_statements-loop-statement-preserved
unfolding fold_block fold_statement
see_statements-loop-statement-preserved t c = first_of (search (rules, statement_rules), grind (arith, common_steps, statement_rules))

pub see_statements-returns : goal.see_statements-returns
unfolding fold_block fold_statement
see_statements-returns t c = first_of (search (rules, statement_rules), grind (arith, common_steps, statement_rules))
