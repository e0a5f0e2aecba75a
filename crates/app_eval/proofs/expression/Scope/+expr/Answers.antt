use Rattle.std.proofs.Common.{rules, arith}
use Rattle.std.proofs.lemmas.Grind.{common_steps}
use Rattle.app_eval.proofs.Rules.{run_rules}
use Rattle.app_eval.proofs.GivenRuns.{run-Call}
use Rattle.app_eval.proofs.expression.Scope.+expr.Goals as goal

pub all-loop-other-preserved : goal.all-loop-other-preserved
all-loop-other-preserved t c = first_of (grind (arith, common_steps, run_rules), search (rules, run_rules))

pub all-returns-in_err-holds : goal.all-returns-in_err-holds
all-returns-in_err-holds t c = first_of (grind (arith, common_steps, run_rules), search (rules, run_rules))

pub any-loop-other-preserved : goal.any-loop-other-preserved
any-loop-other-preserved t c = first_of (grind (arith, common_steps, run_rules), search (rules, run_rules))

pub any-returns-in_err-holds : goal.any-returns-in_err-holds
any-returns-in_err-holds t c = first_of (grind (arith, common_steps, run_rules), search (rules, run_rules))

pub items_at-loop-other-preserved : goal.items_at-loop-other-preserved
items_at-loop-other-preserved t c = first_of (grind (arith, common_steps, run_rules), search (rules, run_rules))

pub items_at-returns-in_err-index : goal.items_at-returns-in_err-index
items_at-returns-in_err-index t c = first_of (grind (arith, common_steps, run_rules), search (rules, run_rules))

pub items_at-returns-in_err-from : goal.items_at-returns-in_err-from
items_at-returns-in_err-from t c = first_of (grind (arith, common_steps, run_rules), search (rules, run_rules))

pub products-loop-other-preserved : goal.products-loop-other-preserved
products-loop-other-preserved t c = first_of (grind (arith, common_steps, run_rules), search (rules, run_rules))

pub products-returns-in_err-right : goal.products-returns-in_err-right
products-returns-in_err-right t c = first_of (grind (arith, common_steps, run_rules), search (rules, run_rules))

pub products-returns-in_err-multiplied : goal.products-returns-in_err-multiplied
products-returns-in_err-multiplied t c = first_of (grind (arith, common_steps, run_rules), search (rules, run_rules))

pub sums-loop-other-preserved : goal.sums-loop-other-preserved
sums-loop-other-preserved t c = first_of (grind (arith, common_steps, run_rules), search (rules, run_rules))

pub sums-returns-in_err-right : goal.sums-returns-in_err-right
sums-returns-in_err-right t c = first_of (grind (arith, common_steps, run_rules), search (rules, run_rules))

pub sums-returns-in_err-added : goal.sums-returns-in_err-added
sums-returns-in_err-added t c = first_of (grind (arith, common_steps, run_rules), search (rules, run_rules))

pub values-loop-e-preserved : goal.values-loop-e-preserved
values-loop-e-preserved t c = first_of (grind (arith, common_steps, run_rules), search (rules, run_rules))

pub values-returns-in_err-value : goal.values-returns-in_err-value
values-returns-in_err-value t c = first_of (grind (arith, common_steps, run_rules), search (rules, run_rules))

pub got-returns-in_ok-arguments-in-Call : goal.got-returns-in_ok-arguments-in-Call
got-returns-in_ok-arguments-in-Call t c = search (rules, run-Call)
