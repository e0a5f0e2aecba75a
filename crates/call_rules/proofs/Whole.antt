-- The evaluation of every script obeys the rule of a call.
use Rattle.std.specs.Prelude.{[], None, Some}
use Rattle.script_tree.specs.Grammar.{Tree}
use Rattle.body_requests.proofs.Told.{act_told, apply_plain}
use Rattle.call_rules.specs.Laws.{TasksAreRuled}
use Rattle.call_rules.specs.Told.{IsTold}
use Rattle.call_rules.proofs.Evaluating.{whole-ruled}

-- the bodies of each script name only futures that they were told of
pub bodies_told : (tree : Tree) → IsTold tree
bodies_told tree = record {
  main = act_told tree None [] tt;
  joins = λ k app values at plain. act_told tree (Some app) values plain;
  plain = λ k app values names at plain. apply_plain app values names plain;
}

pub tasks_ruled : TasksAreRuled
tasks_ruled tree losses = whole-ruled tree (bodies_told tree) losses
