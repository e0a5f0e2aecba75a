use Rattle.std.proofs.Common.{◌≡◌, ◌+◌, ◌-◌, ◌^◌, [], length}
use Rattle.flow_meaning.specs.Act.{after}
use Rattle.app_eval.specs.Walks.{left_of, rest_of, answers_of}
use Rattle.script_eval.specs.Lost.{loss_at}
use Rattle.script_eval.proofs.Standing.{Stands}
use Rattle.script_eval.proofs.evaluator.Evaluator.run_main.Given as goal

abbrev pub invariant-requests : goal.invariant-requests
invariant-requests l = record {
  rest : length l.walk.told.items + rest_of l.walk.walker ≡ 2 ^ 64 - 1;
  path : l.caller.path.now ≡ [];
  first : l.caller.first ≡ 0;
  stands : Stands l.self.script.now.tree (loss_at l.self.losses.now) l.fn.state (after (left_of l.walk.walker) (answers_of l.reply)) l.caller.calls l.state;
}

abbrev pub decreases-requests : goal.decreases-requests
decreases-requests l = rest_of l.walk.walker
