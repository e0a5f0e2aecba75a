use Rattle.std.proofs.Common.{◌≡◌, ◌+◌, ◌-◌, ◌*◌, ◌^◌, length}
use Rattle.flow_meaning.specs.Act.{after}
use Rattle.app_eval.specs.Walks.{left_of, rest_of, answers_of}
use Rattle.script_eval.specs.Lost.{loss_at}
use Rattle.script_eval.proofs.Joining.{Joins}
use Rattle.script_eval.proofs.evaluator.Evaluator.+calls.Given as goal

abbrev pub decreases-call : goal.decreases-call
decreases-call l = 6 * (64 - length l.caller.now.path.now)

abbrev pub decreases-join_answer : goal.decreases-join_answer
decreases-join_answer l = 6 * (64 - length l.caller.now.path.now) + 1

abbrev pub decreases-run_join : goal.decreases-run_join
decreases-run_join l = 6 * (64 - length l.path.now) + 2

abbrev pub decreases-joined : goal.decreases-joined
decreases-joined l = 6 * (64 - length l.path.now) + 3

abbrev pub decreases-ran : goal.decreases-ran
decreases-ran l = 6 * (64 - length l.path.now) + 4

abbrev pub decreases-outcome : goal.decreases-outcome
decreases-outcome l = 6 * (64 - length l.path.now) + 5

abbrev pub invariant-run_join-requests : goal.invariant-run_join-requests
invariant-run_join-requests l = record {
  rest : length l.walk.told.items + rest_of l.walk.walker ≡ 2 ^ 64 - 1;
  path : l.caller.path.now ≡ l.path;
  first : l.caller.first ≡ length l.fn.state.tasks.items;
  joins : Joins l.self.script.now.tree (loss_at l.self.losses.now) l.path l.app l.fn.values l.fn.state (after (left_of l.walk.walker) (answers_of l.reply)) l.caller.calls l.state;
}

abbrev pub decreases-run_join-requests : goal.decreases-run_join-requests
decreases-run_join-requests l = rest_of l.walk.walker
