use Rattle.std.proofs.Common.{◌≡◌, ◌+◌, ◌-◌, ◌^◌, ◌≤◌, length}
use Rattle.std.specs.Prelude.{slice_get}
use Rattle.app_eval.specs.Walks.{left_of, rest_of, answers_of}
use Rattle.flow_meaning.specs.Act.{after}
use Rattle.stored_units.specs.Stored.{max_tasks}
use Rattle.join_apps.proofs.Running.{Stands}
use Rattle.join_apps.proofs.body.run_body.Given as goal

abbrev pub invariant-requests : goal.invariant-requests
invariant-requests l = record {
  rest : length l.calls.items + rest_of l.walker ≡ 2 ^ 64 - 1;
  few : length l.calls.items ≤ max_tasks;
  stands : Stands l.script.tree l.path (slice_get l.script.tree.0 l.fn.app) l.fn.arguments (after (left_of l.walker) (answers_of l.reply)) l.calls.items;
}

abbrev pub decreases-requests : goal.decreases-requests
decreases-requests l = rest_of l.walker
