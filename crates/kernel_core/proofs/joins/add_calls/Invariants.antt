use Rattle.std.proofs.Common.{◌≡◌, drop}
use Rattle.join_apps.specs.Bodies.{calls_of}
use Rattle.agenda_model.specs.Storing.{CanAddAll, with_tasks}
use Rattle.kernel_core.proofs.joins.add_calls.Given as goal

abbrev pub invariant-loop-call : goal.invariant-loop-call
invariant-loop-call g l = record {
  rest : with_tasks (calls_of (drop l.call-index l.calls)) l.graph ≡ with_tasks (calls_of l.calls) l.fn.graph;
  can : CanAddAll l.graph (calls_of (drop l.call-index l.calls));
  told : l.graph.told ≡ l.fn.graph.told;
}
