use Rattle.std.proofs.Common.{◌≡◌}
use Rattle.dependency_graph.proofs.tests.write_ready.Given as goal

abbrev pub invariant-loop-turn : goal.invariant-loop-turn
invariant-loop-turn l = record {
  paths : l.graph.paths ≡ l.initial.graph.paths;
  states : l.graph.callbacks.states ≡ l.initial.graph.callbacks.states;
}
