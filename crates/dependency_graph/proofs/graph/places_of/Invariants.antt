use Rattle.std.proofs.Common.{◌≡◌, ◌++◌, drop}
use Rattle.dependency_graph.specs.Graphs.{AreThere, places_in}
use Rattle.dependency_graph.proofs.graph.places_of.Given as goal

abbrev pub invariant-loop-task : goal.invariant-loop-task
invariant-loop-task l = record {
  there : AreThere l.paths (drop l.task-index l.tasks);
  same : l.places.items ++ places_in l.paths (drop l.task-index l.tasks) ≡ places_in l.paths l.tasks;
}
