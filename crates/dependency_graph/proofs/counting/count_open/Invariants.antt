use Rattle.std.proofs.Common.{◌≡◌, ◌+◌, ◌≤◌, drop}
use Rattle.dependency_graph.specs.Counts.{open_in}
use Rattle.dependency_graph.proofs.counting.count_open.Given as goal

abbrev pub invariant-loop-input : goal.invariant-loop-input
invariant-loop-input l = record {
  counted : l.count + open_in l.states (drop l.input-index l.inputs) ≡ open_in l.states l.inputs;
  few : l.count ≤ l.input-index;
}
