use Rattle.std.proofs.Common.{◌≡◌, map, length}
use Rattle.dependency_graph.specs.Monitors.{tell_first}
use Rattle.dependency_graph.proofs.graph.tell_all.Given as goal

abbrev pub invariant-loop-i : goal.invariant-loop-i
invariant-loop-i g l = record {
  told : map g.M.Monitor.told l.monitors.items ≡ tell_first l.i l.settlement (map g.M.Monitor.told l.initial.monitors.items);
  same : length l.monitors.items ≡ length l.initial.monitors.items;
}
