use Rattle.std.proofs.Common.{◌≡◌, take, drop, length}
use Rattle.dependency_graph.specs.Callbacks.{AreBelow}
use Rattle.dependency_graph.specs.Rows.{rows_of, RowsHaveRoom}
use Rattle.dependency_graph.proofs.rows.reserve_each.Given as goal

abbrev pub invariant-loop-n : goal.invariant-loop-n
invariant-loop-n l = record {
  same : rows_of l.rows.items ≡ rows_of l.initial.rows.items;
  below : AreBelow (length l.rows.items) (drop l.n-index l.tasks);
  room : RowsHaveRoom l.rows.items (take l.n-index l.tasks);
}
