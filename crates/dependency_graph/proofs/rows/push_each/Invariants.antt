use Rattle.std.proofs.Common.{◌≡◌, drop}
use Rattle.dependency_graph.specs.Callbacks.{AreDistinctNumbers}
use Rattle.dependency_graph.specs.Rows.{rows_of, pushed, RowsHaveRoom}
use Rattle.dependency_graph.proofs.rows.push_each.Given as goal

abbrev pub invariant-loop-n : goal.invariant-loop-n
invariant-loop-n l = record {
  rows : pushed (drop l.n-index l.tasks) l.c (rows_of l.rows.items) ≡ pushed l.tasks l.c (rows_of l.initial.rows.items);
  distinct : AreDistinctNumbers (drop l.n-index l.tasks);
  room : RowsHaveRoom l.rows.items (drop l.n-index l.tasks);
}
