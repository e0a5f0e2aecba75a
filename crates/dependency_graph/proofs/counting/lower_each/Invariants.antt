use Rattle.std.proofs.Common.{◌≡◌, ◌+◌, ◌≤◌, ◌++◌, drop, length, vec_len, vec_capacity}
use Rattle.dependency_graph.specs.Counts.{lowered, freed, AllWait}
use Rattle.dependency_graph.proofs.counting.lower_each.Given as goal

abbrev pub invariant-loop-c : goal.invariant-loop-c
invariant-loop-c l = record {
  counts : lowered (drop l.c-index l.waiters) l.counts.items ≡ lowered l.waiters l.initial.counts.items;
  made : l.made.items ++ freed (drop l.c-index l.waiters) l.counts.items ≡ l.initial.made.items ++ freed l.waiters l.initial.counts.items;
  wait : AllWait (drop l.c-index l.waiters) l.counts.items;
  room : vec_len l.made + length l.waiters ≤ vec_capacity l.made + l.c-index;
}
