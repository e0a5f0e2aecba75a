use Rattle.std.proofs.Common.{◌≡◌, drop}
use Rattle.std.specs.List.{list_any}
use Rattle.dependency_graph.specs.Callbacks.{has_failed, state_in}
use Rattle.dependency_graph.proofs.to_do.any_failed.Given as goal

abbrev pub invariant-loop-n : goal.invariant-loop-n
invariant-loop-n l = list_any (λ n. has_failed (state_in l.states n)) (drop l.n-index l.tasks) ≡ list_any (λ n. has_failed (state_in l.states n)) l.tasks
