use Rattle.std.proofs.Common.{◌≡◌, ◌++◌}
use Rattle.kernel_core.specs.Joins.{new_tasks}
use Rattle.kernel_core.proofs.joins.tasks_of.Given as goal

abbrev pub invariant-loop-call : goal.invariant-loop-call
invariant-loop-call l = l.tasks.items ++ new_tasks l.call-iterator.rest.items ≡ new_tasks l.fn.calls.items
