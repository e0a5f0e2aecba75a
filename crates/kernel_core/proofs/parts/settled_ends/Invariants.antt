use Rattle.std.proofs.Common.{◌≡◌, ◌++◌}
use Rattle.kernel_core.specs.Parts.{ends_in}
use Rattle.kernel_core.proofs.parts.settled_ends.Given as goal

abbrev pub invariant-loop-task : goal.invariant-loop-task
invariant-loop-task l = l.ends.items ++ ends_in l.apps l.task-iterator.rest.items ≡ ends_in l.apps l.fn.tasks.items
