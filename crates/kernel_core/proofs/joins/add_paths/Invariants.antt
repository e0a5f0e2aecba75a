use Rattle.std.proofs.Common.{◌≡◌, ◌++◌, take}
use Rattle.kernel_core.specs.Joins.{task_paths}
use Rattle.kernel_core.proofs.joins.add_paths.Given as goal

abbrev pub invariant-loop-task : goal.invariant-loop-task
invariant-loop-task l = l.places ≡ l.fn.places ++ task_paths (take l.task-index l.tasks)
