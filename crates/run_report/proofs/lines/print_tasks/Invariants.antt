use Rattle.std.proofs.Common.{◌≡◌, ◌++◌, take, flat_map}
use Rattle.run_report.specs.Shown.{task_line}
use Rattle.run_report.proofs.lines.print_tasks.Given as goal

abbrev pub invariant-loop-task : goal.invariant-loop-task
invariant-loop-task l = l.writer ≡ l.fn.writer ++ flat_map task_line (take l.task-index l.tasks)
