use Rattle.std.proofs.Common.{◌≡◌, drop}
use Rattle.history_laws.specs.Tables.{task_in}
use Rattle.history_verdict.proofs.rows.task_in.Given as goal

abbrev pub invariant-loop-task : goal.invariant-loop-task
invariant-loop-task l = task_in (drop l.task-index l.tasks) l.path ≡ task_in l.tasks l.path
