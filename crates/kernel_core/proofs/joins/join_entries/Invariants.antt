use Rattle.std.proofs.Common.{◌≡◌, ◌++◌, ◌∷◌, drop}
use Rattle.event_log.specs.declared.entry.Entry.TheVariants as entry
use Rattle.kernel_core.specs.Joins.{submissions}
use Rattle.kernel_core.proofs.joins.join_entries.Given as goal

abbrev pub invariant-loop-task : goal.invariant-loop-task
invariant-loop-task l = l.entries.items ++ submissions l.apps (drop l.task-index l.tasks) ≡ entry.JoinRun l.path ∷ submissions l.apps l.tasks
