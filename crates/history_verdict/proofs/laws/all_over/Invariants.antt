use Rattle.std.proofs.Common.{drop, reverse}
use Rattle.std.specs.Prelude.{◌↔◌}
use Rattle.history_verdict.specs.Rows.{AllOver}
use Rattle.history_verdict.proofs.laws.all_over.Given as goal

abbrev pub invariant-loop-task : goal.invariant-loop-task
invariant-loop-task l = AllOver (drop l.task-index l.tasks) (reverse l.before) ↔ AllOver l.tasks (reverse l.before)
