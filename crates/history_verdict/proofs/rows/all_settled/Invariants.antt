use Rattle.std.proofs.Common.{drop, reverse}
use Rattle.std.specs.Prelude.{◌↔◌}
use Rattle.history_laws.specs.Laws.{AllSettled}
use Rattle.history_verdict.proofs.rows.all_settled.Given as goal

abbrev pub invariant-loop-path : goal.invariant-loop-path
invariant-loop-path l = AllSettled (drop l.path-index l.paths) (reverse l.before) ↔ AllSettled l.paths (reverse l.before)
