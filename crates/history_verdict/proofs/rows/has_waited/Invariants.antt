use Rattle.std.proofs.Common.{drop, reverse}
use Rattle.std.specs.Prelude.{◌↔◌}
use Rattle.history_laws.specs.Laws.{AllSettled}
use Rattle.history_laws.specs.Tables.{waits_before}
use Rattle.history_verdict.proofs.rows.has_waited.Given as goal

abbrev pub invariant-loop-act : goal.invariant-loop-act
invariant-loop-act l = AllSettled (waits_before l.left (drop l.act-index l.acts)) (reverse l.before) ↔ AllSettled (waits_before l.calls l.acts) (reverse l.before)
