use Rattle.std.proofs.Common.{drop, reverse}
use Rattle.std.specs.Prelude.{◌↔◌}
use Rattle.history_laws.specs.Laws.{AllValued}
use Rattle.history_verdict.proofs.rows.all_valued.Given as goal

abbrev pub invariant-loop-path : goal.invariant-loop-path
invariant-loop-path l = AllValued (drop l.path-index l.paths) (reverse l.before) ↔ AllValued l.paths (reverse l.before)
