use Rattle.std.proofs.Common.{◌≡◌, take, reverse}
use Rattle.history_laws.specs.Laws.{is_stored}
use Rattle.history_verdict.proofs.rows.is_stored.Given as goal

abbrev pub invariant-loop-entry : goal.invariant-loop-entry
invariant-loop-entry l = l.stored ≡ is_stored l.table (reverse (take l.entry-index l.before)) l.key
