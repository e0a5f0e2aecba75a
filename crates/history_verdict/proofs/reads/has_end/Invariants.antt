use Rattle.std.proofs.Common.{◌≡◌, take, reverse}
use Rattle.history_laws.specs.Reads.{has_end}
use Rattle.history_verdict.proofs.reads.has_end.Given as goal

abbrev pub invariant-loop-entry : goal.invariant-loop-entry
invariant-loop-entry l = l.ended ≡ has_end (reverse (take l.entry-index l.before))
