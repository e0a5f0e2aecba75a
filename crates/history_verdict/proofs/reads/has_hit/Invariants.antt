use Rattle.std.proofs.Common.{◌≡◌, take, reverse}
use Rattle.history_laws.specs.Reads.{has_hit}
use Rattle.history_verdict.proofs.reads.has_hit.Given as goal

abbrev pub invariant-loop-entry : goal.invariant-loop-entry
invariant-loop-entry l = l.hit ≡ has_hit l.path (reverse (take l.entry-index l.before))
