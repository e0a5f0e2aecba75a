use Rattle.std.proofs.Common.{◌≡◌, take, reverse}
use Rattle.history_laws.specs.Reads.{has_joined}
use Rattle.history_verdict.proofs.reads.has_joined.Given as goal

abbrev pub invariant-loop-entry : goal.invariant-loop-entry
invariant-loop-entry l = l.joined ≡ has_joined l.path (reverse (take l.entry-index l.before))
