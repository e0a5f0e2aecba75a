use Rattle.std.proofs.Common.{◌≡◌, take, reverse}
use Rattle.history_laws.specs.Reads.{has_value}
use Rattle.history_verdict.proofs.reads.has_value.Given as goal

abbrev pub invariant-loop-entry : goal.invariant-loop-entry
invariant-loop-entry l = l.valued ≡ has_value l.path (reverse (take l.entry-index l.before))
