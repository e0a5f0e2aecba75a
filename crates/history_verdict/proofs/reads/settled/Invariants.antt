use Rattle.std.proofs.Common.{◌≡◌, take, reverse}
use Rattle.history_laws.specs.Reads.{settled}
use Rattle.history_verdict.proofs.reads.settled.Given as goal

abbrev pub invariant-loop-entry : goal.invariant-loop-entry
invariant-loop-entry l = l.state ≡ settled l.path (reverse (take l.entry-index l.before))
