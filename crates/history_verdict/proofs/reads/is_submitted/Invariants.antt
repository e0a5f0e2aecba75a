use Rattle.std.proofs.Common.{◌≡◌, take, reverse}
use Rattle.history_laws.specs.Reads.{is_submitted}
use Rattle.history_verdict.proofs.reads.is_submitted.Given as goal

abbrev pub invariant-loop-entry : goal.invariant-loop-entry
invariant-loop-entry l = l.submitted ≡ is_submitted l.path (reverse (take l.entry-index l.before))
