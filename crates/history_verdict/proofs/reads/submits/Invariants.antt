use Rattle.std.proofs.Common.{◌≡◌, ◌≤◌, take, reverse}
use Rattle.history_laws.specs.Reads.{submits}
use Rattle.history_verdict.proofs.reads.submits.Given as goal

abbrev pub invariant-loop-entry : goal.invariant-loop-entry
invariant-loop-entry l = record { count : l.count ≡ submits (reverse (take l.entry-index l.before)); most : l.count ≤ l.entry-index }
