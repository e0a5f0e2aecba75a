use Rattle.std.proofs.Common.{◌≡◌, ◌≤◌, take, reverse}
use Rattle.history_laws.specs.Reads.{due}
use Rattle.history_verdict.specs.Calls.{due_of, calls_of}
use Rattle.history_verdict.proofs.reads.due.Given as goal

abbrev pub invariant-loop-entry : goal.invariant-loop-entry
invariant-loop-entry l = record { is : due_of l.join ≡ due (reverse (take l.entry-index l.before)); most : calls_of l.join ≤ l.entry-index }
