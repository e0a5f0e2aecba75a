use Rattle.std.proofs.Common.{◌≡◌, ◌≤◌, take, reverse}
use Rattle.history_laws.specs.Reads.{launches}
use Rattle.history_verdict.proofs.reads.launches.Given as goal

abbrev pub invariant-loop-entry : goal.invariant-loop-entry
invariant-loop-entry l = record { count : l.count ≡ launches l.path (reverse (take l.entry-index l.before)); most : l.count ≤ l.entry-index }
