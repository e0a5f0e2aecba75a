use Rattle.std.proofs.Common.{◌≡◌, take, reverse}
use Rattle.history_verdict.specs.Progress.{progress_of}
use Rattle.history_laws.specs.Reads.{last_try}
use Rattle.history_verdict.proofs.reads.last_try.Given as goal

abbrev pub invariant-loop-entry : goal.invariant-loop-entry
invariant-loop-entry l = l.progress ≡ progress_of (last_try l.path (reverse (take l.entry-index l.before)))
