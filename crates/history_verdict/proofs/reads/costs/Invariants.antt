use Rattle.std.proofs.Common.{◌≡◌, ◌-◌, ◌^◌, min, take, reverse}
use Rattle.history_laws.specs.Reads.{costs}
use Rattle.history_verdict.proofs.reads.costs.Given as goal

abbrev pub invariant-loop-entry : goal.invariant-loop-entry
invariant-loop-entry l = l.sum ≡ min (costs l.retries l.path (reverse (take l.entry-index l.before))) (2 ^ 64 - 1)
