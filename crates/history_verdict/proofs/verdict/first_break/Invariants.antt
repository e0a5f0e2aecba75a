use Rattle.std.proofs.Common.{take, reverse}
use Rattle.history_laws.specs.Legal.{Holds}
use Rattle.history_verdict.specs.Scan.{Stands}
use Rattle.history_verdict.proofs.verdict.first_break.Given as goal

abbrev pub invariant-loop-place : goal.invariant-loop-place
invariant-loop-place l = Holds (Stands l.retries l.table l.law) (reverse (take l.place l.entries))
