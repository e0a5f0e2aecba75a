use Rattle.std.proofs.Common.{length}
use Rattle.event_log.specs.Logs.{AreLines}
use Rattle.event_log.proofs.read.read_log.Given as goal

abbrev pub invariant-loop-cursor : goal.invariant-loop-cursor
invariant-loop-cursor l = AreLines l.bytes l.entries l.cursor

abbrev pub decreases-loop-cursor : goal.decreases-loop-cursor
decreases-loop-cursor l = length l.cursor
