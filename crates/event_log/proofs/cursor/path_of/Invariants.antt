use Rattle.std.proofs.Common.{◌≡◌, length}
use Rattle.event_log.specs.Reading.{path_of}
use Rattle.event_log.proofs.Paths.{numbers_front}
use Rattle.event_log.proofs.cursor.path_of.Given as goal

abbrev pub invariant-loop-number : goal.invariant-loop-number
invariant-loop-number l = numbers_front l.path (path_of l.rest) ≡ path_of l.word

abbrev pub decreases-loop-number : goal.decreases-loop-number
decreases-loop-number l = length l.rest
