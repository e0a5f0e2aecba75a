use Rattle.std.proofs.Common.{◌≡◌, length, All}
use Rattle.flow_base.specs.TextBytes.{IsTextByte}
use Rattle.event_log.specs.Reading.{text_end}
use Rattle.event_log.proofs.Texts.{with_front}
use Rattle.event_log.proofs.cursor.text_end.Given as goal

abbrev pub invariant-loop-part : goal.invariant-loop-part
invariant-loop-part l =
    (text_end l.initial.rest ≡ with_front l.bytes.items (text_end l.rest)) × All IsTextByte l.bytes.items

abbrev pub decreases-loop-part : goal.decreases-loop-part
decreases-loop-part l = length l.rest
