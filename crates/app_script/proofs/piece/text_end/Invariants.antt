use Rattle.std.proofs.Common.{◌≡◌, ◌+◌, length, All}
use Rattle.flow_base.specs.TextBytes.{IsTextByte}
use Rattle.script_tree.specs.Lexing.{text_end}
use Rattle.app_script.specs.Pieces.{with_front}
use Rattle.app_script.proofs.piece.text_end.Given as goal

abbrev pub invariant-loop-part : goal.invariant-loop-part
invariant-loop-part l =
    (text_end l.initial.rest ≡ with_front l.bytes.items l.len (text_end l.rest)) × (l.len + length l.rest ≡ length l.initial.rest) × All IsTextByte l.bytes.items

abbrev pub decreases-loop-part : goal.decreases-loop-part
decreases-loop-part l = length l.rest
