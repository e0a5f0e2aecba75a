use Rattle.std.proofs.Common.{length}
use Rattle.app_script.specs.Parsing.{GoesOn}
use Rattle.app_script.proofs.parse.read.Given as goal

abbrev pub invariant-loop-places : goal.invariant-loop-places
invariant-loop-places l = GoesOn l.bytes l.lexer l.places l.depth l.state

abbrev pub decreases-loop-places : goal.decreases-loop-places
decreases-loop-places l = length l.lexer.text
