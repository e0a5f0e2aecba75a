use Rattle.std.proofs.Common.{Ok, ◌-◌, length}
use Rattle.app_script.specs.Lexer.{IsGap}
use Rattle.app_script.proofs.lexer.gap.Given as goal

abbrev pub invariant-loop-taken : goal.invariant-loop-taken
invariant-loop-taken l = IsGap (Ok l.len) l.text

abbrev pub decreases-loop-taken : goal.decreases-loop-taken
decreases-loop-taken l = length l.text - l.len
