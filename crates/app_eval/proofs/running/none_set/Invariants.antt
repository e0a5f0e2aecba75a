use Rattle.std.proofs.Common.{◌≡◌}
use Rattle.body_program.specs.Meaning as code
use Rattle.app_eval.proofs.running.none_set.Given as goal

abbrev pub invariant-loop-slot : goal.invariant-loop-slot
invariant-loop-slot l = l.slots.items ≡ code.none_set l._slot
