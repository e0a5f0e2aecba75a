use Rattle.std.proofs.Common.{take}
use Rattle.body_program.specs.Resolved.{AreSlots, Grows}
use Rattle.body_program.proofs.resolve.slots.Given as goal

abbrev pub invariant-loop-parameter : goal.invariant-loop-parameter
invariant-loop-parameter l = Grows l.fn.names l.names × AreSlots l.names l.slots (take l.parameter-index l.parameters)
