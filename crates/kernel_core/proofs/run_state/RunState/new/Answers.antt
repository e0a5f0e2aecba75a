use Rattle.std.proofs.Common.{arith}
use Rattle.kernel_core.proofs.Opened.{begins-sound, begins-indexed}
use Rattle.kernel_core.proofs.run_state.RunState.new.Goals as goal

pub invariant_of-result : goal.invariant_of-result
invariant_of-result c = (
  begins-sound _ _ c.new.result.items c.new-3.result.items c.new-4.result c.new-5.result.items c.requires.differ c.requires.few c.new.ensures.items c.new-3.ensures.items c.new-4.ensures c.new-5.ensures.items,
  begins-indexed _ _ c.new.result.items c.new-3.result.items c.new-4.result c.new-5.result.items c.new-2.result c.new.ensures.items c.new-5.ensures.items c.new-2.ensures,
  c.requires.texts,
  omega (arith, c.new-5.ensures.len),
)
