use Rattle.std.proofs.Common.{◌-◌, get_or, arith, refl, ◌∙◌}
use Rattle.app_eval.proofs.Begins.{with_all, with_less}
use Rattle.app_eval.proofs.running.set_arguments.Goals as goal

pub arguments-init : goal.arguments-init
arguments-init c = (omega arith, omega arith, with_all c.args.parameters.now c.args.arguments.now c.min-count.result c.args.slots.now.items (omega arith))

pub arguments-preserved : goal.arguments-preserved
arguments-preserved c = (
  omega arith,
  omega arith,
  rw (c.set_slot.ensures, c.in_ok-copy.ensures)
      (with_less c.args.parameters.now c.args.arguments.now c.arguments.count (c.arguments.count - 1) (get_or c.args.parameters.now (c.arguments.count - 1) 0) c.index-arguments-count.result c.arguments.slots.items (omega arith) (omega arith) (omega arith) refl c.index-arguments-count.is
      ∙ c.arguments.invariant.2),
)
