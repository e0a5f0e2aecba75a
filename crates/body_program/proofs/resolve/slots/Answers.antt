use Rattle.body_program.proofs.Following.{grows_then}
use Rattle.body_program.proofs.Programs.{next_slots}
use Rattle.body_program.proofs.resolve.slots.Goals as goal

pub loop-parameter-preserved : goal.loop-parameter-preserved
loop-parameter-preserved c = (grows_then c.loop-parameter.invariant.0 c.slot.ensures.grows, rw c.in_ok-push.ensures.ok (next_slots c.args.parameters.now c.loop-parameter.parameter-index c.parameter-item.result c.loop-parameter.slots c.in_ok-slot.field-0 c.loop-parameter-test.true c.parameter-item.is c.loop-parameter.invariant.1 c.slot.ensures.grows c.in_ok-slot.ensures.slot))
