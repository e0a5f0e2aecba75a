use Rattle.std.proofs.Common.{arith}
use Rattle.app_eval.proofs.TextLists.{decides_next}
use Rattle.app_eval.proofs.operators.are_texts.Goals as goal

pub loop-value-preserved : goal.loop-value-preserved
loop-value-preserved c = decides_next c.args.values.now c.loop-value.value-index c.value-item.result c.in-Text.field-0 (omega arith) c.value-item.is c.in-Text.is c.loop-value.invariant
