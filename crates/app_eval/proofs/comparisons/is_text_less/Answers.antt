use Rattle.app_eval.proofs.Orders.{less_is}
use Rattle.app_eval.proofs.comparisons.is_text_less.Goals as goal

pub returns : goal.returns
returns c = rw (← c.as_slice.ensures.value, ← c.as_slice-2.ensures.value) (less_is c.as_slice.result.now c.as_slice-2.result.now c.lt.result c.lt.ensures)
