use Rattle.app_eval.proofs.TextLists.{Decides}
use Rattle.app_eval.proofs.operators.are_texts.Given as goal

abbrev pub invariant-loop-value : goal.invariant-loop-value
invariant-loop-value l = Decides l.values l.value-index
