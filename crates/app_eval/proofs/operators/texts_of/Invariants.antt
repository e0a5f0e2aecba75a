use Rattle.std.proofs.Common.{◌≡◌, drop}
use Rattle.flow_meaning.specs.Operators.{texts_from, texts_of}
use Rattle.app_eval.proofs.operators.texts_of.Given as goal

abbrev pub invariant-loop-value : goal.invariant-loop-value
invariant-loop-value l = texts_from l.texts (drop l.value-index l.values) ≡ texts_of l.values
