use Rattle.script_eval.specs.Answering.{HaveEnds}
use Rattle.script_eval.proofs.state.ends_of.Given as goal

abbrev pub invariant-loop-task : goal.invariant-loop-task
invariant-loop-task l = HaveEnds l.yielded l.ends
