use Rattle.dependency_graph.proofs.Distinct.{inputs_next}
use Rattle.dependency_graph.proofs.inputs.inputs_of.Goals as goal

pub loop-argument-preserved : goal.loop-argument-preserved
loop-argument-preserved c = inputs_next _ _ c.args.arguments.now c.loop-argument.argument-index c.argument-item.result c.loop-argument-test.true c.argument-item.is c.in_ok-add_argument.ensures c.loop-argument.invariant
