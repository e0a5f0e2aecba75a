use Rattle.app_eval.specs.Frames.{store_of}
use Rattle.app_eval.proofs.Blocks.{simple_halts}
use Rattle.app_eval.proofs.interpreter.Interpreter.simple_step.Goals as goal

pub returns-in-Err-clause-runs : goal.returns-in-Err-clause-runs
returns-in-Err-clause-runs c = simple_halts c.args.self.now.names.now c.args.simple.now c.in-Err.stop c.of.result c.here.result (store_of c.args.frame.now) (store_of c.simple.new.frame) c.as_slice.result.now c.args.told.now.items c.simple.new.answers.left.now c.of.ensures c.here.ensures c.as_slice.ensures.value c.in-Err.ensures.runs
