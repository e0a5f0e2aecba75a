use Rattle.script_eval.specs.Lost.{loss_at}
use Rattle.script_eval.proofs.Ending.{are-settled, evaluates, met-fault}
use Rattle.script_eval.proofs.evaluation.evaluate.Goals as goal

pub evaluation-requires : goal.evaluation-requires
evaluation-requires c = are-settled c.args.script.now.tree (loss_at c.args.losses.now) c.run_main.new.state c.in_ok-ended.ended c.in_ok-ended.ensures

pub returns : goal.returns
returns c = evaluates c.args.script.now.tree (loss_at c.args.losses.now) c.run_main.new.state c.in_ok-ended.ended c.in_ok-ended.ensures c.in_ok-evaluation.field-0 c.in_ok-evaluation.ensures

pub returns-in_err-ended : goal.returns-in_err-ended
returns-in_err-ended c = met-fault c.args.script.now.tree (loss_at c.args.losses.now) c.in_err-ended.field-0.0 c.from_residual.result c.from_residual.ensures.1 c.in_err-ended.ensures
