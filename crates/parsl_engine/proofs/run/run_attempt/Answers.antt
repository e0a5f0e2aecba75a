use Rattle.std.proofs.lemmas.Result.{err_from_is_err_and}
use Rattle.kernel_core.proofs.TurnsTold.{memory-tells}
use Rattle.parsl_engine.proofs.RunsTold.{memory-told, told-less, fetch-told-ok, attempt-told}
use Rattle.parsl_engine.proofs.Turning.{going-accepts}
use Rattle.parsl_engine.proofs.Attempts.{attempted}
use Rattle.parsl_engine.proofs.run.run_attempt.Goals as goal

pub returns-in-Ok-clause-turn : goal.returns-in-Ok-clause-turn
returns-in-Ok-clause-turn g c = attempted _ _ _ _ _ _ _ _ c.in-Some.is c.in_ok-job.ensures.turn c.facts.ensures.fact.inv c.script.ensures c.in-Ok.ensures.job c.in-Ok.ensures.end c.deliver.ensures

pub returns-in_err-job-clause-tells : goal.returns-in_err-job-clause-tells
returns-in_err-job-clause-tells g c =
    let refused = c.in_err-job.ensures.refused in
    let p = err_from_is_err_and c.from_residual.result c.from_residual.ensures.1 in
    rw (p.1, p.2) (memory-told _ _ _ (memory-tells c.args.kernel.now _ _ (going-accepts c.args.kernel.now c.requires) refused) refused)

pub returns-in_default-clause-tells : goal.returns-in_default-clause-tells
returns-in_default-clause-tells g c = fetch-told-ok c.args.kernel.now _ _ (going-accepts c.args.kernel.now c.requires) c.in_ok-job.ensures.turn

pub returns-in-Ok-clause-tells : goal.returns-in-Ok-clause-tells
returns-in-Ok-clause-tells g c = attempt-told c.args.kernel.now _ _ _ _ _ (going-accepts c.args.kernel.now c.requires) c.in_ok-job.ensures.turn c.deliver.ensures

pub returns-in-Err-clause-tells : goal.returns-in-Err-clause-tells
returns-in-Err-clause-tells g c = told-less c.args.kernel.now _ (fetch-told-ok c.args.kernel.now _ _ (going-accepts c.args.kernel.now c.requires) c.in_ok-job.ensures.turn)
