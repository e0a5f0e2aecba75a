use Rattle.parsl_engine.specs.Runs.{refusal_of}
use Rattle.parsl_engine.proofs.RunsTold.{run-tells}
use Rattle.parsl_engine.proofs.run.run_kernel.Goals as goal

pub returns-clause-tells : goal.returns-clause-tells
returns-clause-tells g c =
    let end = c.run_to_end-end in
    let parts = c.into_parts-evaluation in
    run-tells c.args.kernel.tree c.args.kernel end.new.kernel (refusal_of end.result) parts.result.1 _ end.ensures.tree c.requires.unsettled c.facts.ensures.fact.inv c.facts.ensures.holds.outcomes end.ensures.tells parts.ensures.log parts.ensures.monitors
