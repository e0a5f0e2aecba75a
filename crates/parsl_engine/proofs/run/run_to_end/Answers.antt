use Rattle.std.proofs.Common.{◌∙◌, refl, None, Some}
use Rattle.parsl_engine.proofs.RunsTold.{told-on, none-told}
use Rattle.parsl_engine.proofs.Turning.{going-accepts}
use Rattle.parsl_engine.proofs.run.run_to_end.Goals as goal

pub rounds-init : goal.rounds-init
rounds-init g c =
    let accepts = going-accepts c.args.kernel.now c.requires.going in
    record { tree = refl; still = c.requires.still; accepted = accepts; told = none-told c.args.kernel.now accepts }

pub returns-in-Err-clause-tells : goal.returns-in-Err-clause-tells
returns-in-Err-clause-tells g c = told-on (Some c.in-Err.refusal) c.args.kernel.now c.rounds.kernel c.round.new.kernel c.rounds.invariant.told (rw c.in-Err.is at c.round.ensures.tells)

pub rounds-preserved : goal.rounds-preserved
rounds-preserved g c =
    let keeps = rw c.in_default.is at c.round.ensures.keeps in
    let tells = rw c.in_default.is at c.round.ensures.tells in
    record { tree = c.round.ensures.tree ∙ c.rounds.invariant.tree; still = keeps.still; accepted = keeps.accepted; told = told-on None c.args.kernel.now c.rounds.kernel c.round.new.kernel c.rounds.invariant.told tells }
