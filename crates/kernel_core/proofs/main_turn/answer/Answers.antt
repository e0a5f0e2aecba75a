use Rattle.std.proofs.Common.{subst}
use Rattle.flow_meaning.specs.declared.walk.Request.{Request}
use Rattle.kernel_model.specs.Conditions.{MainAsks}
use Rattle.kernel_core.proofs.MainGoing.{value-wait-of, name-wait-of}
use Rattle.kernel_core.proofs.WaitsTold.{value-of_some, name-of_some, of_some-not_none}
use Rattle.kernel_core.proofs.main_turn.answer.Goals as goal

pub wait-requires-clause-waits : goal.wait-requires-clause-waits
wait-requires-clause-waits g c = value-wait-of _ _ _ c.in-Some.ensures

pub unreachable-requires : goal.unreachable-requires
unreachable-requires g c =
    of_some-not_none _ _ (value-of_some _ _ c.facts.ensures.fact (subst (λ (q : Request). MainAsks c.args.state.now q) c.in-WaitValue.is c.requires.asks)) c.in-None.ensures

pub wait-requires-in-Some-awaited-clause-waits : goal.wait-requires-in-Some-awaited-clause-waits
wait-requires-in-Some-awaited-clause-waits g c = name-wait-of _ _ _ c.in-Some-awaited.ensures

pub unreachable-requires-in-None-awaited : goal.unreachable-requires-in-None-awaited
unreachable-requires-in-None-awaited g c =
    of_some-not_none _ _ (name-of_some _ _ c.facts.ensures.fact (subst (λ (q : Request). MainAsks c.args.state.now q) c.in-WaitName.is c.requires.asks)) c.in-None-awaited.ensures
