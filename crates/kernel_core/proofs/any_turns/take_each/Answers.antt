use Rattle.std.proofs.Common.{List, refl, sym, ◌∙◌, subst}
use Rattle.std.specs.Prelude.{All}
use Rattle.kernel_model.specs.Known.{apps_in}
use Rattle.kernel_model.proofs.Telling.{told-longer}
use Rattle.kernel_core.specs.declared.any_turns.Turn.{Turn}
use Rattle.kernel_core.specs.AnyTurns.{IsHonest, Took}
use Rattle.kernel_core.proofs.Accepting.{going_accepts}
use Rattle.kernel_core.proofs.Extending.{extends_on, extends_same}
use Rattle.kernel_core.proofs.TurnsTold.{no-turn-tells}
use Rattle.kernel_core.proofs.Taking.{took_on, honest_rest}
use Rattle.kernel_core.proofs.any_turns.take_each.Goals as goal

pub loop-turn-preserved : goal.loop-turn-preserved
loop-turn-preserved g c = record {
  accepted = c.in_ok-take_turn.ensures.accepted ∙ sym (going_accepts c.loop-turn.kernel (sym c.if-ended.ensures)) ∙ c.loop-turn.invariant.accepted;
  extends = extends_on _ _ _ c.loop-turn.invariant.extends c.take_turn.ensures.extends;
  honest = honest_rest _ _ _ _ _ c.in-Some.ensures.steps.0 c.take_turn.ensures.extends c.loop-turn.invariant.honest;
  tells = told-longer _ c.loop-turn.kernel _ c.loop-turn.invariant.tells (going_accepts c.loop-turn.kernel (sym c.if-ended.ensures)) c.take_turn.ensures.tells;
  took = λ v h. c.loop-turn.invariant.took v (took_on _ _ _ _ _ v c.in-Some.ensures.steps.0 c.if-ended.ensures c.in_ok-take_turn.ensures.does h);
}

pub loop-turn-init : goal.loop-turn-init
loop-turn-init g c = record {
  accepted = refl;
  extends = extends_same c.args.kernel.now c.args.kernel.now refl;
  honest = subst (λ (turns : List Turn). All (IsHonest (apps_in c.args.kernel.now)) turns) (sym c.into_iter-turn-iterator.ensures.into_iter_gives.0) c.requires;
  tells = no-turn-tells c.args.kernel.now;
  took = λ v h. subst (λ (turns : List Turn). Took turns c.args.kernel.now v) c.into_iter-turn-iterator.ensures.into_iter_gives.0 h;
}

pub returns-in_err-take_turn-clause-tells : goal.returns-in_err-take_turn-clause-tells
returns-in_err-take_turn-clause-tells g c = told-longer _ c.loop-turn.kernel _ c.loop-turn.invariant.tells (going_accepts c.loop-turn.kernel (sym c.if-ended.ensures)) c.take_turn.ensures.tells
