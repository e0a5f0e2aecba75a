use Rattle.std.specs.Prelude.{◌≡◌, All}
use Rattle.kernel_model.specs.Known.{Known, apps_in}
use Rattle.kernel_model.specs.Telling.{HasTold}
use Rattle.kernel_model.specs.Turns.{Extends}
use Rattle.kernel_core.specs.AnyTurns.{IsHonest, Took}
use Rattle.kernel_core.proofs.any_turns.take_each.Given as goal

abbrev pub invariant-loop-turn : goal.invariant-loop-turn
invariant-loop-turn g l = record {
  accepted : l.kernel.refusal ≡ l.fn.kernel.refusal;
  extends : Extends l.fn.kernel l.kernel;
  honest : All (IsHonest (apps_in l.kernel)) l.turn-iterator.rest.items;
  tells : HasTold l.fn.kernel l.kernel;
  took : (v : Known) → Took l.turn-iterator.rest.items l.kernel v → Took l.fn.turns.items l.fn.kernel v;
}
