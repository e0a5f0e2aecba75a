use Rattle.std.proofs.Common.{◌≡◌, ℕ, List, true, refl}
use Rattle.flow_base.specs.declared.value.Value.{Value}
use Rattle.body_program.specs.declared.code.Step.{Step}
use Rattle.app_eval.specs.declared.position.InnerPosition.TheVariants as i
use Rattle.app_eval.specs.declared.position.Position.{Position}
use Rattle.app_eval.specs.Positions.{StandsInThen, steps_fit}
use Rattle.app_eval.proofs.Fits.{then_has}
use Rattle.app_eval.proofs.interpreter.stands_in_then.Goals as goal

has : (step : Step) (block : List Step) (p : Position) → StandsInThen step block p → steps_fit block p ≡ true
has step block p h = then_has (i.Then p.step p.inside) step p.step p.inside h.0 block h.1 block refl h.2 refl h.3

pub returns : goal.returns
returns c = has c.args.step.now c.args.block.now c.args.place.now c.requires
