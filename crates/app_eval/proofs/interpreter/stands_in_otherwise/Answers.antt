use Rattle.std.proofs.Common.{◌≡◌, ℕ, List, true, refl}
use Rattle.flow_base.specs.declared.value.Value.{Value}
use Rattle.body_program.specs.declared.code.Step.{Step}
use Rattle.app_eval.specs.declared.position.InnerPosition.TheVariants as i
use Rattle.app_eval.specs.declared.position.Position.{Position}
use Rattle.app_eval.specs.Positions.{StandsInOtherwise, steps_fit}
use Rattle.app_eval.proofs.Fits.{otherwise_has}
use Rattle.app_eval.proofs.interpreter.stands_in_otherwise.Goals as goal

has : (step : Step) (block : List Step) (p : Position) → StandsInOtherwise step block p → steps_fit block p ≡ true
has step block p h = otherwise_has (i.Otherwise p.step p.inside) step p.step p.inside h.0 h.1 block block refl h.2 refl h.3

pub returns : goal.returns
returns c = has c.args.step.now c.args.block.now c.args.place.now c.requires
