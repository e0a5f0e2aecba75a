-- Positions that steps have.
use Rattle.std.specs.Prelude.{◌≡◌, ℕ, Bool, true, false, List, Option, Some, None, slice_get}
use Rattle.flow_base.specs.declared.value.Value.{Value}
use Rattle.body_program.specs.declared.code.Code.{Code}
use Rattle.body_program.specs.declared.code.Step.{Step, out-Step}
use Rattle.body_program.specs.declared.code.Step.TheVariants as t
use Rattle.body_program.specs.declared.code.Step.TheOpen.{Step-F}
use Rattle.app_eval.specs.declared.position.InnerPosition.{InnerPosition, fold-InnerPosition}
use Rattle.app_eval.specs.declared.position.InnerPosition.TheOpen.{InnerPosition-F}
use Rattle.app_eval.specs.declared.position.InnerPosition.TheVariants as i
use Rattle.app_eval.specs.declared.position.Position.{Position}

-- whether a step has an inner position
abbrev pub Fit : Type 0
Fit = Step → Bool

abbrev pub fits_at : Option Fit → Option Step → Bool
fits_at None step = true
fits_at (Some inside) (Some step) = inside step
fits_at (Some inside) None = false

abbrev pub block_fits : List Step → ℕ → Option Fit → Bool
block_fits steps k inside = fits_at inside (slice_get steps k)

-- each kind stands in one kind of statement
abbrev pub then_fits : Step-F Step → ℕ → Option Fit → Bool
then_fits (Step-F.If e steps others) k inside = block_fits steps k inside
then_fits _ k inside = false

abbrev pub otherwise_fits : Step-F Step → ℕ → Option Fit → Bool
otherwise_fits (Step-F.If e steps others) k inside = block_fits others k inside
otherwise_fits _ k inside = false

abbrev pub turn_fits : Step-F Step → ℕ → Option Fit → Bool
turn_fits (Step-F.While e body) k inside = block_fits body k inside
turn_fits _ k inside = false

abbrev pub item_fits : Step-F Step → ℕ → Option Fit → Bool
item_fits (Step-F.For slot e body) k inside = block_fits body k inside
item_fits _ k inside = false

abbrev pub fits_inside : InnerPosition-F Fit → Fit
fits_inside (InnerPosition-F.Then k inside) step = then_fits (out-Step step) k inside
fits_inside (InnerPosition-F.Otherwise k inside) step = otherwise_fits (out-Step step) k inside
fits_inside (InnerPosition-F.Iteration k inside) step = turn_fits (out-Step step) k inside
fits_inside (InnerPosition-F.Item items next k inside) step = item_fits (out-Step step) k inside

unfoldable pub inside_fits : InnerPosition → Step → Bool
inside_fits = fold-InnerPosition Fit fits_inside

abbrev pub insides_fit : Option InnerPosition → Option Fit
insides_fit None = None
insides_fit (Some inside) = Some (inside_fits inside)

-- whether a step has it, and whether a block has it
abbrev pub step_fits : Step → Option InnerPosition → Bool
step_fits step inside = fits_at (insides_fit inside) (Some step)

abbrev pub steps_fit : List Step → Position → Bool
steps_fit steps p = block_fits steps p.step (insides_fit p.inside)

-- ---- a place in a block of a step

-- the block is where the condition holds, and the step has the place there
abbrev pub StandsInThen : Step → List Step → Position → Type 0
StandsInThen step block p = (e : Code) × (others : List Step) × (step ≡ t.If e block others) × (inside_fits (i.Then p.step p.inside) step ≡ true)

abbrev pub StandsInOtherwise : Step → List Step → Position → Type 0
StandsInOtherwise step block p = (e : Code) × (steps : List Step) × (step ≡ t.If e steps block) × (inside_fits (i.Otherwise p.step p.inside) step ≡ true)

abbrev pub StandsInTurn : Step → List Step → Position → Type 0
StandsInTurn step block p = (e : Code) × (step ≡ t.While e block) × (inside_fits (i.Iteration p.step p.inside) step ≡ true)

abbrev pub StandsInItem : Step → List Step → List Value → ℕ → Position → Type 0
StandsInItem step block items next p = (slot : ℕ) × (e : Code) × (step ≡ t.For slot e block) × (inside_fits (i.Item items next p.step p.inside) step ≡ true)
