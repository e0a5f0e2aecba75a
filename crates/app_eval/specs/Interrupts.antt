-- A halt with its place put into another.
use Rattle.std.specs.Prelude.{◌≡◌, ◌⊎◌, ℕ, List, Option, Some, None, Result, Ok, Err}
use Rattle.flow_base.specs.declared.value.Value.{Value}
use Rattle.app_eval.specs.declared.frame.Flow.{Flow}
use Rattle.app_eval.specs.declared.operators.Stop.{Stop}
use Rattle.app_eval.specs.declared.operators.Stop.TheVariants as stop
use Rattle.app_eval.specs.declared.position.InnerPosition.{InnerPosition}
use Rattle.app_eval.specs.declared.position.InnerPosition.TheVariants as inside
use Rattle.app_eval.specs.declared.position.Position.{Position}
use Rattle.app_eval.specs.declared.position.Interrupt.{Interrupt}
use Rattle.app_eval.specs.declared.position.Interrupt.TheVariants.{Raised, Asks, NoMemory}

abbrev pub halt_of : Stop → Interrupt (Unit {0})
halt_of (stop.Raised exception) = Raised exception
halt_of (stop.Asks request) = Asks request tt
halt_of stop.NoMemory = NoMemory

abbrev pub mapped : {P Q : Type 0} → (P → Q) → Interrupt P → Interrupt Q
mapped f (Raised exception) = Raised exception
mapped f (Asks request place) = Asks request (f place)
mapped f NoMemory = NoMemory

-- the same, or want of memory
abbrev pub Wraps : {P Q : Type 0} → (P → Q) → Interrupt P → Interrupt Q → Type 0
Wraps f halt wrapped = (wrapped ≡ mapped f halt) ⊎ (wrapped ≡ NoMemory)

abbrev pub WrapsResult : {P Q : Type 0} → (P → Q) → Result Flow (Interrupt P) → Result Flow (Interrupt Q) → Type 0
WrapsResult f (Ok flow) result = result ≡ Ok flow
WrapsResult f (Err halt) (Err wrapped) = Wraps f halt wrapped
WrapsResult f (Err halt) (Ok flow) = ⊥

abbrev pub at_step : ℕ → Option InnerPosition → Position
at_step step inside = record { step = step; inside = inside }

abbrev pub in_then : Position → Option InnerPosition
in_then p = Some (inside.Then p.step p.inside)

abbrev pub in_otherwise : Position → Option InnerPosition
in_otherwise p = Some (inside.Otherwise p.step p.inside)

abbrev pub in_turn : Option Position → Option InnerPosition
in_turn None = None
in_turn (Some p) = Some (inside.Iteration p.step p.inside)

abbrev pub in_item : List Value → ℕ → Position → Option InnerPosition
in_item items next p = Some (inside.Item items next p.step p.inside)
