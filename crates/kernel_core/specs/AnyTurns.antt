-- What holds after any turns in any order.
use Rattle.std.specs.Prelude.{◌≡◌, ◌⊎◌, ℕ, Bool, true, false, List, [], ◌∷◌, Option, Some, None}
use Rattle.flow_base.specs.declared.outcome.Outcome.{Outcome}
use Rattle.script_tree.specs.declared.tree.AppDef.{AppDef}
use Rattle.flow_meaning.specs.Sequential.{outcome_at, seq}
use Rattle.flow_meaning.specs.Evaluations.{evaluation_in}
use Rattle.history_laws.specs.Reads.{lost, has_end}
use Rattle.history_laws.specs.Tables.{table}
use Rattle.history_laws.specs.Legal.{IsLegal, IsComplete}
use Rattle.kernel_model.specs.RunTotals.{IsWithinRun}
use Rattle.kernel_model.specs.declared.answers.Refusal.{Refusal}
use Rattle.kernel_model.specs.declared.answers.Refusal.TheVariants.{NoMemory}
use Rattle.kernel_model.specs.declared.answers.Delivered.{Delivered}
use Rattle.kernel_model.specs.Acts.{refused}
use Rattle.kernel_model.specs.Known.{Known, has_ended, no_retries, path_at, settled_outcome, apps_in}
use Rattle.kernel_model.specs.Evaluated.{evaluated}
use Rattle.kernel_model.specs.Jobs.{JobView}
use Rattle.kernel_model.specs.Turns.{IsEndOf, script_step, CarriesOut, CallbackTurn, FetchTurn, DeliverTurn, StoreTurn, SettleTurn, EndTurn, Stores, Settles}
use Rattle.kernel_core.specs.declared.any_turns.Turn.{Turn}
use Rattle.kernel_core.specs.declared.any_turns.Turn.TheVariants as turn
use Rattle.kernel_core.specs.Refused.{IsRefused}

-- The history is legal, and each settled outcome is that of the sequential evaluation under its losses. Where the
-- end stands the history is complete, the kernel has the whole evaluation, and that is within the limits.
pub record Holds (w : Known) : Type 0 where
  pub legal : IsLegal no_retries (table w.tree (lost w.past)) w.past
  pub outcomes : (k : ℕ) (outcome : Outcome) → settled_outcome w k ≡ Some outcome → outcome_at (seq w.tree.0 w.tree.1 (lost w.past)).tasks (path_at w k) ≡ Some outcome
  pub complete : has_end w.past ≡ true → IsComplete w.past
  pub evaluation : has_end w.past ≡ true → evaluated w ≡ evaluation_in (apps_in w) (seq w.tree.0 w.tree.1 (lost w.past))
  pub within : has_end w.past ≡ true → IsWithinRun (apps_in w) (seq w.tree.0 w.tree.1 (lost w.past))

-- an end that is delivered is what its job's body gives
abbrev pub IsHonest : List AppDef → Turn → Type 0
IsHonest apps (turn.Deliver done) = IsEndOf apps done
IsHonest apps _ = Unit {0}

-- what a turn does
abbrev pub Does : Known → Turn → Known → Type 0
Does w turn.Script v = v ≡ (script_step w).1
Does w turn.Callback v = (did : Bool) × CallbackTurn w did v
Does w turn.Fetch v = (job : Option JobView) × FetchTurn w job v
Does w (turn.Deliver done) v = (answer : Delivered) × DeliverTurn w done answer v
Does w turn.Store v = (did : Bool) × StoreTurn w did v
Does w turn.Settle v = (did : Bool) × SettleTurn w did v
Does w turn.End v = (did : Bool) × EndTurn w did v

-- a turn was refused, for what such a turn may be refused
abbrev pub IsTurnRefused : Known → Turn → Known → Refusal → Type 0
IsTurnRefused w turn.Script v refusal = IsRefused w v (λ u. u ≡ (script_step w).1) refusal
IsTurnRefused w turn.Callback v refusal = IsRefused w v (CarriesOut w) refusal
IsTurnRefused w turn.Store v refusal = IsRefused w v (Stores w) refusal
IsTurnRefused w turn.Settle v refusal = IsRefused w v (Settles w) refusal
IsTurnRefused w _ v refusal = (refusal ≡ NoMemory) × (v ≡ refused w NoMemory)

-- a refusal ended the turns
pub record IsCutOff (w v : Known) (refusal : Refusal) : Type 0 where
  pub accepted : w.refusal ≡ None
  pub refused : v.refusal ≡ Some refusal

-- the turns are taken in order, up to the end or a refusal
abbrev pub Took : List Turn → Known → Known → Type 0
Took [] w v = v ≡ w
Took (t ∷ ts) w v = ((has_ended w ≡ true) × (v ≡ w)) ⊎ ((has_ended w ≡ false) × (((refusal : Refusal) × IsTurnRefused w t v refusal) ⊎ ((u : Known) × Does w t u × Took ts u v)))
