-- What main's turns take, and what they do.
use Rattle.std.specs.Prelude.{◌≡◌, ℕ, ◌+◌, ◌<◌, ◌≤◌, [], ◌∷◌, length, Option, Some, None}
use Rattle.flow_base.specs.declared.value.Value.{Value, out-Value}
use Rattle.flow_base.specs.declared.outcome.Ended.{Ended}
use Rattle.flow_base.specs.declared.outcome.Ended.TheVariants as ended
use Rattle.flow_base.specs.declared.outcome.Ending.{Ending}
use Rattle.flow_base.specs.declared.outcome.Ending.TheVariants as ending
use Rattle.flow_base.specs.declared.outcome.Outcome.{Outcome}
use Rattle.flow_meaning.specs.declared.walk.Request.{Request}
use Rattle.flow_meaning.specs.declared.walk.Request.TheVariants as request
use Rattle.flow_meaning.specs.Inputs.{Path, path_in}
use Rattle.call_rules.specs.Calls.{Call}
use Rattle.stored_units.specs.Stored.{max_tasks, max_stored}
use Rattle.kernel_model.specs.Known.{Known, path_at, settled_outcome}
use Rattle.kernel_model.specs.Acts.{waited}
use Rattle.kernel_model.specs.Conditions.{MainAsks}
use Rattle.kernel_model.specs.Limits.{stored, units_of_call}

-- the future or output that a request waits for
abbrev pub waited_for : Request → Option Value
waited_for (request.WaitValue f) = Some f
waited_for (request.WaitName f) = Some f
waited_for _ = None

-- main waits for this
pub record IsAt (w : Known) (f : Value) : Type 0 where
  pub wanted : Request
  pub asks : MainAsks w wanted
  pub waits : waited_for wanted ≡ Some f

-- main waits for the call of this number
pub record WaitsFor (w : Known) (k : ℕ) : Type 0 where
  pub future : Value
  pub at : IsAt w future
  pub path : path_in (out-Value future) ≡ path_at w k ∷ []
  pub within : k < length w.calls

-- and it is settled
pub record CanWait (w : Known) (k : ℕ) : Type 0 where
  pub waits : WaitsFor w k
  pub outcome : Outcome
  pub settled : settled_outcome w k ≡ Some outcome

-- and it isn't
pub record CanArrive (w : Known) : Type 0 where
  pub call : ℕ
  pub waits : WaitsFor w call
  pub unsettled : settled_outcome w call ≡ None

-- main went on with the outcome of this call
abbrev pub IsWaited : Known → ℕ → Known → Type 0
IsWaited w k v = (outcome : Outcome) → settled_outcome w k ≡ Some outcome → v ≡ waited w (path_at w k) outcome

-- a call of this path and so many units, within the limits
pub record AddsCall (w : Known) (c : Call) (path : Path) (units : ℕ) : Type 0 where
  pub path_is : path ≡ c.path
  pub units_are : units ≡ units_of_call c
  pub few : length w.calls < max_tasks
  pub small : stored w + units ≤ max_stored

-- ---- by number

-- the value is a future or an output of the task of this number
pub record IsOfCall (w : Known) (value : Value) (k : ℕ) : Type 0 where
  pub path : path_in (out-Value value) ≡ path_at w k ∷ []
  pub within : k < length w.calls

-- of no task
abbrev pub IsOfNoCall : Known → Value → Type 0
IsOfNoCall w value = (k : ℕ) → IsOfCall w value k → ⊥

-- a request that waits for this call
pub record IsWaitOf (w : Known) (wanted : Request) (k : ℕ) : Type 0 where
  pub future : Value
  pub waits : waited_for wanted ≡ Some future
  pub path : path_in (out-Value future) ≡ path_at w k ∷ []
  pub within : k < length w.calls

-- how main ended, by how its body did
abbrev pub ending_in : Ended → Ending
ending_in (ended.Value value files) = ending.Ended
ending_in (ended.Raised exception) = ending.Raised exception
