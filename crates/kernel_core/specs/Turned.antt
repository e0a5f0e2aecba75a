-- What the turns look for.
use Rattle.std.specs.Prelude.{◌≡◌, ℕ, ◌<◌, Bool, true, false, if◌then◌else◌, List, length, Option, Some, None, IsSome}
use Rattle.flow_base.specs.declared.value.Value.{Value}
use Rattle.flow_base.specs.declared.outcome.Exception.TheVariants as x
use Rattle.script_tree.specs.declared.tree.AppDef.{AppDef}
use Rattle.task_record.specs.declared.status.Status.TheVariants as status
use Rattle.dependency_graph.specs.declared.readiness.Readiness.{Readiness}
use Rattle.dependency_graph.specs.declared.readiness.Readiness.TheVariants as readiness
use Rattle.flow_meaning.specs.Inputs.{Path}
use Rattle.call_rules.specs.Calls.{Fails, Attempts, Joins}
use Rattle.kernel_model.specs.Jobs.{JobView}
use Rattle.kernel_model.specs.Known.{Known, has_ended, path_at, status_at, settled_outcome, begin_at}
use Rattle.kernel_model.specs.Turns.{IsCallback, IsJoinDone, IsRunning}
use Rattle.kernel_core.specs.declared.beginning.Beginning.{Beginning}
use Rattle.kernel_core.specs.declared.beginning.Beginning.TheVariants as beginning

-- the task's last attempt has ended
pub record AttemptIsOver (w : Known) (k : ℕ) : Type 0 where
  pub not_ended : has_ended w ≡ false
  pub over : status_at w k ≡ status.RunningEnded

-- no callback is ready
abbrev pub NoCallback : Known → Type 0
NoCallback w = (k : ℕ) → IsCallback w k → ⊥

-- no running attempt has this job
abbrev pub NoJob : Known → JobView → Type 0
NoJob w job = (k : ℕ) → IsRunning w job k → ⊥

-- each call is settled
abbrev pub AllSettled : Known → Type 0
AllSettled w = (k : ℕ) → k < length w.calls → IsSome (settled_outcome w k)

-- ---- places

-- the task of this number has the path
pub record IsPlaceOf (w : Known) (path : Path) (k : ℕ) : Type 0 where
  pub within : k < length w.calls
  pub is : path_at w k ≡ path

abbrev pub IsNowhere : Known → Path → Type 0
IsNowhere w path = (k : ℕ) → IsPlaceOf w path k → ⊥

-- ---- joins

-- no join has settled all that it returned
abbrev pub NoJoinDone : Known → Type 0
NoJoinDone w = (k : ℕ) → IsJoinDone w k → ⊥

-- ---- how a task begins

-- how a task of this app begins, with or without room for one more number in its path
abbrev pub beginning_of : Option AppDef → Bool → Readiness → Beginning
beginning_of app room (readiness.Settles exception) = beginning.Fails exception
beginning_of None room (readiness.Runs values) = beginning.Fails x.TypeError
beginning_of (Some app) room (readiness.Runs values) = if app.join then (if room then beginning.Joins values else beginning.Fails x.DepthError) else beginning.Attempts values

-- it gets its outcome by an attempt on these values
pub record IsAttempt (w : Known) (k : ℕ) (values : List Value) : Type 0 where
  pub app : AppDef
  pub begins : begin_at w k ≡ Attempts app values

-- its body runs on these values
pub record IsJoin (w : Known) (k : ℕ) (values : List Value) : Type 0 where
  pub app : AppDef
  pub begins : begin_at w k ≡ Joins app values

abbrev pub BeginsWith : Known → ℕ → Beginning → Type 0
BeginsWith w k (beginning.Fails exception) = begin_at w k ≡ Fails exception
BeginsWith w k (beginning.Attempts values) = IsAttempt w k values
BeginsWith w k (beginning.Joins values) = IsJoin w k values
