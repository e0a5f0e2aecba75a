-- What the acts of joins take and do.
use Rattle.std.specs.Prelude.{◌≡◌, ◌≤◌, ℕ, ◌+◌, false, List, map, length, sum, None, slice_get}
use Rattle.flow_base.specs.declared.value.Value.{Value}
use Rattle.flow_base.specs.declared.outcome.Ended.{Ended}
use Rattle.script_tree.specs.declared.tree.AppDef.{AppDef}
use Rattle.task_record.specs.declared.status.Status.TheVariants as status
use Rattle.event_log.specs.declared.entry.Entry.{Entry}
use Rattle.event_log.specs.declared.entry.Entry.TheVariants as entry
use Rattle.flow_meaning.specs.Evaluations.{name_in}
use Rattle.flow_meaning.specs.Inputs.{Path}
use Rattle.flow_meaning.specs.Sequential.{join_outcome}
use Rattle.call_rules.specs.Calls.{Joins, join_dry}
use Rattle.stored_units.specs.Stored.{max_tasks, max_stored}
use Rattle.join_apps.specs.declared.body.JoinCall.{JoinCall}
use Rattle.join_apps.specs.Bodies.{calls_of, result_of}
use Rattle.kernel_model.specs.Known.{Known, has_ended, path_at, known, begin_at, apps_in}
use Rattle.kernel_model.specs.Acts.{settled_as}
use Rattle.kernel_model.specs.Limits.{stored, units_of_call}
use Rattle.kernel_model.specs.Turns.{IsCallback, IsJoinDone}
use Rattle.kernel_core.specs.declared.task.Task.{Task}

-- the body of a join may run on these values
pub record CanRunJoin (w : Known) (k : ℕ) (values : List Value) : Type 0 where
  pub not_ended : has_ended w ≡ false
  pub callback : IsCallback w k
  pub app : AppDef
  pub begins : begin_at w k ≡ Joins app values

-- its body ended so and made these calls, which weigh so many units, and they are within the limits
pub record AddsCalls (w : Known) (k : ℕ) (ended : Ended) (calls : List JoinCall) (units : ℕ) : Type 0 where
  pub values : List Value
  pub can : CanRunJoin w k values
  pub gave : (result_of ended, calls_of calls) ≡ join_dry (apps_in w) (path_at w k) can.app values
  pub units_are : units ≡ sum (map units_of_call (calls_of calls))
  pub few : length w.calls + length calls ≤ max_tasks
  pub small : stored w + units ≤ max_stored

-- a join whose body ran, and all that it returned has settled
pub record IsOver (w : Known) (k : ℕ) : Type 0 where
  pub not_ended : has_ended w ≡ false
  pub done : IsJoinDone w k

-- it settles by the outcomes of what it returned
abbrev pub JoinEnds : Known → ℕ → Known → Type 0
JoinEnds w k v = (done : IsJoinDone w k) → v ≡ settled_as w k (join_outcome (known w) done.result)

-- the task of a call that is submitted
abbrev pub new_task : JoinCall → Task
new_task c = record { «record» = record { path = c.path; app = c.app; arguments = c.arguments; names = c.names; status = status.Pending; attempts = 0; cost = 0 }; end = None; ran = None }

abbrev pub new_tasks : List JoinCall → List Task
new_tasks = map new_task

abbrev pub submission : List AppDef → Task → Entry
submission apps t = entry.Submit t.record.path (name_in (slice_get apps t.record.app))

abbrev pub submissions : List AppDef → List Task → List Entry
submissions apps = map (submission apps)

abbrev pub task_paths : List Task → List Path
task_paths = map (λ (t : Task). t.record.path)
