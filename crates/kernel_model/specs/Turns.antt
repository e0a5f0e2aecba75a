-- What each turn of a kernel answers, and what it does.
use Rattle.std.specs.Prelude.{◌≡◌, ◌≢◌, ℕ, Bool, true, false, List, [], ◌∷◌, ◌++◌, Option, Some, None, slice_get, Result}
use Rattle.flow_base.specs.declared.value.Value.{Value, out-Value}
use Rattle.flow_base.specs.declared.outcome.Ended.{Ended}
use Rattle.flow_base.specs.declared.outcome.Ended.TheVariants as ended
use Rattle.flow_base.specs.declared.outcome.Ending.TheVariants as ending
use Rattle.flow_base.specs.declared.outcome.Ending.{Ending}
use Rattle.flow_base.specs.declared.outcome.Outcome.{Outcome}
use Rattle.flow_base.specs.declared.outcome.Outcome.TheVariants as o
use Rattle.flow_base.specs.declared.outcome.Exception.{Exception}
use Rattle.flow_base.specs.declared.outcome.Exception.TheVariants as x
use Rattle.script_tree.specs.declared.tree.AppDef.{AppDef}
use Rattle.task_record.specs.declared.status.Status.TheVariants as status
use Rattle.event_log.specs.declared.entry.Entry.{Entry}
use Rattle.flow_meaning.specs.declared.walk.Request.{Request}
use Rattle.flow_meaning.specs.declared.walk.Request.TheVariants as request
use Rattle.flow_meaning.specs.declared.walk.Answer.TheVariants as answer
use Rattle.flow_meaning.specs.Act.{Act, Give, Throw, Ask}
use Rattle.flow_meaning.specs.Meaning.{Done}
use Rattle.flow_meaning.specs.Inputs.{Path, path_in}
use Rattle.flow_meaning.specs.Operators.{Text}
use Rattle.flow_meaning.specs.Sequential.{apply, resolved, outcome_of, outcome_at, join_outcome}
use Rattle.call_rules.specs.Calls.{Begin, Fails, Attempts, Joins, join_dry, awaited}
use Rattle.kernel_model.specs.declared.answers.ScriptTurn.{ScriptTurn}
use Rattle.kernel_model.specs.declared.answers.ScriptTurn.TheVariants as turn
use Rattle.kernel_model.specs.declared.answers.Delivered.{Delivered}
use Rattle.kernel_model.specs.declared.answers.Delivered.TheVariants.{Taken, Stale}
use Rattle.memo_table.specs.Keys.{KeyView}
use Rattle.memo_table.specs.Table.{found}
use Rattle.memo_table.specs.declared.saved.Saved.{Saved}
use Rattle.kernel_model.specs.Jobs.{JobView, DoneView}
use Rattle.kernel_model.specs.Known.{Known, call_at, path_at, life_at, status_at, inputs_at, known, begin_at, key_at, saved_at, value_of, is_kept, apps_in, main_left, IsDone}
use Rattle.kernel_model.specs.Acts.{answered, call_of, called, waited, printed, checkpointed, arrived_at, main_ended, launched, started, finished, settled_as, recalled, stored_by, joined, over}
use Rattle.call_rules.specs.Groups.{AllKnown}

-- ---- main

-- a turn of main: what it answers, and the kernel after it
abbrev pub Step : Type 0
Step = ScriptTurn × Known

-- main stands at the wait for an unsettled path: an earlier turn came to it, or this one does
abbrev pub unsettled_step : Known → Path → Bool → Step
unsettled_step w p true = (turn.Waiting p, w)
unsettled_step w p false = (turn.Advanced, arrived_at w)

abbrev pub outcome_step : Known → Path → Option Outcome → Step
outcome_step w p None = unsettled_step w p w.arrived
outcome_step w p (Some outcome) = (turn.Advanced, waited w p outcome)

-- what is no future isn't waited for
abbrev pub wait_step : Known → List Path → Step
wait_step w [] = (turn.Advanced, answered w answer.Go [])
wait_step w (p ∷ ps) = outcome_step w p (outcome_at (known w) p)

abbrev pub request_step : Known → Request → Step
request_step w (request.Call app arguments names) = (turn.Advanced, called w (call_of w app arguments names))
request_step w (request.WaitValue f) = wait_step w (path_in (out-Value f))
request_step w (request.WaitName f) = wait_step w (path_in (out-Value f))
request_step w (request.Print value) = (turn.Advanced, printed w value)
request_step w request.Checkpoint = (turn.Advanced, checkpointed w)

abbrev pub act_step : Known → Act Done → Step
act_step w (Give d) = (turn.Advanced, main_ended w ending.Ended)
act_step w (Throw exception) = (turn.Advanced, main_ended w (ending.Raised exception))
act_step w (Ask wanted go) = request_step w wanted

abbrev pub unless_ended : Option Ending → Known → Step → Step
unless_ended None w step = step
unless_ended (Some e) w step = (turn.Over, w)

abbrev pub script_step : Known → Step
script_step w = unless_ended w.ending w (act_step w (main_left w))

-- ---- callbacks

-- a submitted task that has not begun, whose inputs are all settled
pub record IsCallback (w : Known) (k : ℕ) : Type 0 where
  pub pending : status_at w k ≡ status.Pending
  pub inputs : AllKnown (known w) (inputs_at w k)

-- it takes its value from the memo, or else is launched
abbrev pub attempted : Known → ℕ → Option Saved → Known
attempted w k None = launched w k
attempted w k (Some saved) = recalled w k saved

-- it is settled by one of the first three rules or for its depth, recalled or launched, or its body runs
abbrev pub carried_out : Known → ℕ → Begin → Known
carried_out w k (Fails exception) = settled_as w k (o.Failed exception)
carried_out w k (Attempts app values) = attempted w k (saved_at w k)
carried_out w k (Joins app values) = joined w k (join_dry (apps_in w) (path_at w k) app values)

-- a join whose body ran, and all that it returned has settled
pub record IsJoinDone (w : Known) (k : ℕ) : Type 0 where
  pub joining : status_at w k ≡ status.Joining
  pub result : Result Done Exception
  pub ran : (life_at w k).ran ≡ Some result
  pub awaited : AllKnown (known w) (awaited result)

-- one callback is carried out, or there is none
pub data CarriesOut (w v : Known) : Type 0 where
  begins : (k : ℕ) → IsCallback w k → v ≡ carried_out w k (begin_at w k) → CarriesOut w v
  ends : (k : ℕ) (is : IsJoinDone w k) → v ≡ settled_as w k (join_outcome (known w) is.result) → CarriesOut w v

abbrev pub CallbackTurn : Known → Bool → Known → Type 0
CallbackTurn w true v = CarriesOut w v
CallbackTurn w false v = ((k : ℕ) → IsCallback w k → ⊥) × ((k : ℕ) → IsJoinDone w k → ⊥) × (v ≡ w)

-- ---- attempts

-- the job of a task's last attempt
abbrev pub job_of : Known → ℕ → JobView
job_of w k = record {
  path = path_at w k;
  attempt = (life_at w k).attempts;
  manager = 1;
  app = (call_at w k).app;
  arguments = resolved (known w) (call_at w k).arguments;
  names = (call_at w k).names;
}

pub record Fetches (w : Known) (job : JobView) (v : Known) : Type 0 where
  pub task : ℕ
  pub waiting : status_at w task ≡ status.Launched
  pub is : job ≡ job_of w task
  pub after : v ≡ started w task

abbrev pub FetchTurn : Known → Option JobView → Known → Type 0
FetchTurn w (Some job) v = Fetches w job v
FetchTurn w None v = ((k : ℕ) → status_at w k ≢ status.Launched) × (v ≡ w)

-- how a body ends on these values
abbrev pub body_end : Option AppDef → List Value → List Text → Ended
body_end (Some app) arguments names = apply app arguments names
body_end None arguments names = ended.Raised x.TypeError

-- the end is what the job's body gives
abbrev pub IsEndOf : List AppDef → DoneView → Type 0
IsEndOf apps done = done.ended ≡ body_end (slice_get apps done.job.app) done.job.arguments done.job.names

-- the attempt runs, and this is its job
pub record IsRunning (w : Known) (job : JobView) (k : ℕ) : Type 0 where
  pub running : status_at w k ≡ status.Running
  pub is : job ≡ job_of w k

pub record Takes (w : Known) (done : DoneView) (v : Known) : Type 0 where
  pub task : ℕ
  pub running : IsRunning w done.job task
  pub after : v ≡ finished w task (outcome_of done.ended)

abbrev pub DeliverTurn : Known → DoneView → Delivered → Known → Type 0
DeliverTurn w done Taken v = Takes w done v
DeliverTurn w done Stale v = ((k : ℕ) → IsRunning w done.job k → ⊥) × (v ≡ w)

-- ---- storing

-- The attempt of a task of a cached app ended with this value, and its key is not stored.
pub record IsStore (w : Known) (k : ℕ) (key : KeyView) (saved : Saved) : Type 0 where
  pub over : status_at w k ≡ status.RunningEnded
  pub key_is : key_at w k ≡ Some key
  pub is : (life_at w k).end ≡ Some (value_of saved)
  pub fresh : found w.memo key ≡ None

pub record Stores (w v : Known) : Type 0 where
  pub task : ℕ
  pub key : KeyView
  pub saved : Saved
  pub store : IsStore w task key saved
  pub after : v ≡ stored_by w task key saved

abbrev pub StoreTurn : Known → Bool → Known → Type 0
StoreTurn w true v = Stores w v
StoreTurn w false v = ((k : ℕ) (key : KeyView) (saved : Saved) → IsStore w k key saved → ⊥) × (v ≡ w)

-- ---- settling

-- The task's attempt is over, and if it ended with the value of a cached app, its key is stored.
pub record IsSettling (w : Known) (k : ℕ) (outcome : Outcome) : Type 0 where
  pub over : status_at w k ≡ status.RunningEnded
  pub is : (life_at w k).end ≡ Some outcome
  pub kept : is_kept w.memo (key_at w k) outcome ≡ true

pub record Settles (w v : Known) : Type 0 where
  pub task : ℕ
  pub outcome : Outcome
  pub ready : IsSettling w task outcome
  pub after : v ≡ settled_as w task outcome

abbrev pub SettleTurn : Known → Bool → Known → Type 0
SettleTurn w true v = Settles w v
SettleTurn w false v = ((k : ℕ) (outcome : Outcome) → IsSettling w k outcome → ⊥) × (v ≡ w)

-- ---- the end

abbrev pub EndTurn : Known → Bool → Known → Type 0
EndTurn w true v = IsDone w × (v ≡ over w)
EndTurn w false v = (IsDone w → ⊥) × (v ≡ w)

-- ---- any turns

-- the history has only grown
pub record Extends (w v : Known) : Type 0 where
  pub added : List Entry
  pub past : v.past ≡ added ++ w.past
  pub tree : v.tree ≡ w.tree
