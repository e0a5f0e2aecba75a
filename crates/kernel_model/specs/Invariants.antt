-- What a kernel keeps to.
use Rattle.std.specs.Prelude.{◌≡◌, ◌≢◌, ℕ, ◌+◌, ◌<◌, ◌≤◌, Bool, true, false, List, [], ◌∷◌, length, Option, Some, None, IsSome, is_some, slice_get, Result}
use Rattle.flow_base.specs.declared.value.Value.{Value}
use Rattle.flow_base.specs.declared.outcome.Ending.{Ending}
use Rattle.flow_base.specs.declared.outcome.Ending.TheVariants as ending
use Rattle.flow_base.specs.declared.outcome.Exception.{Exception}
use Rattle.flow_base.specs.declared.outcome.Outcome.{Outcome}
use Rattle.script_tree.specs.declared.tree.AppDef.{AppDef}
use Rattle.script_tree.specs.Canonical as canonical
use Rattle.script_tree.specs.Grammar.{Tree}
use Rattle.task_record.specs.declared.status.Status.{Status}
use Rattle.task_record.specs.declared.status.Status.TheVariants as status
use Rattle.task_record.specs.States.{is_settled}
use Rattle.flow_meaning.specs.Act.{Act, Give, Throw, Ask}
use Rattle.flow_meaning.specs.Inputs.{Path}
use Rattle.flow_meaning.specs.Meaning.{Done}
use Rattle.flow_meaning.specs.Sequential.{Made, outcome_at, perform, main_answer, apply, outcome_of}
use Rattle.flow_meaning.specs.Evaluations.{no_losses}
use Rattle.history_laws.specs.declared.table.MainEvent.{MainEvent}
use Rattle.history_laws.specs.declared.table.MainEvent.TheVariants as act
use Rattle.history_laws.specs.declared.table.Retries.{Retries}
use Rattle.call_rules.specs.Calls.{Losses, Call, child, Attempts, Joins, calls_below, awaits, call_outcome, join_dry}
use Rattle.memo_table.specs.Keys.{KeyView}
use Rattle.memo_table.specs.Table.{found, AreOnce}
use Rattle.memo_table.specs.declared.saved.Saved.{Saved}
use Rattle.history_laws.specs.Reads.{History, has_hit, stores, submits, is_submitted, has_joined, due, settled, launches, stage, last_try, Stage, Unlaunched, Waiting, Running, Over, costs, cost, has_end, lost}
use Rattle.history_laws.specs.Tables.{calls_in, acts_of, status_of, is_join, table, table_key}
use Rattle.history_laws.specs.Laws.{state_with}
use Rattle.history_laws.specs.Legal.{IsLegal}
use Rattle.call_rules.specs.Groups.{AllKnown, HasTask, IsGroup}
use Rattle.call_rules.specs.Told.{Asks, IsTold, whole_ran, whole}
use Rattle.kernel_model.specs.Known.{Known, Life, no_life, no_retries, call_at, path_at, life_at, status_at, settled_outcome, inputs_at, known, begin_at, key_at, value_of, is_kept, word_of, main_rule, main_left, printed_in, apps_in, IsDone}

-- ---- tasks and their history

abbrev pub stage_with : Status → Option Outcome → Stage
stage_with status.Launched end = Waiting
stage_with status.Running end = Running
stage_with status.RunningEnded (Some outcome) = Over (word_of outcome)
stage_with _ end = Unlaunched

-- the same without starts
abbrev pub try_with : Status → Option Outcome → Stage
try_with status.Launched end = Waiting
try_with status.Running end = Waiting
try_with status.RunningEnded (Some outcome) = Over (word_of outcome)
try_with _ end = Unlaunched

-- the cost of the last attempt, where it has ended and the task isn't settled
abbrev pub last_cost : Retries → Status → Option Outcome → ℕ
last_cost r status.RunningEnded (Some outcome) = cost r (word_of outcome)
last_cost r _ end = 0

-- a state that tasks may have
abbrev pub IsReached : Life → Status → Type 0
IsReached life status.Unsched = life.ran ≡ None
IsReached life status.Pending = life.ran ≡ None
IsReached life status.Launched = life.ran ≡ None
IsReached life status.Running = life.ran ≡ None
IsReached life status.RunningEnded = IsSome life.end × (life.ran ≡ None)
IsReached life status.Joining = IsSome life.ran
IsReached life status.ExecDone = IsSome life.end
IsReached life status.Failed = IsSome life.end
IsReached life status.DepFail = IsSome life.end
IsReached life status.MemoDone = IsSome life.end
IsReached life _ = ⊥

-- a task without an outcome is what the history says of it
pub record IsOpen (r : Retries) (p : Path) (b : History) (life : Life) : Type 0 where
  pub attempts : life.attempts ≡ launches p b
  pub costs : life.cost + last_cost r life.status life.end ≡ costs r p b
  pub stage : stage_with life.status life.end ≡ stage p b
  pub last : try_with life.status life.end ≡ last_try p b
  pub unsettled : settled p b ≡ None

-- the state of a task that took its value from the memo
abbrev pub is_memoised : Status → Bool
is_memoised status.MemoDone = true
is_memoised _ = false

-- a task with an outcome has settled in its state
pub record IsClosed (p : Path) (b : History) (life : Life) : Type 0 where
  pub settled : settled p b ≡ Some life.status
  pub state : (outcome : Outcome) → life.end ≡ Some outcome → state_with (is_memoised life.status) (status_of outcome) ≡ Some life.status

pub record IsLife (r : Retries) (p : Path) (b : History) (life : Life) : Type 0 where
  pub reached : IsReached life life.status
  pub first : life.status ≡ status.Pending → life.attempts ≡ 0
  pub joined : has_joined p b ≡ is_some life.ran
  pub hit : has_hit p b ≡ is_memoised life.status
  pub opened : is_settled life.status ≡ false → IsOpen r p b life
  pub closed : is_settled life.status ≡ true → IsClosed p b life

abbrev pub HasRun : Status → Type 0
HasRun status.Launched = Unit {0}
HasRun status.Running = Unit {0}
HasRun status.RunningEnded = Unit {0}
HasRun _ = ⊥

-- a call that is there
pub record IsCall (w : Known) (c : Call) : Type 0 where
  pub place : ℕ
  pub within : place < length w.calls
  pub is : call_at w place ≡ c

-- a call is main's, or one of a join whose body ran
pub data IsOf (w : Known) (k : ℕ) : Type 0 where
  of_main : (i : ℕ) → i < submits w.past → path_at w k ≡ child [] i → IsOf w k
  of_join : (j i : ℕ) → j < length w.calls → IsSome (life_at w j).ran → path_at w k ≡ child (path_at w j) i → IsOf w k

-- the join whose calls are being submitted, so many of them so far
pub record IsDue (w : Known) (p : Path) (n : ℕ) : Type 0 where
  pub place : ℕ
  pub within : place < length w.calls
  pub is : p ≡ path_at w place
  pub ran : IsSome (life_at w place).ran
  pub fresh : (k i : ℕ) → k < length w.calls → path_at w k ≡ child p i → i < n

-- ---- evaluation

-- a settled task has the outcome that its rule gives, under these losses, by what is known
pub record FitsAt (losses : Losses) (w : Known) (k : ℕ) (outcome : Outcome) : Type 0 where
  pub inputs : AllKnown (known w) (inputs_at w k)
  pub awaited : AllKnown (known w) (awaits (apps_in w) (known w) (call_at w k))
  pub by_rule : outcome ≡ call_outcome (apps_in w) losses (known w) (call_at w k)

-- every settled task fits the losses
abbrev pub FitsLosses : Losses → Known → Type 0
FitsLosses losses w = (k : ℕ) (outcome : Outcome) → settled_outcome w k ≡ Some outcome → FitsAt losses w k outcome

-- The evaluation goes on with what is left of main, has a task for each call, and has the outcomes that are known.
pub record FollowsEvaluation (losses : Losses) (w : Known) : Type 0 where
  pub made : Made
  pub count : made.calls ≡ submits w.past
  pub group : IsGroup (apps_in w) losses [] made
  pub goes_on : whole_ran w.tree losses ≡ perform (main_answer (main_rule w losses)) (main_left w) (record { made = made; acts = w.acts; printed = printed_in w.acts })
  pub placed : (k : ℕ) → k < length w.calls → HasTask (whole w.tree losses) (call_at w k)
  pub agrees : (k : ℕ) (outcome : Outcome) → settled_outcome w k ≡ Some outcome → outcome_at (whole w.tree losses) (path_at w k) ≡ Some outcome

-- what main waited for has settled
abbrev pub WaitsSettled : List MainEvent → History → Type 0
WaitsSettled [] b = Unit {0}
WaitsSettled (act.Call ∷ acts) b = WaitsSettled acts b
WaitsSettled (act.Wait p ∷ acts) b = IsSome (settled p b) × WaitsSettled acts b

-- main ended so
abbrev pub EndsSo : Ending → Act Done → Type 0
EndsSo e (Give d) = e ≡ ending.Ended
EndsSo e (Throw exception) = e ≡ ending.Raised exception
EndsSo e (Ask wanted go) = ⊥

-- ---- the parts of the whole

-- the tasks are what the history says
pub record Tracks (w : Known) : Type 0 where
  pub lives : length w.lives ≡ length w.calls
  pub distinct : (j k : ℕ) → j < length w.calls → k < length w.calls → path_at w j ≡ path_at w k → j ≡ k
  pub there : (k : ℕ) → k < length w.calls → is_submitted (path_at w k) w.past ≡ true
  pub lived : (k : ℕ) → k < length w.calls → IsLife no_retries (path_at w k) w.past (life_at w k)
  pub none : (p : Path) → ((k : ℕ) → k < length w.calls → path_at w k ≢ p) → IsLife no_retries p w.past no_life
  pub begun : (k : ℕ) → k < length w.calls → status_at w k ≡ status.Unsched → ⊥
  pub family : (k : ℕ) → k < length w.calls → IsOf w k

-- an attempt of a task that gets its outcome by attempts
pub record IsAttempted (w : Known) (k : ℕ) : Type 0 where
  pub inputs : AllKnown (known w) (inputs_at w k)
  pub app : AppDef
  pub values : List Value
  pub begins : begin_at w k ≡ Attempts app values

-- what was launched had the values of its inputs, and what ended is what its body gives
pub record Runs (w : Known) : Type 0 where
  pub attempted : (k : ℕ) → HasRun (status_at w k) → IsAttempted w k
  pub ended : (k : ℕ) (outcome : Outcome) → status_at w k ≡ status.RunningEnded → (life_at w k).end ≡ Some outcome → outcome ≡ call_outcome (apps_in w) no_losses (known w) (call_at w k)

-- a join whose body ran on the values of its inputs, and whose calls are there, those aside that are still due
pub record IsJoined (w : Known) (k : ℕ) (result : Result Done Exception) : Type 0 where
  pub inputs : AllKnown (known w) (inputs_at w k)
  pub app : AppDef
  pub values : List Value
  pub begins : begin_at w k ≡ Joins app values
  pub gave : result ≡ (join_dry (apps_in w) (path_at w k) app values).0
  pub children : (i : ℕ) (c : Call) → slice_get (join_dry (apps_in w) (path_at w k) app values).1 i ≡ Some c → ((n : ℕ) → due w.past ≡ Some (path_at w k, n) → i < n) → IsCall w c

pub record JoinsRan (w : Known) : Type 0 where
  pub ran : (k : ℕ) (result : Result Done Exception) → (life_at w k).ran ≡ Some result → IsJoined w k result
  -- a join is settled after its body ran
  pub settled : (k : ℕ) (outcome : Outcome) → settled_outcome w k ≡ Some outcome → is_join (begin_at w k) ≡ true → IsSome (life_at w k).ran
  pub is_due : (p : Path) (n : ℕ) → due w.past ≡ Some (p, n) → IsDue w p n

-- the app is one of the script's
pub record HasApp (apps : List AppDef) (app : AppDef) : Type 0 where
  pub number : ℕ
  pub there : slice_get apps number ≡ Some app

-- no two apps of the script have one text
abbrev pub TextsDiffer : Tree → Type 0
TextsDiffer tree = (a b : AppDef) → HasApp tree.0 a → HasApp tree.0 b → canonical.app a ≡ canonical.app b → a ≡ b

-- what is stored of this key is what each app of its text gives
abbrev pub IsValueOf : List AppDef → KeyView → Saved → Type 0
IsValueOf apps key saved = (app : AppDef) → HasApp apps app → canonical.app app ≡ key.app → outcome_of (apply app key.arguments key.names) ≡ value_of saved

-- the key of a task whose inputs are known
pub record IsTaskKey (w : Known) (key : KeyView) : Type 0 where
  pub place : ℕ
  pub within : place < length w.calls
  pub inputs : AllKnown (known w) (inputs_at w place)
  pub is : key_at w place ≡ Some key

-- the memo is what the history says, and has the values of calls
pub record Memoises (w : Known) : Type 0 where
  pub once : AreOnce w.memo
  pub values : (key : KeyView) (saved : Saved) → found w.memo key ≡ Some saved → IsValueOf (apps_in w) key saved
  pub made : (key : KeyView) → IsSome (found w.memo key) → IsTaskKey w key
  -- the value of a settled task is stored
  pub kept : (k : ℕ) (outcome : Outcome) → settled_outcome w k ≡ Some outcome → is_kept w.memo (key_at w k) outcome ≡ true
  pub told : (losses : Losses) → FitsLosses losses w → (key : KeyView) → stores (table_key (table w.tree losses)) key w.past ≡ is_some (found w.memo key)

-- main's calls and acts
pub record MainDid (w : Known) : Type 0 where
  pub asks : Asks [] (submits w.past) (main_left w)
  pub mains : (i : ℕ) → i < submits w.past → (k : ℕ) × (k < length w.calls) × (path_at w k ≡ child [] i)
  pub called : calls_in (acts_of w.acts) ≡ submits w.past
  pub waits : WaitsSettled (acts_of w.acts) w.past
  pub ended : (e : Ending) → w.ending ≡ Some e → EndsSo e (main_left w)

-- the history is legal, and its outcomes are those of the evaluation
pub record IsRight (w : Known) : Type 0 where
  -- what has settled fits the losses of the history
  pub fits : FitsLosses (lost w.past) w
  pub evaluates : (losses : Losses) → FitsLosses losses w → FollowsEvaluation losses w
  pub legal : (losses : Losses) → FitsLosses losses w → IsLegal no_retries (table w.tree losses) w.past
  -- nothing is left behind the end
  pub ends : has_end w.past ≡ true → IsDone w

-- it holds between the entries of a turn too
pub record IsConsistent (w : Known) : Type 0 where
  pub told : IsTold w.tree
  pub texts : TextsDiffer w.tree
  pub tracks : Tracks w
  pub runs : Runs w
  pub joins : JoinsRan w
  pub memo : Memoises w
  pub main : MainDid w
  pub right : IsRight w

-- no call of a join is still to be submitted
abbrev pub IsQuiet : Known → Type 0
IsQuiet w = (k n : ℕ) → k < length w.calls → due w.past ≡ Some (path_at w k, n) → length (calls_below (apps_in w) (known w) (call_at w k)) ≤ n

pub record Inv (w : Known) : Type 0 where
  pub holds : IsConsistent w
  pub quiet : IsQuiet w

-- ---- growth

-- what no act takes back
pub record GrowsInto (w v : Known) : Type 0 where
  pub tree : v.tree ≡ w.tree
  pub outcome : (k : ℕ) (outcome : Outcome) → settled_outcome w k ≡ Some outcome → settled_outcome v k ≡ Some outcome
  pub calls : length w.calls ≤ length v.calls
  pub call : (k : ℕ) → k < length w.calls → call_at v k ≡ call_at w k
