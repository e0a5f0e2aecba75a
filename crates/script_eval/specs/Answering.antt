-- What an evaluation adds, call by call.
use Rattle.std.specs.Prelude.{◌≡◌, ℕ, zero, suc, ◌+◌, ◌-◌, ◌≤◌, nat_lt, if◌then◌else◌, List, [], ◌∷◌, ◌++◌, length, map, drop, Option, Some, None, option_map, Result, Ok, Err, slice_get}
use Rattle.flow_base.specs.Paths.{max_path}
use Rattle.flow_base.specs.declared.value.Value.{Value, out-Value}
use Rattle.flow_base.specs.declared.value.Value.TheVariants as v
use Rattle.flow_base.specs.declared.outcome.Exception.{Exception}
use Rattle.flow_base.specs.declared.outcome.Exception.TheVariants as x
use Rattle.flow_base.specs.declared.outcome.Outcome.{Outcome}
use Rattle.flow_base.specs.declared.outcome.Outcome.TheVariants as o
use Rattle.flow_base.specs.declared.outcome.TaskEnd.{TaskEnd}
use Rattle.flow_base.specs.declared.outcome.Ended.{Ended}
use Rattle.flow_base.specs.declared.outcome.Ended.TheVariants as ended
use Rattle.flow_base.specs.declared.outcome.Ending.{Ending}
use Rattle.flow_base.specs.declared.outcome.Ending.TheVariants as ending
use Rattle.flow_base.specs.declared.outcome.Evaluation.{Evaluation}
use Rattle.flow_base.specs.Values.{units}
use Rattle.script_tree.specs.declared.tree.AppDef.{AppDef}
use Rattle.script_tree.specs.Grammar.{Tree}
use Rattle.flow_meaning.specs.declared.walk.Request.{Request}
use Rattle.flow_meaning.specs.declared.walk.Request.TheVariants as request
use Rattle.flow_meaning.specs.declared.walk.Answer.{Answer}
use Rattle.flow_meaning.specs.declared.walk.Answer.TheVariants as answer
use Rattle.flow_meaning.specs.Evaluations.{name_in}
use Rattle.flow_meaning.specs.Inputs.{Path, inputs, path_in}
use Rattle.flow_meaning.specs.Meaning.{Done}
use Rattle.flow_meaning.specs.Operators.{Text}
use Rattle.flow_meaning.specs.Sequential.{Task, Tasks, Ran, Rule, Made, no_calls, settles, join_ran, join_answer, perform, rule, outcome_at, outcome_answer, Main, main_answer, main_room, at_start, seq}
use Rattle.flow_meaning.specs.Walk.{body_act, main_act}
use Rattle.dependency_graph.specs.Places.{place_in, settled_by}
use Rattle.call_rules.specs.Calls.{Losses, child}
use Rattle.stored_units.specs.declared.units.Limit.{Limit}
use Rattle.stored_units.specs.Stored.{call_units, outcome_units}
use Rattle.stored_units.specs.Totals.{Storing, Submits, Stores, storings_in, first_limit, limit_met}
use Rattle.join_apps.specs.Bodies.{result_of}
use Rattle.script_eval.specs.declared.state.EvalTask.{EvalTask}
use Rattle.script_eval.specs.declared.state.EvalState.{EvalState}
use Rattle.script_eval.specs.declared.state.OpenCall.{OpenCall}
use Rattle.script_eval.specs.declared.evaluation.EvalFault.{EvalFault}
use Rattle.script_eval.specs.Faults.{Meets}

-- ---- what is known

-- all that is kept of a task
abbrev pub shown : List AppDef → Task → EvalTask
shown apps t = record { path = t.path; app = name_in (slice_get apps t.app); outcome = Some t.outcome }

abbrev pub path_of : Task → Path
path_of t = t.path

-- a task of which the path and the outcome are known
abbrev pub bare : Path → Outcome → Task
bare path outcome = record { path = path; app = 0; arguments = []; names = []; inputs = []; outcome = outcome }

abbrev pub settled_task : EvalTask → Option Task
settled_task t = option_map (bare t.path) t.outcome

-- the settled tasks from a place on
abbrev pub settled_from : ℕ → EvalState → Tasks
settled_from first s = settled_by (drop first s.places) (map settled_task (drop first s.tasks.items))

abbrev pub outcome_in : Option EvalTask → Option Outcome
outcome_in (Some t) = t.outcome
outcome_in None = None

-- the outcome of the task at a place, where that is one from the first on
abbrev pub outcome_from : ℕ → List EvalTask → ℕ → Option Outcome
outcome_from first ts place = if nat_lt place first then None else outcome_in (slice_get ts place)

-- ---- limits

-- the limit that storing so meets first
abbrev pub limit_behind : EvalState → List Storing → Option Limit
limit_behind s = first_limit (length s.tasks.items) s.stored

-- with so many units more
abbrev pub with_units : ℕ → EvalState → EvalState
with_units n s = record s { stored = s.stored + n }

-- no limit is met, and that is the state then; or the limit is met first
abbrev pub Takes : {A : Type 0} → List Storing → EvalState → EvalState → EvalState → Result A Limit → Type 0
Takes storings before expected now (Ok a) = (limit_behind before storings ≡ None) × (now ≡ expected)
Takes storings before expected now (Err limit) = limit_behind before storings ≡ Some limit

-- ---- what is added

-- one more task, without an outcome
pub record Opened (path : Path) (app : Text) (before now : EvalState) : Type 0 where
  pub tasks : now.tasks.items ≡ before.tasks.items ++ record { path = path; app = app; outcome = None } ∷ []
  pub places : now.places ≡ before.places ++ path ∷ []
  pub printed : now.printed ≡ before.printed
  pub stored : now.stored ≡ before.stored

-- a task gets its outcome
pub record IsSettled (place : ℕ) (outcome : Outcome) (before now : EvalState) : Type 0 where
  pub tasks : (front : List EvalTask) (t : EvalTask) (behind : List EvalTask) → before.tasks.items ≡ front ++ t ∷ behind → place ≡ length front → now.tasks.items ≡ front ++ record { path = t.path; app = t.app; outcome = Some outcome } ∷ behind
  pub places : now.places ≡ before.places
  pub printed : now.printed ≡ before.printed
  pub stored : now.stored ≡ before.stored + outcome_units outcome

abbrev pub Settles : {A : Type 0} → ℕ → Outcome → EvalState → EvalState → Result A Limit → Type 0
Settles place outcome before now (Ok a) = (limit_behind before (Stores (outcome_units outcome) ∷ []) ≡ None) × IsSettled place outcome before now
Settles place outcome before now (Err limit) = limit_behind before (Stores (outcome_units outcome) ∷ []) ≡ Some limit

-- a value is printed
pub record IsPrinted (value : Value) (before now : EvalState) : Type 0 where
  pub tasks : now.tasks.items ≡ before.tasks.items
  pub places : now.places ≡ before.places
  pub printed : now.printed ≡ before.printed ++ value ∷ []
  pub stored : now.stored ≡ before.stored + units value

abbrev pub Prints : {A : Type 0} → Value → EvalState → EvalState → Result A EvalFault → Type 0
Prints value before now (Ok a) = (limit_behind before (Stores (units value) ∷ []) ≡ None) × IsPrinted value before now
Prints value before now (Err fault) = Meets fault (limit_behind before (Stores (units value) ∷ []))

-- these tasks and printed values are new, and what is stored for them meets no limit
pub record Added (apps : List AppDef) (ts : Tasks) (values : List Value) (storings : List Storing) (before now : EvalState) : Type 0 where
  pub tasks : now.tasks.items ≡ before.tasks.items ++ map (shown apps) ts
  pub places : now.places ≡ before.places ++ map path_of ts
  pub printed : now.printed ≡ before.printed ++ values
  pub limit : (xs : List Storing) → limit_behind before (storings ++ xs) ≡ limit_behind now xs

-- the answer, and what is added; or the limit that it meets first
abbrev pub Gives : {A : Type 0} → List AppDef → Tasks → List Value → List Storing → (A → Type 0) → EvalState → EvalState → Result A EvalFault → Type 0
Gives apps ts printed storings P before now (Ok a) = P a × Added apps ts printed storings before now
Gives apps ts printed storings P before now (Err fault) = Meets fault (limit_behind before storings)

-- none of these paths is that of a call of the caller behind so many, or below it
abbrev pub Free : Path → ℕ → List Path → Type 0
Free caller calls ps = (k : ℕ) (rest : Path) → calls ≤ k → place_in ps (caller ++ suc k ∷ rest) ≡ None

-- the caller, with so many calls among the tasks from a place on, may make one more
pub record CanCall (caller : Path) (first calls : ℕ) (s : EvalState) : Type 0 where
  pub even : length s.places ≡ length s.tasks.items
  pub within : first ≤ length s.tasks.items
  pub few : calls ≤ length s.tasks.items
  pub free : Free caller calls s.places

-- ---- calls

-- the next call of this caller, with all below it
abbrev pub made_by : Rule → Path → ℕ → ℕ → List Value → List Text → Tasks → Tasks
made_by r caller calls app arguments names known =
    let ran = r (child caller calls) app arguments names known in
    record { path = child caller calls; app = app; arguments = arguments; names = names; inputs = inputs arguments; outcome = ran.outcome } ∷ ran.below

-- a call is submitted, and its task has no outcome yet
pub record Begun (path : Path) (app : Text) (units : ℕ) (before now : EvalState) : Type 0 where
  pub tasks : now.tasks.items ≡ before.tasks.items ++ record { path = path; app = app; outcome = None } ∷ []
  pub places : now.places ≡ before.places ++ path ∷ []
  pub printed : now.printed ≡ before.printed
  pub limit : (xs : List Storing) → limit_behind before (Submits units ∷ xs) ≡ limit_behind now xs

pub record IsBegun (tree : Tree) (caller : Path) (calls app : ℕ) (arguments : List Value) (names : List Text) (before now : EvalState) (c : OpenCall) : Type 0 where
  pub path : c.path ≡ child caller calls
  pub place : c.place ≡ length before.tasks.items
  pub future : c.future ≡ v.Future (child caller calls) (length names)
  pub number : c.number ≡ suc calls
  pub begun : Begun c.path (name_in (slice_get tree.0 app)) (call_units arguments names) before now

abbrev pub Begins : Tree → Path → ℕ → ℕ → List Value → List Text → EvalState → EvalState → Result OpenCall EvalFault → Type 0
Begins tree caller calls app arguments names before now (Ok c) = IsBegun tree caller calls app arguments names before now c
Begins tree caller calls app arguments names before now (Err fault) = Meets fault (limit_behind before (Submits (call_units arguments names) ∷ []))

module _ (tree : Tree) (losses : Losses) where
  -- the rule of a call of this path, and that of the calls of its body
  abbrev pub rule_at : Path → Rule
  rule_at path = rule tree.0 losses (max_path - length path)

  abbrev pub rule_below : Path → Rule
  rule_below path = rule tree.0 losses (max_path - suc (length path))

  -- how the body of a join ends, with the calls that it makes
  abbrev pub body_ran : Path → ℕ → List Value → Result Done Exception × Made
  body_ran path app values = perform (join_answer (rule_below path) path) (body_act tree (slice_get tree.0 app) values) no_calls

  -- a join, where so many numbers may follow its path
  abbrev pub join_at : ℕ → Path → ℕ → List Value → Ran
  join_at zero path app values = settles (o.Failed x.DepthError)
  join_at (suc room) path app values = join_ran (body_ran path app values)

  abbrev pub RanGives : Ran → EvalState → EvalState → Result Outcome EvalFault → Type 0
  RanGives ran = Gives tree.0 ran.below [] (storings_in [] ran.below) (λ outcome. outcome ≡ ran.outcome)

  abbrev pub BodyGives : Result Done Exception × Made → EvalState → EvalState → Result Ended EvalFault → Type 0
  BodyGives r = Gives tree.0 r.1.tasks [] (storings_in [] r.1.tasks) (λ ended. result_of ended ≡ r.0)

  -- a caller's call
  abbrev pub made_from : Path → ℕ → ℕ → ℕ → List Value → List Text → EvalState → Tasks
  made_from caller first calls app arguments names s = made_by (rule_below caller) caller calls app arguments names (settled_from first s)

  abbrev pub CallGives : Path → ℕ → ℕ → ℕ → List Value → List Text → EvalState → EvalState → Result Answer EvalFault → Type 0
  CallGives caller first calls app arguments names before =
      let ts = made_from caller first calls app arguments names before in
      Gives tree.0 ts [] (storings_in [] ts) (λ a. a ≡ answer.Called (v.Future (child caller calls) (length names))) before

  -- ---- requests

  -- the tasks that a request makes
  abbrev pub made_for : Path → ℕ → ℕ → Request → EvalState → Tasks
  made_for caller first calls (request.Call app arguments names) s = made_from caller first calls app arguments names s
  made_for caller first calls _ s = []

  abbrev pub calls_after : Request → ℕ → ℕ
  calls_after (request.Call app arguments names) calls = suc calls
  calls_after _ calls = calls

  -- of a join's body
  abbrev pub join_answer_for : Path → ℕ → Request → Answer
  join_answer_for caller calls (request.Call app arguments names) = answer.Called (v.Future (child caller calls) (length names))
  join_answer_for caller calls _ = answer.Go

  abbrev pub JoinAnswers : Path → ℕ → ℕ → Request → EvalState → EvalState → Result Answer EvalFault → Type 0
  JoinAnswers caller first calls w before =
      let ts = made_for caller first calls w before in
      Gives tree.0 ts [] (storings_in [] ts) (λ a. a ≡ join_answer_for caller calls w) before

  -- of main
  abbrev pub printed_for : Request → List Value
  printed_for (request.Print value) = value ∷ []
  printed_for _ = []

  abbrev pub stored_for : Path → ℕ → ℕ → Request → EvalState → List Storing
  stored_for caller first calls (request.Print value) s = Stores (units value) ∷ []
  stored_for caller first calls w s = storings_in [] (made_for caller first calls w s)

  -- a wait for the path of a future or an output
  abbrev pub wait_answer : Tasks → List Path → Answer
  wait_answer ts (path ∷ ps) = outcome_answer (outcome_at ts path)
  wait_answer ts [] = answer.Go

  abbrev pub main_answer_for : Path → ℕ → Request → EvalState → Answer
  main_answer_for caller calls (request.Call app arguments names) s = answer.Called (v.Future (child caller calls) (length names))
  main_answer_for caller calls (request.WaitValue f) s = wait_answer (settled_from 0 s) (path_in (out-Value f))
  main_answer_for caller calls (request.WaitName f) s = wait_answer (settled_from 0 s) (path_in (out-Value f))
  main_answer_for caller calls _ s = answer.Go

  abbrev pub MainAnswers : Path → ℕ → ℕ → Request → EvalState → EvalState → Result Answer EvalFault → Type 0
  MainAnswers caller first calls w before =
      Gives tree.0 (made_for caller first calls w before) (printed_for w) (stored_for caller first calls w before) (λ a. a ≡ main_answer_for caller calls w before) before

-- ---- the end

-- how main ends
abbrev pub ending_from : Ended → Ending
ending_from (ended.Value value files) = ending.Ended
ending_from (ended.Raised exception) = ending.Raised exception

-- these tasks are settled, and those are their ends
abbrev pub HaveEnds : List EvalTask → List TaskEnd → Type 0
HaveEnds ts ends = ts ≡ map (λ (e : TaskEnd). record { path = e.path; app = e.app; outcome = Some e.outcome }) ends

pub record AreSettled (ts : List EvalTask) : Type 0 where
  pub ends : List TaskEnd
  pub are : HaveEnds ts ends

-- the evaluation of this state
pub record IsEvaluation (s : EvalState) (e : Ended) (evaluation : Evaluation) : Type 0 where
  pub printed : evaluation.printed ≡ s.printed
  pub tasks : HaveEnds s.tasks.items evaluation.tasks
  pub main : evaluation.main ≡ ending_from e

-- ---- the whole

module _ (tree : Tree) (losses : Losses) where
  abbrev pub main_performed : Result Done Exception × Main
  main_performed = perform (main_answer (rule tree.0 losses main_room)) (main_act tree) at_start

  -- main has ended so, and no limit was met; or the limit that was met first
  abbrev pub MainGives : EvalState → Result Ended EvalFault → Type 0
  MainGives now (Ok e) =
      (limit_met (seq tree.0 tree.1 losses) ≡ None) × (now.tasks.items ≡ map (shown tree.0) main_performed.1.made.tasks) × (now.printed ≡ main_performed.1.printed) × (result_of e ≡ main_performed.0)
  MainGives now (Err fault) = Meets fault (limit_met (seq tree.0 tree.1 losses))

-- nothing is made yet
pub record IsEmpty (s : EvalState) : Type 0 where
  pub tasks : s.tasks.items ≡ []
  pub places : s.places ≡ []
  pub printed : s.printed ≡ []
  pub stored : s.stored ≡ 0
