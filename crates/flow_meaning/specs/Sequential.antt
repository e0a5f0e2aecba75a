-- The rule of a call, and the sequential evaluation.
use Rattle.std.specs.Prelude.{ℕ, zero, suc, ◌-◌, Bool, true, false, if◌then◌else◌, List, [], ◌∷◌, ◌++◌, length, map, Option, Some, None, Result, Ok, Err, bytes_eq, slice_get, filter}
use Rattle.std.specs.List.{list_all}
use Rattle.flow_base.specs.Paths.{max_path}
use Rattle.flow_base.specs.declared.value.Value.{Value, out-Value}
use Rattle.flow_base.specs.declared.value.Value.TheOpen.{Value-F}
use Rattle.flow_base.specs.declared.value.Value.TheVariants as v
use Rattle.flow_base.specs.declared.outcome.FileOut.{FileOut}
use Rattle.flow_base.specs.declared.outcome.Exception.{Exception}
use Rattle.flow_base.specs.declared.outcome.Exception.TheVariants as x
use Rattle.flow_base.specs.declared.outcome.Outcome.{Outcome}
use Rattle.flow_base.specs.declared.outcome.Outcome.TheVariants as o
use Rattle.flow_base.specs.declared.outcome.Ended.{Ended}
use Rattle.flow_base.specs.declared.outcome.Ended.TheVariants as ended
use Rattle.flow_base.specs.declared.outcome.Ending.{Ending}
use Rattle.flow_base.specs.declared.outcome.Ending.TheVariants as ending
use Rattle.flow_base.specs.Values.{fits}
use Rattle.script_tree.specs.declared.tree.AppDef.{AppDef}
use Rattle.script_tree.specs.declared.tree.Block.{Block}
use Rattle.flow_meaning.specs.declared.walk.Request.{Request}
use Rattle.flow_meaning.specs.declared.walk.Request.TheVariants as request
use Rattle.flow_meaning.specs.declared.walk.Answer.{Answer}
use Rattle.flow_meaning.specs.declared.walk.Answer.TheVariants as answer
use Rattle.flow_meaning.specs.Act.{Act, Give, Throw, Ask}
use Rattle.flow_meaning.specs.Operators.{Layer, Text}
use Rattle.flow_meaning.specs.Meaning.{Done, body}
use Rattle.flow_meaning.specs.Inputs.{Path, path_in, inputs, are_deep, distinct}

-- ---- an act, its requests answered one after another

abbrev pub perform : {A S : Type 0} → (Request → S → Answer × S) → Act A → S → Result A Exception × S
perform answer (Give a) s = (Ok a, s)
perform answer (Throw exception) s = (Err exception, s)
perform answer (Ask w go) s = let r = answer w s in perform answer (go r.0) r.1

-- ---- a plain app

-- how an act ends that asks for nothing
abbrev pub end_of : Act Done → Ended
end_of (Give d) = ended.Value d.0 d.1
end_of (Throw exception) = ended.Raised exception
end_of (Ask w go) = ended.Raised x.TypeError

-- the meaning of a plain app
unfoldable pub apply : AppDef → List Value → List Text → Ended
apply app arguments names = end_of (body [] app.body app.parameters arguments names)

abbrev pub outcome_of : Ended → Outcome
outcome_of (ended.Value value files) = o.Value value files
outcome_of (ended.Raised exception) = o.Failed exception

-- ---- tasks

pub record Task : Type 0 where
  pub path : Path
  pub app : ℕ
  pub arguments : List Value
  pub names : List Text
  pub inputs : List Path
  pub outcome : Outcome

abbrev pub Tasks : Type 0
Tasks = List Task

abbrev pub outcome_at : Tasks → Path → Option Outcome
outcome_at [] p = None
outcome_at (t ∷ ts) p = if bytes_eq t.path p then Some t.outcome else outcome_at ts p

abbrev pub failed : Option Outcome → Bool
failed (Some (o.Failed exception)) = true
failed _ = false

abbrev pub failed_among : Tasks → List Path → List Path
failed_among ts = filter (λ p. failed (outcome_at ts p))

-- ---- arguments with values and files in place of futures and outputs

abbrev pub value_in : Option Outcome → Value
value_in (Some (o.Value value files)) = value
value_in _ = v.Nothing

abbrev pub file_value : Option FileOut → Value
file_value (Some f) = v.File f.name f.content
file_value None = v.Nothing

abbrev pub file_in : Option Outcome → ℕ → Value
file_in (Some (o.Value value files)) i = file_value (slice_get files i)
file_in _ i = v.Nothing

abbrev pub replaced : Tasks → Value → Layer → Value
replaced ts whole (Value-F.Future path outputs) = value_in (outcome_at ts path)
replaced ts whole (Value-F.Output path index) = file_in (outcome_at ts path) index
replaced ts whole _ = whole

abbrev pub replaced_in : Tasks → Value → Layer → Value
replaced_in ts whole (Value-F.List vs) = v.List (map (λ item. replaced ts item (out-Value item)) vs)
replaced_in ts whole other = replaced ts whole other

unfoldable pub resolved : Tasks → List Value → List Value
resolved ts = map (λ a. replaced_in ts a (out-Value a))

-- ---- joins

-- the futures that a join returned, alone or as the items of a list
abbrev pub future_in : Layer → Option Path
future_in (Value-F.Future path outputs) = Some path
future_in _ = None

abbrev pub with_front : Option Path → Option (List Path) → Option (List Path)
with_front (Some p) (Some ps) = Some (p ∷ ps)
with_front _ _ = None

abbrev pub futures_in : List Value → Option (List Path)
futures_in [] = Some []
futures_in (v ∷ vs) = with_front (future_in (out-Value v)) (futures_in vs)

abbrev pub one_value : Tasks → Path → Outcome
one_value ts p = if failed (outcome_at ts p) then o.Failed (x.JoinError (p ∷ [])) else o.Value (value_in (outcome_at ts p)) []

abbrev pub limited_outcome : Value → Outcome
limited_outcome v = if fits v then o.Value v [] else o.Failed x.SizeError

abbrev pub unless_failed : List Path → Outcome → Outcome
unless_failed [] outcome = outcome
unless_failed (p ∷ ps) outcome = o.Failed (x.JoinError (p ∷ ps))

abbrev pub all_values : Tasks → Option (List Path) → Outcome
all_values ts (Some ps) = unless_failed (failed_among ts (distinct ps)) (limited_outcome (v.List (map (λ p. value_in (outcome_at ts p)) ps)))
all_values ts None = o.Failed x.TypeError

abbrev pub join_value : Tasks → Layer → Outcome
join_value ts (Value-F.Future path outputs) = one_value ts path
join_value ts (Value-F.List vs) = all_values ts (futures_in vs)
join_value ts _ = o.Failed x.TypeError

-- by what the body gave, with the tasks that it made
unfoldable pub join_outcome : Tasks → Result Done Exception → Outcome
join_outcome ts (Ok d) = join_value ts (out-Value d.0)
join_outcome ts (Err exception) = o.Failed exception

-- ---- the rule of a call

-- the outcome of a call, with the tasks below it in path order
pub record Ran : Type 0 where
  pub outcome : Outcome
  pub below : Tasks

abbrev pub settles : Outcome → Ran
settles outcome = record { outcome = outcome; below = [] }

-- the calls that a caller made, and their tasks with those below them, in path order
pub record Made : Type 0 where
  pub calls : ℕ
  pub tasks : Tasks

abbrev pub no_calls : Made
no_calls = record { calls = 0; tasks = [] }

-- what gives a call of this path, app, arguments and names its outcome, where these tasks are known
abbrev pub Rule : Type 0
Rule = Path → ℕ → List Value → List Text → Tasks → Ran

-- a call of the caller: the future that it gets, and what was made then
abbrev pub makes : Rule → Path → ℕ → List Value → List Text → Made → Answer × Made
makes rule caller app arguments names m =
    let path = caller ++ suc m.calls ∷ [] in
    let ran = rule path app arguments names m.tasks in
    let task : Task = record { path = path; app = app; arguments = arguments; names = names; inputs = inputs arguments; outcome = ran.outcome } in
    (answer.Called (v.Future path (length names)), record { calls = suc m.calls; tasks = m.tasks ++ task ∷ ran.below })

-- a join's body only calls
abbrev pub join_answer : Rule → Path → Request → Made → Answer × Made
join_answer rule caller (request.Call app arguments names) m = makes rule caller app arguments names m
join_answer rule caller _ m = (answer.Go, m)

abbrev pub join_ran : Result Done Exception × Made → Ran
join_ran r = record { outcome = join_outcome r.1.tasks r.0; below = r.1.tasks }

abbrev pub lost_or : Option ℕ → Outcome → Outcome
lost_or (Some manager) outcome = o.Failed (x.ManagerLost manager)
lost_or None outcome = outcome

abbrev pub unless_dependency : List Path → Ran → Ran
unless_dependency [] ran = ran
unless_dependency (p ∷ ps) ran = settles (o.Failed (x.DependencyError (p ∷ ps)))

module _ (apps : List AppDef) (losses : Path → Option ℕ) where
  abbrev pub app_names : List Text
  app_names = map (λ a. a.name) apps

  -- a join's body, its calls made in order by the rule
  abbrev pub runs_join : Rule → Path → AppDef → List Value → Ran
  runs_join rule path app arguments =
      join_ran (perform (join_answer rule path) (body app_names app.body app.parameters arguments []) no_calls)

  -- Rules 4 to 7. The number is how many numbers a path below may still get.
  abbrev pub runs : ℕ → Rule → Path → Option AppDef → List Value → List Text → Ran
  runs room below path None arguments names = settles (o.Failed x.TypeError)
  runs zero below path (Some app) arguments names =
      if app.join then settles (o.Failed x.DepthError) else settles (lost_or (losses path) (outcome_of (apply app arguments names)))
  runs (suc room) below path (Some app) arguments names =
      if app.join then runs_join below path app arguments else settles (lost_or (losses path) (outcome_of (apply app arguments names)))

  -- the first rule that fits
  abbrev pub by_rules : ℕ → Rule → Rule
  by_rules room below path app arguments names ts =
      if are_deep arguments then settles (o.Failed x.TypeError)
      else unless_dependency (failed_among ts (inputs arguments))
      (let values = resolved ts arguments in
      if list_all fits values then runs room below path (slice_get apps app) values names else settles (o.Failed x.SizeError))

  abbrev pub rule : ℕ → Rule
  rule zero = by_rules zero (λ path app arguments names ts. settles (o.Failed x.DepthError))
  rule (suc room) = by_rules (suc room) (rule room)

-- ---- main

pub data MainAct : Type 0 where
  Calls : Path → MainAct
  Waits : Path → MainAct
  Prints : Value → MainAct
  Checkpoints : MainAct

pub record Main : Type 0 where
  pub made : Made
  pub acts : List MainAct
  pub printed : List Value

abbrev pub acted : Main → MainAct → Main
acted m act = record m { acts = m.acts ++ act ∷ [] }

abbrev pub outcome_answer : Option Outcome → Answer
outcome_answer (Some outcome) = answer.Outcome outcome
outcome_answer None = answer.Go

-- waits for the path of a future or an output
abbrev pub waits : Main → List Path → Answer × Main
waits m (path ∷ ps) = (outcome_answer (outcome_at m.made.tasks path), acted m (Waits path))
waits m [] = (answer.Go, m)

abbrev pub after_call : Main → Answer × Made → Answer × Main
after_call m r = (r.0, record m { made = r.1; acts = m.acts ++ Calls (r.1.calls ∷ []) ∷ [] })

abbrev pub main_answer : Rule → Request → Main → Answer × Main
main_answer rule (request.Call app arguments names) m = after_call m (makes rule [] app arguments names m.made)
main_answer rule (request.WaitValue f) m = waits m (path_in (out-Value f))
main_answer rule (request.WaitName f) m = waits m (path_in (out-Value f))
main_answer rule (request.Print value) m = (answer.Go, record (acted m (Prints value)) { printed = m.printed ++ value ∷ [] })
main_answer rule request.Checkpoint m = (answer.Go, acted m Checkpoints)

pub record Sequential : Type 0 where
  pub tasks : Tasks
  pub acts : List MainAct
  pub printed : List Value
  pub ending : Ending

abbrev pub ending_of : Result Done Exception → Ending
ending_of (Ok d) = ending.Ended
ending_of (Err exception) = ending.Raised exception

abbrev pub sequential : Result Done Exception × Main → Sequential
sequential r = record { tasks = r.1.made.tasks; acts = r.1.acts; printed = r.1.printed; ending = ending_of r.0 }

-- how many numbers may follow the one of a call of main
abbrev pub main_room : ℕ
main_room = max_path - 1

abbrev pub at_start : Main
at_start = record { made = no_calls; acts = []; printed = [] }

-- main, its calls settled at once by the rule
unfoldable pub main_ran : List AppDef → Block → (Path → Option ℕ) → Result Done Exception × Main
main_ran apps main losses = perform (main_answer (rule apps losses main_room)) (body (app_names apps losses) main [] [] []) at_start

-- the sequential evaluation of a script, with these losses
unfoldable pub seq : List AppDef → Block → (Path → Option ℕ) → Sequential
seq apps main losses = sequential (main_ran apps main losses)
