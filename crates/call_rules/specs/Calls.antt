-- What becomes of a call, by the outcomes that are known: its own, those of its inputs, and for a join those of
-- the calls of its body.
use Rattle.std.specs.Prelude.{ℕ, suc, Bool, true, false, if◌then◌else◌, List, [], ◌∷◌, ◌++◌, length, map, Option, Some, None, Result, Ok, Err, nat_lt, slice_get, bytes_eq}
use Rattle.flow_base.specs.Paths.{max_path}
use Rattle.flow_base.specs.declared.value.Value.{Value, out-Value}
use Rattle.flow_base.specs.declared.value.Value.TheOpen.{Value-F}
use Rattle.flow_base.specs.declared.value.Value.TheVariants as v
use Rattle.flow_base.specs.declared.outcome.Exception.{Exception}
use Rattle.flow_base.specs.declared.outcome.Exception.TheVariants as x
use Rattle.flow_base.specs.declared.outcome.Outcome.{Outcome}
use Rattle.flow_base.specs.declared.outcome.Outcome.TheVariants as o
use Rattle.script_tree.specs.declared.tree.AppDef.{AppDef}
use Rattle.flow_meaning.specs.declared.walk.Request.{Request}
use Rattle.flow_meaning.specs.declared.walk.Request.TheVariants as request
use Rattle.flow_meaning.specs.declared.walk.Answer.{Answer}
use Rattle.flow_meaning.specs.declared.walk.Answer.TheVariants as answer
use Rattle.flow_meaning.specs.Act.{Act}
use Rattle.flow_meaning.specs.Meaning.{Done, body}
use Rattle.flow_meaning.specs.Operators.{Layer, Text}
use Rattle.flow_meaning.specs.Inputs.{Path, inputs}
use Rattle.flow_meaning.specs.Sequential.{Task, Tasks, perform, futures_in, join_outcome, apply, outcome_of, lost_or}
use Rattle.dependency_graph.specs.declared.readiness.Readiness.{Readiness}
use Rattle.dependency_graph.specs.declared.readiness.Readiness.TheVariants as readiness
use Rattle.dependency_graph.specs.Readiness.{ready}

abbrev pub Losses : Type 0
Losses = Path → Option ℕ

-- the path of the call behind so many others of this caller
abbrev pub child : Path → ℕ → Path
child caller k = caller ++ suc k ∷ []

-- a call of main or of a join
pub record Call : Type 0 where
  pub path : Path
  pub app : ℕ
  pub arguments : List Value
  pub names : List Text

-- its task
abbrev pub task_of : Call → Outcome → Task
task_of c outcome = record { path = c.path; app = c.app; arguments = c.arguments; names = c.names; inputs = inputs c.arguments; outcome = outcome }

abbrev pub call_in : Task → Call
call_in t = record { path = t.path; app = t.app; arguments = t.arguments; names = t.names }

-- the task of a path
abbrev pub found : Tasks → Path → Option Task
found [] p = None
found (t ∷ ts) p = if bytes_eq t.path p then Some t else found ts p

-- ---- a join's body, without the outcomes of its calls

-- how it ends, and its calls in order
abbrev pub Dry : Type 0
Dry = Result Done Exception × List Call

abbrev pub dry_answer : Path → Request → List Call → Answer × List Call
dry_answer caller (request.Call app arguments names) cs =
    (answer.Called (v.Future (child caller (length cs)) (length names)), cs ++ record { path = child caller (length cs); app = app; arguments = arguments; names = names } ∷ [])
dry_answer caller _ cs = (answer.Go, cs)

abbrev pub dry : Path → Act Done → Dry
dry caller act = perform (dry_answer caller) act []

abbrev pub join_act : List AppDef → AppDef → List Value → Act Done
join_act apps app values = body (map (λ (a : AppDef). a.name) apps) app.body app.parameters values []

abbrev pub join_dry : List AppDef → Path → AppDef → List Value → Dry
join_dry apps path app values = dry path (join_act apps app values)

-- the futures that it returned, which it waits for
abbrev pub paths_or_none : Option (List Path) → List Path
paths_or_none (Some ps) = ps
paths_or_none None = []

abbrev pub awaited_in : Layer → List Path
awaited_in (Value-F.Future path outputs) = path ∷ []
awaited_in (Value-F.List vs) = paths_or_none (futures_in vs)
awaited_in _ = []

abbrev pub awaited : Result Done Exception → List Path
awaited (Ok d) = awaited_in (out-Value d.0)
awaited (Err exception) = []

-- ---- how a call begins, once its inputs are known

-- it fails at once, or is launched, or its body's calls are made
pub data Begin : Type 0 where
  Fails : Exception → Begin
  Attempts : AppDef → List Value → Begin
  Joins : AppDef → List Value → Begin

-- a path below may have one number more
abbrev pub has_room : Path → Bool
has_room path = nat_lt (length path) max_path

abbrev pub begin_join : Bool → AppDef → List Value → Begin
begin_join true app values = Joins app values
begin_join false app values = Fails x.DepthError

abbrev pub begin_app : Path → Option AppDef → List Value → Begin
begin_app path None values = Fails x.TypeError
begin_app path (Some app) values = if app.join then begin_join (has_room path) app values else Attempts app values

abbrev pub begin_ready : Path → Option AppDef → Readiness → Begin
begin_ready path app (readiness.Settles exception) = Fails exception
begin_ready path app (readiness.Runs values) = begin_app path app values

module _ (apps : List AppDef) where
  abbrev pub begin : Tasks → Call → Begin
  begin ts c = begin_ready c.path (slice_get apps c.app) (ready ts c.arguments)

  -- the calls of its body
  abbrev pub calls_with : Path → Begin → List Call
  calls_with path (Joins app values) = (join_dry apps path app values).1
  calls_with path _ = []

  abbrev pub calls_below : Tasks → Call → List Call
  calls_below ts c = calls_with c.path (begin ts c)

  -- what it waits for once its body ran
  abbrev pub awaits_with : Path → Begin → List Path
  awaits_with path (Joins app values) = awaited (join_dry apps path app values).0
  awaits_with path _ = []

  abbrev pub awaits : Tasks → Call → List Path
  awaits ts c = awaits_with c.path (begin ts c)

  -- its outcome, under these losses
  abbrev pub outcome_with : Losses → Tasks → Call → Begin → Outcome
  outcome_with losses ts c (Fails exception) = o.Failed exception
  outcome_with losses ts c (Attempts app values) = lost_or (losses c.path) (outcome_of (apply app values c.names))
  outcome_with losses ts c (Joins app values) = join_outcome ts (join_dry apps c.path app values).0

  abbrev pub call_outcome : Losses → Tasks → Call → Outcome
  call_outcome losses ts c = outcome_with losses ts c (begin ts c)
