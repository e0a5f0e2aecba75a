-- The table that the laws read: what the sequential evaluation says of each task, and main's acts.
use Rattle.std.specs.Prelude.{ℕ, zero, suc, ◌+◌, Bool, true, false, if◌then◌else◌, List, [], ◌∷◌, length, map, flat_map, Option, Some, None, bytes_eq, slice_get}
use Rattle.flow_base.specs.declared.outcome.Ended.{Ended}
use Rattle.flow_base.specs.declared.outcome.Ended.TheVariants as ended
use Rattle.flow_base.specs.declared.outcome.Exception.TheVariants as x
use Rattle.flow_base.specs.declared.outcome.Outcome.{Outcome}
use Rattle.flow_base.specs.declared.outcome.Outcome.TheVariants as o
use Rattle.flow_base.specs.Exceptions.{exception_name}
use Rattle.flow_base.specs.declared.value.Value.{Value}
use Rattle.script_tree.specs.declared.tree.AppDef.{AppDef}
use Rattle.script_tree.specs.Canonical as canonical
use Rattle.script_tree.specs.Grammar.{Tree}
use Rattle.task_record.specs.declared.status.Status.{Status}
use Rattle.task_record.specs.declared.status.Status.TheVariants as status
use Rattle.flow_meaning.specs.Inputs.{Path}
use Rattle.flow_meaning.specs.Operators.{Text}
use Rattle.flow_meaning.specs.Sequential.{Task, Tasks, apply, MainAct, Calls, Waits, Sequential, seq}
use Rattle.flow_meaning.specs.Evaluations.{name_in}
use Rattle.memo_table.specs.Keys.{KeyView}
use Rattle.call_rules.specs.Calls.{Begin, Attempts, Joins, begin, calls_below, awaits, call_in}
use Rattle.history_laws.specs.Reads.{value_word}
use Rattle.history_laws.specs.declared.table.MainEvent.{MainEvent}
use Rattle.history_laws.specs.declared.table.MainEvent.TheVariants as act
use Rattle.history_laws.specs.declared.table.Expected.{Expected}
use Rattle.history_laws.specs.declared.table.Table.{Table}

-- ---- a table is looked up by paths

abbrev pub task_in : List Expected → Path → Option Expected
task_in [] p = None
task_in (t ∷ ts) p = if bytes_eq t.path p then Some t else task_in ts p

abbrev pub task_at : Table → Path → Option Expected
task_at z p = task_in z.tasks p

abbrev pub row_key : Option Expected → Option KeyView
row_key None = None
row_key (Some t) = t.key

-- the key of the task of this path
abbrev pub table_key : Table → Path → Option KeyView
table_key z p = row_key (task_at z p)

-- how many calls main makes
abbrev pub calls_in : List MainEvent → ℕ
calls_in [] = 0
calls_in (act.Call ∷ acts) = calls_in acts + 1
calls_in (act.Wait p ∷ acts) = calls_in acts

-- what main has waited for before the call behind so many others
abbrev pub waits_before : ℕ → List MainEvent → List Path
waits_before n [] = []
waits_before zero (act.Call ∷ acts) = []
waits_before (suc n) (act.Call ∷ acts) = waits_before n acts
waits_before n (act.Wait p ∷ acts) = p ∷ waits_before n acts

-- ---- the table of an evaluation

-- the word for how a body ended
abbrev pub kind_of : Ended → Text
kind_of (ended.Value value files) = value_word
kind_of (ended.Raised exception) = exception_name exception

-- the state in which a task settles, unless the memo has its value
abbrev pub status_of : Outcome → Status
status_of (o.Value value files) = status.ExecDone
status_of (o.Failed (x.DependencyError paths)) = status.DepFail
status_of (o.Failed exception) = status.Failed

-- it gets its outcome by an attempt
abbrev pub is_attempt : Begin → Bool
is_attempt (Attempts app values) = true
is_attempt _ = false

-- it gets its outcome by the calls of its body
abbrev pub is_join : Begin → Bool
is_join (Joins app values) = true
is_join _ = false

-- how its body ends
abbrev pub kind_with : List Text → Begin → Text
kind_with names (Attempts app values) = kind_of (apply app values names)
kind_with names _ = []

-- the key of a call of this app with these values, where the app is cached
abbrev pub key_of : AppDef → List Value → List Text → Option KeyView
key_of app values names = if app.cached then Some (record { app = canonical.app app; arguments = values; names = names }) else None

-- the key of a call that begins so
abbrev pub key_with : List Text → Begin → Option KeyView
key_with names (Attempts app values) = key_of app values names
key_with names _ = None

abbrev pub expected : List AppDef → Tasks → Task → Expected
expected apps ts t = record {
  path = t.path;
  app = name_in (slice_get apps t.app);
  inputs = t.inputs;
  runs = is_attempt (begin apps ts (call_in t));
  joins = is_join (begin apps ts (call_in t));
  calls = length (calls_below apps ts (call_in t));
  awaits = awaits apps ts (call_in t);
  kind = kind_with t.names (begin apps ts (call_in t));
  key = key_with t.names (begin apps ts (call_in t));
  status = status_of t.outcome;
}

-- calls and waits alone
abbrev pub act_of : MainAct → List MainEvent
act_of (Calls p) = act.Call ∷ []
act_of (Waits p) = act.Wait p ∷ []
act_of _ = []

abbrev pub acts_of : List MainAct → List MainEvent
acts_of = flat_map act_of

abbrev pub table_of : List AppDef → Sequential → Table
table_of apps s = record { tasks = map (expected apps s.tasks) s.tasks; acts = acts_of s.acts }

-- the table of a script, with these losses
abbrev pub table : Tree → (Path → Option ℕ) → Table
table tree losses = table_of tree.0 (seq tree.0 tree.1 losses)
