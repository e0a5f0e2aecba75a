-- Each entry of a legal log has a line.
use Rattle.std.specs.Prelude.{◌≡◌, ℕ, List, Some, IsSome, All, slice_get}
use Rattle.script_tree.specs.declared.tree.AppDef.{AppDef}
use Rattle.script_tree.specs.Grammar.{Tree, HasTree}
use Rattle.script_tree.specs.Rules.{IsWellFormed}
use Rattle.event_log.specs.declared.entry.Entry.{Entry}
use Rattle.event_log.specs.Logs.{IsName, HasLine}
use Rattle.flow_meaning.specs.Sequential.{Task, seq}
use Rattle.body_requests.specs.Asks.{Each}
use Rattle.call_rules.specs.Calls.{Losses}
use Rattle.history_laws.specs.declared.table.Retries.{Retries}
use Rattle.history_laws.specs.Legal.{IsLegalLog}

-- each app of the script has a name by the grammar
abbrev pub HasNames : Tree → Type 0
HasNames tree = (k : ℕ) (app : AppDef) → slice_get tree.0 k ≡ Some app → IsName app.name

-- each entry of a legal log has a line
abbrev pub LegalLogsHaveLines : Type 0
LegalLogsHaveLines = (tree : Tree) (r : Retries) (entries : List Entry) → IsWellFormed tree → HasNames tree → IsLegalLog tree r entries → All HasLine entries

-- a tree that has a text has names
abbrev pub TextsHaveNames : Type 0
TextsHaveNames = (text : List ℕ) (tree : Tree) (places : List ℕ) → HasTree text tree places → HasNames tree

-- the task is of an app of the script
abbrev pub IsOfApp : List AppDef → Task → Type 0
IsOfApp apps t = IsSome (slice_get apps t.app)

-- each task of an evaluation is of an app of the script
abbrev pub TasksAreOfApps : Type 0
TasksAreOfApps = (tree : Tree) (losses : Losses) → IsWellFormed tree → Each (IsOfApp tree.0) (seq tree.0 tree.1 losses).tasks
