-- What a script gives as a whole.
use Rattle.std.specs.Prelude.{◌≡◌, ℕ, List, [], ◌∷◌, ◌++◌, map, Option, Some, None, slice_get}
use Rattle.flow_base.specs.declared.outcome.Exception.TheVariants as x
use Rattle.flow_base.specs.declared.outcome.Outcome.TheVariants as o
use Rattle.flow_base.specs.declared.outcome.TaskEnd.{TaskEnd}
use Rattle.flow_base.specs.declared.outcome.Evaluation.{Evaluation}
use Rattle.script_tree.specs.declared.tree.AppDef.{AppDef}
use Rattle.script_tree.specs.Grammar.{Tree}
use Rattle.flow_meaning.specs.Inputs.{Path}
use Rattle.flow_meaning.specs.Operators.{Text}
use Rattle.flow_meaning.specs.Sequential.{Task, Tasks, Sequential, seq}

abbrev pub name_in : Option AppDef → Text
name_in (Some a) = a.name
name_in None = []

abbrev pub task_end : List AppDef → Task → TaskEnd
task_end apps t = record { path = t.path; app = name_in (slice_get apps t.app); outcome = t.outcome }

-- the tasks by path with their outcomes, the printed values, and how main ended
abbrev pub evaluation_in : List AppDef → Sequential → Evaluation
evaluation_in apps s = record { printed = s.printed; tasks = map (task_end apps) s.tasks; main = s.ending }

abbrev pub no_losses : Path → Option ℕ
no_losses path = None

abbrev pub evaluation : Tree → Evaluation
evaluation tree = evaluation_in tree.0 (seq tree.0 tree.1 no_losses)

-- a task failed because an Int would leave 64 bits
pub record Overflows (ts : Tasks) : Type 0 where
  pub before : Tasks
  pub task : Task
  pub behind : Tasks
  pub stands : ts ≡ before ++ task ∷ behind
  pub failed : task.outcome ≡ o.Failed x.OverflowError

-- no sum of the sequential evaluation leaves 64 bits
abbrev pub IsInRange : Tree → Type 0
IsInRange tree = Overflows (seq tree.0 tree.1 no_losses).tasks → ⊥
