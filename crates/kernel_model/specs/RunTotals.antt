-- What a whole run stores: what its evaluation does, and the keys of cached apps' calls with their values.
use Rattle.std.specs.Prelude.{ℕ, ◌+◌, ◌≤◌, List, [], ◌∷◌, length, Option, Some}
use Rattle.flow_base.specs.declared.outcome.Outcome.{Outcome}
use Rattle.flow_base.specs.declared.outcome.Outcome.TheVariants as o
use Rattle.script_tree.specs.declared.tree.AppDef.{AppDef}
use Rattle.flow_meaning.specs.Sequential.{Tasks, Sequential}
use Rattle.call_rules.specs.Calls.{call_in}
use Rattle.stored_units.specs.Stored.{max_tasks, max_stored}
use Rattle.stored_units.specs.Totals.{total_units}
use Rattle.memo_table.specs.Keys.{KeyView}
use Rattle.memo_table.specs.Table.{MemoView, with_saved}
use Rattle.kernel_model.specs.Known.{key_in}
use Rattle.kernel_model.specs.Limits.{units_of_memo}

-- a value is stored by its key
abbrev pub memo_with : MemoView → Option KeyView → Outcome → MemoView
memo_with memo (Some key) (o.Value value files) = with_saved memo key (record { value = value; files = files })
memo_with memo _ _ = memo

-- the values of these tasks of an evaluation, one for each key
abbrev pub memo_of : List AppDef → Tasks → Tasks → MemoView → MemoView
memo_of apps all [] memo = memo
memo_of apps all (t ∷ ts) memo = memo_of apps all ts (memo_with memo (key_in apps all (call_in t)) t.outcome)

-- The units that a whole run stores. They are the same in whatever order its tasks settle.
abbrev pub run_units : List AppDef → Sequential → ℕ
run_units apps s = total_units s + units_of_memo (memo_of apps s.tasks s.tasks [])

-- the run has no more calls and stores no more units than a run may
pub record IsWithinRun (apps : List AppDef) (s : Sequential) : Type 0 where
  pub few : length s.tasks ≤ max_tasks
  pub small : run_units apps s ≤ max_stored
