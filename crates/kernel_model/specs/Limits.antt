-- The limits of a run: of its calls, and of the units that it stores.
use Rattle.std.specs.Prelude.{◌≡◌, ℕ, ◌+◌, if◌then◌else◌, length, map, sum, Option, Some, None, nat_lt}
use Rattle.flow_base.specs.declared.outcome.Outcome.{Outcome}
use Rattle.flow_base.specs.Values.{units}
use Rattle.call_rules.specs.Calls.{Call}
use Rattle.stored_units.specs.declared.units.Limit.{Limit}
use Rattle.stored_units.specs.declared.units.Limit.TheVariants as limit
use Rattle.stored_units.specs.Stored.{max_tasks, max_stored, call_units, outcome_units}
use Rattle.memo_table.specs.Keys.{KeyView}
use Rattle.memo_table.specs.Table.{MemoView}
use Rattle.memo_table.specs.declared.saved.Saved.{Saved}
use Rattle.kernel_model.specs.declared.answers.Refusal.{Refusal}
use Rattle.kernel_model.specs.declared.answers.Refusal.TheVariants.{NoMemory, TaskLimit, StoreLimit}
use Rattle.kernel_model.specs.Known.{Known, Life, outcome_in, printed_in, value_of}

abbrev pub refusal_for : Limit → Refusal
refusal_for limit.Tasks = TaskLimit
refusal_for limit.Stored = StoreLimit

abbrev pub units_of_call : Call → ℕ
units_of_call c = call_units c.arguments c.names

abbrev pub units_where : Option Outcome → ℕ
units_where None = 0
units_where (Some outcome) = outcome_units outcome

-- the units of a task's outcome, once it is settled
abbrev pub units_of_life : Life → ℕ
units_of_life life = units_where (outcome_in life)

-- the units of a key: of its app's text, whose bytes alone count, of its arguments and of its names
abbrev pub units_of_key : KeyView → ℕ
units_of_key key = length key.app + call_units key.arguments key.names

-- the units of a key with its value and files
abbrev pub units_of_saved : KeyView × Saved → ℕ
units_of_saved e = units_of_key e.0 + outcome_units (value_of e.1)

abbrev pub units_of_memo : MemoView → ℕ
units_of_memo memo = sum (map units_of_saved memo)

-- the units that are stored: of the calls, of the outcomes of settled tasks, of what was printed, and of the memo
abbrev pub stored : Known → ℕ
stored w = sum (map units_of_call w.calls) + sum (map units_of_life w.lives) + sum (map units (printed_in w.acts)) + units_of_memo w.memo

-- the limit that a run with so many calls and so many stored units is past; that of calls goes first
abbrev pub passed_by : ℕ → ℕ → Option Limit
passed_by calls units = if nat_lt max_tasks calls then Some limit.Tasks else (if nat_lt max_stored units then Some limit.Stored else None)

abbrev pub passed : Known → Option Limit
passed w = passed_by (length w.calls) (stored w)

-- a turn after which such a kernel would stand is refused for this: memory was wanting, or the kernel would be past the limit
abbrev pub IsRefusedFor : (Known → Type 0) → Refusal → Type 0
IsRefusedFor Leaves NoMemory = Unit {0}
IsRefusedFor Leaves TaskLimit = (v : Known) × Leaves v × (passed v ≡ Some limit.Tasks)
IsRefusedFor Leaves StoreLimit = (v : Known) × Leaves v × (passed v ≡ Some limit.Stored)
