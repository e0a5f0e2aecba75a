-- The calls of joins, as they are submitted.
use Rattle.std.specs.Prelude.{◌≡◌, ℕ, Option, Some, None}
use Rattle.event_log.specs.declared.entry.Entry.{Entry}
use Rattle.event_log.specs.declared.entry.Entry.TheVariants as entry
use Rattle.flow_meaning.specs.Inputs.{Path}
use Rattle.call_rules.specs.Calls.{child}
use Rattle.history_laws.specs.declared.table.Expected.{Expected}
use Rattle.history_laws.specs.declared.table.Table.{Table}
use Rattle.history_laws.specs.Reads.{History, Due}
use Rattle.history_laws.specs.Tables.{task_at}
use Rattle.history_laws.specs.Laws.{ChildStands}
use Rattle.history_verdict.specs.declared.reads.Submitting.{Submitting}

-- the join, and how many of its calls are submitted
abbrev pub due_of : Option Submitting → Due
due_of None = None
due_of (Some join) = Some (join.caller.now, join.calls)

-- how many are, or none where there is no join
abbrev pub calls_of : Option Submitting → ℕ
calls_of None = 0
calls_of (Some join) = join.calls

-- the submission of the call behind so many others of this caller
pub record IsCall (z : Table) (caller : Path) (k : ℕ) (e : Entry) : Type 0 where
  pub task : Expected
  pub there : task_at z (child caller k) ≡ Some task
  pub is : e ≡ entry.Submit (child caller k) task.app

-- the next call of a join whose body ran
pub record IsNextChild (z : Table) (b : History) (e : Entry) : Type 0 where
  pub caller : Path
  pub count : ℕ
  pub stands : ChildStands z b caller count e
