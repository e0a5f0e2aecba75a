-- Legal and complete histories.
use Rattle.std.specs.Prelude.{◌≡◌, List, [], ◌∷◌}
use Rattle.event_log.specs.declared.entry.Entry.{Entry}
use Rattle.event_log.specs.declared.entry.Entry.TheVariants as entry
use Rattle.script_tree.specs.Grammar.{Tree}
use Rattle.history_laws.specs.declared.table.Retries.{Retries}
use Rattle.history_laws.specs.declared.table.Table.{Table}
use Rattle.history_laws.specs.Tables.{table}
use Rattle.history_laws.specs.Reads.{History, history_of, lost}
use Rattle.history_laws.specs.Laws.{SettlingLaw, LaunchLaw, AttemptLaw, ManagerLaw}

-- each entry stands by the law
abbrev pub Holds : (History → Entry → Type 0) → History → Type 0
Holds law [] = Unit {0}
Holds law (e ∷ b) = law b e × Holds law b

pub record IsLegal (r : Retries) (z : Table) (b : History) : Type 0 where
  pub settling : Holds (SettlingLaw z) b
  pub launching : Holds (LaunchLaw z) b
  pub attempts : Holds (AttemptLaw r z) b
  pub managers : Holds ManagerLaw b

-- the last entry is the end
pub record IsComplete (b : History) : Type 0 where
  pub before : History
  pub ends : b ≡ entry.End ∷ before

-- a log is legal for a script, read with the losses that it tells itself
abbrev pub IsLegalLog : Tree → Retries → List Entry → Type 0
IsLegalLog tree r entries = IsLegal r (table tree (lost (history_of entries))) (history_of entries)
