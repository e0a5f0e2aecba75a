-- The laws that each entry is tested by.
use Rattle.event_log.specs.declared.entry.Entry.{Entry}
use Rattle.history_laws.specs.declared.table.Retries.{Retries}
use Rattle.history_laws.specs.declared.table.Table.{Table}
use Rattle.history_laws.specs.declared.verdict.Law.{Law}
use Rattle.history_laws.specs.declared.verdict.Law.TheVariants as law
use Rattle.history_laws.specs.Reads.{History}
use Rattle.history_laws.specs.Laws.{SettlingLaw, LaunchLaw, AttemptLaw, ManagerLaw}

-- completeness is no law of single entries
abbrev pub Stands : Retries → Table → Law → History → Entry → Type 0
Stands r z law.Settling = SettlingLaw z
Stands r z law.Launch = LaunchLaw z
Stands r z law.Attempt = AttemptLaw r z
Stands r z law.Manager = ManagerLaw
Stands r z law.Completeness = λ b e. Unit {0}
