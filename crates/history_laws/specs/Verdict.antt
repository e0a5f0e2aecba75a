-- The verdict on a history: none where it is legal and complete, else the first law that is broken with the
-- first entry that breaks it.
use Rattle.std.specs.Prelude.{◌≡◌, ℕ, ◌+◌, ◌∷◌, ◌++◌, length, Option, Some, None}
use Rattle.event_log.specs.declared.entry.Entry.{Entry}
use Rattle.history_laws.specs.declared.table.Retries.{Retries}
use Rattle.history_laws.specs.declared.table.Table.{Table}
use Rattle.history_laws.specs.declared.verdict.Law.{Law}
use Rattle.history_laws.specs.declared.verdict.Law.TheVariants as law
use Rattle.history_laws.specs.declared.verdict.Breach.{Breach}
use Rattle.history_laws.specs.Reads.{History}
use Rattle.history_laws.specs.Laws.{SettlingLaw, LaunchLaw, AttemptLaw, ManagerLaw}
use Rattle.history_laws.specs.Legal.{Holds, IsLegal, IsComplete}

-- the entry of this number is the first that breaks the law
pub record IsFirstBreak (law : History → Entry → Type 0) (b : History) (number : ℕ) : Type 0 where
  pub behind : History
  pub breaking : Entry
  pub before : History
  pub stands : b ≡ behind ++ breaking ∷ before
  pub place : number ≡ length before + 1
  pub kept : Holds law before
  pub broken : law before breaking → ⊥

abbrev pub IsBreach : Retries → Table → History → Law → ℕ → Type 0
IsBreach r z b law.Settling number = IsFirstBreak (SettlingLaw z) b number
IsBreach r z b law.Launch number = Holds (SettlingLaw z) b × IsFirstBreak (LaunchLaw z) b number
IsBreach r z b law.Attempt number = Holds (SettlingLaw z) b × Holds (LaunchLaw z) b × IsFirstBreak (AttemptLaw r z) b number
IsBreach r z b law.Manager number = Holds (SettlingLaw z) b × Holds (LaunchLaw z) b × Holds (AttemptLaw r z) b × IsFirstBreak ManagerLaw b number
IsBreach r z b law.Completeness number = IsLegal r z b × (IsComplete b → ⊥) × (number ≡ length b + 1)

abbrev pub IsVerdict : Retries → Table → History → Option Breach → Type 0
IsVerdict r z b None = IsLegal r z b × IsComplete b
IsVerdict r z b (Some breach) = IsBreach r z b breach.law breach.entry
