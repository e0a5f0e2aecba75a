-- What monitors are told.
use Rattle.std.specs.Prelude.{◌≡◌, Bool, true, false, List, [], ◌∷◌, ◌++◌, map, Option, Some, None}
use Rattle.flow_base.specs.declared.outcome.Outcome.{Outcome}
use Rattle.task_record.specs.declared.status.Status.{Status}
use Rattle.event_log.specs.declared.entry.Entry.{Entry}
use Rattle.event_log.specs.declared.entry.Entry.TheVariants as entry
use Rattle.dependency_graph.specs.declared.monitor.Settlement.{Settlement}
use Rattle.dependency_graph.specs.Monitors.{ToldFirst}
use Rattle.flow_meaning.specs.Inputs.{Path}
use Rattle.flow_meaning.specs.Sequential.{Tasks, outcome_at}
use Rattle.history_laws.specs.Reads.{History}
use Rattle.kernel_model.specs.declared.answers.Refusal.{Refusal}
use Rattle.kernel_model.specs.declared.answers.Refusal.TheVariants.{NoMemory}
use Rattle.kernel_model.specs.Known.{Known, known}

-- ---- settlements

abbrev pub settlement_with : Path → Status → Option Outcome → List Settlement
settlement_with p s None = []
settlement_with p s (Some outcome) = record { path = p; status = s; outcome = outcome } ∷ []

-- the settlement that an entry stands for, with the outcome that is known
abbrev pub settlement_in : Tasks → Entry → List Settlement
settlement_in ts (entry.Settled p s) = settlement_with p s (outcome_at ts p)
settlement_in ts _ = []

-- those of a history, the oldest first
abbrev pub settlements_in : Tasks → History → List Settlement
settlements_in ts [] = []
settlements_in ts (e ∷ b) = settlements_in ts b ++ settlement_in ts e

-- the settlements of the history in order, with their outcomes
abbrev pub settlements : Known → List Settlement
settlements w = settlements_in (known w) w.past

-- ---- settlements of a log

-- an entry that settles a task
abbrev pub is_settling : Entry → Bool
is_settling (entry.Settled p s) = true
is_settling _ = false

-- the entry of a settlement
abbrev pub settling : Settlement → Entry
settling s = entry.Settled s.path s.status

-- ---- monitors

-- each monitor is told of these, in order
abbrev pub tell_all : List Settlement → List (List Settlement) → List (List Settlement)
tell_all new told = map (λ (seen : List Settlement). seen ++ new) told

-- the first monitors were told of one more, or none was
pub record IsToldMore (due told : List (List Settlement)) : Type 0 where
  pub more : Settlement
  pub first : ToldFirst more due told

-- the monitors were told what was due; where memory was wanting, some of them of one more
abbrev pub AreTold : Option Refusal → List (List Settlement) → List (List Settlement) → Type 0
AreTold (Some NoMemory) due told = IsToldMore due told
AreTold _ due told = told ≡ due

-- since then each monitor was told of each new settlement of the history, in order; and so they stand where this refused a turn
pub record HasToldBy (refusal : Option Refusal) (w v : Known) : Type 0 where
  pub new : List Settlement
  pub since : settlements v ≡ settlements w ++ new
  pub told : AreTold refusal (tell_all new w.told) v.told

abbrev pub HasTold : Known → Known → Type 0
HasTold w v = HasToldBy v.refusal w v
