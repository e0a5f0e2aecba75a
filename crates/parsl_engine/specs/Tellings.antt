-- What a run tells the monitors.
use Rattle.std.specs.Prelude.{◌≡◌, List, map, All, Option, Some}
use Rattle.std.specs.List.{filter}
use Rattle.script_tree.specs.Grammar.{Tree}
use Rattle.event_log.specs.declared.entry.Entry.{Entry}
use Rattle.dependency_graph.specs.declared.monitor.Settlement.{Settlement}
use Rattle.flow_meaning.specs.Sequential.{outcome_at}
use Rattle.history_laws.specs.Legal.{IsLegalLog}
use Rattle.kernel_model.specs.declared.answers.Refusal.{Refusal}
use Rattle.kernel_model.specs.declared.answers.Refusal.TheVariants as refusal
use Rattle.kernel_model.specs.Known.{no_retries}
use Rattle.kernel_model.specs.Telling.{AreTold, is_settling, settling, tell_all}
use Rattle.stored_units.specs.declared.units.Limit.{Limit}
use Rattle.stored_units.specs.declared.units.Limit.TheVariants as limit
use Rattle.parsl_engine.specs.Runs.{without_losses}

-- for each monitor, what it was told so far
abbrev pub Ledgers : Type 0
Ledgers = List (List Settlement)

-- the settlements of a log in order, with their outcomes in the sequential evaluation
pub record AreSettlementsOf (tree : Tree) (log : List Entry) (new : List Settlement) : Type 0 where
  pub entries : filter is_settling log ≡ map settling new
  pub outcomes : All (λ (s : Settlement). outcome_at (without_losses tree).tasks s.path ≡ Some s.outcome) new

-- each monitor was told of the settlements of the log, in order; where memory was wanting, some of them of one more
pub record TellsRun (tree : Tree) (refusal : Option Refusal) (log : List Entry) (told told' : Ledgers) : Type 0 where
  pub new : List Settlement
  pub are : AreSettlementsOf tree log new
  pub due : AreTold refusal (tell_all new told) told'

-- the same, of some legal log of the script
pub record TellsLegal (tree : Tree) (refusal : Option Refusal) (told told' : Ledgers) : Type 0 where
  pub log : List Entry
  pub legal : IsLegalLog tree no_retries log
  pub run : TellsRun tree refusal log told told'

-- what refuses a turn that would pass the limit
abbrev pub refusal_for : Limit → Refusal
refusal_for limit.Tasks = refusal.TaskLimit
refusal_for limit.Stored = refusal.StoreLimit
