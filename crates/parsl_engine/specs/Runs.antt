-- What a whole run gives.
use Rattle.std.specs.Prelude.{◌≡◌, ◌<◌, Bool, true, false, List, length, IfOk, Option, Some, None, Ok, Err}
use Rattle.std.specs.declared.result.Result.{Result}
use Rattle.std.specs.declared.alloc.AllocError.{AllocError}
use Rattle.flow_base.specs.declared.outcome.Evaluation.{Evaluation}
use Rattle.script_tree.specs.Grammar.{Tree}
use Rattle.event_log.specs.declared.entry.Entry.{Entry}
use Rattle.flow_meaning.specs.Evaluations.{evaluation, no_losses}
use Rattle.flow_meaning.specs.Sequential.{Sequential, seq}
use Rattle.history_laws.specs.Reads.{history_of, has_end}
use Rattle.history_laws.specs.Legal.{IsLegalLog, IsComplete}
use Rattle.stored_units.specs.declared.units.Limit.{Limit}
use Rattle.stored_units.specs.declared.units.Limit.TheVariants as limit
use Rattle.stored_units.specs.Stored.{max_tasks, max_stored}
use Rattle.kernel_model.specs.declared.answers.Refusal.{Refusal}
use Rattle.kernel_model.specs.declared.answers.Refusal.TheVariants as refusal
use Rattle.kernel_model.specs.Known.{no_retries}
use Rattle.kernel_model.specs.RunTotals.{run_units, IsWithinRun}
use Rattle.parsl_engine.specs.declared.run.PartEnd.{PartEnd}
use Rattle.parsl_engine.specs.declared.run.PartEnd.TheVariants.{Ended, Refused}

-- the sequential evaluation of a script without losses
abbrev pub without_losses : Tree → Sequential
without_losses tree = seq tree.0 tree.1 no_losses

-- a legal and complete log of this script
pub record IsWholeLog (tree : Tree) (log : List Entry) : Type 0 where
  pub legal : IsLegalLog tree no_retries log
  pub complete : IsComplete (history_of log)

-- a run that ended has a legal and complete log, is within the limits, and gives the sequential evaluation of its script
pub record HasRun (tree : Tree) (gave : Result Evaluation AllocError) (log : List Entry) : Type 0 where
  pub whole : IsWholeLog tree log
  pub gives : IfOk gave (λ e. e ≡ evaluation tree)
  pub within : IsWithinRun tree.0 (without_losses tree)

-- the evaluation has more calls than a run may, or the run stores more units
abbrev pub PassesLimit : Tree → Limit → Type 0
PassesLimit tree limit.Tasks = max_tasks < length (without_losses tree).tasks
PassesLimit tree limit.Stored = max_stored < run_units tree.0 (without_losses tree)

-- what a refusal of a turn says of the script
abbrev pub RefusesFor : Tree → Refusal → Type 0
RefusesFor tree refusal.NoMemory = Unit {0}
RefusesFor tree refusal.TaskLimit = PassesLimit tree limit.Tasks
RefusesFor tree refusal.StoreLimit = PassesLimit tree limit.Stored

-- the log of a run that was refused is legal as far as it goes, and has no end; and the refusal has its cause
pub record IsCutShort (tree : Tree) (log : List Entry) (r : Refusal) : Type 0 where
  pub legal : IsLegalLog tree no_retries log
  pub unended : has_end (history_of log) ≡ false
  pub cause : RefusesFor tree r

-- a run that came to its end so gave this evaluation and this log
abbrev pub IsRun : Tree → PartEnd → Result Evaluation AllocError → List Entry → Type 0
IsRun tree Ended gave log = HasRun tree gave log
IsRun tree (Refused refused) gave log = IsCutShort tree log refused

-- whether the end stands
abbrev pub is_ended : PartEnd → Bool
is_ended Ended = true
is_ended (Refused refused) = false

-- what the refusal of a run says of the script
abbrev pub EndsFor : Tree → PartEnd → Type 0
EndsFor tree Ended = Unit {0}
EndsFor tree (Refused refused) = RefusesFor tree refused

-- what refused a run
abbrev pub refusal_of : PartEnd → Option Refusal
refusal_of Ended = None
refusal_of (Refused refused) = Some refused

-- what refused a turn
abbrev pub refused_by : {A : Type 0} → Result A Refusal → Option Refusal
refused_by (Ok a) = None
refused_by (Err refused) = Some refused
