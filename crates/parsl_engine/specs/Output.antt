-- What each command prints for the bytes of a script, and when it refuses them.
use Rattle.std.specs.Prelude.{◌≡◌, ◌⊎◌, ℕ, ◌++◌, ◌∷◌, [], Bool, true, false, List, Ok, Err, Option, None, Some, codes}
use Rattle.std.specs.declared.result.Result.{Result}
use Rattle.std.specs.declared.alloc.AllocError.{AllocError}
use Rattle.flow_base.specs.declared.outcome.Ending.{Ending}
use Rattle.flow_base.specs.declared.outcome.Ending.TheVariants as ending
use Rattle.flow_base.specs.declared.outcome.Evaluation.{Evaluation}
use Rattle.event_log.specs.declared.entry.Entry.{Entry}
use Rattle.script_tree.specs.Canonical.{canonical}
use Rattle.script_tree.specs.Grammar.{PlacedTree}
use Rattle.flow_meaning.specs.Evaluations.{evaluation}
use Rattle.log_lines.specs.ReadBack.{IsReadBack}
use Rattle.run_report.specs.Reported.{report_text}
use Rattle.run_report.specs.Shown.{head_text}
use Rattle.stored_units.specs.declared.units.Limit.{Limit}
use Rattle.stored_units.specs.declared.units.Limit.TheVariants as limit
use Rattle.stored_units.specs.Totals.{limit_met}
use Rattle.kernel_model.specs.declared.answers.Refusal.{Refusal}
use Rattle.kernel_model.specs.declared.answers.Refusal.TheVariants as refusal
use Rattle.kernel_model.specs.RunTotals.{IsWithinRun}
use Rattle.parsl_engine.specs.declared.output.Output.{Output}
use Rattle.parsl_engine.specs.declared.words.Command.{Command}
use Rattle.parsl_engine.specs.declared.words.Command.TheVariants as command
use Rattle.parsl_engine.specs.declared.script.ScriptFault.{ScriptFault}
use Rattle.parsl_engine.specs.declared.script.ScriptFault.TheVariants.{Refused, Limited, NoMemory}
use Rattle.parsl_engine.specs.declared.run.PartEnd.{PartEnd}
use Rattle.parsl_engine.specs.declared.run.PartEnd.TheVariants.{Ended, Refused as run_refused}
use Rattle.parsl_engine.specs.Runs.{IsWholeLog, without_losses, PassesLimit}
use Rattle.parsl_engine.specs.Scripts.{IsCheckedText, IsFaulty}
use Rattle.parsl_engine.specs.Tellings.{Ledgers, TellsRun, TellsLegal, refusal_for}

-- ---- what is printed

-- an exception ended main
abbrev pub is_raised : Ending → Bool
is_raised ending.Ended = false
is_raised (ending.Raised exception) = true

-- The output of a run, which is within the limits, is the report of the script's sequential evaluation and of a
-- legal and complete log: the one that is read back from it. Each monitor was told of the settlements of that log.
pub record Reports (script : PlacedTree) (output : List ℕ) (raised : Bool) (told told' : Ledgers) : Type 0 where
  pub within : IsWithinRun script.tree.0 (without_losses script.tree)
  pub log : List Entry
  pub whole : IsWholeLog script.tree log
  pub report : output ≡ report_text (evaluation script.tree) log
  pub reads : IsReadBack output log
  pub tells : TellsRun script.tree None log told told'
  pub raised_is : raised ≡ is_raised (evaluation script.tree).main

-- the head of the script's sequential evaluation, which meets no limit
pub record Heads (script : PlacedTree) (output : List ℕ) (raised : Bool) : Type 0 where
  pub within : limit_met (without_losses script.tree) ≡ None
  pub head : output ≡ head_text (evaluation script.tree)
  pub raised_is : raised ≡ is_raised (evaluation script.tree).main

abbrev pub ok_line : List ℕ
ok_line = codes "ok" ++ 10 ∷ []

-- what a command prints for a script that breaks no rule, whether an exception ended main, and what it tells monitors
abbrev pub PrintsFor : Command → PlacedTree → List ℕ → Bool → Ledgers → Ledgers → Type 0
PrintsFor command.Run script output raised told told' = Reports script output raised told told'
PrintsFor command.Seq script output raised told told' = Heads script output raised × (told' ≡ told)
PrintsFor command.Check script output raised told told' = (output ≡ ok_line) × (raised ≡ false) × (told' ≡ told)
PrintsFor command.Format script output raised told told' = (output ≡ canonical script.tree) × (raised ≡ false) × (told' ≡ told)

-- what a command prints for the bytes of a script
pub record Prints (c : Command) (bytes output : List ℕ) (raised : Bool) (told told' : Ledgers) : Type 0 where
  pub script : PlacedTree
  pub text : IsCheckedText bytes script
  pub prints : PrintsFor c script output raised told told'

-- ---- what monitors are told where nothing is printed

-- a command tells monitors of the settlements of a legal log of the script, or it runs nothing
abbrev pub TellsFor : Command → PlacedTree → Option Refusal → Ledgers → Ledgers → Type 0
TellsFor command.Run script refusal told told' = TellsLegal script.tree refusal told told'
TellsFor c script refusal told told' = told' ≡ told

-- the same, for the bytes of a script
pub record TellsOf (c : Command) (bytes : List ℕ) (refusal : Option Refusal) (told told' : Ledgers) : Type 0 where
  pub script : PlacedTree
  pub text : IsCheckedText bytes script
  pub tells : TellsFor c script refusal told told'

-- where memory is wanting, no run had begun, or it was refused, or its report could not be made
abbrev pub MayHaveTold : Command → List ℕ → Ledgers → Ledgers → Type 0
MayHaveTold c bytes told told' = (told' ≡ told) ⊎ ((refusal : Option Refusal) × TellsOf c bytes refusal told told')

-- ---- what is refused

-- The limit is passed: by the whole run, whose tasks end in any order, and first of the two by the evaluation where
-- it is made in order.
abbrev pub LimitsFor : Command → PlacedTree → Limit → Type 0
LimitsFor command.Run script l = PassesLimit script.tree l
LimitsFor command.Seq script l = limit_met (without_losses script.tree) ≡ Some l
LimitsFor c script l = ⊥

-- the bytes are a text of a script that breaks no rule, and its run or its evaluation passes the limit
pub record Limits (c : Command) (bytes : List ℕ) (l : Limit) : Type 0 where
  pub script : PlacedTree
  pub text : IsCheckedText bytes script
  pub passes : LimitsFor c script l

-- ---- outputs

abbrev pub Produces : Command → List ℕ → Result Output ScriptFault → Ledgers → Ledgers → Type 0
Produces c bytes (Ok output) told told' = Prints c bytes output.text.items output.raised told told'
Produces c bytes (Err (Refused refusal)) told told' = IsFaulty bytes refusal × (told' ≡ told)
Produces c bytes (Err (Limited l)) told told' = Limits c bytes l × TellsOf c bytes (Some (refusal_for l)) told told'
Produces c bytes (Err NoMemory) told told' = MayHaveTold c bytes told told'

-- what a command gives for a script that breaks no rule
abbrev pub Gives : Command → PlacedTree → Result Output ScriptFault → Ledgers → Ledgers → Type 0
Gives c script (Ok output) told told' = PrintsFor c script output.text.items output.raised told told'
Gives c script (Err (Refused refusal)) told told' = ⊥
Gives c script (Err (Limited l)) told told' = LimitsFor c script l × TellsFor c script (Some (refusal_for l)) told told'
Gives c script (Err NoMemory) told told' = (told' ≡ told) ⊎ ((refusal : Option Refusal) × TellsFor c script refusal told told')

-- ---- the report of a run

-- the report of this evaluation and this log
abbrev pub ReportsOn : Evaluation → List Entry → Result Output ScriptFault → Type 0
ReportsOn e log (Ok output) = (output.text.items ≡ report_text e log) × (output.raised ≡ is_raised e.main)
ReportsOn e log (Err NoMemory) = Unit {0}
ReportsOn e log (Err fault) = ⊥

-- the report of a run that ended; what refused the run, refuses the output
abbrev pub TellsEnd : PartEnd → Result Evaluation AllocError → List Entry → Result Output ScriptFault → Type 0
TellsEnd Ended (Ok e) log told = ReportsOn e log told
TellsEnd Ended (Err fault) log told = told ≡ Err NoMemory
TellsEnd (run_refused refusal.NoMemory) gave log told = told ≡ Err NoMemory
TellsEnd (run_refused refusal.TaskLimit) gave log told = told ≡ Err (Limited limit.Tasks)
TellsEnd (run_refused refusal.StoreLimit) gave log told = told ≡ Err (Limited limit.Stored)
