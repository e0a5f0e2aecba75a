-- What is produced for the text of a script.
use Rattle.std.proofs.Common.{◌≡◌, ◌⊎◌, ℕ, inl, inr, List, Option, None, Some, sym, ap, ◌∙◌, subst, Ok, Err}
use Rattle.std.specs.declared.result.Result.{Result}
use Rattle.std.specs.declared.alloc.AllocError.{AllocError}
use Rattle.script_tree.specs.Grammar.{Tree, PlacedTree}
use Rattle.flow_base.specs.declared.outcome.Evaluation.{Evaluation}
use Rattle.flow_meaning.specs.Evaluations.{evaluation}
use Rattle.event_log.specs.declared.entry.Entry.{Entry}
use Rattle.history_laws.specs.Legal.{IsLegalLog}
use Rattle.log_lines.specs.ReadBack.{IsReadBack}
use Rattle.run_report.specs.Reported.{report_text}
use Rattle.kernel_model.specs.declared.answers.Refusal.{Refusal}
use Rattle.kernel_model.specs.declared.answers.Refusal.TheVariants as refusal
use Rattle.kernel_model.specs.Known.{no_retries}
use Rattle.kernel_model.specs.RunTotals.{IsWithinRun}
use Rattle.parsl_engine.specs.declared.output.Output.{Output}
use Rattle.parsl_engine.specs.declared.words.Command.{Command}
use Rattle.parsl_engine.specs.declared.words.Command.TheVariants as command
use Rattle.parsl_engine.specs.declared.script.ScriptFault.{ScriptFault}
use Rattle.parsl_engine.specs.declared.script.ScriptFault.TheVariants.{Refused, Limited, NoMemory}
use Rattle.parsl_engine.specs.declared.run.PartEnd.{PartEnd}
use Rattle.parsl_engine.specs.declared.run.PartEnd.TheVariants.{Ended, Refused as run_refused}
use Rattle.parsl_engine.specs.Runs.{IsWholeLog, without_losses, HasRun, IsCutShort, IsRun, refusal_of}
use Rattle.parsl_engine.specs.Scripts.{IsCheckedText}
use Rattle.parsl_engine.specs.Output.{is_raised, Gives, MayHaveTold, Produces, ReportsOn, TellsEnd, TellsFor}
use Rattle.parsl_engine.specs.Tellings.{Ledgers, TellsRun, TellsLegal}

-- the log of a run is read back from its report
abbrev pub Reads : PlacedTree → List Entry → Type 0
Reads script log = IsWholeLog script.tree log → IsReadBack (report_text (evaluation script.tree) log) log

-- what the monitors were told of a legal log
legal_told : (tree : Tree) (refusal : Option Refusal) (log : List Entry) (told told' : Ledgers) → IsLegalLog tree no_retries log → TellsRun tree refusal log told told' → TellsLegal tree refusal told told'
legal_told tree refusal log told told' legal run = record { log = log; legal = legal; run = run }

module _ (script : PlacedTree) (log : List Entry) (told told' : Ledgers) (r : Result Output ScriptFault) where
  -- the report of the sequential evaluation and of a legal and complete log
  reports : (e : Evaluation) → Reads script log → IsWithinRun script.tree.0 (without_losses script.tree) → IsWholeLog script.tree log → e ≡ evaluation script.tree → TellsRun script.tree None log told told' → ReportsOn e log r → Gives command.Run script r told told'
  reports e read within whole same tells made = by_output r made
    where
      by_output : (s : Result Output ScriptFault) → ReportsOn e log s → Gives command.Run script s told told'
      by_output (Ok output) made = record {
        within = within;
        log = log;
        whole = whole;
        report = made.0 ∙ ap (λ (e : Evaluation). report_text e log) same;
        reads = rw (made.0 ∙ ap (λ (e : Evaluation). report_text e log) same) (read whole);
        tells = tells;
        raised_is = made.1 ∙ ap (λ (e : Evaluation). is_raised e.main) same;
      }
      by_output (Err (Refused why)) made = absurd made
      by_output (Err (Limited why)) made = absurd made
      by_output (Err NoMemory) made = inr (None, legal_told script.tree None log told told' whole.legal tells)

  given : (gave : Result Evaluation AllocError) → Reads script log → HasRun script.tree gave log → TellsRun script.tree None log told told' → TellsEnd Ended gave log r → Gives command.Run script r told told'
  given (Ok e) read has tells made = reports e read has.within has.whole has.gives tells made
  given (Err fault) read has tells made = subst (λ (s : Result Output ScriptFault). Gives command.Run script s told told') (sym made) (inr (None, legal_told script.tree None log told told' has.whole.legal tells))

  cut_short : (gave : Result Evaluation AllocError) (refused : Refusal) → IsCutShort script.tree log refused → TellsRun script.tree (Some refused) log told told' → TellsEnd (run_refused refused) gave log r → Gives command.Run script r told told'
  cut_short gave refusal.NoMemory is tells made = subst (λ (s : Result Output ScriptFault). Gives command.Run script s told told') (sym made) (inr (Some refusal.NoMemory, legal_told script.tree (Some refusal.NoMemory) log told told' is.legal tells))
  cut_short gave refusal.TaskLimit is tells made = subst (λ (s : Result Output ScriptFault). Gives command.Run script s told told') (sym made) (is.cause, legal_told script.tree (Some refusal.TaskLimit) log told told' is.legal tells)
  cut_short gave refusal.StoreLimit is tells made = subst (λ (s : Result Output ScriptFault). Gives command.Run script s told told') (sym made) (is.cause, legal_told script.tree (Some refusal.StoreLimit) log told told' is.legal tells)

pub run_gives : (script : PlacedTree) (end : PartEnd) (gave : Result Evaluation AllocError) (log : List Entry) (r : Result Output ScriptFault) (told told' : Ledgers) → Reads script log → IsRun script.tree end gave log → TellsRun script.tree (refusal_of end) log told told' → TellsEnd end gave log r → Gives command.Run script r told told'
run_gives script Ended gave log r told told' read is tells made = given script log told told' r gave read is tells made
run_gives script (run_refused refused) gave log r told told' read is tells made = cut_short script log told told' r gave refused is tells made

-- ---- what is given for a script is produced for its bytes

module _ (c : Command) (bytes : List ℕ) (script : PlacedTree) (told told' : Ledgers) (text : IsCheckedText bytes script) where
  may_tell : (told' ≡ told) ⊎ ((refusal : Option Refusal) × TellsFor c script refusal told told') → MayHaveTold c bytes told told'
  may_tell (inl same) = inl same
  may_tell (inr tells) = inr (tells.0, record { script = script; text = text; tells = tells.1 })

  pub produces : (r : Result Output ScriptFault) → Gives c script r told told' → Produces c bytes r told told'
  produces (Ok output) gives = record { script = script; text = text; prints = gives }
  produces (Err (Refused refusal)) gives = absurd gives
  produces (Err (Limited l)) gives = (record { script = script; text = text; passes = gives.0 }, record { script = script; text = text; tells = gives.1 })
  produces (Err NoMemory) gives = may_tell gives

pub seq_produces : (bytes : List ℕ) (script : PlacedTree) (r : Result Output ScriptFault) (told : Ledgers) → IsCheckedText bytes script → Gives command.Seq script r told told → Produces command.Seq bytes r told told
seq_produces bytes script r told text = produces command.Seq bytes script told told text r

pub run_produces : (bytes : List ℕ) (script : PlacedTree) (r : Result Output ScriptFault) (told told' : Ledgers) → IsCheckedText bytes script → Gives command.Run script r told told' → Produces command.Run bytes r told told'
run_produces bytes script r told told' text = produces command.Run bytes script told told' text r
