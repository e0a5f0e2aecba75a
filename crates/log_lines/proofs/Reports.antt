-- The log of a run is read back from its report.
use Rattle.std.proofs.Common.{◌≡◌, ℕ, true, List, [], ◌∷◌, refl}
use Rattle.std.specs.Prelude.{nat_eq, not, map, slice_get, Some}
use Rattle.std.specs.List.{list_all, AllByRecursion}
use Rattle.flow_base.specs.declared.outcome.TaskEnd.{TaskEnd}
use Rattle.script_tree.specs.declared.tree.AppDef.{AppDef}
use Rattle.script_tree.specs.Grammar.{Tree}
use Rattle.script_tree.specs.Rules.{IsWellFormed}
use Rattle.event_log.specs.LogText.{log_text}
use Rattle.event_log.specs.Logs.{IsName}
use Rattle.event_log.specs.Reading.{is_in_word}
use Rattle.event_log.proofs.Branches.{parts_of, join}
use Rattle.event_log.proofs.Pieces.{word_of_name}
use Rattle.run_report.specs.ReadBack.{IsPlainText, HasNames as HasPlainNames}
use Rattle.run_report.proofs.LogFound.{logs_found}
use Rattle.flow_meaning.specs.Sequential.{Tasks, seq}
use Rattle.flow_meaning.specs.Evaluations.{task_end, no_losses, evaluation}
use Rattle.body_requests.specs.Asks.{Each}
use Rattle.log_lines.specs.Lines.{HasNames, IsOfApp}
use Rattle.log_lines.specs.ReadBack.{IsTextOf, ReportsAreReadBack}
use Rattle.log_lines.proofs.Apps.{tasks-apps}
use Rattle.log_lines.proofs.Rows.{app_name}
use Rattle.log_lines.proofs.Texts.{one-text}
use Rattle.log_lines.proofs.Whole.{legal-lines}

-- ---- names have no newline

word_plain : (w : List ℕ) → list_all is_in_word w ≡ true → IsPlainText w
word_plain [] h = refl
word_plain (b ∷ bs) h =
    let parts = parts_of (is_in_word b) (list_all is_in_word bs) h in
    let no_newline = parts_of (not (nat_eq b 32)) (not (nat_eq b 10)) parts.0 in
    join (not (nat_eq b 10)) (list_all (λ c. not (nat_eq c 10)) bs) no_newline.1 (word_plain bs parts.1)

name_plain : (name : List ℕ) → IsName name → IsPlainText name
name_plain name is = word_plain name (word_of_name.plain name is)

ends_plain : (apps : List AppDef) → ((k : ℕ) (app : AppDef) → slice_get apps k ≡ Some app → IsName app.name) → (ts : Tasks) → Each (IsOfApp apps) ts → AllByRecursion (λ (end : TaskEnd). IsPlainText end.app) (map (task_end apps) ts)
ends_plain apps names [] each = tt
ends_plain apps names (t ∷ ts) each = (name_plain _ (app_name apps names t.app each.0), ends_plain apps names ts each.1)

evaluation_plain : (tree : Tree) → IsWellFormed tree → HasNames tree → HasPlainNames (evaluation tree)
evaluation_plain tree good names = ends_plain tree.0 names (seq tree.0 tree.1 no_losses).tasks (tasks-apps tree no_losses good)

-- ---- the report

pub reports-read : ReportsAreReadBack
reports-read tree r log good names legal ranges =
    let is : IsTextOf (log_text log) log = record { text = refl; each = legal-lines tree r log good names legal; ranges = ranges } in
    record {
      bytes = log_text log;
      behind = logs_found (evaluation tree) log (evaluation_plain tree good names);
      is = is;
      only = λ others other. one-text (log_text log) log others is other;
    }
