-- The history of a run is read back from its report.
use Rattle.std.specs.Prelude.{◌≡◌, ℕ, List, Some, All}
use Rattle.script_tree.specs.Grammar.{Tree}
use Rattle.script_tree.specs.Rules.{IsWellFormed}
use Rattle.event_log.specs.declared.entry.Entry.{Entry}
use Rattle.event_log.specs.LogText.{log_text}
use Rattle.event_log.specs.Logs.{HasLine, InRange}
use Rattle.run_report.specs.Reported.{report_text}
use Rattle.run_report.specs.ReadBack.{log_in}
use Rattle.flow_meaning.specs.Evaluations.{evaluation}
use Rattle.history_laws.specs.declared.table.Retries.{Retries}
use Rattle.history_laws.specs.Legal.{IsLegalLog}
use Rattle.log_lines.specs.Lines.{HasNames}

-- entries that have lines, whose text this is
pub record IsTextOf (bytes : List ℕ) (entries : List Entry) : Type 0 where
  pub text : bytes ≡ log_text entries
  pub each : All HasLine entries
  pub ranges : All InRange entries

-- these entries stand behind the first line of the report that begins with `log `, and no others do
pub record IsReadBack (report : List ℕ) (log : List Entry) : Type 0 where
  pub bytes : List ℕ
  pub behind : log_in report ≡ Some bytes
  pub is : IsTextOf bytes log
  pub only : (others : List Entry) → IsTextOf bytes others → others ≡ log

-- the log of each run is read back from its report
abbrev pub ReportsAreReadBack : Type 0
ReportsAreReadBack = (tree : Tree) (r : Retries) (log : List Entry) → IsWellFormed tree → HasNames tree → IsLegalLog tree r log → All InRange log → IsReadBack (report_text (evaluation tree) log) log
