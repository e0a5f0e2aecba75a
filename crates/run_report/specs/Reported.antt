-- The text of the whole report.
use Rattle.std.specs.Prelude.{ℕ, List, [], ◌∷◌, ◌++◌, length, codes}
use Rattle.std.specs.Fmt.{decimal}
use Rattle.flow_base.specs.declared.outcome.Evaluation.{Evaluation}
use Rattle.event_log.specs.declared.entry.Entry.{Entry}
use Rattle.event_log.specs.LogText.{log_text}
use Rattle.run_report.specs.Shown.{head_text}

-- how many entries the log has
abbrev pub count_line : ℕ → List ℕ
count_line count = codes "log " ++ decimal count ++ 10 ∷ []

-- the report before its log, the count of its entries, and the log
abbrev pub report_text : Evaluation → List Entry → List ℕ
report_text evaluation entries = head_text evaluation ++ count_line (length entries) ++ log_text entries
