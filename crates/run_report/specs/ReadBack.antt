-- What a reader finds of the log in a report.
use Rattle.std.specs.Prelude.{◌≡◌, ℕ, Bool, true, false, not, List, [], ◌∷◌, if◌then◌else◌, nat_eq, codes}
use Rattle.std.specs.declared.option.Option.{Option}
use Rattle.std.specs.declared.option.Option.TheVariants.{Some, None}
use Rattle.std.specs.List.{list_all, starts_with, AllByRecursion}
use Rattle.flow_base.specs.declared.outcome.TaskEnd.{TaskEnd}
use Rattle.flow_base.specs.declared.outcome.Evaluation.{Evaluation}
use Rattle.event_log.specs.declared.entry.Entry.{Entry}
use Rattle.event_log.specs.LogText.{log_text}
use Rattle.run_report.specs.Reported.{report_text}

-- what stands behind the first newline
abbrev pub behind_newline : List ℕ → Option (List ℕ)
behind_newline [] = None
behind_newline (b ∷ bs) = if nat_eq b 10 then Some bs else behind_newline bs

-- whether these bytes begin with `log `
abbrev pub begins_log : List ℕ → Bool
begins_log bytes = starts_with nat_eq bytes (codes "log ")

-- what stands behind the first line that begins with `log `; the flag says whether a line begins here
abbrev pub log_from : Bool → List ℕ → Option (List ℕ)
log_from start [] = None
log_from true (b ∷ bs) = if begins_log (b ∷ bs) then behind_newline (b ∷ bs) else log_from (nat_eq b 10) bs
log_from false (b ∷ bs) = log_from (nat_eq b 10) bs

-- the log that a reader finds in a report
abbrev pub log_in : List ℕ → Option (List ℕ)
log_in report = log_from true report

-- no newline stands in it
abbrev pub IsPlainText : List ℕ → Type 0
IsPlainText text = list_all (λ b. not (nat_eq b 10)) text ≡ true

-- no app of a task has a newline in its name
abbrev pub HasNames : Evaluation → Type 0
HasNames evaluation = AllByRecursion (λ (end : TaskEnd). IsPlainText end.app) evaluation.tasks

-- the log of each report is found in it
abbrev pub LogsAreFound : Type 0
LogsAreFound = (evaluation : Evaluation) (entries : List Entry) → HasNames evaluation → log_in (report_text evaluation entries) ≡ Some (log_text entries)
