-- A reader passes each line of the head, and finds the log behind the line of its count.
use Rattle.std.proofs.Common.{◌≡◌, ℕ, true, false, List, [], ◌∷◌, ◌++◌, length, refl, ap, ◌∙◌, append_assoc}
use Rattle.std.specs.Prelude.{nat_eq, flat_map, codes}
use Rattle.std.specs.declared.option.Option.TheVariants.{Some}
use Rattle.std.specs.Fmt.{decimal}
use Rattle.std.specs.List.{AllByRecursion}
use Rattle.std.proofs.lemmas.Bool.{and_parts, not-true, cond-false}
use Rattle.text_writer.specs.Written.{path_text}
use Rattle.flow_base.specs.declared.value.Value.{Value}
use Rattle.flow_base.specs.declared.outcome.Ending.{Ending}
use Rattle.flow_base.specs.declared.outcome.Ending.TheVariants as ending
use Rattle.flow_base.specs.declared.outcome.TaskEnd.{TaskEnd}
use Rattle.event_log.specs.LogText.{log_text}
use Rattle.run_report.specs.Shown.{shown, exception_text, outcome_text, print_line, task_line, raised_line, ending_line}
use Rattle.run_report.specs.Reported.{count_line}
use Rattle.run_report.specs.ReadBack.{behind_newline, log_from, IsPlainText, LogsAreFound}
use Rattle.run_report.proofs.PlainTexts.{append_plain, decimal_plain, path_plain, shown_plain, exception_plain, outcome_plain}

-- what is left of a line is passed
rest_passes : (text rest : List ℕ) → IsPlainText text → log_from false ((text ++ 10 ∷ []) ++ rest) ≡ log_from true rest
rest_passes [] rest h = refl
rest_passes (b ∷ text) rest h =
    let both = and_parts _ _ h in
    ap (λ t. log_from t ((text ++ 10 ∷ []) ++ rest)) (not-true (nat_eq b 10) both.0) ∙ rest_passes text rest both.1

-- a reader that is at the beginning of these lines comes to their end
abbrev Passes : List ℕ → Type 0
Passes lines = (rest : List ℕ) → log_from true (lines ++ rest) ≡ log_from true rest

all_pass : {A : Type 0} (P : A → Type 0) (line : A → List ℕ) → ((item : A) → P item → Passes (line item)) → (items : List A) → AllByRecursion P items → Passes (flat_map line items)
all_pass P line f [] h rest = refl
all_pass P line f (item ∷ items) h rest =
    ap (log_from true) (append_assoc (line item) (flat_map line items) rest) ∙ f item h.0 (flat_map line items ++ rest) ∙ all_pass P line f items h.1 rest

print_passes : (value : Value) → IsPlainText (shown value) → Passes (print_line value)
print_passes value h rest = rest_passes (shown value) rest h

all_shown : (values : List Value) → AllByRecursion (λ v. IsPlainText (shown v)) values
all_shown [] = tt
all_shown (value ∷ values) = (shown_plain value, all_shown values)

task_passes : (end : TaskEnd) → IsPlainText end.app → Passes (task_line end)
task_passes end named rest =
    let placed = append_plain (path_text end.path) (codes " ") (path_plain end.path) refl in
    let called = append_plain (path_text end.path ++ codes " ") end.app placed named in
    let parted = append_plain (path_text end.path ++ codes " " ++ end.app) (codes " ") called refl in
    let told = append_plain (path_text end.path ++ codes " " ++ end.app ++ codes " ") (outcome_text end.outcome) parted (outcome_plain end.outcome) in
    rest_passes (path_text end.path ++ codes " " ++ end.app ++ codes " " ++ outcome_text end.outcome) rest told

ending_passes : (main : Ending) → Passes (ending_line main)
unfolding raised_line
ending_passes ending.Ended rest = refl
ending_passes (ending.Raised exception) rest = rest_passes (exception_text exception) rest (exception_plain exception)

-- behind the newline of the line of the count
line_ends : (text rest : List ℕ) → IsPlainText text → behind_newline ((text ++ 10 ∷ []) ++ rest) ≡ Some rest
line_ends [] rest h = refl
line_ends (b ∷ text) rest h =
    let both = and_parts _ _ h in
    cond-false (nat_eq b 10) (Some ((text ++ 10 ∷ []) ++ rest)) (behind_newline ((text ++ 10 ∷ []) ++ rest)) (not-true (nat_eq b 10) both.0) ∙ line_ends text rest both.1

count_found : (count : ℕ) (log : List ℕ) → log_from true (count_line count ++ log) ≡ Some log
count_found count log = line_ends (decimal count) log (decimal_plain count)

in_parts : (printed tasks main count log : List ℕ) → (((printed ++ tasks) ++ main) ++ count) ++ log ≡ printed ++ (tasks ++ (main ++ (count ++ log)))
in_parts printed tasks main count log = simp append_assoc

pub logs_found : LogsAreFound
logs_found evaluation entries named =
    let printed = flat_map print_line evaluation.printed in
    let tasks = flat_map task_line evaluation.tasks in
    let main = ending_line evaluation.main in
    let count = count_line (length entries) in
    ap (log_from true) (in_parts printed tasks main count (log_text entries))
    ∙ all_pass (λ v. IsPlainText (shown v)) print_line print_passes evaluation.printed (all_shown evaluation.printed) (tasks ++ (main ++ (count ++ log_text entries)))
    ∙ all_pass (λ (end : TaskEnd). IsPlainText end.app) task_line task_passes evaluation.tasks named (main ++ (count ++ log_text entries))
    ∙ ending_passes evaluation.main (count ++ log_text entries)
    ∙ count_found (length entries) (log_text entries)
