-- The text of values, exceptions and task lines.
use Rattle.std.specs.Prelude.{ℕ, List, [], ◌∷◌, ◌++◌, map, flat_map, codes}
use Rattle.std.specs.Fmt.{decimal, signed_decimal}
use Rattle.text_writer.specs.Written.{joined, quoted, path_text}
use Rattle.flow_base.specs.declared.value.Value.{Value, fold-Value}
use Rattle.flow_base.specs.declared.value.Value.TheOpen.{Value-F}
use Rattle.flow_base.specs.declared.outcome.Exception.{Exception}
use Rattle.flow_base.specs.declared.outcome.Exception.TheVariants.{AppError, DependencyError, JoinError, ManagerLost}
use Rattle.flow_base.specs.Exceptions.{exception_name}
use Rattle.flow_base.specs.declared.outcome.FileOut.{FileOut}
use Rattle.flow_base.specs.declared.outcome.Outcome.{Outcome}
use Rattle.flow_base.specs.declared.outcome.Outcome.TheVariants as outcome
use Rattle.flow_base.specs.declared.outcome.Ending.{Ending}
use Rattle.flow_base.specs.declared.outcome.Ending.TheVariants as ending
use Rattle.flow_base.specs.declared.outcome.TaskEnd.{TaskEnd}
use Rattle.flow_base.specs.declared.outcome.Evaluation.{Evaluation}

abbrev pub file_text : List ℕ → List ℕ → List ℕ
file_text name content = codes "file(" ++ quoted name ++ codes ", " ++ quoted content ++ codes ")"

abbrev pub list_text : List (List ℕ) → List ℕ
list_text items = codes "[" ++ joined (codes ", ") items ++ codes "]"

abbrev pub shown_step : Value-F (List ℕ) → List ℕ
shown_step (Value-F.Int n) = signed_decimal n
shown_step (Value-F.Text t) = quoted t
shown_step (Value-F.List items) = list_text items
shown_step (Value-F.File name content) = file_text name content
shown_step (Value-F.Future path outputs) = codes "future " ++ path_text path
shown_step (Value-F.Output path index) = codes "output " ++ path_text path ++ codes " " ++ decimal index
shown_step Value-F.Nothing = codes "nothing"

unfoldable pub shown : Value → List ℕ
shown = fold-Value (List ℕ) shown_step

abbrev pub paths_text : List (List ℕ) → List ℕ
paths_text paths = flat_map (λ path. codes " " ++ path_text path) paths

-- what stands behind the name
abbrev pub exception_detail : Exception → List ℕ
exception_detail (AppError text) = codes " " ++ quoted text
exception_detail (DependencyError paths) = paths_text paths
exception_detail (JoinError paths) = paths_text paths
exception_detail (ManagerLost manager) = codes " " ++ decimal manager
exception_detail _ = []

unfoldable pub exception_text : Exception → List ℕ
exception_text exception = exception_name exception ++ exception_detail exception

abbrev pub file_values : List FileOut → List (List ℕ)
file_values files = map (λ (f : FileOut). file_text f.name f.content) files

abbrev pub files_text : List FileOut → List ℕ
files_text [] = []
files_text (first ∷ rest) = codes " outputs " ++ list_text (file_values (first ∷ rest))

abbrev pub outcome_text : Outcome → List ℕ
outcome_text (outcome.Value value files) = codes "value " ++ shown value ++ files_text files
outcome_text (outcome.Failed exception) = codes "exception " ++ exception_text exception

abbrev pub task_line : TaskEnd → List ℕ
task_line end = codes "task " ++ path_text end.path ++ codes " " ++ end.app ++ codes " " ++ outcome_text end.outcome ++ 10 ∷ []

abbrev pub print_line : Value → List ℕ
print_line value = codes "print " ++ shown value ++ 10 ∷ []

unfoldable pub raised_line : Exception → List ℕ
raised_line exception = codes "raised " ++ exception_text exception ++ 10 ∷ []

abbrev pub ending_line : Ending → List ℕ
ending_line ending.Ended = codes "main ended" ++ 10 ∷ []
ending_line (ending.Raised exception) = codes "main " ++ raised_line exception

-- the report before its log
abbrev pub head_text : Evaluation → List ℕ
head_text evaluation = flat_map print_line evaluation.printed ++ flat_map task_line evaluation.tasks ++ ending_line evaluation.main
