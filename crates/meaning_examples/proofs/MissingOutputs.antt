-- An app that doesn't write its output.
use Rattle.std.proofs.Common.{◌≡◌, [], ◌∷◌, ap, codes, Ok}
use Rattle.std.specs.Prelude.{pos, Some}
use Rattle.std.specs.Fmt.{digits}
use Rattle.flow_base.specs.declared.value.Value.TheVariants as v
use Rattle.flow_base.specs.declared.outcome.Exception.TheVariants as x
use Rattle.flow_base.specs.declared.outcome.Outcome.TheVariants as o
use Rattle.flow_base.specs.declared.outcome.Ended.TheVariants as ended
use Rattle.script_tree.specs.declared.tree.Statement.TheVariants as statement
use Rattle.script_tree.specs.declared.tree.AppDef.{AppDef}
use Rattle.script_tree.specs.Grammar.{Tree}
use Rattle.run_report.specs.Shown.{head_text, shown, exception_text}
use Rattle.flow_meaning.specs.Inputs.{inputs, are_deep}
use Rattle.flow_meaning.specs.Operators.{text_of}
use Rattle.flow_meaning.specs.Meaning.{body}
use Rattle.flow_meaning.specs.Sequential.{seq, main_ran, apply, resolved, Task, Calls, sequential, settles}
use Rattle.flow_meaning.specs.Evaluations.{evaluation, evaluation_in, no_losses}
use Rattle.meaning_examples.proofs.TreeFolds.{tree_folds}
use Rattle.meaning_examples.proofs.ValueFolds.{value_folds}
use Rattle.meaning_examples.proofs.Performed.{asking, main-performed, let-performed, end-performed}
use Rattle.meaning_examples.proofs.Trees.{variable, number, text, call_to, block, plain_app}

-- app copy(n) outputs 1 { return n; }
abbrev pub copy : AppDef
copy = record (plain_app (codes "copy") (codes "n" ∷ []) (statement.Return (variable (codes "n")) ∷ [])) { outputs = Some (pos 1) }

-- main { let f = call copy(1) to ("a.txt"); }
abbrev pub unwritten : Tree
unwritten = (copy ∷ [], block (statement.Let (codes "f") (call_to (codes "copy") (number 1 ∷ []) (text (codes "a.txt") ∷ [])) ∷ []))

abbrev pub task : Task
task = record { path = 1 ∷ []; app = 0; arguments = v.Int (pos 1) ∷ []; names = codes "a.txt" ∷ []; inputs = []; outcome = o.Failed x.MissingOutputs }

copy-one : apply copy (v.Int (pos 1) ∷ []) (codes "a.txt" ∷ []) ≡ ended.Raised x.MissingOutputs
unfolding apply body
copy-one = simp tree_folds

pub ran-unwritten : main_ran unwritten.0 unwritten.1 no_losses ≡ (Ok (v.Nothing, []), record { made = record { calls = 1; tasks = task ∷ [] }; acts = Calls (1 ∷ []) ∷ []; printed = [] })
unfolding inputs are_deep resolved text_of
ran-unwritten = main-performed _ _ _ (
    let-performed _ _ _ _ _ _ _ 0 (v.Int (pos 1) ∷ []) (codes "a.txt" ∷ []) [] (settles (o.Failed x.MissingOutputs)) (simp (asking, value_folds)) (simp value_folds) (simp (copy-one, value_folds)) (
    end-performed _ _ _))

pub head-unwritten : head_text (evaluation unwritten) ≡ codes "task 1 copy exception MissingOutputs\nmain ended\n"
unfolding seq digits shown exception_text
head-unwritten = ap (λ r. head_text (evaluation_in unwritten.0 (sequential r))) ran-unwritten
