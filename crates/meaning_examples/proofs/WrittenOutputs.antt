-- An app that writes its output.
use Rattle.std.proofs.Common.{◌≡◌, List, [], ◌∷◌, ap, ◌∙◌, codes, Ok}
use Rattle.std.specs.Prelude.{pos, Some}
use Rattle.std.specs.Fmt.{digits}
use Rattle.flow_base.specs.declared.value.Value.TheVariants as v
use Rattle.flow_base.specs.declared.outcome.FileOut.{FileOut}
use Rattle.flow_base.specs.declared.outcome.Outcome.TheVariants as o
use Rattle.flow_base.specs.declared.outcome.Ended.TheVariants as ended
use Rattle.script_tree.specs.declared.tree.Statement.TheVariants as statement
use Rattle.script_tree.specs.declared.tree.AppDef.{AppDef}
use Rattle.script_tree.specs.Grammar.{Tree}
use Rattle.script_tree.specs.BuiltIns.{built_in_named}
use Rattle.run_report.specs.Shown.{head_text, shown}
use Rattle.flow_meaning.specs.Inputs.{inputs, are_deep}
use Rattle.flow_meaning.specs.Operators.{int_of, text_of}
use Rattle.flow_meaning.specs.Meaning.{body}
use Rattle.flow_meaning.specs.Sequential.{seq, main_ran, apply, resolved, Task, Calls, sequential, settles}
use Rattle.flow_meaning.specs.Evaluations.{evaluation, evaluation_in, no_losses}
use Rattle.meaning_examples.proofs.TreeFolds.{tree_folds}
use Rattle.meaning_examples.proofs.ValueFolds.{value_folds}
use Rattle.meaning_examples.proofs.Performed.{asking, main-performed, let-performed, end-performed}
use Rattle.meaning_examples.proofs.Trees.{variable, number, text, let_call, call_to, built_in, block, plain_app}

-- app save(text) outputs 1 { write 0, text; return len(text); }
abbrev pub save : AppDef
save = record (plain_app (codes "save") (codes "text" ∷ []) (statement.Write (number 0) (variable (codes "text")) ∷ statement.Return (built_in (codes "len") (variable (codes "text") ∷ [])) ∷ [])) { outputs = Some (pos 1) }

abbrev pub saved : List FileOut
saved = record { name = codes "a.txt"; content = codes "hello" } ∷ []

save-hello : apply save (v.Text (codes "hello") ∷ []) (codes "a.txt" ∷ []) ≡ ended.Value (v.Int (pos 5)) saved
unfolding apply body int_of text_of built_in_named
save-hello = simp (tree_folds, value_folds)

-- app same(file) { return content(file); }
abbrev pub same : AppDef
same = plain_app (codes "same") (codes "file" ∷ []) (statement.Return (built_in (codes "content") (variable (codes "file") ∷ [])) ∷ [])

same-hello : apply same (v.File (codes "a.txt") (codes "hello") ∷ []) [] ≡ ended.Value (v.Text (codes "hello")) []
unfolding apply body built_in_named
same-hello = simp (tree_folds, value_folds)

-- main { let f = call save("hello") to ("a.txt"); let g = call same(output(f, 0)); }
abbrev pub written : Tree
written = (
  save ∷ same ∷ [],
  block (
      statement.Let (codes "f") (call_to (codes "save") (text (codes "hello") ∷ []) (text (codes "a.txt") ∷ [])) ∷
      let_call (codes "g") (codes "same") (built_in (codes "output") (variable (codes "f") ∷ number 0 ∷ []) ∷ []) ∷ []),
)

abbrev pub tasks : List Task
tasks =
    record { path = 1 ∷ []; app = 0; arguments = v.Text (codes "hello") ∷ []; names = codes "a.txt" ∷ []; inputs = []; outcome = o.Value (v.Int (pos 5)) saved } ∷
    record { path = 2 ∷ []; app = 1; arguments = v.Output (1 ∷ []) 0 ∷ []; names = []; inputs = (1 ∷ []) ∷ []; outcome = o.Value (v.Text (codes "hello")) [] } ∷ []

pub ran-written : main_ran written.0 written.1 no_losses ≡ (Ok (v.Nothing, []), record { made = record { calls = 2; tasks = tasks }; acts = Calls (1 ∷ []) ∷ Calls (2 ∷ []) ∷ []; printed = [] })
unfolding inputs are_deep resolved text_of built_in_named
ran-written = main-performed _ _ _ (
    let-performed _ _ _ _ _ _ _ 0 (v.Text (codes "hello") ∷ []) (codes "a.txt" ∷ []) [] (settles (o.Value (v.Int (pos 5)) saved)) (simp (asking, value_folds)) (simp value_folds) (simp (save-hello, value_folds)) (
    let-performed _ _ _ _ _ _ _ 1 (v.Output (1 ∷ []) 0 ∷ []) [] ((1 ∷ []) ∷ []) (settles (o.Value (v.Text (codes "hello")) [])) (simp (asking, value_folds)) (simp value_folds) (simp (same-hello, value_folds)) (
    end-performed _ _ _)))

-- an output stands for its file
pub head-written : head_text (evaluation written) ≡ codes "task 1 save value 5 outputs [file(\"a.txt\", \"hello\")]\ntask 2 same value \"hello\"\nmain ended\n"
unfolding seq digits shown
head-written = ap (λ r. head_text (evaluation_in written.0 (sequential r))) ran-written ∙ simp value_folds
