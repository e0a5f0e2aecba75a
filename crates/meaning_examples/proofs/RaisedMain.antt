-- A main that raises.
use Rattle.std.proofs.Common.{◌≡◌, [], ◌∷◌, refl, ap, codes, Err}
use Rattle.std.specs.Prelude.{pos}
use Rattle.std.specs.Fmt.{digits}
use Rattle.flow_base.specs.declared.value.Value.TheVariants as v
use Rattle.flow_base.specs.declared.outcome.Exception.TheVariants as x
use Rattle.flow_base.specs.declared.outcome.Outcome.TheVariants as o
use Rattle.script_tree.specs.declared.tree.Statement.TheVariants as statement
use Rattle.script_tree.specs.Grammar.{Tree}
use Rattle.script_tree.specs.BuiltIns.{built_in_named}
use Rattle.run_report.specs.Shown.{head_text, shown, exception_text, raised_line}
use Rattle.flow_meaning.specs.Inputs.{inputs, are_deep}
use Rattle.flow_meaning.specs.Sequential.{seq, main_ran, resolved, Task, Calls, Waits, sequential, settles}
use Rattle.flow_meaning.specs.Evaluations.{evaluation, evaluation_in, no_losses}
use Rattle.meaning_examples.proofs.ValueFolds.{value_folds}
use Rattle.meaning_examples.proofs.Performed.{asking, main-performed, let-performed, failed-performed}
use Rattle.meaning_examples.proofs.Trees.{variable, number, let_call, built_in, block}
use Rattle.meaning_examples.proofs.Apps.{div, one-by-zero}

-- main { let f = call div(1, 0); print result(f); let g = call div(8, 2); }
abbrev pub prints_failed : Tree
prints_failed = (
  div ∷ [],
  block (
      let_call (codes "f") (codes "div") (number 1 ∷ number 0 ∷ []) ∷
      statement.Print (built_in (codes "result") (variable (codes "f") ∷ [])) ∷
      let_call (codes "g") (codes "div") (number 8 ∷ number 2 ∷ []) ∷ []),
)

abbrev pub failed : Task
failed = record { path = 1 ∷ []; app = 0; arguments = v.Int (pos 1) ∷ v.Int (pos 0) ∷ []; names = []; inputs = []; outcome = o.Failed x.ZeroDivisionError }

pub ran-prints_failed : main_ran prints_failed.0 prints_failed.1 no_losses ≡ (Err x.ZeroDivisionError, record { made = record { calls = 1; tasks = failed ∷ [] }; acts = Calls (1 ∷ []) ∷ Waits (1 ∷ []) ∷ []; printed = [] })
unfolding inputs are_deep resolved built_in_named
ran-prints_failed = main-performed _ _ _ (
    let-performed _ _ _ _ _ _ _ 0 (v.Int (pos 1) ∷ v.Int (pos 0) ∷ []) [] [] (settles (o.Failed x.ZeroDivisionError)) (simp asking) (simp value_folds) (simp (one-by-zero, value_folds)) (
    failed-performed _ _ _ _ _ _ _ (1 ∷ []) 0 (simp asking) refl refl))

-- the exception of the failed call ends main, and the call behind isn't made
pub head-prints_failed : head_text (evaluation prints_failed) ≡ codes "task 1 div exception ZeroDivisionError\nmain raised ZeroDivisionError\n"
unfolding seq digits shown exception_text raised_line
head-prints_failed = ap (λ r. head_text (evaluation_in prints_failed.0 (sequential r))) ran-prints_failed
