-- Calls whose inputs failed.
use Rattle.std.proofs.Common.{◌≡◌, List, [], ◌∷◌, ap, ◌∙◌, codes, Ok}
use Rattle.std.specs.Prelude.{pos}
use Rattle.std.specs.Fmt.{digits}
use Rattle.flow_base.specs.declared.value.Value.TheVariants as v
use Rattle.flow_base.specs.declared.outcome.Exception.TheVariants as x
use Rattle.flow_base.specs.declared.outcome.Outcome.TheVariants as o
use Rattle.script_tree.specs.declared.tree.Statement.TheVariants as statement
use Rattle.script_tree.specs.declared.tree.AppDef.{AppDef}
use Rattle.script_tree.specs.Grammar.{Tree}
use Rattle.run_report.specs.Shown.{head_text, shown, exception_text}
use Rattle.flow_meaning.specs.Inputs.{inputs, are_deep}
use Rattle.flow_meaning.specs.Sequential.{seq, main_ran, resolved, Task, Calls, sequential, settles}
use Rattle.flow_meaning.specs.Evaluations.{evaluation, evaluation_in, no_losses}
use Rattle.meaning_examples.proofs.ValueFolds.{value_folds}
use Rattle.meaning_examples.proofs.Performed.{asking, main-performed, let-performed, end-performed}
use Rattle.meaning_examples.proofs.Trees.{variable, number, list, let_call, built_in, block, plain_app}
use Rattle.meaning_examples.proofs.Apps.{div, add, one-by-zero, two-by-zero, eight-by-two}

-- main { let f = call div(1, 0); let g = call div(8, 2); let h = call add(f, g); let k = call add(f, 1); }
abbrev pub depends_on_failed : Tree
depends_on_failed = (
  div ∷ add ∷ [],
  block (
      let_call (codes "f") (codes "div") (number 1 ∷ number 0 ∷ []) ∷
      let_call (codes "g") (codes "div") (number 8 ∷ number 2 ∷ []) ∷
      let_call (codes "h") (codes "add") (variable (codes "f") ∷ variable (codes "g") ∷ []) ∷
      let_call (codes "k") (codes "add") (variable (codes "f") ∷ number 1 ∷ []) ∷ []),
)

abbrev pub tasks_depending : List Task
tasks_depending =
    record { path = 1 ∷ []; app = 0; arguments = v.Int (pos 1) ∷ v.Int (pos 0) ∷ []; names = []; inputs = []; outcome = o.Failed x.ZeroDivisionError } ∷
    record { path = 2 ∷ []; app = 0; arguments = v.Int (pos 8) ∷ v.Int (pos 2) ∷ []; names = []; inputs = []; outcome = o.Value (v.Int (pos 4)) [] } ∷
    record { path = 3 ∷ []; app = 1; arguments = v.Future (1 ∷ []) 0 ∷ v.Future (2 ∷ []) 0 ∷ []; names = []; inputs = (1 ∷ []) ∷ (2 ∷ []) ∷ []; outcome = o.Failed (x.DependencyError ((1 ∷ []) ∷ [])) } ∷
    record { path = 4 ∷ []; app = 1; arguments = v.Future (1 ∷ []) 0 ∷ v.Int (pos 1) ∷ []; names = []; inputs = (1 ∷ []) ∷ []; outcome = o.Failed (x.DependencyError ((1 ∷ []) ∷ [])) } ∷ []

pub ran-depends_on_failed : main_ran depends_on_failed.0 depends_on_failed.1 no_losses ≡ (Ok (v.Nothing, []), record { made = record { calls = 4; tasks = tasks_depending }; acts = Calls (1 ∷ []) ∷ Calls (2 ∷ []) ∷ Calls (3 ∷ []) ∷ Calls (4 ∷ []) ∷ []; printed = [] })
unfolding inputs are_deep resolved
ran-depends_on_failed = main-performed _ _ _ (
    let-performed _ _ _ _ _ _ _ 0 (v.Int (pos 1) ∷ v.Int (pos 0) ∷ []) [] [] (settles (o.Failed x.ZeroDivisionError)) (simp asking) (simp value_folds) (simp (one-by-zero, value_folds)) (
    let-performed _ _ _ _ _ _ _ 0 (v.Int (pos 8) ∷ v.Int (pos 2) ∷ []) [] [] (settles (o.Value (v.Int (pos 4)) [])) (simp asking) (simp value_folds) (simp (eight-by-two, value_folds)) (
    let-performed _ _ _ _ _ _ _ 1 (v.Future (1 ∷ []) 0 ∷ v.Future (2 ∷ []) 0 ∷ []) [] ((1 ∷ []) ∷ (2 ∷ []) ∷ []) (settles (o.Failed (x.DependencyError ((1 ∷ []) ∷ [])))) (simp asking) (simp value_folds) (simp value_folds) (
    let-performed _ _ _ _ _ _ _ 1 (v.Future (1 ∷ []) 0 ∷ v.Int (pos 1) ∷ []) [] ((1 ∷ []) ∷ []) (settles (o.Failed (x.DependencyError ((1 ∷ []) ∷ [])))) (simp asking) (simp value_folds) (simp value_folds) (
    end-performed _ _ _)))))

-- a call that needs a failed call fails with the failed call's path
pub head-depends_on_failed : head_text (evaluation depends_on_failed) ≡ codes "task 1 div exception ZeroDivisionError\ntask 2 div value 4\ntask 3 add exception DependencyError 1\ntask 4 add exception DependencyError 1\nmain ended\n"
unfolding seq digits shown exception_text
head-depends_on_failed = ap (λ r. head_text (evaluation_in depends_on_failed.0 (sequential r))) ran-depends_on_failed ∙ simp value_folds

-- app total(vs) { return len(vs); }
abbrev pub total : AppDef
total = plain_app (codes "total") (codes "vs" ∷ []) (statement.Return (built_in (codes "len") (variable (codes "vs") ∷ [])) ∷ [])

-- main { let f = call div(1, 0); let g = call div(2, 0); let t = call total([g, f, g]); }
abbrev pub list_of_failed : Tree
list_of_failed = (
  div ∷ total ∷ [],
  block (
      let_call (codes "f") (codes "div") (number 1 ∷ number 0 ∷ []) ∷
      let_call (codes "g") (codes "div") (number 2 ∷ number 0 ∷ []) ∷
      let_call (codes "t") (codes "total") (list (variable (codes "g") ∷ variable (codes "f") ∷ variable (codes "g") ∷ []) ∷ []) ∷ []),
)

abbrev pub tasks_listed : List Task
tasks_listed =
    record { path = 1 ∷ []; app = 0; arguments = v.Int (pos 1) ∷ v.Int (pos 0) ∷ []; names = []; inputs = []; outcome = o.Failed x.ZeroDivisionError } ∷
    record { path = 2 ∷ []; app = 0; arguments = v.Int (pos 2) ∷ v.Int (pos 0) ∷ []; names = []; inputs = []; outcome = o.Failed x.ZeroDivisionError } ∷
    record { path = 3 ∷ []; app = 1; arguments = v.List (v.Future (2 ∷ []) 0 ∷ v.Future (1 ∷ []) 0 ∷ v.Future (2 ∷ []) 0 ∷ []) ∷ []; names = []; inputs = (2 ∷ []) ∷ (1 ∷ []) ∷ []; outcome = o.Failed (x.DependencyError ((2 ∷ []) ∷ (1 ∷ []) ∷ [])) } ∷ []

pub ran-list_of_failed : main_ran list_of_failed.0 list_of_failed.1 no_losses ≡ (Ok (v.Nothing, []), record { made = record { calls = 3; tasks = tasks_listed }; acts = Calls (1 ∷ []) ∷ Calls (2 ∷ []) ∷ Calls (3 ∷ []) ∷ []; printed = [] })
unfolding inputs are_deep resolved
ran-list_of_failed = main-performed _ _ _ (
    let-performed _ _ _ _ _ _ _ 0 (v.Int (pos 1) ∷ v.Int (pos 0) ∷ []) [] [] (settles (o.Failed x.ZeroDivisionError)) (simp asking) (simp value_folds) (simp (one-by-zero, value_folds)) (
    let-performed _ _ _ _ _ _ _ 0 (v.Int (pos 2) ∷ v.Int (pos 0) ∷ []) [] [] (settles (o.Failed x.ZeroDivisionError)) (simp asking) (simp value_folds) (simp (two-by-zero, value_folds)) (
    let-performed _ _ _ _ _ _ _ 1 (v.List (v.Future (2 ∷ []) 0 ∷ v.Future (1 ∷ []) 0 ∷ v.Future (2 ∷ []) 0 ∷ []) ∷ []) [] ((2 ∷ []) ∷ (1 ∷ []) ∷ []) (settles (o.Failed (x.DependencyError ((2 ∷ []) ∷ (1 ∷ []) ∷ [])))) (simp (asking, value_folds)) (simp value_folds) (simp value_folds) (
    end-performed _ _ _))))

-- each path of a failed input stands once, in the order of the arguments
pub head-list_of_failed : head_text (evaluation list_of_failed) ≡ codes "task 1 div exception ZeroDivisionError\ntask 2 div exception ZeroDivisionError\ntask 3 total exception DependencyError 2 1\nmain ended\n"
unfolding seq digits shown exception_text
head-list_of_failed = ap (λ r. head_text (evaluation_in list_of_failed.0 (sequential r))) ran-list_of_failed
