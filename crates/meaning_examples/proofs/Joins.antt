-- Joins that give no value.
use Rattle.std.proofs.Common.{◌≡◌, ℕ, List, [], ◌∷◌, ◌++◌, refl, ap, ◌∙◌, codes, true, Ok}
use Rattle.std.specs.Prelude.{pos}
use Rattle.std.specs.Fmt.{digits}
use Rattle.flow_base.specs.declared.value.Value.TheVariants as v
use Rattle.flow_base.specs.declared.outcome.Exception.TheVariants as x
use Rattle.flow_base.specs.declared.outcome.Outcome.TheVariants as o
use Rattle.script_tree.specs.declared.tree.Statement.{Statement}
use Rattle.script_tree.specs.declared.tree.Statement.TheVariants as statement
use Rattle.script_tree.specs.declared.tree.AppDef.{AppDef}
use Rattle.script_tree.specs.Grammar.{Tree}
use Rattle.run_report.specs.Shown.{head_text, shown, exception_text}
use Rattle.flow_meaning.specs.Inputs.{inputs, are_deep}
use Rattle.flow_meaning.specs.Meaning.{body}
use Rattle.flow_meaning.specs.Sequential.{seq, main_ran, resolved, join_outcome, Ran, Task, Calls, sequential, settles}
use Rattle.flow_meaning.specs.Evaluations.{evaluation, evaluation_in, no_losses}
use Rattle.meaning_examples.proofs.TreeFolds.{tree_folds}
use Rattle.meaning_examples.proofs.ValueFolds.{value_folds}
use Rattle.meaning_examples.proofs.Performed.{asking, main-performed, settled, let-performed, end-performed}
use Rattle.meaning_examples.proofs.Trees.{number, call, let_call, block, plain_app}
use Rattle.meaning_examples.proofs.Apps.{div, one-by-zero, eight-by-two}

abbrev pub join_app : List ℕ → List Statement → AppDef
join_app name statements = record (plain_app name [] statements) { join = true }

-- join app five() { return 5; }
abbrev pub five : AppDef
five = join_app (codes "five") (statement.Return (number 5) ∷ [])

-- join app bad() { return call div(1, 0); }
abbrev pub bad : AppDef
bad = join_app (codes "bad") (statement.Return (call (codes "div") (number 1 ∷ number 0 ∷ [])) ∷ [])

-- main { let f = call div(8, 2); let g = call five(); let h = call bad(); }
abbrev pub joins : Tree
joins = (
  div ∷ five ∷ bad ∷ [],
  block (
      let_call (codes "f") (codes "div") (number 8 ∷ number 2 ∷ []) ∷
      let_call (codes "g") (codes "five") [] ∷
      let_call (codes "h") (codes "bad") [] ∷ []),
)

abbrev pub divided : Task
divided = record { path = 1 ∷ []; app = 0; arguments = v.Int (pos 8) ∷ v.Int (pos 2) ∷ []; names = []; inputs = []; outcome = o.Value (v.Int (pos 4)) [] }

abbrev pub joined : List ℕ → ℕ → Ran → List Task
joined path app ran = record { path = path; app = app; arguments = []; names = []; inputs = []; outcome = ran.outcome } ∷ ran.below

-- a join that returns no future has a TypeError
five-ran : (ts : List Task) → settled joins.0 (2 ∷ []) 1 [] [] ts ≡ settles (o.Failed x.TypeError)
unfolding body inputs are_deep resolved join_outcome
five-ran ts = simp (tree_folds, value_folds)

-- a join that returns the future of a failed call has a JoinError with that call's path
abbrev pub bad_ran : Ran
bad_ran = record {
  outcome = o.Failed (x.JoinError ((3 ∷ 1 ∷ []) ∷ []));
  below = record { path = 3 ∷ 1 ∷ []; app = 0; arguments = v.Int (pos 1) ∷ v.Int (pos 0) ∷ []; names = []; inputs = []; outcome = o.Failed x.ZeroDivisionError } ∷ [];
}

bad-ran : (ts : List Task) → settled joins.0 (3 ∷ []) 2 [] [] ts ≡ bad_ran
unfolding body inputs are_deep resolved join_outcome
bad-ran ts = simp (one-by-zero, tree_folds, value_folds)

abbrev pub tasks : List Task
tasks = divided ∷ joined (2 ∷ []) 1 (settles (o.Failed x.TypeError)) ++ joined (3 ∷ []) 2 bad_ran

pub ran-joins : main_ran joins.0 joins.1 no_losses ≡ (Ok (v.Nothing, []), record { made = record { calls = 3; tasks = tasks }; acts = Calls (1 ∷ []) ∷ Calls (2 ∷ []) ∷ Calls (3 ∷ []) ∷ []; printed = [] })
unfolding inputs are_deep resolved
ran-joins = main-performed _ _ _ (
    let-performed _ _ _ _ _ _ _ 0 (v.Int (pos 8) ∷ v.Int (pos 2) ∷ []) [] [] (settles (o.Value (v.Int (pos 4)) [])) (simp asking) (simp value_folds) (simp (eight-by-two, value_folds)) (
    let-performed _ _ _ _ _ _ _ 1 [] [] [] (settles (o.Failed x.TypeError)) (simp asking) refl (five-ran (divided ∷ [])) (
    let-performed _ _ _ _ _ _ _ 2 [] [] [] bad_ran (simp asking) refl (bad-ran (divided ∷ joined (2 ∷ []) 1 (settles (o.Failed x.TypeError)))) (
    end-performed _ _ _))))

pub head-joins : head_text (evaluation joins) ≡ codes "task 1 div value 4\ntask 2 five exception TypeError\ntask 3 bad exception JoinError 3.1\ntask 3.1 div exception ZeroDivisionError\nmain ended\n"
unfolding seq digits shown exception_text
head-joins = ap (λ r. head_text (evaluation_in joins.0 (sequential r))) ran-joins ∙ simp value_folds
