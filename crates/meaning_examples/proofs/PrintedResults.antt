-- Results that are printed.
use Rattle.std.proofs.Common.{◌≡◌, List, [], ◌∷◌, refl, ap, ◌∙◌, codes, Ok}
use Rattle.std.specs.Prelude.{pos}
use Rattle.std.specs.Fmt.{digits}
use Rattle.flow_base.specs.declared.value.Value.TheVariants as v
use Rattle.flow_base.specs.declared.outcome.Outcome.TheVariants as o
use Rattle.flow_base.specs.declared.outcome.Ended.TheVariants as ended
use Rattle.script_tree.specs.declared.tree.Statement.TheVariants as statement
use Rattle.script_tree.specs.Grammar.{Tree}
use Rattle.script_tree.specs.BuiltIns.{built_in_named}
use Rattle.run_report.specs.Shown.{head_text, shown}
use Rattle.flow_meaning.specs.Inputs.{inputs, are_deep}
use Rattle.flow_meaning.specs.Operators.{added}
use Rattle.flow_meaning.specs.Meaning.{body}
use Rattle.flow_meaning.specs.Sequential.{MainAct, seq, main_ran, apply, resolved, Task, Calls, Waits, Prints, sequential, settles}
use Rattle.flow_meaning.specs.Evaluations.{evaluation, evaluation_in, no_losses}
use Rattle.meaning_examples.proofs.TreeFolds.{tree_folds}
use Rattle.meaning_examples.proofs.ValueFolds.{value_folds}
use Rattle.meaning_examples.proofs.Performed.{asking, main-performed, let-performed, value-performed, end-performed}
use Rattle.meaning_examples.proofs.Trees.{variable, number, let_call, built_in, block}
use Rattle.meaning_examples.proofs.Apps.{add}

-- main { let f = call add(2, 3); let g = call add(f, 4); print result(g); print result(f); }
abbrev pub prints_sums : Tree
prints_sums = (
  add ∷ [],
  block (
      let_call (codes "f") (codes "add") (number 2 ∷ number 3 ∷ []) ∷
      let_call (codes "g") (codes "add") (variable (codes "f") ∷ number 4 ∷ []) ∷
      statement.Print (built_in (codes "result") (variable (codes "g") ∷ [])) ∷
      statement.Print (built_in (codes "result") (variable (codes "f") ∷ [])) ∷ []),
)

two-three : apply add (v.Int (pos 2) ∷ v.Int (pos 3) ∷ []) [] ≡ ended.Value (v.Int (pos 5)) []
unfolding apply body added
two-three = simp (tree_folds, value_folds)

five-four : apply add (v.Int (pos 5) ∷ v.Int (pos 4) ∷ []) [] ≡ ended.Value (v.Int (pos 9)) []
unfolding apply body added
five-four = simp (tree_folds, value_folds)

abbrev pub tasks : List Task
tasks =
    record { path = 1 ∷ []; app = 0; arguments = v.Int (pos 2) ∷ v.Int (pos 3) ∷ []; names = []; inputs = []; outcome = o.Value (v.Int (pos 5)) [] } ∷
    record { path = 2 ∷ []; app = 0; arguments = v.Future (1 ∷ []) 0 ∷ v.Int (pos 4) ∷ []; names = []; inputs = (1 ∷ []) ∷ []; outcome = o.Value (v.Int (pos 9)) [] } ∷ []

abbrev pub acts : List MainAct
acts = Calls (1 ∷ []) ∷ Calls (2 ∷ []) ∷ Waits (2 ∷ []) ∷ Prints (v.Int (pos 9)) ∷ Waits (1 ∷ []) ∷ Prints (v.Int (pos 5)) ∷ []

pub ran-prints_sums : main_ran prints_sums.0 prints_sums.1 no_losses ≡ (Ok (v.Nothing, []), record { made = record { calls = 2; tasks = tasks }; acts = acts; printed = v.Int (pos 9) ∷ v.Int (pos 5) ∷ [] })
unfolding inputs are_deep resolved built_in_named
ran-prints_sums = main-performed _ _ _ (
    let-performed _ _ _ _ _ _ _ 0 (v.Int (pos 2) ∷ v.Int (pos 3) ∷ []) [] [] (settles (o.Value (v.Int (pos 5)) [])) (simp asking) (simp value_folds) (simp (two-three, value_folds)) (
    let-performed _ _ _ _ _ _ _ 0 (v.Future (1 ∷ []) 0 ∷ v.Int (pos 4) ∷ []) [] ((1 ∷ []) ∷ []) (settles (o.Value (v.Int (pos 9)) [])) (simp asking) (simp value_folds) (simp (five-four, value_folds)) (
    value-performed _ _ _ _ _ _ (2 ∷ []) 0 (v.Int (pos 9)) [] (simp asking) refl (
    value-performed _ _ _ _ _ _ (1 ∷ []) 0 (v.Int (pos 5)) [] (simp asking) refl (
    end-performed _ _ _)))))

-- a future stands for the value of its call, and main prints in the order of its statements
pub head-prints_sums : head_text (evaluation prints_sums) ≡ codes "print 9\nprint 5\ntask 1 add value 5\ntask 2 add value 9\nmain ended\n"
unfolding seq digits shown
head-prints_sums = ap (λ r. head_text (evaluation_in prints_sums.0 (sequential r))) ran-prints_sums ∙ simp value_folds
