-- Apps that several examples call, and what they give.
use Rattle.std.proofs.Common.{◌≡◌, [], ◌∷◌, codes}
use Rattle.std.specs.Prelude.{pos}
use Rattle.flow_base.specs.declared.value.Value.TheVariants as v
use Rattle.flow_base.specs.declared.outcome.Exception.TheVariants as x
use Rattle.flow_base.specs.declared.outcome.Ended.TheVariants as ended
use Rattle.script_tree.specs.declared.tree.Atom.TheVariants as atom
use Rattle.script_tree.specs.declared.tree.Statement.TheVariants as statement
use Rattle.script_tree.specs.declared.tree.AppDef.{AppDef}
use Rattle.flow_meaning.specs.Operators.{int_of, multiplied}
use Rattle.flow_meaning.specs.Meaning.{body}
use Rattle.flow_meaning.specs.Sequential.{apply}
use Rattle.meaning_examples.proofs.TreeFolds.{tree_folds}
use Rattle.meaning_examples.proofs.ValueFolds.{value_folds}
use Rattle.meaning_examples.proofs.Trees.{sum, quotient, plain_app}

-- app div(a, b) { return a / b; }
abbrev pub div : AppDef
div = plain_app (codes "div") (codes "a" ∷ codes "b" ∷ []) (statement.Return (quotient (atom.Variable (codes "a")) (atom.Variable (codes "b"))) ∷ [])

-- app add(a, b) { return a + b; }
abbrev pub add : AppDef
add = plain_app (codes "add") (codes "a" ∷ codes "b" ∷ []) (statement.Return (sum (atom.Variable (codes "a")) (atom.Variable (codes "b"))) ∷ [])

pub one-by-zero : apply div (v.Int (pos 1) ∷ v.Int (pos 0) ∷ []) [] ≡ ended.Raised x.ZeroDivisionError
unfolding apply body multiplied int_of
one-by-zero = simp (tree_folds, value_folds)

pub two-by-zero : apply div (v.Int (pos 2) ∷ v.Int (pos 0) ∷ []) [] ≡ ended.Raised x.ZeroDivisionError
unfolding apply body multiplied int_of
two-by-zero = simp (tree_folds, value_folds)

pub eight-by-two : apply div (v.Int (pos 8) ∷ v.Int (pos 2) ∷ []) [] ≡ ended.Value (v.Int (pos 4)) []
unfolding apply body multiplied int_of
eight-by-two = simp (tree_folds, value_folds)
