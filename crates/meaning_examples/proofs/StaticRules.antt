-- The faults of two mains.
use Rattle.std.proofs.Common.{◌≡◌, ℕ, List, [], ◌∷◌, codes}
use Rattle.script_tree.specs.declared.tree.Statement.TheVariants as statement
use Rattle.script_tree.specs.Grammar.{Tree}
use Rattle.script_tree.specs.declared.fault.Rule.TheVariants as rule
use Rattle.script_tree.specs.Rules.{faults}
use Rattle.meaning_examples.proofs.TreeFolds.{tree_folds}
use Rattle.meaning_examples.proofs.Trees.{variable, block}

-- main { print x; }
abbrev pub prints_variable : Tree
prints_variable = ([], block (statement.Print (variable (codes "x")) ∷ []))

-- the variable isn't declared
pub faults-prints_variable : faults prints_variable (0 ∷ 5 ∷ 7 ∷ 13 ∷ 14 ∷ 16 ∷ []) ≡ (13, rule.UnknownName) ∷ []
unfolding faults
faults-prints_variable = simp tree_folds

-- main { }
abbrev pub empty_main : Tree
empty_main = ([], block [])

pub faults-empty_main : (places : List ℕ) → faults empty_main places ≡ []
unfolding faults
faults-empty_main places = simp tree_folds
