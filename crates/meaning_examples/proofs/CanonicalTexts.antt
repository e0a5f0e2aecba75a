-- The canonical texts of a main and of an app.
use Rattle.std.proofs.Common.{◌≡◌, [], ◌∷◌, codes, true}
use Rattle.std.specs.Prelude.{pos}
use Rattle.std.specs.Fmt.{digits}
use Rattle.script_tree.specs.declared.tree.Atom.TheVariants as atom
use Rattle.script_tree.specs.declared.tree.Statement.TheVariants as statement
use Rattle.script_tree.specs.declared.tree.AppDef.{AppDef}
use Rattle.script_tree.specs.Canonical.{canonical, app}
use Rattle.script_tree.specs.Grammar.{Tree}
use Rattle.meaning_examples.proofs.TreeFolds.{tree_folds}
use Rattle.meaning_examples.proofs.Trees.{sum, product, block, plain_app}

-- main{print 1+2;}
abbrev pub prints_sum : Tree
prints_sum = ([], block (statement.Print (sum (atom.Number (pos 1)) (atom.Number (pos 2))) ∷ []))

pub canonical-prints_sum : canonical prints_sum ≡ codes "main {\n  print 1 + 2;\n}\n"
unfolding canonical digits
canonical-prints_sum = simp tree_folds

-- cached app sq(n){return n*n;}
abbrev pub square : AppDef
square = record (plain_app (codes "sq") (codes "n" ∷ []) (statement.Return (product (atom.Variable (codes "n")) (atom.Variable (codes "n"))) ∷ [])) { cached = true }

pub canonical-square : app square ≡ codes "cached app sq(n) {\n  return n * n;\n}\n"
unfolding app
canonical-square = simp tree_folds
