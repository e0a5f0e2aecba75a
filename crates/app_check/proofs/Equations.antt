-- The equations of the folds, and of marks that are seen.
use Rattle.script_tree.specs.declared.tree.Atom.{fold_out-Atom}
use Rattle.script_tree.specs.declared.tree.Added.{fold_out-Added}
use Rattle.script_tree.specs.declared.tree.CallExpr.{fold_out-CallExpr}
use Rattle.script_tree.specs.declared.tree.Comp.{fold_out-Comp}
use Rattle.script_tree.specs.declared.tree.Compared.{fold_out-Compared}
use Rattle.script_tree.specs.declared.tree.Conj.{fold_out-Conj}
use Rattle.script_tree.specs.declared.tree.Expr.{fold_out-Expr}
use Rattle.script_tree.specs.declared.tree.Factor.{fold_out-Factor}
use Rattle.script_tree.specs.declared.tree.Post.{fold_out-Post}
use Rattle.script_tree.specs.declared.tree.Sum.{fold_out-Sum}
use Rattle.script_tree.specs.declared.tree.Term.{fold_out-Term}
use Rattle.script_tree.specs.declared.tree.Unary.{fold_out-Unary}
use Rattle.script_tree.specs.declared.tree.Statement.{fold_out-Statement}
use Rattle.script_tree.specs.declared.tree.Block.{fold_out-Block}
use Rattle.std.proofs.lemmas.List.{length-map}
use Rattle.app_check.proofs.Seeing.{seen_none, seen_one, seen_more}

pub ruleset mark_rules = (seen_none, seen_one, seen_more)

pub ruleset expr_rules = (seen_none, seen_one, seen_more, length-map, fold_out-Atom, fold_out-Added, fold_out-CallExpr, fold_out-Comp, fold_out-Compared, fold_out-Conj, fold_out-Expr, fold_out-Factor, fold_out-Post, fold_out-Sum, fold_out-Term, fold_out-Unary)

pub ruleset statement_rules = (seen_none, seen_one, seen_more, fold_out-Statement, fold_out-Block)
