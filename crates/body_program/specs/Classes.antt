-- What each class of expressions means, by the names of the script's apps.
use Rattle.std.specs.Prelude.{List, map}
use Rattle.script_tree.specs.declared.tree.CallExpr.{CallExpr}
use Rattle.script_tree.specs.declared.tree.SumOp.{SumOp}
use Rattle.script_tree.specs.declared.tree.TermOp.{TermOp}
use Rattle.script_tree.specs.declared.tree.Atom.{Atom}
use Rattle.script_tree.specs.declared.tree.Added.{Added}
use Rattle.script_tree.specs.declared.tree.Comp.{Comp}
use Rattle.script_tree.specs.declared.tree.Conj.{Conj}
use Rattle.script_tree.specs.declared.tree.Expr.{Expr}
use Rattle.script_tree.specs.declared.tree.Factor.{Factor}
use Rattle.script_tree.specs.declared.tree.Post.{Post}
use Rattle.script_tree.specs.declared.tree.Sum.{Sum}
use Rattle.script_tree.specs.declared.tree.Term.{Term}
use Rattle.script_tree.specs.declared.tree.Unary.{Unary}
use Rattle.script_tree.specs.Folds.{fold_atom, fold_added, fold_call, fold_comp, fold_conj, fold_expr, fold_factor, fold_post, fold_sum, fold_term, fold_unary, fold_statement}
use Rattle.flow_meaning.specs.Operators.{Text}
use Rattle.script_tree.specs.declared.tree.Statement.{Statement}
use Rattle.script_tree.specs.declared.tree.Block.{Block, out-Block}
use Rattle.flow_meaning.specs.Act.{◌>>=◌}
use Rattle.flow_meaning.specs.Meaning.{Calc, meaning, doing}
use Rattle.flow_meaning.specs.Meaning as m
use Rattle.body_program.specs.Resolved.{DoesBy}

abbrev pub atom_calc : List Text → Atom → Calc
atom_calc apps = fold_atom (meaning apps)

abbrev pub added_calc : List Text → Added → SumOp × Calc
added_calc apps = fold_added (meaning apps)

abbrev pub comp_calc : List Text → Comp → Calc
comp_calc apps = fold_comp (meaning apps)

abbrev pub conj_calc : List Text → Conj → Calc
conj_calc apps = fold_conj (meaning apps)

abbrev pub expr_calc : List Text → Expr → Calc
expr_calc apps = fold_expr (meaning apps)

abbrev pub factor_calc : List Text → Factor → TermOp × Calc
factor_calc apps = fold_factor (meaning apps)

abbrev pub post_calc : List Text → Post → Calc
post_calc apps = fold_post (meaning apps)

abbrev pub sum_calc : List Text → Sum → Calc
sum_calc apps = fold_sum (meaning apps)

abbrev pub term_calc : List Text → Term → Calc
term_calc apps = fold_term (meaning apps)

abbrev pub unary_calc : List Text → Unary → Calc
unary_calc apps = fold_unary (meaning apps)

abbrev pub call_calc : List Text → CallExpr → Calc
call_calc apps = fold_call (meaning apps)

-- ---- statements, by the names of the outputs

abbrev pub statement_part : List Text → Statement → DoesBy
statement_part apps statement names = fold_statement (doing apps names) statement

abbrev pub block_parts : List Text → Block → List DoesBy
block_parts apps block = map (statement_part apps) (out-Block block).statements

abbrev pub sets_by : List Text → Text → Expr → DoesBy
sets_by apps name e names s = expr_calc apps e s.vars >>= λ value. m.sets name value s
