-- The trees of small pieces of scripts.
use Rattle.std.proofs.Common.{ℕ, List, [], ◌∷◌, None, false}
use Rattle.std.specs.Prelude.{pos}
use Rattle.script_tree.specs.declared.tree.SumOp.TheVariants.{Plus}
use Rattle.script_tree.specs.declared.tree.TermOp.{TermOp}
use Rattle.script_tree.specs.declared.tree.TermOp.TheVariants.{Times, Over}
use Rattle.script_tree.specs.declared.tree.Atom.{Atom}
use Rattle.script_tree.specs.declared.tree.Atom.TheVariants as atom
use Rattle.script_tree.specs.declared.tree.Post.{roll-Post}
use Rattle.script_tree.specs.declared.tree.Unary.{Unary, roll-Unary}
use Rattle.script_tree.specs.declared.tree.Term.{Term, roll-Term}
use Rattle.script_tree.specs.declared.tree.Factor.{roll-Factor}
use Rattle.script_tree.specs.declared.tree.Sum.{Sum, roll-Sum}
use Rattle.script_tree.specs.declared.tree.Added.{roll-Added}
use Rattle.script_tree.specs.declared.tree.Expr.{Expr, roll-Expr}
use Rattle.script_tree.specs.declared.tree.CallExpr.{CallExpr, roll-CallExpr}
use Rattle.script_tree.specs.declared.tree.Statement.{Statement}
use Rattle.script_tree.specs.declared.tree.Statement.TheVariants as statement
use Rattle.script_tree.specs.declared.tree.Block.{Block, roll-Block}
use Rattle.script_tree.specs.declared.tree.AppDef.{AppDef}
use Rattle.script_tree.specs.declared.tree.Comp.{roll-Comp}
use Rattle.script_tree.specs.declared.tree.Conj.{roll-Conj}

-- ---- an atom alone, and a sum alone, as expressions

abbrev pub term_of : Atom → Term
term_of a = roll-Term (record { first = roll-Unary (record { op = None; post = roll-Post (record { atom = a; indices = [] }) }); others = [] })

abbrev pub expr_of : Sum → Expr
expr_of s = roll-Expr (record { first = roll-Conj (record { first = roll-Comp (record { left = s; test = None }); others = [] }); others = [] })

abbrev pub alone : Atom → Expr
alone a = expr_of (roll-Sum (record { first = term_of a; others = [] }))

abbrev pub Name : Type 0
Name = List ℕ

abbrev pub variable : Name → Expr
variable name = alone (atom.Variable name)

abbrev pub number : ℕ → Expr
number n = alone (atom.Number (pos n))

-- a list of expressions
abbrev pub list : List Expr → Expr
list es = alone (atom.List es)

-- a call that names no outputs, and one with names of outputs
abbrev pub calling_to : Name → List Expr → List Expr → CallExpr
calling_to app arguments names = roll-CallExpr (record { app = app; arguments = arguments; names = names })

abbrev pub calling : Name → List Expr → CallExpr
calling app arguments = calling_to app arguments []

abbrev pub call : Name → List Expr → Expr
call app arguments = alone (atom.Call (calling app arguments))

abbrev pub call_to : Name → List Expr → List Expr → Expr
call_to app arguments names = alone (atom.Call (calling_to app arguments names))

-- let variable = call app(arguments);
abbrev pub let_call : Name → Name → List Expr → Statement
let_call variable app arguments = statement.Let variable (call app arguments)

abbrev pub text : List ℕ → Expr
text t = alone (atom.Text t)

abbrev pub built_in : Name → List Expr → Expr
built_in name arguments = alone (atom.BuiltIn name arguments)

abbrev pub unary_of : Atom → Unary
unary_of a = roll-Unary (record { op = None; post = roll-Post (record { atom = a; indices = [] }) })

-- the sum and the product of two atoms
abbrev pub sum : Atom → Atom → Expr
sum a b = expr_of (roll-Sum (record { first = term_of a; others = roll-Added (record { op = Plus; term = term_of b }) ∷ [] }))

abbrev pub term : TermOp → Atom → Atom → Expr
term op a b = expr_of (roll-Sum (record { first = roll-Term (record { first = unary_of a; others = roll-Factor (record { op = op; unary = unary_of b }) ∷ [] }); others = [] }))

abbrev pub product : Atom → Atom → Expr
product = term Times

abbrev pub quotient : Atom → Atom → Expr
quotient = term Over

abbrev pub block : List Statement → Block
block statements = roll-Block (record { statements = statements })

-- an app of these parameters that is neither cached nor a join and has no outputs
abbrev pub plain_app : Name → List Name → List Statement → AppDef
plain_app name parameters statements = record { cached = false; join = false; name = name; parameters = parameters; outputs = None; body = block statements }
