-- What a fold over a tree makes of its parts.
use Rattle.std.proofs.Common.{◌≡◌, ℕ, List, map, ap, ◌∙◌, sym, Option, None}
use Rattle.std.specs.Prelude.{ℤ}
use Rattle.script_tree.specs.declared.tree.SumOp.{SumOp}
use Rattle.script_tree.specs.declared.tree.TermOp.{TermOp}
use Rattle.script_tree.specs.declared.tree.UnaryOp.{UnaryOp}
use Rattle.script_tree.specs.declared.tree.Atom.TheOpen.{Atom-F}
use Rattle.script_tree.specs.declared.tree.Atom.{Atom, fold-roll-Atom}
use Rattle.script_tree.specs.declared.tree.Atom.TheVariants as a
use Rattle.script_tree.specs.declared.tree.Added.{Added, roll-Added, fold-roll-Added}
use Rattle.script_tree.specs.declared.tree.CallExpr.{CallExpr, roll-CallExpr, fold-roll-CallExpr}
use Rattle.script_tree.specs.declared.tree.Comp.{Comp, roll-Comp, fold-roll-Comp}
use Rattle.script_tree.specs.declared.tree.Conj.{Conj, roll-Conj, fold-roll-Conj}
use Rattle.script_tree.specs.declared.tree.Expr.{Expr, roll-Expr, fold-roll-Expr}
use Rattle.script_tree.specs.declared.tree.Factor.{Factor, roll-Factor, fold-roll-Factor}
use Rattle.script_tree.specs.declared.tree.Post.{Post, roll-Post, fold-roll-Post}
use Rattle.script_tree.specs.declared.tree.Sum.{Sum, roll-Sum, fold-roll-Sum}
use Rattle.script_tree.specs.declared.tree.Term.{Term, roll-Term, fold-roll-Term}
use Rattle.script_tree.specs.declared.tree.Unary.{Unary, roll-Unary, fold-roll-Unary}
use Rattle.script_tree.specs.declared.tree.Block.{roll-Block, fold-roll-Block}
use Rattle.script_tree.specs.declared.tree.Statement.{Statement, fold-roll-Statement}
use Rattle.script_tree.specs.declared.tree.Statement.TheVariants as statement
use Rattle.script_tree.specs.declared.tree.Statement.TheOpen.{Statement-F}
use Rattle.script_tree.specs.Folds.{Steps, fold_atom, fold_added, fold_call, fold_comp, fold_compared, fold_conj, fold_expr, fold_factor, fold_post, fold_sum, fold_term, fold_unary, BlockSteps, fold_block, fold_statement}

-- the class of each part of an expression
module _ {C : Type 0} (s : Steps C) where
  pub post-folded : (x : Atom) (es : List Expr) → fold_post s (roll-Post (record { atom = x; indices = es })) ≡ s.post (record { atom = fold_atom s x; indices = map (fold_expr s) es })
  unfolding fold_atom fold_added fold_call fold_comp fold_compared fold_conj fold_expr fold_factor fold_post fold_sum fold_term fold_unary
  post-folded x es = fold-roll-Post _ _ _ _ _ _ _ _ _ _ _ _ _ _ _ _ _ _ _ _ _ _ _ _ _

  pub unary-folded : (op : Option UnaryOp) (x : Post) → fold_unary s (roll-Unary (record { op = op; post = x })) ≡ s.unary (record { op = op; post = fold_post s x })
  unfolding fold_atom fold_added fold_call fold_comp fold_compared fold_conj fold_expr fold_factor fold_post fold_sum fold_term fold_unary
  unary-folded op x = fold-roll-Unary _ _ _ _ _ _ _ _ _ _ _ _ _ _ _ _ _ _ _ _ _ _ _ _ _

  pub term-folded : (x : Unary) (xs : List Factor) → fold_term s (roll-Term (record { first = x; others = xs })) ≡ s.term (record { first = fold_unary s x; others = map (fold_factor s) xs })
  unfolding fold_atom fold_added fold_call fold_comp fold_compared fold_conj fold_expr fold_factor fold_post fold_sum fold_term fold_unary
  term-folded x xs = fold-roll-Term _ _ _ _ _ _ _ _ _ _ _ _ _ _ _ _ _ _ _ _ _ _ _ _ _

  pub factor-folded : (op : TermOp) (x : Unary) → fold_factor s (roll-Factor (record { op = op; unary = x })) ≡ (op, fold_unary s x)
  unfolding fold_atom fold_added fold_call fold_comp fold_compared fold_conj fold_expr fold_factor fold_post fold_sum fold_term fold_unary
  factor-folded op x = fold-roll-Factor _ _ _ _ _ _ _ _ _ _ _ _ _ _ _ _ _ _ _ _ _ _ _ _ _

  pub added-folded : (op : SumOp) (x : Term) → fold_added s (roll-Added (record { op = op; term = x })) ≡ (op, fold_term s x)
  unfolding fold_atom fold_added fold_call fold_comp fold_compared fold_conj fold_expr fold_factor fold_post fold_sum fold_term fold_unary
  added-folded op x = fold-roll-Added _ _ _ _ _ _ _ _ _ _ _ _ _ _ _ _ _ _ _ _ _ _ _ _ _

  pub sum-folded : (x : Term) (xs : List Added) → fold_sum s (roll-Sum (record { first = x; others = xs })) ≡ s.sum (record { first = fold_term s x; others = map (fold_added s) xs })
  unfolding fold_atom fold_added fold_call fold_comp fold_compared fold_conj fold_expr fold_factor fold_post fold_sum fold_term fold_unary
  sum-folded x xs = fold-roll-Sum _ _ _ _ _ _ _ _ _ _ _ _ _ _ _ _ _ _ _ _ _ _ _ _ _

  pub comp-folded : (x : Sum) → fold_comp s (roll-Comp (record { left = x; test = None })) ≡ s.comp (record { left = fold_sum s x; test = None })
  unfolding fold_atom fold_added fold_call fold_comp fold_compared fold_conj fold_expr fold_factor fold_post fold_sum fold_term fold_unary
  comp-folded x = fold-roll-Comp _ _ _ _ _ _ _ _ _ _ _ _ _ _ _ _ _ _ _ _ _ _ _ _ _

  pub conj-folded : (x : Comp) (xs : List Comp) → fold_conj s (roll-Conj (record { first = x; others = xs })) ≡ s.conj (record { first = fold_comp s x; others = map (fold_comp s) xs })
  unfolding fold_atom fold_added fold_call fold_comp fold_compared fold_conj fold_expr fold_factor fold_post fold_sum fold_term fold_unary
  conj-folded x xs = fold-roll-Conj _ _ _ _ _ _ _ _ _ _ _ _ _ _ _ _ _ _ _ _ _ _ _ _ _

  pub expr-folded : (x : Conj) (xs : List Conj) → fold_expr s (roll-Expr (record { first = x; others = xs })) ≡ s.expr (record { first = fold_conj s x; others = map (fold_conj s) xs })
  unfolding fold_atom fold_added fold_call fold_comp fold_compared fold_conj fold_expr fold_factor fold_post fold_sum fold_term fold_unary
  expr-folded x xs = fold-roll-Expr _ _ _ _ _ _ _ _ _ _ _ _ _ _ _ _ _ _ _ _ _ _ _ _ _

  pub call-folded : (app : List ℕ) (es ns : List Expr) → fold_call s (roll-CallExpr (record { app = app; arguments = es; names = ns })) ≡ s.call (record { app = app; arguments = map (fold_expr s) es; names = map (fold_expr s) ns })
  unfolding fold_atom fold_added fold_call fold_comp fold_compared fold_conj fold_expr fold_factor fold_post fold_sum fold_term fold_unary
  call-folded app es ns = fold-roll-CallExpr _ _ _ _ _ _ _ _ _ _ _ _ _ _ _ _ _ _ _ _ _ _ _ _ _

  pub number-folded : (n : ℤ) → fold_atom s (a.Number n) ≡ s.atom (Atom-F.Number n)
  unfolding fold_atom fold_added fold_call fold_comp fold_compared fold_conj fold_expr fold_factor fold_post fold_sum fold_term fold_unary
  number-folded n = ap (fold_atom s) (sym (a.rolls-Number n)) ∙ fold-roll-Atom _ _ _ _ _ _ _ _ _ _ _ _ _ _ _ _ _ _ _ _ _ _ _ _ _

  pub text-folded : (text : List ℕ) → fold_atom s (a.Text text) ≡ s.atom (Atom-F.Text text)
  unfolding fold_atom fold_added fold_call fold_comp fold_compared fold_conj fold_expr fold_factor fold_post fold_sum fold_term fold_unary
  text-folded text = ap (fold_atom s) (sym (a.rolls-Text text)) ∙ fold-roll-Atom _ _ _ _ _ _ _ _ _ _ _ _ _ _ _ _ _ _ _ _ _ _ _ _ _

  pub variable-folded : (name : List ℕ) → fold_atom s (a.Variable name) ≡ s.atom (Atom-F.Variable name)
  unfolding fold_atom fold_added fold_call fold_comp fold_compared fold_conj fold_expr fold_factor fold_post fold_sum fold_term fold_unary
  variable-folded name = ap (fold_atom s) (sym (a.rolls-Variable name)) ∙ fold-roll-Atom _ _ _ _ _ _ _ _ _ _ _ _ _ _ _ _ _ _ _ _ _ _ _ _ _

  pub built_in-folded : (name : List ℕ) (es : List Expr) → fold_atom s (a.BuiltIn name es) ≡ s.atom (Atom-F.BuiltIn name (map (fold_expr s) es))
  unfolding fold_atom fold_added fold_call fold_comp fold_compared fold_conj fold_expr fold_factor fold_post fold_sum fold_term fold_unary
  built_in-folded name es = ap (fold_atom s) (sym (a.rolls-BuiltIn name es)) ∙ fold-roll-Atom _ _ _ _ _ _ _ _ _ _ _ _ _ _ _ _ _ _ _ _ _ _ _ _ _

  pub call_atom-folded : (call : CallExpr) → fold_atom s (a.Call call) ≡ s.atom (Atom-F.Call (fold_call s call))
  unfolding fold_atom fold_added fold_call fold_comp fold_compared fold_conj fold_expr fold_factor fold_post fold_sum fold_term fold_unary
  call_atom-folded call = ap (fold_atom s) (sym (a.rolls-Call call)) ∙ fold-roll-Atom _ _ _ _ _ _ _ _ _ _ _ _ _ _ _ _ _ _ _ _ _ _ _ _ _

  pub list-folded : (es : List Expr) → fold_atom s (a.List es) ≡ s.atom (Atom-F.List (map (fold_expr s) es))
  unfolding fold_atom fold_added fold_call fold_comp fold_compared fold_conj fold_expr fold_factor fold_post fold_sum fold_term fold_unary
  list-folded es = ap (fold_atom s) (sym (a.rolls-List es)) ∙ fold-roll-Atom _ _ _ _ _ _ _ _ _ _ _ _ _ _ _ _ _ _ _ _ _ _ _ _ _

-- statements and blocks
module _ {D : Type 0} (s : BlockSteps D) where
  pub block-folded : (xs : List Statement) → fold_block s (roll-Block (record { statements = xs })) ≡ s.block (record { statements = map (fold_statement s) xs })
  unfolding fold_block fold_statement
  block-folded xs = fold-roll-Block _ _ _ _ _

  pub let-folded : (name : List ℕ) (e : Expr) → fold_statement s (statement.Let name e) ≡ s.statement (Statement-F.Let name e)
  unfolding fold_statement
  let-folded name e = ap (fold_statement s) (sym (statement.rolls-Let name e)) ∙ fold-roll-Statement _ _ _ _ _

  pub return-folded : (e : Expr) → fold_statement s (statement.Return e) ≡ s.statement (Statement-F.Return e)
  unfolding fold_statement
  return-folded e = ap (fold_statement s) (sym (statement.rolls-Return e)) ∙ fold-roll-Statement _ _ _ _ _

  pub print-folded : (e : Expr) → fold_statement s (statement.Print e) ≡ s.statement (Statement-F.Print e)
  unfolding fold_statement
  print-folded e = ap (fold_statement s) (sym (statement.rolls-Print e)) ∙ fold-roll-Statement _ _ _ _ _

  pub write-folded : (e : Expr) (text : Expr) → fold_statement s (statement.Write e text) ≡ s.statement (Statement-F.Write e text)
  unfolding fold_statement
  write-folded e text = ap (fold_statement s) (sym (statement.rolls-Write e text)) ∙ fold-roll-Statement _ _ _ _ _

  pub call_statement-folded : (call : CallExpr) → fold_statement s (statement.Call call) ≡ s.statement (Statement-F.Call call)
  unfolding fold_statement
  call_statement-folded call = ap (fold_statement s) (sym (statement.rolls-Call call)) ∙ fold-roll-Statement _ _ _ _ _

-- where the class is a function, what it gives of an argument
module _ {V R : Type 0} (s : Steps (V → R)) where
  pub post-applied : (x : Atom) (es : List Expr) (v : V) → fold_post s (roll-Post (record { atom = x; indices = es })) v ≡ s.post (record { atom = fold_atom s x; indices = map (fold_expr s) es }) v
  post-applied x es v = ap (λ f. f v) (post-folded s x es)

  pub unary-applied : (op : Option UnaryOp) (x : Post) (v : V) → fold_unary s (roll-Unary (record { op = op; post = x })) v ≡ s.unary (record { op = op; post = fold_post s x }) v
  unary-applied op x v = ap (λ f. f v) (unary-folded s op x)

  pub term-applied : (x : Unary) (xs : List Factor) (v : V) → fold_term s (roll-Term (record { first = x; others = xs })) v ≡ s.term (record { first = fold_unary s x; others = map (fold_factor s) xs }) v
  term-applied x xs v = ap (λ f. f v) (term-folded s x xs)

  pub sum-applied : (x : Term) (xs : List Added) (v : V) → fold_sum s (roll-Sum (record { first = x; others = xs })) v ≡ s.sum (record { first = fold_term s x; others = map (fold_added s) xs }) v
  sum-applied x xs v = ap (λ f. f v) (sum-folded s x xs)

  pub comp-applied : (x : Sum) (v : V) → fold_comp s (roll-Comp (record { left = x; test = None })) v ≡ s.comp (record { left = fold_sum s x; test = None }) v
  comp-applied x v = ap (λ f. f v) (comp-folded s x)

  pub conj-applied : (x : Comp) (xs : List Comp) (v : V) → fold_conj s (roll-Conj (record { first = x; others = xs })) v ≡ s.conj (record { first = fold_comp s x; others = map (fold_comp s) xs }) v
  conj-applied x xs v = ap (λ f. f v) (conj-folded s x xs)

  pub expr-applied : (x : Conj) (xs : List Conj) (v : V) → fold_expr s (roll-Expr (record { first = x; others = xs })) v ≡ s.expr (record { first = fold_conj s x; others = map (fold_conj s) xs }) v
  expr-applied x xs v = ap (λ f. f v) (expr-folded s x xs)

  pub call-applied : (app : List ℕ) (es ns : List Expr) (v : V) → fold_call s (roll-CallExpr (record { app = app; arguments = es; names = ns })) v ≡ s.call (record { app = app; arguments = map (fold_expr s) es; names = map (fold_expr s) ns }) v
  call-applied app es ns v = ap (λ f. f v) (call-folded s app es ns)

  pub number-applied : (n : ℤ) (v : V) → fold_atom s (a.Number n) v ≡ s.atom (Atom-F.Number n) v
  number-applied n v = ap (λ f. f v) (number-folded s n)

  pub text-applied : (text : List ℕ) (v : V) → fold_atom s (a.Text text) v ≡ s.atom (Atom-F.Text text) v
  text-applied text v = ap (λ f. f v) (text-folded s text)

  pub variable-applied : (name : List ℕ) (v : V) → fold_atom s (a.Variable name) v ≡ s.atom (Atom-F.Variable name) v
  variable-applied name v = ap (λ f. f v) (variable-folded s name)

  pub built_in-applied : (name : List ℕ) (es : List Expr) (v : V) → fold_atom s (a.BuiltIn name es) v ≡ s.atom (Atom-F.BuiltIn name (map (fold_expr s) es)) v
  built_in-applied name es v = ap (λ f. f v) (built_in-folded s name es)

  pub call_atom-applied : (call : CallExpr) (v : V) → fold_atom s (a.Call call) v ≡ s.atom (Atom-F.Call (fold_call s call)) v
  call_atom-applied call v = ap (λ f. f v) (call_atom-folded s call)

  pub list-applied : (es : List Expr) (v : V) → fold_atom s (a.List es) v ≡ s.atom (Atom-F.List (map (fold_expr s) es)) v
  list-applied es v = ap (λ f. f v) (list-folded s es)

module _ {V R : Type 0} (s : BlockSteps (V → R)) where
  pub block-applied : (xs : List Statement) (v : V) → fold_block s (roll-Block (record { statements = xs })) v ≡ s.block (record { statements = map (fold_statement s) xs }) v
  block-applied xs v = ap (λ f. f v) (block-folded s xs)

  pub let-applied : (name : List ℕ) (e : Expr) (v : V) → fold_statement s (statement.Let name e) v ≡ s.statement (Statement-F.Let name e) v
  let-applied name e v = ap (λ f. f v) (let-folded s name e)

  pub return-applied : (e : Expr) (v : V) → fold_statement s (statement.Return e) v ≡ s.statement (Statement-F.Return e) v
  return-applied e v = ap (λ f. f v) (return-folded s e)

  pub print-applied : (e : Expr) (v : V) → fold_statement s (statement.Print e) v ≡ s.statement (Statement-F.Print e) v
  print-applied e v = ap (λ f. f v) (print-folded s e)

  pub write-applied : (e : Expr) (text : Expr) (v : V) → fold_statement s (statement.Write e text) v ≡ s.statement (Statement-F.Write e text) v
  write-applied e text v = ap (λ f. f v) (write-folded s e text)

  pub call_statement-applied : (call : CallExpr) (v : V) → fold_statement s (statement.Call call) v ≡ s.statement (Statement-F.Call call) v
  call_statement-applied call v = ap (λ f. f v) (call_statement-folded s call)

pub ruleset tree_folds = (block-applied, let-applied, return-applied, print-applied, write-applied, call_statement-applied, post-applied, unary-applied, term-applied, sum-applied, comp-applied, conj-applied, expr-applied, call-applied, number-applied, text-applied, variable-applied, built_in-applied, call_atom-applied, list-applied, post-folded, unary-folded, term-folded, factor-folded, added-folded, sum-folded, comp-folded, conj-folded, expr-folded, call-folded, number-folded, text-folded, variable-folded, built_in-folded, call_atom-folded, list-folded, block-folded, let-folded, return-folded, print-folded, write-folded, call_statement-folded)
