-- Meanings of the tree: a function of a whole expression or block is given by one step for each class, which
-- has the results of its parts in their places. An operator stands beside the result of its operand.
use Rattle.script_tree.specs.declared.tree.SumOp.{SumOp}
use Rattle.script_tree.specs.declared.tree.TermOp.{TermOp}
use Rattle.script_tree.specs.declared.tree.CompareOp.{CompareOp}
use Rattle.script_tree.specs.declared.tree.Atom.TheOpen.{Atom-F, Added-F, CallExpr-F, Comp-F, Compared-F, Conj-F, Expr-F, Factor-F, Post-F, Sum-F, Term-F, Unary-F}
use Rattle.script_tree.specs.declared.tree.Statement.TheOpen.{Block-F, Statement-F}
use Rattle.script_tree.specs.declared.tree.Block.{Block, fold-Block}
use Rattle.script_tree.specs.declared.tree.Statement.{Statement, fold-Statement}
use Rattle.script_tree.specs.declared.tree.Atom.{Atom, fold-Atom}
use Rattle.script_tree.specs.declared.tree.Added.{Added, fold-Added}
use Rattle.script_tree.specs.declared.tree.CallExpr.{CallExpr, fold-CallExpr}
use Rattle.script_tree.specs.declared.tree.Comp.{Comp, fold-Comp}
use Rattle.script_tree.specs.declared.tree.Compared.{Compared, fold-Compared}
use Rattle.script_tree.specs.declared.tree.Conj.{Conj, fold-Conj}
use Rattle.script_tree.specs.declared.tree.Expr.{Expr, fold-Expr}
use Rattle.script_tree.specs.declared.tree.Factor.{Factor, fold-Factor}
use Rattle.script_tree.specs.declared.tree.Post.{Post, fold-Post}
use Rattle.script_tree.specs.declared.tree.Sum.{Sum, fold-Sum}
use Rattle.script_tree.specs.declared.tree.Term.{Term, fold-Term}
use Rattle.script_tree.specs.declared.tree.Unary.{Unary, fold-Unary}

abbrev pub AtomOf : Type 0 → Type 0
AtomOf C = Atom-F C (SumOp × C) C C (CompareOp × C) C C (TermOp × C) C C C C

abbrev pub AddedOf : Type 0 → Type 0
AddedOf C = Added-F C (SumOp × C) C C (CompareOp × C) C C (TermOp × C) C C C C

abbrev pub CallExprOf : Type 0 → Type 0
CallExprOf C = CallExpr-F C (SumOp × C) C C (CompareOp × C) C C (TermOp × C) C C C C

abbrev pub CompOf : Type 0 → Type 0
CompOf C = Comp-F C (SumOp × C) C C (CompareOp × C) C C (TermOp × C) C C C C

abbrev pub ComparedOf : Type 0 → Type 0
ComparedOf C = Compared-F C (SumOp × C) C C (CompareOp × C) C C (TermOp × C) C C C C

abbrev pub ConjOf : Type 0 → Type 0
ConjOf C = Conj-F C (SumOp × C) C C (CompareOp × C) C C (TermOp × C) C C C C

abbrev pub ExprOf : Type 0 → Type 0
ExprOf C = Expr-F C (SumOp × C) C C (CompareOp × C) C C (TermOp × C) C C C C

abbrev pub FactorOf : Type 0 → Type 0
FactorOf C = Factor-F C (SumOp × C) C C (CompareOp × C) C C (TermOp × C) C C C C

abbrev pub PostOf : Type 0 → Type 0
PostOf C = Post-F C (SumOp × C) C C (CompareOp × C) C C (TermOp × C) C C C C

abbrev pub SumOf : Type 0 → Type 0
SumOf C = Sum-F C (SumOp × C) C C (CompareOp × C) C C (TermOp × C) C C C C

abbrev pub TermOf : Type 0 → Type 0
TermOf C = Term-F C (SumOp × C) C C (CompareOp × C) C C (TermOp × C) C C C C

abbrev pub UnaryOf : Type 0 → Type 0
UnaryOf C = Unary-F C (SumOp × C) C C (CompareOp × C) C C (TermOp × C) C C C C

-- one step for each class of expressions
pub record Steps (C : Type 0) : Type 0 where
  pub atom : AtomOf C → C
  pub call : CallExprOf C → C
  pub comp : CompOf C → C
  pub conj : ConjOf C → C
  pub expr : ExprOf C → C
  pub post : PostOf C → C
  pub sum : SumOf C → C
  pub term : TermOf C → C
  pub unary : UnaryOf C → C

unfoldable pub fold_atom : {C : Type 0} → Steps C → Atom → C
fold_atom {C} s = fold-Atom C (SumOp × C) C C (CompareOp × C) C C (TermOp × C) C C C C
    s.atom (λ e. (e.op, e.term)) s.call s.comp (λ e. (e.op, e.right)) s.conj s.expr (λ e. (e.op, e.unary)) s.post s.sum s.term s.unary

unfoldable pub fold_added : {C : Type 0} → Steps C → Added → SumOp × C
fold_added {C} s = fold-Added C (SumOp × C) C C (CompareOp × C) C C (TermOp × C) C C C C
    s.atom (λ e. (e.op, e.term)) s.call s.comp (λ e. (e.op, e.right)) s.conj s.expr (λ e. (e.op, e.unary)) s.post s.sum s.term s.unary

unfoldable pub fold_call : {C : Type 0} → Steps C → CallExpr → C
fold_call {C} s = fold-CallExpr C (SumOp × C) C C (CompareOp × C) C C (TermOp × C) C C C C
    s.atom (λ e. (e.op, e.term)) s.call s.comp (λ e. (e.op, e.right)) s.conj s.expr (λ e. (e.op, e.unary)) s.post s.sum s.term s.unary

unfoldable pub fold_comp : {C : Type 0} → Steps C → Comp → C
fold_comp {C} s = fold-Comp C (SumOp × C) C C (CompareOp × C) C C (TermOp × C) C C C C
    s.atom (λ e. (e.op, e.term)) s.call s.comp (λ e. (e.op, e.right)) s.conj s.expr (λ e. (e.op, e.unary)) s.post s.sum s.term s.unary

unfoldable pub fold_compared : {C : Type 0} → Steps C → Compared → CompareOp × C
fold_compared {C} s = fold-Compared C (SumOp × C) C C (CompareOp × C) C C (TermOp × C) C C C C
    s.atom (λ e. (e.op, e.term)) s.call s.comp (λ e. (e.op, e.right)) s.conj s.expr (λ e. (e.op, e.unary)) s.post s.sum s.term s.unary

unfoldable pub fold_conj : {C : Type 0} → Steps C → Conj → C
fold_conj {C} s = fold-Conj C (SumOp × C) C C (CompareOp × C) C C (TermOp × C) C C C C
    s.atom (λ e. (e.op, e.term)) s.call s.comp (λ e. (e.op, e.right)) s.conj s.expr (λ e. (e.op, e.unary)) s.post s.sum s.term s.unary

unfoldable pub fold_expr : {C : Type 0} → Steps C → Expr → C
fold_expr {C} s = fold-Expr C (SumOp × C) C C (CompareOp × C) C C (TermOp × C) C C C C
    s.atom (λ e. (e.op, e.term)) s.call s.comp (λ e. (e.op, e.right)) s.conj s.expr (λ e. (e.op, e.unary)) s.post s.sum s.term s.unary

unfoldable pub fold_factor : {C : Type 0} → Steps C → Factor → TermOp × C
fold_factor {C} s = fold-Factor C (SumOp × C) C C (CompareOp × C) C C (TermOp × C) C C C C
    s.atom (λ e. (e.op, e.term)) s.call s.comp (λ e. (e.op, e.right)) s.conj s.expr (λ e. (e.op, e.unary)) s.post s.sum s.term s.unary

unfoldable pub fold_post : {C : Type 0} → Steps C → Post → C
fold_post {C} s = fold-Post C (SumOp × C) C C (CompareOp × C) C C (TermOp × C) C C C C
    s.atom (λ e. (e.op, e.term)) s.call s.comp (λ e. (e.op, e.right)) s.conj s.expr (λ e. (e.op, e.unary)) s.post s.sum s.term s.unary

unfoldable pub fold_sum : {C : Type 0} → Steps C → Sum → C
fold_sum {C} s = fold-Sum C (SumOp × C) C C (CompareOp × C) C C (TermOp × C) C C C C
    s.atom (λ e. (e.op, e.term)) s.call s.comp (λ e. (e.op, e.right)) s.conj s.expr (λ e. (e.op, e.unary)) s.post s.sum s.term s.unary

unfoldable pub fold_term : {C : Type 0} → Steps C → Term → C
fold_term {C} s = fold-Term C (SumOp × C) C C (CompareOp × C) C C (TermOp × C) C C C C
    s.atom (λ e. (e.op, e.term)) s.call s.comp (λ e. (e.op, e.right)) s.conj s.expr (λ e. (e.op, e.unary)) s.post s.sum s.term s.unary

unfoldable pub fold_unary : {C : Type 0} → Steps C → Unary → C
fold_unary {C} s = fold-Unary C (SumOp × C) C C (CompareOp × C) C C (TermOp × C) C C C C
    s.atom (λ e. (e.op, e.term)) s.call s.comp (λ e. (e.op, e.right)) s.conj s.expr (λ e. (e.op, e.unary)) s.post s.sum s.term s.unary

-- one step for statements, and one for blocks
pub record BlockSteps (D : Type 0) : Type 0 where
  pub statement : Statement-F D D → D
  pub block : Block-F D D → D

unfoldable pub fold_block : {D : Type 0} → BlockSteps D → Block → D
fold_block {D} s = fold-Block D D s.statement s.block

unfoldable pub fold_statement : {D : Type 0} → BlockSteps D → Statement → D
fold_statement {D} s = fold-Statement D D s.statement s.block
