-- No mark inside a block begins another body.
use Rattle.std.proofs.Common.{◌≡◌, ℕ, suc, List, [], ◌∷◌, ◌++◌, map, flat_map, Option, Some, None, ℤ, sym, ap, subst}
use Rattle.script_tree.specs.declared.tree.SumOp.{SumOp}
use Rattle.script_tree.specs.declared.tree.TermOp.{TermOp}
use Rattle.script_tree.specs.declared.tree.CompareOp.{CompareOp}
use Rattle.script_tree.specs.declared.tree.UnaryOp.{UnaryOp}
use Rattle.script_tree.specs.declared.tree.Atom.TheOpen.{Atom-F}
use Rattle.script_tree.specs.declared.tree.Atom.TheFolds.{map-Atom, map-Comp}
use Rattle.script_tree.specs.declared.tree.Atom.{Atom, roll-Atom}
use Rattle.script_tree.specs.declared.tree.Added.{Added, roll-Added}
use Rattle.script_tree.specs.declared.tree.CallExpr.{CallExpr, roll-CallExpr, ind-CallExpr}
use Rattle.script_tree.specs.declared.tree.Comp.{Comp, roll-Comp}
use Rattle.script_tree.specs.declared.tree.Compared.{Compared, roll-Compared}
use Rattle.script_tree.specs.declared.tree.Conj.{Conj, roll-Conj}
use Rattle.script_tree.specs.declared.tree.Expr.{Expr, roll-Expr, ind-Expr}
use Rattle.script_tree.specs.declared.tree.Factor.{Factor, roll-Factor}
use Rattle.script_tree.specs.declared.tree.Post.{Post, roll-Post}
use Rattle.script_tree.specs.declared.tree.Sum.{Sum, roll-Sum}
use Rattle.script_tree.specs.declared.tree.Term.{Term, roll-Term}
use Rattle.script_tree.specs.declared.tree.Unary.{Unary, roll-Unary}
use Rattle.script_tree.specs.declared.tree.Block.{Block, roll-Block, ind-Block}
use Rattle.script_tree.specs.declared.tree.Statement.{Statement, roll-Statement}
use Rattle.script_tree.specs.declared.tree.Statement.TheOpen.{Statement-F}
use Rattle.script_tree.specs.declared.tree.Statement.TheFolds.{map-Statement}
use Rattle.script_tree.specs.Folds.{fold_atom, fold_added, fold_call, fold_comp, fold_compared, fold_conj, fold_expr, fold_factor, fold_post, fold_sum, fold_term, fold_unary, fold_block, fold_statement}
use Rattle.script_tree.specs.Marks.{Name, Mark, Marks, Other, Defines, Main, InBlock, Closes, MakesVisible, expr_marks, listed, in_parens, names_part, compared_part, sign_part, atom_marks, statement_marks, block_marks, parameters_from, outputs_part, Takes}
use Rattle.script_tree.specs.Marks as marks
use Rattle.body_requests.specs.Asks.{Each}
use Rattle.body_requests.proofs.Acts.{each_append}
use Rattle.script_tree.proofs.Rolls.{in_atom, in_statement, atom-rolled, added-rolled, call-rolled, comp-rolled, compared-rolled, conj-rolled, expr-rolled, factor-rolled, post-rolled, sum-rolled, term-rolled, unary-rolled, statement-rolled, block-rolled}

-- the state behind it is of the same body
abbrev pub IsInner : Mark → Type 0
IsInner (Defines k a) = ⊥
IsInner Main = ⊥
IsInner _ = Unit {0}

abbrev pub Inner : Marks → Type 0
Inner = Each IsInner

abbrev AtomInner : Atom → Type 0
AtomInner x = Inner (fold_atom expr_marks x)

abbrev AddedInner : Added → Type 0
AddedInner x = Inner (fold_added expr_marks x).1

abbrev CallInner : CallExpr → Type 0
CallInner x = Inner (fold_call expr_marks x)

abbrev CompInner : Comp → Type 0
CompInner x = Inner (fold_comp expr_marks x)

abbrev ComparedInner : Compared → Type 0
ComparedInner x = Inner (fold_compared expr_marks x).1

abbrev ConjInner : Conj → Type 0
ConjInner x = Inner (fold_conj expr_marks x)

abbrev ExprInner : Expr → Type 0
ExprInner x = Inner (fold_expr expr_marks x)

abbrev FactorInner : Factor → Type 0
FactorInner x = Inner (fold_factor expr_marks x).1

abbrev PostInner : Post → Type 0
PostInner x = Inner (fold_post expr_marks x)

abbrev SumInner : Sum → Type 0
SumInner x = Inner (fold_sum expr_marks x)

abbrev TermInner : Term → Type 0
TermInner x = Inner (fold_term expr_marks x)

abbrev UnaryInner : Unary → Type 0
UnaryInner x = Inner (fold_unary expr_marks x)

abbrev OpenAtom : Type 0
OpenAtom = Atom-F ((x : Atom) × AtomInner x) ((x : Added) × AddedInner x) ((x : CallExpr) × CallInner x) ((x : Comp) × CompInner x) ((x : Compared) × ComparedInner x) ((x : Conj) × ConjInner x) ((x : Expr) × ExprInner x) ((x : Factor) × FactorInner x) ((x : Post) × PostInner x) ((x : Sum) × SumInner x) ((x : Term) × TermInner x) ((x : Unary) × UnaryInner x)

abbrev first_of_atom : OpenAtom → Atom-F Atom Added CallExpr Comp Compared Conj Expr Factor Post Sum Term Unary
first_of_atom = map-Atom ((x : Atom) × AtomInner x) ((x : Added) × AddedInner x) ((x : CallExpr) × CallInner x) ((x : Comp) × CompInner x) ((x : Compared) × ComparedInner x) ((x : Conj) × ConjInner x) ((x : Expr) × ExprInner x) ((x : Factor) × FactorInner x) ((x : Post) × PostInner x) ((x : Sum) × SumInner x) ((x : Term) × TermInner x) ((x : Unary) × UnaryInner x) Atom Added CallExpr Comp Compared Conj Expr Factor Post Sum Term Unary (λ e. e.0) (λ e. e.0) (λ e. e.0) (λ e. e.0) (λ e. e.0) (λ e. e.0) (λ e. e.0) (λ e. e.0) (λ e. e.0) (λ e. e.0) (λ e. e.0) (λ e. e.0)

moved : (ms ns : Marks) → ms ≡ ns → Inner ns → Inner ms
moved ms ns e h = subst Inner (sym e) h

both : (ms ns : Marks) → Inner ms → Inner ns → Inner (ms ++ ns)
both ms ns h k = each_append IsInner ms ns h k

parts_inner : {X Y : Type 0} (P : X → Type 0) (f : X → Y) (apart : Y → Marks) → ((x : X) → P x → Inner (apart (f x))) → (xs : List ((x : X) × P x)) → Inner (flat_map apart (map f (map (λ y. y.0) xs)))
parts_inner P f apart h [] = tt
parts_inner P f apart h (x ∷ xs) = both (apart (f x.0)) _ (h x.0 x.1) (parts_inner P f apart h xs)

listed_inner : (xs : List ((x : Expr) × ExprInner x)) → Inner (listed (map (fold_expr expr_marks) (map (λ y. y.0) xs)))
listed_inner [] = tt
listed_inner (x ∷ xs) = both (fold_expr expr_marks x.0) _ x.1 (parts_inner ExprInner (fold_expr expr_marks) (λ f. Other ∷ f) (λ x h. (tt, h)) xs)

parens_inner : (ms : Marks) → Inner ms → Inner (in_parens ms)
parens_inner ms h = (tt, both ms (Other ∷ []) h (tt, tt))

atom_of : (y : OpenAtom) → Inner (atom_marks (in_atom expr_marks (first_of_atom y)))
atom_of (Atom-F.Number n) = (tt, tt)
atom_of (Atom-F.Text x) = (tt, tt)
atom_of Atom-F.Nothing = (tt, tt)
atom_of (Atom-F.Variable x) = (tt, tt)
atom_of (Atom-F.BuiltIn x es) = (tt, parens_inner _ (listed_inner es))
atom_of (Atom-F.Call c) = c.1
atom_of (Atom-F.Paren e) = parens_inner _ e.1
atom_of (Atom-F.List es) = parens_inner _ (listed_inner es)

names_inner : (xs : List ((x : Expr) × ExprInner x)) → Inner (names_part (map (fold_expr expr_marks) (map (λ y. y.0) xs)))
names_inner [] = tt
names_inner (x ∷ xs) = (tt, parens_inner (listed (map (fold_expr expr_marks) (map (λ y. y.0) (x ∷ xs)))) (listed_inner (x ∷ xs)))

comp_of : (left : (x : Sum) × SumInner x) (test : Option ((x : Compared) × ComparedInner x)) → CompInner (roll-Comp (map-Comp ((x : Atom) × AtomInner x) ((x : Added) × AddedInner x) ((x : CallExpr) × CallInner x) ((x : Comp) × CompInner x) ((x : Compared) × ComparedInner x) ((x : Conj) × ConjInner x) ((x : Expr) × ExprInner x) ((x : Factor) × FactorInner x) ((x : Post) × PostInner x) ((x : Sum) × SumInner x) ((x : Term) × TermInner x) ((x : Unary) × UnaryInner x) Atom Added CallExpr Comp Compared Conj Expr Factor Post Sum Term Unary (λ e. e.0) (λ e. e.0) (λ e. e.0) (λ e. e.0) (λ e. e.0) (λ e. e.0) (λ e. e.0) (λ e. e.0) (λ e. e.0) (λ e. e.0) (λ e. e.0) (λ e. e.0) (record { left = left; test = test })))
comp_of left None = moved _ _ (comp-rolled expr_marks _) (both (fold_sum expr_marks left.0) [] left.1 tt)
comp_of left (Some y) = moved _ _ (comp-rolled expr_marks _) (both (fold_sum expr_marks left.0) (Other ∷ (fold_compared expr_marks y.0).1) left.1 (tt, y.1))

sign_inner : (op : Option UnaryOp) → Inner (sign_part op)
sign_inner None = tt
sign_inner (Some op) = (tt, tt)

atom_step : (y : OpenAtom) → AtomInner (roll-Atom (first_of_atom y))
atom_step y = moved _ _ (atom-rolled expr_marks _) (atom_of y)

call_step : (app : Name) (arguments names : List ((x : Expr) × ExprInner x)) → CallInner (roll-CallExpr (record { app = app; arguments = map (λ e. e.0) arguments; names = map (λ e. e.0) names }))
call_step app arguments names = moved _ _ (call-rolled expr_marks _) (tt, (tt, both (in_parens (listed (map (fold_expr expr_marks) (map (λ e. e.0) arguments)))) (names_part (map (fold_expr expr_marks) (map (λ e. e.0) names))) (parens_inner _ (listed_inner arguments)) (names_inner names)))

conj_step : (first : (x : Comp) × CompInner x) (others : List ((x : Comp) × CompInner x)) → ConjInner (roll-Conj (record { first = first.0; others = map (λ e. e.0) others }))
conj_step first others = moved _ _ (conj-rolled expr_marks _) (both _ _ first.1 (parts_inner CompInner (fold_comp expr_marks) (λ f. Other ∷ f) (λ x h. (tt, h)) others))

expr_step : (first : (x : Conj) × ConjInner x) (others : List ((x : Conj) × ConjInner x)) → ExprInner (roll-Expr (record { first = first.0; others = map (λ e. e.0) others }))
expr_step first others = moved _ _ (expr-rolled expr_marks _) (both _ _ first.1 (parts_inner ConjInner (fold_conj expr_marks) (λ f. Other ∷ f) (λ x h. (tt, h)) others))

post_step : (atom : (x : Atom) × AtomInner x) (indices : List ((x : Expr) × ExprInner x)) → PostInner (roll-Post (record { atom = atom.0; indices = map (λ e. e.0) indices }))
post_step atom indices = moved _ _ (post-rolled expr_marks _) (both _ _ atom.1 (parts_inner ExprInner (fold_expr expr_marks) in_parens (λ x h. parens_inner _ h) indices))

sum_step : (first : (x : Term) × TermInner x) (others : List ((x : Added) × AddedInner x)) → SumInner (roll-Sum (record { first = first.0; others = map (λ e. e.0) others }))
sum_step first others = moved _ _ (sum-rolled expr_marks _) (both _ _ first.1 (parts_inner AddedInner (fold_added expr_marks) (λ (f : SumOp × Marks). Other ∷ f.1) (λ x h. (tt, h)) others))

term_step : (first : (x : Unary) × UnaryInner x) (others : List ((x : Factor) × FactorInner x)) → TermInner (roll-Term (record { first = first.0; others = map (λ e. e.0) others }))
term_step first others = moved _ _ (term-rolled expr_marks _) (both _ _ first.1 (parts_inner FactorInner (fold_factor expr_marks) (λ (f : TermOp × Marks). Other ∷ f.1) (λ x h. (tt, h)) others))

unary_step : (op : Option UnaryOp) (post : (x : Post) × PostInner x) → UnaryInner (roll-Unary (record { op = op; post = post.0 }))
unary_step op post = moved _ _ (unary-rolled expr_marks _) (both _ _ (sign_inner op) post.1)

added_step : (op : SumOp) (term : (x : Term) × TermInner x) → AddedInner (roll-Added (record { op = op; term = term.0 }))
added_step op term = moved _ _ (ap (λ (z : SumOp × Marks). z.1) (added-rolled expr_marks _)) term.1

factor_step : (op : TermOp) (unary : (x : Unary) × UnaryInner x) → FactorInner (roll-Factor (record { op = op; unary = unary.0 }))
factor_step op unary = moved _ _ (ap (λ (z : TermOp × Marks). z.1) (factor-rolled expr_marks _)) unary.1

compared_step : (op : CompareOp) (right : (x : Sum) × SumInner x) → ComparedInner (roll-Compared (record { op = op; right = right.0 }))
compared_step op right = moved _ _ (ap (λ (z : CompareOp × Marks). z.1) (compared-rolled expr_marks _)) right.1

expr_inner : (x : Expr) → ExprInner x
expr_inner x = ind-Expr AtomInner AddedInner CallInner CompInner ComparedInner ConjInner ExprInner FactorInner PostInner SumInner TermInner UnaryInner
    (λ x y is. subst (λ z. AtomInner (roll-Atom z)) is (atom_step y))
    (λ x y is. subst (λ z. AddedInner (roll-Added z)) is (added_step y.op y.term))
    (λ x y is. subst (λ z. CallInner (roll-CallExpr z)) is (call_step y.app y.arguments y.names))
    (λ x y is. subst (λ z. CompInner (roll-Comp z)) is (comp_of y.left y.test))
    (λ x y is. subst (λ z. ComparedInner (roll-Compared z)) is (compared_step y.op y.right))
    (λ x y is. subst (λ z. ConjInner (roll-Conj z)) is (conj_step y.first y.others))
    (λ x y is. subst (λ z. ExprInner (roll-Expr z)) is (expr_step y.first y.others))
    (λ x y is. subst (λ z. FactorInner (roll-Factor z)) is (factor_step y.op y.unary))
    (λ x y is. subst (λ z. PostInner (roll-Post z)) is (post_step y.atom y.indices))
    (λ x y is. subst (λ z. SumInner (roll-Sum z)) is (sum_step y.first y.others))
    (λ x y is. subst (λ z. TermInner (roll-Term z)) is (term_step y.first y.others))
    (λ x y is. subst (λ z. UnaryInner (roll-Unary z)) is (unary_step y.op y.post)) x

call_inner : (x : CallExpr) → CallInner x
call_inner x = ind-CallExpr AtomInner AddedInner CallInner CompInner ComparedInner ConjInner ExprInner FactorInner PostInner SumInner TermInner UnaryInner
    (λ x y is. subst (λ z. AtomInner (roll-Atom z)) is (atom_step y))
    (λ x y is. subst (λ z. AddedInner (roll-Added z)) is (added_step y.op y.term))
    (λ x y is. subst (λ z. CallInner (roll-CallExpr z)) is (call_step y.app y.arguments y.names))
    (λ x y is. subst (λ z. CompInner (roll-Comp z)) is (comp_of y.left y.test))
    (λ x y is. subst (λ z. ComparedInner (roll-Compared z)) is (compared_step y.op y.right))
    (λ x y is. subst (λ z. ConjInner (roll-Conj z)) is (conj_step y.first y.others))
    (λ x y is. subst (λ z. ExprInner (roll-Expr z)) is (expr_step y.first y.others))
    (λ x y is. subst (λ z. FactorInner (roll-Factor z)) is (factor_step y.op y.unary))
    (λ x y is. subst (λ z. PostInner (roll-Post z)) is (post_step y.atom y.indices))
    (λ x y is. subst (λ z. SumInner (roll-Sum z)) is (sum_step y.first y.others))
    (λ x y is. subst (λ z. TermInner (roll-Term z)) is (term_step y.first y.others))
    (λ x y is. subst (λ z. UnaryInner (roll-Unary z)) is (unary_step y.op y.post)) x

-- ---- blocks

abbrev StatementInner : Statement → Type 0
StatementInner x = Inner (fold_statement block_marks x [])

abbrev BlockInner : Block → Type 0
BlockInner x = (visible : List Name) → Inner (fold_block block_marks x visible)

abbrev OpenStatement : Type 0
OpenStatement = Statement-F ((x : Statement) × StatementInner x) ((x : Block) × BlockInner x)

abbrev first_of : OpenStatement → Statement-F Statement Block
first_of = map-Statement ((x : Statement) × StatementInner x) ((x : Block) × BlockInner x) Statement Block (λ e. e.0) (λ e. e.0)

statement_of : (y : OpenStatement) → Inner (statement_marks (in_statement block_marks (first_of y)))
statement_of (Statement-F.Let name e) = (tt, (tt, (tt, both _ _ (expr_inner e) (tt, tt))))
statement_of (Statement-F.Set name e) = (tt, (tt, both _ _ (expr_inner e) (tt, tt)))
statement_of (Statement-F.While e b) = (tt, both _ _ (expr_inner e) (b.1 []))
statement_of (Statement-F.For name e b) = (tt, (tt, (tt, both _ _ (expr_inner e) (b.1 (name ∷ [])))))
statement_of (Statement-F.If e b None) = (tt, both _ _ (expr_inner e) (both _ [] (b.1 []) tt))
statement_of (Statement-F.If e b (Some d)) = (tt, both _ _ (expr_inner e) (both _ (Other ∷ fold_block block_marks d.0 []) (b.1 []) (tt, d.1 [])))
statement_of (Statement-F.Return e) = (tt, both _ _ (expr_inner e) (tt, tt))
statement_of (Statement-F.Raise e) = (tt, both _ _ (expr_inner e) (tt, tt))
statement_of (Statement-F.Write d e) = (tt, both _ _ (expr_inner d) (tt, both _ _ (expr_inner e) (tt, tt)))
statement_of (Statement-F.Print e) = (tt, both _ _ (expr_inner e) (tt, tt))
statement_of Statement-F.Checkpoint = (tt, (tt, tt))
statement_of (Statement-F.Call c) = both _ _ (call_inner c) (tt, tt)

statement_step : (y : OpenStatement) → StatementInner (roll-Statement (first_of y))
statement_step y = moved _ _ (ap (λ (z : InBlock). z []) (statement-rolled block_marks _)) (statement_of y)

block_step : (xs : List ((x : Statement) × StatementInner x)) → BlockInner (roll-Block (record { statements = map (λ x. x.0) xs }))
block_step xs visible = moved _ _ (ap (λ (z : InBlock). z visible) (block-rolled block_marks _)) (tt, both _ _ (parts_inner StatementInner (fold_statement block_marks) (λ (z : InBlock). z []) (λ x h. h) xs) (tt, tt))

blocks_inner : (x : Block) → BlockInner x
blocks_inner x = ind-Block StatementInner BlockInner (λ x y is. subst (λ z. StatementInner (roll-Statement z)) is (statement_step y)) (λ x y is. subst (λ z. BlockInner (roll-Block z)) is (block_step y.statements)) x

pub block_inner : (x : Block) → Inner (marks.block x)
block_inner x = blocks_inner x []

-- ---- heads of apps

more_parameters_inner : (k : ℕ) (names : List Name) → Inner (flat_map (λ f. Other ∷ f) (parameters_from k names))
more_parameters_inner k [] = tt
more_parameters_inner k (n ∷ ns) = (tt, (tt, more_parameters_inner (suc k) ns))

pub parameters_inner : (names : List Name) → Inner (in_parens (listed (parameters_from 0 names)))
parameters_inner [] = (tt, (tt, tt))
parameters_inner (n ∷ ns) = parens_inner (listed (parameters_from 0 (n ∷ ns))) (tt, more_parameters_inner 1 ns)

pub outputs_inner : (n : Option ℤ) → Inner (outputs_part n)
outputs_inner None = tt
outputs_inner (Some n) = (tt, (tt, tt))
