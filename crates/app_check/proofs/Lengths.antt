-- A tree has as many marks as tokens.
use Rattle.std.proofs.Common.{◌≡◌, ℕ, suc, ◌+◌, Bool, true, false, List, [], ◌∷◌, ◌++◌, map, length, length-append, refl, sym, ap, subst, append_assoc, Option, Some, None, ◌∙◌}
use Rattle.std.specs.Prelude.{ℤ}
use Rattle.std.specs.List.{flat_map}
use Rattle.script_tree.specs.declared.token.Token.{Token}
use Rattle.script_tree.specs.declared.token.Token.TheVariants as t
use Rattle.script_tree.specs.declared.token.Keyword.TheVariants as w
use Rattle.script_tree.specs.declared.token.Symbol.TheVariants as s
use Rattle.script_tree.specs.declared.tree.SumOp.{SumOp}
use Rattle.script_tree.specs.declared.tree.TermOp.{TermOp}
use Rattle.script_tree.specs.declared.tree.CompareOp.{CompareOp}
use Rattle.script_tree.specs.declared.tree.UnaryOp.{UnaryOp}
use Rattle.script_tree.specs.declared.tree.UnaryOp.TheVariants as sign
use Rattle.script_tree.specs.declared.tree.Atom.TheOpen.{Atom-F, Added-F, CallExpr-F, Comp-F, Compared-F, Conj-F, Expr-F, Factor-F, Post-F, Sum-F, Term-F, Unary-F}
use Rattle.script_tree.specs.declared.tree.Atom.TheFolds.{map-Atom, map-Comp}
use Rattle.script_tree.specs.declared.tree.Atom.{Atom, roll-Atom}
use Rattle.script_tree.specs.declared.tree.Added.{Added, roll-Added}
use Rattle.script_tree.specs.declared.tree.CallExpr.{CallExpr, roll-CallExpr, ind-CallExpr}
use Rattle.script_tree.specs.declared.tree.Comp.{Comp, roll-Comp}
use Rattle.script_tree.specs.declared.tree.Compared.{Compared, roll-Compared}
use Rattle.script_tree.specs.declared.tree.Conj.{Conj, roll-Conj}
use Rattle.script_tree.specs.declared.tree.Expr.{Expr, roll-Expr, ind-Expr}
use Rattle.script_tree.specs.declared.tree.Factor.{Factor, roll-Factor}
use Rattle.script_tree.specs.declared.tree.Post.{Post, roll-Post}
use Rattle.script_tree.specs.declared.tree.Sum.{Sum, roll-Sum}
use Rattle.script_tree.specs.declared.tree.Term.{Term, roll-Term}
use Rattle.script_tree.specs.declared.tree.Unary.{Unary, roll-Unary}
use Rattle.script_tree.specs.declared.tree.Block.{Block, roll-Block, ind-Block}
use Rattle.script_tree.specs.declared.tree.Statement.{Statement, roll-Statement}
use Rattle.script_tree.specs.declared.tree.Statement.TheOpen.{Statement-F}
use Rattle.script_tree.specs.declared.tree.Statement.TheFolds.{map-Statement}
use Rattle.script_tree.specs.declared.tree.AppDef.{AppDef}
use Rattle.script_tree.specs.Folds.{fold_atom, fold_added, fold_call, fold_comp, fold_compared, fold_conj, fold_expr, fold_factor, fold_post, fold_sum, fold_term, fold_unary, fold_block, fold_statement}
use Rattle.script_tree.specs.Grammar.{Tree}
use Rattle.script_tree.specs.Marks.{Name, Mark, Marks, Other, Takes, expr_marks, block_marks}
use Rattle.script_tree.specs.Marks as marks
use Rattle.script_tree.specs.Spelling.{Tokens, expr_tokens, block_tokens}
use Rattle.script_tree.specs.Spelling as spelling
use Rattle.script_tree.proofs.Rolls.{in_atom, atom-rolled, added-rolled, call-rolled, comp-rolled, compared-rolled, conj-rolled, expr-rolled, factor-rolled, post-rolled, sum-rolled, term-rolled, unary-rolled, in_statement, statement-rolled, block-rolled}

-- ---- lists of one length

record Alike (ms : Marks) (ts : Tokens) : Type 0 where
  pub is : length ms ≡ length ts

none : Alike [] []
none = record { is = refl }

more : {m : Mark} {k : Token} {ms : Marks} {ts : Tokens} → Alike ms ts → Alike (m ∷ ms) (k ∷ ts)
more a = record { is = ap suc a.is }

one : {m : Mark} {k : Token} → Alike (m ∷ []) (k ∷ [])
one = more none

then : {ms ns : Marks} {ts us : Tokens} → Alike ms ts → Alike ns us → Alike (ms ++ ns) (ts ++ us)
then {ms = ms} {ns = ns} {ts = ts} {us = us} a b = record { is = length-append ms ns ∙ ap (λ n. n + length ns) a.is ∙ ap (λ n. length ts + n) b.is ∙ sym (length-append ts us) }

-- between two brackets
inside : {m : Mark} {k : Token} {ms : Marks} {ts : Tokens} (n : Mark) (l : Token) → Alike ms ts → Alike (m ∷ ms ++ n ∷ []) (k ∷ ts ++ l ∷ [])
inside n l a = more (then a one)

flat : {A B C : Type 0} (P : A → Type 0) (v : A → B) (u : A → C) (f : B → Marks) (g : C → Tokens) → ((a : A) → P a → Alike (f (v a)) (g (u a)))
    → (xs : List ((a : A) × P a)) → Alike (flat_map f (map v (map (λ y. y.0) xs))) (flat_map g (map u (map (λ y. y.0) xs)))
flat P v u f g h [] = none
flat P v u f g h (x ∷ xs) = then (h x.0 x.1) (flat P v u f g h xs)

moved : (x y : Marks) (ts us : Tokens) → x ≡ y → ts ≡ us → Alike y us → Alike x ts
moved x y ts us e h a = subst (λ (z : Marks). Alike z ts) (sym e) (subst (λ (z : Tokens). Alike y z) (sym h) a)

sign_alike : (op : Option UnaryOp) → Alike (marks.sign_part op) (spelling.sign_part op)
sign_alike None = none
sign_alike (Some sign.Minus) = one
sign_alike (Some sign.Not) = one

-- ---- the classes of expressions

abbrev AtomAlike : Atom → Type 0
AtomAlike x = Alike (fold_atom expr_marks x) (fold_atom expr_tokens x)

abbrev AddedAlike : Added → Type 0
AddedAlike x = Alike (fold_added expr_marks x).1 (fold_added expr_tokens x).1

abbrev CallExprAlike : CallExpr → Type 0
CallExprAlike x = Alike (fold_call expr_marks x) (fold_call expr_tokens x)

abbrev CompAlike : Comp → Type 0
CompAlike x = Alike (fold_comp expr_marks x) (fold_comp expr_tokens x)

abbrev ComparedAlike : Compared → Type 0
ComparedAlike x = Alike (fold_compared expr_marks x).1 (fold_compared expr_tokens x).1

abbrev ConjAlike : Conj → Type 0
ConjAlike x = Alike (fold_conj expr_marks x) (fold_conj expr_tokens x)

abbrev ExprAlike : Expr → Type 0
ExprAlike x = Alike (fold_expr expr_marks x) (fold_expr expr_tokens x)

abbrev FactorAlike : Factor → Type 0
FactorAlike x = Alike (fold_factor expr_marks x).1 (fold_factor expr_tokens x).1

abbrev PostAlike : Post → Type 0
PostAlike x = Alike (fold_post expr_marks x) (fold_post expr_tokens x)

abbrev SumAlike : Sum → Type 0
SumAlike x = Alike (fold_sum expr_marks x) (fold_sum expr_tokens x)

abbrev TermAlike : Term → Type 0
TermAlike x = Alike (fold_term expr_marks x) (fold_term expr_tokens x)

abbrev UnaryAlike : Unary → Type 0
UnaryAlike x = Alike (fold_unary expr_marks x) (fold_unary expr_tokens x)

abbrev AtomLayer : Type 0
AtomLayer = Atom-F ((x : Atom) × AtomAlike x) ((x : Added) × AddedAlike x) ((x : CallExpr) × CallExprAlike x) ((x : Comp) × CompAlike x) ((x : Compared) × ComparedAlike x) ((x : Conj) × ConjAlike x) ((x : Expr) × ExprAlike x) ((x : Factor) × FactorAlike x) ((x : Post) × PostAlike x) ((x : Sum) × SumAlike x) ((x : Term) × TermAlike x) ((x : Unary) × UnaryAlike x)

abbrev AddedLayer : Type 0
AddedLayer = Added-F ((x : Atom) × AtomAlike x) ((x : Added) × AddedAlike x) ((x : CallExpr) × CallExprAlike x) ((x : Comp) × CompAlike x) ((x : Compared) × ComparedAlike x) ((x : Conj) × ConjAlike x) ((x : Expr) × ExprAlike x) ((x : Factor) × FactorAlike x) ((x : Post) × PostAlike x) ((x : Sum) × SumAlike x) ((x : Term) × TermAlike x) ((x : Unary) × UnaryAlike x)

abbrev CallExprLayer : Type 0
CallExprLayer = CallExpr-F ((x : Atom) × AtomAlike x) ((x : Added) × AddedAlike x) ((x : CallExpr) × CallExprAlike x) ((x : Comp) × CompAlike x) ((x : Compared) × ComparedAlike x) ((x : Conj) × ConjAlike x) ((x : Expr) × ExprAlike x) ((x : Factor) × FactorAlike x) ((x : Post) × PostAlike x) ((x : Sum) × SumAlike x) ((x : Term) × TermAlike x) ((x : Unary) × UnaryAlike x)

abbrev CompLayer : Type 0
CompLayer = Comp-F ((x : Atom) × AtomAlike x) ((x : Added) × AddedAlike x) ((x : CallExpr) × CallExprAlike x) ((x : Comp) × CompAlike x) ((x : Compared) × ComparedAlike x) ((x : Conj) × ConjAlike x) ((x : Expr) × ExprAlike x) ((x : Factor) × FactorAlike x) ((x : Post) × PostAlike x) ((x : Sum) × SumAlike x) ((x : Term) × TermAlike x) ((x : Unary) × UnaryAlike x)

abbrev ComparedLayer : Type 0
ComparedLayer = Compared-F ((x : Atom) × AtomAlike x) ((x : Added) × AddedAlike x) ((x : CallExpr) × CallExprAlike x) ((x : Comp) × CompAlike x) ((x : Compared) × ComparedAlike x) ((x : Conj) × ConjAlike x) ((x : Expr) × ExprAlike x) ((x : Factor) × FactorAlike x) ((x : Post) × PostAlike x) ((x : Sum) × SumAlike x) ((x : Term) × TermAlike x) ((x : Unary) × UnaryAlike x)

abbrev ConjLayer : Type 0
ConjLayer = Conj-F ((x : Atom) × AtomAlike x) ((x : Added) × AddedAlike x) ((x : CallExpr) × CallExprAlike x) ((x : Comp) × CompAlike x) ((x : Compared) × ComparedAlike x) ((x : Conj) × ConjAlike x) ((x : Expr) × ExprAlike x) ((x : Factor) × FactorAlike x) ((x : Post) × PostAlike x) ((x : Sum) × SumAlike x) ((x : Term) × TermAlike x) ((x : Unary) × UnaryAlike x)

abbrev ExprLayer : Type 0
ExprLayer = Expr-F ((x : Atom) × AtomAlike x) ((x : Added) × AddedAlike x) ((x : CallExpr) × CallExprAlike x) ((x : Comp) × CompAlike x) ((x : Compared) × ComparedAlike x) ((x : Conj) × ConjAlike x) ((x : Expr) × ExprAlike x) ((x : Factor) × FactorAlike x) ((x : Post) × PostAlike x) ((x : Sum) × SumAlike x) ((x : Term) × TermAlike x) ((x : Unary) × UnaryAlike x)

abbrev FactorLayer : Type 0
FactorLayer = Factor-F ((x : Atom) × AtomAlike x) ((x : Added) × AddedAlike x) ((x : CallExpr) × CallExprAlike x) ((x : Comp) × CompAlike x) ((x : Compared) × ComparedAlike x) ((x : Conj) × ConjAlike x) ((x : Expr) × ExprAlike x) ((x : Factor) × FactorAlike x) ((x : Post) × PostAlike x) ((x : Sum) × SumAlike x) ((x : Term) × TermAlike x) ((x : Unary) × UnaryAlike x)

abbrev PostLayer : Type 0
PostLayer = Post-F ((x : Atom) × AtomAlike x) ((x : Added) × AddedAlike x) ((x : CallExpr) × CallExprAlike x) ((x : Comp) × CompAlike x) ((x : Compared) × ComparedAlike x) ((x : Conj) × ConjAlike x) ((x : Expr) × ExprAlike x) ((x : Factor) × FactorAlike x) ((x : Post) × PostAlike x) ((x : Sum) × SumAlike x) ((x : Term) × TermAlike x) ((x : Unary) × UnaryAlike x)

abbrev SumLayer : Type 0
SumLayer = Sum-F ((x : Atom) × AtomAlike x) ((x : Added) × AddedAlike x) ((x : CallExpr) × CallExprAlike x) ((x : Comp) × CompAlike x) ((x : Compared) × ComparedAlike x) ((x : Conj) × ConjAlike x) ((x : Expr) × ExprAlike x) ((x : Factor) × FactorAlike x) ((x : Post) × PostAlike x) ((x : Sum) × SumAlike x) ((x : Term) × TermAlike x) ((x : Unary) × UnaryAlike x)

abbrev TermLayer : Type 0
TermLayer = Term-F ((x : Atom) × AtomAlike x) ((x : Added) × AddedAlike x) ((x : CallExpr) × CallExprAlike x) ((x : Comp) × CompAlike x) ((x : Compared) × ComparedAlike x) ((x : Conj) × ConjAlike x) ((x : Expr) × ExprAlike x) ((x : Factor) × FactorAlike x) ((x : Post) × PostAlike x) ((x : Sum) × SumAlike x) ((x : Term) × TermAlike x) ((x : Unary) × UnaryAlike x)

abbrev UnaryLayer : Type 0
UnaryLayer = Unary-F ((x : Atom) × AtomAlike x) ((x : Added) × AddedAlike x) ((x : CallExpr) × CallExprAlike x) ((x : Comp) × CompAlike x) ((x : Compared) × ComparedAlike x) ((x : Conj) × ConjAlike x) ((x : Expr) × ExprAlike x) ((x : Factor) × FactorAlike x) ((x : Post) × PostAlike x) ((x : Sum) × SumAlike x) ((x : Term) × TermAlike x) ((x : Unary) × UnaryAlike x)

abbrev first_of_atom : AtomLayer → Atom-F Atom Added CallExpr Comp Compared Conj Expr Factor Post Sum Term Unary
first_of_atom = map-Atom ((x : Atom) × AtomAlike x) ((x : Added) × AddedAlike x) ((x : CallExpr) × CallExprAlike x) ((x : Comp) × CompAlike x) ((x : Compared) × ComparedAlike x) ((x : Conj) × ConjAlike x) ((x : Expr) × ExprAlike x) ((x : Factor) × FactorAlike x) ((x : Post) × PostAlike x) ((x : Sum) × SumAlike x) ((x : Term) × TermAlike x) ((x : Unary) × UnaryAlike x) Atom Added CallExpr Comp Compared Conj Expr Factor Post Sum Term Unary (λ e. e.0) (λ e. e.0) (λ e. e.0) (λ e. e.0) (λ e. e.0) (λ e. e.0) (λ e. e.0) (λ e. e.0) (λ e. e.0) (λ e. e.0) (λ e. e.0) (λ e. e.0)

abbrev first_of_comp : CompLayer → Comp-F Atom Added CallExpr Comp Compared Conj Expr Factor Post Sum Term Unary
first_of_comp = map-Comp ((x : Atom) × AtomAlike x) ((x : Added) × AddedAlike x) ((x : CallExpr) × CallExprAlike x) ((x : Comp) × CompAlike x) ((x : Compared) × ComparedAlike x) ((x : Conj) × ConjAlike x) ((x : Expr) × ExprAlike x) ((x : Factor) × FactorAlike x) ((x : Post) × PostAlike x) ((x : Sum) × SumAlike x) ((x : Term) × TermAlike x) ((x : Unary) × UnaryAlike x) Atom Added CallExpr Comp Compared Conj Expr Factor Post Sum Term Unary (λ e. e.0) (λ e. e.0) (λ e. e.0) (λ e. e.0) (λ e. e.0) (λ e. e.0) (λ e. e.0) (λ e. e.0) (λ e. e.0) (λ e. e.0) (λ e. e.0) (λ e. e.0)

exprs_listed : (xs : List ((x : Expr) × ExprAlike x)) → Alike (marks.listed (map (fold_expr expr_marks) (map (λ y. y.0) xs))) (spelling.listed (map (fold_expr expr_tokens) (map (λ y. y.0) xs)))
exprs_listed [] = none
exprs_listed (x ∷ xs) = then x.1 (flat ExprAlike (fold_expr expr_marks) (fold_expr expr_tokens) (λ f. Other ∷ f) (λ f. t.Symbol s.Comma ∷ f) (λ e r. more r) xs)

atom_of : (y : AtomLayer) → Alike (marks.atom_marks (in_atom expr_marks (first_of_atom y))) (spelling.atom_tokens (in_atom expr_tokens (first_of_atom y)))
atom_of (Atom-F.Number n) = one
atom_of (Atom-F.Text x) = one
atom_of Atom-F.Nothing = one
atom_of (Atom-F.Variable x) = one
atom_of (Atom-F.BuiltIn x es) = more (inside _ _ (exprs_listed es))
atom_of (Atom-F.Call c) = c.1
atom_of (Atom-F.Paren e) = inside _ _ e.1
atom_of (Atom-F.List es) = inside _ _ (exprs_listed es)

atom_step : (y : AtomLayer) → AtomAlike (roll-Atom (first_of_atom y))
atom_step y = moved _ _ _ _ (atom-rolled expr_marks _) (atom-rolled expr_tokens _) (atom_of y)

names_part : (xs : List ((x : Expr) × ExprAlike x)) → Alike (marks.names_part (map (fold_expr expr_marks) (map (λ y. y.0) xs))) (spelling.names_part (map (fold_expr expr_tokens) (map (λ y. y.0) xs)))
names_part [] = none
names_part (x ∷ xs) = more (inside _ _ (exprs_listed (x ∷ xs)))

call_step : (y : CallExprLayer) → CallExprAlike (roll-CallExpr (record { app = y.app; arguments = map (λ e. e.0) y.arguments; names = map (λ e. e.0) y.names }))
call_step y = moved _ _ _ _ (call-rolled expr_marks _) (call-rolled expr_tokens _) (more (more (then (inside _ _ (exprs_listed y.arguments)) (names_part y.names))))

comp_of : (left : (x : Sum) × SumAlike x) (test : Option ((x : Compared) × ComparedAlike x)) → CompAlike (roll-Comp (first_of_comp (record { left = left; test = test })))
comp_of left None = moved _ _ _ _ (comp-rolled expr_marks _) (comp-rolled expr_tokens _) (then left.1 none)
comp_of left (Some y) = moved _ _ _ _ (comp-rolled expr_marks _) (comp-rolled expr_tokens _) (then left.1 (more y.1))

conj_step : (y : ConjLayer) → ConjAlike (roll-Conj (record { first = y.first.0; others = map (λ e. e.0) y.others }))
conj_step y = moved _ _ _ _ (conj-rolled expr_marks _) (conj-rolled expr_tokens _)
    (then y.first.1 (flat CompAlike (fold_comp expr_marks) (fold_comp expr_tokens) (λ f. Other ∷ f) (λ f. t.Keyword w.And ∷ f) (λ e r. more r) y.others))

expr_step : (y : ExprLayer) → ExprAlike (roll-Expr (record { first = y.first.0; others = map (λ e. e.0) y.others }))
expr_step y = moved _ _ _ _ (expr-rolled expr_marks _) (expr-rolled expr_tokens _)
    (then y.first.1 (flat ConjAlike (fold_conj expr_marks) (fold_conj expr_tokens) (λ f. Other ∷ f) (λ f. t.Keyword w.Or ∷ f) (λ e r. more r) y.others))

post_step : (y : PostLayer) → PostAlike (roll-Post (record { atom = y.atom.0; indices = map (λ e. e.0) y.indices }))
post_step y = moved _ _ _ _ (post-rolled expr_marks _) (post-rolled expr_tokens _)
    (then y.atom.1 (flat ExprAlike (fold_expr expr_marks) (fold_expr expr_tokens) marks.in_parens (λ f. t.Symbol s.OpenList ∷ f ++ spelling.symbol s.CloseList) (λ e r. inside _ _ r) y.indices))

sum_step : (y : SumLayer) → SumAlike (roll-Sum (record { first = y.first.0; others = map (λ e. e.0) y.others }))
sum_step y = moved _ _ _ _ (sum-rolled expr_marks _) (sum-rolled expr_tokens _)
    (then y.first.1 (flat AddedAlike (fold_added expr_marks) (fold_added expr_tokens) (λ f. Other ∷ f.1) (λ f. t.Symbol (spelling.sum_symbol f.0) ∷ f.1) (λ e r. more r) y.others))

term_step : (y : TermLayer) → TermAlike (roll-Term (record { first = y.first.0; others = map (λ e. e.0) y.others }))
term_step y = moved _ _ _ _ (term-rolled expr_marks _) (term-rolled expr_tokens _)
    (then y.first.1 (flat FactorAlike (fold_factor expr_marks) (fold_factor expr_tokens) (λ f. Other ∷ f.1) (λ f. t.Symbol (spelling.term_symbol f.0) ∷ f.1) (λ e r. more r) y.others))

unary_step : (y : UnaryLayer) → UnaryAlike (roll-Unary (record { op = y.op; post = y.post.0 }))
unary_step y = moved _ _ _ _ (unary-rolled expr_marks _) (unary-rolled expr_tokens _) (then (sign_alike y.op) y.post.1)

added_step : (y : AddedLayer) → AddedAlike (roll-Added (record { op = y.op; term = y.term.0 }))
added_step y = moved _ _ _ _ (ap (λ (z : SumOp × Marks). z.1) (added-rolled expr_marks _)) (ap (λ (z : SumOp × Tokens). z.1) (added-rolled expr_tokens _)) y.term.1

factor_step : (y : FactorLayer) → FactorAlike (roll-Factor (record { op = y.op; unary = y.unary.0 }))
factor_step y = moved _ _ _ _ (ap (λ (z : TermOp × Marks). z.1) (factor-rolled expr_marks _)) (ap (λ (z : TermOp × Tokens). z.1) (factor-rolled expr_tokens _)) y.unary.1

compared_step : (y : ComparedLayer) → ComparedAlike (roll-Compared (record { op = y.op; right = y.right.0 }))
compared_step y = moved _ _ _ _ (ap (λ (z : CompareOp × Marks). z.1) (compared-rolled expr_marks _)) (ap (λ (z : CompareOp × Tokens). z.1) (compared-rolled expr_tokens _)) y.right.1

expr_alike : (x : Expr) → ExprAlike x
expr_alike x = ind-Expr AtomAlike AddedAlike CallExprAlike CompAlike ComparedAlike ConjAlike ExprAlike FactorAlike PostAlike SumAlike TermAlike UnaryAlike
    (λ x y is. subst (λ z. AtomAlike (roll-Atom z)) is (atom_step y))
    (λ x y is. subst (λ z. AddedAlike (roll-Added z)) is (added_step y))
    (λ x y is. subst (λ z. CallExprAlike (roll-CallExpr z)) is (call_step y))
    (λ x y is. subst (λ z. CompAlike (roll-Comp z)) is (comp_of y.left y.test))
    (λ x y is. subst (λ z. ComparedAlike (roll-Compared z)) is (compared_step y))
    (λ x y is. subst (λ z. ConjAlike (roll-Conj z)) is (conj_step y))
    (λ x y is. subst (λ z. ExprAlike (roll-Expr z)) is (expr_step y))
    (λ x y is. subst (λ z. FactorAlike (roll-Factor z)) is (factor_step y))
    (λ x y is. subst (λ z. PostAlike (roll-Post z)) is (post_step y))
    (λ x y is. subst (λ z. SumAlike (roll-Sum z)) is (sum_step y))
    (λ x y is. subst (λ z. TermAlike (roll-Term z)) is (term_step y))
    (λ x y is. subst (λ z. UnaryAlike (roll-Unary z)) is (unary_step y)) x

call_alike : (x : CallExpr) → CallExprAlike x
call_alike x = ind-CallExpr AtomAlike AddedAlike CallExprAlike CompAlike ComparedAlike ConjAlike ExprAlike FactorAlike PostAlike SumAlike TermAlike UnaryAlike
    (λ x y is. subst (λ z. AtomAlike (roll-Atom z)) is (atom_step y))
    (λ x y is. subst (λ z. AddedAlike (roll-Added z)) is (added_step y))
    (λ x y is. subst (λ z. CallExprAlike (roll-CallExpr z)) is (call_step y))
    (λ x y is. subst (λ z. CompAlike (roll-Comp z)) is (comp_of y.left y.test))
    (λ x y is. subst (λ z. ComparedAlike (roll-Compared z)) is (compared_step y))
    (λ x y is. subst (λ z. ConjAlike (roll-Conj z)) is (conj_step y))
    (λ x y is. subst (λ z. ExprAlike (roll-Expr z)) is (expr_step y))
    (λ x y is. subst (λ z. FactorAlike (roll-Factor z)) is (factor_step y))
    (λ x y is. subst (λ z. PostAlike (roll-Post z)) is (post_step y))
    (λ x y is. subst (λ z. SumAlike (roll-Sum z)) is (sum_step y))
    (λ x y is. subst (λ z. TermAlike (roll-Term z)) is (term_step y))
    (λ x y is. subst (λ z. UnaryAlike (roll-Unary z)) is (unary_step y)) x

-- ---- statements and blocks

abbrev StatementAlike : Statement → Type 0
StatementAlike x = (names : List Name) → Alike (fold_statement block_marks x names) (fold_statement block_tokens x)

abbrev BlockAlike : Block → Type 0
BlockAlike x = (names : List Name) → Alike (fold_block block_marks x names) (fold_block block_tokens x)

abbrev StatementLayer : Type 0
StatementLayer = Statement-F ((x : Statement) × StatementAlike x) ((x : Block) × BlockAlike x)

abbrev first_of : StatementLayer → Statement-F Statement Block
first_of = map-Statement ((x : Statement) × StatementAlike x) ((x : Block) × BlockAlike x) Statement Block (λ e. e.0) (λ e. e.0)

write_tokens : (d e : Tokens) → spelling.ended (t.Keyword w.Write ∷ d ++ (t.Symbol s.Comma ∷ e)) ≡ t.Keyword w.Write ∷ (d ++ (t.Symbol s.Comma ∷ (e ++ spelling.symbol s.Semicolon)))
write_tokens d e = append_assoc (t.Keyword w.Write ∷ d) (t.Symbol s.Comma ∷ e) (spelling.symbol s.Semicolon)

statement_of : (y : StatementLayer) → Alike (marks.statement_marks (in_statement block_marks (first_of y))) (spelling.statement_tokens (in_statement block_tokens (first_of y)))
statement_of (Statement-F.Let x e) = more (more (more (then (expr_alike e) one)))
statement_of (Statement-F.Set x e) = more (more (then (expr_alike e) one))
statement_of (Statement-F.While e b) = more (then (expr_alike e) (b.1 []))
statement_of (Statement-F.For x e b) = more (more (more (then (expr_alike e) (b.1 (x ∷ [])))))
statement_of (Statement-F.If e b None) = more (then (expr_alike e) (then (b.1 []) none))
statement_of (Statement-F.If e b (Some d)) = more (then (expr_alike e) (then (b.1 []) (more (d.1 []))))
statement_of (Statement-F.Return e) = inside _ _ (expr_alike e)
statement_of (Statement-F.Raise e) = inside _ _ (expr_alike e)
statement_of (Statement-F.Write d e) = moved _ _ _ _ refl (write_tokens (spelling.expr d) (spelling.expr e)) (more (then (expr_alike d) (inside _ _ (expr_alike e))))
statement_of (Statement-F.Print e) = inside _ _ (expr_alike e)
statement_of Statement-F.Checkpoint = more one
statement_of (Statement-F.Call c) = then (call_alike c) one

statement_step : (y : StatementLayer) → StatementAlike (roll-Statement (first_of y))
statement_step y names = moved _ _ _ _ (ap (λ (z : marks.InBlock). z names) (statement-rolled block_marks _)) (statement-rolled block_tokens _) (statement_of y)

statements_alike : (xs : List ((x : Statement) × StatementAlike x))
    → Alike (flat_map (λ z. z []) (map (fold_statement block_marks) (map (λ x. x.0) xs))) (flat_map (λ ts. ts) (map (fold_statement block_tokens) (map (λ x. x.0) xs)))
statements_alike [] = none
statements_alike (x ∷ xs) = then (x.1 []) (statements_alike xs)

block_step : (xs : List ((x : Statement) × StatementAlike x)) → BlockAlike (roll-Block (record { statements = map (λ x. x.0) xs }))
block_step xs names = moved _ _ _ _ (ap (λ (z : marks.InBlock). z names) (block-rolled block_marks _)) (block-rolled block_tokens _) (inside _ _ (statements_alike xs))

block_alike : (x : Block) → BlockAlike x
block_alike x = ind-Block StatementAlike BlockAlike (λ x y is. subst (λ z. StatementAlike (roll-Statement z)) is (statement_step y)) (λ x y is. subst (λ z. BlockAlike (roll-Block z)) is (block_step y.statements)) x

-- ---- apps and scripts

when_alike : (b : Bool) (m : Mark) (k : Token) → Alike (marks.when b m) (spelling.when b (k ∷ []))
when_alike true m k = one
when_alike false m k = none

later_names : (n : ℕ) (names : List Name) → Alike (flat_map (λ f. Other ∷ f) (marks.parameters_from n names)) (flat_map (λ f. t.Symbol s.Comma ∷ f) (spelling.names_of names))
later_names n [] = none
later_names n (x ∷ xs) = more (more (later_names (suc n) xs))

names_listed : (names : List Name) → Alike (marks.listed (marks.parameters_from 0 names)) (spelling.listed (spelling.names_of names))
names_listed [] = none
names_listed (x ∷ xs) = more (later_names 1 xs)

outputs_alike : (n : Option ℤ) → Alike (marks.outputs_part n) (spelling.outputs_part n)
outputs_alike None = none
outputs_alike (Some n) = more one

app_alike : (k : ℕ) (a : AppDef) → Alike (marks.app k a) (spelling.app a)
app_alike k a = then (when_alike a.cached _ _) (then (when_alike a.join _ _) (more (more (then (inside _ _ (names_listed a.parameters)) (then (outputs_alike a.outputs) (block_alike a.body []))))))

apps_alike : (k : ℕ) (apps : List AppDef) → Alike (marks.apps_from k apps) (flat_map spelling.app apps)
apps_alike k [] = none
apps_alike k (a ∷ rest) = then (app_alike k a) (apps_alike (suc k) rest)

pub marks_are_tokens : (tree : Tree) → length (marks.script tree) ≡ length (spelling.script tree)
marks_are_tokens tree = (then (apps_alike 0 tree.0) (more (block_alike tree.1 []))).is
