-- The canonical text of an expression has text bytes alone.
use Rattle.std.proofs.Common.{List, [], ◌∷◌, ◌++◌, map, refl, ap, subst, codes, Option, Some, None}
use Rattle.script_tree.specs.declared.token.Token.TheVariants as t
use Rattle.script_tree.specs.declared.token.Keyword.TheVariants as w
use Rattle.script_tree.specs.declared.token.Symbol.TheVariants as s
use Rattle.script_tree.specs.declared.tree.SumOp.{SumOp}
use Rattle.script_tree.specs.declared.tree.SumOp.TheVariants as plus
use Rattle.script_tree.specs.declared.tree.TermOp.{TermOp}
use Rattle.script_tree.specs.declared.tree.TermOp.TheVariants as times
use Rattle.script_tree.specs.declared.tree.CompareOp.{CompareOp}
use Rattle.script_tree.specs.declared.tree.CompareOp.TheVariants as by
use Rattle.script_tree.specs.declared.tree.UnaryOp.{UnaryOp}
use Rattle.script_tree.specs.declared.tree.UnaryOp.TheVariants as sign
use Rattle.script_tree.specs.declared.tree.Atom.TheOpen.{Atom-F, Comp-F}
use Rattle.script_tree.specs.declared.tree.Atom.TheFolds.{map-Atom, map-Comp}
use Rattle.script_tree.specs.declared.tree.Atom.{Atom, roll-Atom}
use Rattle.script_tree.specs.declared.tree.Added.{Added, roll-Added}
use Rattle.script_tree.specs.declared.tree.CallExpr.{CallExpr, roll-CallExpr, ind-CallExpr}
use Rattle.script_tree.specs.declared.tree.Comp.{Comp, roll-Comp}
use Rattle.script_tree.specs.declared.tree.Compared.{Compared, roll-Compared}
use Rattle.script_tree.specs.declared.tree.Conj.{Conj, roll-Conj}
use Rattle.script_tree.specs.declared.tree.Expr.{Expr, roll-Expr, ind-Expr}
use Rattle.script_tree.specs.declared.tree.Factor.{Factor, roll-Factor}
use Rattle.script_tree.specs.declared.tree.Post.{Post, roll-Post}
use Rattle.script_tree.specs.declared.tree.Sum.{Sum, roll-Sum}
use Rattle.script_tree.specs.declared.tree.Term.{Term, roll-Term}
use Rattle.script_tree.specs.declared.tree.Unary.{Unary, roll-Unary}
use Rattle.script_tree.specs.Folds.{fold_atom, fold_added, fold_call, fold_comp, fold_compared, fold_conj, fold_expr, fold_factor, fold_post, fold_sum, fold_term, fold_unary}
use Rattle.script_tree.specs.Lexing.{Text}
use Rattle.script_tree.specs.Canonical.{expr_text}
use Rattle.script_tree.specs.Canonical as canonical
use Rattle.script_tree.specs.Spelling.{Tokens, expr_tokens}
use Rattle.script_tree.specs.Spelling as spelling
use Rattle.script_tree.proofs.Rolls.{in_atom, atom-rolled, added-rolled, call-rolled, comp-rolled, compared-rolled, conj-rolled, expr-rolled, factor-rolled, post-rolled, sum-rolled, term-rolled, unary-rolled}
use Rattle.app_texts.proofs.Clean.{Clean, clean_moved, clean_both, clean_none, clean_word, clean_name, clean_text, clean_number, clean_flat}

-- ---- operators, signs and lists

sum_clean : (op : SumOp) → Clean (canonical.sum_text op) (t.Symbol (spelling.sum_symbol op) ∷ [])
sum_clean plus.Plus = clean_word _ _ refl
sum_clean plus.Minus = clean_word _ _ refl

term_clean : (op : TermOp) → Clean (canonical.term_text op) (t.Symbol (spelling.term_symbol op) ∷ [])
term_clean times.Times = clean_word _ _ refl
term_clean times.Over = clean_word _ _ refl
term_clean times.Rest = clean_word _ _ refl

compare_clean : (op : CompareOp) → Clean (canonical.compare_text op) (t.Symbol (spelling.compare_symbol op) ∷ [])
compare_clean by.Equal = clean_word _ _ refl
compare_clean by.Differ = clean_word _ _ refl
compare_clean by.Less = clean_word _ _ refl
compare_clean by.AtMost = clean_word _ _ refl
compare_clean by.Greater = clean_word _ _ refl
compare_clean by.AtLeast = clean_word _ _ refl

sign_clean : (op : Option UnaryOp) → Clean (canonical.sign_part op) (spelling.sign_part op)
sign_clean None = clean_none
sign_clean (Some sign.Minus) = clean_word _ _ refl
sign_clean (Some sign.Not) = clean_word _ _ refl

-- with commas between them
listed_clean : {A : Type 0} (P : A → Type 0) (v : A → Text) (u : A → Tokens) → ((a : A) → P a → Clean (v a) (u a))
    → (xs : List ((a : A) × P a)) → Clean (canonical.listed (map v (map (λ y. y.0) xs))) (spelling.listed (map u (map (λ y. y.0) xs)))
listed_clean P v u h [] = clean_none
listed_clean P v u h (x ∷ xs) = clean_both (h x.0 x.1) (clean_flat P v u (λ f. codes ", " ++ f) (λ f. t.Symbol s.Comma ∷ f) (λ a p. clean_both (clean_word (codes ", ") (t.Symbol s.Comma) refl) (h a p)) xs)

pub in_parens : {x : Text} {ts : Tokens} → Clean x ts → Clean (canonical.in_parens x) (spelling.in_parens ts)
in_parens a = clean_both (clean_word (codes "(") (t.Symbol s.OpenParen) refl) (clean_both a (clean_word (codes ")") (t.Symbol s.CloseParen) refl))

in_list : {x : Text} {ts : Tokens} → Clean x ts → Clean (codes "[" ++ (x ++ codes "]")) (t.Symbol s.OpenList ∷ ts ++ spelling.symbol s.CloseList)
in_list a = clean_both (clean_word (codes "[") (t.Symbol s.OpenList) refl) (clean_both a (clean_word (codes "]") (t.Symbol s.CloseList) refl))

-- ---- the classes

abbrev AtomClean : Atom → Type 0
AtomClean x = Clean (fold_atom expr_text x) (fold_atom expr_tokens x)

abbrev CallExprClean : CallExpr → Type 0
CallExprClean x = Clean (fold_call expr_text x) (fold_call expr_tokens x)

abbrev CompClean : Comp → Type 0
CompClean x = Clean (fold_comp expr_text x) (fold_comp expr_tokens x)

abbrev ConjClean : Conj → Type 0
ConjClean x = Clean (fold_conj expr_text x) (fold_conj expr_tokens x)

abbrev ExprClean : Expr → Type 0
ExprClean x = Clean (fold_expr expr_text x) (fold_expr expr_tokens x)

abbrev PostClean : Post → Type 0
PostClean x = Clean (fold_post expr_text x) (fold_post expr_tokens x)

abbrev SumClean : Sum → Type 0
SumClean x = Clean (fold_sum expr_text x) (fold_sum expr_tokens x)

abbrev TermClean : Term → Type 0
TermClean x = Clean (fold_term expr_text x) (fold_term expr_tokens x)

abbrev UnaryClean : Unary → Type 0
UnaryClean x = Clean (fold_unary expr_text x) (fold_unary expr_tokens x)

abbrev AddedClean : Added → Type 0
AddedClean x = Clean (canonical.sum_text (fold_added expr_text x).0 ++ (fold_added expr_text x).1) (t.Symbol (spelling.sum_symbol (fold_added expr_tokens x).0) ∷ (fold_added expr_tokens x).1)

abbrev FactorClean : Factor → Type 0
FactorClean x = Clean (canonical.term_text (fold_factor expr_text x).0 ++ (fold_factor expr_text x).1) (t.Symbol (spelling.term_symbol (fold_factor expr_tokens x).0) ∷ (fold_factor expr_tokens x).1)

abbrev ComparedClean : Compared → Type 0
ComparedClean x = Clean (canonical.compare_text (fold_compared expr_text x).0 ++ (fold_compared expr_text x).1) (t.Symbol (spelling.compare_symbol (fold_compared expr_tokens x).0) ∷ (fold_compared expr_tokens x).1)

-- a part of an expression, whose text has text bytes alone
abbrev With : (A : Type 0) → (A → Type 0) → Type 0
With A P = (x : A) × P x

abbrev AtomLayer : Type 0
AtomLayer = Atom-F (With Atom AtomClean) (With Added AddedClean) (With CallExpr CallExprClean) (With Comp CompClean) (With Compared ComparedClean) (With Conj ConjClean) (With Expr ExprClean) (With Factor FactorClean) (With Post PostClean) (With Sum SumClean) (With Term TermClean) (With Unary UnaryClean)

abbrev CompLayer : Type 0
CompLayer = Comp-F (With Atom AtomClean) (With Added AddedClean) (With CallExpr CallExprClean) (With Comp CompClean) (With Compared ComparedClean) (With Conj ConjClean) (With Expr ExprClean) (With Factor FactorClean) (With Post PostClean) (With Sum SumClean) (With Term TermClean) (With Unary UnaryClean)

abbrev first_of_atom : AtomLayer → Atom-F Atom Added CallExpr Comp Compared Conj Expr Factor Post Sum Term Unary
first_of_atom = map-Atom (With Atom AtomClean) (With Added AddedClean) (With CallExpr CallExprClean) (With Comp CompClean) (With Compared ComparedClean) (With Conj ConjClean) (With Expr ExprClean) (With Factor FactorClean) (With Post PostClean) (With Sum SumClean) (With Term TermClean) (With Unary UnaryClean) Atom Added CallExpr Comp Compared Conj Expr Factor Post Sum Term Unary (λ e. e.0) (λ e. e.0) (λ e. e.0) (λ e. e.0) (λ e. e.0) (λ e. e.0) (λ e. e.0) (λ e. e.0) (λ e. e.0) (λ e. e.0) (λ e. e.0) (λ e. e.0)

abbrev first_of_comp : CompLayer → Comp-F Atom Added CallExpr Comp Compared Conj Expr Factor Post Sum Term Unary
first_of_comp = map-Comp (With Atom AtomClean) (With Added AddedClean) (With CallExpr CallExprClean) (With Comp CompClean) (With Compared ComparedClean) (With Conj ConjClean) (With Expr ExprClean) (With Factor FactorClean) (With Post PostClean) (With Sum SumClean) (With Term TermClean) (With Unary UnaryClean) Atom Added CallExpr Comp Compared Conj Expr Factor Post Sum Term Unary (λ e. e.0) (λ e. e.0) (λ e. e.0) (λ e. e.0) (λ e. e.0) (λ e. e.0) (λ e. e.0) (λ e. e.0) (λ e. e.0) (λ e. e.0) (λ e. e.0) (λ e. e.0)

exprs_clean : (xs : List (With Expr ExprClean)) → Clean (canonical.listed (map (fold_expr expr_text) (map (λ y. y.0) xs))) (spelling.listed (map (fold_expr expr_tokens) (map (λ y. y.0) xs)))
exprs_clean xs = listed_clean ExprClean (fold_expr expr_text) (fold_expr expr_tokens) (λ e r. r) xs

names_part : (xs : List (With Expr ExprClean)) → Clean (canonical.names_part (map (fold_expr expr_text) (map (λ y. y.0) xs))) (spelling.names_part (map (fold_expr expr_tokens) (map (λ y. y.0) xs)))
names_part [] = clean_none
names_part (x ∷ xs) = clean_both (clean_word (codes " to ") (t.Keyword w.To) refl) (in_parens (exprs_clean (x ∷ xs)))

-- atoms by their parts
atom_of : (y : AtomLayer) → Clean (canonical.atom_text (in_atom expr_text (first_of_atom y))) (spelling.atom_tokens (in_atom expr_tokens (first_of_atom y)))
atom_of (Atom-F.Number n) = clean_number n
atom_of (Atom-F.Text x) = clean_text x
atom_of Atom-F.Nothing = clean_word (codes "nothing") (t.Keyword w.Nothing) refl
atom_of (Atom-F.Variable x) = clean_name x
atom_of (Atom-F.BuiltIn x es) = clean_both (clean_name x) (in_parens (exprs_clean es))
atom_of (Atom-F.Call c) = c.1
atom_of (Atom-F.Paren e) = in_parens e.1
atom_of (Atom-F.List es) = in_list (exprs_clean es)

atom_step : (y : AtomLayer) → AtomClean (roll-Atom (first_of_atom y))
atom_step y = clean_moved _ _ _ _ (atom-rolled expr_text _) (atom-rolled expr_tokens _) (atom_of y)

call_step : (app : Text) (arguments names : List (With Expr ExprClean)) → CallExprClean (roll-CallExpr (record { app = app; arguments = map (λ e. e.0) arguments; names = map (λ e. e.0) names }))
call_step app arguments names = clean_moved _ _ _ _ (call-rolled expr_text _) (call-rolled expr_tokens _)
    (clean_both (clean_word (codes "call ") (t.Keyword w.Call) refl) (clean_both (clean_name app) (clean_both (in_parens (exprs_clean arguments)) (names_part names))))

comp_step : (left : With Sum SumClean) (test : Option (With Compared ComparedClean)) → CompClean (roll-Comp (first_of_comp (record { left = left; test = test })))
comp_step left None = clean_moved _ _ _ _ (comp-rolled expr_text _) (comp-rolled expr_tokens _) (clean_both left.1 clean_none)
comp_step left (Some y) = clean_moved _ _ _ _ (comp-rolled expr_text _) (comp-rolled expr_tokens _) (clean_both left.1 y.1)

conj_step : (first : With Comp CompClean) (others : List (With Comp CompClean)) → ConjClean (roll-Conj (record { first = first.0; others = map (λ e. e.0) others }))
conj_step first others = clean_moved _ _ _ _ (conj-rolled expr_text _) (conj-rolled expr_tokens _)
    (clean_both first.1 (clean_flat CompClean (fold_comp expr_text) (fold_comp expr_tokens) (λ f. codes " and " ++ f) (λ f. t.Keyword w.And ∷ f) (λ e r. clean_both (clean_word (codes " and ") (t.Keyword w.And) refl) r) others))

expr_step : (first : With Conj ConjClean) (others : List (With Conj ConjClean)) → ExprClean (roll-Expr (record { first = first.0; others = map (λ e. e.0) others }))
expr_step first others = clean_moved _ _ _ _ (expr-rolled expr_text _) (expr-rolled expr_tokens _)
    (clean_both first.1 (clean_flat ConjClean (fold_conj expr_text) (fold_conj expr_tokens) (λ f. codes " or " ++ f) (λ f. t.Keyword w.Or ∷ f) (λ e r. clean_both (clean_word (codes " or ") (t.Keyword w.Or) refl) r) others))

post_step : (atom : With Atom AtomClean) (indices : List (With Expr ExprClean)) → PostClean (roll-Post (record { atom = atom.0; indices = map (λ e. e.0) indices }))
post_step atom indices = clean_moved _ _ _ _ (post-rolled expr_text _) (post-rolled expr_tokens _)
    (clean_both atom.1 (clean_flat ExprClean (fold_expr expr_text) (fold_expr expr_tokens) (λ f. codes "[" ++ (f ++ codes "]")) (λ f. t.Symbol s.OpenList ∷ f ++ spelling.symbol s.CloseList) (λ e r. in_list r) indices))

sum_step : (first : With Term TermClean) (others : List (With Added AddedClean)) → SumClean (roll-Sum (record { first = first.0; others = map (λ e. e.0) others }))
sum_step first others = clean_moved _ _ _ _ (sum-rolled expr_text _) (sum-rolled expr_tokens _)
    (clean_both first.1 (clean_flat AddedClean (fold_added expr_text) (fold_added expr_tokens) (λ f. canonical.sum_text f.0 ++ f.1) (λ f. t.Symbol (spelling.sum_symbol f.0) ∷ f.1) (λ e r. r) others))

term_step : (first : With Unary UnaryClean) (others : List (With Factor FactorClean)) → TermClean (roll-Term (record { first = first.0; others = map (λ e. e.0) others }))
term_step first others = clean_moved _ _ _ _ (term-rolled expr_text _) (term-rolled expr_tokens _)
    (clean_both first.1 (clean_flat FactorClean (fold_factor expr_text) (fold_factor expr_tokens) (λ f. canonical.term_text f.0 ++ f.1) (λ f. t.Symbol (spelling.term_symbol f.0) ∷ f.1) (λ e r. r) others))

unary_step : (op : Option UnaryOp) (post : With Post PostClean) → UnaryClean (roll-Unary (record { op = op; post = post.0 }))
unary_step op post = clean_moved _ _ _ _ (unary-rolled expr_text _) (unary-rolled expr_tokens _) (clean_both (sign_clean op) post.1)

added_step : (op : SumOp) (term : With Term TermClean) → AddedClean (roll-Added (record { op = op; term = term.0 }))
added_step op term = clean_moved _ _ _ _ (ap (λ (z : SumOp × Text). canonical.sum_text z.0 ++ z.1) (added-rolled expr_text _)) (ap (λ (z : SumOp × Tokens). t.Symbol (spelling.sum_symbol z.0) ∷ z.1) (added-rolled expr_tokens _))
    (clean_both (sum_clean op) term.1)

factor_step : (op : TermOp) (unary : With Unary UnaryClean) → FactorClean (roll-Factor (record { op = op; unary = unary.0 }))
factor_step op unary = clean_moved _ _ _ _ (ap (λ (z : TermOp × Text). canonical.term_text z.0 ++ z.1) (factor-rolled expr_text _)) (ap (λ (z : TermOp × Tokens). t.Symbol (spelling.term_symbol z.0) ∷ z.1) (factor-rolled expr_tokens _))
    (clean_both (term_clean op) unary.1)

compared_step : (op : CompareOp) (right : With Sum SumClean) → ComparedClean (roll-Compared (record { op = op; right = right.0 }))
compared_step op right = clean_moved _ _ _ _ (ap (λ (z : CompareOp × Text). canonical.compare_text z.0 ++ z.1) (compared-rolled expr_text _)) (ap (λ (z : CompareOp × Tokens). t.Symbol (spelling.compare_symbol z.0) ∷ z.1) (compared-rolled expr_tokens _))
    (clean_both (compare_clean op) right.1)

-- ---- every tree

pub expr_clean : (x : Expr) → ExprClean x
expr_clean x = ind-Expr AtomClean AddedClean CallExprClean CompClean ComparedClean ConjClean ExprClean FactorClean PostClean SumClean TermClean UnaryClean
    (λ x y is. subst (λ z. AtomClean (roll-Atom z)) is (atom_step y))
    (λ x y is. subst (λ z. AddedClean (roll-Added z)) is (added_step y.op y.term))
    (λ x y is. subst (λ z. CallExprClean (roll-CallExpr z)) is (call_step y.app y.arguments y.names))
    (λ x y is. subst (λ z. CompClean (roll-Comp z)) is (comp_step y.left y.test))
    (λ x y is. subst (λ z. ComparedClean (roll-Compared z)) is (compared_step y.op y.right))
    (λ x y is. subst (λ z. ConjClean (roll-Conj z)) is (conj_step y.first y.others))
    (λ x y is. subst (λ z. ExprClean (roll-Expr z)) is (expr_step y.first y.others))
    (λ x y is. subst (λ z. FactorClean (roll-Factor z)) is (factor_step y.op y.unary))
    (λ x y is. subst (λ z. PostClean (roll-Post z)) is (post_step y.atom y.indices))
    (λ x y is. subst (λ z. SumClean (roll-Sum z)) is (sum_step y.first y.others))
    (λ x y is. subst (λ z. TermClean (roll-Term z)) is (term_step y.first y.others))
    (λ x y is. subst (λ z. UnaryClean (roll-Unary z)) is (unary_step y.op y.post)) x

pub call_clean : (x : CallExpr) → CallExprClean x
call_clean x = ind-CallExpr AtomClean AddedClean CallExprClean CompClean ComparedClean ConjClean ExprClean FactorClean PostClean SumClean TermClean UnaryClean
    (λ x y is. subst (λ z. AtomClean (roll-Atom z)) is (atom_step y))
    (λ x y is. subst (λ z. AddedClean (roll-Added z)) is (added_step y.op y.term))
    (λ x y is. subst (λ z. CallExprClean (roll-CallExpr z)) is (call_step y.app y.arguments y.names))
    (λ x y is. subst (λ z. CompClean (roll-Comp z)) is (comp_step y.left y.test))
    (λ x y is. subst (λ z. ComparedClean (roll-Compared z)) is (compared_step y.op y.right))
    (λ x y is. subst (λ z. ConjClean (roll-Conj z)) is (conj_step y.first y.others))
    (λ x y is. subst (λ z. ExprClean (roll-Expr z)) is (expr_step y.first y.others))
    (λ x y is. subst (λ z. FactorClean (roll-Factor z)) is (factor_step y.op y.unary))
    (λ x y is. subst (λ z. PostClean (roll-Post z)) is (post_step y.atom y.indices))
    (λ x y is. subst (λ z. SumClean (roll-Sum z)) is (sum_step y.first y.others))
    (λ x y is. subst (λ z. TermClean (roll-Term z)) is (term_step y.first y.others))
    (λ x y is. subst (λ z. UnaryClean (roll-Unary z)) is (unary_step y.op y.post)) x
