-- What an expression throws is of the body's own.
use Rattle.std.proofs.Common.{◌≡◌, Bool, true, false, if◌then◌else◌, List, [], ◌∷◌, ◌++◌, map, Option, Some, None, sym, ap, subst}
use Rattle.std.specs.Prelude.{bytes_eq}
use Rattle.flow_base.specs.declared.value.Value.{Value}
use Rattle.flow_base.specs.declared.value.Value.TheVariants as v
use Rattle.script_tree.specs.declared.tree.CompareOp.{CompareOp}
use Rattle.script_tree.specs.declared.tree.SumOp.{SumOp}
use Rattle.script_tree.specs.declared.tree.TermOp.{TermOp}
use Rattle.script_tree.specs.declared.tree.UnaryOp.{UnaryOp}
use Rattle.script_tree.specs.declared.tree.UnaryOp.TheVariants as sign
use Rattle.script_tree.specs.BuiltIns.{built_in_named}
use Rattle.script_tree.specs.declared.tree.Atom.TheOpen.{Atom-F}
use Rattle.script_tree.specs.declared.tree.Atom.TheFolds.{map-Atom, map-Comp}
use Rattle.script_tree.specs.declared.tree.Atom.{Atom, roll-Atom}
use Rattle.script_tree.specs.declared.tree.Added.{Added, roll-Added}
use Rattle.script_tree.specs.declared.tree.CallExpr.{CallExpr, roll-CallExpr, ind-CallExpr}
use Rattle.script_tree.specs.declared.tree.Comp.{Comp, roll-Comp}
use Rattle.script_tree.specs.declared.tree.Compared.{Compared, roll-Compared}
use Rattle.script_tree.specs.declared.tree.Conj.{Conj, roll-Conj}
use Rattle.script_tree.specs.declared.tree.Expr.{Expr, roll-Expr, ind-Expr}
use Rattle.script_tree.specs.declared.tree.Factor.{Factor, roll-Factor}
use Rattle.script_tree.specs.declared.tree.Post.{Post, roll-Post}
use Rattle.script_tree.specs.declared.tree.Sum.{Sum, roll-Sum}
use Rattle.script_tree.specs.declared.tree.Term.{Term, roll-Term}
use Rattle.script_tree.specs.declared.tree.Unary.{Unary, roll-Unary}
use Rattle.script_tree.specs.Folds.{fold_atom, fold_added, fold_call, fold_comp, fold_compared, fold_conj, fold_expr, fold_factor, fold_post, fold_sum, fold_term, fold_unary}
use Rattle.script_tree.proofs.Rolls.{in_atom, atom-rolled, added-rolled, call-rolled, comp-rolled, compared-rolled, conj-rolled, expr-rolled, factor-rolled, post-rolled, sum-rolled, term-rolled, unary-rolled}
use Rattle.flow_meaning.specs.Act.{Act, Give, ◌>>=◌, all_from}
use Rattle.flow_meaning.specs.Operators.{Text, truth_of, added, multiplied, indexed, texts_of}
use Rattle.flow_meaning.specs.Meaning.{Vars, Calc, got, values, until, chain, sums, products, items_at, tested, signed, called, atom_step, meaning}
use Rattle.body_requests.specs.Asks.{Each}
use Rattle.body_requests.proofs.OwnExceptions.{Own, own_then}
use Rattle.body_requests.proofs.OwnOperators.{own_limited, own_truth_of, own_added, own_multiplied, own_negated, own_compared, own_indexed, own_texts_of, own_called_value, own_applied}

abbrev pub IsOwnCalc : Calc → Type 0
IsOwnCalc calc = (vars : Vars) → Own (calc vars)

own_chosen : (t : Bool) (value : Value) (other : Act Value) → Own other → Own (if t then Give value else other)
own_chosen true value other h = tt
own_chosen false value other h = h

own_got : (vars : Vars) (name : Text) → Own (got vars name)
own_got [] name = tt
own_got (e ∷ es) name = own_chosen (bytes_eq e.0 name) e.1 (got es name) (own_got es name)

own_all : (es : List Calc) (vars : Vars) (given : List Value) → Each IsOwnCalc es → Own (all_from given (map (λ e. e vars) es))
own_all [] vars given h = tt
own_all (e ∷ es) vars given h = own_then (e vars) _ (h.0 vars) (λ y. own_all es vars (given ++ y ∷ []) h.1)

own_values : (es : List Calc) (vars : Vars) → Each IsOwnCalc es → Own (values vars es)
own_values es vars h = own_all es vars [] h

pub own_condition : (calc : Calc) → IsOwnCalc calc → (vars : Vars) → Own (calc vars >>= truth_of)
own_condition calc h vars = own_then (calc vars) _ (h vars) (λ y. own_truth_of y)

own_until : (stop holds : Bool) (es : List Calc) → Each IsOwnCalc es → (vars : Vars) → Own (until stop vars holds es)
own_until true true [] h vars = tt
own_until true false [] h vars = tt
own_until false true [] h vars = tt
own_until false false [] h vars = tt
own_until true true (e ∷ es) h vars = tt
own_until false false (e ∷ es) h vars = tt
own_until true false (e ∷ es) h vars = own_then (e vars >>= truth_of) _ (own_condition e h.0 vars) (λ holds. own_until true holds es h.1 vars)
own_until false true (e ∷ es) h vars = own_then (e vars >>= truth_of) _ (own_condition e h.0 vars) (λ holds. own_until false holds es h.1 vars)

own_chain : (stop : Bool) (first : Calc) (es : List Calc) → IsOwnCalc first → Each IsOwnCalc es → IsOwnCalc (chain stop first es)
own_chain stop first [] h hs vars = h vars
own_chain stop first (e ∷ es) h hs vars = own_then (first vars >>= truth_of) _ (own_condition first h vars) (λ holds. own_then (until stop vars holds (e ∷ es)) _ (own_until stop holds (e ∷ es) hs vars) (λ all. tt))

own_sums : (vars : Vars) (left : Value) (es : List (SumOp × Calc)) → Each (λ e. IsOwnCalc e.1) es → Own (sums vars left es)
own_sums vars left [] h = tt
own_sums vars left (e ∷ es) h = own_then (e.1 vars) _ (h.0 vars) (λ right. own_then (added e.0 left right) _ (own_added e.0 left right) (λ sum. own_sums vars sum es h.1))

own_products : (vars : Vars) (left : Value) (es : List (TermOp × Calc)) → Each (λ e. IsOwnCalc e.1) es → Own (products vars left es)
own_products vars left [] h = tt
own_products vars left (e ∷ es) h = own_then (e.1 vars) _ (h.0 vars) (λ right. own_then (multiplied e.0 left right) _ (own_multiplied e.0 left right) (λ product. own_products vars product es h.1))

own_items : (vars : Vars) (from : Value) (es : List Calc) → Each IsOwnCalc es → Own (items_at vars from es)
own_items vars from [] h = tt
own_items vars from (e ∷ es) h = own_then (e vars) _ (h.0 vars) (λ i. own_then (indexed from i) _ (own_indexed from i) (λ item. own_items vars item es h.1))

own_tested : (left : Calc) (op : CompareOp) (right : Calc) → IsOwnCalc left → IsOwnCalc right → IsOwnCalc (tested left (Some (op, right)))
own_tested left op right h j vars = own_then (left vars) _ (h vars) (λ a. own_then (right vars) _ (j vars) (λ c. own_compared op a c))

own_signed : (op : Option UnaryOp) (a : Value) → Own (signed op a)
own_signed None a = tt
own_signed (Some sign.Minus) a = own_negated a
own_signed (Some sign.Not) a = own_then (truth_of a) _ (own_truth_of a) (λ holds. tt)

module _ (apps : List Text) where
  own_called : (app : Text) (arguments names : List Calc) → Each IsOwnCalc arguments → Each IsOwnCalc names → IsOwnCalc (called apps app arguments names)
  own_called app arguments names h j vars = own_then (values vars arguments) _ (own_values arguments vars h) (λ vs. own_then (values vars names) _ (own_values names vars j) (λ ns. own_then (texts_of ns) _ (own_texts_of ns) (λ ts. own_called_value)))

  abbrev AtomOwn : Atom → Type 0
  AtomOwn y = IsOwnCalc (fold_atom (meaning apps) y)

  abbrev AddedOwn : Added → Type 0
  AddedOwn y = IsOwnCalc (fold_added (meaning apps) y).1

  abbrev CallOwn : CallExpr → Type 0
  CallOwn y = IsOwnCalc (fold_call (meaning apps) y)

  abbrev CompOwn : Comp → Type 0
  CompOwn y = IsOwnCalc (fold_comp (meaning apps) y)

  abbrev ComparedOwn : Compared → Type 0
  ComparedOwn y = IsOwnCalc (fold_compared (meaning apps) y).1

  abbrev ConjOwn : Conj → Type 0
  ConjOwn y = IsOwnCalc (fold_conj (meaning apps) y)

  abbrev ExprOwn : Expr → Type 0
  ExprOwn y = IsOwnCalc (fold_expr (meaning apps) y)

  abbrev FactorOwn : Factor → Type 0
  FactorOwn y = IsOwnCalc (fold_factor (meaning apps) y).1

  abbrev PostOwn : Post → Type 0
  PostOwn y = IsOwnCalc (fold_post (meaning apps) y)

  abbrev SumOwn : Sum → Type 0
  SumOwn y = IsOwnCalc (fold_sum (meaning apps) y)

  abbrev TermOwn : Term → Type 0
  TermOwn y = IsOwnCalc (fold_term (meaning apps) y)

  abbrev UnaryOwn : Unary → Type 0
  UnaryOwn y = IsOwnCalc (fold_unary (meaning apps) y)

  abbrev OpenAtom : Type 0
  OpenAtom = Atom-F ((y : Atom) × AtomOwn y) ((y : Added) × AddedOwn y) ((y : CallExpr) × CallOwn y) ((y : Comp) × CompOwn y) ((y : Compared) × ComparedOwn y) ((y : Conj) × ConjOwn y) ((y : Expr) × ExprOwn y) ((y : Factor) × FactorOwn y) ((y : Post) × PostOwn y) ((y : Sum) × SumOwn y) ((y : Term) × TermOwn y) ((y : Unary) × UnaryOwn y)

  abbrev first_of_atom : OpenAtom → Atom-F Atom Added CallExpr Comp Compared Conj Expr Factor Post Sum Term Unary
  first_of_atom = map-Atom ((y : Atom) × AtomOwn y) ((y : Added) × AddedOwn y) ((y : CallExpr) × CallOwn y) ((y : Comp) × CompOwn y) ((y : Compared) × ComparedOwn y) ((y : Conj) × ConjOwn y) ((y : Expr) × ExprOwn y) ((y : Factor) × FactorOwn y) ((y : Post) × PostOwn y) ((y : Sum) × SumOwn y) ((y : Term) × TermOwn y) ((y : Unary) × UnaryOwn y) Atom Added CallExpr Comp Compared Conj Expr Factor Post Sum Term Unary (λ e. e.0) (λ e. e.0) (λ e. e.0) (λ e. e.0) (λ e. e.0) (λ e. e.0) (λ e. e.0) (λ e. e.0) (λ e. e.0) (λ e. e.0) (λ e. e.0) (λ e. e.0)

  -- by what folds make of a node
  moved : (k l : Calc) → k ≡ l → IsOwnCalc l → IsOwnCalc k
  moved k l e h = subst IsOwnCalc (sym e) h

  each_own : {X Y : Type 0} (P : X → Type 0) (calc : X → Y) (H : Y → Type 0) → ((y : X) → P y → H (calc y)) → (ys : List ((y : X) × P y)) → Each H (map calc (map (λ e. e.0) ys))
  each_own P calc H f [] = tt
  each_own P calc H f (y ∷ ys) = (f y.0 y.1, each_own P calc H f ys)

  exprs_own : (ys : List ((y : Expr) × ExprOwn y)) → Each IsOwnCalc (map (fold_expr (meaning apps)) (map (λ e. e.0) ys))
  exprs_own ys = each_own ExprOwn (fold_expr (meaning apps)) IsOwnCalc (λ y h. h) ys

  atom_of : (y : OpenAtom) → IsOwnCalc (atom_step apps (in_atom (meaning apps) (first_of_atom y)))
  atom_of (Atom-F.Number n) vars = tt
  atom_of (Atom-F.Text t) vars = own_limited (v.Text t)
  atom_of Atom-F.Nothing vars = tt
  atom_of (Atom-F.Variable name) vars = own_got vars name
  atom_of (Atom-F.BuiltIn name es) vars = own_then (values vars (map (fold_expr (meaning apps)) (map (λ e. e.0) es))) _ (own_values (map (fold_expr (meaning apps)) (map (λ e. e.0) es)) vars (exprs_own es)) (λ vs. own_applied (built_in_named name) vs)
  atom_of (Atom-F.Call c) vars = c.1 vars
  atom_of (Atom-F.Paren e) vars = e.1 vars
  atom_of (Atom-F.List es) vars = own_then (values vars (map (fold_expr (meaning apps)) (map (λ e. e.0) es))) _ (own_values (map (fold_expr (meaning apps)) (map (λ e. e.0) es)) vars (exprs_own es)) (λ vs. own_limited (v.List vs))

  atom_own : (y : OpenAtom) → AtomOwn (roll-Atom (first_of_atom y))
  atom_own y = moved _ _ (atom-rolled (meaning apps) _) (atom_of y)

  call_own : (app : Text) (arguments names : List ((y : Expr) × ExprOwn y)) → CallOwn (roll-CallExpr (record { app = app; arguments = map (λ e. e.0) arguments; names = map (λ e. e.0) names }))
  call_own app arguments names = moved _ _ (call-rolled (meaning apps) _) (own_called app (map (fold_expr (meaning apps)) (map (λ e. e.0) arguments)) (map (fold_expr (meaning apps)) (map (λ e. e.0) names)) (exprs_own arguments) (exprs_own names))

  comp_of : (left : (y : Sum) × SumOwn y) (test : Option ((y : Compared) × ComparedOwn y)) → CompOwn (roll-Comp (map-Comp ((y : Atom) × AtomOwn y) ((y : Added) × AddedOwn y) ((y : CallExpr) × CallOwn y) ((y : Comp) × CompOwn y) ((y : Compared) × ComparedOwn y) ((y : Conj) × ConjOwn y) ((y : Expr) × ExprOwn y) ((y : Factor) × FactorOwn y) ((y : Post) × PostOwn y) ((y : Sum) × SumOwn y) ((y : Term) × TermOwn y) ((y : Unary) × UnaryOwn y) Atom Added CallExpr Comp Compared Conj Expr Factor Post Sum Term Unary (λ e. e.0) (λ e. e.0) (λ e. e.0) (λ e. e.0) (λ e. e.0) (λ e. e.0) (λ e. e.0) (λ e. e.0) (λ e. e.0) (λ e. e.0) (λ e. e.0) (λ e. e.0) (record { left = left; test = test })))
  comp_of left None = moved _ _ (comp-rolled (meaning apps) _) left.1
  comp_of left (Some y) = moved _ _ (comp-rolled (meaning apps) _) (own_tested (fold_sum (meaning apps) left.0) (fold_compared (meaning apps) y.0).0 (fold_compared (meaning apps) y.0).1 left.1 y.1)

  conj_own : (first : (y : Comp) × CompOwn y) (others : List ((y : Comp) × CompOwn y)) → ConjOwn (roll-Conj (record { first = first.0; others = map (λ e. e.0) others }))
  conj_own first others = moved _ _ (conj-rolled (meaning apps) _) (own_chain false (fold_comp (meaning apps) first.0) (map (fold_comp (meaning apps)) (map (λ e. e.0) others)) first.1 (each_own CompOwn (fold_comp (meaning apps)) IsOwnCalc (λ y h. h) others))

  expr_own : (first : (y : Conj) × ConjOwn y) (others : List ((y : Conj) × ConjOwn y)) → ExprOwn (roll-Expr (record { first = first.0; others = map (λ e. e.0) others }))
  expr_own first others = moved _ _ (expr-rolled (meaning apps) _) (own_chain true (fold_conj (meaning apps) first.0) (map (fold_conj (meaning apps)) (map (λ e. e.0) others)) first.1 (each_own ConjOwn (fold_conj (meaning apps)) IsOwnCalc (λ y h. h) others))

  post_own : (atom : (y : Atom) × AtomOwn y) (indices : List ((y : Expr) × ExprOwn y)) → PostOwn (roll-Post (record { atom = atom.0; indices = map (λ e. e.0) indices }))
  post_own atom indices = moved _ _ (post-rolled (meaning apps) _) (λ vars. own_then (fold_atom (meaning apps) atom.0 vars) _ (atom.1 vars) (λ from. own_items vars from (map (fold_expr (meaning apps)) (map (λ e. e.0) indices)) (exprs_own indices)))

  sum_own : (first : (y : Term) × TermOwn y) (others : List ((y : Added) × AddedOwn y)) → SumOwn (roll-Sum (record { first = first.0; others = map (λ e. e.0) others }))
  sum_own first others = moved _ _ (sum-rolled (meaning apps) _) (λ vars. own_then (fold_term (meaning apps) first.0 vars) _ (first.1 vars) (λ left. own_sums vars left (map (fold_added (meaning apps)) (map (λ e. e.0) others)) (each_own AddedOwn (fold_added (meaning apps)) (λ (e : SumOp × Calc). IsOwnCalc e.1) (λ y h. h) others)))

  term_own : (first : (y : Unary) × UnaryOwn y) (others : List ((y : Factor) × FactorOwn y)) → TermOwn (roll-Term (record { first = first.0; others = map (λ e. e.0) others }))
  term_own first others = moved _ _ (term-rolled (meaning apps) _) (λ vars. own_then (fold_unary (meaning apps) first.0 vars) _ (first.1 vars) (λ left. own_products vars left (map (fold_factor (meaning apps)) (map (λ e. e.0) others)) (each_own FactorOwn (fold_factor (meaning apps)) (λ (e : TermOp × Calc). IsOwnCalc e.1) (λ y h. h) others)))

  unary_own : (op : Option UnaryOp) (post : (y : Post) × PostOwn y) → UnaryOwn (roll-Unary (record { op = op; post = post.0 }))
  unary_own op post = moved _ _ (unary-rolled (meaning apps) _) (λ vars. own_then (fold_post (meaning apps) post.0 vars) _ (post.1 vars) (λ a. own_signed op a))

  added_own : (op : SumOp) (term : (y : Term) × TermOwn y) → AddedOwn (roll-Added (record { op = op; term = term.0 }))
  added_own op term = moved _ _ (ap (λ (z : SumOp × Calc). z.1) (added-rolled (meaning apps) _)) term.1

  factor_own : (op : TermOp) (unary : (y : Unary) × UnaryOwn y) → FactorOwn (roll-Factor (record { op = op; unary = unary.0 }))
  factor_own op unary = moved _ _ (ap (λ (z : TermOp × Calc). z.1) (factor-rolled (meaning apps) _)) unary.1

  compared_own : (op : CompareOp) (right : (y : Sum) × SumOwn y) → ComparedOwn (roll-Compared (record { op = op; right = right.0 }))
  compared_own op right = moved _ _ (ap (λ (z : CompareOp × Calc). z.1) (compared-rolled (meaning apps) _)) right.1

  pub expression_own : (e : Expr) → ExprOwn e
  expression_own e = ind-Expr AtomOwn AddedOwn CallOwn CompOwn ComparedOwn ConjOwn ExprOwn FactorOwn PostOwn SumOwn TermOwn UnaryOwn
      (λ a y is. subst (λ z. AtomOwn (roll-Atom z)) is (atom_own y))
      (λ a y is. subst (λ z. AddedOwn (roll-Added z)) is (added_own y.op y.term))
      (λ a y is. subst (λ z. CallOwn (roll-CallExpr z)) is (call_own y.app y.arguments y.names))
      (λ a y is. subst (λ z. CompOwn (roll-Comp z)) is (comp_of y.left y.test))
      (λ a y is. subst (λ z. ComparedOwn (roll-Compared z)) is (compared_own y.op y.right))
      (λ a y is. subst (λ z. ConjOwn (roll-Conj z)) is (conj_own y.first y.others))
      (λ a y is. subst (λ z. ExprOwn (roll-Expr z)) is (expr_own y.first y.others))
      (λ a y is. subst (λ z. FactorOwn (roll-Factor z)) is (factor_own y.op y.unary))
      (λ a y is. subst (λ z. PostOwn (roll-Post z)) is (post_own y.atom y.indices))
      (λ a y is. subst (λ z. SumOwn (roll-Sum z)) is (sum_own y.first y.others))
      (λ a y is. subst (λ z. TermOwn (roll-Term z)) is (term_own y.first y.others))
      (λ a y is. subst (λ z. UnaryOwn (roll-Unary z)) is (unary_own y.op y.post)) e

  pub call_expression_own : (c : CallExpr) → CallOwn c
  call_expression_own c = ind-CallExpr AtomOwn AddedOwn CallOwn CompOwn ComparedOwn ConjOwn ExprOwn FactorOwn PostOwn SumOwn TermOwn UnaryOwn
      (λ a y is. subst (λ z. AtomOwn (roll-Atom z)) is (atom_own y))
      (λ a y is. subst (λ z. AddedOwn (roll-Added z)) is (added_own y.op y.term))
      (λ a y is. subst (λ z. CallOwn (roll-CallExpr z)) is (call_own y.app y.arguments y.names))
      (λ a y is. subst (λ z. CompOwn (roll-Comp z)) is (comp_of y.left y.test))
      (λ a y is. subst (λ z. ComparedOwn (roll-Compared z)) is (compared_own y.op y.right))
      (λ a y is. subst (λ z. ConjOwn (roll-Conj z)) is (conj_own y.first y.others))
      (λ a y is. subst (λ z. ExprOwn (roll-Expr z)) is (expr_own y.first y.others))
      (λ a y is. subst (λ z. FactorOwn (roll-Factor z)) is (factor_own y.op y.unary))
      (λ a y is. subst (λ z. PostOwn (roll-Post z)) is (post_own y.atom y.indices))
      (λ a y is. subst (λ z. SumOwn (roll-Sum z)) is (sum_own y.first y.others))
      (λ a y is. subst (λ z. TermOwn (roll-Term z)) is (term_own y.first y.others))
      (λ a y is. subst (λ z. UnaryOwn (roll-Unary z)) is (unary_own y.op y.post)) c
