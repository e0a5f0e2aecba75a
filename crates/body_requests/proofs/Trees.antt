-- What every expression asks and gives.
use Rattle.std.proofs.Common.{◌≡◌, true, false, List, [], ◌∷◌, length, map, flat_map, Option, Some, None, refl, sym, ap, subst}
use Rattle.flow_base.specs.declared.value.Value.{Value}
use Rattle.flow_base.specs.declared.value.Value.TheVariants as v
use Rattle.script_tree.specs.declared.tree.SumOp.{SumOp}
use Rattle.script_tree.specs.declared.tree.TermOp.{TermOp}
use Rattle.script_tree.specs.declared.tree.CompareOp.{CompareOp}
use Rattle.script_tree.specs.declared.tree.UnaryOp.{UnaryOp}
use Rattle.script_tree.specs.declared.tree.Atom.TheOpen.{Atom-F}
use Rattle.script_tree.specs.declared.tree.Atom.TheFolds.{map-Atom}
use Rattle.script_tree.specs.declared.tree.Atom.{Atom, roll-Atom}
use Rattle.script_tree.specs.declared.tree.Added.{Added, roll-Added}
use Rattle.script_tree.specs.declared.tree.CallExpr.{CallExpr, roll-CallExpr, ind-CallExpr}
use Rattle.script_tree.specs.declared.tree.Comp.{Comp, roll-Comp}
use Rattle.script_tree.specs.declared.tree.Compared.{Compared, roll-Compared}
use Rattle.script_tree.specs.declared.tree.Conj.{Conj, roll-Conj}
use Rattle.script_tree.specs.declared.tree.Expr.{Expr, roll-Expr, ind-Expr}
use Rattle.script_tree.specs.declared.tree.Factor.{Factor, roll-Factor}
use Rattle.script_tree.specs.declared.tree.Post.{Post, roll-Post}
use Rattle.script_tree.specs.declared.tree.Sum.{Sum, roll-Sum}
use Rattle.script_tree.specs.declared.tree.Term.{Term, roll-Term}
use Rattle.script_tree.specs.declared.tree.Unary.{Unary, roll-Unary}
use Rattle.script_tree.specs.Folds.{fold_atom, fold_added, fold_call, fold_comp, fold_compared, fold_conj, fold_expr, fold_factor, fold_post, fold_sum, fold_term, fold_unary}
use Rattle.script_tree.specs.Marks.{Mark, Marks, NamesApp, Other, expr_marks, listed, in_parens, names_part, sign_part, atom_marks}
use Rattle.flow_meaning.specs.declared.walk.Request.{Request}
use Rattle.flow_meaning.specs.declared.walk.Answer.{Answer}
use Rattle.flow_meaning.specs.Inputs.{Path}
use Rattle.flow_meaning.specs.Operators.{Text, limited}
use Rattle.flow_meaning.specs.Meaning.{Calc, values, meaning, atom_step}
use Rattle.body_requests.specs.Asks.{Each}
use Rattle.body_requests.proofs.Acts.{each_parts, asks_of_gives, asks_then}
use Rattle.body_requests.proofs.Operators.{limited_gives}
use Rattle.body_requests.proofs.Expressions.{Laws, vars_grow, Kept, AllHave, got_gives, values_asks, applied_asks, chain_kept, sums_asks, products_asks, items_asks, tested_kept, signed_gives, called_kept}
use Rattle.script_tree.proofs.Rolls.{in_atom, atom-rolled, added-rolled, call-rolled, comp-rolled, compared-rolled, conj-rolled, expr-rolled, factor-rolled, post-rolled, sum-rolled, term-rolled, unary-rolled}

module _ (apps : List Text) (G : List Path → Value → Type 0) (R : List Path → Request → Type 0) (T : Answer → Type 0) (M : Mark → Type 0) (H : Text → Text → Type 0) (laws : Laws apps G R T M H) where
  abbrev pub MarksHave : Marks → Type 0
  MarksHave = Each M

  abbrev pub K : Calc → Type 0
  K = Kept apps G R T M H laws

  abbrev AtomKept : Atom → Type 0
  AtomKept x = MarksHave (fold_atom expr_marks x) → K (fold_atom (meaning apps) x)

  abbrev AddedKept : Added → Type 0
  AddedKept x = MarksHave (fold_added expr_marks x).1 → K (fold_added (meaning apps) x).1

  abbrev pub CallKept : CallExpr → Type 0
  CallKept x = MarksHave (fold_call expr_marks x) → K (fold_call (meaning apps) x)

  abbrev CompKept : Comp → Type 0
  CompKept x = MarksHave (fold_comp expr_marks x) → K (fold_comp (meaning apps) x)

  abbrev ComparedKept : Compared → Type 0
  ComparedKept x = MarksHave (fold_compared expr_marks x).1 → K (fold_compared (meaning apps) x).1

  abbrev ConjKept : Conj → Type 0
  ConjKept x = MarksHave (fold_conj expr_marks x) → K (fold_conj (meaning apps) x)

  abbrev pub ExprKept : Expr → Type 0
  ExprKept x = MarksHave (fold_expr expr_marks x) → K (fold_expr (meaning apps) x)

  abbrev FactorKept : Factor → Type 0
  FactorKept x = MarksHave (fold_factor expr_marks x).1 → K (fold_factor (meaning apps) x).1

  abbrev PostKept : Post → Type 0
  PostKept x = MarksHave (fold_post expr_marks x) → K (fold_post (meaning apps) x)

  abbrev SumKept : Sum → Type 0
  SumKept x = MarksHave (fold_sum expr_marks x) → K (fold_sum (meaning apps) x)

  abbrev TermKept : Term → Type 0
  TermKept x = MarksHave (fold_term expr_marks x) → K (fold_term (meaning apps) x)

  abbrev UnaryKept : Unary → Type 0
  UnaryKept x = MarksHave (fold_unary expr_marks x) → K (fold_unary (meaning apps) x)

  abbrev OpenAtom : Type 0
  OpenAtom = Atom-F ((x : Atom) × AtomKept x) ((x : Added) × AddedKept x) ((x : CallExpr) × CallKept x) ((x : Comp) × CompKept x) ((x : Compared) × ComparedKept x) ((x : Conj) × ConjKept x) ((x : Expr) × ExprKept x) ((x : Factor) × FactorKept x) ((x : Post) × PostKept x) ((x : Sum) × SumKept x) ((x : Term) × TermKept x) ((x : Unary) × UnaryKept x)

  abbrev first_of_atom : OpenAtom → Atom-F Atom Added CallExpr Comp Compared Conj Expr Factor Post Sum Term Unary
  first_of_atom = map-Atom ((x : Atom) × AtomKept x) ((x : Added) × AddedKept x) ((x : CallExpr) × CallKept x) ((x : Comp) × CompKept x) ((x : Compared) × ComparedKept x) ((x : Conj) × ConjKept x) ((x : Expr) × ExprKept x) ((x : Factor) × FactorKept x) ((x : Post) × PostKept x) ((x : Sum) × SumKept x) ((x : Term) × TermKept x) ((x : Unary) × UnaryKept x) Atom Added CallExpr Comp Compared Conj Expr Factor Post Sum Term Unary (λ e. e.0) (λ e. e.0) (λ e. e.0) (λ e. e.0) (λ e. e.0) (λ e. e.0) (λ e. e.0) (λ e. e.0) (λ e. e.0) (λ e. e.0) (λ e. e.0) (λ e. e.0)

  -- by what folds make of a node
  moved : (ms ns : Marks) (k l : Calc) → ms ≡ ns → k ≡ l → (MarksHave ns → K l) → MarksHave ms → K k
  moved ms ns k l e d h m = subst K (sym d) (h (subst MarksHave e m))

  -- parts behind separators
  parts_kept : {X M Y : Type 0} (P : X → Type 0) (marks : X → M) (calc : X → Y) (apart : M → Marks) (H : Y → Type 0) → ((x : X) → P x → MarksHave (apart (marks x)) → H (calc x))
      → (xs : List ((x : X) × P x)) → MarksHave (flat_map apart (map marks (map (λ y. y.0) xs))) → Each H (map calc (map (λ y. y.0) xs))
  parts_kept P marks calc apart H f [] m = tt
  parts_kept P marks calc apart H f (x ∷ xs) m =
      let both = each_parts M (apart (marks x.0)) (flat_map apart (map marks (map (λ y. y.0) xs))) m in
      (f x.0 x.1 both.0, parts_kept P marks calc apart H f xs both.1)

  -- expressions with commas
  listed_kept : (xs : List ((x : Expr) × ExprKept x)) → MarksHave (listed (map (fold_expr expr_marks) (map (λ y. y.0) xs))) → Each K (map (fold_expr (meaning apps)) (map (λ y. y.0) xs))
  listed_kept [] m = tt
  listed_kept (x ∷ xs) m =
      let both = each_parts M (fold_expr expr_marks x.0) (flat_map (λ f. Other ∷ f) (map (fold_expr expr_marks) (map (λ y. y.0) xs))) m in
      (x.1 both.0, parts_kept ExprKept (fold_expr expr_marks) (fold_expr (meaning apps)) (λ f. Other ∷ f) K (λ x h m. h m.1) xs both.1)

  inner : (ms : Marks) → MarksHave (in_parens ms) → MarksHave ms
  inner ms m = (each_parts M ms (Other ∷ []) m.1).0

  atom_of : (y : OpenAtom) → MarksHave (atom_marks (in_atom expr_marks (first_of_atom y))) → K (atom_step apps (in_atom (meaning apps) (first_of_atom y)))
  atom_of (Atom-F.Number n) m ps vars h = (laws.closed ps).int n
  atom_of (Atom-F.Text x) m ps vars h = asks_of_gives R T G ps (limited (v.Text x)) (limited_gives (G ps) (laws.closed ps) (v.Text x) ((laws.closed ps).text x))
  atom_of Atom-F.Nothing m ps vars h = (laws.closed ps).nothing
  atom_of (Atom-F.Variable x) m ps vars h = asks_of_gives R T G ps _ (got_gives apps G R T M H laws ps vars x h)
  atom_of (Atom-F.BuiltIn x es) m ps vars h =
      asks_then R T (AllHave apps G R T M H laws (length (map (fold_expr (meaning apps)) (map (λ y. y.0) es)))) G ps (values vars (map (fold_expr (meaning apps)) (map (λ y. y.0) es))) _
      (values_asks apps G R T M H laws (map (fold_expr (meaning apps)) (map (λ y. y.0) es)) ps vars (listed_kept es (inner _ m.1)) h)
      (λ qs g vs k. applied_asks apps G R T M H laws x _ m.0 qs vs k.0)
  atom_of (Atom-F.Call c) m ps vars h = c.1 m ps vars h
  atom_of (Atom-F.Paren e) m ps vars h = e.1 (inner _ m) ps vars h
  atom_of (Atom-F.List es) m ps vars h =
      asks_then R T (AllHave apps G R T M H laws (length (map (fold_expr (meaning apps)) (map (λ y. y.0) es)))) G ps (values vars (map (fold_expr (meaning apps)) (map (λ y. y.0) es))) _
      (values_asks apps G R T M H laws (map (fold_expr (meaning apps)) (map (λ y. y.0) es)) ps vars (listed_kept es (inner _ m)) h)
      (λ qs g vs k. asks_of_gives R T G qs _ (limited_gives (G qs) (laws.closed qs) (v.List vs) ((laws.closed qs).list vs k.0)))

  atom_kept : (y : OpenAtom) → AtomKept (roll-Atom (first_of_atom y))
  atom_kept y = moved _ _ _ _ (atom-rolled expr_marks _) (atom-rolled (meaning apps) _) (atom_of y)

  names_kept : (xs : List ((x : Expr) × ExprKept x)) → MarksHave (names_part (map (fold_expr expr_marks) (map (λ y. y.0) xs))) → Each K (map (fold_expr (meaning apps)) (map (λ y. y.0) xs))
  names_kept [] m = tt
  names_kept (x ∷ xs) m = listed_kept (x ∷ xs) (inner (listed (map (fold_expr expr_marks) (map (λ y. y.0) (x ∷ xs)))) m.1)

  as_many : (es : List Expr) → length (map (fold_expr expr_marks) es) ≡ length (map (fold_expr (meaning apps)) es)
  as_many [] = refl
  as_many (e ∷ es) = ap (λ n. Prim.Native.Nat.suc n) (as_many es)

  call_kept : (app : Text) (arguments names : List ((x : Expr) × ExprKept x)) → CallKept (roll-CallExpr (record { app = app; arguments = map (λ e. e.0) arguments; names = map (λ e. e.0) names }))
  call_kept app arguments names = moved _ _ _ _ (call-rolled expr_marks _) (call-rolled (meaning apps) _) (λ m.
      let both = each_parts M (in_parens (listed (map (fold_expr expr_marks) (map (λ e. e.0) arguments)))) (names_part (map (fold_expr expr_marks) (map (λ e. e.0) names))) m.1.1 in
      called_kept apps G R T M H laws app (map (fold_expr (meaning apps)) (map (λ e. e.0) arguments)) (map (fold_expr (meaning apps)) (map (λ e. e.0) names))
      m.0 (subst (λ k. M (NamesApp app k (length (map (fold_expr (meaning apps)) (map (λ e. e.0) names))))) (as_many (map (λ e. e.0) arguments)) (subst (λ k. M (NamesApp app (length (map (fold_expr expr_marks) (map (λ e. e.0) arguments))) k)) (as_many (map (λ e. e.0) names)) m.1.0))
      (listed_kept arguments (inner _ both.0)) (names_kept names both.1))

  comp_of : (left : (x : Sum) × SumKept x) (test : Option ((x : Compared) × ComparedKept x)) → CompKept (roll-Comp (Rattle.script_tree.specs.declared.tree.Atom.TheFolds.map-Comp ((x : Atom) × AtomKept x) ((x : Added) × AddedKept x) ((x : CallExpr) × CallKept x) ((x : Comp) × CompKept x) ((x : Compared) × ComparedKept x) ((x : Conj) × ConjKept x) ((x : Expr) × ExprKept x) ((x : Factor) × FactorKept x) ((x : Post) × PostKept x) ((x : Sum) × SumKept x) ((x : Term) × TermKept x) ((x : Unary) × UnaryKept x) Atom Added CallExpr Comp Compared Conj Expr Factor Post Sum Term Unary (λ e. e.0) (λ e. e.0) (λ e. e.0) (λ e. e.0) (λ e. e.0) (λ e. e.0) (λ e. e.0) (λ e. e.0) (λ e. e.0) (λ e. e.0) (λ e. e.0) (λ e. e.0) (record { left = left; test = test })))
  comp_of left None = moved _ _ _ _ (comp-rolled expr_marks _) (comp-rolled (meaning apps) _) (λ m. left.1 (each_parts M (fold_sum expr_marks left.0) [] m).0)
  comp_of left (Some y) = moved _ _ _ _ (comp-rolled expr_marks _) (comp-rolled (meaning apps) _) (λ m.
      let both = each_parts M (fold_sum expr_marks left.0) (Other ∷ (fold_compared expr_marks y.0).1) m in
      tested_kept apps G R T M H laws (fold_sum (meaning apps) left.0) (fold_compared (meaning apps) y.0).0 (fold_compared (meaning apps) y.0).1 (left.1 both.0) (y.1 both.1.1))

  conj_kept : (first : (x : Comp) × CompKept x) (others : List ((x : Comp) × CompKept x)) → ConjKept (roll-Conj (record { first = first.0; others = map (λ e. e.0) others }))
  conj_kept first others = moved _ _ _ _ (conj-rolled expr_marks _) (conj-rolled (meaning apps) _) (λ m.
      let both = each_parts M (fold_comp expr_marks first.0) (flat_map (λ f. Other ∷ f) (map (fold_comp expr_marks) (map (λ e. e.0) others))) m in
      chain_kept apps G R T M H laws false (fold_comp (meaning apps) first.0) (map (fold_comp (meaning apps)) (map (λ e. e.0) others)) (first.1 both.0)
      (parts_kept CompKept (fold_comp expr_marks) (fold_comp (meaning apps)) (λ f. Other ∷ f) K (λ x h m. h m.1) others both.1))

  expr_kept : (first : (x : Conj) × ConjKept x) (others : List ((x : Conj) × ConjKept x)) → ExprKept (roll-Expr (record { first = first.0; others = map (λ e. e.0) others }))
  expr_kept first others = moved _ _ _ _ (expr-rolled expr_marks _) (expr-rolled (meaning apps) _) (λ m.
      let both = each_parts M (fold_conj expr_marks first.0) (flat_map (λ f. Other ∷ f) (map (fold_conj expr_marks) (map (λ e. e.0) others))) m in
      chain_kept apps G R T M H laws true (fold_conj (meaning apps) first.0) (map (fold_conj (meaning apps)) (map (λ e. e.0) others)) (first.1 both.0)
      (parts_kept ConjKept (fold_conj expr_marks) (fold_conj (meaning apps)) (λ f. Other ∷ f) K (λ x h m. h m.1) others both.1))

  post_kept : (atom : (x : Atom) × AtomKept x) (indices : List ((x : Expr) × ExprKept x)) → PostKept (roll-Post (record { atom = atom.0; indices = map (λ e. e.0) indices }))
  post_kept atom indices = moved _ _ _ _ (post-rolled expr_marks _) (post-rolled (meaning apps) _) (λ m ps vars h.
      let both = each_parts M (fold_atom expr_marks atom.0) (flat_map in_parens (map (fold_expr expr_marks) (map (λ e. e.0) indices))) m in
      asks_then R T G G ps (fold_atom (meaning apps) atom.0 vars) _ (atom.1 both.0 ps vars h) (λ qs g from k.
      items_asks apps G R T M H laws qs vars from (map (fold_expr (meaning apps)) (map (λ e. e.0) indices)) (vars_grow apps G R T M H laws ps qs vars g h) k
      (parts_kept ExprKept (fold_expr expr_marks) (fold_expr (meaning apps)) in_parens K (λ x h m. h (inner _ m)) indices both.1)))

  sum_kept : (first : (x : Term) × TermKept x) (others : List ((x : Added) × AddedKept x)) → SumKept (roll-Sum (record { first = first.0; others = map (λ e. e.0) others }))
  sum_kept first others = moved _ _ _ _ (sum-rolled expr_marks _) (sum-rolled (meaning apps) _) (λ m ps vars h.
      let both = each_parts M (fold_term expr_marks first.0) (flat_map (λ (f : SumOp × Marks). Other ∷ f.1) (map (fold_added expr_marks) (map (λ e. e.0) others))) m in
      asks_then R T G G ps (fold_term (meaning apps) first.0 vars) _ (first.1 both.0 ps vars h) (λ qs g left k.
      sums_asks apps G R T M H laws qs vars left (map (fold_added (meaning apps)) (map (λ e. e.0) others)) (vars_grow apps G R T M H laws ps qs vars g h) k
      (parts_kept AddedKept (fold_added expr_marks) (fold_added (meaning apps)) (λ (f : SumOp × Marks). Other ∷ f.1) (λ (e : SumOp × Calc). K e.1) (λ x h m. h m.1) others both.1)))

  term_kept : (first : (x : Unary) × UnaryKept x) (others : List ((x : Factor) × FactorKept x)) → TermKept (roll-Term (record { first = first.0; others = map (λ e. e.0) others }))
  term_kept first others = moved _ _ _ _ (term-rolled expr_marks _) (term-rolled (meaning apps) _) (λ m ps vars h.
      let both = each_parts M (fold_unary expr_marks first.0) (flat_map (λ (f : TermOp × Marks). Other ∷ f.1) (map (fold_factor expr_marks) (map (λ e. e.0) others))) m in
      asks_then R T G G ps (fold_unary (meaning apps) first.0 vars) _ (first.1 both.0 ps vars h) (λ qs g left k.
      products_asks apps G R T M H laws qs vars left (map (fold_factor (meaning apps)) (map (λ e. e.0) others)) (vars_grow apps G R T M H laws ps qs vars g h) k
      (parts_kept FactorKept (fold_factor expr_marks) (fold_factor (meaning apps)) (λ (f : TermOp × Marks). Other ∷ f.1) (λ (e : TermOp × Calc). K e.1) (λ x h m. h m.1) others both.1)))

  unary_kept : (op : Option UnaryOp) (post : (x : Post) × PostKept x) → UnaryKept (roll-Unary (record { op = op; post = post.0 }))
  unary_kept op post = moved _ _ _ _ (unary-rolled expr_marks _) (unary-rolled (meaning apps) _) (λ m ps vars h.
      asks_then R T G G ps (fold_post (meaning apps) post.0 vars) _ (post.1 (each_parts M (sign_part op) (fold_post expr_marks post.0) m).1 ps vars h) (λ qs g a k.
      asks_of_gives R T G qs _ (signed_gives apps G R T M H laws op qs a k)))

  added_kept : (op : SumOp) (term : (x : Term) × TermKept x) → AddedKept (roll-Added (record { op = op; term = term.0 }))
  added_kept op term = moved _ _ _ _ (ap (λ (z : SumOp × Marks). z.1) (added-rolled expr_marks _)) (ap (λ (z : SumOp × Calc). z.1) (added-rolled (meaning apps) _)) term.1

  factor_kept : (op : TermOp) (unary : (x : Unary) × UnaryKept x) → FactorKept (roll-Factor (record { op = op; unary = unary.0 }))
  factor_kept op unary = moved _ _ _ _ (ap (λ (z : TermOp × Marks). z.1) (factor-rolled expr_marks _)) (ap (λ (z : TermOp × Calc). z.1) (factor-rolled (meaning apps) _)) unary.1

  compared_kept : (op : CompareOp) (right : (x : Sum) × SumKept x) → ComparedKept (roll-Compared (record { op = op; right = right.0 }))
  compared_kept op right = moved _ _ _ _ (ap (λ (z : CompareOp × Marks). z.1) (compared-rolled expr_marks _)) (ap (λ (z : CompareOp × Calc). z.1) (compared-rolled (meaning apps) _)) right.1

  -- ---- every expression

  pub expression_kept : (x : Expr) → ExprKept x
  expression_kept x = ind-Expr AtomKept AddedKept CallKept CompKept ComparedKept ConjKept ExprKept FactorKept PostKept SumKept TermKept UnaryKept
      (λ x y is. subst (λ z. AtomKept (roll-Atom z)) is (atom_kept y))
      (λ x y is. subst (λ z. AddedKept (roll-Added z)) is (added_kept y.op y.term))
      (λ x y is. subst (λ z. CallKept (roll-CallExpr z)) is (call_kept y.app y.arguments y.names))
      (λ x y is. subst (λ z. CompKept (roll-Comp z)) is (comp_of y.left y.test))
      (λ x y is. subst (λ z. ComparedKept (roll-Compared z)) is (compared_kept y.op y.right))
      (λ x y is. subst (λ z. ConjKept (roll-Conj z)) is (conj_kept y.first y.others))
      (λ x y is. subst (λ z. ExprKept (roll-Expr z)) is (expr_kept y.first y.others))
      (λ x y is. subst (λ z. FactorKept (roll-Factor z)) is (factor_kept y.op y.unary))
      (λ x y is. subst (λ z. PostKept (roll-Post z)) is (post_kept y.atom y.indices))
      (λ x y is. subst (λ z. SumKept (roll-Sum z)) is (sum_kept y.first y.others))
      (λ x y is. subst (λ z. TermKept (roll-Term z)) is (term_kept y.first y.others))
      (λ x y is. subst (λ z. UnaryKept (roll-Unary z)) is (unary_kept y.op y.post)) x

  pub call_expression_kept : (x : CallExpr) → CallKept x
  call_expression_kept x = ind-CallExpr AtomKept AddedKept CallKept CompKept ComparedKept ConjKept ExprKept FactorKept PostKept SumKept TermKept UnaryKept
      (λ x y is. subst (λ z. AtomKept (roll-Atom z)) is (atom_kept y))
      (λ x y is. subst (λ z. AddedKept (roll-Added z)) is (added_kept y.op y.term))
      (λ x y is. subst (λ z. CallKept (roll-CallExpr z)) is (call_kept y.app y.arguments y.names))
      (λ x y is. subst (λ z. CompKept (roll-Comp z)) is (comp_of y.left y.test))
      (λ x y is. subst (λ z. ComparedKept (roll-Compared z)) is (compared_kept y.op y.right))
      (λ x y is. subst (λ z. ConjKept (roll-Conj z)) is (conj_kept y.first y.others))
      (λ x y is. subst (λ z. ExprKept (roll-Expr z)) is (expr_kept y.first y.others))
      (λ x y is. subst (λ z. FactorKept (roll-Factor z)) is (factor_kept y.op y.unary))
      (λ x y is. subst (λ z. PostKept (roll-Post z)) is (post_kept y.atom y.indices))
      (λ x y is. subst (λ z. SumKept (roll-Sum z)) is (sum_kept y.first y.others))
      (λ x y is. subst (λ z. TermKept (roll-Term z)) is (term_kept y.first y.others))
      (λ x y is. subst (λ z. UnaryKept (roll-Unary z)) is (unary_kept y.op y.post)) x
