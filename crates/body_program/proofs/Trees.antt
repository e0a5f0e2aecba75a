-- What each class of expressions means, by its parts.
use Rattle.std.proofs.Common.{◌≡◌, true, false, List, [], map, Some, None, ℤ, refl, sym, ap, ◌∙◌}
use Rattle.flow_base.specs.declared.value.Value.TheVariants as v
use Rattle.script_tree.specs.declared.tree.Atom.{fold-roll-Atom}
use Rattle.script_tree.specs.declared.tree.Atom.TheVariants as a
use Rattle.script_tree.specs.declared.tree.Added.{Added, out-Added, fold_out-Added}
use Rattle.script_tree.specs.declared.tree.CallExpr.{CallExpr, out-CallExpr, fold_out-CallExpr}
use Rattle.script_tree.specs.declared.tree.Comp.{Comp, out-Comp, fold_out-Comp}
use Rattle.script_tree.specs.declared.tree.Compared.{Compared, out-Compared, fold_out-Compared}
use Rattle.script_tree.specs.declared.tree.Conj.{Conj, out-Conj, fold_out-Conj}
use Rattle.script_tree.specs.declared.tree.Expr.{Expr, out-Expr, fold_out-Expr}
use Rattle.script_tree.specs.declared.tree.Factor.{Factor, out-Factor, fold_out-Factor}
use Rattle.script_tree.specs.declared.tree.Post.{Post, out-Post, fold_out-Post}
use Rattle.script_tree.specs.declared.tree.Sum.{Sum, out-Sum, fold_out-Sum}
use Rattle.script_tree.specs.declared.tree.Term.{Term, out-Term, fold_out-Term}
use Rattle.script_tree.specs.declared.tree.Unary.{Unary, out-Unary, fold_out-Unary}
use Rattle.script_tree.specs.declared.tree.UnaryOp.{UnaryOp}
use Rattle.script_tree.specs.Folds.{fold_atom, fold_added, fold_call, fold_comp, fold_conj, fold_expr, fold_factor, fold_post, fold_sum, fold_term, fold_unary}
use Rattle.script_tree.specs.BuiltIns.{built_in_named}
use Rattle.flow_meaning.specs.Act.{Give, ◌>>=◌}
use Rattle.flow_meaning.specs.Operators.{Text, limited}
use Rattle.flow_meaning.specs.Meaning as m
use Rattle.body_program.specs.Classes as calc
use Rattle.body_program.proofs.Acts.{bind_same, bind_give}

module _ (apps : List Text) where
  pub expr_is : (e : Expr) → calc.expr_calc apps e ≡ m.chain true (calc.conj_calc apps (out-Expr e).first) (map (calc.conj_calc apps) (out-Expr e).others)
  unfolding fold_expr fold_conj
  expr_is e = rw fold_out-Expr refl

  pub conj_is : (e : Conj) → calc.conj_calc apps e ≡ m.chain false (calc.comp_calc apps (out-Conj e).first) (map (calc.comp_calc apps) (out-Conj e).others)
  unfolding fold_conj fold_comp
  conj_is e = rw fold_out-Conj refl

  pub comp_alone : (e : Comp) → (out-Comp e).test ≡ None → calc.comp_calc apps e ≡ calc.sum_calc apps (out-Comp e).left
  unfolding fold_comp fold_sum
  comp_alone e is = rw (fold_out-Comp, is) refl

  pub comp_tested : (e : Comp) (test : Compared) → (out-Comp e).test ≡ Some test → calc.comp_calc apps e ≡ m.tested (calc.sum_calc apps (out-Comp e).left) (Some ((out-Compared test).op, calc.sum_calc apps (out-Compared test).right))
  unfolding fold_comp fold_sum
  comp_tested e test is = rw (fold_out-Comp, is, fold_out-Compared) refl

  pub sum_is : (e : Sum) → calc.sum_calc apps e ≡ (λ vars. calc.term_calc apps (out-Sum e).first vars >>= λ left. m.sums vars left (map (calc.added_calc apps) (out-Sum e).others))
  unfolding fold_sum fold_term fold_added
  sum_is e = rw fold_out-Sum refl

  pub added_is : (e : Added) → calc.added_calc apps e ≡ ((out-Added e).op, calc.term_calc apps (out-Added e).term)
  unfolding fold_added fold_term
  added_is e = rw fold_out-Added refl

  pub term_is : (e : Term) → calc.term_calc apps e ≡ (λ vars. calc.unary_calc apps (out-Term e).first vars >>= λ left. m.products vars left (map (calc.factor_calc apps) (out-Term e).others))
  unfolding fold_term fold_unary fold_factor
  term_is e = rw fold_out-Term refl

  pub factor_is : (e : Factor) → calc.factor_calc apps e ≡ ((out-Factor e).op, calc.unary_calc apps (out-Factor e).unary)
  unfolding fold_factor fold_unary
  factor_is e = rw fold_out-Factor refl

  pub unary_is : (e : Unary) → calc.unary_calc apps e ≡ (λ vars. calc.post_calc apps (out-Unary e).post vars >>= m.signed (out-Unary e).op)
  unfolding fold_unary fold_post
  unary_is e = rw fold_out-Unary refl

  pub post_is : (e : Post) → calc.post_calc apps e ≡ (λ vars. calc.atom_calc apps (out-Post e).atom vars >>= λ from. m.items_at vars from (map (calc.expr_calc apps) (out-Post e).indices))
  unfolding fold_post fold_atom fold_expr
  post_is e = rw fold_out-Post refl

  pub call_is : (e : CallExpr) → calc.call_calc apps e ≡ m.called apps (out-CallExpr e).app (map (calc.expr_calc apps) (out-CallExpr e).arguments) (map (calc.expr_calc apps) (out-CallExpr e).names)
  unfolding fold_call fold_expr
  call_is e = rw fold_out-CallExpr refl

  -- ---- one part alone

  pub expr_alone : (e : Expr) → (out-Expr e).others ≡ [] → calc.conj_calc apps (out-Expr e).first ≡ calc.expr_calc apps e
  expr_alone e is = sym (expr_is e ∙ ap (λ l. m.chain true (calc.conj_calc apps (out-Expr e).first) (map (calc.conj_calc apps) l)) is)

  pub conj_alone : (e : Conj) → (out-Conj e).others ≡ [] → calc.comp_calc apps (out-Conj e).first ≡ calc.conj_calc apps e
  conj_alone e is = sym (conj_is e ∙ ap (λ l. m.chain false (calc.comp_calc apps (out-Conj e).first) (map (calc.comp_calc apps) l)) is)

  pub sum_alone : (e : Sum) → (out-Sum e).others ≡ [] → (vars : m.Vars) → calc.term_calc apps (out-Sum e).first vars ≡ calc.sum_calc apps e vars
  sum_alone e is vars = sym ((λ i. sum_is e i vars) ∙ (λ i. calc.term_calc apps (out-Sum e).first vars >>= λ left. m.sums vars left (map (calc.added_calc apps) (is i))) ∙ bind_give (calc.term_calc apps (out-Sum e).first vars))

  pub term_alone : (e : Term) → (out-Term e).others ≡ [] → (vars : m.Vars) → calc.unary_calc apps (out-Term e).first vars ≡ calc.term_calc apps e vars
  term_alone e is vars = sym ((λ i. term_is e i vars) ∙ (λ i. calc.unary_calc apps (out-Term e).first vars >>= λ left. m.products vars left (map (calc.factor_calc apps) (is i))) ∙ bind_give (calc.unary_calc apps (out-Term e).first vars))

  pub post_alone : (e : Post) → (out-Post e).indices ≡ [] → (vars : m.Vars) → calc.atom_calc apps (out-Post e).atom vars ≡ calc.post_calc apps e vars
  post_alone e is vars = sym ((λ i. post_is e i vars) ∙ (λ i. calc.atom_calc apps (out-Post e).atom vars >>= λ from. m.items_at vars from (map (calc.expr_calc apps) (is i))) ∙ bind_give (calc.atom_calc apps (out-Post e).atom vars))

  pub unary_alone : (e : Unary) → (out-Unary e).op ≡ None → (vars : m.Vars) → calc.post_calc apps (out-Unary e).post vars ≡ calc.unary_calc apps e vars
  unary_alone e is vars = sym ((λ i. unary_is e i vars) ∙ (λ i. calc.post_calc apps (out-Unary e).post vars >>= m.signed (is i)) ∙ bind_same (calc.post_calc apps (out-Unary e).post vars) (m.signed None) Give (λ x. refl) ∙ bind_give (calc.post_calc apps (out-Unary e).post vars))

  pub unary_signed : (e : Unary) (op : UnaryOp) → (out-Unary e).op ≡ Some op → calc.unary_calc apps e ≡ (λ vars. calc.post_calc apps (out-Unary e).post vars >>= m.signed (Some op))
  unary_signed e op is = unary_is e ∙ (λ i vars. calc.post_calc apps (out-Unary e).post vars >>= m.signed (is i))

  -- ---- atoms

  pub number_is : (n : ℤ) → calc.atom_calc apps (a.Number n) ≡ (λ vars. Give (v.Int n))
  unfolding fold_atom
  number_is n = rw (← a.rolls-Number n, fold-roll-Atom) refl

  pub text_is : (t : Text) → calc.atom_calc apps (a.Text t) ≡ (λ vars. limited (v.Text t))
  unfolding fold_atom
  text_is t = rw (← a.rolls-Text t, fold-roll-Atom) refl

  pub nothing_is : calc.atom_calc apps a.Nothing ≡ (λ vars. Give v.Nothing)
  unfolding fold_atom
  nothing_is = rw (← a.rolls-Nothing, fold-roll-Atom) refl

  pub variable_is : (name : Text) → calc.atom_calc apps (a.Variable name) ≡ (λ vars. m.got vars name)
  unfolding fold_atom
  variable_is name = rw (← a.rolls-Variable name, fold-roll-Atom) refl

  pub paren_is : (e : Expr) → calc.atom_calc apps (a.Paren e) ≡ calc.expr_calc apps e
  unfolding fold_atom fold_expr
  paren_is e = rw (← a.rolls-Paren e, fold-roll-Atom) refl

  pub call_atom_is : (e : CallExpr) → calc.atom_calc apps (a.Call e) ≡ calc.call_calc apps e
  unfolding fold_atom fold_call
  call_atom_is e = rw (← a.rolls-Call e, fold-roll-Atom) refl

  pub list_is : (es : List Expr) → calc.atom_calc apps (a.List es) ≡ (λ vars. m.values vars (map (calc.expr_calc apps) es) >>= λ vs. limited (v.List vs))
  unfolding fold_atom fold_expr
  list_is es = rw (← a.rolls-List es, fold-roll-Atom) refl

  pub built_in_is : (name : Text) (es : List Expr) → calc.atom_calc apps (a.BuiltIn name es) ≡ (λ vars. m.values vars (map (calc.expr_calc apps) es) >>= m.applied (built_in_named name))
  unfolding fold_atom fold_expr
  built_in_is name es = rw (← a.rolls-BuiltIn name es, fold-roll-Atom) refl
