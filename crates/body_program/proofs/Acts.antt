-- Acts, one after another.
use Rattle.std.proofs.Common.{◌≡◌, ◌+◌, true, false, Bool, List, [], ◌∷◌, ◌++◌, map, length, length-append, refl, sym, ◌∙◌, arith}
use Rattle.flow_base.specs.declared.value.Value.{Value}
use Rattle.script_tree.specs.declared.tree.SumOp.{SumOp}
use Rattle.script_tree.specs.declared.tree.TermOp.{TermOp}
use Rattle.flow_meaning.specs.Act.{Act, Give, Throw, Ask, ◌>>=◌, all_from}
use Rattle.flow_meaning.specs.Operators.{truth_of, truth, added, multiplied, indexed}
use Rattle.flow_meaning.specs.Meaning as m
use Rattle.body_program.specs.Meaning as code

-- what comes behind a part comes behind each of its ends
pub bind_assoc : {A B C : Type 0} (a : Act A) (f : A → Act B) (g : B → Act C) → ((a >>= f) >>= g) ≡ (a >>= λ x. f x >>= g)
bind_assoc (Give x) f g = refl
bind_assoc (Throw x) f g = refl
bind_assoc (Ask w go) f g = λ i. Ask w (λ r. bind_assoc (go r) f g i)

pub bind_same : {A B : Type 0} (a : Act A) (f g : A → Act B) → ((x : A) → f x ≡ g x) → (a >>= f) ≡ (a >>= g)
bind_same a f g h = λ i. a >>= λ x. h x i

pub bind_both : {A B : Type 0} (a b : Act A) (f g : A → Act B) → a ≡ b → ((x : A) → f x ≡ g x) → (a >>= f) ≡ (b >>= g)
bind_both a b f g is h = λ i. is i >>= λ x. h x i

pub bind_give : {A : Type 0} (a : Act A) → (a >>= Give) ≡ a
bind_give (Give x) = refl
bind_give (Throw x) = refl
bind_give (Ask w go) = λ i. Ask w (λ r. bind_give (go r) i)

-- as many values as acts
pub all_same : {A B : Type 0} (given : List A) (acts : List (Act A)) (f g : List A → Act B) → ((vs : List A) → length vs ≡ length given + length acts → f vs ≡ g vs) → (all_from given acts >>= f) ≡ (all_from given acts >>= g)
all_same given [] f g h = h given (omega arith)
all_same given (act ∷ acts) f g h =
    bind_assoc act (λ x. all_from (given ++ x ∷ []) acts) f
    ∙ bind_same act (λ x. all_from (given ++ x ∷ []) acts >>= f) (λ x. all_from (given ++ x ∷ []) acts >>= g) (λ x. all_same (given ++ x ∷ []) acts f g (λ vs is. h vs (omega (arith, length-append given (x ∷ [])))))
    ∙ sym (bind_assoc act (λ x. all_from (given ++ x ∷ []) acts) g)

-- ---- the parts of expressions by names, at these variables

module _ (vars : m.Vars) where
  pub until_same : (stop holds : Bool) (calcs : List m.Calc) → m.until stop vars holds calcs ≡ code.until stop holds (map (λ calc. calc vars) calcs)
  until_same true true [] = refl
  until_same true false [] = refl
  until_same false true [] = refl
  until_same false false [] = refl
  until_same true true (e ∷ es) = refl
  until_same false false (e ∷ es) = refl
  until_same true false (e ∷ es) = λ i. e vars >>= truth_of >>= λ holds. until_same true holds es i
  until_same false true (e ∷ es) = λ i. e vars >>= truth_of >>= λ holds. until_same false holds es i

  pub chain_same : (stop : Bool) (first : m.Calc) (e : m.Calc) (es : List m.Calc) → m.chain stop first (e ∷ es) vars ≡ code.chain stop (first vars) (map (λ calc. calc vars) (e ∷ es))
  chain_same stop first e es = λ i. first vars >>= truth_of >>= λ holds. until_same stop holds (e ∷ es) i >>= λ all. Give (truth all)

  pub sums_same : (left : Value) (es : List (SumOp × m.Calc)) → m.sums vars left es ≡ code.sums left (map {B = SumOp × Act Value} (λ e. (e.0, e.1 vars)) es)
  sums_same left [] = refl
  sums_same left (e ∷ es) = λ i. e.1 vars >>= λ right. added e.0 left right >>= λ sum. sums_same sum es i

  pub products_same : (left : Value) (es : List (TermOp × m.Calc)) → m.products vars left es ≡ code.products left (map {B = TermOp × Act Value} (λ e. (e.0, e.1 vars)) es)
  products_same left [] = refl
  products_same left (e ∷ es) = λ i. e.1 vars >>= λ right. multiplied e.0 left right >>= λ product. products_same product es i

  pub items_same : (from : Value) (es : List m.Calc) → m.items_at vars from es ≡ code.items_at from (map (λ calc. calc vars) es)
  items_same from [] = refl
  items_same from (e ∷ es) = λ i. e vars >>= λ k. indexed from k >>= λ item. items_same item es i
