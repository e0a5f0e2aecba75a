-- Codes that mean the same as expressions, built from parts that do.
use Rattle.std.proofs.Common.{◌≡◌, ℕ, zero, suc, ◌+◌, ◌<◌, ◌≤◌, true, false, List, [], ◌∷◌, ◌++◌, map, take, length, get_or, slice_get, Option, Some, Result, Ok, Err, ℤ, refl, sym, ap, ◌∙◌, subst, arith}
use Rattle.std.specs.Prelude.{IfOk}
use Rattle.std.proofs.lemmas.List.{take_all, map_push}
use Rattle.flow_base.specs.declared.value.Value.{Value}
use Rattle.script_tree.specs.declared.tree.BuiltIn.{BuiltIn}
use Rattle.script_tree.specs.declared.tree.CompareOp.{CompareOp}
use Rattle.script_tree.specs.declared.tree.SumOp.{SumOp}
use Rattle.script_tree.specs.declared.tree.TermOp.{TermOp}
use Rattle.script_tree.specs.declared.tree.UnaryOp.{UnaryOp}
use Rattle.flow_meaning.specs.declared.walk.Request.TheVariants as request
use Rattle.flow_meaning.specs.Act.{Act, Give, Ask, ◌>>=◌, all_of}
use Rattle.flow_meaning.specs.Operators.{Text, limited, texts_of, compared}
use Rattle.flow_meaning.specs.Told.{called_value}
use Rattle.flow_base.specs.declared.value.Value.TheVariants as v
use Rattle.flow_meaning.specs.Meaning as m
use Rattle.body_program.specs.Meaning as code
use Rattle.body_program.specs.Meaning.{Slots, code_value}
use Rattle.body_program.specs.declared.code.Code.{Code}
use Rattle.body_program.specs.declared.code.Code.TheVariants as c
use Rattle.body_program.specs.Resolved.{Table, Grows, Means, AllMean, OperandsMean, Applies, slots_of}
use Rattle.body_program.proofs.Acts.{bind_same, chain_same, sums_same, products_same, items_same}
use Rattle.body_program.proofs.Codes.{value_constant, value_slot, value_list, value_call, value_any, value_all, value_compared, value_sum, value_product, value_at, value_signed}
use Rattle.body_program.proofs.Tables.{grows_itself, grows_further, slot_held}

pub same_calc : (t : Table) (d : Code) (k l : m.Calc) → k ≡ l → Means t d k → Means t d l
same_calc t d k l is h = record { same = λ later more vars. h.same later more vars ∙ (λ i. is i vars) }

pub same_at : (t : Table) (d : Code) (k l : m.Calc) → ((vars : m.Vars) → k vars ≡ l vars) → Means t d k → Means t d l
same_at t d k l is h = record { same = λ later more vars. h.same later more vars ∙ is vars }

pub same_result : {E : Type 0} (r : Result Code E) (t : Table) (k l : m.Calc) → k ≡ l → IfOk r (λ d. Means t d k) → IfOk r (λ d. Means t d l)
same_result (Ok d) t k l is h = same_calc t d k l is h
same_result (Err e) t k l is h = tt

pub none_mapped : {E F : Type 0} (f : E → F) (es : List E) → map f es ≡ [] → es ≡ []
none_mapped f [] is = refl
none_mapped f (e ∷ es) is = absurd (cc)

-- ---- one construct each: a part that is resolved before others means the same behind them

module _ (t u : Table) (g : Grows t u) (first d : Code) (is : d ≡ first) (k : m.Calc) (h : Means t first k) where
  any_some : (cs : List Code) (ks : List m.Calc) → AllMean u cs ks → (ks ≡ [] → ⊥) → Means u (c.Any first cs) (m.chain true k ks)
  any_some cs [] all some = absurd (some refl)
  any_some cs (l ∷ ks) all some = record {
    same = λ later more vars.
        value_any (slots_of later vars) first cs
        ∙ (λ i. code.chain true (h.same later (grows_further t u later g more) vars i) (all.same later more vars i))
        ∙ sym (chain_same vars true k l ks);
  }

  all_some : (cs : List Code) (ks : List m.Calc) → AllMean u cs ks → (ks ≡ [] → ⊥) → Means u (c.All first cs) (m.chain false k ks)
  all_some cs [] all some = absurd (some refl)
  all_some cs (l ∷ ks) all some = record {
    same = λ later more vars.
        value_all (slots_of later vars) first cs
        ∙ (λ i. code.chain false (h.same later (grows_further t u later g more) vars i) (all.same later more vars i))
        ∙ sym (chain_same vars false k l ks);
  }

  pub any_means : (cs : List Code) (ks : List m.Calc) → AllMean u cs ks → (ks ≡ [] → ⊥) → Means u (c.Any d cs) (m.chain true k ks)
  any_means cs ks all some = subst (λ b. Means u (c.Any b cs) (m.chain true k ks)) (sym is) (any_some cs ks all some)

  pub all_means : (cs : List Code) (ks : List m.Calc) → AllMean u cs ks → (ks ≡ [] → ⊥) → Means u (c.All d cs) (m.chain false k ks)
  all_means cs ks all some = subst (λ b. Means u (c.All b cs) (m.chain false k ks)) (sym is) (all_some cs ks all some)

  pub sum_means : (cs : List (SumOp × Code)) (ks : List (SumOp × m.Calc)) → OperandsMean {Op = SumOp} u cs ks → Means u (c.Sum d cs) (λ vars. k vars >>= λ left. m.sums vars left ks)
  sum_means cs ks all = subst (λ b. Means u (c.Sum b cs) (λ vars. k vars >>= λ left. m.sums vars left ks)) (sym is) (record {
    same = λ later more vars.
        value_sum (slots_of later vars) first cs
        ∙ (λ i. h.same later (grows_further t u later g more) vars i >>= λ left. code.sums left (all.same later more vars i))
        ∙ sym (bind_same (k vars) (λ left. m.sums vars left ks) (λ left. code.sums left (map {B = SumOp × Act Value} (λ e. (e.0, e.1 vars)) ks)) (λ left. sums_same vars left ks));
  })

  pub product_means : (cs : List (TermOp × Code)) (ks : List (TermOp × m.Calc)) → OperandsMean {Op = TermOp} u cs ks → Means u (c.Product d cs) (λ vars. k vars >>= λ left. m.products vars left ks)
  product_means cs ks all = subst (λ b. Means u (c.Product b cs) (λ vars. k vars >>= λ left. m.products vars left ks)) (sym is) (record {
    same = λ later more vars.
        value_product (slots_of later vars) first cs
        ∙ (λ i. h.same later (grows_further t u later g more) vars i >>= λ left. code.products left (all.same later more vars i))
        ∙ sym (bind_same (k vars) (λ left. m.products vars left ks) (λ left. code.products left (map {B = TermOp × Act Value} (λ e. (e.0, e.1 vars)) ks)) (λ left. products_same vars left ks));
  })

  pub at_means : (cs : List Code) (ks : List m.Calc) → AllMean u cs ks → Means u (c.At d cs) (λ vars. k vars >>= λ from. m.items_at vars from ks)
  at_means cs ks all = subst (λ b. Means u (c.At b cs) (λ vars. k vars >>= λ from. m.items_at vars from ks)) (sym is) (record {
    same = λ later more vars.
        value_at (slots_of later vars) first cs
        ∙ (λ i. h.same later (grows_further t u later g more) vars i >>= λ from. code.items_at from (all.same later more vars i))
        ∙ sym (bind_same (k vars) (λ from. m.items_at vars from ks) (λ from. code.items_at from (map (λ calc. calc vars) ks)) (λ from. items_same vars from ks));
  })

  pub compared_means : (op : CompareOp) (second e : Code) (l : m.Calc) → e ≡ second → Means u second l → Means u (c.Compared op d e) (m.tested k (Some (op, l)))
  compared_means op second e l e_is all = subst (λ b. Means u (c.Compared op b e) (m.tested k (Some (op, l)))) (sym is) (subst (λ b. Means u (c.Compared op first b) (m.tested k (Some (op, l)))) (sym e_is) (record {
    same = λ later more vars.
        value_compared (slots_of later vars) op first second
        ∙ (λ i. h.same later (grows_further t u later g more) vars i >>= λ left. all.same later more vars i >>= λ right. compared op left right);
  }))

pub signed_means : (t : Table) (d first : Code) (k : m.Calc) (op : UnaryOp) → d ≡ first → Means t first k → Means t (c.Signed op d) (λ vars. k vars >>= m.signed (Some op))
signed_means t d first k op is h = subst (λ b. Means t (c.Signed op b) (λ vars. k vars >>= m.signed (Some op))) (sym is) (record {
  same = λ later more vars.
      value_signed (slots_of later vars) op first ∙ (λ i. h.same later more vars i >>= m.signed (Some op));
})

pub list_means : (t : Table) (cs : List Code) (ks : List m.Calc) → AllMean t cs ks → Means t (c.List cs) (λ vars. m.values vars ks >>= λ vs. limited (v.List vs))
list_means t cs ks all = record {
  same = λ later more vars.
      value_list (slots_of later vars) cs ∙ (λ i. all_of (all.same later more vars i) >>= λ vs. limited (v.List vs));
}

pub slot_means : (t : Table) (slot : ℕ) (name : Text) → slice_get t slot ≡ Some name → Means t (c.Slot slot) (λ vars. m.got vars name)
slot_means t slot name is = record { same = λ later more vars. value_slot (slots_of later vars) slot ∙ slot_held t later slot name is more vars }

pub constant_means : (t : Table) (value : Value) → Means t (c.Constant value) (λ vars. Give value)
constant_means t value = record { same = λ later more vars. value_constant (slots_of later vars) value }

pub int_means : (t : Table) (n k : ℤ) → n ≡ k → Means t (c.Constant (v.Int n)) (λ vars. Give (v.Int k))
int_means t n k is = subst (λ l. Means t (c.Constant (v.Int n)) (λ vars. Give (v.Int l))) is (constant_means t (v.Int n))

pub text_means : {E : Type 0} (r : Result Code E) (t : Table) (text : Text) → IfOk r (λ d. (slots : Slots) → code_value slots d ≡ limited (v.Text text)) → IfOk r (λ d. Means t d (λ vars. limited (v.Text text)))
text_means (Ok d) t text h = record { same = λ later more vars. h (slots_of later vars) }
text_means (Err e) t text h = tt

pub applied_means : {E : Type 0} (r : Result Code E) (t : Table) (b : Option BuiltIn) (cs : List Code) (ks : List m.Calc) → IfOk r (λ d. Applies d b cs) → AllMean t cs ks → IfOk r (λ d. Means t d (λ vars. m.values vars ks >>= m.applied b))
applied_means (Ok d) t b cs ks h all = record { same = λ later more vars. h (slots_of later vars) ∙ (λ i. all_of (all.same later more vars i) >>= m.applied b) }
applied_means (Err e) t b cs ks h all = tt

pub call_means : (apps : List Text) (t u : Table) (app : Text) (number : ℕ) (ds es : List Code) (ks ls : List m.Calc) → number ≡ m.number_of apps app → AllMean t ds ks → Grows t u → AllMean u es ls → Means u (c.Call number ds es) (m.called apps app ks ls)
call_means apps t u app number ds es ks ls is some g all = record {
  same = λ later more vars.
      value_call (slots_of later vars) number ds es
      ∙ (λ i. all_of (some.same later (grows_further t u later g more) vars i) >>= λ vs. all_of (all.same later more vars i) >>= λ ns. texts_of ns >>= λ ts. Ask (request.Call (is i) vs ts) called_value);
}

-- ---- lists of parts, one more at a time

take_suc : {E : Type 0} (es : List E) (i : ℕ) (e : E) → i < length es → e ≡ get_or es i e → take (suc i) es ≡ take i es ++ e ∷ []
take_suc [] i e short is = absurd (omega arith)
take_suc (x ∷ xs) zero e short is = ap (λ l. l ∷ []) (sym is)
take_suc (x ∷ xs) (suc i) e short is = ap (λ l. x ∷ l) (take_suc xs i e (omega arith) is)

taken_more : {E F : Type 0} (f : E → F) (es : List E) (i : ℕ) (e : E) → i < length es → e ≡ get_or es i e → map f (take i es) ++ f e ∷ [] ≡ map f (take (i + 1) es)
taken_more f es i e short is =
    let next : i + 1 ≡ suc i = omega arith in
    sym (ap (λ j. map f (take j es)) next ∙ ap (map f) (take_suc es i e short is) ∙ map_push f (take i es) e)

one_more : (t u : Table) (cs : List Code) (ks : List m.Calc) (d : Code) (k : m.Calc) → AllMean t cs ks → Grows t u → Means u d k → AllMean u (cs ++ d ∷ []) (ks ++ k ∷ [])
one_more t u cs ks d k all g h = record {
  same = λ later more vars.
      map_push (code_value (slots_of later vars)) cs d
      ∙ (λ i. all.same later (grows_further t u later g more) vars i ++ h.same later more vars i ∷ [])
      ∙ sym (map_push (λ calc. calc vars) ks k);
}

one_operand : {Op : Type 0} (t u : Table) (cs : List (Op × Code)) (ks : List (Op × m.Calc)) (op : Op) (d : Code) (k : m.Calc) → OperandsMean {Op = Op} t cs ks → Grows t u → Means u d k → OperandsMean {Op = Op} u (cs ++ (op, d) ∷ []) (ks ++ (op, k) ∷ [])
one_operand {Op} t u cs ks op d k all g h = record {
  same = λ later more vars.
      map_push {Y = Op × Act Value} (λ e. (e.0, code_value (slots_of later vars) e.1)) cs (op, d)
      ∙ (λ i. all.same later (grows_further t u later g more) vars i ++ (op, h.same later more vars i) ∷ [])
      ∙ sym (map_push {Y = Op × Act Value} (λ e. (e.0, e.1 vars)) ks (op, k));
}

module _ {E : Type 0} (f : E → m.Calc) where
  pub parts_begin : (t : Table) (cs : List Code) (es : List E) → cs ≡ [] → Grows t t × AllMean t cs (map f (take 0 es))
  parts_begin t cs [] is = (grows_itself t, subst (λ l. AllMean t l []) (sym is) (record { same = λ later more vars. refl }))
  parts_begin t cs (e ∷ es) is = (grows_itself t, subst (λ l. AllMean t l []) (sym is) (record { same = λ later more vars. refl }))

  pub parts_more : (s t u : Table) (cs ds : List Code) (d : Code) (es : List E) (i : ℕ) (e : E) → Grows s t × AllMean t cs (map f (take i es)) → Grows t u → Means u d (f e) → ds ≡ cs ++ d ∷ [] → i < length es → e ≡ get_or es i e → Grows s u × AllMean u ds (map f (take (i + 1) es))
  parts_more s t u cs ds d es i e h g means pushed short is =
      (grows_further s t u h.0 g, subst (λ l. AllMean u l (map f (take (i + 1) es))) (sym pushed) (subst (λ l. AllMean u (cs ++ d ∷ []) l) (taken_more f es i e short is) (one_more t u cs (map f (take i es)) d (f e) h.1 g means)))

  pub parts_done : (t : Table) (cs : List Code) (es : List E) (i : ℕ) → AllMean t cs (map f (take i es)) → length es ≤ i → AllMean t cs (map f es)
  parts_done t cs es i h most = subst (λ l. AllMean t cs (map f l)) (take_all i es most) h

module _ {E Op : Type 0} (f : E → Op × m.Calc) where
  pub operands_begin : (t : Table) (cs : List (Op × Code)) (es : List E) → cs ≡ [] → Grows t t × OperandsMean {Op = Op} t cs (map f (take 0 es))
  operands_begin t cs [] is = (grows_itself t, subst (λ l. OperandsMean {Op = Op} t l []) (sym is) (record { same = λ later more vars. refl }))
  operands_begin t cs (e ∷ es) is = (grows_itself t, subst (λ l. OperandsMean {Op = Op} t l []) (sym is) (record { same = λ later more vars. refl }))

  pub operands_more : (s t u : Table) (cs ds : List (Op × Code)) (op : Op) (d : Code) (k : m.Calc) (es : List E) (i : ℕ) (e : E) → f e ≡ (op, k) → Grows s t × OperandsMean {Op = Op} t cs (map f (take i es)) → Grows t u → Means u d k → ds ≡ cs ++ (op, d) ∷ [] → i < length es → e ≡ get_or es i e → Grows s u × OperandsMean {Op = Op} u ds (map f (take (i + 1) es))
  operands_more s t u cs ds op d k es i e gives h g means pushed short is =
      (grows_further s t u h.0 g, subst (λ l. OperandsMean {Op = Op} u l (map f (take (i + 1) es))) (sym pushed) (subst (λ l. OperandsMean {Op = Op} u (cs ++ (op, d) ∷ []) l) (ap (λ o. map f (take i es) ++ o ∷ []) (sym gives) ∙ taken_more f es i e short is) (one_operand t u cs (map f (take i es)) op d k h.1 g means)))

  pub operands_done : (t : Table) (cs : List (Op × Code)) (es : List E) (i : ℕ) → OperandsMean {Op = Op} t cs (map f (take i es)) → length es ≤ i → OperandsMean {Op = Op} t cs (map f es)
  operands_done t cs es i h most = subst (λ l. OperandsMean {Op = Op} t cs (map f l)) (take_all i es most) h
