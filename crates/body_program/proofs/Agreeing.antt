-- What steps do by slots is what statements do by names: the parts, at one table in which no name stands twice.
use Rattle.std.proofs.Common.{◌≡◌, ℕ, zero, suc, Bool, true, false, if◌then◌else◌, List, [], ◌∷◌, ◌++◌, Option, Some, None, slice_get, refl, ap, sym, ◌∙◌}
use Rattle.flow_base.specs.declared.value.Value.{Value}
use Rattle.flow_meaning.specs.Act.{Act, Give, ◌>>=◌}
use Rattle.flow_meaning.specs.Operators.{Text, truth_of}
use Rattle.flow_meaning.specs.Meaning as m
use Rattle.body_program.specs.declared.code.Code.{Code}
use Rattle.body_program.specs.Meaning as code
use Rattle.body_program.specs.Resolved.{Table, IsDistinct, slots_of, store_of, flow_of}
use Rattle.body_program.proofs.Acts.{bind_assoc, bind_give, bind_both}
use Rattle.body_program.proofs.Slots.{slots_put}

-- what an act gives, seen by this function
abbrev pub shown : {A B : Type 0} → (A → B) → Act A → Act B
shown v a = a >>= λ x. Give (v x)

pub through : {A B C D : Type 0} (v : A → B) (w : C → D) (a : Act A) (b : Act B) (f : B → Act D) (g : A → Act C)
    → b ≡ shown v a → ((x : A) → f (v x) ≡ shown w (g x)) → (b >>= f) ≡ shown w (a >>= g)
through v w a b f g e h = ap (λ x. x >>= f) e ∙ (bind_assoc a (λ x. Give (v x)) f ∙ (bind_both a a (λ x. f (v x)) (λ x. shown w (g x)) refl h ∙ sym (bind_assoc a g (λ x. Give (w x)))))

-- the same act, and then what is seen so
pub alike : {A C D : Type 0} (w : C → D) (a b : Act A) (f : A → Act D) (g : A → Act C) → b ≡ a → ((x : A) → f x ≡ shown w (g x)) → (b >>= f) ≡ shown w (a >>= g)
alike w a b f g e h = through (λ x. x) w a b f g (e ∙ sym (bind_give a)) h

module _ (table : Table) where
  abbrev pub told : Act m.Flow → Act code.Flow
  told = shown (flow_of table)

  abbrev pub Agrees : code.Does → m.Does → Type 0
  Agrees d does = (s : m.State) → d (store_of table s) ≡ told (does s)

  and_then_agrees : (d : code.Does) (does : m.Does) → Agrees d does → (f : m.Flow) → code.and_then (flow_of table f) d ≡ told (m.and_then f does)
  and_then_agrees d does h (m.Goes s) = h s
  and_then_agrees d does h (m.Returns v s) = refl

  pub then_agrees : (a : Act m.Flow) (b : Act code.Flow) (d : code.Does) (does : m.Does) → b ≡ told a → Agrees d does → (b >>= λ f. code.and_then f d) ≡ told (a >>= λ f. m.and_then f does)
  then_agrees a b d does e h = through (flow_of table) (flow_of table) a b (λ f. code.and_then f d) (λ f. m.and_then f does) e (and_then_agrees d does h)

  -- ---- sequences

  pub nothing_agrees : Agrees (code.sequence []) (m.sequence [])
  nothing_agrees s = refl

  pub one_agrees : (d : code.Does) (does : m.Does) → Agrees d does → Agrees (code.sequence (d ∷ [])) (m.sequence (does ∷ []))
  one_agrees d does h s = then_agrees (does s) (d (store_of table s)) (code.sequence []) (m.sequence []) (h s) nothing_agrees

-- the last comes behind the others
slots_sequence : (f : code.Flow) (xs ys : List code.Does) → ((s : code.Store) → code.sequence (xs ++ ys) s ≡ (code.sequence xs s >>= λ g. code.and_then g (code.sequence ys)))
    → code.and_then f (code.sequence (xs ++ ys)) ≡ (code.and_then f (code.sequence xs) >>= λ g. code.and_then g (code.sequence ys))
slots_sequence (code.Goes s) xs ys h = h s
slots_sequence (code.Returns v s) xs ys h = refl

pub slots-sequence-append : (xs ys : List code.Does) (s : code.Store) → code.sequence (xs ++ ys) s ≡ (code.sequence xs s >>= λ g. code.and_then g (code.sequence ys))
slots-sequence-append [] ys s = refl
slots-sequence-append (x ∷ xs) ys s =
    bind_both (x s) (x s) (λ f. code.and_then f (code.sequence (xs ++ ys))) (λ f. code.and_then f (code.sequence xs) >>= λ g. code.and_then g (code.sequence ys)) refl (λ f. slots_sequence f xs ys (slots-sequence-append xs ys))
    ∙ sym (bind_assoc (x s) (λ f. code.and_then f (code.sequence xs)) (λ g. code.and_then g (code.sequence ys)))

names_sequence : (f : m.Flow) (xs ys : List m.Does) → ((s : m.State) → m.sequence (xs ++ ys) s ≡ (m.sequence xs s >>= λ g. m.and_then g (m.sequence ys)))
    → m.and_then f (m.sequence (xs ++ ys)) ≡ (m.and_then f (m.sequence xs) >>= λ g. m.and_then g (m.sequence ys))
names_sequence (m.Goes s) xs ys h = h s
names_sequence (m.Returns v s) xs ys h = refl

pub names-sequence-append : (xs ys : List m.Does) (s : m.State) → m.sequence (xs ++ ys) s ≡ (m.sequence xs s >>= λ g. m.and_then g (m.sequence ys))
names-sequence-append [] ys s = refl
names-sequence-append (x ∷ xs) ys s =
    bind_both (x s) (x s) (λ f. m.and_then f (m.sequence (xs ++ ys))) (λ f. m.and_then f (m.sequence xs) >>= λ g. m.and_then g (m.sequence ys)) refl (λ f. names_sequence f xs ys (names-sequence-append xs ys))
    ∙ sym (bind_assoc (x s) (λ f. m.and_then f (m.sequence xs)) (λ g. m.and_then g (m.sequence ys)))

module _ (table : Table) where
  pub both_agree : (ds es : List code.Does) (does more : List m.Does) → Agrees table (code.sequence ds) (m.sequence does) → Agrees table (code.sequence es) (m.sequence more) → Agrees table (code.sequence (ds ++ es)) (m.sequence (does ++ more))
  both_agree ds es does more g h s =
      slots-sequence-append ds es (store_of table s)
      ∙ (then_agrees table (m.sequence does s) (code.sequence ds (store_of table s)) (code.sequence es) (m.sequence more) (g s) h
      ∙ ap (told table) (sym (names-sequence-append does more s)))

  -- ---- variables

  pub put_agrees : IsDistinct table → (k : ℕ) (name : Text) (v : Value) (s : m.State) → slice_get table k ≡ Some name → store_of table (record s { vars = m.put s.vars name v }) ≡ code.with_slot k v (store_of table s)
  put_agrees d k name v s at = λ i. record { slots = slots_put table s.vars k name v d at i; written = s.written; left = s.left }

  pub sets_agree : IsDistinct table → (k : ℕ) (name : Text) (v : Value) (s : m.State) → slice_get table k ≡ Some name → (let a : Act code.Flow = Give (code.Goes (code.with_slot k v (store_of table s))) in a ≡ told table (m.sets name v s))
  sets_agree d k name v s at = ap (λ x. Give (code.Goes x)) (sym (put_agrees d k name v s at))

  -- ---- turns

  turn_from_agrees : (n : ℕ) (s : m.State) → code.turn_from n (store_of table s) ≡ shown (store_of table) (m.turn_from n s)
  turn_from_agrees zero s = refl
  turn_from_agrees (suc n) s = refl

  pub turn_agrees : (s : m.State) → code.turn (store_of table s) ≡ shown (store_of table) (m.turn s)
  turn_agrees s = turn_from_agrees s.left s

  module _ (k : ℕ) (name : Text) (d : code.Does) (does : m.Does) (distinct : IsDistinct table) (at : slice_get table k ≡ Some name) (same : Agrees table d does) where
    in_turn : (item : Value) (s : m.State) → d (code.with_slot k item (store_of table s)) ≡ told table (does (record s { vars = m.put s.vars name item }))
    in_turn item s = ap d (sym (put_agrees distinct k name item s at)) ∙ same (record s { vars = m.put s.vars name item })

    item_turn_agrees : (item : Value) → Agrees table (code.item_turn k d item) (m.item_turn name does item)
    item_turn_agrees item s = through (store_of table) (flow_of table) (m.turn s) (code.turn (store_of table s)) (λ x. d (code.with_slot k item x)) (λ x. does (record x { vars = m.put x.vars name item })) (turn_agrees s) (in_turn item)

    pub each_turn_agrees : (items : List Value) → Agrees table (code.each_turn k d items) (m.each_turn name does items)
    each_turn_agrees [] s = refl
    each_turn_agrees (item ∷ items) s = then_agrees table (m.item_turn name does item s) (code.item_turn k d item (store_of table s)) (code.each_turn k d items) (m.each_turn name does items) (item_turn_agrees item s) (each_turn_agrees items)

  abbrev pub turn_of : Option m.Flow → Option code.Flow
  turn_of (Some f) = Some (flow_of table f)
  turn_of None = None

  module _ (e : Code) (calc : m.Calc) (d : code.Does) (does : m.Does) (means : (vars : m.Vars) → code.code_value (slots_of table vars) e ≡ calc vars) (same : Agrees table d does) where
    body_turn : (s : m.State) → (code.turn (store_of table s) >>= d) ≡ told table (m.turn s >>= does)
    body_turn s = through (store_of table) (flow_of table) (m.turn s) (code.turn (store_of table s)) d does (turn_agrees s) same

    some_turn : (s : m.State) → (code.turn (store_of table s) >>= d >>= λ f. Give (Some f)) ≡ shown turn_of (m.turn s >>= does >>= λ f. Give (Some f))
    some_turn s = through (flow_of table) turn_of (m.turn s >>= does) (code.turn (store_of table s) >>= d) (λ f. Give (Some f)) (λ f. Give (Some f)) (body_turn s) (λ f. refl)

    if_turn : (s : m.State) (holds : Bool)
        → (if holds then (code.turn (store_of table s) >>= d >>= λ f. Give (Some f)) else Give None) ≡ shown turn_of (if holds then (m.turn s >>= does >>= λ f. Give (Some f)) else Give None)
    if_turn s true = some_turn s
    if_turn s false = refl

    one_turn_agrees : (s : m.State) → code.one_turn e d (store_of table s) ≡ shown turn_of (m.one_turn calc does s)
    one_turn_agrees s = alike turn_of (calc s.vars >>= truth_of) (code.code_value (slots_of table s.vars) e >>= truth_of) _ _ (ap (λ a. a >>= truth_of) (means s.vars)) (if_turn s)

    goes_on_agrees : (s : m.State) (next : code.Does) (does_next : m.Does) → Agrees table next does_next → (f : Option m.Flow) → code.goes_on (store_of table s) next (turn_of f) ≡ told table (m.goes_on s does_next f)
    goes_on_agrees s next does_next h None = refl
    goes_on_agrees s next does_next h (Some (m.Goes t)) = h t
    goes_on_agrees s next does_next h (Some (m.Returns v t)) = refl

    while_turns_agrees : (n : ℕ) → Agrees table (code.while_turns n e d) (m.while_turns n calc does)
    while_turns_agrees zero s = refl
    while_turns_agrees (suc n) s = through turn_of (flow_of table) (m.one_turn calc does s) (code.one_turn e d (store_of table s)) (code.goes_on (store_of table s) (code.while_turns n e d)) (m.goes_on s (m.while_turns n calc does)) (one_turn_agrees s) (goes_on_agrees s _ _ (while_turns_agrees n))

    pub repeated_agrees : Agrees table (code.repeated e d) (m.repeated calc does)
    unfolding code.repeated m.repeated
    repeated_agrees s = while_turns_agrees (suc s.left) s
