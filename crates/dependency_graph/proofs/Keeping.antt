-- What each act of a graph keeps.
use Rattle.std.proofs.Common.{◌≡◌, ◌⊎◌, inl, inr, ℕ, zero, suc, ◌+◌, ◌<◌, ◌≤◌, Bool, true, false, ◌||◌, nat_eq, List, [], ◌∷◌, ◌++◌, length, get_or, set, refl, sym, ◌∙◌, ap, subst, arith, eq-eqb, eqb-true, true≢false, cond, append-nil, length-append}
use Rattle.std.specs.List.{filter}
use Rattle.std.proofs.lemmas.Bool.{cases_eq, cases_lt}
use Rattle.std.proofs.lemmas.List.{length-set, get_or-set_same, get_or-set_other}
use Rattle.dependency_graph.specs.declared.callback.FutureState.{FutureState}
use Rattle.dependency_graph.specs.declared.callback.FutureState.TheVariants as state
use Rattle.dependency_graph.specs.CallbackViews.{CallbackView}
use Rattle.dependency_graph.specs.Callbacks.{Callbacks, is_open, state_in, all_settled, has_number, AreDistinctNumbers, AreBelow, waits_at, waiting_on, if_settled, with_open, with_stored, made_ready_by, with_state, IsReadyCallback, IsExact}
use Rattle.dependency_graph.specs.Counts.{open_in, count_at, lowered, freed, AllWait}
use Rattle.dependency_graph.specs.Rows.{row_at, pushed_at, pushed}
use Rattle.dependency_graph.specs.Kept.{IsKept}
use Rattle.dependency_graph.proofs.Numbers.{is-false, apart, has-single, single-has, single-distinct, distinct-append, has-left, has-right, has-either, below-lacks, below-longer}
use Rattle.dependency_graph.proofs.Passes.{Midway, lowered-counts, lowered-length, all-wait, freed-are}
use Rattle.dependency_graph.proofs.Waiting.{waits-distinct, waits-has, waits-none, waits-more, inputs-last, inputs-before, inputs-there}
use Rattle.dependency_graph.proofs.Opens.{open-within, settled-none, open-more, open-other, open-lower}

-- ---- a filter of numbers

has-filter : (p : ℕ → Bool) (c : ℕ) (cs : List ℕ) → has_number c (filter p cs) ≡ true → (p c ≡ true) × (has_number c cs ≡ true)
has-filter p c [] h = absurd (true≢false (sym h))
has-filter p c (d ∷ cs) h = by (p d) refl h (λ rest. has-filter p c cs rest)
  where
    by : (b : Bool) → p d ≡ b → has_number c (cond b (d ∷ filter p cs) (filter p cs)) ≡ true → (has_number c (filter p cs) ≡ true → (p c ≡ true) × (has_number c cs ≡ true)) → (p c ≡ true) × ((nat_eq c d || has_number c cs) ≡ true)
    by true is h rest = first (nat_eq c d) refl h rest
      where
        first : (e : Bool) → nat_eq c d ≡ e → (e || has_number c (filter p cs)) ≡ true → (has_number c (filter p cs) ≡ true → (p c ≡ true) × (has_number c cs ≡ true)) → (p c ≡ true) × ((e || has_number c cs) ≡ true)
        first true same h rest = (ap p (eqb-true c d same) ∙ is, refl)
        first false other h rest = rest h
    by false is h rest = let r = rest h in (r.0, or-second (nat_eq c d) (has_number c cs) r.1)
      where
        or-second : (a b : Bool) → b ≡ true → (a || b) ≡ true
        or-second true b h = refl
        or-second false b h = h

filter-has : (p : ℕ → Bool) (c : ℕ) (cs : List ℕ) → p c ≡ true → has_number c cs ≡ true → has_number c (filter p cs) ≡ true
filter-has p c [] is h = h
filter-has p c (d ∷ cs) is h = by (nat_eq c d) refl h (λ rest. filter-has p c cs is rest)
  where
    by : (e : Bool) → nat_eq c d ≡ e → (e || has_number c cs) ≡ true → (has_number c cs ≡ true → has_number c (filter p cs) ≡ true) → has_number c (cond (p d) (d ∷ filter p cs) (filter p cs)) ≡ true
    by true same h rest = rw (ap p (sym (eqb-true c d same)) ∙ is) (ap (λ (b : Bool). b || has_number c (filter p cs)) same)
    by false other h rest = tail (p d) (rest h)
      where
        tail : (b : Bool) → has_number c (filter p cs) ≡ true → has_number c (cond b (d ∷ filter p cs) (filter p cs)) ≡ true
        tail true h = rw other h
        tail false h = h

filter-distinct : (p : ℕ → Bool) (cs : List ℕ) → AreDistinctNumbers cs → AreDistinctNumbers (filter p cs)
filter-distinct p [] h = tt
filter-distinct p (d ∷ cs) h = by (p d) (filter-distinct p cs h.1)
  where
    by : (b : Bool) → AreDistinctNumbers (filter p cs) → AreDistinctNumbers (cond b (d ∷ filter p cs) (filter p cs))
    by true rest = (is-false (has_number d (filter p cs)) (λ e. true≢false (sym (has-filter p d cs e).1 ∙ h.0)), rest)
    by false rest = rest

filter-same : (p q : ℕ → Bool) (cs : List ℕ) → ((c : ℕ) → p c ≡ q c) → filter p cs ≡ filter q cs
filter-same p q [] h = refl
filter-same p q (c ∷ cs) h = rw (h c, filter-same p q cs h) refl

-- ---- rows

row-here : (rows : List (List ℕ)) (n : ℕ) (r : List ℕ) → n < length rows → row_at (set rows n r) n ≡ r
row-here rows n r below = get_or-set_same rows n r [] below

pushed-row : (ns : List ℕ) (c : ℕ) (rows : List (List ℕ)) → AreDistinctNumbers ns → AreBelow (length rows) ns → (m : ℕ) → row_at (pushed ns c rows) m ≡ row_at rows m ++ if_settled (has_number m ns) c
pushed-row [] c rows apart below m = sym (append-nil (row_at rows m))
pushed-row (n ∷ ns) c rows distinct below m =
    pushed-row ns c (pushed_at rows n c) distinct.1 (subst (λ (k : ℕ). AreBelow k ns) (sym (length-set rows n (row_at rows n ++ c ∷ []))) below.1) m
    ∙ by (nat_eq m n) refl
  where
    by : (b : Bool) → nat_eq m n ≡ b → row_at (pushed_at rows n c) m ++ if_settled (has_number m ns) c ≡ row_at rows m ++ if_settled (b || has_number m ns) c
    by true same =
        let e : m ≡ n = eqb-true m n same in
        let new : has_number m ns ≡ false = ap (λ (k : ℕ). has_number k ns) e ∙ distinct.0 in
        let here : row_at (pushed_at rows n c) m ≡ row_at rows m ++ c ∷ [] = subst (λ (k : ℕ). row_at (pushed_at rows n c) k ≡ row_at rows k ++ c ∷ []) (sym e) (row-here rows n (row_at rows n ++ c ∷ []) below.0) in
        rw new (append-nil (row_at (pushed_at rows n c) m) ∙ here)
    by false other =
        ap (λ (r : List ℕ). r ++ if_settled (has_number m ns) c) (get_or-set_other rows n m (row_at rows n ++ c ∷ []) [] (λ e. true≢false (sym (eq-eqb m n e) ∙ other)))

pushed-length : (ns : List ℕ) (c : ℕ) (rows : List (List ℕ)) → length (pushed ns c rows) ≡ length rows
pushed-length [] c rows = refl
pushed-length (n ∷ ns) c rows = pushed-length ns c (pushed_at rows n c) ∙ length-set rows n (row_at rows n ++ c ∷ [])

-- ---- one more at the end of a list

get-last : (xs : List ℕ) (x : ℕ) (c : ℕ) → c ≡ length xs → get_or (xs ++ x ∷ []) c 0 ≡ x
get-last [] x zero e = refl
get-last [] x (suc c) e = absurd (omega (arith, e))
get-last (y ∷ xs) x zero e = absurd (omega (arith, e))
get-last (y ∷ xs) x (suc c) e = get-last xs x c (omega (arith, e))

get-before : (xs : List ℕ) (x : ℕ) (c : ℕ) → (c ≡ length xs → ⊥) → get_or (xs ++ x ∷ []) c 0 ≡ get_or xs c 0
get-before [] x zero ne = absurd (ne refl)
get-before [] x (suc c) ne = refl
get-before (y ∷ xs) x zero ne = refl
get-before (y ∷ xs) x (suc c) ne = get-before xs x c (λ e. ne (ap suc e))

row-more : (rows : List (List ℕ)) (n : ℕ) → row_at (rows ++ [] ∷ []) n ≡ row_at rows n
row-more [] zero = refl
row-more [] (suc n) = refl
row-more (r ∷ rows) zero = refl
row-more (r ∷ rows) (suc n) = row-more rows n

row-past : (rows : List (List ℕ)) (n : ℕ) → length rows ≤ n → row_at rows n ≡ []
row-past [] n h = refl
row-past (r ∷ rows) zero h = absurd (omega (arith, h))
row-past (r ∷ rows) (suc n) h = row-past rows n (omega (arith, h))

-- ---- one more task

pub kept-grown : (g : Callbacks) (counts : List ℕ) (rows : List (List ℕ)) → IsKept g counts rows → IsKept (with_open g) counts (rows ++ [] ∷ [])
kept-grown g counts rows k =
    let longer : length (g.states ++ state.Open ∷ []) ≡ length g.states + 1 = length-append g.states (state.Open ∷ []) in
    let more : length (rows ++ [] ∷ []) ≡ length rows + 1 = length-append rows ([] ∷ []) in
    let same : (c : ℕ) → open_in (g.states ++ state.Open ∷ []) (waits_at g.waits c) ≡ open_in g.states (waits_at g.waits c) = λ c. open-more g.states state.Open (waits_at g.waits c) (k.below c) in
    let test : (c : ℕ) → all_settled (g.states ++ state.Open ∷ []) (waits_at g.waits c) ≡ all_settled g.states (waits_at g.waits c) = λ c. settled-none (g.states ++ state.Open ∷ []) (waits_at g.waits c) ∙ ap (λ (n : ℕ). nat_eq n 0) (same c) ∙ sym (settled-none g.states (waits_at g.waits c)) in
    record {
      counted = λ c. k.counted c ∙ sym (same c);
      as_many = k.as_many;
      rowed = λ n below. row-more rows n ∙ by-place n (cases n);
      wide = let e = k.wide in omega (arith, longer, more, e);
      below = λ c. below-longer (length g.states) (length (g.states ++ state.Open ∷ [])) (waits_at g.waits c) (omega (arith, longer)) (k.below c);
      distinct = k.distinct;
      given = k.given;
      exact = record {
        once = k.exact.once;
        only = λ c h. let r = k.exact.only c h in record { there = r.there; inputs = test c ∙ r.inputs };
        all = λ c r. k.exact.all c (record { there = r.there; inputs = sym (test c) ∙ r.inputs });
      };
    }
  where
    cases : (n : ℕ) → (n < length g.states) ⊎ (length g.states ≤ n)
    cases n = cases_lt n (length g.states)

    by-place : (n : ℕ) → (n < length g.states) ⊎ (length g.states ≤ n) → row_at rows n ≡ waiting_on n g.waits
    by-place n (inl below) = k.rowed n below
    by-place n (inr past) =
        let e = k.wide in
        row-past rows n (omega (arith, past, e)) ∙ sym (waits-none 0 n g.waits (λ c. below-lacks (length g.states) n (waits_at g.waits c) (k.below c) past))

-- ---- one more callback

module _ (g : Callbacks) (w : CallbackView) (counts : List ℕ) (rows : List (List ℕ)) (k : IsKept g counts rows) (below : AreBelow (length g.states) w.inputs) (distinct : AreDistinctNumbers w.inputs) where
  last : ℕ
  last = length g.waits

  at-last : (P : List ℕ → Type 0) → P w.inputs → ((c : ℕ) → P (waits_at g.waits c)) → (c : ℕ) → P (waits_at (g.waits ++ w ∷ []) c)
  unfolding last
  at-last P here there c = elim (cases_eq c (length g.waits)) [ inl e ↦ subst (λ (d : ℕ). P (waits_at (g.waits ++ w ∷ []) d)) (sym e) (subst P (sym (inputs-last g.waits w)) here) | inr ne ↦ subst P (sym (inputs-before g.waits w c ne)) (there c) ]

  counted-added : (c : ℕ) → count_at (counts ++ open_in g.states w.inputs ∷ []) c ≡ open_in g.states (waits_at (g.waits ++ w ∷ []) c)
  counted-added c = elim (cases_eq c (length g.waits)) [
    | inl e ↦ get-last counts (open_in g.states w.inputs) c (e ∙ sym k.as_many) ∙ sym (ap (open_in g.states) (ap (waits_at (g.waits ++ w ∷ [])) e ∙ inputs-last g.waits w))
    | inr ne ↦ get-before counts (open_in g.states w.inputs) c (λ e. ne (e ∙ k.as_many)) ∙ k.counted c ∙ sym (ap (open_in g.states) (inputs-before g.waits w c ne))
  ]

  exact-added : IsExact (with_stored w g)
  exact-added =
      let b = all_settled g.states w.inputs in
      let n = length g.waits in
      let more : length (g.waits ++ w ∷ []) ≡ n + 1 = length-append g.waits (w ∷ []) in
      record {
        once = distinct-append g.made (if_settled b n) k.exact.once (single-distinct n b) (λ c h. let e = (has-single c n b h).1 in is-false (has_number c g.made) (λ m. let t = (k.exact.only c m).there in absurd (omega (arith, e, t))));
        only = λ c h. elim (has-either c g.made (if_settled b n) h) [
          | inl m ↦ let r = k.exact.only c m in let t = r.there in record { there = omega (arith, more, t); inputs = ap (all_settled g.states) (inputs-before g.waits w c (λ e. absurd (omega (arith, e, t)))) ∙ r.inputs }
          | inr s ↦ let is = has-single c n b s in let e = is.1 in record { there = omega (arith, more, e); inputs = ap (all_settled g.states) (ap (waits_at (g.waits ++ w ∷ [])) e ∙ inputs-last g.waits w) ∙ is.0 }
        ];
        all = λ c r. elim (cases_eq c n) [
          | inl e ↦ has-right c g.made (if_settled b n) (subst (λ (d : ℕ). has_number d (if_settled b n) ≡ true) (sym e) (single-has n b (sym (ap (all_settled g.states) (ap (waits_at (g.waits ++ w ∷ [])) e ∙ inputs-last g.waits w)) ∙ r.inputs)))
          | inr ne ↦ let t = r.there in has-left c g.made (if_settled b n) (k.exact.all c (record { there = omega (arith, more, t, ne); inputs = sym (ap (all_settled g.states) (inputs-before g.waits w c ne)) ∙ r.inputs }))
        ];
      }

  pub kept-added : IsKept (with_stored w g) (counts ++ open_in g.states w.inputs ∷ []) (pushed w.inputs (length g.waits) rows)
  kept-added =
      let wide = k.wide in
      let within : AreBelow (length rows) w.inputs = subst (λ (n : ℕ). AreBelow n w.inputs) (sym k.wide) below in
      record {
        counted = counted-added;
        as_many = length-append counts (open_in g.states w.inputs ∷ []) ∙ ap (λ (n : ℕ). n + 1) k.as_many ∙ sym (length-append g.waits (w ∷ []));
        rowed = λ n h. pushed-row w.inputs (length g.waits) rows distinct within n ∙ ap (λ (l : List ℕ). l ++ if_settled (has_number n w.inputs) (length g.waits)) (k.rowed n h) ∙ sym (waits-more n g.waits w);
        wide = pushed-length w.inputs (length g.waits) rows ∙ k.wide;
        below = at-last (λ ns. AreBelow (length g.states) ns) below k.below;
        distinct = at-last AreDistinctNumbers distinct k.distinct;
        given = let h = k.given in let e = length-append g.made (if_settled (all_settled g.states w.inputs) (length g.waits)) in omega (arith, h, e);
        exact = exact-added;
      }

-- ---- a settlement

module _ (g : Callbacks) (n : ℕ) (s : FutureState) (counts : List ℕ) (rows : List (List ℕ)) (k : IsKept g counts rows) (opened : is_open (state_in g.states n) ≡ true) (closes : is_open s ≡ false) where
  abbrev after : ℕ → ℕ
  after c = open_in (set g.states n s) (waits_at g.waits c)

  row-is : row_at rows n ≡ waiting_on n g.waits
  row-is = k.rowed n (open-within g.states n opened)

  row-distinct : AreDistinctNumbers (row_at rows n)
  row-distinct = subst AreDistinctNumbers (sym row-is) (waits-distinct 0 n g.waits)

  row-has : (c : ℕ) → has_number c (row_at rows n) ≡ has_number n (waits_at g.waits c)
  row-has c = ap (has_number c) row-is ∙ waits-has c n g.waits

  midway : Midway after (row_at rows n) counts
  midway = record {
    waits = λ c h. k.counted c ∙ open-lower g.states n s (waits_at g.waits c) opened closes (k.distinct c) (sym (row-has c) ∙ h);
    rest = λ c h. k.counted c ∙ sym (open-other g.states n s (waits_at g.waits c) (sym (row-has c) ∙ h));
  }

  pub settled-waits : AllWait (row_at rows n) counts
  settled-waits = all-wait after (row_at rows n) counts row-distinct midway

  pub settled-made : freed (row_at rows n) counts ≡ made_ready_by (set g.states n s) g.waits n
  settled-made =
      freed-are after (row_at rows n) counts row-distinct midway
      ∙ filter-same (λ c. nat_eq (after c) 0) (λ c. all_settled (set g.states n s) (waits_at g.waits c)) (row_at rows n) (λ c. sym (settled-none (set g.states n s) (waits_at g.waits c)))
      ∙ ap (filter (λ c. all_settled (set g.states n s) (waits_at g.waits c))) row-is

  -- a callback that waits for the task isn't ready before
  not-yet : (c : ℕ) → has_number n (waits_at g.waits c) ≡ true → all_settled g.states (waits_at g.waits c) ≡ true → ⊥
  not-yet c h all =
      let more = open-lower g.states n s (waits_at g.waits c) opened closes (k.distinct c) h in
      let none : open_in g.states (waits_at g.waits c) ≡ 0 = eqb-true _ _ (sym (settled-none g.states (waits_at g.waits c)) ∙ all) in
      omega (arith, more, none)

  same-test : (c : ℕ) → has_number n (waits_at g.waits c) ≡ false → all_settled (set g.states n s) (waits_at g.waits c) ≡ all_settled g.states (waits_at g.waits c)
  same-test c h = settled-none (set g.states n s) (waits_at g.waits c) ∙ ap (λ (m : ℕ). nat_eq m 0) (open-other g.states n s (waits_at g.waits c) h) ∙ sym (settled-none g.states (waits_at g.waits c))

  exact-settled : IsExact (with_state n s g)
  exact-settled =
      let test : ℕ → Bool = λ c. all_settled (set g.states n s) (waits_at g.waits c) in
      let news = made_ready_by (set g.states n s) g.waits n in
      record {
        once = distinct-append g.made news k.exact.once (filter-distinct test (waiting_on n g.waits) (waits-distinct 0 n g.waits))
            (λ c h. let is = has-filter test c (waiting_on n g.waits) h in is-false (has_number c g.made) (λ m. not-yet c (sym (waits-has c n g.waits) ∙ is.1) (k.exact.only c m).inputs));
        only = λ c h. elim (has-either c g.made news h) [
          | inl m ↦ let r = k.exact.only c m in record { there = r.there; inputs = same-test c (is-false (has_number n (waits_at g.waits c)) (λ e. not-yet c e r.inputs)) ∙ r.inputs }
          | inr m ↦ let is = has-filter test c (waiting_on n g.waits) m in record { there = inputs-there g.waits c n (sym (waits-has c n g.waits) ∙ is.1); inputs = is.0 }
        ];
        all = λ c r. by c r (has_number n (waits_at g.waits c)) refl;
      }
    where
      by : (c : ℕ) → IsReadyCallback (with_state n s g) c → (b : Bool) → has_number n (waits_at g.waits c) ≡ b → has_number c (g.made ++ made_ready_by (set g.states n s) g.waits n) ≡ true
      by c r true h = has-right c g.made _ (filter-has (λ c. all_settled (set g.states n s) (waits_at g.waits c)) c (waiting_on n g.waits) r.inputs (waits-has c n g.waits ∙ h))
      by c r false h = has-left c g.made _ (k.exact.all c (record { there = r.there; inputs = sym (same-test c h) ∙ r.inputs }))

  pub kept-settled : IsKept (with_state n s g) (lowered (row_at rows n) counts) rows
  kept-settled =
      let wide : length (set g.states n s) ≡ length g.states = length-set g.states n s in
      record {
        counted = lowered-counts after (row_at rows n) counts row-distinct midway;
        as_many = lowered-length after (row_at rows n) counts ∙ k.as_many;
        rowed = λ m h. k.rowed m (omega (arith, wide, h));
        wide = k.wide ∙ sym wide;
        below = λ c. subst (λ (m : ℕ). AreBelow m (waits_at g.waits c)) (sym wide) (k.below c);
        distinct = k.distinct;
        given = let h = k.given in let e = length-append g.made (made_ready_by (set g.states n s) g.waits n) in omega (arith, h, e);
        exact = exact-settled;
      }
