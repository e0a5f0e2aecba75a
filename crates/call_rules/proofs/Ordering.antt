-- Lists of tasks in the order of their paths.
use Rattle.std.proofs.Common.{◌≡◌, ◌≢◌, ℕ, suc, ◌<◌, Bool, true, false, [], ◌∷◌, ◌++◌, Option, Some, None, refl, sym, ◌∙◌, ap, subst, arith, bytes_eq, inl, inr}
use Rattle.std.specs.Prelude.{if◌then◌else◌, ◌||◌, ◌&&◌, nat_lt, nat_eq}
use Rattle.std.proofs.lemmas.Bool.{cases_lt, cases_eq}
use Rattle.std.proofs.lemmas.Bool.Decides.{nat_tests}
use Rattle.std.proofs.lemmas.Slice.Eq.{bytes_eq-Decides}
use Rattle.flow_meaning.specs.Inputs.{Path}
use Rattle.flow_meaning.specs.Sequential.{Task, Tasks}
use Rattle.body_requests.specs.Asks.{Each}
use Rattle.call_rules.specs.Calls.{found}
use Rattle.call_rules.specs.Orders.{path_less, placed, in_order, Ascending}
use Rattle.call_rules.proofs.Tasks.{found-first, found-other, same-some}
use Rattle.call_rules.proofs.Plain.{each-map}

-- ---- the order of paths

lt_true : (x y : ℕ) → x < y → nat_lt x y ≡ true
lt_true x y lt = grind (arith, nat_tests)

lt_of : (x y : ℕ) → nat_lt x y ≡ true → x < y
lt_of x y t = grind (arith, nat_tests)

eq_true : (x : ℕ) → nat_eq x x ≡ true
eq_true x = grind (arith, nat_tests)

eq_of : (x y : ℕ) → nat_eq x y ≡ true → x ≡ y
eq_of x y t = grind (arith, nat_tests)

-- how two paths that begin with numbers compare
data Compared (x y : ℕ) (xs ys : Path) : Type 0 where
  by_first : x < y → Compared x y xs ys
  by_rest : x ≡ y → path_less xs ys ≡ true → Compared x y xs ys

compared : (x y : ℕ) (xs ys : Path) → path_less (x ∷ xs) (y ∷ ys) ≡ true → Compared x y xs ys
compared x y xs ys h = by_test (nat_lt x y) (nat_eq x y) refl refl h
  where
    by_test : (a b : Bool) → nat_lt x y ≡ a → nat_eq x y ≡ b → (a || (b && path_less xs ys)) ≡ true → Compared x y xs ys
    by_test true b p q g = by_first (lt_of x y p)
    by_test false true p q g = by_rest (eq_of x y q) g
    by_test false false p q g = absurd (cc)

less_first : (x y : ℕ) (xs ys : Path) → x < y → path_less (x ∷ xs) (y ∷ ys) ≡ true
less_first x y xs ys lt = rw (lt_true x y lt) refl

or_true : (a : Bool) → (a || true) ≡ true
or_true true = refl
or_true false = refl

less_rest : (x : ℕ) (xs ys : Path) → path_less xs ys ≡ true → path_less (x ∷ xs) (x ∷ ys) ≡ true
less_rest x xs ys h = rw (eq_true x, h) (or_true (nat_lt x x))

pub less-trans : (xs ys zs : Path) → path_less xs ys ≡ true → path_less ys zs ≡ true → path_less xs zs ≡ true
less-trans xs ys [] h g = absurd (cc)
less-trans xs [] (z ∷ zs) h g = absurd (cc)
less-trans [] (y ∷ ys) (z ∷ zs) h g = refl
less-trans (x ∷ xs) (y ∷ ys) (z ∷ zs) h g = by_both (compared x y xs ys h) (compared y z ys zs g) (less-trans xs ys zs)
  where
    by_both : Compared x y xs ys → Compared y z ys zs → (path_less xs ys ≡ true → path_less ys zs ≡ true → path_less xs zs ≡ true) → path_less (x ∷ xs) (z ∷ zs) ≡ true
    by_both (by_first a) (by_first b) further = less_first x z xs zs (omega arith)
    by_both (by_first a) (by_rest b e) further = less_first x z xs zs (omega arith)
    by_both (by_rest a d) (by_first b) further = less_first x z xs zs (omega arith)
    by_both (by_rest a d) (by_rest b e) further = subst (λ (n : ℕ). path_less (x ∷ xs) (n ∷ zs) ≡ true) (a ∙ b) (less_rest x xs zs (further d e))

pub less-irrefl : (xs : Path) → path_less xs xs ≡ true → ⊥
less-irrefl [] h = absurd (cc)
less-irrefl (x ∷ xs) h = by_case (compared x x xs xs h) (less-irrefl xs)
  where
    by_case : Compared x x xs xs → (path_less xs xs ≡ true → ⊥) → ⊥
    by_case (by_first lt) further = absurd (omega arith)
    by_case (by_rest e g) further = further g

pub less-total : (xs ys : Path) → path_less xs ys ≡ false → xs ≢ ys → path_less ys xs ≡ true
less-total [] [] h ne = absurd (ne refl)
less-total (x ∷ xs) [] h ne = refl
less-total [] (y ∷ ys) h ne = absurd (cc)
less-total (x ∷ xs) (y ∷ ys) h ne =
    elim (cases_lt x y) [
      | inl lt ↦ absurd (let yes = less_first x y xs ys lt in cc)
      | inr ge ↦ elim (cases_eq x y) [
        | inl eq ↦ subst (λ (n : ℕ). path_less (n ∷ ys) (x ∷ xs) ≡ true) eq (less_rest x ys xs (less-total xs ys (not_less eq) (λ same. ne (rw (eq, same) refl))))
        | inr other ↦ less_first y x ys xs (omega arith)
      ]
    ]
  where
    not_less : x ≡ y → path_less xs ys ≡ false
    not_less eq = by_test (path_less xs ys) refl
      where
        by_test : (t : Bool) → path_less xs ys ≡ t → path_less xs ys ≡ false
        by_test false e = e
        by_test true e = absurd (let yes = subst (λ (n : ℕ). path_less (x ∷ xs) (n ∷ ys) ≡ true) eq (less_rest x xs ys e) in cc)

-- calls of one caller, and what is below them
pub less-number : (caller : Path) (i j : ℕ) (ps qs : Path) → i < j → path_less (caller ++ suc i ∷ ps) (caller ++ suc j ∷ qs) ≡ true
less-number [] i j ps qs lt = less_first (suc i) (suc j) ps qs (omega arith)
less-number (x ∷ caller) i j ps qs lt = less_rest x (caller ++ suc i ∷ ps) (caller ++ suc j ∷ qs) (less-number caller i j ps qs lt)

pub less-below : (path : Path) (i : ℕ) (rest : Path) → path_less path (path ++ suc i ∷ rest) ≡ true
less-below [] i rest = refl
less-below (x ∷ path) i rest = less_rest x path (path ++ suc i ∷ rest) (less-below path i rest)

-- ---- ordered lists

abbrev pub After : Path → Tasks → Type 0
After p ts = Each (λ (s : Task). path_less p s.path ≡ true) ts

found_after : (p q : Path) (ts : Tasks) (t : Task) → After p ts → found ts q ≡ Some t → path_less p q ≡ true
found_after p q [] t h e = absurd (cc)
found_after p q (s ∷ ts) t h e = by_test (bytes_eq s.path q) refl (found_after p q ts t h.1)
  where
    by_test : (b : Bool) → bytes_eq s.path q ≡ b → (found ts q ≡ Some t → path_less p q ≡ true) → path_less p q ≡ true
    by_test true is further = subst (λ (r : Path). path_less p r ≡ true) ((bytes_eq-Decides s.path q).0 is) h.0
    by_test false is further = further (rw is at e)

none_after : (p : Path) (ts : Tasks) → After p ts → found ts p ≡ None
none_after p ts h = by_found (found ts p) refl
  where
    by_found : (r : Option Task) → found ts p ≡ r → found ts p ≡ None
    by_found None e = e
    by_found (Some t) e = absurd (less-irrefl p (found_after p p ts t h e))

-- two ordered lists with the same tasks are the same
pub order-unique : (ts us : Tasks) → Ascending ts → Ascending us → ((p : Path) → found ts p ≡ found us p) → ts ≡ us
order-unique [] [] a b same = refl
order-unique [] (u ∷ us) a b same = absurd (let f = found-first u us in let g = same u.path in cc)
order-unique (t ∷ ts) [] a b same = absurd (let f = found-first t ts in let g = same t.path in cc)
order-unique (t ∷ ts) (u ∷ us) a b same = by_test (bytes_eq t.path u.path) refl (order-unique ts us a.1 b.1)
  where
    equal : t.path ≡ u.path → t ≡ u
    equal e = same-some t u (sym (found-first t ts) ∙ same t.path ∙ ap (found (u ∷ us)) e ∙ found-first u us)

    rest : t.path ≡ u.path → (p : Path) → found ts p ≡ found us p
    rest e p = by_here (bytes_eq t.path p) refl
      where
        by_here : (x : Bool) → bytes_eq t.path p ≡ x → found ts p ≡ found us p
        by_here true is =
            let here : t.path ≡ p = (bytes_eq-Decides t.path p).0 is in
            subst (λ (q : Path). found ts q ≡ found us q) here (none_after t.path ts a.0 ∙ sym (ap (found us) e ∙ none_after u.path us b.0))
        by_here false is =
            let other : t.path ≢ p = λ g. (let yes = (bytes_eq-Decides t.path p).1 g in cc) in
            sym (found-other t ts p other) ∙ same p ∙ found-other u us p (λ g. other (e ∙ g))

    by_test : (x : Bool) → bytes_eq t.path u.path ≡ x → (((p : Path) → found ts p ≡ found us p) → ts ≡ us) → t ∷ ts ≡ u ∷ us
    by_test true is further = let e = (bytes_eq-Decides t.path u.path).0 is in rw (equal e, further (rest e)) refl
    by_test false is further =
        let ne : t.path ≢ u.path = λ g. (let yes = (bytes_eq-Decides t.path u.path).1 g in cc) in
        let one = found_after u.path t.path us t b.0 (sym (found-other u us t.path (λ g. ne (sym g))) ∙ sym (same t.path) ∙ found-first t ts) in
        let two = found_after t.path u.path ts u a.0 (sym (found-other t ts u.path ne) ∙ same u.path ∙ found-first u us) in
        absurd (less-irrefl t.path (less-trans t.path u.path t.path two one))

-- a task that isn't there yet, in its place
record IsPut (t : Task) (ts : Tasks) : Type 0 where
  ascending : Ascending (placed t ts)
  same : (p : Path) → found (placed t ts) p ≡ found (t ∷ ts) p
  each : (p : Path) → path_less p t.path ≡ true → After p ts → After p (placed t ts)

put : (t : Task) (ts : Tasks) → Ascending ts → found ts t.path ≡ None → IsPut t ts
put t [] a none = record { ascending = (tt, tt); same = λ p. refl; each = λ p here h. (here, tt) }
put t (s ∷ ts) a none = by_test (path_less t.path s.path) refl (put t ts a.1)
  where
    ne : s.path ≢ t.path
    ne e = let f : found (s ∷ ts) t.path ≡ Some s = ap (found (s ∷ ts)) (sym e) ∙ found-first s ts in absurd (cc)

    later : found ts t.path ≡ None
    later = sym (found-other s ts t.path ne) ∙ none

    swap : (rest : Tasks) (p : Path) → found rest p ≡ found (t ∷ ts) p → found (s ∷ rest) p ≡ found (t ∷ s ∷ ts) p
    swap rest p e = by_s (bytes_eq s.path p) refl
      where
        by_t : s.path ≢ p → (x : Bool) → bytes_eq t.path p ≡ x → found rest p ≡ found (t ∷ s ∷ ts) p
        by_t other true is = let here = (bytes_eq-Decides t.path p).0 is in e ∙ subst (λ (q : Path). found (t ∷ ts) q ≡ found (t ∷ s ∷ ts) q) here (found-first t ts ∙ sym (found-first t (s ∷ ts)))
        by_t other false is =
            let not_t : t.path ≢ p = λ g. (let yes = (bytes_eq-Decides t.path p).1 g in cc) in
            e ∙ found-other t ts p not_t ∙ sym (found-other s ts p other) ∙ sym (found-other t (s ∷ ts) p not_t)

        by_s : (x : Bool) → bytes_eq s.path p ≡ x → found (s ∷ rest) p ≡ found (t ∷ s ∷ ts) p
        by_s true is =
            let here : s.path ≡ p = (bytes_eq-Decides s.path p).0 is in
            subst (λ (q : Path). found (s ∷ rest) q ≡ found (t ∷ s ∷ ts) q) here (found-first s rest ∙ sym (found-other t (s ∷ ts) s.path (λ g. ne (sym g)) ∙ found-first s ts))
        by_s false is =
            let other : s.path ≢ p = λ g. (let yes = (bytes_eq-Decides s.path p).1 g in cc) in
            found-other s rest p other ∙ by_t other (bytes_eq t.path p) refl

    by_test : (x : Bool) → path_less t.path s.path ≡ x → (found ts t.path ≡ None → IsPut t ts) → IsPut t (s ∷ ts)
    by_test true is further =
        let front : placed t (s ∷ ts) ≡ t ∷ s ∷ ts = rw is refl in
        record {
          ascending = subst Ascending (sym front) ((is, each-map (λ (x : Task). path_less s.path x.path ≡ true) (λ (x : Task). path_less t.path x.path ≡ true) (λ x lt. less-trans t.path s.path x.path is lt) ts a.0), a);
          same = λ p. ap (λ (l : Tasks). found l p) front;
          each = λ p here h. subst (After p) (sym front) (here, h);
        }
    by_test false is further =
        let put_later = further later in
        let front : placed t (s ∷ ts) ≡ s ∷ placed t ts = rw is refl in
        let less : path_less s.path t.path ≡ true = less-total t.path s.path is (λ g. ne (sym g)) in
        record {
          ascending = subst Ascending (sym front) (put_later.each s.path less a.0, put_later.ascending);
          same = λ p. ap (λ (l : Tasks). found l p) front ∙ swap (placed t ts) p (put_later.same p);
          each = λ p here h. subst (After p) (sym front) (h.0, put_later.each p here h.1);
        }

-- no path stands twice
abbrev pub NoneTwice : Tasks → Type 0
NoneTwice [] = Unit {0}
NoneTwice (t ∷ ts) = (found ts t.path ≡ None) × NoneTwice ts

pub order-all : (ts : Tasks) → NoneTwice ts → Ascending (in_order ts) × ((p : Path) → found (in_order ts) p ≡ found ts p)
order-all [] h = (tt, λ p. refl)
order-all (t ∷ ts) h =
    let rest = order-all ts h.1 in
    let one = put t (in_order ts) rest.0 (rest.1 t.path ∙ h.0) in
    (one.ascending, λ p. one.same p ∙ by_here p (rest.1 p))
  where
    by_here : (p : Path) → found (in_order ts) p ≡ found ts p → found (t ∷ in_order ts) p ≡ found (t ∷ ts) p
    by_here p e = ap (λ (r : Option Task). if bytes_eq t.path p then Some t else r) e

-- ---- one list behind another

pub ascending-append : (ts us : Tasks) → Ascending ts → Ascending us → Each (λ (t : Task). After t.path us) ts → Ascending (ts ++ us)
ascending-append [] us a b h = b
ascending-append (t ∷ ts) us a b h = (each_both ts us a.0 h.0, ascending-append ts us a.1 b h.1)
  where
    each_both : (xs ys : Tasks) → After t.path xs → After t.path ys → After t.path (xs ++ ys)
    each_both [] ys f g = g
    each_both (x ∷ xs) ys f g = (f.0, each_both xs ys f.1 g)

-- what holds of each path that is found holds of each task's
pub each-found : (P : Path → Type 0) (ts : Tasks) → ((p : Path) (t : Task) → found ts p ≡ Some t → P p) → Each (λ (t : Task). P t.path) ts
each-found P [] h = tt
each-found P (s ∷ ts) h = (h s.path s (found-first s ts), each-found P ts (λ p t e. by_here p t e (bytes_eq s.path p) refl))
  where
    by_here : (p : Path) (t : Task) → found ts p ≡ Some t → (b : Bool) → bytes_eq s.path p ≡ b → P p
    by_here p t e true is = h p s (rw is refl)
    by_here p t e false is = h p t (rw is e)
