-- Lists of distinct numbers.
use Rattle.std.proofs.Common.{◌≡◌, ◌⊎◌, inl, inr, ℕ, ◌+◌, ◌<◌, ◌≤◌, Bool, true, false, ◌&&◌, ◌||◌, nat_eq, List, [], ◌∷◌, ◌++◌, length, get_or, drop, refl, sym, ◌∙◌, ap, arith, eq-eqb, eqb-true, true≢false, add-one, drop-cons}
use Rattle.dependency_graph.specs.Callbacks.{has_number, AreDistinctNumbers, AreBelow, if_settled}

pub or-split : (a b : Bool) → (a || b) ≡ false → (a ≡ false) × (b ≡ false)
or-split true b h = absurd (true≢false h)
or-split false b h = (refl, h)

pub or-cases : (a b : Bool) → (a || b) ≡ true → (a ≡ true) ⊎ (b ≡ true)
or-cases true b h = inl refl
or-cases false b h = inr h

pub or-right : (a b : Bool) → b ≡ true → (a || b) ≡ true
or-right true b h = refl
or-right false b h = h

or-false : (a : Bool) → (a || false) ≡ a
or-false true = refl
or-false false = refl

or-assoc : (a b c : Bool) → (a || (b || c)) ≡ ((a || b) || c)
or-assoc true b c = refl
or-assoc false b c = refl

pub and-split : (a b : Bool) → (a && b) ≡ true → (a ≡ true) × (b ≡ true)
and-split true b h = (refl, h)
and-split false b h = absurd (true≢false (sym h))

pub is-false : (b : Bool) → (b ≡ true → ⊥) → b ≡ false
is-false true h = absurd (h refl)
is-false false h = refl

pub apart : (n m : ℕ) → nat_eq n m ≡ false → m ≡ n → ⊥
apart n m h e = true≢false (sym (eq-eqb n m (sym e)) ∙ h)

pub not-eq : (n m : ℕ) → (n ≡ m → ⊥) → nat_eq n m ≡ false
not-eq n m ne = is-false (nat_eq n m) (λ h. ne (eqb-true n m h))

-- what is left of a list begins with the next element
pub next-of : (ns : List ℕ) (i n : ℕ) → i < length ns → n ≡ get_or ns i 0 → drop i ns ≡ n ∷ drop (i + 1) ns
next-of ns i n short is = drop-cons ns i 0 short ∙ rw (is, add-one) refl

pub has-append : (n : ℕ) (ms ks : List ℕ) → has_number n (ms ++ ks) ≡ (has_number n ms || has_number n ks)
has-append n [] ks = refl
has-append n (m ∷ ms) ks = ap (λ (b : Bool). nat_eq n m || b) (has-append n ms ks) ∙ or-assoc (nat_eq n m) (has_number n ms) (has_number n ks)

-- numbers below a bound don't have the bound
pub below-lacks : (k n : ℕ) (ns : List ℕ) → AreBelow k ns → k ≤ n → has_number n ns ≡ false
below-lacks k n [] h le = refl
below-lacks k n (m ∷ ms) h le = rw (not-eq n m (λ e. absurd (omega (arith, e, h.0)))) (below-lacks k n ms h.1 le)

pub below-longer : (k j : ℕ) (ns : List ℕ) → k ≤ j → AreBelow k ns → AreBelow j ns
below-longer k j [] le h = tt
below-longer k j (m ∷ ms) le h = let first = h.0 in (omega (arith, first), below-longer k j ms le h.1)

pub has-single : (n c : ℕ) (b : Bool) → has_number n (if_settled b c) ≡ true → (b ≡ true) × (n ≡ c)
has-single n c true h = (refl, eqb-true n c (sym (or-false (nat_eq n c)) ∙ h))
has-single n c false h = absurd (true≢false (sym h))

pub single-has : (c : ℕ) (b : Bool) → b ≡ true → has_number c (if_settled b c) ≡ true
single-has c true h = ap (λ (x : Bool). x || false) (eq-eqb c c refl)
single-has c false h = absurd (true≢false (sym h))

pub single-distinct : (c : ℕ) (b : Bool) → AreDistinctNumbers (if_settled b c)
single-distinct c true = (refl, tt)
single-distinct c false = tt

-- two lists with nothing in common
pub distinct-append : (ms ks : List ℕ) → AreDistinctNumbers ms → AreDistinctNumbers ks → ((n : ℕ) → has_number n ks ≡ true → has_number n ms ≡ false) → AreDistinctNumbers (ms ++ ks)
distinct-append [] ks a b none = b
distinct-append (m ∷ ms) ks a b none = (
  has-append m ms ks ∙ rw a.0 (is-false (has_number m ks) (λ h. true≢false (sym (eq-eqb m m refl) ∙ (or-split (nat_eq m m) (has_number m ms) (none m h)).0))),
  distinct-append ms ks a.1 b (λ n h. (or-split (nat_eq n m) (has_number n ms) (none n h)).1),
)

pub has-left : (n : ℕ) (ms ks : List ℕ) → has_number n ms ≡ true → has_number n (ms ++ ks) ≡ true
has-left n ms ks h = has-append n ms ks ∙ rw h refl

pub has-right : (n : ℕ) (ms ks : List ℕ) → has_number n ks ≡ true → has_number n (ms ++ ks) ≡ true
has-right n ms ks h = has-append n ms ks ∙ or-right (has_number n ms) (has_number n ks) h

pub has-either : (n : ℕ) (ms ks : List ℕ) → has_number n (ms ++ ks) ≡ true → (has_number n ms ≡ true) ⊎ (has_number n ks ≡ true)
has-either n ms ks h = or-cases (has_number n ms) (has_number n ks) (sym (has-append n ms ks) ∙ h)
