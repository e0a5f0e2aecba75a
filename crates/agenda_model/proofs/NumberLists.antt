-- Lists that get one more at the end, or from which one is taken, and the first of them.
use Rattle.std.proofs.Common.{◌≡◌, ◌≢◌, ◌⊎◌, inl, inr, ℕ, zero, suc, ◌<◌, ◌≤◌, Bool, true, false, ◌||◌, nat_eq, List, [], ◌∷◌, ◌++◌, length, take, remove, Some, refl, sym, ◌∙◌, ap, arith, eq-eqb, eqb-true, true≢false, slice_get}
use Rattle.dependency_graph.specs.Callbacks.{has_number, AreDistinctNumbers}
use Rattle.dependency_graph.proofs.Numbers.{is-false, not-eq, or-cases, or-right}

pub take-front : (xs ys : List ℕ) (i : ℕ) → i ≤ length xs → take i (xs ++ ys) ≡ take i xs
take-front xs ys zero h = refl
take-front [] ys (suc i) h = absurd (omega (arith, h))
take-front (x ∷ xs) ys (suc i) h = ap (λ (l : List ℕ). x ∷ l) (take-front xs ys i (omega (arith, h)))

or_keeps : (a b c : Bool) → (b ≡ true → c ≡ true) → (a || b) ≡ true → (a || c) ≡ true
or_keeps true b c f h = refl
or_keeps false b c f h = f h

pub take-has : (n i : ℕ) (xs : List ℕ) → has_number n (take i xs) ≡ true → has_number n xs ≡ true
take-has n zero xs h = absurd (true≢false (sym h))
take-has n (suc i) [] h = absurd (true≢false (sym h))
take-has n (suc i) (x ∷ xs) h = or_keeps (nat_eq n x) (has_number n (take i xs)) (has_number n xs) (take-has n i xs) h

-- ---- one more at the end

pub get-front : {A : Type 0} → (xs : List A) (x y : A) (i : ℕ) → slice_get xs i ≡ Some y → slice_get (xs ++ x ∷ []) i ≡ Some y
get-front [] x y i h = absurd (cc)
get-front (z ∷ xs) x y zero h = h
get-front (z ∷ xs) x y (suc i) h = get-front xs x y i h

pub get-last : {A : Type 0} → (xs : List A) (x : A) → slice_get (xs ++ x ∷ []) (length xs) ≡ Some x
get-last [] x = refl
get-last (y ∷ xs) x = get-last xs x

pub record IsLast {A : Type 0} (xs : List A) (x y : A) (i : ℕ) : Type 0 where
  pub at : i ≡ length xs
  pub is : y ≡ x

pub get-cases : {A : Type 0} → (xs : List A) (x y : A) (i : ℕ) → slice_get (xs ++ x ∷ []) i ≡ Some y → (slice_get xs i ≡ Some y) ⊎ IsLast xs x y i
get-cases [] x y zero h = inr (record { at = refl; is = cc })
get-cases [] x y (suc i) h = absurd (cc)
get-cases (z ∷ xs) x y zero h = inl h
get-cases (z ∷ xs) x y (suc i) h = elim (get-cases xs x y i h) [ inl old ↦ inl old | inr new ↦ inr (record { at = ap suc new.at; is = new.is }) ]

-- ---- the number at a place

pub get-has : (xs : List ℕ) (i k : ℕ) → slice_get xs i ≡ Some k → has_number k xs ≡ true
get-has [] i k h = absurd (cc)
get-has (x ∷ xs) zero k h = let same : k ≡ x = cc in ap (λ (b : Bool). b || has_number k xs) (eq-eqb k x same)
get-has (x ∷ xs) (suc i) k h = or-right (nat_eq k x) (has_number k xs) (get-has xs i k h)

pub record IsAtPlace (xs : List ℕ) (k : ℕ) : Type 0 where
  pub place : ℕ
  pub there : slice_get xs place ≡ Some k

pub has-place : (xs : List ℕ) (k : ℕ) → has_number k xs ≡ true → IsAtPlace xs k
has-place [] k h = absurd (true≢false (sym h))
has-place (x ∷ xs) k h = elim (or-cases (nat_eq k x) (has_number k xs) h) [
  | inl same ↦ record { place = 0; there = ap Some (sym (eqb-true k x same)) }
  | inr rest ↦ let r = has-place xs k rest in record { place = suc r.place; there = r.there }
]

-- ---- one is taken from a place

pub remove-has : (xs : List ℕ) (i n : ℕ) → has_number n (remove xs i) ≡ true → has_number n xs ≡ true
remove-has [] zero n h = h
remove-has [] (suc i) n h = h
remove-has (x ∷ xs) zero n h = or-right (nat_eq n x) (has_number n xs) h
remove-has (x ∷ xs) (suc i) n h = or_keeps (nat_eq n x) (has_number n (remove xs i)) (has_number n xs) (remove-has xs i n) h

pub remove-keeps : (xs : List ℕ) (i k n : ℕ) → slice_get xs i ≡ Some k → n ≢ k → has_number n xs ≡ true → has_number n (remove xs i) ≡ true
remove-keeps [] i k n at ne h = absurd (cc)
remove-keeps (x ∷ xs) zero k n at ne h = elim (or-cases (nat_eq n x) (has_number n xs) h) [
  | inl same ↦ let here : x ≡ k = cc in absurd (ne (eqb-true n x same ∙ here))
  | inr rest ↦ rest
]
remove-keeps (x ∷ xs) (suc i) k n at ne h = or_keeps (nat_eq n x) (has_number n xs) (has_number n (remove xs i)) (remove-keeps xs i k n at ne) h

pub remove-distinct : (xs : List ℕ) (i : ℕ) → AreDistinctNumbers xs → AreDistinctNumbers (remove xs i)
remove-distinct [] zero h = h
remove-distinct [] (suc i) h = h
remove-distinct (x ∷ xs) zero h = h.1
remove-distinct (x ∷ xs) (suc i) h = (is-false (has_number x (remove xs i)) (λ has. true≢false (sym (remove-has xs i x has) ∙ h.0)), remove-distinct xs i h.1)

pub remove-lacks : (xs : List ℕ) (i k : ℕ) → AreDistinctNumbers xs → slice_get xs i ≡ Some k → has_number k (remove xs i) ≡ false
remove-lacks [] i k h at = absurd (cc)
remove-lacks (x ∷ xs) zero k h at = let same : k ≡ x = cc in ap (λ (n : ℕ). has_number n xs) same ∙ h.0
remove-lacks (x ∷ xs) (suc i) k h at =
    let other : nat_eq k x ≡ false = not-eq k x (λ same. true≢false (sym (ap (λ (n : ℕ). has_number n xs) (sym same) ∙ get-has xs i k at) ∙ h.0)) in
    rw other (remove-lacks xs i k h.1 at)

-- what stands before the place stays there, and what stood behind it moves up
pub remove-front : (xs : List ℕ) (i n k : ℕ) → n < i → slice_get (remove xs i) n ≡ Some k → slice_get xs n ≡ Some k
remove-front [] zero n k lt at = at
remove-front [] (suc i) n k lt at = at
remove-front (x ∷ xs) zero n k lt at = absurd (omega (arith, lt))
remove-front (x ∷ xs) (suc i) zero k lt at = at
remove-front (x ∷ xs) (suc i) (suc n) k lt at = remove-front xs i n k (omega (arith, lt)) at

pub remove-behind : (xs : List ℕ) (i n k : ℕ) → i ≤ n → slice_get (remove xs i) n ≡ Some k → slice_get xs (suc n) ≡ Some k
remove-behind [] zero n k le at = absurd (cc)
remove-behind [] (suc i) n k le at = absurd (cc)
remove-behind (x ∷ xs) zero n k le at = at
remove-behind (x ∷ xs) (suc i) zero k le at = absurd (omega (arith, le))
remove-behind (x ∷ xs) (suc i) (suc n) k le at = remove-behind xs i n k (omega (arith, le)) at
