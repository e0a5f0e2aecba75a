-- Open tasks among inputs.
use Rattle.std.proofs.Common.{◌≡◌, ℕ, zero, suc, ◌+◌, ◌<◌, Bool, true, false, not, ◌&&◌, ◌||◌, nat_eq, List, [], ◌∷◌, ◌++◌, length, set, refl, sym, ◌∙◌, ap, subst, arith, eqb-true, true≢false, cond}
use Rattle.std.proofs.lemmas.List.{get_or-set_same, get_or-set_other}
use Rattle.dependency_graph.specs.declared.callback.FutureState.{FutureState}
use Rattle.dependency_graph.specs.declared.callback.FutureState.TheVariants as state
use Rattle.dependency_graph.specs.Callbacks.{is_open, state_in, all_settled, has_number, AreDistinctNumbers, AreBelow}
use Rattle.dependency_graph.specs.Counts.{open_in}
use Rattle.dependency_graph.proofs.Numbers.{or-split, apart, not-eq}

pub open-within : (ss : List FutureState) (n : ℕ) → is_open (state_in ss n) ≡ true → n < length ss
open-within [] n h = absurd (true≢false (sym h))
open-within (s ∷ ss) zero h = omega arith
open-within (s ∷ ss) (suc n) h = let below = open-within ss n h in omega (arith, below)

-- all are settled exactly where none is open
pub settled-none : (ss : List FutureState) (ns : List ℕ) → all_settled ss ns ≡ nat_eq (open_in ss ns) 0
settled-none ss [] = refl
settled-none ss (n ∷ ns) = by (is_open (state_in ss n)) (settled-none ss ns)
  where
    by : (b : Bool) → all_settled ss ns ≡ nat_eq (open_in ss ns) 0 → (not b && all_settled ss ns) ≡ nat_eq (cond b 1 0 + open_in ss ns) 0
    by true h = let e : 1 + open_in ss ns ≡ suc (open_in ss ns) = omega arith in rw (e, not-eq (suc (open_in ss ns)) 0 (λ d. absurd (omega (arith, d)))) refl
    by false h = let e : 0 + open_in ss ns ≡ open_in ss ns = omega arith in rw e h

state-before : (ss : List FutureState) (s : FutureState) (n : ℕ) → n < length ss → state_in (ss ++ s ∷ []) n ≡ state_in ss n
state-before [] s n h = absurd (omega (arith, h))
state-before (t ∷ ss) s zero h = refl
state-before (t ∷ ss) s (suc n) h = state-before ss s n (omega (arith, h))

pub open-more : (ss : List FutureState) (s : FutureState) (ns : List ℕ) → AreBelow (length ss) ns → open_in (ss ++ s ∷ []) ns ≡ open_in ss ns
open-more ss s [] h = refl
open-more ss s (n ∷ ns) h = rw (state-before ss s n h.0, open-more ss s ns h.1) refl

-- ---- a settlement

pub open-other : (ss : List FutureState) (k : ℕ) (s : FutureState) (ns : List ℕ) → has_number k ns ≡ false → open_in (set ss k s) ns ≡ open_in ss ns
open-other ss k s [] h = refl
open-other ss k s (n ∷ ns) h =
    let parts = or-split (nat_eq k n) (has_number k ns) h in
    let same : state_in (set ss k s) n ≡ state_in ss n = get_or-set_other ss k n s state.Failed (apart k n parts.0) in
    rw (same, open-other ss k s ns parts.1) refl

pub open-lower : (ss : List FutureState) (k : ℕ) (s : FutureState) (ns : List ℕ) → is_open (state_in ss k) ≡ true → is_open s ≡ false → AreDistinctNumbers ns → has_number k ns ≡ true → open_in ss ns ≡ suc (open_in (set ss k s) ns)
open-lower ss k s [] opened closes distinct h = absurd (true≢false (sym h))
open-lower ss k s (n ∷ ns) opened closes distinct h = by (nat_eq k n) refl h (λ rest. open-lower ss k s ns opened closes distinct.1 rest)
  where
    by : (b : Bool) → nat_eq k n ≡ b → (b || has_number k ns) ≡ true → (has_number k ns ≡ true → open_in ss ns ≡ suc (open_in (set ss k s) ns)) → open_in ss (n ∷ ns) ≡ suc (open_in (set ss k s) (n ∷ ns))
    by true same h again =
        let e : k ≡ n = eqb-true k n same in
        let before : is_open (state_in ss n) ≡ true = subst (λ (m : ℕ). is_open (state_in ss m) ≡ true) e opened in
        let here : state_in (set ss k s) n ≡ s = subst (λ (m : ℕ). state_in (set ss k s) m ≡ s) e (get_or-set_same ss k s state.Failed (open-within ss k opened)) in
        let after : is_open (state_in (set ss k s) n) ≡ false = ap is_open here ∙ closes in
        let rest : open_in (set ss k s) ns ≡ open_in ss ns = open-other ss k s ns (ap (λ (m : ℕ). has_number m ns) e ∙ distinct.0) in
        rw (before, after, rest) (omega arith)
    by false other h again =
        let same : state_in (set ss k s) n ≡ state_in ss n = get_or-set_other ss k n s state.Failed (apart k n other) in
        let rest = again h in
        rw (same, rest) (omega arith)
