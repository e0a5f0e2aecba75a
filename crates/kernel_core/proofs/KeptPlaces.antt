-- The places of the queue of attempts that are over: which may settle, and which are to be stored.
use Rattle.std.proofs.Common.{◌≡◌, ℕ, ◌+◌, ◌<◌, ◌≤◌, inl, inr, true, false, List, length, get_or, slice_get, Option, Some, None, is_some, refl, sym, ◌∙◌, ap, subst, arith, true≢false}
use Rattle.std.specs.Prelude.{MatchOption}
use Rattle.std.proofs.lemmas.Bool.{cases_lt}
use Rattle.std.proofs.lemmas.Option.{slice_get_within, get_or_from_slice_get, slice_get-get_or}
use Rattle.memo_table.specs.Keys.{KeyView}
use Rattle.memo_table.specs.Table.{found}
use Rattle.kernel_model.specs.Known.{Known, is_kept, value_of}
use Rattle.agenda_model.specs.AgendaViews.{AgendaView}
use Rattle.kernel_core.specs.Memo.{IsUnstored, IsKeptTask, IsKeptPlace, NoKeptPlace}

-- ---- what was found

pub found-some : {A : Type 0} → (p : Option A) (x : A) (N : Type 0) (S : A → Type 0) → p ≡ Some x → MatchOption p N S → S x
found-some p x N S is h = (let there : MatchOption (Some x) N S = subst (λ (q : Option _). MatchOption q N S) is h in there)

pub found-none : {A : Type 0} → (p : Option A) (N : Type 0) (S : A → Type 0) → ((x : A) → p ≡ Some x → ⊥) → MatchOption p N S → N
found-none None N S not h = h
found-none (Some x) N S not h = absurd (not x refl)

pub found-is-none : {A : Type 0} → (p : Option A) (N : Type 0) (S : A → Type 0) → is_some p ≡ false → MatchOption p N S → N
found-is-none None N S is h = h
found-is-none (Some x) N S is h = absurd (cc)

-- ---- places

same_number : (n m : ℕ) → Some n ≡ Some m → n ≡ m
same_number n m h = cc

-- the task at a kept place
pub place-task : (a0 a : AgendaView) (w : Known) (k i d : ℕ) → a0 ≡ a → IsKeptPlace a w i → k ≡ get_or a0.over i d → slice_get a0.over i ≡ Some k
place-task a0 a w k i d is place value =
    let at : slice_get a0.over i ≡ Some place.task = ap (λ (b : AgendaView). slice_get b.over i) is ∙ place.at in
    at ∙ ap (λ (n : ℕ). Some n) (sym (value ∙ get_or_from_slice_get a0.over i place.task d at))

pub place-within : (a0 a : AgendaView) (w : Known) (i : ℕ) → a0 ≡ a → IsKeptPlace a w i → i < length a0.over
place-within a0 a w i is place = slice_get_within a0.over i place.task (ap (λ (b : AgendaView). slice_get b.over i) is ∙ place.at)

pub get-at : (xs : List ℕ) (k i d : ℕ) → i < length xs → k ≡ get_or xs i d → slice_get xs i ≡ Some k
get-at xs k i d lt value = slice_get-get_or xs i d lt ∙ ap (λ (n : ℕ). Some n) (sym value)

-- where none is known to need no storing, a task that needs none stands at a kept place
pub kept-at : (a0 a : AgendaView) (w : Known) (k i : ℕ) → a0 ≡ a → a0.kept ≡ 0 → slice_get a0.over i ≡ Some k → IsKeptTask w k → IsKeptPlace a w i
kept-at a0 a w k i is none at kept = subst (λ (x : AgendaView). IsKeptPlace x w i) is (record { task = k; at = at; kept = kept; first = λ some. absurd (omega (arith, some, none)) })

-- what is to be stored needs storing
pub unstored-needs : (w : Known) (k : ℕ) (key : KeyView) → IsUnstored w k key → IsKeptTask w k → ⊥
unstored-needs w k key u done =
    let store = u.store in
    let kept = done (value_of u.saved) store.is in
    let is : is_some (found w.memo key) ≡ true = sym (ap (λ (x : Option KeyView). is_kept w.memo x (value_of u.saved)) store.key_is) ∙ kept in
    true≢false (sym is ∙ ap is_some store.fresh)

pub needs-by : (w : Known) (k : ℕ) (key : Option KeyView) → MatchOption key (IsKeptTask w k) (IsUnstored w k) → is_some key ≡ true → IsKeptTask w k → ⊥
needs-by w k None h is = absurd (cc)
needs-by w k (Some key) h is = unstored-needs w k key h

pub none-next : (a0 a : AgendaView) (w : Known) (k i : ℕ) → a0 ≡ a → slice_get a0.over i ≡ Some k → (IsKeptTask w k → ⊥) → ((n j : ℕ) → n < i → slice_get a.over n ≡ Some j → IsKeptTask w j → ⊥)
    → (n j : ℕ) → n < i + 1 → slice_get a.over n ≡ Some j → IsKeptTask w j → ⊥
none-next a0 a w k i is at needs before n j lt there kept =
    elim (cases_lt n i) [
      | inl less ↦ before n j less there kept
      | inr past ↦
          let here : n ≡ i = omega (arith, past, lt) in
          let same : j ≡ k = same_number j k (sym there ∙ ap (slice_get a.over) here ∙ sym (ap (λ (b : AgendaView). slice_get b.over i) is) ∙ at) in
          needs (subst (IsKeptTask w) same kept)
    ]

pub none-at-all : (a0 a : AgendaView) (w : Known) (i : ℕ) → a0 ≡ a → length a0.over ≤ i → ((n j : ℕ) → n < i → slice_get a.over n ≡ Some j → IsKeptTask w j → ⊥) → NoKeptPlace a w
none-at-all a0 a w i is all before n j there =
    let long = ap (λ (b : AgendaView). length b.over) is in
    let short = slice_get_within a.over n j there in
    before n j (omega (arith, long, short, all)) there

-- ---- how many of the first are counted

pub kept-itself : (a0 a : AgendaView) → a0 ≡ a → a0 ≡ record a { kept = a0.kept }
kept-itself a0 a is = is ∙ ap (λ (n : ℕ). record a { kept = n }) (sym (ap (λ (b : AgendaView). b.kept) is))

pub kept-more : (a b : AgendaView) (n : ℕ) → b ≡ record a { kept = b.kept } → record b { kept = n } ≡ record a { kept = n }
kept-more a b n is = ap (λ (x : AgendaView). record x { kept = n }) is
