-- Queues of the tasks in one state, and counts of tasks, through a write.
use Rattle.std.proofs.Common.{◌≡◌, ◌≢◌, inl, inr, ℕ, zero, suc, ◌+◌, ◌<◌, ◌≤◌, Bool, true, false, ◌||◌, nat_eq, if◌then◌else◌, List, [], ◌∷◌, ◌++◌, length, get_or, set, remove, slice_get, Some, refl, sym, ◌∙◌, ap, arith, eq-eqb, eqb-true, true≢false}
use Rattle.std.proofs.lemmas.Bool.{cases_eq, cases_lt}
use Rattle.std.proofs.lemmas.List.{get_or-set_same, get_or-set_other, get_or_past}
use Rattle.task_record.specs.declared.status.Status.{Status}
use Rattle.task_record.specs.declared.status.Status.TheVariants as status
use Rattle.task_record.specs.States.{is_settled}
use Rattle.dependency_graph.specs.Callbacks.{has_number}
use Rattle.dependency_graph.proofs.Numbers.{is-false, or-cases, has-left, has-right, has-either, distinct-append}
use Rattle.kernel_model.specs.Known.{Life, no_life}
use Rattle.agenda_model.specs.Agendas.{IsQueue, HasStatus, runs, running_in, unsettled_in}
use Rattle.agenda_model.proofs.NumberLists.{remove-has, remove-keeps, remove-distinct, remove-lacks}

-- ---- states through a write

pub status-here : (lives : List Life) (k : ℕ) (life : Life) → k < length lives → (get_or (set lives k life) k no_life).status ≡ life.status
status-here lives k life within = ap (λ (l : Life). l.status) (get_or-set_same lives k life no_life within)

pub status-other : (lives : List Life) (k j : ℕ) (life : Life) → j ≢ k → (get_or (set lives k life) j no_life).status ≡ (get_or lives j no_life).status
status-other lives k j life ne = ap (λ (l : Life). l.status) (get_or-set_other lives k j life no_life ne)

-- a state other than that of no task
pub life-within : (lives : List Life) (k : ℕ) → (get_or lives k no_life).status ≢ status.Unsched → k < length lives
life-within lives k ne =
    elim (cases_lt k (length lives)) [
      | inl lt ↦ lt
      | inr ge ↦ absurd (ne (ap (λ (l : Life). l.status) (get_or_past lives k no_life (omega arith))))
    ]

-- ---- queues

has-single : (n k : ℕ) → has_number n (k ∷ []) ≡ true → n ≡ k
has-single n k h = elim (or-cases (nat_eq n k) false h) [ inl same ↦ eqb-true n k same | inr bad ↦ absurd (true≢false (sym bad)) ]

single-has : (n k : ℕ) (q : List ℕ) → n ≡ k → has_number n (k ∷ q) ≡ true
single-has n k q same = ap (λ (b : Bool). b || has_number n q) (eq-eqb n k same)

pub queue-first : (k : ℕ) (q : List ℕ) (P : ℕ → Type 0) → IsQueue (k ∷ q) P → P k
queue-first k q P h = h.only k (single-has k k q refl)

pub queue-none : (P : ℕ → Type 0) → IsQueue [] P → (k : ℕ) → P k → ⊥
queue-none P h k p = true≢false (sym (h.all k p))

module _ (lives : List Life) (s : Status) (k : ℕ) (life : Life) (within : k < length lives) where
  -- the write concerns another state
  pub queue-kept : (q : List ℕ) → (get_or lives k no_life).status ≢ s → life.status ≢ s → IsQueue q (HasStatus lives s) → IsQueue q (HasStatus (set lives k life) s)
  queue-kept q old new h = record {
    once = h.once;
    only = λ j has. elim (cases_eq j k) [
      | inl same ↦ absurd (old (ap (λ (i : ℕ). (get_or lives i no_life).status) (sym same) ∙ h.only j has))
      | inr ne ↦ status-other lives k j life ne ∙ h.only j has
    ];
    all = λ j is. elim (cases_eq j k) [
      | inl same ↦ absurd (new (sym (status-here lives k life within) ∙ ap (λ (i : ℕ). (get_or (set lives k life) i no_life).status) (sym same) ∙ is))
      | inr ne ↦ h.all j (sym (status-other lives k j life ne) ∙ is)
    ];
  }

  -- the task comes into this state
  pub queue-pushed : (q : List ℕ) → (get_or lives k no_life).status ≢ s → life.status ≡ s → IsQueue q (HasStatus lives s) → IsQueue (q ++ k ∷ []) (HasStatus (set lives k life) s)
  queue-pushed q old new h = record {
    once = distinct-append q (k ∷ []) h.once (refl, tt) (λ n has. is-false (has_number n q) (λ before. old (ap (λ (i : ℕ). (get_or lives i no_life).status) (sym (has-single n k has)) ∙ h.only n before)));
    only = λ j has. elim (cases_eq j k) [
      | inl same ↦ ap (λ (i : ℕ). (get_or (set lives k life) i no_life).status) same ∙ status-here lives k life within ∙ new
      | inr ne ↦ elim (has-either j q (k ∷ []) has) [
        | inl before ↦ status-other lives k j life ne ∙ h.only j before
        | inr last ↦ absurd (ne (has-single j k last))
      ]
    ];
    all = λ j is. elim (cases_eq j k) [
      | inl same ↦ has-right j q (k ∷ []) (single-has j k [] same)
      | inr ne ↦ has-left j q (k ∷ []) (h.all j (sym (status-other lives k j life ne) ∙ is))
    ];
  }

  -- the task at a place leaves this state
  pub queue-removed : (q : List ℕ) (i : ℕ) → slice_get q i ≡ Some k → life.status ≢ s → IsQueue q (HasStatus lives s) → IsQueue (remove q i) (HasStatus (set lives k life) s)
  queue-removed q i at new h = record {
    once = remove-distinct q i h.once;
    only = λ j has. elim (cases_eq j k) [
      | inl same ↦ absurd (true≢false (sym has ∙ ap (λ (n : ℕ). has_number n (remove q i)) same ∙ remove-lacks q i k h.once at))
      | inr ne ↦ status-other lives k j life ne ∙ h.only j (remove-has q i j has)
    ];
    all = λ j is. elim (cases_eq j k) [
      | inl same ↦ absurd (new (sym (status-here lives k life within) ∙ ap (λ (n : ℕ). (get_or (set lives k life) n no_life).status) (sym same) ∙ is))
      | inr ne ↦ remove-keeps q i k j at ne (h.all j (sym (status-other lives k j life ne) ∙ is))
    ];
  }

  -- the first task leaves this state
  pub queue-popped : (q : List ℕ) → life.status ≢ s → IsQueue (k ∷ q) (HasStatus lives s) → IsQueue q (HasStatus (set lives k life) s)
  queue-popped q new h = queue-removed (k ∷ q) 0 refl new h

-- ---- counts

abbrev pub one : Status → ℕ
one s = if is_settled s then 0 else 1

pub one-most : (s : Status) → one s ≤ 1
one-most s = by (is_settled s)
  where
    by : (b : Bool) → (if b then 0 else 1) ≤ 1
    by true = omega arith
    by false = omega arith

pub one-open : (s : Status) → is_settled s ≡ false → one s ≡ 1
one-open s h = rw h refl

pub one-settled : (s : Status) → is_settled s ≡ true → one s ≡ 0
one-settled s h = rw h refl

pub unsettled-most : (lives : List Life) → unsettled_in lives ≤ length lives
unsettled-most [] = omega arith
unsettled-most (life ∷ lives) = let first = one-most life.status in let rest = unsettled-most lives in omega (arith, first, rest)

pub unsettled-part : (lives : List Life) (k : ℕ) → k < length lives → one (get_or lives k no_life).status ≤ unsettled_in lives
unsettled-part [] k within = absurd (omega (arith, within))
unsettled-part (life ∷ lives) zero within = omega arith
unsettled-part (life ∷ lives) (suc k) within = let rest = unsettled-part lives k (omega (arith, within)) in omega (arith, rest)

pub unsettled-set : (lives : List Life) (k : ℕ) (life : Life) → k < length lives → unsettled_in (set lives k life) + one (get_or lives k no_life).status ≡ unsettled_in lives + one life.status
unsettled-set [] k life within = absurd (omega (arith, within))
unsettled-set (l ∷ lives) zero life within = omega arith
unsettled-set (l ∷ lives) (suc k) life within = let rest = unsettled-set lives k life (omega (arith, within)) in omega (arith, rest)

pub running-part : (lives : List Life) (k : ℕ) → k < length lives → runs (get_or lives k no_life).status ≤ running_in lives
running-part [] k within = absurd (omega (arith, within))
running-part (life ∷ lives) zero within = omega arith
running-part (life ∷ lives) (suc k) within = let rest = running-part lives k (omega (arith, within)) in omega (arith, rest)

pub running-set : (lives : List Life) (k : ℕ) (life : Life) → k < length lives → running_in (set lives k life) + runs (get_or lives k no_life).status ≡ running_in lives + runs life.status
running-set [] k life within = absurd (omega (arith, within))
running-set (l ∷ lives) zero life within = omega arith
running-set (l ∷ lives) (suc k) life within = let rest = running-set lives k life (omega (arith, within)) in omega (arith, rest)

pub runs-none : (s : Status) → s ≢ status.Running → runs s ≡ 0
runs-none status.Running ne = absurd (ne refl)
runs-none status.Unsched ne = refl
runs-none status.Pending ne = refl
runs-none status.Launched ne = refl
runs-none status.RunningEnded ne = refl
runs-none status.Joining ne = refl
runs-none status.ExecDone ne = refl
runs-none status.MemoDone ne = refl
runs-none status.Failed ne = refl
runs-none status.DepFail ne = refl
runs-none status.FailRetryable ne = refl

pub unsettled-kept : (lives : List Life) (k : ℕ) (life : Life) → k < length lives → is_settled life.status ≡ is_settled (get_or lives k no_life).status → unsettled_in (set lives k life) ≡ unsettled_in lives
unsettled-kept lives k life within same =
    let change = unsettled-set lives k life within in
    let counts : one life.status ≡ one (get_or lives k no_life).status = ap (λ (b : Bool). if b then 0 else 1) same in
    omega (arith, change, counts)

pub settled-differs : (s t : Status) → is_settled s ≡ true → is_settled t ≡ false → s ≢ t
settled-differs s t settles open_is e = true≢false (sym settles ∙ ap is_settled e ∙ open_is)
