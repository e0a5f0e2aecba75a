-- Queues and counts of tasks, where tasks are submitted, and where a join's body runs.
use Rattle.std.proofs.Common.{◌≡◌, ◌≢◌, inl, inr, ℕ, zero, suc, ◌+◌, ◌<◌, Bool, true, List, [], ◌∷◌, ◌++◌, length, get_or, set, refl, sym, ◌∙◌, ap, subst, arith, if◌then◌else◌}
use Rattle.std.proofs.lemmas.Bool.{cases_eq}
use Rattle.std.proofs.lemmas.List.{get_or_append_left, get_or_past, get_or-set_same, get_or-set_other}
use Rattle.task_record.specs.declared.status.Status.{Status}
use Rattle.task_record.specs.declared.status.Status.TheVariants as status
use Rattle.task_record.specs.States.{is_settled}
use Rattle.dependency_graph.specs.Callbacks.{has_number}
use Rattle.call_rules.specs.Calls.{Call}
use Rattle.kernel_model.specs.Acts.{pending, submitted, all_submitted}
use Rattle.kernel_model.specs.Known.{Known, Life, no_life, life_at}
use Rattle.kernel_model.proofs.Places.{length-pushed, pushed-cases}
use Rattle.agenda_model.specs.Agendas.{HasStatus, IsQueue, running_in, runs, unsettled_in}

-- ---- a new task

pub queue-pushed : (queue : List ℕ) (lives : List Life) (s : Status) → s ≢ status.Pending → s ≢ status.Unsched → IsQueue queue (HasStatus lives s) → IsQueue queue (HasStatus (lives ++ pending ∷ []) s)
queue-pushed queue lives s ne begun q = record {
  once = q.once;
  only = λ k h. pushed-cases lives k (λ j life. has_number j queue ≡ true → life.status ≡ s)
      (λ g. absurd (begun (sym (sym (ap (λ (l : Life). l.status) (get_or_past lives (length lives) no_life (omega arith))) ∙ q.only (length lives) g))))
      (λ other g. q.only k g) h;
  all = λ k h. pushed-cases lives k (λ j life. life.status ≡ s → has_number j queue ≡ true) (λ e. absurd (ne (sym e))) (λ other e. q.all k e) h;
}

pub unsettled-pushed : (lives : List Life) → unsettled_in (lives ++ pending ∷ []) ≡ unsettled_in lives + 1
unsettled-pushed [] = refl
unsettled-pushed (l ∷ lives) = let rest = unsettled-pushed lives in omega (arith, rest)

pub running-pushed : (lives : List Life) → running_in (lives ++ pending ∷ []) ≡ running_in lives
running-pushed [] = refl
running-pushed (l ∷ lives) = ap (λ (n : ℕ). runs l.status + n) (running-pushed lives)

-- ---- tasks one after another

pub queue-all : (queue : List ℕ) (w : Known) (cs : List Call) (s : Status) → s ≢ status.Pending → s ≢ status.Unsched → IsQueue queue (HasStatus w.lives s) → IsQueue queue (HasStatus (all_submitted w cs).lives s)
queue-all queue w [] s ne begun q = q
queue-all queue w (c ∷ cs) s ne begun q = queue-all queue (submitted w c) cs s ne begun (queue-pushed queue w.lives s ne begun q)

pub unsettled-all : (w : Known) (cs : List Call) → unsettled_in (all_submitted w cs).lives ≡ unsettled_in w.lives + length cs
unsettled-all w [] = omega arith
unsettled-all w (c ∷ cs) = let rest = unsettled-all (submitted w c) cs in let one = unsettled-pushed w.lives in omega (arith, rest, one)

pub running-all : (w : Known) (cs : List Call) → running_in (all_submitted w cs).lives ≡ running_in w.lives
running-all w [] = refl
running-all w (c ∷ cs) = running-all (submitted w c) cs ∙ running-pushed w.lives

-- those that were there live on
pub life-all : (w : Known) (cs : List Call) (k : ℕ) → k < length w.lives → life_at (all_submitted w cs) k ≡ life_at w k
life-all w [] k within = refl
life-all w (c ∷ cs) k within =
    let longer = length-pushed w.lives pending in
    life-all (submitted w c) cs k (omega (arith, within, longer)) ∙ get_or_append_left w.lives (pending ∷ []) no_life k within

-- ---- a write that leaves what is counted

pub queue-put : (queue : List ℕ) (lives : List Life) (k : ℕ) (life : Life) (s : Status) → k < length lives → (get_or lives k no_life).status ≢ s → life.status ≢ s → IsQueue queue (HasStatus lives s) → IsQueue queue (HasStatus (set lives k life) s)
queue-put queue lives k life s within before after q = record {
  once = q.once;
  only = λ j h. elim (cases_eq j k) [
    | inl eq ↦ absurd (before (subst (HasStatus lives s) eq (q.only j h)))
    | inr ne ↦ ap (λ (l : Life). l.status) (get_or-set_other lives k j life no_life ne) ∙ q.only j h
  ];
  all = λ j h. elim (cases_eq j k) [
    | inl eq ↦ absurd (after (ap (λ (l : Life). l.status) (sym (get_or-set_same lives k life no_life within)) ∙ subst (HasStatus (set lives k life) s) eq h))
    | inr ne ↦ q.all j (ap (λ (l : Life). l.status) (sym (get_or-set_other lives k j life no_life ne)) ∙ h)
  ];
}

pub unsettled-put : (lives : List Life) (k : ℕ) (life : Life) → is_settled life.status ≡ is_settled (get_or lives k no_life).status → unsettled_in (set lives k life) ≡ unsettled_in lives
unsettled-put [] k life same = refl
unsettled-put (l ∷ lives) zero life same = ap (λ (b : Bool). (if b then 0 else 1) + unsettled_in lives) same
unsettled-put (l ∷ lives) (suc k) life same = ap (λ (n : ℕ). (if is_settled l.status then 0 else 1) + n) (unsettled-put lives k life same)

pub running-put : (lives : List Life) (k : ℕ) (life : Life) → runs life.status ≡ runs (get_or lives k no_life).status → running_in (set lives k life) ≡ running_in lives
running-put [] k life same = refl
running-put (l ∷ lives) zero life same = ap (λ (n : ℕ). n + running_in lives) same
running-put (l ∷ lives) (suc k) life same = ap (λ (n : ℕ). runs l.status + n) (running-put lives k life same)
