-- Places of calls, and the settled tasks.
use Rattle.std.proofs.Common.{◌≡◌, ◌≢◌, ℕ, zero, suc, ◌+◌, ◌<◌, Bool, true, false, List, [], ◌∷◌, ◌++◌, length, Option, Some, None, IsSome, get_or, set, refl, sym, ◌∙◌, ap, subst, arith, bytes_eq, inl, inr, length-append}
use Rattle.std.proofs.lemmas.Bool.{cases_lt, cases_eq}
use Rattle.std.proofs.lemmas.List.{get_or_past, get_or-set_same, get_or-set_other, get_or_push}
use Rattle.std.proofs.lemmas.Slice.Eq.{bytes_eq-Decides}
use Rattle.flow_base.specs.declared.outcome.Outcome.{Outcome}
use Rattle.flow_base.specs.declared.outcome.Outcome.TheVariants as o
use Rattle.task_record.specs.declared.status.Status.{Status}
use Rattle.task_record.specs.declared.status.Status.TheVariants as status
use Rattle.task_record.specs.States.{is_settled}
use Rattle.event_log.specs.declared.entry.Entry.{Entry}
use Rattle.flow_meaning.specs.Inputs.{Path}
use Rattle.flow_meaning.specs.Sequential.{Tasks, outcome_at}
use Rattle.call_rules.specs.Calls.{Call}
use Rattle.history_laws.specs.Reads.{settled}
use Rattle.history_laws.specs.Tables.{status_of}
use Rattle.history_laws.specs.Laws.{AllSettled, IsValued, AllValued, state_with}
use Rattle.kernel_model.specs.Known.{Known, Life, no_call, no_life, path_at, life_at, status_at, outcome_in, settled_outcome, known, known_in, tasks_where}
use Rattle.kernel_model.specs.Invariants.{HasRun, Tracks, is_memoised}
use Rattle.kernel_model.specs.Acts.{put, pending}
use Rattle.call_rules.specs.Groups.{AllKnown, IsValue, AllValues}

-- ---- writes

pub life-same : (w : Known) (k : ℕ) (life : Life) (e : Entry) → k < length w.lives → life_at (put w k life e) k ≡ life
life-same w k life e within = get_or-set_same w.lives k life no_life within

pub life-other : (w : Known) (k j : ℕ) (life : Life) (e : Entry) → j ≢ k → life_at (put w k life e) j ≡ life_at w j
life-other w k j life e ne = get_or-set_other w.lives k j life no_life ne

-- a task with an outcome is settled so
pub life-outcome : (life : Life) (outcome : Outcome) → outcome_in life ≡ Some outcome → (is_settled life.status ≡ true) × (life.end ≡ Some outcome)
life-outcome life outcome h = by_test (is_settled life.status) refl
  where
    by_test : (t : Bool) → is_settled life.status ≡ t → (is_settled life.status ≡ true) × (life.end ≡ Some outcome)
    by_test true e = (e, rw e at h)
    by_test false e = let absent = rw e at h in absurd (cc)

-- ---- settled tasks

abbrev pub Distinct : List Call → Type 0
Distinct cs = (j k : ℕ) → j < length cs → k < length cs → (get_or cs j no_call).path ≡ (get_or cs k no_call).path → j ≡ k

distinct_rest : (c : Call) (cs : List Call) → Distinct (c ∷ cs) → Distinct cs
distinct_rest c cs h j k lj lk e = let same = h (suc j) (suc k) (omega arith) (omega arith) e in omega arith

where_other : (c : Call) (f : Option Outcome) (ts : Tasks) (p : Path) → c.path ≢ p → outcome_at (tasks_where c f ++ ts) p ≡ outcome_at ts p
where_other c None ts p ne = refl
where_other c (Some outcome) ts p ne = by_test (bytes_eq c.path p) refl
  where
    by_test : (b : Bool) → bytes_eq c.path p ≡ b → outcome_at (tasks_where c (Some outcome) ++ ts) p ≡ outcome_at ts p
    by_test true e = absurd (ne ((bytes_eq-Decides c.path p).0 e))
    by_test false e = rw e refl

where_same : (c : Call) (f : Option Outcome) (ts : Tasks) → outcome_at ts c.path ≡ None → outcome_at (tasks_where c f ++ ts) c.path ≡ f
where_same c None ts none = none
where_same c (Some outcome) ts none = rw ((bytes_eq-Decides c.path c.path).1 refl) refl

absent : (cs : List Call) (lives : List Life) (p : Path) → ((k : ℕ) → k < length cs → (get_or cs k no_call).path ≢ p) → outcome_at (known_in cs lives) p ≡ None
absent [] lives p ne = refl
absent (c ∷ cs) [] p ne = refl
absent (c ∷ cs) (life ∷ lives) p ne = where_other c (outcome_in life) (known_in cs lives) p (ne 0 (omega arith)) ∙ absent cs lives p (λ k lt. ne (suc k) (omega arith))

-- what is settled is known by its place
pub known_in-at : (cs : List Call) (lives : List Life) → length lives ≡ length cs → Distinct cs → (k : ℕ) → k < length cs → outcome_at (known_in cs lives) (get_or cs k no_call).path ≡ outcome_in (get_or lives k no_life)
known_in-at [] lives same distinct k lt = absurd (omega arith)
known_in-at (c ∷ cs) [] same distinct k lt = absurd (omega arith)
known_in-at (c ∷ cs) (life ∷ lives) same distinct zero lt =
    where_same c (outcome_in life) (known_in cs lives) (absent cs lives c.path (λ k less e. let eq = distinct 0 (suc k) (omega arith) (omega arith) (sym e) in omega arith))
known_in-at (c ∷ cs) (life ∷ lives) same distinct (suc k) lt =
    where_other c (outcome_in life) (known_in cs lives) (get_or cs k no_call).path (λ e. let eq = distinct 0 (suc k) (omega arith) (omega arith) e in omega arith)
    ∙ known_in-at cs lives (omega arith) (distinct_rest c cs distinct) k (omega arith)

-- what is settled is known by its path
pub known-at : (w : Known) → Tracks w → (k : ℕ) → k < length w.calls → outcome_at (known w) (path_at w k) ≡ settled_outcome w k
known-at w tracks k lt = known_in-at w.calls w.lives tracks.lives tracks.distinct k lt

-- the call of a path
pub record IsAt (w : Known) (p : Path) : Type 0 where
  pub place : ℕ
  pub within : place < length w.calls
  pub is : path_at w place ≡ p

record IsIn (cs : List Call) (p : Path) : Type 0 where
  place : ℕ
  within : place < length cs
  is : (get_or cs place no_call).path ≡ p

known_only : (cs : List Call) (lives : List Life) (p : Path) (outcome : Outcome) → outcome_at (known_in cs lives) p ≡ Some outcome → IsIn cs p
known_only [] lives p outcome h = absurd (cc)
known_only (c ∷ cs) [] p outcome h = absurd (cc)
known_only (c ∷ cs) (life ∷ lives) p outcome h = by_test (bytes_eq c.path p) refl (known_only cs lives p outcome)
  where
    by_test : (b : Bool) → bytes_eq c.path p ≡ b → (outcome_at (known_in cs lives) p ≡ Some outcome → IsIn cs p) → IsIn (c ∷ cs) p
    by_test true e further = record { place = 0; within = omega arith; is = (bytes_eq-Decides c.path p).0 e }
    by_test false e further =
        let other : c.path ≢ p = λ same. (let t = (bytes_eq-Decides c.path p).1 same in cc) in
        let r = further (sym (where_other c (outcome_in life) (known_in cs lives) p other) ∙ h) in
        record { place = suc r.place; within = let lt = r.within in omega arith; is = r.is }

pub known-only : (w : Known) (p : Path) (outcome : Outcome) → outcome_at (known w) p ≡ Some outcome → IsAt w p
known-only w p outcome h = let r = known_only w.calls w.lives p outcome h in record { place = r.place; within = r.within; is = r.is }

pub settled-within : (w : Known) → length w.lives ≡ length w.calls → (k : ℕ) (outcome : Outcome) → settled_outcome w k ≡ Some outcome → k < length w.calls
settled-within w same k outcome h =
    elim (cases_lt k (length w.calls)) [
      | inl lt ↦ lt
      | inr ge ↦ let none : life_at w k ≡ no_life = get_or_past w.lives k no_life (omega arith) in
          let absent : settled_outcome w k ≡ None = ap outcome_in none in absurd (cc)
    ]

-- a status other than that of no task
pub status-within : (w : Known) → length w.lives ≡ length w.calls → (k : ℕ) → status_at w k ≢ status.Unsched → k < length w.calls
status-within w same k ne =
    elim (cases_lt k (length w.calls)) [
      | inl lt ↦ lt
      | inr ge ↦ absurd (ne (ap (λ (life : Life). life.status) (get_or_past w.lives k no_life (omega arith))))
    ]

pub run-within : (w : Known) → length w.lives ≡ length w.calls → (k : ℕ) → HasRun (status_at w k) → k < length w.calls
run-within w same k h = status-within w same k (λ e. subst HasRun e h)

pub ran-within : (w : Known) → length w.lives ≡ length w.calls → (k : ℕ) → IsSome (life_at w k).ran → k < length w.calls
ran-within w same k h =
    elim (cases_lt k (length w.calls)) [
      | inl lt ↦ lt
      | inr ge ↦ let none : life_at w k ≡ no_life = get_or_past w.lives k no_life (omega arith) in
          absurd (let bad = rw none at h in cc)
    ]

-- a write that leaves the outcome leaves the settled tasks
known_in_set : (k : ℕ) (cs : List Call) (lives : List Life) (life : Life) → outcome_in life ≡ outcome_in (get_or lives k no_life) → known_in cs (set lives k life) ≡ known_in cs lives
known_in_set k [] lives life same = refl
known_in_set k (c ∷ cs) [] life same = refl
known_in_set zero (c ∷ cs) (l ∷ lives) life same = rw same refl
known_in_set (suc k) (c ∷ cs) (l ∷ lives) life same = ap (λ (ts : Tasks). tasks_where c (outcome_in l) ++ ts) (known_in_set k cs lives life same)

pub known-put : (w : Known) (k : ℕ) (life : Life) (e : Entry) → outcome_in life ≡ settled_outcome w k → known (put w k life e) ≡ known w
known-put w k life e h = known_in_set k w.calls w.lives life h

-- a pending task more
pub known-push : (cs : List Call) (lives : List Life) (c : Call) → length lives ≡ length cs → known_in (cs ++ c ∷ []) (lives ++ pending ∷ []) ≡ known_in cs lives
known-push [] [] c same = refl
known-push [] (life ∷ lives) c same = absurd (omega arith)
known-push (d ∷ cs) [] c same = absurd (omega arith)
known-push (d ∷ cs) (life ∷ lives) c same = ap (λ (ts : Tasks). tasks_where d (outcome_in life) ++ ts) (known-push cs lives c (omega arith))

-- the history has a settled task with this outcome
pub record SettledSo (w : Known) (p : Path) (outcome : Outcome) : Type 0 where
  pub status : Status
  pub is : settled p w.past ≡ Some status
  pub state : state_with (is_memoised status) (status_of outcome) ≡ Some status

-- the history says how a task that is known was settled
pub known-status : (w : Known) → Tracks w → (p : Path) (outcome : Outcome) → outcome_at (known w) p ≡ Some outcome → SettledSo w p outcome
known-status w tracks p outcome h =
    let at = known-only w p outcome h in
    let k = at.place in
    let at_path : outcome_at (known w) (path_at w k) ≡ Some outcome = ap (outcome_at (known w)) at.is ∙ h in
    let both = life-outcome (life_at w k) outcome (sym (known-at w tracks k at.within) ∙ at_path) in
    let closed = (tracks.lived k at.within).closed both.0 in
    record { status = status_at w k; is = ap (λ (q : Path). settled q w.past) (sym at.is) ∙ closed.settled; state = closed.state outcome both.1 }

pub known-settled : (w : Known) → Tracks w → (ps : List Path) → AllKnown (known w) ps → AllSettled ps w.past
known-settled w tracks [] h = tt
known-settled w tracks (p ∷ ps) h = (by_found (outcome_at (known w) p) refl h.0, known-settled w tracks ps h.1)
  where
    by_found : (found : Option Outcome) → outcome_at (known w) p ≡ found → IsSome found → IsSome (settled p w.past)
    by_found None e some = absurd (cc)
    by_found (Some outcome) e some = rw (known-status w tracks p outcome e).is refl

-- a value's task is in a state that has one
pub state-valued : (m : Bool) (s : Status) → state_with m status.ExecDone ≡ Some s → IsValued (Some s)
state-valued false s h = subst IsValued h tt
state-valued true s h = subst IsValued h tt

pub values-valued : (w : Known) → Tracks w → (ps : List Path) → AllValues (known w) ps → AllValued ps w.past
values-valued w tracks [] h = tt
values-valued w tracks (p ∷ ps) h = (by_found (outcome_at (known w) p) refl h.0, values-valued w tracks ps h.1)
  where
    by_found : (found : Option Outcome) → outcome_at (known w) p ≡ found → IsValue found → IsValued (settled p w.past)
    by_found None e valued = absurd valued
    by_found (Some (o.Failed exception)) e valued = absurd valued
    by_found (Some (o.Value value files)) e valued = let so = known-status w tracks p (o.Value value files) e in rw so.is (state-valued (is_memoised so.status) so.status so.state)

-- ---- a pending task more

life_pushed : (lives : List Life) (k : ℕ) → k ≢ length lives → get_or (lives ++ pending ∷ []) k no_life ≡ get_or lives k no_life
life_pushed [] zero ne = absurd (ne refl)
life_pushed [] (suc k) ne = refl
life_pushed (life ∷ lives) zero ne = refl
life_pushed (life ∷ lives) (suc k) ne = life_pushed lives k (λ e. ne (ap suc e))

-- the new life is pending, and no other is another one
pub pushed-cases : (lives : List Life) (k : ℕ) (P : ℕ → Life → Type 0) → P (length lives) pending → (k ≢ length lives → P k (get_or lives k no_life)) → P k (get_or (lives ++ pending ∷ []) k no_life)
pushed-cases lives k P here other =
    elim (cases_eq k (length lives)) [
      | inl eq ↦ rw (eq, get_or_push lives pending no_life (length lives) refl) here
      | inr ne ↦ rw (life_pushed lives k ne) (other ne)
    ]

-- it has no outcome
pub outcome-pushed : (lives : List Life) (k : ℕ) → outcome_in (get_or (lives ++ pending ∷ []) k no_life) ≡ outcome_in (get_or lives k no_life)
outcome-pushed [] zero = refl
outcome-pushed [] (suc k) = refl
outcome-pushed (life ∷ lives) zero = refl
outcome-pushed (life ∷ lives) (suc k) = outcome-pushed lives k

pub length-pushed : {A : Type 0} → (xs : List A) (x : A) → length (xs ++ x ∷ []) ≡ length xs + 1
length-pushed xs x = length-append xs (x ∷ [])

-- the lives after a write
pub set-cases : (w : Known) (k j : ℕ) (life : Life) (P : ℕ → Life → Type 0) → k < length w.lives → P k life → (j ≢ k → P j (life_at w j)) → P j (get_or (set w.lives k life) j no_life)
set-cases w k j life P within here other =
    elim (cases_eq j k) [
      | inl eq ↦ rw (eq, get_or-set_same w.lives k life no_life within) here
      | inr ne ↦ rw (get_or-set_other w.lives k j life no_life ne) (other ne)
    ]
