-- An agenda behind each turn, and what a turn does to what is known with what the monitors were told.
use Rattle.std.proofs.Common.{◌≡◌, ◌≢◌, ℕ, suc, ◌+◌, ◌-◌, ◌<◌, ◌≤◌, ◌⊎◌, inl, inr, Bool, true, false, List, [], ◌∷◌, ◌++◌, length, remove, Option, Some, None, get_or, slice_get, refl, sym, ◌∙◌, ap, subst, arith}
use Rattle.std.specs.Prelude.{IsSome, is_some}
use Rattle.std.proofs.lemmas.Bool.{cases_lt}
use Rattle.std.proofs.lemmas.Option.{slice_get-get_or}
use Rattle.flow_base.specs.declared.outcome.Outcome.{Outcome}
use Rattle.task_record.specs.declared.status.Status.{Status}
use Rattle.task_record.specs.declared.status.Status.TheVariants as status
use Rattle.task_record.specs.States.{is_settled}
use Rattle.memo_table.specs.Keys.{KeyView}
use Rattle.memo_table.specs.declared.saved.Saved.{Saved}
use Rattle.dependency_graph.specs.declared.monitor.Settlement.{Settlement}
use Rattle.dependency_graph.specs.Graphs.{Graph, IsOpenTask, with_settlement}
use Rattle.dependency_graph.specs.Monitors.{tell, ToldFirst}
use Rattle.kernel_model.specs.declared.answers.Refusal.{Refusal}
use Rattle.kernel_model.specs.declared.answers.Refusal.TheVariants.{NoMemory, TaskLimit, StoreLimit}
use Rattle.kernel_model.specs.Acts.{started, finished, settled_as, settlement_of, stored_by, retold}
use Rattle.kernel_model.specs.Conditions.{CanStart, CanFinish, CanSettle, CanEnd}
use Rattle.kernel_model.specs.Invariants.{IsReached, Inv}
use Rattle.kernel_model.specs.Known.{Known, Life, no_life, path_at, life_at, status_at, settled_outcome, outcome_in, has_ended, IsDone}
use Rattle.kernel_model.specs.Limits.{IsRefusedFor}
use Rattle.kernel_model.specs.Turns.{Stores, Settles, IsStore, IsSettling}
use Rattle.kernel_model.proofs.Places.{status-within}
use Rattle.kernel_model.proofs.KeepingTasks.{keep-started, keep-finished, keep-settled}
use Rattle.kernel_model.proofs.Retelling.{inv-retold, store-retold, stores-retold, settling-retold}
use Rattle.agenda_model.specs.AgendaViews.{AgendaView}
use Rattle.agenda_model.specs.Agendas.{Serves, ServesTasks, running_in, unsettled_in, seen}
use Rattle.kernel_core.specs.Memo.{IsUnstored, IsKeptTask, IsFirstUnstored, IsKeptPlace, NoKeptPlace}
use Rattle.kernel_core.specs.Refused.{IsToldAtRefusal, IsUndone}
use Rattle.kernel_core.specs.Views.{IsFact}
use Rattle.kernel_core.proofs.TurnsOfTasks.{settles-one}
use Rattle.agenda_model.proofs.Carrying.{task-opened, unsettled-some, unsettled-none, serves-started, serves-finished, serves-ended, place-for-end, over-at, first-launched}
use Rattle.agenda_model.proofs.Fronts.{front-started, front-finished, front-ended, front-passed, front-stored-next, no-store, none-settles}

-- ---- causes

-- what is refused for one act is refused for any that it leads to, whatever the monitors were told
pub refused-as : (P Q : Known → Type 0) → ((v : Known) → P v → (told : List (List Settlement)) × Q (retold told v)) → (r : Refusal) → IsRefusedFor P r → IsRefusedFor Q r
refused-as P Q more NoMemory h = tt
refused-as P Q more TaskLimit h = let m = more h.0 h.1 in (retold m.0 h.0, m.1, h.2)
refused-as P Q more StoreLimit h = let m = more h.0 h.1 in (retold m.0 h.0, m.1, h.2)

refused_more : (P Q : Known → Type 0) → ((v : Known) → P v → Q v) → (r : Refusal) → IsRefusedFor P r → IsRefusedFor Q r
refused_more P Q more NoMemory h = tt
refused_more P Q more TaskLimit h = (h.0, more h.0 h.1, h.2)
refused_more P Q more StoreLimit h = (h.0, more h.0 h.1, h.2)

-- ---- turns that were refused

pub undone-quiet : (w v : Known) (g h : List (List Settlement)) (Leaves : Known → Type 0) (r : Refusal) → v ≡ w → h ≡ g → IsRefusedFor Leaves r → IsUndone (retold g w) (retold h v) Leaves r
undone-quiet w v g h Leaves r same told cause = record { same = ap (retold h) same; told = inl told; cause = cause }

pub undone-by : (w v : Known) (g h : List (List Settlement)) (k : ℕ) (outcome : Outcome) (Leaves : Known → Type 0) (r : Refusal) → v ≡ w → Leaves (settled_as (retold g w) k outcome) → (h ≡ g) ⊎ ((r ≡ NoMemory) × ToldFirst (settlement_of w k outcome) g h) → IsRefusedFor Leaves r → IsUndone (retold g w) (retold h v) Leaves r
undone-by w v g h k outcome Leaves r same leaves told cause = record { same = ap (retold h) same; told = by_told told; cause = cause }
  where
    by_told : (h ≡ g) ⊎ ((r ≡ NoMemory) × ToldFirst (settlement_of w k outcome) g h) → IsToldAtRefusal (retold g w) h Leaves r
    by_told (inl none) = inl none
    by_told (inr some) = inr (some.0, record { after = settled_as (retold g w) k outcome; leaves = leaves; settlement = settlement_of w k outcome; would = refl; first = some.1 })

pub undone-more : (w v : Known) (P Q : Known → Type 0) (r : Refusal) → ((u : Known) → P u → Q u) → IsUndone w v P r → IsUndone w v Q r
undone-more w v P Q r more h = record { same = h.same; told = by_told h.told; cause = refused_more P Q more r h.cause }
  where
    by_told : IsToldAtRefusal w v.told P r → IsToldAtRefusal w v.told Q r
    by_told (inl none) = inl none
    by_told (inr some) =
        let f = some.1 in
        inr (some.0, record { after = f.after; leaves = more f.after f.leaves; settlement = f.settlement; would = f.would; first = f.first })

-- ---- what was settled

pub seen-settled : (w v : Known) (g h : List (List Settlement)) (k : ℕ) (outcome : Outcome) → v ≡ settled_as w k outcome → h ≡ tell (settlement_of w k outcome) g → retold h v ≡ settled_as (retold g w) k outcome
seen-settled w v g h k outcome after told = ap (retold h) after ∙ ap (λ (t : List (List Settlement)). retold t (settled_as w k outcome)) told

told_graph : (a b : Graph) (s : Settlement) → b ≡ with_settlement s a → b.told ≡ tell s a.told
told_graph a b s e = ap (λ (g : Graph). g.told) e

some_end : (end : Option Outcome) → IsSome end → (outcome : Outcome) × (end ≡ Some outcome)
some_end None h = absurd (cc)
some_end (Some outcome) h = (outcome, refl)

-- an attempt that is over has an end
over_end : (w : Known) (k : ℕ) → Inv w → status_at w k ≡ status.RunningEnded → (outcome : Outcome) × ((life_at w k).end ≡ Some outcome)
over_end w k inv is =
    let within = status-within w inv.holds.tracks.lives k (λ e. absurd (let i = is in cc)) in
    let reached : IsReached (life_at w k) status.RunningEnded = subst (IsReached (life_at w k)) is (inv.holds.tracks.lived k within).reached in
    some_end (life_at w k).end reached.0

-- ---- attempts that are over

within_by : (w : Known) (k : ℕ) (s : Status) → Inv w → status_at w k ≡ s → s ≢ status.Unsched → k < length w.calls
within_by w k s inv is begun = status-within w inv.holds.tracks.lives k (λ e. begun (sym is ∙ e))

module _ (a0 a : AgendaView) (w : Known) (k i : ℕ) (is : a0 ≡ a) (fact : IsFact w) (serves : Serves a w None) (place : IsKeptPlace a w i) (at : slice_get a0.over i ≡ Some k) where
  serves_inside : Serves a0 w None
  serves_inside = subst (λ (b : AgendaView). Serves b w None) (sym is) serves

  pub place-is-over : status_at w k ≡ status.RunningEnded
  place-is-over = over-at a0 w None k i serves_inside.tasks at

  pub place-is-kept : IsKeptTask w k
  place-is-kept = subst (IsKeptTask w) (same_task place.task k (sym place.at ∙ sym (ap (λ (b : AgendaView). slice_get b.over i) is) ∙ at)) place.kept
    where
      same_task : (n m : ℕ) → Some n ≡ Some m → n ≡ m
      same_task n m h = cc

  over_within : k < length w.calls
  over_within = within_by w k status.RunningEnded fact.inv place-is-over (λ e. absurd (cc))

  pub over-opened : IsOpenTask a0.graph (path_at w k)
  over-opened = task-opened a0 w k fact.inv serves_inside.tasks over_within (ap is_settled place-is-over)

  pub over-counts : 1 ≤ a0.unsettled
  over-counts =
      let some = unsettled-some w k (let lives = fact.inv.holds.tracks.lives in let within = over_within in omega (arith, lives, within)) (ap is_settled place-is-over) in
      let count = serves_inside.tasks.unsettled in
      omega (arith, some, count)

  ready_as : (outcome : Outcome) → (life_at w k).end ≡ Some outcome → IsSettling w k outcome
  ready_as outcome end = record { over = place-is-over; is = end; kept = place-is-kept outcome end }

  pub over-settles : (v : Known) (b : Graph) → ((outcome : Outcome) → (life_at w k).end ≡ Some outcome → v ≡ settled_as w k outcome) → ((outcome : Outcome) → (life_at w k).end ≡ Some outcome → b ≡ with_settlement (settlement_of w k outcome) a0.graph) → Settles (retold a.graph.told w) (retold b.told v)
  over-settles v b after graph =
      subst (λ (x : AgendaView). Settles (retold x.graph.told w) (retold b.told v)) is
      (settles-one (retold a0.graph.told w) (retold b.told v) k (inv-retold w a0.graph.told fact.inv) place-is-over place-is-kept
      (λ outcome e. seen-settled w v a0.graph.told b.told k outcome (after outcome e) (told_graph a0.graph b (settlement_of w k outcome) (graph outcome e))))

  pub over-serves : (b : AgendaView) (v : Known) → has_ended w ≡ false → ((outcome : Outcome) → (life_at w k).end ≡ Some outcome → v ≡ settled_as w k outcome) → ((outcome : Outcome) → (life_at w k).end ≡ Some outcome → b.graph ≡ with_settlement (settlement_of w k outcome) a0.graph)
      → b.launched ≡ a0.launched → b.over ≡ remove a0.over i → b.kept ≡ a0.kept - 1 → a0.spare ≤ b.spare → b.unsettled + 1 ≡ a0.unsettled → Serves b v None
  over-serves b v going after graph launches over kept spare unsettled =
      let end = over_end w k fact.inv place-is-over in
      let outcome = end.0 in
      let can : CanSettle w k outcome = record { not_ended = going; ready = ready_as outcome end.1 } in
      let first : 0 < a0.kept → i ≡ 0 = subst (λ (x : AgendaView). 0 < x.kept → i ≡ 0) (sym is) place.first in
      subst (λ (u : Known). Serves b u None) (sym (after outcome end.1))
      (record {
        tasks = serves-ended a0 b w k i outcome fact.inv place-is-over serves_inside.tasks at (graph outcome end.1) launches over spare unsettled;
        front = front-ended a0 b w k i outcome fact.inv (keep-settled w k outcome fact.inv can) serves_inside.tasks at over
            (λ lt. omega (arith, lt, kept))
            (λ ge. elim (cases_lt 0 a0.kept) [
              | inl some ↦ let zero = first some in absurd (omega (arith, some, zero, ge))
              | inr none ↦ omega (arith, none, kept)
            ])
            serves_inside.front;
      })

  pub over-undone : (v : Known) (h : List (List Settlement)) (r : Refusal) → v ≡ w → ((outcome : Outcome) → (life_at w k).end ≡ Some outcome → (h ≡ a0.graph.told) ⊎ ((r ≡ NoMemory) × ToldFirst (settlement_of w k outcome) a0.graph.told h)) → IsRefusedFor (Settles w) r → IsUndone (retold a.graph.told w) (retold h v) (Settles (retold a.graph.told w)) r
  over-undone v h r same told cause =
      let end = over_end w k fact.inv place-is-over in
      let outcome = end.0 in
      subst (λ (x : AgendaView). IsUndone (retold x.graph.told w) (retold h v) (Settles (retold x.graph.told w)) r) is
      (undone-by w v a0.graph.told h k outcome (Settles (retold a0.graph.told w)) r same
      (record { task = k; outcome = outcome; ready = settling-retold w a0.graph.told k outcome (ready_as outcome end.1); after = refl })
      (told outcome end.1)
      (refused-as (Settles w) (Settles (retold a0.graph.told w)) (λ u s. (
        tell (settlement_of w s.task s.outcome) a0.graph.told,
        record { task = s.task; outcome = s.outcome; ready = settling-retold w a0.graph.told s.task s.outcome s.ready; after = seen-settled w u a0.graph.told _ s.task s.outcome s.after refl },
      )) r cause))

-- none may settle
pub over-none : (a : AgendaView) (w : Known) → Serves a w None → NoKeptPlace a w → (k : ℕ) (outcome : Outcome) → IsSettling (seen a w) k outcome → ⊥
over-none a w serves none k outcome settling = none-settles a w None serves.tasks none k outcome (settling-retold (seen a w) w.told k outcome settling)

-- the first place is one, where a task is known to need no storing
pub first-place : (a0 a : AgendaView) (w : Known) → a0 ≡ a → Serves a w None → 0 < a0.kept → IsKeptPlace a w 0
first-place a0 a w is serves some = subst (λ (x : AgendaView). IsKeptPlace x w 0) is
    (let front = (subst (λ (x : AgendaView). Serves x w None) (sym is) serves).front in
    let short = front.within in
    let there = slice_get-get_or a0.over 0 0 (omega (arith, short, some)) in
    record { task = get_or a0.over 0 0; at = there; kept = front.kept 0 (get_or a0.over 0 0) some there; first = λ h. refl })

-- ---- storing

-- the agenda inside is that of the view
pub same-serves : (a0 a : AgendaView) (w : Known) → a0 ≡ a → Serves a w None → Serves a0 w None
same-serves a0 a w is serves = subst (λ (x : AgendaView). Serves x w None) (sym is) serves

-- the next task behind the first ones of the queue is over
pub at-is-over : (a0 a : AgendaView) (w : Known) (k i : ℕ) → a0 ≡ a → Serves a w None → slice_get a0.over i ≡ Some k → status_at w k ≡ status.RunningEnded
at-is-over a0 a w k i is serves at = over-at a0 w None k i (subst (λ (x : AgendaView). Serves x w None) (sym is) serves).tasks at

-- it needs no storing, and is passed
pub passed-serves : (a b : AgendaView) (w : Known) (k : ℕ) → Serves a w None → slice_get a.over a.kept ≡ Some k → IsKeptTask w k → b ≡ record a { kept = a.kept + 1 } → Serves b w None
passed-serves a b w k serves at done is = subst (λ (x : AgendaView). Serves x w None) (sym is)
    (record { tasks = tasks_by serves.tasks; front = front-passed a (record a { kept = a.kept + 1 }) w k at done refl refl serves.front })
  where
    tasks_by : ServesTasks a w.calls w.lives None → ServesTasks (record a { kept = a.kept + 1 }) w.calls w.lives None
    tasks_by h = record { ties = h.ties; launched = h.launched; over = h.over; room = h.room; unsettled = h.unsettled }

-- none is to be stored
pub store-none : (a : AgendaView) (w : Known) (g : List (List Settlement)) → Serves a w None → a.kept ≡ length a.over → (k : ℕ) (key : KeyView) (saved : Saved) → IsStore (retold g w) k key saved → ⊥
store-none a w g serves all k key saved store = no-store a w None serves.tasks serves.front all k key saved (store-retold (retold g w) w.told k key saved store)

pub stored-turn : (g h : List (List Settlement)) (w v : Known) (k : ℕ) (key : KeyView) → h ≡ g → IsUnstored w k key → ((saved : Saved) → IsStore w k key saved → v ≡ stored_by w k key saved) → Stores (retold g w) (retold h v)
stored-turn g h w v k key told u after = subst (λ (t : List (List Settlement)). Stores (retold g w) (retold t v)) (sym told)
    (stores-retold w g v (record { task = k; key = key; saved = u.saved; store = u.store; after = after u.saved u.store }))

pub stored-serves : (a b : AgendaView) (w v : Known) (k : ℕ) (key : KeyView) → Serves a w None → IsFirstUnstored a w k key → ((saved : Saved) → IsStore w k key saved → v ≡ stored_by w k key saved) → b ≡ record a { kept = a.kept + 1 } → Serves b v None
stored-serves a b w v k key serves found after is =
    let saved = found.unstored.saved in
    let store : IsStore w k key saved = found.unstored.store in
    let more : AgendaView = record a { kept = a.kept + 1 } in
    subst (λ (x : AgendaView). Serves x v None) (sym is)
    (subst (λ (u : Known). Serves more u None) (sym (after saved store))
    (record { tasks = tasks_by serves.tasks; front = front-stored-next a more w k key saved found.at store.key_is refl refl serves.front }))
  where
    tasks_by : ServesTasks a w.calls w.lives None → ServesTasks (record a { kept = a.kept + 1 }) w.calls w.lives None
    tasks_by h = record { ties = h.ties; launched = h.launched; over = h.over; room = h.room; unsettled = h.unsettled }

pub stored-undone : (w v : Known) (g h : List (List Settlement)) (r : Refusal) → v ≡ w → h ≡ g → IsRefusedFor (Stores w) r → IsUndone (retold g w) (retold h v) (Stores (retold g w)) r
stored-undone w v g h r same told cause = undone-quiet w v g h (Stores (retold g w)) r same told (refused-as (Stores w) (Stores (retold g w)) (λ u s. (g, stores-retold w g u s)) r cause)

-- the monitors were told nothing by what only counts
pub told-same : (a b : AgendaView) → b ≡ record a { kept = b.kept } → b.graph.told ≡ a.graph.told
told-same a b same = ap (λ (x : AgendaView). x.graph.told) same

-- ---- attempts

pub started-serves : (a0 a b : AgendaView) (w v : Known) (k : ℕ) (rest : List ℕ) → a0 ≡ a → IsFact w → CanStart w k → Serves a w None → a0.launched ≡ k ∷ rest → v ≡ started w k
    → b.graph ≡ a0.graph → b.launched ≡ rest → b.over ≡ a0.over → b.kept ≡ a0.kept → running_in w.lives + 1 ≤ b.spare → b.unsettled ≡ a0.unsettled → Serves b v None
started-serves a0 a b w v k rest is fact can serves first after graph launches over kept spare unsettled =
    let inside = subst (λ (x : AgendaView). Serves x w None) (sym is) serves in
    subst (λ (u : Known). Serves b u None) (sym after)
    (record {
      tasks = serves-started a0 b w k rest fact.inv can inside.tasks first graph launches over spare unsettled;
      front = front-started a0 b w k fact.inv (keep-started w k fact.inv can) can inside.tasks over kept inside.front;
    })

pub finished-serves : (a0 a b : AgendaView) (w v : Known) (k : ℕ) (outcome : Outcome) → a0 ≡ a → IsFact w → CanFinish w k outcome → Serves a w None → v ≡ finished w k outcome
    → b.graph ≡ a0.graph → b.launched ≡ a0.launched → b.over ≡ a0.over ++ k ∷ [] → b.kept ≡ a0.kept → a0.spare ≤ b.spare + 1 → b.unsettled ≡ a0.unsettled → Serves b v None
finished-serves a0 a b w v k outcome is fact can serves after graph launches over kept spare unsettled =
    let inside = subst (λ (x : AgendaView). Serves x w None) (sym is) serves in
    subst (λ (u : Known). Serves b u None) (sym after)
    (record {
      tasks = serves-finished a0 b w k outcome fact.inv can inside.tasks graph launches over spare unsettled;
      front = front-finished a0 b w k outcome fact.inv (keep-finished w k outcome fact.inv can) can inside.tasks over kept inside.front;
    })

pub place-kept : (a0 a : AgendaView) (w : Known) (k : ℕ) → a0 ≡ a → Serves a w None → status_at w k ≡ status.Running → 0 < a0.spare
place-kept a0 a w k is serves runs = place-for-end a0 w k (subst (λ (x : AgendaView). Serves x w None) (sym is) serves).tasks runs

-- ---- the end

none_left : (lives : List Life) → ((k : ℕ) → k < length lives → is_settled (get_or lives k no_life).status ≡ true) → unsettled_in lives ≡ 0
none_left [] all = refl
none_left (life ∷ lives) all =
    let first : is_settled life.status ≡ true = all 0 (omega arith) in
    let rest = none_left lives (λ k lt. all (suc k) (omega (arith, lt))) in
    rw first (omega (arith, rest))

settled_some : (life : Life) → IsSome (outcome_in life) → is_settled life.status ≡ true
settled_some life h = by_test (is_settled life.status) refl
  where
    by_test : (b : Bool) → is_settled life.status ≡ b → is_settled life.status ≡ true
    by_test true e = e
    by_test false e = absurd (let none : outcome_in life ≡ None = rw e refl in let some = subst IsSome none h in cc)

pub not-done : (a0 a : AgendaView) (w : Known) → a0 ≡ a → IsFact w → Serves a w None → 0 < a0.unsettled → IsDone w → ⊥
not-done a0 a w is fact serves some done =
    let count = (subst (λ (x : AgendaView). Serves x w None) (sym is) serves).tasks.unsettled in
    let lives = fact.inv.holds.tracks.lives in
    let none = none_left w.lives (λ k lt. settled_some (life_at w k) (done.settled k (omega (arith, lt, lives)))) in
    omega (arith, count, none, some)

ended_by : (life : Life) (s : Status) → is_settled s ≡ true → IsReached life s → IsSome life.end
ended_by life status.ExecDone is reached = reached
ended_by life status.Failed is reached = reached
ended_by life status.DepFail is reached = reached
ended_by life status.MemoDone is reached = reached
ended_by life status.FailRetryable is reached = absurd reached
ended_by life status.Unsched is reached = absurd (cc)
ended_by life status.Pending is reached = absurd (cc)
ended_by life status.Launched is reached = absurd (cc)
ended_by life status.Running is reached = absurd (cc)
ended_by life status.RunningEnded is reached = absurd (cc)
ended_by life status.Joining is reached = absurd (cc)

pub all-done : (a0 a : AgendaView) (w : Known) → a0 ≡ a → IsFact w → Serves a w None → a0.unsettled ≡ 0 → (k : ℕ) → k < length w.calls → IsSome (settled_outcome w k)
all-done a0 a w is fact serves none k lt =
    let count = (subst (λ (x : AgendaView). Serves x w None) (sym is) serves).tasks.unsettled in
    let lives = fact.inv.holds.tracks.lives in
    let settled = unsettled-none w k (sym count ∙ none) (omega (arith, lt, lives)) in
    let some = ended_by (life_at w k) (status_at w k) settled (fact.inv.holds.tracks.lived k lt).reached in
    let same : settled_outcome w k ≡ (life_at w k).end = rw settled refl in
    subst IsSome (sym same) some

over_some : {A : Type 0} → (e : Option A) → is_some e ≡ true → IsSome e
over_some None h = absurd (cc)
over_some (Some x) h = refl

pub can-end : (a0 a : AgendaView) (w : Known) → a0 ≡ a → IsFact w → Serves a w None → has_ended w ≡ false → is_some w.ending ≡ true → a0.unsettled ≡ 0 → CanEnd w
can-end a0 a w is fact serves going over none = record { not_ended = going; done = record { over = over_some w.ending over; settled = all-done a0 a w is fact serves none } }

pub not-over : (w : Known) → is_some w.ending ≡ false → IsDone w → ⊥
not-over w none done = by_ending w.ending none done.over
  where
    by_ending : {A : Type 0} → (e : Option A) → is_some e ≡ false → IsSome e → ⊥
    by_ending None h some = cc
    by_ending (Some x) h some = cc

pub launched-first : (a0 a : AgendaView) (w : Known) (k : ℕ) (rest : List ℕ) → a0 ≡ a → Serves a w None → a0.launched ≡ k ∷ rest → status_at w k ≡ status.Launched
launched-first a0 a w k rest is serves first = first-launched a0 w k rest (subst (λ (x : AgendaView). Serves x w None) (sym is) serves).tasks first
