-- An agenda follows the acts on tasks.
use Rattle.std.proofs.Common.{◌≡◌, ◌≢◌, ℕ, ◌+◌, ◌<◌, ◌≤◌, Bool, true, false, refl, sym, ◌∙◌, ap, subst, arith, true≢false, List, [], ◌∷◌, ◌++◌, length, take, set, remove, slice_get, Option, Some, None}
use Rattle.flow_base.specs.declared.outcome.Outcome.{Outcome}
use Rattle.task_record.specs.declared.status.Status.{Status}
use Rattle.task_record.specs.declared.status.Status.TheVariants as status
use Rattle.task_record.specs.States.{is_settled}
use Rattle.dependency_graph.specs.declared.callback.CallbackKind.{CallbackKind}
use Rattle.dependency_graph.specs.declared.callback.CallbackKind.TheVariants as kind
use Rattle.dependency_graph.specs.declared.callback.Callback.{Callback}
use Rattle.dependency_graph.specs.declared.callback.Callback.TheVariants.{Launch, DepFail, JoinDone}
use Rattle.dependency_graph.specs.Callbacks.{IsExact, IsReadyCallback, has_number, next_of}
use Rattle.dependency_graph.specs.Graphs.{Graph, IsOpenTask, with_next, with_settlement}
use Rattle.body_requests.specs.Asks.{Each}
use Rattle.call_rules.specs.Calls.{awaited}
use Rattle.call_rules.specs.Groups.{AllKnown}
use Rattle.memo_table.specs.Keys.{KeyView}
use Rattle.memo_table.specs.declared.saved.Saved.{Saved}
use Rattle.history_laws.specs.Tables.{status_of}
use Rattle.kernel_model.specs.Acts.{launched, started, finished, settled_in, settled_as, settlement_as, settlement_of, recalled, stored_by}
use Rattle.kernel_model.specs.Conditions.{CanLaunch, CanStart, CanFinish, CanRecall}
use Rattle.kernel_model.specs.Invariants.{Inv}
use Rattle.kernel_model.specs.Known.{Known, Life, path_at, life_at, status_at, known, value_of}
use Rattle.kernel_model.specs.Turns.{IsCallback, IsJoinDone}
use Rattle.kernel_model.proofs.Places.{status-within}
use Rattle.agenda_model.specs.AgendaViews.{AgendaView}
use Rattle.agenda_model.specs.Agendas.{ServesTasks, Ties, Lacks, Waits, IsStored, IsCurrentAs, IsLaunchOf, IsEndOfJoin, paths_at, IsQueue, HasStatus, runs, running_in, unsettled_in}
use Rattle.agenda_model.proofs.Named.{IsNamed, inputs-named, awaited-named, known-distinct, distinct-known}
use Rattle.agenda_model.proofs.Given.{IsNext, next-is, next-left, next-ready, ties-given, known-closed, closed-known, stored-ready, of-launch, of-failure, of-join, launch-inputs, join-inputs}
use Rattle.agenda_model.proofs.NumberLists.{get-has}
use Rattle.agenda_model.proofs.Queues.{life-within, queue-first, queue-none, queue-kept, queue-pushed, queue-popped, queue-removed, one, one-open, one-settled, unsettled-most, unsettled-part, unsettled-set, unsettled-kept, running-part, running-set, runs-none, settled-differs}
use Rattle.agenda_model.proofs.Tying.{IsFree, ties-opened, ties-kept, ties-settled, free-status, free-lacking, status-settled}

-- the same agenda with another graph
abbrev pub with_graph : Graph → AgendaView → AgendaView
with_graph g a = record a { graph = g }

-- the agenda has the tasks of what is known
abbrev pub HasTasks : AgendaView → Known → Option ℕ → Type 0
HasTasks a w lacking = ServesTasks a w.calls w.lives lacking

-- ---- what is ready

-- where each ready callback was given, no callback is to be carried out
pub none-ready : (a : AgendaView) (w : Known) → Inv w → HasTasks a w None → ((c : ℕ) → IsReadyCallback a.graph.callbacks c → has_number c (take a.graph.callbacks.given a.graph.callbacks.made) ≡ true)
    → ((k : ℕ) → IsCallback w k → ⊥) × ((k : ℕ) → IsJoinDone w k → ⊥)
none-ready a w inv serves done = (λ k h. none_begins k h, λ k h. none_ends k h)
  where
    given : (k : ℕ) (s : IsStored a.graph.callbacks k) → AllKnown (known w) (paths_at w.calls s.view.inputs) → ⊥
    given k s inputs_known =
        let closed = known-closed a.graph w None inv.holds.tracks serves.ties s.view.inputs inputs_known in
        true≢false (sym (done s.number (stored-ready a.graph.callbacks s.number s.view s.there closed)) ∙ s.left)

    none_begins : (k : ℕ) → IsCallback w k → ⊥
    none_begins k h =
        let pending : status_at w k ≡ status.Pending = h.pending in
        let within = status-within w inv.holds.tracks.lives k (λ e. (let bad = sym pending ∙ e in absurd (cc))) in
        let s = serves.ties.stored k within (subst Waits (sym pending) tt) (λ bad. bad) in
        given k s (subst (AllKnown (known w)) (sym (launch-inputs w.calls w.lives k s.view (serves.ties.current s.number s.view s.there s.left).0 s.task_is pending)) h.inputs)

    none_ends : (k : ℕ) → IsJoinDone w k → ⊥
    none_ends k h =
        let joining : status_at w k ≡ status.Joining = h.joining in
        let within = status-within w inv.holds.tracks.lives k (λ e. (let bad = sym joining ∙ e in absurd (cc))) in
        let s = serves.ties.stored k within (subst Waits (sym joining) tt) (λ bad. bad) in
        given k s (subst (AllKnown (known w)) (sym (join-inputs w.calls w.lives k s.view h.result (serves.ties.current s.number s.view s.there s.left).0 s.task_is joining h.ran)) (known-distinct (known w) (awaited h.result) h.awaited))

-- the agenda after the next callback was given
serves_given : (a : AgendaView) (w : Known) (t : Callback) (n : IsNext a.graph.callbacks t) → HasTasks a w None → IsExact a.graph.callbacks → HasTasks (with_graph (with_next a.graph) a) w (Some n.view.task)
serves_given a w t n serves exact = record {
  ties = ties-given a.graph w.calls w.lives t n exact serves.ties;
  launched = serves.launched;
  over = serves.over;
  room = serves.room;
  unsettled = serves.unsettled;
}

-- it begins a task
given_begins : (a : AgendaView) (w : Known) (t : Callback) (n : IsNext a.graph.callbacks t) → Inv w → HasTasks a w None → IsExact a.graph.callbacks → n.view.kind ≡ kind.Launch → IsCallback w n.view.task
given_begins a w t n inv serves exact launches =
    let current = (serves.ties.current n.number n.view n.there (next-left a.graph.callbacks t n exact)).0 in
    let is : IsLaunchOf w.calls w.lives n.view.task n.view.inputs = subst (λ (kd : CallbackKind). IsCurrentAs kd w.calls w.lives n.view.task n.view.inputs) launches current in
    let named = inputs-named w inv n.view.task is.within in
    let closed = next-ready a.graph.callbacks t n exact in
    record {
      pending = is.pending;
      inputs = subst (AllKnown (known w)) is.inputs_are (closed-known a.graph w None inv.holds.tracks serves.ties n.view.inputs (subst (Each IsNamed) (sym is.inputs_are) named) closed);
    }

-- it ends a join
given_ends : (a : AgendaView) (w : Known) (t : Callback) (n : IsNext a.graph.callbacks t) → Inv w → HasTasks a w None → IsExact a.graph.callbacks → n.view.kind ≡ kind.Join → IsJoinDone w n.view.task
given_ends a w t n inv serves exact ends =
    let current = (serves.ties.current n.number n.view n.there (next-left a.graph.callbacks t n exact)).0 in
    let is : IsEndOfJoin w.calls w.lives n.view.task n.view.inputs = subst (λ (kd : CallbackKind). IsCurrentAs kd w.calls w.lives n.view.task n.view.inputs) ends current in
    let named = awaited-named w inv n.view.task is.result is.ran in
    let closed = next-ready a.graph.callbacks t n exact in
    record {
      joining = is.joining;
      result = is.result;
      ran = is.ran;
      awaited = distinct-known (known w) (awaited is.result) (subst (AllKnown (known w)) is.awaited_are (closed-known a.graph w None inv.holds.tracks serves.ties n.view.inputs (subst (Each IsNamed) (sym is.awaited_are) named) closed));
    }

pub given-launch : (a : AgendaView) (w : Known) (k : ℕ) → Inv w → HasTasks a w None → IsExact a.graph.callbacks → next_of a.graph.callbacks ≡ Some (Launch k) → IsCallback w k × HasTasks (with_graph (with_next a.graph) a) w (Some k)
given-launch a w k inv serves exact next =
    let n = next-is a.graph.callbacks (Launch k) next in
    let is = of-launch n.view.kind _ n.view.task k n.is in
    subst (λ (j : ℕ). IsCallback w j × HasTasks (with_graph (with_next a.graph) a) w (Some j)) is.1 (given_begins a w (Launch k) n inv serves exact is.0, serves_given a w (Launch k) n serves exact)

pub given-failure : (a : AgendaView) (w : Known) (k : ℕ) → Inv w → HasTasks a w None → IsExact a.graph.callbacks → next_of a.graph.callbacks ≡ Some (DepFail k) → IsCallback w k × HasTasks (with_graph (with_next a.graph) a) w (Some k)
given-failure a w k inv serves exact next =
    let n = next-is a.graph.callbacks (DepFail k) next in
    let is = of-failure n.view.kind _ n.view.task k n.is in
    subst (λ (j : ℕ). IsCallback w j × HasTasks (with_graph (with_next a.graph) a) w (Some j)) is.1 (given_begins a w (DepFail k) n inv serves exact is.0, serves_given a w (DepFail k) n serves exact)

pub given-join : (a : AgendaView) (w : Known) (k : ℕ) → Inv w → HasTasks a w None → IsExact a.graph.callbacks → next_of a.graph.callbacks ≡ Some (JoinDone k) → IsJoinDone w k × HasTasks (with_graph (with_next a.graph) a) w (Some k)
given-join a w k inv serves exact next =
    let n = next-is a.graph.callbacks (JoinDone k) next in
    let is = of-join n.view.kind _ n.view.task k n.is in
    subst (λ (j : ℕ). IsJoinDone w j × HasTasks (with_graph (with_next a.graph) a) w (Some j)) is.1 (given_ends a w (JoinDone k) n inv serves exact is.0, serves_given a w (JoinDone k) n serves exact)

-- an unsettled task is open in the graph
pub task-opened : (a : AgendaView) (w : Known) (k : ℕ) → Inv w → HasTasks a w None → k < length w.calls → is_settled (status_at w k) ≡ false → IsOpenTask a.graph (path_at w k)
task-opened a w k inv serves within unsettled = ties-opened a.graph w.calls w.lives None k inv.holds.tracks.distinct serves.ties within unsettled

pub lacking-opened : (a : AgendaView) (w : Known) (k : ℕ) → Inv w → HasTasks a w (Some k) → k < length w.calls → is_settled (status_at w k) ≡ false → IsOpenTask a.graph (path_at w k)
lacking-opened a w k inv serves within unsettled = ties-opened a.graph w.calls w.lives (Some k) k inv.holds.tracks.distinct serves.ties within unsettled

-- ---- counts

pub unsettled-few : (lives : List Life) → unsettled_in lives ≤ length lives
unsettled-few lives = unsettled-most lives

-- an unsettled task counts
pub unsettled-some : (w : Known) (k : ℕ) → k < length w.lives → is_settled (status_at w k) ≡ false → 0 < unsettled_in w.lives
unsettled-some w k within opened =
    let part = unsettled-part w.lives k within in
    let is : one (status_at w k) ≡ 1 = one-open (status_at w k) opened in
    omega (arith, part, is)

pub unsettled-none : (w : Known) (k : ℕ) → unsettled_in w.lives ≡ 0 → k < length w.lives → is_settled (status_at w k) ≡ true
unsettled-none w k none within = by_state (is_settled (status_at w k)) refl
  where
    by_state : (b : Bool) → is_settled (status_at w k) ≡ b → is_settled (status_at w k) ≡ true
    by_state true e = e
    by_state false e = let some = unsettled-some w k within e in absurd (omega (arith, some, none))

-- ---- acts on tasks

pub serves-launched : (a b : AgendaView) (w : Known) (k : ℕ) → Inv w → CanLaunch w k → HasTasks a w (Some k)
    → b.graph ≡ a.graph → b.launched ≡ a.launched ++ k ∷ [] → b.over ≡ a.over → a.spare ≤ b.spare → b.unsettled ≡ a.unsettled
    → HasTasks b (launched w k) None
serves-launched a b w k inv can serves graph queue over room unsettled =
    let pending : status_at w k ≡ status.Pending = can.callback.pending in
    let life : Life = record (life_at w k) { status = status.Launched; attempts = (life_at w k).attempts + 1 } in
    let lives = inv.holds.tracks.lives in
    let within = status-within w lives k (λ e. (let bad = sym pending ∙ e in absurd (cc))) in
    let below : k < length w.lives = omega (arith, within, lives) in
    let same : is_settled life.status ≡ is_settled (status_at w k) = ap is_settled (sym pending) in
    let running = running-set w.lives k life below in
    let before = serves.room in
    record {
      ties = subst (λ (g : Graph). Ties g w.calls (set w.lives k life) None) (sym graph) (ties-kept a.graph w.calls w.lives (Some k) k life serves.ties within same (λ j e. e) (free-lacking a.graph w.calls w.lives k serves.ties) (λ waits. waits));
      launched = subst (λ (q : List ℕ). IsQueue q (HasStatus (set w.lives k life) status.Launched)) (sym queue) (queue-pushed w.lives status.Launched k life below a.launched (λ e. (let bad = sym pending ∙ e in absurd (cc))) refl serves.launched);
      over = subst (λ (q : List ℕ). IsQueue q (HasStatus (set w.lives k life) status.RunningEnded)) (sym over) (queue-kept w.lives status.RunningEnded k life below a.over (λ e. (let bad = sym pending ∙ e in absurd (cc))) (λ e. absurd (cc)) serves.over);
      room = omega (arith, running, before, room);
      unsettled = unsettled ∙ serves.unsettled ∙ sym (unsettled-kept w.lives k life below same);
    }

pub serves-started : (a b : AgendaView) (w : Known) (k : ℕ) (rest : List ℕ) → Inv w → CanStart w k → HasTasks a w None → a.launched ≡ k ∷ rest
    → b.graph ≡ a.graph → b.launched ≡ rest → b.over ≡ a.over → running_in w.lives + 1 ≤ b.spare → b.unsettled ≡ a.unsettled
    → HasTasks b (started w k) None
serves-started a b w k rest inv can serves first graph queue over room unsettled =
    let waiting : status_at w k ≡ status.Launched = can.waiting in
    let life : Life = record (life_at w k) { status = status.Running } in
    let lives = inv.holds.tracks.lives in
    let within = status-within w lives k (λ e. (let bad = sym waiting ∙ e in absurd (cc))) in
    let below : k < length w.lives = omega (arith, within, lives) in
    let same : is_settled life.status ≡ is_settled (status_at w k) = ap is_settled (sym waiting) in
    let running = running-set w.lives k life below in
    let earlier : IsQueue (k ∷ rest) (HasStatus w.lives status.Launched) = subst (λ (q : List ℕ). IsQueue q (HasStatus w.lives status.Launched)) first serves.launched in
    record {
      ties = subst (λ (g : Graph). Ties g w.calls (set w.lives k life) None) (sym graph) (ties-kept a.graph w.calls w.lives None k life serves.ties within same (λ j bad. absurd bad) (free-status a.graph w.calls w.lives None k serves.ties (λ waits. subst Waits waiting waits)) (λ waits. waits));
      launched = subst (λ (q : List ℕ). IsQueue q (HasStatus (set w.lives k life) status.Launched)) (sym queue) (queue-popped w.lives status.Launched k life below rest (λ e. absurd (cc)) earlier);
      over = subst (λ (q : List ℕ). IsQueue q (HasStatus (set w.lives k life) status.RunningEnded)) (sym over) (queue-kept w.lives status.RunningEnded k life below a.over (λ e. (let bad = sym waiting ∙ e in absurd (cc))) (λ e. absurd (cc)) serves.over);
      room = omega (arith, running, room);
      unsettled = unsettled ∙ serves.unsettled ∙ sym (unsettled-kept w.lives k life below same);
    }

pub serves-finished : (a b : AgendaView) (w : Known) (k : ℕ) (outcome : Outcome) → Inv w → CanFinish w k outcome → HasTasks a w None
    → b.graph ≡ a.graph → b.launched ≡ a.launched → b.over ≡ a.over ++ k ∷ [] → a.spare ≤ b.spare + 1 → b.unsettled ≡ a.unsettled
    → HasTasks b (finished w k outcome) None
serves-finished a b w k outcome inv can serves graph queue over room unsettled =
    let runs_now : status_at w k ≡ status.Running = can.running in
    let life : Life = record (life_at w k) { status = status.RunningEnded; end = Some outcome } in
    let lives = inv.holds.tracks.lives in
    let within = status-within w lives k (λ e. (let bad = sym runs_now ∙ e in absurd (cc))) in
    let below : k < length w.lives = omega (arith, within, lives) in
    let same : is_settled life.status ≡ is_settled (status_at w k) = ap is_settled (sym runs_now) in
    let running = running-set w.lives k life below in
    let one_less : runs (status_at w k) ≡ 1 = ap runs runs_now in
    let before = serves.room in
    record {
      ties = subst (λ (g : Graph). Ties g w.calls (set w.lives k life) None) (sym graph) (ties-kept a.graph w.calls w.lives None k life serves.ties within same (λ j bad. absurd bad) (free-status a.graph w.calls w.lives None k serves.ties (λ waits. subst Waits runs_now waits)) (λ waits. waits));
      launched = subst (λ (q : List ℕ). IsQueue q (HasStatus (set w.lives k life) status.Launched)) (sym queue) (queue-kept w.lives status.Launched k life below a.launched (λ e. (let bad = sym runs_now ∙ e in absurd (cc))) (λ e. absurd (cc)) serves.launched);
      over = subst (λ (q : List ℕ). IsQueue q (HasStatus (set w.lives k life) status.RunningEnded)) (sym over) (queue-pushed w.lives status.RunningEnded k life below a.over (λ e. (let bad = sym runs_now ∙ e in absurd (cc))) refl serves.over);
      room = omega (arith, running, one_less, before, room);
      unsettled = unsettled ∙ serves.unsettled ∙ sym (unsettled-kept w.lives k life below same);
    }

-- there is a place for the end of a running attempt
pub place-for-end : (a : AgendaView) (w : Known) (k : ℕ) → HasTasks a w None → status_at w k ≡ status.Running → 0 < a.spare
place-for-end a w k serves running =
    let within = life-within w.lives k (λ e. let bad = sym running ∙ e in absurd (cc)) in
    let part = running-part w.lives k within in
    let is : runs (status_at w k) ≡ 1 = ap runs running in
    let room = serves.room in
    omega (arith, part, is, room)

-- a task without a callback is settled in a state, and leaves the queue of those whose attempts are over
settled_by : (a b : AgendaView) (w : Known) (k : ℕ) (s : Status) (outcome : Outcome) (lacking : Option ℕ) → Inv w → k < length w.calls → is_settled s ≡ true → is_settled (status_at w k) ≡ false → status_at w k ≢ status.Launched → HasTasks a w lacking
    → ((j : ℕ) → Lacks lacking j → j ≡ k) → IsFree a.graph k → b.graph ≡ with_settlement (settlement_as w k s outcome) a.graph → b.launched ≡ a.launched → IsQueue b.over (HasStatus (settled_in w k s outcome).lives status.RunningEnded)
    → a.spare ≤ b.spare → b.unsettled + 1 ≡ a.unsettled → HasTasks b (settled_in w k s outcome) None
settled_by a b w k s outcome lacking inv within settles opened not_launched serves only free graph queue over room unsettled =
    let life : Life = record (life_at w k) { status = s; end = Some outcome } in
    let lives = inv.holds.tracks.lives in
    let below : k < length w.lives = omega (arith, within, lives) in
    let change = unsettled-set w.lives k life below in
    let no_more = one-settled s settles in
    let one_before = one-open (status_at w k) opened in
    let count = serves.unsettled in
    let running = running-set w.lives k life below in
    let none_runs = runs-none s (settled-differs s status.Running settles refl) in
    let before = serves.room in
    record {
      ties = subst (λ (g : Graph). Ties g w.calls (set w.lives k life) None) (sym graph) (ties-settled a.graph w.calls w.lives lacking k life (settlement_as w k s outcome) inv.holds.tracks.distinct serves.ties within refl settles only free);
      launched = subst (λ (q : List ℕ). IsQueue q (HasStatus (set w.lives k life) status.Launched)) (sym queue) (queue-kept w.lives status.Launched k life below a.launched not_launched (settled-differs s status.Launched settles refl) serves.launched);
      over = over;
      room = omega (arith, running, none_runs, before, room);
      unsettled = omega (arith, change, no_more, one_before, count, unsettled);
    }

-- a task whose callback was given settles in a state
pub serves-settled-in : (a b : AgendaView) (w : Known) (k : ℕ) (s : Status) (outcome : Outcome) → Inv w → k < length w.calls → is_settled s ≡ true → is_settled (status_at w k) ≡ false
    → status_at w k ≢ status.Launched → status_at w k ≢ status.RunningEnded → HasTasks a w (Some k)
    → b.graph ≡ with_settlement (settlement_as w k s outcome) a.graph → b.launched ≡ a.launched → b.over ≡ a.over → a.spare ≤ b.spare → b.unsettled + 1 ≡ a.unsettled
    → HasTasks b (settled_in w k s outcome) None
serves-settled-in a b w k s outcome inv within settles opened not_launched not_over serves graph queue over room unsettled =
    let life : Life = record (life_at w k) { status = s; end = Some outcome } in
    let lives = inv.holds.tracks.lives in
    let below : k < length w.lives = omega (arith, within, lives) in
    settled_by a b w k s outcome (Some k) inv within settles opened not_launched serves (λ j e. e) (free-lacking a.graph w.calls w.lives k serves.ties) graph queue
    (subst (λ (q : List ℕ). IsQueue q (HasStatus (set w.lives k life) status.RunningEnded)) (sym over) (queue-kept w.lives status.RunningEnded k life below a.over not_over (settled-differs s status.RunningEnded settles refl) serves.over))
    room unsettled

-- it settles in the state of its outcome
pub serves-settled : (a b : AgendaView) (w : Known) (k : ℕ) (outcome : Outcome) → Inv w → k < length w.calls → is_settled (status_at w k) ≡ false
    → status_at w k ≢ status.Launched → status_at w k ≢ status.Running → status_at w k ≢ status.RunningEnded → HasTasks a w (Some k)
    → b.graph ≡ with_settlement (settlement_of w k outcome) a.graph → b.launched ≡ a.launched → b.over ≡ a.over → a.spare ≤ b.spare → b.unsettled + 1 ≡ a.unsettled
    → HasTasks b (settled_as w k outcome) None
serves-settled a b w k outcome inv within opened not_launched not_running not_over serves graph queue over room unsettled =
    serves-settled-in a b w k (status_of outcome) outcome inv within (status-settled outcome) opened not_launched not_over serves graph queue over room unsettled

-- it takes its value from the memo
pub serves-recalled : (a b : AgendaView) (w : Known) (k : ℕ) (saved : Saved) → Inv w → CanRecall w k saved → HasTasks a w (Some k)
    → b.graph ≡ with_settlement (settlement_as w k status.MemoDone (value_of saved)) a.graph → b.launched ≡ a.launched → b.over ≡ a.over → a.spare ≤ b.spare → b.unsettled + 1 ≡ a.unsettled
    → HasTasks b (recalled w k saved) None
serves-recalled a b w k saved inv can serves graph queue over room unsettled =
    let pending : status_at w k ≡ status.Pending = can.callback.pending in
    let within = status-within w inv.holds.tracks.lives k (λ e. (let bad = sym pending ∙ e in absurd (cc))) in
    serves-settled-in a b w k status.MemoDone (value_of saved) inv within refl (ap is_settled pending)
    (λ e. (let bad = sym pending ∙ e in absurd (cc))) (λ e. (let bad = sym pending ∙ e in absurd (cc))) serves graph queue over room unsettled

-- a task whose attempt is over settles, at any place of the queue
pub serves-ended : (a b : AgendaView) (w : Known) (k i : ℕ) (outcome : Outcome) → Inv w → status_at w k ≡ status.RunningEnded → HasTasks a w None → slice_get a.over i ≡ Some k
    → b.graph ≡ with_settlement (settlement_of w k outcome) a.graph → b.launched ≡ a.launched → b.over ≡ remove a.over i → a.spare ≤ b.spare → b.unsettled + 1 ≡ a.unsettled
    → HasTasks b (settled_as w k outcome) None
serves-ended a b w k i outcome inv ended serves at graph queue over room unsettled =
    let life : Life = record (life_at w k) { status = status_of outcome; end = Some outcome } in
    let lives = inv.holds.tracks.lives in
    let within = status-within w lives k (λ e. (let bad = sym ended ∙ e in absurd (cc))) in
    let below : k < length w.lives = omega (arith, within, lives) in
    settled_by a b w k (status_of outcome) outcome None inv within (status-settled outcome) (ap is_settled ended) (λ e. (let bad = sym ended ∙ e in absurd (cc))) serves
    (λ j bad. absurd bad) (free-status a.graph w.calls w.lives None k serves.ties (λ waits. subst Waits ended waits)) graph queue
    (subst (λ (q : List ℕ). IsQueue q (HasStatus (set w.lives k life) status.RunningEnded)) (sym over) (queue-removed w.lives status.RunningEnded k life below a.over i at (settled-differs (status_of outcome) status.RunningEnded (status-settled outcome) refl) serves.over))
    room unsettled

-- the value of an attempt is stored
pub serves-stored : (a : AgendaView) (w : Known) (k : ℕ) (key : KeyView) (saved : Saved) (lacking : Option ℕ) → HasTasks a w lacking → HasTasks a (stored_by w k key saved) lacking
serves-stored a w k key saved lacking serves = serves

-- ---- queues

-- the first of the queue of launched tasks is launched
pub first-launched : (a : AgendaView) (w : Known) (k : ℕ) (rest : List ℕ) → HasTasks a w None → a.launched ≡ k ∷ rest → status_at w k ≡ status.Launched
first-launched a w k rest serves is = queue-first k rest (HasStatus w.lives status.Launched) (subst (λ (q : List ℕ). IsQueue q (HasStatus w.lives status.Launched)) is serves.launched)

pub none-launched : (a : AgendaView) (w : Known) → HasTasks a w None → a.launched ≡ [] → (k : ℕ) → status_at w k ≢ status.Launched
none-launched a w serves is = queue-none (HasStatus w.lives status.Launched) (subst (λ (q : List ℕ). IsQueue q (HasStatus w.lives status.Launched)) is serves.launched)

pub first-over : (a : AgendaView) (w : Known) (k : ℕ) (rest : List ℕ) → HasTasks a w None → a.over ≡ k ∷ rest → status_at w k ≡ status.RunningEnded
first-over a w k rest serves is = queue-first k rest (HasStatus w.lives status.RunningEnded) (subst (λ (q : List ℕ). IsQueue q (HasStatus w.lives status.RunningEnded)) is serves.over)

pub none-over : (a : AgendaView) (w : Known) → HasTasks a w None → a.over ≡ [] → (k : ℕ) → status_at w k ≢ status.RunningEnded
none-over a w serves is = queue-none (HasStatus w.lives status.RunningEnded) (subst (λ (q : List ℕ). IsQueue q (HasStatus w.lives status.RunningEnded)) is serves.over)

-- each of the queue of those whose attempts are over is over
pub over-at : (a : AgendaView) (w : Known) (lacking : Option ℕ) (k i : ℕ) → HasTasks a w lacking → slice_get a.over i ≡ Some k → status_at w k ≡ status.RunningEnded
over-at a w lacking k i serves at = serves.over.only k (get-has a.over i k at)
