-- An agenda behind each callback that was carried out.
use Rattle.std.proofs.Common.{◌≡◌, ◌≢◌, ℕ, ◌+◌, ◌-◌, ◌<◌, ◌≤◌, ◌^◌, ◌⊎◌, inl, inr, Bool, true, false, List, [], ◌∷◌, ◌++◌, length, take, Option, Some, None, refl, sym, ◌∙◌, ap, subst, arith}
use Rattle.flow_base.specs.declared.value.Value.{Value}
use Rattle.flow_base.specs.declared.outcome.Outcome.{Outcome}
use Rattle.script_tree.specs.declared.tree.AppDef.{AppDef}
use Rattle.task_record.specs.declared.status.Status.{Status}
use Rattle.task_record.specs.declared.status.Status.TheVariants as status
use Rattle.task_record.specs.States.{is_settled}
use Rattle.dependency_graph.specs.declared.monitor.Settlement.{Settlement}
use Rattle.dependency_graph.specs.declared.callback.Callback.{Callback}
use Rattle.dependency_graph.specs.declared.callback.Callback.TheVariants.{Launch, DepFail, JoinDone}
use Rattle.dependency_graph.specs.Callbacks.{IsExact, IsReadyCallback, has_number, next_of}
use Rattle.dependency_graph.specs.Graphs.{Graph, CanAdd, IsOpenTask, with_next, with_settlement, with_task}
use Rattle.dependency_graph.specs.Monitors.{tell, ToldFirst}
use Rattle.history_laws.specs.Tables.{status_of}
use Rattle.flow_meaning.specs.declared.walk.Request.TheVariants as request
use Rattle.flow_meaning.specs.Inputs.{inputs}
use Rattle.flow_meaning.specs.Operators.{Text}
use Rattle.flow_meaning.specs.Sequential.{join_outcome}
use Rattle.call_rules.specs.Calls.{Call, Begin, Joins, join_dry}
use Rattle.stored_units.specs.Stored.{max_tasks}
use Rattle.kernel_model.specs.declared.answers.Refusal.{Refusal}
use Rattle.kernel_model.specs.declared.answers.Refusal.TheVariants.{NoMemory}
use Rattle.kernel_model.specs.Acts.{submitted, all_submitted, joining, joined, launched, settled_as, settlement_of, retold, call_of, called}
use Rattle.kernel_model.specs.Conditions.{CanLaunch, CanJoin, MainAsks}
use Rattle.kernel_model.specs.Invariants.{Inv}
use Rattle.kernel_model.specs.Known.{Known, path_at, status_at, begin_at, apps_in, known, next_path, has_ended}
use Rattle.kernel_model.specs.Limits.{IsRefusedFor}
use Rattle.kernel_model.specs.Turns.{IsCallback, IsJoinDone, CarriesOut, begins, ends, carried_out}
use Rattle.kernel_model.proofs.KeepingTasks.{keep-launched}
use Rattle.kernel_model.proofs.KeepingSubmits.{keep-joined}
use Rattle.kernel_model.proofs.KeepingMain.{keep-called}
use Rattle.kernel_model.proofs.Passing.{passed-none}
use Rattle.kernel_model.proofs.Places.{status-within, length-pushed}
use Rattle.kernel_model.proofs.Retelling.{callback-retold, join-retold}
use Rattle.agenda_model.specs.AgendaViews.{AgendaView}
use Rattle.agenda_model.specs.Agendas.{Serves, unsettled_in}
use Rattle.agenda_model.specs.Storing.{CanStoreJoinOf, IsJoinStored}
use Rattle.kernel_core.specs.Joins.{CanRunJoin, IsOver, JoinEnds}
use Rattle.kernel_core.specs.Refused.{IsUndone}
use Rattle.kernel_core.specs.Views.{IsFact}
use Rattle.kernel_core.proofs.Serving.{refused-as, undone-quiet, undone-by, undone-more, seen-settled}
use Rattle.agenda_model.proofs.Carrying.{none-ready, given-launch, given-failure, given-join, with_graph, lacking-opened, unsettled-few, unsettled-some, serves-launched, serves-settled}
use Rattle.agenda_model.proofs.Submitting.{can-store, serves-joined, can-add, serves-called}
use Rattle.agenda_model.proofs.Fronts.{front-launched, front-settled, front-called, front-joined, front-graph}

-- ---- a task whose callback was given

-- a state in which a task waits for its callback
pub record IsIdle (s : Status) : Type 0 where
  pub begun : s ≢ status.Unsched
  pub unsettled : is_settled s ≡ false
  pub unlaunched : s ≢ status.Launched
  pub stopped : s ≢ status.Running
  pub unended : s ≢ status.RunningEnded

pub pending-idle : IsIdle status.Pending
pending-idle = record { begun = λ e. absurd (cc); unsettled = refl; unlaunched = λ e. absurd (cc); stopped = λ e. absurd (cc); unended = λ e. absurd (cc) }

pub joining-idle : IsIdle status.Joining
joining-idle = record { begun = λ e. absurd (cc); unsettled = refl; unlaunched = λ e. absurd (cc); stopped = λ e. absurd (cc); unended = λ e. absurd (cc) }

module _ (a0 a : AgendaView) (w : Known) (k : ℕ) (s : Status) (idle : IsIdle s) (at : status_at w k ≡ s) (is : a0 ≡ a) (fact : IsFact w) (serves : Serves a w (Some k)) where
  idle_inside : Serves a0 w (Some k)
  idle_inside = subst (λ (b : AgendaView). Serves b w (Some k)) (sym is) serves

  idle_within : k < length w.calls
  idle_within = status-within w fact.inv.holds.tracks.lives k (λ e. idle.begun (sym at ∙ e))

  idle_open : is_settled (status_at w k) ≡ false
  idle_open = ap is_settled at ∙ idle.unsettled

  pub idle-opened : IsOpenTask a0.graph (path_at w k)
  idle-opened = lacking-opened a0 w k fact.inv idle_inside.tasks idle_within idle_open

  pub idle-counts : 1 ≤ a0.unsettled
  idle-counts =
      let some = unsettled-some w k (let lives = fact.inv.holds.tracks.lives in let within = idle_within in omega (arith, lives, within)) idle_open in
      let count = idle_inside.tasks.unsettled in
      omega (arith, some, count)

  pub idle-serves : (b : AgendaView) (v : Known) (outcome : Outcome) → Inv (settled_as w k outcome) → v ≡ settled_as w k outcome → b.graph ≡ with_settlement (settlement_of w k outcome) a0.graph
      → b.launched ≡ a0.launched → b.over ≡ a0.over → b.kept ≡ a0.kept → a0.spare ≤ b.spare → b.unsettled + 1 ≡ a0.unsettled → Serves b v None
  idle-serves b v outcome inv after graph launches over kept spare unsettled =
      subst (λ (u : Known). Serves b u None) (sym after)
      (record {
        tasks = serves-settled a0 b w k outcome fact.inv idle_within idle_open (λ e. idle.unlaunched (sym at ∙ e)) (λ e. idle.stopped (sym at ∙ e)) (λ e. idle.unended (sym at ∙ e)) idle_inside.tasks graph launches over spare unsettled;
        front = front-settled a0 b w k (status_of outcome) outcome (Some k) fact.inv inv idle_open (λ e. idle.unended (sym at ∙ e)) idle_inside.tasks over kept idle_inside.front;
      })

-- ---- launches

pub launched-serves : (a0 a b : AgendaView) (w v : Known) (k : ℕ) → a0 ≡ a → IsFact w → CanLaunch w k → Serves a w (Some k) → v ≡ launched w k
    → b.graph ≡ a0.graph → b.launched ≡ a0.launched ++ k ∷ [] → b.over ≡ a0.over → b.kept ≡ a0.kept → a0.spare ≤ b.spare → b.unsettled ≡ a0.unsettled → Serves b v None
launched-serves a0 a b w v k is fact can serves after graph launches over kept spare unsettled =
    let here : Serves a0 w (Some k) = subst (λ (x : AgendaView). Serves x w (Some k)) (sym is) serves in
    subst (λ (u : Known). Serves b u None) (sym after)
    (record {
      tasks = serves-launched a0 b w k fact.inv can here.tasks graph launches over spare unsettled;
      front = front-launched a0 b w k fact.inv (keep-launched w k fact.inv can) can here.tasks over kept here.front;
    })

-- ---- the ends of joins

same_result : (w : Known) (k : ℕ) (d e : IsJoinDone w k) → d.result ≡ e.result
same_result w k d e = let one = d.ran in let other = e.ran in cc

pub ended-undone : (a0 a : AgendaView) (w v : Known) (k : ℕ) (h : List (List Settlement)) (r : Refusal) → a0 ≡ a → IsOver w k → v ≡ w
    → ((done : IsJoinDone w k) → (h ≡ a0.graph.told) ⊎ ((r ≡ NoMemory) × ToldFirst (settlement_of w k (join_outcome (known w) done.result)) a0.graph.told h))
    → IsRefusedFor (JoinEnds w k) r → IsUndone (retold a.graph.told w) (retold h v) (JoinEnds (retold a.graph.told w) k) r
ended-undone a0 a w v k h r is over same told cause =
    let g = a0.graph.told in
    let done = over.done in
    let outcome = join_outcome (known w) done.result in
    let ends_so : (u : Known) → u ≡ settled_as (retold g w) k outcome → JoinEnds (retold g w) k u = λ u after d. after ∙ ap (λ result. settled_as (retold g w) k (join_outcome (known w) result)) (same_result w k done (join-retold (retold g w) w.told k d)) in
    subst (λ (x : AgendaView). IsUndone (retold x.graph.told w) (retold h v) (JoinEnds (retold x.graph.told w) k) r) is
    (undone-by w v g h k outcome (JoinEnds (retold g w) k) r same (ends_so (settled_as (retold g w) k outcome) refl) (told done)
    (refused-as (JoinEnds w k) (JoinEnds (retold g w) k) (λ u after. (tell (settlement_of w k outcome) g, ends_so _ (seen-settled w u g _ k outcome (after done) refl))) r cause))

-- ---- calls

few : (a0 a : AgendaView) (w : Known) (lacking : Option ℕ) → a0 ≡ a → IsFact w → Serves a w lacking → a0.unsettled ≤ length w.calls
few a0 a w lacking is fact serves =
    let count = (subst (λ (x : AgendaView). Serves x w lacking) (sym is) serves).tasks.unsettled in
    let below = unsettled-few w.lives in
    let lives = fact.inv.holds.tracks.lives in
    omega (arith, count, below, lives)

pub one-more : (a0 a : AgendaView) (w : Known) → a0 ≡ a → IsFact w → Serves a w None → a0.unsettled + 1 < 2 ^ 64
one-more a0 a w is fact serves =
    let below = few a0 a w None is fact serves in
    let limit : length w.calls ≤ max_tasks = ((passed-none w).0 fact.within).0 in
    omega (arith, below, limit)

pub call-added : (a0 a : AgendaView) (w : Known) (app : ℕ) (arguments : List Value) (names : List Text) → a0 ≡ a → IsFact w → MainAsks w (request.Call app arguments names) → Serves a w None → CanAdd a0.graph (next_path w) (inputs arguments)
call-added a0 a w app arguments names is fact asks serves = can-add a0 w app arguments names fact.inv asks (subst (λ (x : AgendaView). Serves x w None) (sym is) serves).tasks

pub call-serves : (a0 a b : AgendaView) (w v : Known) (app : ℕ) (arguments : List Value) (names : List Text) → a0 ≡ a → IsFact w → IsExact a0.graph.callbacks → MainAsks w (request.Call app arguments names) → Serves a w None → v ≡ called w (call_of w app arguments names)
    → b.graph ≡ with_task (next_path w) (inputs arguments) a0.graph → b.launched ≡ a0.launched → b.over ≡ a0.over → b.kept ≡ a0.kept → b.spare ≡ a0.spare → b.unsettled ≡ a0.unsettled + 1 → Serves b v None
call-serves a0 a b w v app arguments names is fact exact asks serves after graph launches over kept spare unsettled =
    let here : Serves a0 w None = subst (λ (x : AgendaView). Serves x w None) (sym is) serves in
    subst (λ (u : Known). Serves b u None) (sym after)
    (record {
      tasks = serves-called a0 b w app arguments names fact.inv exact asks here.tasks graph launches over spare unsettled;
      front = front-called a0 b w (call_of w app arguments names) None fact.inv (keep-called w app arguments names fact.inv asks) here.tasks over kept here.front;
    })

-- ---- the bodies of joins

all_retold : (g : List (List Settlement)) (w : Known) (cs : List Call) → retold g (all_submitted w cs) ≡ all_submitted (retold g w) cs
all_retold g w [] = refl
all_retold g w (c ∷ cs) = all_retold g (submitted w c) cs

count_submitted : (w : Known) (cs : List Call) → length (all_submitted w cs).calls ≡ length w.calls + length cs
count_submitted w [] = omega arith
count_submitted w (c ∷ cs) =
    let rest = count_submitted (submitted w c) cs in
    let one = length-pushed w.calls c in
    omega (arith, rest, one)

module _ (w : Known) (k : ℕ) (values : List Value) (can : CanRunJoin w k values) where
  joins_so : (v : Known) → v ≡ carried_out w k (begin_at w k) → v ≡ joined w k (join_dry (apps_in w) (path_at w k) can.app values)
  joins_so v after = after ∙ ap (carried_out w k) can.begins

  pub join-seen : (g h : List (List Settlement)) (v : Known) → v ≡ carried_out w k (begin_at w k) → h ≡ g → retold h v ≡ carried_out (retold g w) k (begin_at w k)
  join-seen g h v after told =
      let ran = join_dry (apps_in w) (path_at w k) can.app values in
      ap (retold h) (joins_so v after)
      ∙ ap (λ (t : List (List Settlement)). retold t (joined w k ran)) told
      ∙ all_retold g (joining w k ran) ran.1
      ∙ ap (carried_out (retold g w) k) (sym can.begins)

  pub join-grows : (v : Known) → v ≡ carried_out w k (begin_at w k) → length v.calls ≡ length w.calls + length (join_dry (apps_in w) (path_at w k) can.app values).1
  join-grows v after =
      let ran = join_dry (apps_in w) (path_at w k) can.app values in
      ap (λ (u : Known). length u.calls) (joins_so v after) ∙ count_submitted (joining w k ran) ran.1

  module _ (a0 a : AgendaView) (is : a0 ≡ a) (fact : IsFact w) (serves : Serves a w (Some k)) where
    pub join-stores : CanStoreJoinOf a0.graph w k values
    join-stores = can-store a0 w k values fact.inv can.not_ended can.callback (subst (λ (x : AgendaView). Serves x w (Some k)) (sym is) serves).tasks

    pub join-undone : (v : Known) (h : List (List Settlement)) (r : Refusal) → v ≡ w → h ≡ a0.graph.told → IsRefusedFor (λ u. u ≡ carried_out w k (begin_at w k)) r → IsUndone (retold a.graph.told w) (retold h v) (λ u. u ≡ carried_out (retold a.graph.told w) k (begin_at w k)) r
    join-undone v h r same told cause =
        subst (λ (x : AgendaView). IsUndone (retold x.graph.told w) (retold h v) (λ u. u ≡ carried_out (retold x.graph.told w) k (begin_at w k)) r) is
        (undone-quiet w v a0.graph.told h (λ u. u ≡ carried_out (retold a0.graph.told w) k (begin_at w k)) r same told
        (refused-as (λ u. u ≡ carried_out w k (begin_at w k)) (λ u. u ≡ carried_out (retold a0.graph.told w) k (begin_at w k)) (λ u after. (a0.graph.told, join-seen a0.graph.told a0.graph.told u after refl)) r cause))

    pub join-counts : (v : Known) → IsFact v → v ≡ carried_out w k (begin_at w k) → a0.unsettled + (length v.calls - length w.calls) < 2 ^ 64
    join-counts v after_fact after =
        let grows = join-grows v after in
        let below = few a0 a w (Some k) is fact serves in
        let limit : length v.calls ≤ max_tasks = ((passed-none v).0 after_fact.within).0 in
        omega (arith, grows, below, limit)

    pub join-serves : (b : AgendaView) (v : Known) → IsExact a0.graph.callbacks → v ≡ carried_out w k (begin_at w k) → IsJoinStored a0.graph w k values b.graph → b.launched ≡ a0.launched → b.over ≡ a0.over → b.kept ≡ a0.kept → b.spare ≡ a0.spare → b.unsettled ≡ a0.unsettled + (length v.calls - length w.calls) → Serves b v None
    join-serves b v exact after stored launches over kept spare unsettled =
        let ran = join_dry (apps_in w) (path_at w k) can.app values in
        let grows = join-grows v after in
        let here : Serves a0 w (Some k) = subst (λ (x : AgendaView). Serves x w (Some k)) (sym is) serves in
        let may : CanJoin w k ran = record { not_ended = can.not_ended; callback = can.callback; app = can.app; values = values; begins = can.begins; is = refl } in
        subst (λ (u : Known). Serves b u None) (sym (joins_so v after))
        (record {
          tasks = serves-joined a0 b w k can.app values fact.inv exact can.not_ended can.callback can.begins here.tasks (stored can.app can.begins) launches over spare (omega (arith, grows, unsettled));
          front = front-joined a0 b w k ran (Some k) fact.inv (keep-joined w k ran fact.inv may) can.callback here.tasks over kept here.front;
        })

-- ---- which callback

module _ (a0 a : AgendaView) (w : Known) (is : a0 ≡ a) (fact : IsFact w) (serves : Serves a w None) where
  here : Serves a0 w None
  here = subst (λ (x : AgendaView). Serves x w None) (sym is) serves

  pub next-none : ((c : ℕ) → IsReadyCallback a0.graph.callbacks c → has_number c (take a0.graph.callbacks.given a0.graph.callbacks.made) ≡ true) → ((k : ℕ) → IsCallback w k → ⊥) × ((k : ℕ) → IsJoinDone w k → ⊥)
  next-none none = none-ready a0 w fact.inv here.tasks none

  pub next-launch : (k : ℕ) → IsExact a0.graph.callbacks → Some (Launch k) ≡ next_of a0.graph.callbacks → IsCallback w k × Serves (with_graph (with_next a0.graph) a0) w (Some k)
  next-launch k exact given =
      let next = given-launch a0 w k fact.inv here.tasks exact (sym given) in
      (next.0, record { tasks = next.1; front = front-graph a0 (with_next a0.graph) w here.front })

  pub next-failure : (k : ℕ) → IsExact a0.graph.callbacks → Some (DepFail k) ≡ next_of a0.graph.callbacks → IsCallback w k × Serves (with_graph (with_next a0.graph) a0) w (Some k)
  next-failure k exact given =
      let next = given-failure a0 w k fact.inv here.tasks exact (sym given) in
      (next.0, record { tasks = next.1; front = front-graph a0 (with_next a0.graph) w here.front })

  pub next-join : (k : ℕ) → IsExact a0.graph.callbacks → Some (JoinDone k) ≡ next_of a0.graph.callbacks → IsJoinDone w k × Serves (with_graph (with_next a0.graph) a0) w (Some k)
  next-join k exact given =
      let next = given-join a0 w k fact.inv here.tasks exact (sym given) in
      (next.0, record { tasks = next.1; front = front-graph a0 (with_next a0.graph) w here.front })

-- the agenda with the graph that the callback left
pub next-serves : (g : Graph) (b : AgendaView) (w : Known) (k : ℕ) → g ≡ with_next b.graph → Serves (with_graph (with_next b.graph) b) w (Some k) → Serves (with_graph g b) w (Some k)
next-serves g b w k is h = subst (λ (x : Graph). Serves (with_graph x b) w (Some k)) (sym is) h

module _ (a0 a : AgendaView) (w : Known) (k : ℕ) (g : Graph) (is : a0 ≡ a) (after : g ≡ with_next a0.graph) where
  pub next-told : g.told ≡ a.graph.told
  next-told = ap (λ (x : Graph). x.told) after ∙ ap (λ (x : AgendaView). x.graph.told) is

  pub next-in : Serves (with_graph (with_next a0.graph) a0) w (Some k) → Serves (with_graph g a0) w (Some k)
  next-in h = subst (λ (x : Graph). Serves (with_graph x a0) w (Some k)) (sym after) h

  pub begin-turn : (u : Known) → IsCallback w k → u ≡ carried_out (retold g.told w) k (begin_at w k) → CarriesOut (retold a.graph.told w) u
  begin-turn u callback e = subst (λ (t : List (List Settlement)). CarriesOut (retold t w) u) next-told (begins k (callback-retold w g.told k callback) e)

  pub begin-undone : (u : Known) (r : Refusal) → IsCallback w k → IsUndone (retold g.told w) u (λ v. v ≡ carried_out (retold g.told w) k (begin_at w k)) r → IsUndone (retold a.graph.told w) u (CarriesOut (retold a.graph.told w)) r
  begin-undone u r callback h = subst (λ (t : List (List Settlement)). IsUndone (retold t w) u (CarriesOut (retold t w)) r) next-told (undone-more (retold g.told w) u (λ v. v ≡ carried_out (retold g.told w) k (begin_at w k)) (CarriesOut (retold g.told w)) r (λ v e. begins k (callback-retold w g.told k callback) e) h)

  pub end-turn : (u : Known) → IsJoinDone w k → JoinEnds (retold g.told w) k u → CarriesOut (retold a.graph.told w) u
  end-turn u done e = subst (λ (t : List (List Settlement)). CarriesOut (retold t w) u) next-told (ends k (join-retold w g.told k done) (e (join-retold w g.told k done)))

  pub end-undone : (u : Known) (r : Refusal) → IsJoinDone w k → IsUndone (retold g.told w) u (JoinEnds (retold g.told w) k) r → IsUndone (retold a.graph.told w) u (CarriesOut (retold a.graph.told w)) r
  end-undone u r done h = subst (λ (t : List (List Settlement)). IsUndone (retold t w) u (CarriesOut (retold t w)) r) next-told (undone-more (retold g.told w) u (JoinEnds (retold g.told w) k) (CarriesOut (retold g.told w)) r (λ v e. ends k (join-retold w g.told k done) (e (join-retold w g.told k done))) h)
