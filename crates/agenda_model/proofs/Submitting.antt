-- An agenda follows the acts that submit calls.
use Rattle.std.proofs.Common.{◌≡◌, ◌≢◌, ℕ, ◌+◌, ◌<◌, false, List, [], ◌∷◌, ◌++◌, length, Option, Some, None, get_or, refl, sym, ◌∙◌, ap, subst, arith, true≢false, slice_get}
use Rattle.std.proofs.lemmas.List.{append_assoc, append-nil, get_or_append_left, get_or_past, get_or-set_same, length-append, length-set, map-append}
use Rattle.flow_base.specs.declared.value.Value.{Value}
use Rattle.script_tree.specs.declared.tree.AppDef.{AppDef}
use Rattle.task_record.specs.declared.status.Status.{Status}
use Rattle.task_record.specs.declared.status.Status.TheVariants as status
use Rattle.task_record.specs.States.{is_settled}
use Rattle.dependency_graph.specs.CallbackViews.{CallbackView}
use Rattle.dependency_graph.specs.Callbacks.{AreDistinctNumbers, Callbacks, IsExact, has_number}
use Rattle.dependency_graph.specs.Graphs.{AreThere, Graph, CanAdd, with_task}
use Rattle.dependency_graph.specs.Places.{place_in, AreDistinct}
use Rattle.dependency_graph.proofs.Places.{absent}
use Rattle.flow_meaning.specs.declared.walk.Request.TheVariants as request
use Rattle.flow_meaning.specs.Inputs.{Path, distinct, inputs}
use Rattle.flow_meaning.specs.Operators.{Text}
use Rattle.body_requests.specs.Asks.{Each}
use Rattle.call_rules.specs.Calls.{Call, Dry, Joins, awaited, child, join_dry}
use Rattle.call_rules.specs.Told.{Asks, IsChild}
use Rattle.call_rules.proofs.Asking.{asks-inputs}
use Rattle.history_laws.specs.Reads.{submits}
use Rattle.kernel_model.specs.Acts.{all_submitted, call_of, called, joined, joining, submitted}
use Rattle.kernel_model.specs.Conditions.{MainAsks}
use Rattle.kernel_model.specs.Invariants.{Inv, Tracks}
use Rattle.kernel_model.specs.Known.{Known, Life, no_call, no_life, has_ended, life_at, next_path, path_at, begin_at, apps_in}
use Rattle.kernel_model.specs.Turns.{IsCallback}
use Rattle.kernel_model.proofs.KeepingSubmits.{keep-joined}
use Rattle.kernel_model.proofs.KeepingTasks.{joining-within}
use Rattle.agenda_model.specs.AgendaViews.{AgendaView}
use Rattle.agenda_model.specs.Agendas.{HasStatus, IsQueue, ServesTasks, Ties, runs, unsettled_in}
use Rattle.agenda_model.specs.Storing.{CanStoreJoin, CanStoreJoinOf, with_join_run, with_tasks}
use Rattle.agenda_model.proofs.Carrying.{HasTasks}
use Rattle.agenda_model.proofs.JoinCalls.{awaited-long, call-inputs, call-path, can-join, inputs-long, next-new, returned}
use Rattle.agenda_model.proofs.JoinEnds.{Children, Follow, can-add-all, children-all, children-there, holds-now, holds-put, tasks-paths, ties-ended}
use Rattle.agenda_model.proofs.NewTasks.{Holds, holds-all, ties-pushed}
use Rattle.agenda_model.proofs.PathPlaces.{call-there, calls-distinct, distinct-apart, distinct-each, path-read, paths_of, place-call}
use Rattle.agenda_model.proofs.TaskCounts.{life-all, queue-all, queue-pushed, queue-put, running-all, running-pushed, running-put, unsettled-all, unsettled-pushed, unsettled-put}

-- ---- before any turn

empty_queue : (queue : List ℕ) (s : Status) → queue ≡ [] → s ≢ status.Unsched → IsQueue queue (HasStatus [] s)
empty_queue queue s none begun = record {
  once = subst AreDistinctNumbers (sym none) tt;
  only = λ k h. absurd (true≢false (sym h ∙ ap (has_number k) none));
  all = λ k h. absurd (begun (sym h ∙ ap (λ (l : Life). l.status) (get_or_past [] k no_life (omega arith))));
}

no_callback : (g : Callbacks) (c : ℕ) (view : CallbackView) → g.waits ≡ [] → slice_get g.waits c ≡ Some view → ⊥
no_callback g c view none at = let bad = ap (λ (ws : List CallbackView). slice_get ws c) (sym none) ∙ at in absurd (cc)

-- before any turn
pub serves-none : (a : AgendaView) → a.graph.paths ≡ [] → a.graph.callbacks ≡ record { states = []; waits = []; made = []; given = 0 } → a.launched ≡ [] → a.over ≡ [] → a.unsettled ≡ 0 → ServesTasks a [] [] None
serves-none a paths callbacks launched over unsettled =
    let none : a.graph.callbacks.waits ≡ [] = ap (λ (g : Callbacks). g.waits) callbacks in
    record {
      ties = record {
        paths_are = paths;
        lived = refl;
        states = ap (λ (g : Callbacks). length g.states) callbacks;
        opens = λ k within. absurd (omega (arith, within));
        current = λ c view at left. absurd (no_callback a.graph.callbacks c view none at);
        stored = λ k within waits lacks. absurd (omega (arith, within));
        once = λ c d x y at also left left_too same. absurd (no_callback a.graph.callbacks c x none at);
        given = (let count = ap (λ (g : Callbacks). g.given) callbacks in omega (arith, count));
      };
      launched = empty_queue a.launched status.Launched launched (λ e. absurd (cc));
      over = empty_queue a.over status.RunningEnded over (λ e. absurd (cc));
      room = omega arith;
      unsettled = unsettled;
    }

-- ---- a call of main

-- its inputs are earlier calls of main
main_inputs : (w : Known) (app : ℕ) (arguments : List Value) (names : List Text) → Inv w → MainAsks w (request.Call app arguments names) → Each (IsChild [] (submits w.past)) (inputs arguments)
main_inputs w app arguments names inv asks = asks-inputs [] (submits w.past) app arguments names asks.go (subst (Asks [] (submits w.past)) asks.left inv.holds.main.asks)

main_there : (w : Known) (paths : List Path) → Inv w → paths ≡ paths_of w.calls → Children paths [] (submits w.past)
main_there w paths inv is i lt =
    let was = inv.holds.main.mains i lt in
    rw is (call-there w.calls was.0 (child [] i) inv.holds.tracks.distinct was.1 was.2)

next_absent : (w : Known) (paths : List Path) → Inv w → paths ≡ paths_of w.calls → place_in paths (next_path w) ≡ None
next_absent w paths inv is = absent paths (next_path w) (λ k q at same. (let read = path-read w.calls k q (ap (λ (ps : List Path). slice_get ps k) (sym is) ∙ at) in next-new w inv.holds.tracks k read.within (read.is ∙ same)))

-- its path is new, and its inputs are earlier calls of main
pub can-add : (a : AgendaView) (w : Known) (app : ℕ) (arguments : List Value) (names : List Text) → Inv w → MainAsks w (request.Call app arguments names) → HasTasks a w None → CanAdd a.graph (next_path w) (inputs arguments)
unfolding inputs
can-add a w app arguments names inv asks serves = record {
  new = next_absent w a.graph.paths inv serves.ties.paths_are;
  there = children-there a.graph.paths [] (submits w.past) (inputs arguments) (main_there w a.graph.paths inv serves.ties.paths_are) (main_inputs w app arguments names inv asks);
  distinct = distinct-apart _;
}

holds_now : (a : AgendaView) (w : Known) (lacking : Option ℕ) → Inv w → IsExact a.graph.callbacks → HasTasks a w lacking → Holds a.graph w.calls w.lives lacking
holds_now a w lacking inv exact serves = holds-now a.graph w.calls w.lives lacking serves.ties exact (inputs-long w inv) (awaited-long w inv)

pub serves-called : (a b : AgendaView) (w : Known) (app : ℕ) (arguments : List Value) (names : List Text) → Inv w → IsExact a.graph.callbacks → MainAsks w (request.Call app arguments names) → HasTasks a w None
    → b.graph ≡ with_task (next_path w) (inputs arguments) a.graph → b.launched ≡ a.launched → b.over ≡ a.over → b.spare ≡ a.spare → b.unsettled ≡ a.unsettled + 1
    → HasTasks b (called w (call_of w app arguments names)) None
serves-called a b w app arguments names inv exact asks serves graph launched over spare unsettled =
    let c : Call = call_of w app arguments names in
    let v : Known = called w c in
    let can = can-add a w app arguments names inv asks serves in
    let room = serves.room in
    let more_room = running-pushed w.lives in
    let count = serves.unsettled in
    let more_count = unsettled-pushed w.lives in
    record {
      ties = subst (λ (g : Graph). Ties g v.calls v.lives None) (sym graph) (ties-pushed a.graph w.calls w.lives None c (holds_now a w None inv exact serves) can.there (λ l. l));
      launched = subst (λ (q : List ℕ). IsQueue q (HasStatus v.lives status.Launched)) (sym launched) (queue-pushed a.launched w.lives status.Launched (λ e. absurd (cc)) (λ e. absurd (cc)) serves.launched);
      over = subst (λ (q : List ℕ). IsQueue q (HasStatus v.lives status.RunningEnded)) (sym over) (queue-pushed a.over w.lives status.RunningEnded (λ e. absurd (cc)) (λ e. absurd (cc)) serves.over);
      room = omega (arith, room, more_room, spare);
      unsettled = omega (arith, unsettled, count, more_count);
    }

-- ---- the calls of a join

all_calls : (w : Known) (cs : List Call) → (all_submitted w cs).calls ≡ w.calls ++ cs
all_calls w [] = sym (append-nil w.calls)
all_calls w (c ∷ cs) = all_calls (submitted w c) cs ∙ append_assoc w.calls (c ∷ []) cs

module _ (a : AgendaView) (w : Known) (k : ℕ) (app : AppDef) (values : List Value) (inv : Inv w) (going : has_ended w ≡ false) (callback : IsCallback w k) (begins : begin_at w k ≡ Joins app values) (serves : HasTasks a w (Some k)) where
  abbrev ran : Dry
  ran = join_dry (apps_in w) (path_at w k) app values

  abbrev path : Path
  path = path_at w k

  within : k < length w.calls
  within = joining-within w k inv callback

  -- the run, with its calls
  abbrev after_it : Known
  after_it = joined w k ran

  tracks : Tracks (joined w k (join_dry (apps_in w) (path_at w k) app values))
  tracks = (keep-joined w k ran inv (can-join w inv k app values callback begins going)).holds.tracks

  calls_are : after_it.calls ≡ w.calls ++ ran.1
  calls_are = all_calls (joining w k ran) ran.1

  paths_are : a.graph.paths ++ paths_of ran.1 ≡ paths_of after_it.calls
  paths_are = ap (λ (ps : List Path). ps ++ paths_of ran.1) serves.ties.paths_are ∙ sym (map-append (λ (c : Call). c.path) w.calls ran.1) ∙ ap paths_of (sym calls_are)

  apart : AreDistinct (a.graph.paths ++ paths_of ran.1)
  apart = subst AreDistinct (sym paths_are) (calls-distinct after_it.calls tracks.distinct)

  follow : Follow path 0 ran.1
  follow i c at = call-path w inv k app values callback begins i c at ∙ ap (child path) (sym (from_zero i))
    where
      from_zero : (n : ℕ) → 0 + n ≡ n
      from_zero n = omega arith

  calls_within : k < length after_it.calls
  calls_within = let longer = length-append w.calls ran.1 in let same = ap length calls_are in let lt = within in omega (arith, longer, same, lt)

  join_place : place_in (with_tasks ran.1 a.graph).paths path ≡ Some k
  join_place =
      let here : path_at after_it k ≡ path = ap (λ (cs : List Call). (get_or cs k no_call).path) calls_are ∙ ap (λ (c : Call). c.path) (get_or_append_left w.calls ran.1 no_call k within) in
      ap (λ (ps : List Path). place_in ps path) (tasks-paths ran.1 a.graph ∙ paths_are) ∙ ap (place_in (paths_of after_it.calls)) (sym here) ∙ place-call after_it.calls k tracks.distinct calls_within

  none_before : Children a.graph.paths path 0
  none_before j lt = absurd (omega (arith, lt))

  returned_there : AreThere (with_tasks ran.1 a.graph).paths (distinct (awaited ran.0))
  returned_there = children-there (with_tasks ran.1 a.graph).paths path (length ran.1) (distinct (awaited ran.0))
      (λ j lt. children-all path 0 ran.1 a.graph follow none_before j (omega (arith, lt)))
      (distinct-each (IsChild path (length ran.1)) (awaited ran.0) (returned w inv k app values callback begins))

  can_store : CanStoreJoin a.graph (path_at w k) (join_dry (apps_in w) (path_at w k) app values)
  can_store = record {
    calls = can-add-all path 0 ran.1 a.graph follow
        (λ i c at. subst (λ (n : ℕ). Each (IsChild path n) (inputs c.arguments)) (from_zero i) (call-inputs w inv k app values callback begins i c at))
        none_before apart;
    waits = record { task = k; is = join_place; there = returned_there; distinct = distinct-apart (awaited ran.0) };
  }
    where
      from_zero : (n : ℕ) → n ≡ 0 + n
      from_zero n = omega arith

  module _ (exact : IsExact a.graph.callbacks) where
    abbrev ran_life : Life
    ran_life = record (life_at w k) { status = status.Joining; ran = Some ran.0 }

    lives_within : k < length w.lives
    lives_within = let lt = within in let lived = serves.ties.lived in omega (arith, lt, lived)

    life_there : life_at after_it k ≡ ran_life
    life_there = life-all (joining w k ran) ran.1 k (let same = length-set w.lives k ran_life in let lt = lives_within in omega (arith, same, lt)) ∙ get_or-set_same w.lives k ran_life no_life lives_within

    holds_all : Holds (with_tasks ran.1 a.graph) after_it.calls after_it.lives (Some k)
    holds_all = holds-all a.graph (joining w k ran) (Some k) ran.1
        (holds-put a.graph w.calls w.lives k ran_life (holds_now a w (Some k) inv exact serves) lives_within (sym (ap is_settled callback.pending)))
        can_store.calls
        (λ n le l. (let lt = within in absurd (omega (arith, le, l, lt))))

    ties_joined : Ties (with_join_run path ran a.graph) after_it.calls after_it.lives None
    ties_joined = ties-ended (with_tasks ran.1 a.graph) after_it.calls after_it.lives k ran.0 holds_all path join_place calls_within (ap (λ (l : Life). l.status) life_there) (ap (λ (l : Life). l.ran) life_there) returned_there

    queue_joined : (queue : List ℕ) (s : Status) → s ≢ status.Pending → s ≢ status.Unsched → s ≢ status.Joining → IsQueue queue (HasStatus w.lives s) → IsQueue queue (HasStatus after_it.lives s)
    queue_joined queue s ne begun other q = queue-all queue (joining w k ran) ran.1 s ne begun (queue-put queue w.lives k ran_life s lives_within (λ e. ne (sym e ∙ callback.pending)) (λ e. other (sym e)) q)

    unsettled_joined : unsettled_in after_it.lives ≡ unsettled_in w.lives + length ran.1
    unsettled_joined = let all = unsettled-all (joining w k ran) ran.1 in let same = unsettled-put w.lives k ran_life (sym (ap is_settled callback.pending)) in omega (arith, all, same)

    serves_joined : (b : AgendaView) → b.graph ≡ with_join_run (path_at w k) (join_dry (apps_in w) (path_at w k) app values) a.graph → b.launched ≡ a.launched → b.over ≡ a.over → b.spare ≡ a.spare
        → b.unsettled ≡ a.unsettled + length (join_dry (apps_in w) (path_at w k) app values).1 → HasTasks b (joined w k (join_dry (apps_in w) (path_at w k) app values)) None
    serves_joined b graph launched over spare unsettled =
        let room = serves.room in
        let count = serves.unsettled in
        let more_count = unsettled_joined in
        let same_room = running-all (joining w k ran) ran.1 ∙ running-put w.lives k ran_life (sym (ap runs callback.pending)) in
        record {
          ties = subst (λ (g : Graph). Ties g after_it.calls after_it.lives None) (sym graph) ties_joined;
          launched = subst (λ (q : List ℕ). IsQueue q (HasStatus after_it.lives status.Launched)) (sym launched) (queue_joined a.launched status.Launched (λ e. absurd (cc)) (λ e. absurd (cc)) (λ e. absurd (cc)) serves.launched);
          over = subst (λ (q : List ℕ). IsQueue q (HasStatus after_it.lives status.RunningEnded)) (sym over) (queue_joined a.over status.RunningEnded (λ e. absurd (cc)) (λ e. absurd (cc)) (λ e. absurd (cc)) serves.over);
          room = omega (arith, room, same_room, spare);
          unsettled = omega (arith, unsettled, count, more_count);
        }

-- the paths of its calls are new, each waits for earlier ones, and it returned some of them
pub can-store : (a : AgendaView) (w : Known) (k : ℕ) (values : List Value) → Inv w → has_ended w ≡ false → IsCallback w k → HasTasks a w (Some k) → CanStoreJoinOf a.graph w k values
can-store a w k values inv going callback serves app begins = can_store a w k app values inv going callback begins serves

pub serves-joined : (a b : AgendaView) (w : Known) (k : ℕ) (app : AppDef) (values : List Value) → Inv w → IsExact a.graph.callbacks → has_ended w ≡ false → IsCallback w k → begin_at w k ≡ Joins app values → HasTasks a w (Some k)
    → b.graph ≡ with_join_run (path_at w k) (join_dry (apps_in w) (path_at w k) app values) a.graph → b.launched ≡ a.launched → b.over ≡ a.over → b.spare ≡ a.spare
    → b.unsettled ≡ a.unsettled + length (join_dry (apps_in w) (path_at w k) app values).1
    → HasTasks b (joined w k (join_dry (apps_in w) (path_at w k) app values)) None
serves-joined a b w k app values inv exact going callback begins serves graph launched over spare unsettled = serves_joined a w k app values inv going callback begins serves exact b graph launched over spare unsettled
