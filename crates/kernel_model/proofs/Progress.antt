-- Before the end some turn is ready.
use Rattle.std.proofs.Common.{◌≡◌, ◌≢◌, ℕ, zero, suc, ◌+◌, ◌<◌, ◌≤◌, true, List, [], ◌∷◌, length, Option, Some, None, IsSome, refl, sym, ◌∙◌, ap, subst, arith}
use Rattle.std.specs.Prelude.{slice_get, Result, nat_lt, is_some}
use Rattle.std.proofs.lemmas.Bool.Decides.{nat_tests}
use Rattle.flow_base.specs.declared.value.Value.{Value, out-Value}
use Rattle.flow_base.specs.declared.outcome.Ending.{Ending}
use Rattle.flow_base.specs.declared.outcome.Exception.{Exception}
use Rattle.flow_base.specs.declared.outcome.FileOut.{FileOut}
use Rattle.flow_base.specs.declared.outcome.Outcome.{Outcome}
use Rattle.flow_base.specs.declared.outcome.Outcome.TheVariants as o
use Rattle.task_record.specs.declared.status.Status.{Status}
use Rattle.task_record.specs.declared.status.Status.TheVariants as status
use Rattle.flow_meaning.specs.declared.walk.Request.{Request}
use Rattle.flow_meaning.specs.declared.walk.Request.TheVariants as request
use Rattle.flow_meaning.specs.declared.walk.Answer.{Answer}
use Rattle.flow_meaning.specs.Act.{Act, Give, Throw, Ask}
use Rattle.flow_meaning.specs.Inputs.{Path, path_in}
use Rattle.flow_meaning.specs.Meaning.{Done}
use Rattle.flow_meaning.specs.Sequential.{Task, outcome_at}
use Rattle.body_requests.specs.Asks.{Each}
use Rattle.call_rules.specs.Calls.{Call, child, found, task_of, call_in, calls_below, calls_with, awaited, join_dry, has_room}
use Rattle.memo_table.specs.Keys.{KeyView}
use Rattle.memo_table.specs.Table.{found as memo_found}
use Rattle.memo_table.specs.declared.saved.Saved.{Saved}
use Rattle.history_laws.specs.Reads.{submits, lost}
use Rattle.kernel_model.specs.declared.answers.ScriptTurn.TheVariants as turn
use Rattle.call_rules.specs.Groups.{IsEarlier, IsPlainOutcome, IsPlaced, first, below, AllKnown, HasTask}
use Rattle.kernel_model.specs.Known.{Known, call_at, path_at, life_at, status_at, settled_outcome, inputs_at, known, key_at, is_kept, main_left, apps_in, IsDone}
use Rattle.kernel_model.specs.Invariants.{IsReached, IsOf, of_main, of_join, FollowsEvaluation, IsJoined, Inv}
use Rattle.kernel_model.specs.Turns.{IsCallback, IsJoinDone, IsStore, IsSettling, outcome_step, wait_step, act_step, unless_ended, script_step}
use Rattle.call_rules.proofs.Tasks.{parent-same, child-same, length-child, same-some, found-known}
use Rattle.call_rules.proofs.Agreeing.{calls-agree, begin-room}
use Rattle.call_rules.proofs.Plain.{IsPlainKnown, ArePlain}
use Rattle.call_rules.proofs.Asking.{asks-wait}
use Rattle.call_rules.proofs.Evaluating.{whole-ruled, join-waits}
use Rattle.kernel_model.proofs.Places.{known-at, IsAt}
use Rattle.kernel_model.proofs.Knowing.{known-whole, ruled-at, calls-path, whole-agrees}
use Rattle.kernel_model.proofs.KeepingTasks.{path-long}
use Rattle.kernel_model.proofs.KeepingEnd.{slice-there}
use Rattle.call_rules.specs.Told.{whole_ran, whole, IsChild, Asks}

-- no turn is ready, and no attempt runs
pub record IsIdle (w : Known) : Type 0 where
  pub none_runs : (k : ℕ) → status_at w k ≢ status.Running
  pub script : (script_step w).0 ≡ turn.Advanced → ⊥
  pub callbacks : (k : ℕ) → IsCallback w k → ⊥
  pub joins : (k : ℕ) → IsJoinDone w k → ⊥
  pub launches : (k : ℕ) → status_at w k ≢ status.Launched
  pub stores : (k : ℕ) (key : KeyView) (saved : Saved) → IsStore w k key saved → ⊥
  pub ends : (k : ℕ) (outcome : Outcome) → IsSettling w k outcome → ⊥

-- where an attempt is over, its value is to be stored, or its task is to be settled
pub ended-ready : (w : Known) (k : ℕ) → status_at w k ≡ status.RunningEnded → IsSome (life_at w k).end → ((key : KeyView) (saved : Saved) → IsStore w k key saved → ⊥) → ((outcome : Outcome) → IsSettling w k outcome → ⊥) → ⊥
ended-ready w k over some no_store no_settling = by_end (life_at w k).end refl some
  where
    -- it is settled, unless its key isn't found
    kept : (outcome : Outcome) → (life_at w k).end ≡ Some outcome → is_kept w.memo (key_at w k) outcome ≡ true → ⊥
    kept outcome is h = no_settling outcome (record { over = over; is = is; kept = h })

    by_found : (key : KeyView) (value : Value) (files : List FileOut) → (life_at w k).end ≡ Some (o.Value value files) → key_at w k ≡ Some key → (r : Option Saved) → memo_found w.memo key ≡ r → ⊥
    by_found key value files is has None e = no_store key (record { value = value; files = files }) (record { over = over; key_is = has; is = is; fresh = e })
    by_found key value files is has (Some saved) e = kept (o.Value value files) is (ap (λ (r : Option KeyView). is_kept w.memo r (o.Value value files)) has ∙ ap is_some e)

    by_key : (value : Value) (files : List FileOut) → (life_at w k).end ≡ Some (o.Value value files) → (r : Option KeyView) → key_at w k ≡ r → ⊥
    by_key value files is None e = kept (o.Value value files) is (ap (λ (r : Option KeyView). is_kept w.memo r (o.Value value files)) e)
    by_key value files is (Some key) e = by_found key value files is e (memo_found w.memo key) refl

    failed : (exception : Exception) (r : Option KeyView) → is_kept w.memo r (o.Failed exception) ≡ true
    failed exception None = refl
    failed exception (Some key) = refl

    by_outcome : (outcome : Outcome) → (life_at w k).end ≡ Some outcome → ⊥
    by_outcome (o.Value value files) is = by_key value files is (key_at w k) refl
    by_outcome (o.Failed exception) is = kept (o.Failed exception) is (failed exception (key_at w k))

    by_end : (r : Option Outcome) → (life_at w k).end ≡ r → IsSome r → ⊥
    by_end None e h = absurd (cc)
    by_end (Some outcome) e h = by_outcome outcome e

module _ (w : Known) (inv : Inv w) where
  -- the evaluation under the losses of the history
  now_is : FollowsEvaluation (lost w.past) w
  now_is = inv.holds.right.evaluates (lost w.past) inv.holds.right.fits

  -- the i-th call of a join that ran is there
  child_there : (k : ℕ) (result : Result Done Exception) → k < length w.calls → (j : IsJoined w k result) → (i : ℕ) → i < length (calls_below (apps_in w) (known w) (call_at w k)) → IsAt w (child (path_at w k) i)
  child_there k result within j i lt =
      let dried : calls_below (apps_in w) (known w) (call_at w k) ≡ (join_dry (apps_in w) (path_at w k) j.app j.values).1 = ap (calls_with (apps_in w) (path_at w k)) j.begins in
      let c = slice-there (calls_below (apps_in w) (known w) (call_at w k)) i lt in
      let called = j.children i c.0 (ap (λ (cs : List Call). slice_get cs i) (sym dried) ∙ c.1) (λ m d. (let few = inv.quiet k m within d in omega arith)) in
      record { place = called.place; within = called.within; is = ap (λ (b : Call). b.path) called.is ∙ calls-path (apps_in w) (known w) (call_at w k) i c.0 c.1 }

  -- a call of a join has a number below that of its calls
  child_number : (k j i : ℕ) → k < length w.calls → j < length w.calls → path_at w k ≡ child (path_at w j) i → AllKnown (known w) (inputs_at w j) → i < length (calls_below (apps_in w) (known w) (call_at w j))
  child_number k j i within lj at inputs_known = by_place ((whole-ruled w.tree inv.holds.told (lost w.past)).placed (path_at w k) _ here.at)
    where
      here : HasTask (whole w.tree (lost w.past)) (call_at w k)
      here = now_is.placed k within

      by_place : IsPlaced (apps_in w) (whole w.tree (lost w.past)) [] (whole_ran w.tree (lost w.past)).1.made.calls (path_at w k) → i < length (calls_below (apps_in w) (known w) (call_at w j))
      by_place (first n lt is) = absurd (let empty = parent-same (path_at w j) [] i n (sym at ∙ is) in let short = ap length empty in let long = path-long w j (inv.holds.tracks.family j lj) in omega arith)
      by_place (below s n found_at lt is) =
          let caller : path_at w j ≡ s.path = parent-same (path_at w j) s.path i n (sym at ∙ is) in
          let there = now_is.placed j lj in
          let task : s ≡ task_of (call_at w j) there.outcome = same-some s _ (sym found_at ∙ ap (found (whole w.tree (lost w.past))) (sym caller) ∙ there.at) in
          let calls : calls_below (apps_in w) (whole w.tree (lost w.past)) (call_in s) ≡ calls_below (apps_in w) (known w) (call_at w j)
          = ap (λ (x : Task). calls_below (apps_in w) (whole w.tree (lost w.past)) (call_in x)) task ∙ calls-agree (apps_in w) (whole w.tree (lost w.past)) (known w) (call_at w j) (whole-agrees w (lost w.past) inv.holds.tracks now_is (inputs_at w j) inputs_known) in
          let number : i ≡ n = child-same (path_at w j) i n (sym at ∙ is ∙ ap (λ (p : Path). child p n) (sym caller)) in
          omega (arith, ap length calls, lt, number)

  some_ran : (j : ℕ) → IsSome (life_at w j).ran → (result : Result Done Exception) × ((life_at w j).ran ≡ Some result)
  some_ran j h = by_ran (life_at w j).ran refl h
    where
      by_ran : (r : Option (Result Done Exception)) → (life_at w j).ran ≡ r → IsSome r → (result : Result Done Exception) × ((life_at w j).ran ≡ Some result)
      by_ran (Some result) e there = (result, e)
      by_ran None e there = absurd (cc)

  -- an input of a call is an earlier call
  earlier_there : (k : ℕ) → k < length w.calls → (q : Path) → IsEarlier (path_at w k) q → IsAt w q
  earlier_there k within q h = by_kind (inv.holds.tracks.family k within)
    where
      by_kind : IsOf w k → IsAt w q
      by_kind (of_main i lt at) =
          let callers : [] ≡ h.caller = parent-same [] h.caller i h.number (sym at ∙ h.this) in
          let number : i ≡ h.number = child-same [] i h.number (sym at ∙ h.this ∙ ap (λ (p : Path). child p h.number) (sym callers)) in
          let less = h.less in
          let found = inv.holds.main.mains h.before (omega arith) in
          record { place = found.0; within = found.1; is = found.2 ∙ ap (λ (p : Path). child p h.before) callers ∙ sym h.other }
      by_kind (of_join j i lj ran at) =
          let callers : path_at w j ≡ h.caller = parent-same (path_at w j) h.caller i h.number (sym at ∙ h.this) in
          let number : i ≡ h.number = child-same (path_at w j) i h.number (sym at ∙ h.this ∙ ap (λ (p : Path). child p h.number) (sym callers)) in
          let result = some_ran j ran in
          let joined = inv.holds.joins.ran j result.0 result.1 in
          let bound = child_number k j i within lj at joined.inputs in
          let less = h.less in
          let there = child_there j result.0 lj joined h.before (omega arith) in
          record { place = there.place; within = there.within; is = there.is ∙ ap (λ (p : Path). child p h.before) callers ∙ sym h.other }

  -- values that are known are plain
  known_plain : (ps : List Path) → AllKnown (known w) ps → ArePlain (known w) ps
  known_plain [] h = tt
  known_plain (p ∷ ps) h = (by_outcome (outcome_at (known w) p) refl h.0, known_plain ps h.1)
    where
      by_outcome : (r : Option Outcome) → outcome_at (known w) p ≡ r → IsSome r → IsPlainKnown (outcome_at (known w) p)
      by_outcome None e there = absurd (cc)
      by_outcome (Some outcome) e there =
          let f = found-known (whole w.tree (lost w.past)) p outcome (known-whole w (lost w.past) inv.holds.tracks now_is p outcome e) in
          rw e (subst IsPlainOutcome f.1.1 ((whole-ruled w.tree inv.holds.told (lost w.past)).ruled p f.0 f.1.0).plain)

  -- what is settled by its place is known by its path
  all_known : (P : Path → Type 0) → ((p : Path) → P p → (at : IsAt w p) × IsSome (settled_outcome w at.place)) → (ps : List Path) → Each P ps → AllKnown (known w) ps
  all_known P settles [] h = tt
  all_known P settles (p ∷ ps) h =
      let s = settles p h.0 in
      let at = s.0 in
      let same : outcome_at (known w) p ≡ settled_outcome w at.place = ap (outcome_at (known w)) (sym at.is) ∙ known-at w inv.holds.tracks at.place at.within in
      (subst (λ (r : Option Outcome). IsSome r) (sym same) s.1, all_known P settles ps h.1)

  module _ (idle : IsIdle w) where
    -- a call is settled where the earlier calls of its caller are, and those below it
    settled_next : (k : ℕ) → k < length w.calls → ((q : Path) → IsEarlier (path_at w k) q → (at : IsAt w q) × IsSome (settled_outcome w at.place))
        → ((m : ℕ) → m < length w.calls → length (path_at w k) < 64 → length (path_at w m) ≡ length (path_at w k) + 1 → IsSome (settled_outcome w m))
        → IsSome (settled_outcome w k)
    settled_next k within earlier children = by_status (status_at w k) refl ((inv.holds.tracks.lived k within).reached)
      where
        joining : status_at w k ≡ status.Joining → IsSome (life_at w k).ran → IsSome (settled_outcome w k)
        joining is ran =
            let result = some_ran k ran in
            let j = inv.holds.joins.ran k result.0 result.1 in
            let room = begin-room (apps_in w) (known w) (call_at w k) j.app j.values j.begins in
            let short : length (path_at w k) < 64 = short_of (path_at w k) room in
            let dried : calls_below (apps_in w) (known w) (call_at w k) ≡ (join_dry (apps_in w) (path_at w k) j.app j.values).1 = ap (calls_with (apps_in w) (path_at w k)) j.begins in
            let waits = join-waits w.tree inv.holds.told (lost w.past) (call_at w k) (known w) j.app j.values j.begins (known_plain (inputs_at w k) j.inputs) in
            let waits_are : Each (IsChild (path_at w k) (length (calls_below (apps_in w) (known w) (call_at w k)))) (awaited result.0) = subst (λ (r : Result Done Exception). Each (IsChild (path_at w k) (length (calls_below (apps_in w) (known w) (call_at w k)))) (awaited r)) (sym j.gave) (subst (λ (cs : List Call). Each (IsChild (path_at w k) (length cs)) (awaited (join_dry (apps_in w) (path_at w k) j.app j.values).0)) (sym dried) waits) in
            absurd (idle.joins k (record {
              joining = is;
              result = result.0;
              ran = result.1;
              awaited = all_known (IsChild (path_at w k) (length (calls_below (apps_in w) (known w) (call_at w k)))) (λ q h.
                  let there = child_there k result.0 within j h.number h.below in
                  (record { place = there.place; within = there.within; is = there.is ∙ sym h.is }, children there.place there.within short (ap length there.is ∙ length-child (path_at w k) h.number))) (awaited result.0) waits_are;
            }))
          where
            short_of : (p : Path) → has_room p ≡ true → length p < 64
            short_of p t = lt_of (length p) 64 t
              where
                lt_of : (x y : ℕ) → nat_lt x y ≡ true → x < y
                lt_of x y h = grind (arith, nat_tests)

        pending : status_at w k ≡ status.Pending → IsSome (settled_outcome w k)
        pending is =
            let there = now_is.placed k within in
            let ruled = ruled-at w (lost w.past) inv.holds.told now_is k within there in
            absurd (idle.callbacks k (record { pending = is; inputs = all_known (IsEarlier (path_at w k)) earlier (inputs_at w k) ruled.earlier }))

        by_status : (s : Status) → status_at w k ≡ s → IsReached (life_at w k) s → IsSome (settled_outcome w k)
        by_status status.Unsched is reached = absurd (inv.holds.tracks.begun k within is)
        by_status status.Pending is reached = pending is
        by_status status.Launched is reached = absurd (idle.launches k is)
        by_status status.Running is reached = absurd (idle.none_runs k is)
        by_status status.RunningEnded is reached = absurd (ended-ready w k is reached.0 (idle.stores k) (idle.ends k))
        by_status status.Joining is reached = joining is reached
        by_status status.ExecDone is reached = rw is reached
        by_status status.MemoDone is reached = rw is reached
        by_status status.Failed is reached = rw is reached
        by_status status.DepFail is reached = rw is reached
        by_status status.FailRetryable is reached = absurd reached

    -- by the number in the group, where longer paths are settled
    by_number : (room : ℕ) → ((k m : ℕ) → 64 ≤ room + length (path_at w k) → m < length w.calls → length (path_at w k) < 64 → length (path_at w m) ≡ length (path_at w k) + 1 → IsSome (settled_outcome w m))
        → (n k : ℕ) (caller : Path) (i : ℕ) → k < length w.calls → 64 ≤ room + length (path_at w k) → path_at w k ≡ child caller i → i < n → IsSome (settled_outcome w k)
    by_number room longer zero k caller i within deep at lt = absurd (omega arith)
    by_number room longer (suc n) k caller i within deep at lt =
        settled_next k within
        (λ q h.
        let there = earlier_there k within q h in
        let callers : caller ≡ h.caller = parent-same caller h.caller i h.number (sym at ∙ h.this) in
        let number : i ≡ h.number = child-same caller i h.number (sym at ∙ h.this ∙ ap (λ (p : Path). child p h.number) (sym callers)) in
        let same_length : length (path_at w there.place) ≡ length (path_at w k) = ap length (there.is ∙ h.other) ∙ length-child h.caller h.before ∙ sym (ap length h.this ∙ length-child h.caller h.number) in
        let less = h.less in
        (there, by_number room longer n there.place caller h.before there.within (omega (arith, deep, same_length)) (there.is ∙ h.other ∙ ap (λ (p : Path). child p h.before) (sym callers)) (omega arith)))
        (λ m lm short long. longer k m deep lm short long)

    -- by how many numbers a path may still get
    by_depth : (room k : ℕ) → k < length w.calls → 64 ≤ room + length (path_at w k) → IsSome (settled_outcome w k)
    by_depth zero k within deep = by_family (inv.holds.tracks.family k within) (λ caller i at. by_number zero (λ j m deeper lm short long. absurd (omega (arith, deeper, short))) (suc i) k caller i within deep at (omega arith))
      where
        by_family : IsOf w k → ((caller : Path) (i : ℕ) → path_at w k ≡ child caller i → IsSome (settled_outcome w k)) → IsSome (settled_outcome w k)
        by_family (of_main i lt at) h = h [] i at
        by_family (of_join j i lt ran at) h = h (path_at w j) i at
    by_depth (suc room) k within deep = by_family (inv.holds.tracks.family k within) (λ caller i at. by_number (suc room) (λ j m deeper lm short long. by_depth room m lm (omega (arith, deeper, long))) (suc i) k caller i within deep at (omega arith))
      where
        by_family : IsOf w k → ((caller : Path) (i : ℕ) → path_at w k ≡ child caller i → IsSome (settled_outcome w k)) → IsSome (settled_outcome w k)
        by_family (of_main i lt at) h = h [] i at
        by_family (of_join j i lt ran at) h = h (path_at w j) i at

    pub settled-all : (k : ℕ) → k < length w.calls → IsSome (settled_outcome w k)
    settled-all k within = by_depth 64 k within (omega arith)

    -- main waits for nothing that has settled
    advances : (p : Path) → IsAt w p → (outcome_step w p (outcome_at (known w) p)).0 ≡ turn.Advanced
    advances p at =
        let same : outcome_at (known w) p ≡ settled_outcome w at.place = ap (outcome_at (known w)) (sym at.is) ∙ known-at w inv.holds.tracks at.place at.within in
        by_outcome (outcome_at (known w) p) (subst (λ (r : Option Outcome). IsSome r) (sym same) (settled-all at.place at.within))
      where
        by_outcome : (r : Option Outcome) → IsSome r → (outcome_step w p r).0 ≡ turn.Advanced
        by_outcome (Some outcome) h = refl
        by_outcome None h = absurd (cc)

    wait_advances : (wanted : Request) (go : Answer → Act Done) (f : Value) → ((p : Path) (qs : List Path) → path_in (out-Value f) ≡ p ∷ qs → IsChild [] (submits w.past) p) → (wait_step w (path_in (out-Value f))).0 ≡ turn.Advanced
    wait_advances wanted go f told = by_path (path_in (out-Value f)) refl
      where
        by_path : (ps : List Path) → path_in (out-Value f) ≡ ps → (wait_step w ps).0 ≡ turn.Advanced
        by_path [] at = refl
        by_path (p ∷ qs) at =
            let h = told p qs at in
            let there = inv.holds.main.mains h.number h.below in
            advances p (record { place = there.0; within = there.1; is = there.2 ∙ sym h.is })

    act_advances : (a : Act Done) → main_left w ≡ a → (act_step w a).0 ≡ turn.Advanced
    act_advances (Give d) left = refl
    act_advances (Throw exception) left = refl
    act_advances (Ask (request.Call app arguments names) go) left = refl
    act_advances (Ask (request.WaitValue f) go) left = let a = subst (Asks [] (submits w.past)) left inv.holds.main.asks in wait_advances (request.WaitValue f) go f (λ p qs at. asks-wait [] (submits w.past) (Ask (request.WaitValue f) go) f p qs a a.told.0 at)
    act_advances (Ask (request.WaitName f) go) left = let a = subst (Asks [] (submits w.past)) left inv.holds.main.asks in wait_advances (request.WaitName f) go f (λ p qs at. asks-wait [] (submits w.past) (Ask (request.WaitName f) go) f p qs a a.told.0 at)
    act_advances (Ask (request.Print value) go) left = refl
    act_advances (Ask request.Checkpoint go) left = refl

    main_over : IsSome w.ending
    main_over = by_ending w.ending refl
      where
        by_ending : (e : Option Ending) → w.ending ≡ e → IsSome w.ending
        by_ending (Some e) is = rw is refl
        by_ending None is = absurd (idle.script (ap (λ (e : Option Ending). (unless_ended e w (act_step w (main_left w))).0) is ∙ act_advances (main_left w) refl))

    -- where no turn is ready and no attempt runs, all is done
    pub all-done : IsDone w
    all-done = record { over = main_over; settled = settled-all }
