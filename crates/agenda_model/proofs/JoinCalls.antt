-- What is asked of the inputs of calls, and of the calls of a join.
use Rattle.std.proofs.Common.{◌≡◌, ◌≢◌, ℕ, ◌<◌, false, List, [], ◌∷◌, length, Option, Some, None, IsSome, refl, sym, ◌∙◌, ap, subst, arith, slice_get, Result}
use Rattle.flow_base.specs.declared.value.Value.{Value}
use Rattle.flow_base.specs.declared.outcome.Exception.{Exception}
use Rattle.flow_base.specs.declared.outcome.Outcome.{Outcome}
use Rattle.script_tree.specs.declared.tree.AppDef.{AppDef}
use Rattle.flow_meaning.specs.Inputs.{Path, inputs, distinct}
use Rattle.flow_meaning.specs.Meaning.{Done}
use Rattle.flow_meaning.specs.Sequential.{Tasks, outcome_at}
use Rattle.body_requests.specs.Asks.{Each}
use Rattle.history_laws.specs.Reads.{lost, submits}
use Rattle.call_rules.specs.Calls.{Call, Dry, Joins, awaited, calls_below, calls_with, child, join_act, join_dry, task_of}
use Rattle.call_rules.specs.Groups.{AllKnown, HasTask, IsEarlier, IsPlainOutcome}
use Rattle.call_rules.specs.Told.{IsChild, whole}
use Rattle.call_rules.proofs.Agreeing.{calls-agree}
use Rattle.call_rules.proofs.Evaluating.{join-waits, whole-ruled}
use Rattle.call_rules.proofs.Plain.{ArePlain, IsPlainKnown, each-map}
use Rattle.call_rules.proofs.Tasks.{child-same, found-known, length-child, parent-same}
use Rattle.kernel_model.specs.Conditions.{CanJoin}
use Rattle.kernel_model.specs.Invariants.{FollowsEvaluation, Inv, IsOf, Tracks, of_join, of_main}
use Rattle.kernel_model.specs.Known.{Known, apps_in, begin_at, call_at, has_ended, inputs_at, known, life_at, next_path, path_at}
use Rattle.kernel_model.specs.Turns.{IsCallback}
use Rattle.kernel_model.proofs.KeepingTasks.{joining-within, path-long}
use Rattle.kernel_model.proofs.Knowing.{dry-path, known-whole, ruled-at, whole-agrees}
use Rattle.agenda_model.proofs.PathPlaces.{distinct-each}

-- a path of a call
abbrev pub IsLong : Path → Type 0
IsLong p = 0 < length p

child_long : (caller : Path) (n : ℕ) (p : Path) → IsChild caller n p → IsLong p
child_long caller n p h = let long = length-child caller h.number in let same = ap length h.is in omega (arith, long, same)

pub children-long : (caller : Path) (n : ℕ) (ps : List Path) → Each (IsChild caller n) ps → Each IsLong ps
children-long caller n = each-map (IsChild caller n) IsLong (child_long caller n)

earlier_long : (p q : Path) → IsEarlier p q → IsLong q
earlier_long p q h = let long = length-child h.caller h.before in let same = ap length h.other in omega (arith, long, same)

-- an earlier call of the same caller
earlier_child : (caller : Path) (n : ℕ) (p q : Path) → p ≡ child caller n → IsEarlier p q → IsChild caller n q
earlier_child caller n p q is h =
    let callers : caller ≡ h.caller = parent-same caller h.caller n h.number (sym is ∙ h.this) in
    let numbers : n ≡ h.number = child-same caller n h.number (sym is ∙ h.this ∙ ap (λ (c : Path). child c h.number) (sym callers)) in
    let less = h.less in
    record { number = h.before; is = h.other ∙ ap (λ (c : Path). child c h.before) (sym callers); below = omega (arith, less, numbers) }

-- no call has the path of main's next one
pub next-new : (w : Known) → Tracks w → (k : ℕ) → k < length w.calls → path_at w k ≢ next_path w
next-new w tracks k within e = by_kind (tracks.family k within)
  where
    by_kind : IsOf w k → ⊥
    by_kind (of_main i less at) = let same = child-same [] i (submits w.past) (sym at ∙ e) in absurd (omega arith)
    by_kind (of_join j i less ran at) =
        let callers = parent-same (path_at w j) [] i (submits w.past) (sym at ∙ e) in
        let short = ap length callers in
        let long = path-long w j (tracks.family j less) in
        absurd (omega arith)

module _ (w : Known) (inv : Inv w) where
  -- the evaluation under the losses of the history
  now_is : FollowsEvaluation (lost w.past) w
  now_is = inv.holds.right.evaluates (lost w.past) inv.holds.right.fits

  all : Tasks
  all = whole w.tree (lost w.past)

  -- values that are known are plain
  known_plain : (ps : List Path) → AllKnown (known w) ps → ArePlain (known w) ps
  known_plain [] h = tt
  known_plain (p ∷ ps) h = (by_outcome (outcome_at (known w) p) refl h.0, known_plain ps h.1)
    where
      by_outcome : (r : Option Outcome) → outcome_at (known w) p ≡ r → IsSome r → IsPlainKnown (outcome_at (known w) p)
      by_outcome None e there = absurd (cc)
      by_outcome (Some outcome) e there =
          let f = found-known (whole w.tree (lost w.past)) p outcome (known-whole w (lost w.past) inv.holds.tracks now_is p outcome e) in
          rw e (subst IsPlainOutcome f.1.1 ((whole-ruled w.tree inv.holds.told (lost w.past)).ruled p f.0 f.1.0).plain)

  -- the inputs of a call that is evaluated are earlier calls of its caller
  inputs_earlier : (c : Call) → HasTask (whole w.tree (lost w.past)) c → Each (IsEarlier c.path) (inputs c.arguments)
  inputs_earlier c there = ((whole-ruled w.tree inv.holds.told (lost w.past)).ruled c.path (task_of c there.outcome) there.at).earlier

  pub inputs-long : (k : ℕ) → k < length w.calls → Each IsLong (inputs_at w k)
  inputs-long k within = each-map (IsEarlier (path_at w k)) IsLong (earlier_long (path_at w k)) (inputs_at w k) (inputs_earlier (call_at w k) (now_is.placed k within))

  pub awaited-long : (k : ℕ) (result : Result Done Exception) → (life_at w k).ran ≡ Some result → Each IsLong (distinct (awaited result))
  awaited-long k result ran =
      let j = inv.holds.joins.ran k result ran in
      let waits = join-waits w.tree inv.holds.told (lost w.past) (call_at w k) (known w) j.app j.values j.begins (known_plain (inputs_at w k) j.inputs) in
      let long = children-long (path_at w k) (length (join_dry (apps_in w) (path_at w k) j.app j.values).1) (awaited (join_dry (apps_in w) (path_at w k) j.app j.values).0) waits in
      distinct-each IsLong (awaited result) (subst (λ (r : Result Done Exception). Each IsLong (awaited r)) (sym j.gave) long)

  -- ---- the calls of a join

  module _ (k : ℕ) (app : AppDef) (values : List Value) (callback : IsCallback w k) (begins : begin_at w k ≡ Joins app values) where
    abbrev pub ran-of : Dry
    ran-of = join_dry (apps_in w) (path_at w k) app values

    pub can-join : has_ended w ≡ false → CanJoin w k ran-of
    can-join not_ended = record { not_ended = not_ended; callback = callback; app = app; values = values; begins = begins; is = refl }

    pub call-path : (i : ℕ) (c : Call) → slice_get ran-of.1 i ≡ Some c → c.path ≡ child (path_at w k) i
    call-path = dry-path (path_at w k) (join_act (apps_in w) app values)

    -- it waits for earlier ones
    pub call-inputs : (i : ℕ) (c : Call) → slice_get ran-of.1 i ≡ Some c → Each (IsChild (path_at w k) i) (inputs c.arguments)
    call-inputs i c at =
        let within = joining-within w k inv callback in
        let there = now_is.placed k within in
        let ruled = ruled-at w (lost w.past) inv.holds.told now_is k within there in
        let agree = whole-agrees w (lost w.past) inv.holds.tracks now_is (inputs_at w k) callback.inputs in
        let below : calls_below (apps_in w) (known w) (call_at w k) ≡ ran-of.1 = ap (calls_with (apps_in w) (path_at w k)) begins in
        let called = ruled.calls i c (ap (λ (cs : List Call). slice_get cs i) (calls-agree (apps_in w) (whole w.tree (lost w.past)) (known w) (call_at w k) agree ∙ below) ∙ at) in
        each-map (IsEarlier c.path) (IsChild (path_at w k) i) (λ q. earlier_child (path_at w k) i c.path q (call-path i c at)) (inputs c.arguments) (inputs_earlier c called)

    -- and it returned some of them
    pub returned : Each (IsChild (path_at w k) (length ran-of.1)) (awaited ran-of.0)
    returned = join-waits w.tree inv.holds.told (lost w.past) (call_at w k) (known w) app values begins (known_plain (inputs_at w k) callback.inputs)
