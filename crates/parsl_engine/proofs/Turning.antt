-- What each turn of a round keeps.
use Rattle.std.proofs.Common.{◌≡◌, ◌≢◌, ℕ, ◌<◌, Bool, true, false, List, [], ◌∷◌, Option, Some, None, refl, sym, ◌∙◌, subst, arith}
use Rattle.std.specs.Prelude.{is_some}
use Rattle.std.proofs.lemmas.Bool.{or_parts}
use Rattle.flow_base.specs.declared.value.Value.{out-Value}
use Rattle.flow_base.specs.declared.outcome.Ending.{Ending}
use Rattle.flow_base.specs.declared.outcome.Outcome.{Outcome}
use Rattle.task_record.specs.declared.status.Status.TheVariants as status
use Rattle.flow_meaning.specs.declared.walk.Request.{Request}
use Rattle.flow_meaning.specs.declared.walk.Request.TheVariants as request
use Rattle.flow_meaning.specs.Act.{Act, Give, Throw, Ask}
use Rattle.flow_meaning.specs.Evaluations.{no_losses}
use Rattle.flow_meaning.specs.Inputs.{Path, path_in}
use Rattle.flow_meaning.specs.Meaning.{Done}
use Rattle.flow_meaning.specs.Sequential.{outcome_at}
use Rattle.call_rules.specs.Calls.{Call, Begin, Fails, Attempts, Joins, join_dry, call_outcome}
use Rattle.memo_table.specs.Keys.{KeyView}
use Rattle.memo_table.specs.declared.saved.Saved.{Saved}
use Rattle.history_laws.specs.Reads.{has_end}
use Rattle.kernel_model.specs.declared.answers.Refusal.{Refusal}
use Rattle.kernel_model.specs.declared.answers.ScriptTurn.{ScriptTurn}
use Rattle.kernel_model.specs.declared.answers.ScriptTurn.TheVariants as turn
use Rattle.kernel_model.specs.Known.{Known, call_at, path_at, status_at, known, begin_at, saved_at, has_ended, main_left, apps_in}
use Rattle.kernel_model.specs.Invariants.{Inv}
use Rattle.kernel_model.specs.Acts.{submitted, all_submitted, joining, started, finished, over}
use Rattle.kernel_model.specs.Turns.{unsettled_step, outcome_step, wait_step, request_step, act_step, unless_ended, script_step, IsCallback, IsJoinDone, IsStore, IsSettling, attempted, carried_out, CarriesOut, begins, ends, CallbackTurn, StoreTurn, SettleTurn, EndTurn}
use Rattle.kernel_model.specs.Work.{turns_left, HasRoom, NoneRuns}
use Rattle.kernel_model.proofs.Progress.{all-done}
use Rattle.kernel_model.proofs.Quiet.{script-runs-none, callback-runs-none, finish-runs-none, store-runs-none, settle-runs-none, end-runs-none}
use Rattle.kernel_model.proofs.Working.{entry-leaves, script-leaves, callback-leaves, store-leaves}
use Rattle.parsl_engine.specs.Rounds.{room, Keeps, AttemptTurn}

-- a turn from the same kernel
pub as-was : (Turn : Known → Bool → Known → Type 0) (w u v : Known) (did b : Bool) → did ≡ b → u ≡ w → Turn u did v → Turn w b v
as-was Turn w u v did b is same turn = subst (λ (x : Known). Turn x b v) same (subst (λ (d : Bool). Turn u d v) is turn)

none_of : (r : Option Refusal) → is_some r ≡ false → r ≡ None
none_of None h = refl
none_of (Some r) h = absurd (cc)

-- where a run goes on, nothing was refused
pub going-accepts : (w : Known) → has_ended w ≡ false → w.refusal ≡ None
going-accepts w going = none_of w.refusal (or_parts (is_some w.refusal) (has_end w.past) going).0

pub going-open : (w : Known) → has_ended w ≡ false → has_end w.past ≡ false
going-open w going = (or_parts (is_some w.refusal) (has_end w.past) going).1

-- ---- what no turn that is taken changes

pub record Stays (w v : Known) : Type 0 where
  pub tree : v.tree ≡ w.tree
  pub refusal : v.refusal ≡ w.refusal

pub stays-as : (w u v : Known) → v ≡ u → Stays w u → Stays w v
stays-as w u v is kept = subst (Stays w) (sym is) kept

submits_stay : (w : Known) (cs : List Call) → Stays w (all_submitted w cs)
submits_stay w [] = record { tree = refl; refusal = refl }
submits_stay w (c ∷ cs) = let more = submits_stay (submitted w c) cs in record { tree = more.tree; refusal = more.refusal }

pub script-stays : (w : Known) → Stays w (script_step w).1
script-stays w = by_ending w.ending
  where
    by_arrived : (p : Path) (a : Bool) → Stays w (unsettled_step w p a).1
    by_arrived p true = record { tree = refl; refusal = refl }
    by_arrived p false = record { tree = refl; refusal = refl }

    by_outcome : (p : Path) (r : Option Outcome) → Stays w (outcome_step w p r).1
    by_outcome p None = by_arrived p w.arrived
    by_outcome p (Some outcome) = record { tree = refl; refusal = refl }

    by_path : (ps : List Path) → Stays w (wait_step w ps).1
    by_path [] = record { tree = refl; refusal = refl }
    by_path (p ∷ ps) = by_outcome p (outcome_at (known w) p)

    by_request : (wanted : Request) → Stays w (request_step w wanted).1
    by_request (request.Call app arguments names) = record { tree = refl; refusal = refl }
    by_request (request.WaitValue f) = by_path (path_in (out-Value f))
    by_request (request.WaitName f) = by_path (path_in (out-Value f))
    by_request (request.Print value) = record { tree = refl; refusal = refl }
    by_request request.Checkpoint = record { tree = refl; refusal = refl }

    by_act : (a : Act Done) → Stays w (act_step w a).1
    by_act (Give d) = record { tree = refl; refusal = refl }
    by_act (Throw exception) = record { tree = refl; refusal = refl }
    by_act (Ask wanted go) = by_request wanted

    by_ending : (e : Option Ending) → Stays w (unless_ended e w (act_step w (main_left w))).1
    by_ending None = by_act (main_left w)
    by_ending (Some e) = record { tree = refl; refusal = refl }

carried_stays : (w v : Known) → CarriesOut w v → Stays w v
carried_stays w v (begins k callback after) = stays-as w _ v after (by_begin (begin_at w k))
  where
    by_saved : (r : Option Saved) → Stays w (attempted w k r)
    by_saved None = record { tree = refl; refusal = refl }
    by_saved (Some saved) = record { tree = refl; refusal = refl }

    by_begin : (b : Begin) → Stays w (carried_out w k b)
    by_begin (Fails exception) = record { tree = refl; refusal = refl }
    by_begin (Attempts app values) = by_saved (saved_at w k)
    by_begin (Joins app values) = let more = submits_stay (joining w k (join_dry (apps_in w) (path_at w k) app values)) (join_dry (apps_in w) (path_at w k) app values).1 in record { tree = more.tree; refusal = more.refusal }
carried_stays w v (ends k is after) = stays-as w _ v after (record { tree = refl; refusal = refl })

pub callback-stays : (w v : Known) (did : Bool) → CallbackTurn w did v → Stays w v
callback-stays w v true did = carried_stays w v did
callback-stays w v false did = stays-as w w v did.2 (record { tree = refl; refusal = refl })

pub store-stays : (w v : Known) (did : Bool) → StoreTurn w did v → Stays w v
store-stays w v true did = stays-as w _ v did.after (record { tree = refl; refusal = refl })
store-stays w v false did = stays-as w w v did.1 (record { tree = refl; refusal = refl })

pub settle-stays : (w v : Known) (did : Bool) → SettleTurn w did v → Stays w v
settle-stays w v true did = stays-as w _ v did.after (record { tree = refl; refusal = refl })
settle-stays w v false did = stays-as w w v did.1 (record { tree = refl; refusal = refl })

pub end-stays : (w v : Known) (did : Bool) → EndTurn w did v → Stays w v
end-stays w v true did = stays-as w _ v did.1 (record { tree = refl; refusal = refl })
end-stays w v false did = stays-as w w v did.1 (record { tree = refl; refusal = refl })

-- ---- main

-- a turn of main changes nothing where it doesn't advance
abbrev Waits : Known → ScriptTurn × Known → Type 0
Waits w step = (step.0 ≡ turn.Advanced → ⊥) → step.1 ≡ w

step_waits : (w : Known) → Waits w (script_step w)
step_waits w = by_ending w.ending
  where
    by_arrived : (p : Path) (a : Bool) → Waits w (unsettled_step w p a)
    by_arrived p true = λ h. refl
    by_arrived p false = λ h. absurd (h refl)

    by_outcome : (p : Path) (r : Option Outcome) → Waits w (outcome_step w p r)
    by_outcome p None = by_arrived p w.arrived
    by_outcome p (Some outcome) = λ h. absurd (h refl)

    by_path : (ps : List Path) → Waits w (wait_step w ps)
    by_path [] = λ h. absurd (h refl)
    by_path (p ∷ ps) = by_outcome p (outcome_at (known w) p)

    by_request : (wanted : Request) → Waits w (request_step w wanted)
    by_request (request.Call app arguments names) = λ h. absurd (h refl)
    by_request (request.WaitValue f) = by_path (path_in (out-Value f))
    by_request (request.WaitName f) = by_path (path_in (out-Value f))
    by_request (request.Print value) = λ h. absurd (h refl)
    by_request request.Checkpoint = λ h. absurd (h refl)

    by_act : (a : Act Done) → Waits w (act_step w a)
    by_act (Give d) = λ h. absurd (h refl)
    by_act (Throw exception) = λ h. absurd (h refl)
    by_act (Ask wanted go) = by_request wanted

    by_ending : (e : Option Ending) → Waits w (unless_ended e w (act_step w (main_left w)))
    by_ending None = by_act (main_left w)
    by_ending (Some e) = λ h. refl

pub script-waits : (w v : Known) (answer : ScriptTurn) → answer ≡ (script_step w).0 → (answer ≡ turn.Advanced → ⊥) → v ≡ (script_step w).1 → v ≡ w
script-waits w v answer is stuck after = after ∙ step_waits w (λ h. stuck (is ∙ h))

pub script-keeps : (w v : Known) → has_ended w ≡ false → NoneRuns w → (script_step w).0 ≡ turn.Advanced → v ≡ (script_step w).1 → HasRoom room v → Keeps w v
script-keeps w v going none advances after has =
    subst (λ (u : Known). HasRoom room u → Keeps w u) (sym after) (λ h. record { fewer = script-leaves room w advances h; still = script-runs-none w none; accepted = (script-stays w).refusal ∙ going-accepts w going }) has

-- ---- callbacks

pub callback-keeps : (w v : Known) → has_ended w ≡ false → NoneRuns w → Inv w → CallbackTurn w true v → HasRoom room v → Keeps w v
callback-keeps w v going none inv did has = record {
  fewer = callback-leaves room w v did has;
  still = callback-runs-none w v inv.holds.tracks.lives did none;
  accepted = (carried_stays w v did).refusal ∙ going-accepts w going;
}

-- ---- attempts

pub attempt-stays : (w v : Known) (did : Bool) → AttemptTurn w did v → Stays w v
attempt-stays w v true did = stays-as w _ v did.after (record { tree = refl; refusal = refl })
attempt-stays w v false did = stays-as w w v did.1 (record { tree = refl; refusal = refl })

-- two entries more
attempt_leaves : (most : ℕ) (w : Known) (k : ℕ) (outcome : Outcome) → HasRoom most (finished (started w k) k outcome) → turns_left most (finished (started w k) k outcome) < turns_left most w
attempt_leaves most w k outcome has =
    let few = has.entries in
    let first = entry-leaves most w (started w k) (omega arith) refl refl refl (record { entries = omega (arith, few); answers = has.answers }) in
    let second = entry-leaves most (started w k) (finished (started w k) k outcome) (omega arith) refl refl refl has in
    omega (arith, first, second)

pub attempt-keeps : (w v : Known) → has_ended w ≡ false → NoneRuns w → Inv w → AttemptTurn w true v → HasRoom room v → Keeps w v
attempt-keeps w v going none inv did has =
    let k = did.task in
    let outcome = call_outcome (apps_in w) no_losses (known w) (call_at w k) in
    subst (λ (u : Known). HasRoom room u → Keeps w u) (sym did.after) (λ h. record {
      fewer = attempt_leaves room w k outcome h;
      still = finish-runs-none w k outcome inv.holds.tracks.lives did.waiting none;
      accepted = going-accepts w going;
    }) has

-- ---- storing

pub store-keeps : (w v : Known) → has_ended w ≡ false → NoneRuns w → StoreTurn w true v → HasRoom room v → Keeps w v
store-keeps w v going none did has = record {
  fewer = store-leaves room w v did has;
  still = store-runs-none w v true did none;
  accepted = (store-stays w v true did).refusal ∙ going-accepts w going;
}

-- ---- settling

pub settle-keeps : (w v : Known) → has_ended w ≡ false → NoneRuns w → Inv w → SettleTurn w true v → HasRoom room v → Keeps w v
settle-keeps w v going none inv did has = record {
  fewer = subst (λ (u : Known). HasRoom room u → turns_left room u < turns_left room w) (sym did.after) (λ h. entry-leaves room w _ (omega arith) refl refl refl h) has;
  still = settle-runs-none w v true inv.holds.tracks.lives did none;
  accepted = (settle-stays w v true did).refusal ∙ going-accepts w going;
}

-- ---- the end

pub end-keeps : (w v : Known) → has_ended w ≡ false → NoneRuns w → EndTurn w true v → HasRoom room v → Keeps w v
end-keeps w v going none did has = record {
  fewer = subst (λ (u : Known). HasRoom room u → turns_left room u < turns_left room w) (sym did.1) (λ h. entry-leaves room w (over w) (omega arith) refl refl refl h) has;
  still = end-runs-none w v true did none;
  accepted = (end-stays w v true did).refusal ∙ going-accepts w going;
}

-- where no turn is ready, the end is
pub no-turn : (w v : Known) → Inv w → NoneRuns w → ((script_step w).0 ≡ turn.Advanced → ⊥) → ((k : ℕ) → IsCallback w k → ⊥) → ((k : ℕ) → IsJoinDone w k → ⊥) → ((k : ℕ) → status_at w k ≢ status.Launched) → ((k : ℕ) (key : KeyView) (saved : Saved) → IsStore w k key saved → ⊥) → ((k : ℕ) (outcome : Outcome) → IsSettling w k outcome → ⊥) → EndTurn w false v → ⊥
no-turn w v inv none script callbacks joins launches stores over turn =
    turn.0 (all-done w inv (record { none_runs = none; script = script; callbacks = callbacks; joins = joins; launches = launches; stores = stores; ends = over }))
