-- Each turn leaves fewer turns.
use Rattle.std.proofs.Common.{◌≡◌, ℕ, ◌+◌, ◌<◌, ◌≤◌, Bool, true, false, List, [], ◌∷◌, length, Option, Some, None, refl, sym, ap, subst, arith, length-append}
use Rattle.flow_base.specs.declared.value.Value.{out-Value}
use Rattle.flow_base.specs.declared.outcome.Ending.{Ending}
use Rattle.flow_base.specs.declared.outcome.Outcome.{Outcome}
use Rattle.flow_meaning.specs.declared.walk.Request.{Request}
use Rattle.flow_meaning.specs.declared.walk.Request.TheVariants as request
use Rattle.flow_meaning.specs.declared.walk.Answer.{Answer}
use Rattle.flow_meaning.specs.Act.{Act, Give, Throw, Ask}
use Rattle.flow_meaning.specs.Inputs.{Path, path_in}
use Rattle.flow_meaning.specs.Meaning.{Done}
use Rattle.flow_meaning.specs.Sequential.{MainAct, outcome_at}
use Rattle.call_rules.specs.Calls.{Call, Begin, Fails, Attempts, Joins, join_dry}
use Rattle.memo_table.specs.declared.saved.Saved.{Saved}
use Rattle.kernel_model.specs.declared.answers.ScriptTurn.TheVariants as turn
use Rattle.kernel_model.specs.Known.{Known, known, saved_at, main_left, apps_in, path_at}
use Rattle.kernel_model.specs.Acts.{answered, submitted, all_submitted, called, call_of, joining}
use Rattle.kernel_model.specs.Turns.{CarriesOut, begins, ends, attempted, carried_out, Stores, unsettled_step, outcome_step, wait_step, request_step, act_step, unless_ended, script_step}
use Rattle.kernel_model.specs.Work.{not_arrived, not_over, turns_left, HasRoom}

arrived_few : (a : Bool) → not_arrived a ≤ 1
arrived_few true = omega arith
arrived_few false = omega arith

-- an entry more, and main where it was
pub entry-leaves : (room : ℕ) (w v : Known) → length v.past ≡ length w.past + 1 → v.answers ≡ w.answers → v.arrived ≡ w.arrived → v.ending ≡ w.ending → HasRoom room v → turns_left room v < turns_left room w
entry-leaves room w v past answers arrived ending has =
    let few = has.entries in
    let same = ap length answers in
    let here = ap not_arrived arrived in
    let over = ap not_over ending in
    omega (arith, past, few, same, here, over)

-- an answer more
answer-leaves : (room : ℕ) (w v : Known) → length w.past ≤ length v.past → length v.answers ≡ length w.answers + 1 → v.ending ≡ w.ending → HasRoom room v → turns_left room v < turns_left room w
answer-leaves room w v past answers ending has =
    let few = has.answers in
    let over = ap not_over ending in
    let before = arrived_few v.arrived in
    omega (arith, past, answers, few, over, before)

answered-leaves : (room : ℕ) (w : Known) (a : Answer) (acts : List MainAct) → HasRoom room (answered w a acts) → turns_left room (answered w a acts) < turns_left room w
answered-leaves room w a acts has = answer-leaves room w (answered w a acts) (omega arith) (length-append w.answers (a ∷ [])) refl has

-- a turn of main that advances leaves fewer turns
pub script-leaves : (room : ℕ) (w : Known) → (script_step w).0 ≡ turn.Advanced → HasRoom room (script_step w).1 → turns_left room (script_step w).1 < turns_left room w
script-leaves room w did has = by_ending w.ending refl did has
  where
    by_arrived : (p : Path) (a : Bool) → w.arrived ≡ a → (unsettled_step w p a).0 ≡ turn.Advanced → HasRoom room (unsettled_step w p a).1 → turns_left room (unsettled_step w p a).1 < turns_left room w
    by_arrived p true is d h = absurd (cc)
    by_arrived p false is d h = let before = ap not_arrived is in omega (arith, before)

    by_outcome : (p : Path) (r : Option Outcome) → (outcome_step w p r).0 ≡ turn.Advanced → HasRoom room (outcome_step w p r).1 → turns_left room (outcome_step w p r).1 < turns_left room w
    by_outcome p None d h = by_arrived p w.arrived refl d h
    by_outcome p (Some outcome) d h = answered-leaves room w _ _ h

    by_path : (ps : List Path) → (wait_step w ps).0 ≡ turn.Advanced → HasRoom room (wait_step w ps).1 → turns_left room (wait_step w ps).1 < turns_left room w
    by_path [] d h = answered-leaves room w _ _ h
    by_path (p ∷ ps) d h = by_outcome p (outcome_at (known w) p) d h

    by_request : (wanted : Request) → (request_step w wanted).0 ≡ turn.Advanced → HasRoom room (request_step w wanted).1 → turns_left room (request_step w wanted).1 < turns_left room w
    by_request (request.Call app arguments names) d h = answer-leaves room w (called w (call_of w app arguments names)) (omega arith) (length-append w.answers _) refl h
    by_request (request.WaitValue f) d h = by_path (path_in (out-Value f)) d h
    by_request (request.WaitName f) d h = by_path (path_in (out-Value f)) d h
    by_request (request.Print value) d h = answered-leaves room w _ _ h
    by_request request.Checkpoint d h = answered-leaves room w _ _ h

    by_act : (a : Act Done) → w.ending ≡ None → (act_step w a).0 ≡ turn.Advanced → HasRoom room (act_step w a).1 → turns_left room (act_step w a).1 < turns_left room w
    by_act (Give d) is e h = let before = ap not_over is in omega (arith, before)
    by_act (Throw exception) is e h = let before = ap not_over is in omega (arith, before)
    by_act (Ask wanted go) is e h = by_request wanted e h

    by_ending : (e : Option Ending) → w.ending ≡ e → (unless_ended e w (act_step w (main_left w))).0 ≡ turn.Advanced → HasRoom room (unless_ended e w (act_step w (main_left w))).1 → turns_left room (unless_ended e w (act_step w (main_left w))).1 < turns_left room w
    by_ending (Some e) is d h = absurd (cc)
    by_ending None is d h = by_act (main_left w) is d h

-- submissions only add entries
record Longer (w v : Known) : Type 0 where
  past : length w.past ≤ length v.past
  answers : v.answers ≡ w.answers
  arrived : v.arrived ≡ w.arrived
  ending : v.ending ≡ w.ending

submits_longer : (w : Known) (cs : List Call) → Longer w (all_submitted w cs)
submits_longer w [] = record { past = omega arith; answers = refl; arrived = refl; ending = refl }
submits_longer w (c ∷ cs) = let more = submits_longer (submitted w c) cs in record { past = let le = more.past in omega arith; answers = more.answers; arrived = more.arrived; ending = more.ending }

entries-leave : (room : ℕ) (w v : Known) → length w.past < length v.past → v.answers ≡ w.answers → v.arrived ≡ w.arrived → v.ending ≡ w.ending → HasRoom room v → turns_left room v < turns_left room w
entries-leave room w v past answers arrived ending has =
    let few = has.entries in
    let same = ap length answers in
    let here = ap not_arrived arrived in
    let over = ap not_over ending in
    omega (arith, past, few, same, here, over)

pub callback-leaves : (room : ℕ) (w v : Known) → CarriesOut w v → HasRoom room v → turns_left room v < turns_left room w
callback-leaves room w v (begins k callback after) has = subst (λ (u : Known). HasRoom room u → turns_left room u < turns_left room w) (sym after) (by_begin _) has
  where
    by_saved : (r : Option Saved) → HasRoom room (attempted w k r) → turns_left room (attempted w k r) < turns_left room w
    by_saved None h = entry-leaves room w _ (omega arith) refl refl refl h
    by_saved (Some saved) h = entries-leave room w _ (omega arith) refl refl refl h

    by_begin : (b : Begin) → HasRoom room (carried_out w k b) → turns_left room (carried_out w k b) < turns_left room w
    by_begin (Fails exception) h = entry-leaves room w _ (omega arith) refl refl refl h
    by_begin (Attempts app values) h = by_saved (saved_at w k) h
    by_begin (Joins app values) h = let more = submits_longer (joining w k (join_dry (apps_in w) (path_at w k) app values)) (join_dry (apps_in w) (path_at w k) app values).1 in entries-leave room w _ (let le = more.past in omega arith) more.answers more.arrived more.ending h
callback-leaves room w v (ends k is after) has = subst (λ (u : Known). HasRoom room u → turns_left room u < turns_left room w) (sym after) (λ h. entry-leaves room w _ (omega arith) refl refl refl h) has

-- a value that is stored leaves fewer turns
pub store-leaves : (room : ℕ) (w v : Known) → Stores w v → HasRoom room v → turns_left room v < turns_left room w
store-leaves room w v did has = subst (λ (u : Known). HasRoom room u → turns_left room u < turns_left room w) (sym did.after) (λ h. entry-leaves room w _ (omega arith) refl refl refl h) has
