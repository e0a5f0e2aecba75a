-- How main's walk follows what is known, from one turn to the next.
use Rattle.std.proofs.Common.{◌≡◌, ℕ, suc, ◌+◌, ◌-◌, ◌<◌, Bool, true, false, not, List, [], ◌∷◌, ◌++◌, length, Option, Some, None, is_some, refl, sym, ◌∙◌, ap, subst, arith}
use Rattle.std.specs.Prelude.{Result, IfErr}
use Rattle.std.proofs.lemmas.List.{length-append}
use Rattle.flow_base.specs.declared.value.Value.{Value, out-Value}
use Rattle.flow_base.specs.declared.outcome.Ending.{Ending}
use Rattle.flow_base.specs.declared.outcome.Outcome.{Outcome}
use Rattle.script_tree.specs.Grammar.{Tree}
use Rattle.flow_meaning.specs.declared.walk.Request.{Request}
use Rattle.flow_meaning.specs.declared.walk.Request.TheVariants as request
use Rattle.flow_meaning.specs.declared.walk.Answer.{Answer}
use Rattle.flow_meaning.specs.Act.{Act, Give, Throw, Ask, after}
use Rattle.flow_meaning.specs.Inputs.{Path, path_in}
use Rattle.flow_meaning.specs.Meaning.{Done}
use Rattle.flow_meaning.specs.Sequential.{outcome_at}
use Rattle.flow_meaning.specs.Walk.{main_act}
use Rattle.app_eval.specs.declared.running.Want.TheVariants as want
use Rattle.app_eval.specs.Walks.{first_want}
use Rattle.kernel_model.specs.declared.answers.Refusal.{Refusal}
use Rattle.kernel_model.specs.declared.answers.ScriptTurn.{ScriptTurn}
use Rattle.kernel_model.specs.declared.answers.ScriptTurn.TheVariants as turn
use Rattle.kernel_model.specs.Known.{Known, path_at, settled_outcome, known, main_left, has_ended}
use Rattle.kernel_model.specs.Acts.{waited, arrived_at}
use Rattle.kernel_model.specs.Conditions.{MainAsks}
use Rattle.kernel_model.specs.Invariants.{Inv}
use Rattle.kernel_model.specs.Limits.{IsRefusedFor}
use Rattle.kernel_model.specs.Turns.{Step, unsettled_step, outcome_step, wait_step, request_step, act_step, unless_ended, script_step}
use Rattle.kernel_model.proofs.KeepingMain.{after-more}
use Rattle.kernel_model.proofs.Places.{known-at}
use Rattle.kernel_core.specs.declared.main_walk.MainWalk.{MainWalk}
use Rattle.kernel_core.specs.MainTurns.{waited_for, IsOfCall, IsWaitOf}
use Rattle.kernel_core.specs.MainWalks.{left_in, rest_in, IsReady, Stands, IsTaken}

-- ---- main goes on with an answer

-- the walk that was told the answer stands where what is known has one more
pub told-stands : (w v : Known) (m n : MainWalk) (r : Answer) → v.tree ≡ w.tree → v.answers ≡ w.answers ++ r ∷ [] → IsTaken m w → left_in n ≡ after (left_in m) (r ∷ []) → rest_in n ≡ rest_in m - 1 → IsReady n → Stands n v
told-stands w v m n r tree answers taken left rest ready =
    let count : length v.answers ≡ length w.answers + 1 = ap length answers ∙ length-append w.answers (r ∷ []) in
    let room = taken.room in
    let same : rest_in n + length v.answers ≡ rest_in m + length w.answers = omega (arith, count, room, rest) in
    record {
      ready = ready;
      follows = record {
        left =
            left
            ∙ ap (λ (a : Act Done). after a (r ∷ [])) taken.follows.left
            ∙ sym (after-more (main_act w.tree) w.answers r)
            ∙ ap (λ (rs : List Answer). after (main_act w.tree) rs) (sym answers)
            ∙ ap (λ (t : Tree). after (main_act t) v.answers) (sym tree);
        rest = same ∙ taken.follows.rest;
      };
    }

-- what the walk wants is what main asks for
asked : (w : Known) (wanted : Request) → has_ended w ≡ false → w.ending ≡ None → (a : Act Done) → main_left w ≡ a → first_want a ≡ want.Asks wanted → MainAsks w wanted
asked w wanted not_ended going (Give d) left is = absurd (cc)
asked w wanted not_ended going (Throw exception) left is = absurd (cc)
asked w wanted not_ended going (Ask request go) left is =
    let same : request ≡ wanted = cc is in
    record { not_ended = not_ended; going = going; go = go; left = left ∙ ap (λ (q : Request). Ask q go) same }

none_there : {A : Type 0} → (e : Option A) → is_some e ≡ false → e ≡ None
none_there None h = refl
none_there (Some x) h = absurd (cc)

pub main-asks : (w u : Known) (m : MainWalk) (wanted : Request) → u ≡ w → has_ended w ≡ false → is_some w.ending ≡ false → (w.ending ≡ None → Stands m w) → first_want (left_in m) ≡ want.Asks wanted → MainAsks u wanted
main-asks w u m wanted same not_ended going stands is =
    let none = none_there w.ending going in
    subst (λ (x : Known). MainAsks x wanted) (sym same) (asked w wanted not_ended none (main_left w) refl (ap first_want (sym (stands none).follows.left) ∙ is))

-- ---- waits

-- a turn at a wait for a call that is there goes by its outcome
pub wait-request : (w : Known) (wanted : Request) (k : ℕ) → Inv w → IsWaitOf w wanted k → request_step w wanted ≡ outcome_step w (path_at w k) (settled_outcome w k)
wait-request w wanted k inv waits = by_path ∙ ap (outcome_step w (path_at w k)) (known-at w inv.holds.tracks k waits.within)
  where
    at_value : (f : Value) → f ≡ waits.future → wait_step w (path_in (out-Value f)) ≡ outcome_step w (path_at w k) (outcome_at (known w) (path_at w k))
    at_value f e = ap (λ (g : Value). wait_step w (path_in (out-Value g))) e ∙ ap (wait_step w) waits.path

    by_request : (q : Request) → waited_for q ≡ Some waits.future → request_step w q ≡ outcome_step w (path_at w k) (outcome_at (known w) (path_at w k))
    by_request (request.WaitValue f) e = at_value f (cc e)
    by_request (request.WaitName f) e = at_value f (cc e)
    by_request (request.Call app arguments names) e = absurd (cc)
    by_request (request.Print value) e = absurd (cc)
    by_request request.Checkpoint e = absurd (cc)

    by_path : request_step w wanted ≡ outcome_step w (path_at w k) (outcome_at (known w) (path_at w k))
    by_path = by_request wanted waits.waits

pub settled-request : (w : Known) (wanted : Request) (k : ℕ) (outcome : Outcome) → Inv w → IsWaitOf w wanted k → settled_outcome w k ≡ Some outcome → request_step w wanted ≡ (turn.Advanced, waited w (path_at w k) outcome)
settled-request w wanted k outcome inv waits is = wait-request w wanted k inv waits ∙ ap (outcome_step w (path_at w k)) is

unsettled : (w : Known) (wanted : Request) (k : ℕ) → Inv w → IsWaitOf w wanted k → settled_outcome w k ≡ None → request_step w wanted ≡ unsettled_step w (path_at w k) w.arrived
unsettled w wanted k inv waits is = wait-request w wanted k inv waits ∙ ap (outcome_step w (path_at w k)) is

not_false : (b : Bool) → true ≡ not b → b ≡ false
not_false false h = refl
not_false true h = absurd (cc)

not_true : (b : Bool) → false ≡ not b → b ≡ true
not_true true h = refl
not_true false h = absurd (cc)

pub first-request : (w : Known) (wanted : Request) (k : ℕ) → Inv w → IsWaitOf w wanted k → settled_outcome w k ≡ None → true ≡ not w.arrived → request_step w wanted ≡ (turn.Advanced, arrived_at w)
first-request w wanted k inv waits is first = unsettled w wanted k inv waits is ∙ ap (unsettled_step w (path_at w k)) (not_false w.arrived first)

pub again-request : (w : Known) (wanted : Request) (k : ℕ) → Inv w → IsWaitOf w wanted k → settled_outcome w k ≡ None → false ≡ not w.arrived → request_step w wanted ≡ (turn.Waiting (path_at w k), w)
again-request w wanted k inv waits is again = unsettled w wanted k inv waits is ∙ ap (unsettled_step w (path_at w k)) (not_true w.arrived again)

-- a second arrival changes nothing
pub arrived-again : (w : Known) → false ≡ not w.arrived → arrived_at w ≡ w
arrived-again w again = ap (λ (b : Bool). record w { arrived = b }) (sym (not_true w.arrived again))

-- ---- what main waits for

waits_of : (w : Known) (wanted : Request) (f : Value) (k : ℕ) → waited_for wanted ≡ Some f → IsOfCall w f k → IsWaitOf w wanted k
waits_of w wanted f k waits is = record { future = f; waits = waits; path = is.path; within = is.within }

pub value-wait-of : (w : Known) (f : Value) (k : ℕ) → IsOfCall w f k → IsWaitOf w (request.WaitValue f) k
value-wait-of w f k is = waits_of w (request.WaitValue f) f k refl is

pub name-wait-of : (w : Known) (f : Value) (k : ℕ) → IsOfCall w f k → IsWaitOf w (request.WaitName f) k
name-wait-of w f k is = waits_of w (request.WaitName f) f k refl is

-- ---- a turn that asks

script_asks : (w u : Known) (wanted : Request) → u ≡ w → MainAsks u wanted → script_step w ≡ request_step u wanted
script_asks w u wanted same asks =
    ap script_step (sym same)
    ∙ ap (λ (e : Option Ending). unless_ended e u (act_step u (main_left u))) asks.going
    ∙ ap (act_step u) asks.left

pub asked-refused : (w u : Known) (wanted : Request) (result : Result ScriptTurn Refusal) → u ≡ w → MainAsks u wanted → IfErr result (IsRefusedFor (λ v. v ≡ (request_step u wanted).1)) → IfErr result (IsRefusedFor (λ v. v ≡ (script_step w).1))
asked-refused w u wanted result same asks h = subst (λ (step : Step). IfErr result (IsRefusedFor (λ v. v ≡ step.1))) (sym (script_asks w u wanted same asks)) h
