-- Nothing that a kernel keeps, or does, reads what the monitors were told.
use Rattle.std.proofs.Common.{◌≡◌, ℕ, Bool, true, false, List, [], ◌∷◌, Option, Some, None, refl, ap}
use Rattle.std.specs.Prelude.{Result}
use Rattle.flow_base.specs.declared.value.Value.{out-Value}
use Rattle.flow_base.specs.declared.outcome.Ending.{Ending}
use Rattle.flow_base.specs.declared.outcome.Exception.{Exception}
use Rattle.flow_base.specs.declared.outcome.Outcome.{Outcome}
use Rattle.dependency_graph.specs.declared.monitor.Settlement.{Settlement}
use Rattle.flow_meaning.specs.declared.walk.Request.{Request}
use Rattle.flow_meaning.specs.declared.walk.Request.TheVariants as request
use Rattle.flow_meaning.specs.Act.{Act, Give, Throw, Ask}
use Rattle.flow_meaning.specs.Inputs.{Path, path_in}
use Rattle.flow_meaning.specs.Meaning.{Done}
use Rattle.flow_meaning.specs.Sequential.{outcome_at}
use Rattle.call_rules.specs.Calls.{Losses, Call}
use Rattle.memo_table.specs.Keys.{KeyView}
use Rattle.memo_table.specs.declared.saved.Saved.{Saved}
use Rattle.kernel_model.specs.Known.{Known, known, main_left, IsDone}
use Rattle.kernel_model.specs.Invariants.{IsCall, IsOf, of_main, of_join, IsDue, FitsAt, FitsLosses, FollowsEvaluation, IsAttempted, IsJoined, IsTaskKey, Inv}
use Rattle.kernel_model.specs.Acts.{retold}
use Rattle.kernel_model.specs.Jobs.{JobView}
use Rattle.kernel_model.specs.Turns.{IsCallback, IsJoinDone, IsRunning, IsStore, Stores, IsSettling, Step, unsettled_step, outcome_step, wait_step, request_step, act_step, unless_ended, script_step}
use Rattle.kernel_model.specs.Work.{HasRoom, NoneRuns}
use Rattle.kernel_model.specs.Evaluated.{evaluated}
use Rattle.kernel_model.specs.Limits.{passed}

-- Each lemma of the form `P w → P (retold told w)` serves both ways: for the other way give it
-- `(retold told w) w.told`, since `retold w.told (retold told w)` is w.
module _ (w : Known) (told : List (List Settlement)) where
  -- ---- what is kept

  pub fits-retold : (losses : Losses) (k : ℕ) (outcome : Outcome) → FitsAt losses w k outcome → FitsAt losses (retold told w) k outcome
  fits-retold losses k outcome h = record { inputs = h.inputs; awaited = h.awaited; by_rule = h.by_rule }

  fits_back : (losses : Losses) → FitsLosses losses (retold told w) → FitsLosses losses w
  fits_back losses fits k outcome g = let h = fits k outcome g in record { inputs = h.inputs; awaited = h.awaited; by_rule = h.by_rule }

  follows_retold : (losses : Losses) → FollowsEvaluation losses w → FollowsEvaluation losses (retold told w)
  follows_retold losses e = record { made = e.made; count = e.count; group = e.group; goes_on = e.goes_on; placed = e.placed; agrees = e.agrees }

  of_retold : (k : ℕ) → IsOf w k → IsOf (retold told w) k
  of_retold k (of_main i lt e) = of_main i lt e
  of_retold k (of_join j i lt ran e) = of_join j i lt ran e

  call_retold : (c : Call) → IsCall w c → IsCall (retold told w) c
  call_retold c h = record { place = h.place; within = h.within; is = h.is }

  due_retold : (p : Path) (n : ℕ) → IsDue w p n → IsDue (retold told w) p n
  due_retold p n d = record { place = d.place; within = d.within; is = d.is; ran = d.ran; fresh = d.fresh }

  attempted_retold : (k : ℕ) → IsAttempted w k → IsAttempted (retold told w) k
  attempted_retold k h = record { inputs = h.inputs; app = h.app; values = h.values; begins = h.begins }

  joined_retold : (k : ℕ) (result : Result Done Exception) → IsJoined w k result → IsJoined (retold told w) k result
  joined_retold k result h = record {
    inputs = h.inputs;
    app = h.app;
    values = h.values;
    begins = h.begins;
    gave = h.gave;
    children = λ i c at few. call_retold c (h.children i c at few);
  }

  task_key_retold : (key : KeyView) → IsTaskKey w key → IsTaskKey (retold told w) key
  task_key_retold key t = record { place = t.place; within = t.within; inputs = t.inputs; is = t.is }

  pub done-retold : IsDone w → IsDone (retold told w)
  done-retold d = record { over = d.over; settled = d.settled }

  pub inv-retold : Inv w → Inv (retold told w)
  inv-retold inv =
      let h = inv.holds in
      let t = h.tracks in
      record {
        holds = record {
          told = h.told;
          texts = h.texts;
          tracks = record { lives = t.lives; distinct = t.distinct; there = t.there; lived = t.lived; none = t.none; begun = t.begun; family = λ k lt. of_retold k (t.family k lt) };
          runs = record { attempted = λ k r. attempted_retold k (h.runs.attempted k r); ended = h.runs.ended };
          joins = record {
            ran = λ k result g. joined_retold k result (h.joins.ran k result g);
            settled = h.joins.settled;
            is_due = λ p n g. due_retold p n (h.joins.is_due p n g);
          };
          memo = record {
            once = h.memo.once;
            values = h.memo.values;
            made = λ key g. task_key_retold key (h.memo.made key g);
            kept = h.memo.kept;
            told = λ losses fits. h.memo.told losses (fits_back losses fits);
          };
          main = record { asks = h.main.asks; mains = h.main.mains; called = h.main.called; waits = h.main.waits; ended = h.main.ended };
          right = record {
            fits = λ k outcome g. fits-retold _ k outcome (h.right.fits k outcome g);
            evaluates = λ losses fits. follows_retold losses (h.right.evaluates losses (fits_back losses fits));
            legal = λ losses fits. h.right.legal losses (fits_back losses fits);
            ends = λ g. done-retold (h.right.ends g);
          };
        };
        quiet = inv.quiet;
      }

  -- ---- what may come

  pub callback-retold : (k : ℕ) → IsCallback w k → IsCallback (retold told w) k
  callback-retold k h = record { pending = h.pending; inputs = h.inputs }

  -- its result is that of the premise, so it unfolds
  abbrev pub join-retold : (k : ℕ) → IsJoinDone w k → IsJoinDone (retold told w) k
  join-retold k h = record { joining = h.joining; result = h.result; ran = h.ran; awaited = h.awaited }

  pub running-retold : (job : JobView) (k : ℕ) → IsRunning w job k → IsRunning (retold told w) job k
  running-retold job k h = record { running = h.running; is = h.is }

  pub store-retold : (k : ℕ) (key : KeyView) (saved : Saved) → IsStore w k key saved → IsStore (retold told w) k key saved
  store-retold k key saved h = record { over = h.over; key_is = h.key_is; is = h.is; fresh = h.fresh }

  pub stores-retold : (v : Known) → Stores w v → Stores (retold told w) (retold told v)
  stores-retold v did = record { task = did.task; key = did.key; saved = did.saved; store = store-retold did.task did.key did.saved did.store; after = ap (retold told) did.after }

  pub settling-retold : (k : ℕ) (outcome : Outcome) → IsSettling w k outcome → IsSettling (retold told w) k outcome
  settling-retold k outcome h = record { over = h.over; is = h.is; kept = h.kept }

  pub room-retold : (n : ℕ) → HasRoom n w → HasRoom n (retold told w)
  room-retold n h = record { entries = h.entries; answers = h.answers }

  pub none-runs-retold : NoneRuns w → NoneRuns (retold told w)
  none-runs-retold none = none

  pub evaluated-retold : evaluated (retold told w) ≡ evaluated w
  evaluated-retold = refl

  pub passed-retold : passed (retold told w) ≡ passed w
  passed-retold = refl

  -- ---- a turn of main

  abbrev retold_step : Step → Step
  retold_step step = (step.0, retold told step.1)

  pub script-retold : script_step (retold told w) ≡ ((script_step w).0, retold told (script_step w).1)
  script-retold = by_ending w.ending
    where
      by_arrived : (p : Path) (a : Bool) → unsettled_step (retold told w) p a ≡ retold_step (unsettled_step w p a)
      by_arrived p true = refl
      by_arrived p false = refl

      by_outcome : (p : Path) (r : Option Outcome) → outcome_step (retold told w) p r ≡ retold_step (outcome_step w p r)
      by_outcome p None = by_arrived p w.arrived
      by_outcome p (Some outcome) = refl

      by_path : (ps : List Path) → wait_step (retold told w) ps ≡ retold_step (wait_step w ps)
      by_path [] = refl
      by_path (p ∷ ps) = by_outcome p (outcome_at (known w) p)

      by_request : (wanted : Request) → request_step (retold told w) wanted ≡ retold_step (request_step w wanted)
      by_request (request.Call app arguments names) = refl
      by_request (request.WaitValue f) = by_path (path_in (out-Value f))
      by_request (request.WaitName f) = by_path (path_in (out-Value f))
      by_request (request.Print value) = refl
      by_request request.Checkpoint = refl

      by_act : (a : Act Done) → act_step (retold told w) a ≡ retold_step (act_step w a)
      by_act (Give d) = refl
      by_act (Throw exception) = refl
      by_act (Ask wanted go) = by_request wanted

      by_ending : (e : Option Ending) → unless_ended e (retold told w) (act_step (retold told w) (main_left w)) ≡ retold_step (unless_ended e w (act_step w (main_left w)))
      by_ending None = by_act (main_left w)
      by_ending (Some e) = refl
