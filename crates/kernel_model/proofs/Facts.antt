-- What a kernel's invariant says of its history, and each turn of main.
use Rattle.std.proofs.Common.{◌≡◌, ℕ, Bool, true, false, List, [], ◌∷◌, Option, Some, None, refl, sym, subst}
use Rattle.flow_base.specs.declared.value.Value.{Value, out-Value}
use Rattle.flow_base.specs.declared.outcome.Ending.{Ending}
use Rattle.flow_base.specs.declared.outcome.Ending.TheVariants as ending
use Rattle.flow_base.specs.declared.outcome.Outcome.{Outcome}
use Rattle.event_log.specs.declared.entry.Entry.TheVariants as entry
use Rattle.flow_meaning.specs.declared.walk.Request.{Request}
use Rattle.flow_meaning.specs.declared.walk.Request.TheVariants as request
use Rattle.flow_meaning.specs.Act.{Act, Give, Throw, Ask}
use Rattle.flow_meaning.specs.Inputs.{Path, path_in}
use Rattle.flow_meaning.specs.Meaning.{Done}
use Rattle.flow_meaning.specs.Sequential.{apply, outcome_at, seq}
use Rattle.call_rules.specs.Calls.{Begin, Fails, Attempts, Joins, join_dry}
use Rattle.memo_table.specs.declared.saved.Saved.{Saved}
use Rattle.history_laws.specs.Legal.{Holds as LawHolds, IsLegal, IsComplete}
use Rattle.history_laws.specs.Laws.{SettlingLaw}
use Rattle.history_laws.specs.Reads.{History, has_end, lost}
use Rattle.history_laws.specs.Tables.{table}
use Rattle.history_laws.specs.declared.table.Table.{Table}
use Rattle.kernel_model.specs.Known.{Known, path_at, settled_outcome, known, begin_at, saved_at, main_left, no_retries, has_ended, apps_in}
use Rattle.script_tree.specs.declared.tree.AppDef.{AppDef}
use Rattle.script_tree.specs.Grammar.{Tree}
use Rattle.flow_meaning.specs.Operators.{Text}
use Rattle.flow_meaning.specs.Walk.{body_act}
use Rattle.body_requests.specs.Asks.{Each, IsPlain, AsksTold, EndsPlain}
use Rattle.kernel_model.specs.Invariants.{Inv}
use Rattle.kernel_model.specs.Conditions.{MainAsks}
use Rattle.kernel_model.specs.Turns.{CarriesOut, begins, ends, attempted, carried_out, outcome_step, unsettled_step, wait_step, request_step, act_step, unless_ended, script_step}
use Rattle.kernel_model.proofs.KeepingTasks.{keep-launched, keep-failed, keep-join-ended}
use Rattle.kernel_model.proofs.KeepingMemo.{keep-recalled}
use Rattle.kernel_model.proofs.KeepingSubmits.{keep-joined}
use Rattle.kernel_model.proofs.KeepingMain.{keep-called, keep-waited-value, keep-waited-name, keep-unwaited-value, keep-unwaited-name, keep-printed, keep-checkpointed, keep-arrived, keep-main-ended}
use Rattle.call_rules.specs.Told.{IsTold}

-- the history is legal, read with the losses that it tells
pub legal-now : (w : Known) → Inv w → IsLegal no_retries (table w.tree (lost w.past)) w.past
legal-now w inv = inv.holds.right.legal (lost w.past) inv.holds.right.fits

end_newest : (z : Table) (b : History) → LawHolds (SettlingLaw z) b → has_end b ≡ true → IsComplete b
end_newest z [] law h = absurd (cc)
end_newest z (entry.End ∷ b) law h = record { before = b; ends = refl }
end_newest z (entry.Submit p app ∷ b) law h = absurd (let open_yet = law.0.open_yet in cc)
end_newest z (entry.JoinRun p ∷ b) law h = absurd (let open_yet = law.0.open_yet in cc)
end_newest z (entry.Launch p n ∷ b) law h = absurd (let open_yet = law.0.open_yet in cc)
end_newest z (entry.Start p n manager ∷ b) law h = absurd (let open_yet = law.0.open_yet in cc)
end_newest z (entry.Ended p n manager kind ∷ b) law h = absurd (let open_yet = law.0.open_yet in cc)
end_newest z (entry.Settled p s ∷ b) law h = absurd (let open_yet = law.0.open_yet in cc)
end_newest z (entry.MemoHit q ∷ b) law h = absurd (let open_yet = law.0.open_yet in cc)
end_newest z (entry.Dispatch q n manager ∷ b) law h = absurd (let open_yet = law.0.open_yet in cc)
end_newest z (entry.Held q n manager ∷ b) law h = absurd (let open_yet = law.0.open_yet in cc)
end_newest z (entry.LostTry q n manager ∷ b) law h = absurd (let open_yet = law.0.open_yet in cc)
end_newest z (entry.Stored q ∷ b) law h = absurd (let open_yet = law.0.open_yet in cc)
end_newest z (entry.Block block state ∷ b) law h = absurd (let open_yet = law.0.open_yet in cc)
end_newest z (entry.Register manager block slots ∷ b) law h = absurd (let open_yet = law.0.open_yet in cc)
end_newest z (entry.Refused block version ∷ b) law h = absurd (let open_yet = law.0.open_yet in cc)
end_newest z (entry.Tick at ∷ b) law h = absurd (let open_yet = law.0.open_yet in cc)
end_newest z (entry.Beat manager ∷ b) law h = absurd (let open_yet = law.0.open_yet in cc)
end_newest z (entry.Silent manager ∷ b) law h = absurd (let open_yet = law.0.open_yet in cc)
end_newest z (entry.Lost manager ∷ b) law h = absurd (let open_yet = law.0.open_yet in cc)
end_newest z (entry.Drain manager ∷ b) law h = absurd (let open_yet = law.0.open_yet in cc)
end_newest z (entry.Drained manager ∷ b) law h = absurd (let open_yet = law.0.open_yet in cc)
end_newest z (entry.Hold manager ∷ b) law h = absurd (let open_yet = law.0.open_yet in cc)
end_newest z (entry.Scale decided ∷ b) law h = absurd (let open_yet = law.0.open_yet in cc)
end_newest z (entry.Checkpoint count ∷ b) law h = absurd (let open_yet = law.0.open_yet in cc)

-- where the end stands, it is the last entry
pub complete-now : (w : Known) → Inv w → has_end w.past ≡ true → IsComplete w.past
complete-now w inv h = end_newest (table w.tree (lost w.past)) w.past (legal-now w inv).settling h

-- ---- a turn of main

keep_unsettled : (w : Known) (p : Path) (arrived : Bool) → Inv w → Inv (unsettled_step w p arrived).1
keep_unsettled w p true inv = inv
keep_unsettled w p false inv = keep-arrived w inv

keep_wait_value : (w : Known) (f : Value) → Inv w → MainAsks w (request.WaitValue f) → Inv (wait_step w (path_in (out-Value f))).1
keep_wait_value w f inv asks = by_path (path_in (out-Value f)) refl
  where
    by_outcome : (p : Path) (qs : List Path) (r : Option Outcome) → path_in (out-Value f) ≡ p ∷ qs → outcome_at (known w) p ≡ r → Inv (outcome_step w p r).1
    by_outcome p qs None at e = keep_unsettled w p w.arrived inv
    by_outcome p qs (Some outcome) at e = keep-waited-value w f p qs outcome inv asks at e

    by_path : (ps : List Path) → path_in (out-Value f) ≡ ps → Inv (wait_step w ps).1
    by_path [] at = keep-unwaited-value w f inv asks at
    by_path (p ∷ qs) at = by_outcome p qs (outcome_at (known w) p) at refl

keep_wait_name : (w : Known) (f : Value) → Inv w → MainAsks w (request.WaitName f) → Inv (wait_step w (path_in (out-Value f))).1
keep_wait_name w f inv asks = by_path (path_in (out-Value f)) refl
  where
    by_outcome : (p : Path) (qs : List Path) (r : Option Outcome) → path_in (out-Value f) ≡ p ∷ qs → outcome_at (known w) p ≡ r → Inv (outcome_step w p r).1
    by_outcome p qs None at e = keep_unsettled w p w.arrived inv
    by_outcome p qs (Some outcome) at e = keep-waited-name w f p qs outcome inv asks at e

    by_path : (ps : List Path) → path_in (out-Value f) ≡ ps → Inv (wait_step w ps).1
    by_path [] at = keep-unwaited-name w f inv asks at
    by_path (p ∷ qs) at = by_outcome p qs (outcome_at (known w) p) at refl

keep_request : (w : Known) (wanted : Request) → Inv w → MainAsks w wanted → Inv (request_step w wanted).1
keep_request w (request.Call app arguments names) inv asks = keep-called w app arguments names inv asks
keep_request w (request.WaitValue f) inv asks = keep_wait_value w f inv asks
keep_request w (request.WaitName f) inv asks = keep_wait_name w f inv asks
keep_request w (request.Print value) inv asks = keep-printed w value inv asks
keep_request w request.Checkpoint inv asks = keep-checkpointed w inv asks

pub keep-script-step : (w : Known) → Inv w → has_ended w ≡ false → Inv (script_step w).1
keep-script-step w inv not_ended = by_ending w.ending refl
  where
    by_act : (a : Act Done) → w.ending ≡ None → main_left w ≡ a → Inv (act_step w a).1
    by_act (Give d) going left = keep-main-ended w ending.Ended inv (record { not_ended = not_ended; going = going; ends = rw left refl })
    by_act (Throw exception) going left = keep-main-ended w (ending.Raised exception) inv (record { not_ended = not_ended; going = going; ends = rw left refl })
    by_act (Ask wanted go) going left = keep_request w wanted inv (record { not_ended = not_ended; going = going; go = go; left = left })

    by_ending : (e : Option Ending) → w.ending ≡ e → Inv (unless_ended e w (act_step w (main_left w))).1
    by_ending None going = by_act (main_left w) going refl
    by_ending (Some e) going = inv

-- ---- a callback

pub keep-carried-out : (w v : Known) → Inv w → has_ended w ≡ false → CarriesOut w v → Inv v
keep-carried-out w v inv not_ended (begins k callback after) = subst Inv (sym after) (by_begin (begin_at w k) refl)
  where
    by_saved : (app : AppDef) (values : List Value) → begin_at w k ≡ Attempts app values → (r : Option Saved) → saved_at w k ≡ r → Inv (attempted w k r)
    by_saved app values is None saved = keep-launched w k inv (record { not_ended = not_ended; callback = callback; app = app; values = values; begins = is; unsaved = saved })
    by_saved app values is (Some value) saved = keep-recalled w k value inv (record { not_ended = not_ended; callback = callback; is = saved })

    by_begin : (b : Begin) → begin_at w k ≡ b → Inv (carried_out w k b)
    by_begin (Fails exception) is = keep-failed w k exception inv (record { not_ended = not_ended; callback = callback; begins = is })
    by_begin (Attempts app values) is = by_saved app values is (saved_at w k) refl
    by_begin (Joins app values) is = keep-joined w k (join_dry (apps_in w) (path_at w k) app values) inv (record { not_ended = not_ended; callback = callback; app = app; values = values; begins = is; is = refl })
keep-carried-out w v inv not_ended (ends k is after) = subst Inv (sym after) (keep-join-ended w k _ inv (record { not_ended = not_ended; done = is; is = refl }))

-- what has settled has its outcome in the evaluation
pub outcome-now : (w : Known) → Inv w → (k : ℕ) (outcome : Outcome) → settled_outcome w k ≡ Some outcome → outcome_at (seq w.tree.0 w.tree.1 (lost w.past)).tasks (path_at w k) ≡ Some outcome
unfolding seq
outcome-now w inv k outcome h = (inv.holds.right.evaluates (lost w.past) inv.holds.right.fits).agrees k outcome h

-- two laws of all bodies give what a kernel takes of its script
pub told-by-laws : ((s : Tree) (app : Option AppDef) (arguments : List Value) → Each IsPlain arguments → AsksTold [] (body_act s app arguments))
    → ((app : AppDef) (arguments : List Value) (names : List Text) → Each IsPlain arguments → EndsPlain (apply app arguments names))
    → (tree : Tree) → IsTold tree
told-by-laws bodies apps tree = record {
  main = bodies tree None [] tt;
  joins = λ k app values at plain. bodies tree (Some app) values plain;
  plain = λ k app values names at plain. apps app values names plain;
}
