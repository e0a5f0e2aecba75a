-- No attempt runs between the rounds of a run.
use Rattle.std.proofs.Common.{◌≡◌, ◌≢◌, ℕ, zero, suc, ◌+◌, ◌<◌, Bool, true, false, List, [], ◌∷◌, ◌++◌, length, Option, Some, None, get_or, sym, ◌∙◌, subst, arith, length-set, inl, inr}
use Rattle.std.proofs.lemmas.Bool.{cases_eq}
use Rattle.flow_base.specs.declared.value.Value.{out-Value}
use Rattle.flow_base.specs.declared.outcome.Ending.{Ending}
use Rattle.flow_base.specs.declared.outcome.Outcome.{Outcome}
use Rattle.flow_base.specs.declared.outcome.Outcome.TheVariants as o
use Rattle.task_record.specs.declared.status.Status.TheVariants as status
use Rattle.event_log.specs.declared.entry.Entry.{Entry}
use Rattle.event_log.specs.declared.entry.Entry.TheVariants as entry
use Rattle.flow_meaning.specs.declared.walk.Request.{Request}
use Rattle.flow_meaning.specs.declared.walk.Request.TheVariants as request
use Rattle.flow_meaning.specs.Act.{Act, Give, Throw, Ask}
use Rattle.flow_meaning.specs.Inputs.{Path, path_in}
use Rattle.flow_meaning.specs.Meaning.{Done}
use Rattle.flow_meaning.specs.Sequential.{outcome_at}
use Rattle.call_rules.specs.Calls.{Call, Begin, Fails, Attempts, Joins, join_dry}
use Rattle.memo_table.specs.declared.saved.Saved.{Saved}
use Rattle.history_laws.specs.Tables.{status_of}
use Rattle.kernel_model.specs.Known.{Known, Life, no_life, path_at, life_at, status_at, known, begin_at, saved_at, word_of, main_left, apps_in}
use Rattle.kernel_model.specs.Acts.{put, pending, submitted, all_submitted, started, finished, settled_as, hit, joining}
use Rattle.kernel_model.specs.Turns.{CarriesOut, begins, ends, attempted, carried_out, unsettled_step, outcome_step, wait_step, request_step, act_step, unless_ended, script_step, StoreTurn, SettleTurn, EndTurn}
use Rattle.kernel_model.specs.Work.{NoneRuns}
use Rattle.kernel_model.proofs.Places.{life-same, life-other, status-within}
use Rattle.kernel_model.proofs.KeepingTasks.{by-state}

abbrev DoesNotRun : Life → Type 0
DoesNotRun life = life.status ≢ status.Running

-- a write of a task that doesn't run then, where no other runs
put_none : (w : Known) (k : ℕ) (life : Life) (e : Entry) → k < length w.calls → length w.lives ≡ length w.calls → DoesNotRun life → ((j : ℕ) → j ≢ k → DoesNotRun (life_at w j)) → NoneRuns (put w k life e)
put_none w k life e within same idle others j =
    elim (cases_eq j k) [
      | inl eq ↦ rw eq (subst DoesNotRun (sym (life-same w k life e (omega arith))) idle)
      | inr ne ↦ subst DoesNotRun (sym (life-other w k j life e ne)) (others j ne)
    ]

-- calls are pending at first
push_none : (lives : List Life) → ((k : ℕ) → (get_or lives k no_life).status ≢ status.Running) → (k : ℕ) → (get_or (lives ++ pending ∷ []) k no_life).status ≢ status.Running
push_none [] none zero = λ h. cc
push_none [] none (suc k) = λ h. cc
push_none (life ∷ lives) none zero = none zero
push_none (life ∷ lives) none (suc k) = push_none lives (λ j. none (suc j)) k

submits_none : (w : Known) (cs : List Call) → NoneRuns w → NoneRuns (all_submitted w cs)
submits_none w [] none = none
submits_none w (c ∷ cs) none = submits_none (submitted w c) cs (push_none w.lives none)

pub script-runs-none : (w : Known) → NoneRuns w → NoneRuns (script_step w).1
script-runs-none w none = by_ending w.ending
  where
    by_arrived : (p : Path) (a : Bool) → NoneRuns (unsettled_step w p a).1
    by_arrived p true = none
    by_arrived p false = none

    by_outcome : (p : Path) (r : Option Outcome) → NoneRuns (outcome_step w p r).1
    by_outcome p None = by_arrived p w.arrived
    by_outcome p (Some outcome) = none

    by_path : (ps : List Path) → NoneRuns (wait_step w ps).1
    by_path [] = none
    by_path (p ∷ ps) = by_outcome p (outcome_at (known w) p)

    by_request : (wanted : Request) → NoneRuns (request_step w wanted).1
    by_request (request.Call app arguments names) = push_none w.lives none
    by_request (request.WaitValue f) = by_path (path_in (out-Value f))
    by_request (request.WaitName f) = by_path (path_in (out-Value f))
    by_request (request.Print value) = none
    by_request request.Checkpoint = none

    by_act : (a : Act Done) → NoneRuns (act_step w a).1
    by_act (Give d) = none
    by_act (Throw exception) = none
    by_act (Ask wanted go) = by_request wanted

    by_ending : (e : Option Ending) → NoneRuns (unless_ended e w (act_step w (main_left w))).1
    by_ending None = by_act (main_left w)
    by_ending (Some e) = none

settled_none : (w : Known) (k : ℕ) (outcome : Outcome) → k < length w.calls → length w.lives ≡ length w.calls → NoneRuns w → NoneRuns (settled_as w k outcome)
settled_none w k outcome within same none =
    put_none w k _ (entry.Settled (path_at w k) (status_of outcome)) within same (by-state (λ s. s ≢ status.Running) (λ h. cc) (λ h. cc) (λ h. cc) outcome) (λ j ne. none j)

pub callback-runs-none : (w v : Known) → length w.lives ≡ length w.calls → CarriesOut w v → NoneRuns w → NoneRuns v
callback-runs-none w v same (begins k callback after) none = subst NoneRuns (sym after) (by_begin (begin_at w k))
  where
    within : k < length w.calls
    within = status-within w same k (λ h. absurd (let is = callback.pending in cc))

    by_saved : (r : Option Saved) → NoneRuns (attempted w k r)
    by_saved None = put_none w k _ (entry.Launch (path_at w k) ((life_at w k).attempts + 1)) within same (λ h. cc) (λ j ne. none j)
    by_saved (Some saved) = put_none (hit w k) k _ (entry.Settled (path_at w k) status.MemoDone) within same (λ h. cc) (λ j ne. none j)

    by_begin : (b : Begin) → NoneRuns (carried_out w k b)
    by_begin (Fails exception) = settled_none w k (o.Failed exception) within same none
    by_begin (Attempts app values) = by_saved (saved_at w k)
    by_begin (Joins app values) = submits_none (joining w k (join_dry (apps_in w) (path_at w k) app values)) (join_dry (apps_in w) (path_at w k) app values).1 (put_none w k _ (entry.JoinRun (path_at w k)) within same (λ h. cc) (λ j ne. none j))
callback-runs-none w v same (ends k is after) none = subst NoneRuns (sym after) (settled_none w k _ (status-within w same k (λ h. absurd (let at = is.joining in cc))) same none)

pub finish-runs-none : (w : Known) (k : ℕ) (outcome : Outcome) → length w.lives ≡ length w.calls → status_at w k ≡ status.Launched → NoneRuns w → NoneRuns (finished (started w k) k outcome)
finish-runs-none w k outcome same is none =
    let within = status-within w same k (λ h. absurd (cc)) in
    put_none (started w k) k _ (entry.Ended (path_at w k) (life_at (started w k) k).attempts 1 (word_of outcome)) within (length-set w.lives k _ ∙ same) (λ h. cc)
    (λ j ne. subst DoesNotRun (sym (life-other w k j _ (entry.Start (path_at w k) (life_at w k).attempts 1) ne)) (none j))

pub store-runs-none : (w v : Known) (did : Bool) → StoreTurn w did v → NoneRuns w → NoneRuns v
store-runs-none w v true did none = subst NoneRuns (sym did.after) none
store-runs-none w v false did none = subst NoneRuns (sym did.1) none

pub settle-runs-none : (w v : Known) (did : Bool) → length w.lives ≡ length w.calls → SettleTurn w did v → NoneRuns w → NoneRuns v
settle-runs-none w v true same did none = subst NoneRuns (sym did.after) (settled_none w did.task did.outcome (status-within w same did.task (λ h. absurd (let at = did.ready.over in cc))) same none)
settle-runs-none w v false same did none = subst NoneRuns (sym did.1) none

pub end-runs-none : (w v : Known) (did : Bool) → EndTurn w did v → NoneRuns w → NoneRuns v
end-runs-none w v true did none = subst NoneRuns (sym did.1) none
end-runs-none w v false did none = subst NoneRuns (sym did.1) none
