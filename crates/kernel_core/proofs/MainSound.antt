-- What main's acts keep: what is known stays sound.
use Rattle.std.proofs.Common.{◌≡◌, ℕ, ◌+◌, ◌-◌, ◌^◌, ◌<◌, ◌≤◌, min, List, [], ◌∷◌, length, Some, None, sym, ◌∙◌, ap, subst, arith}
use Rattle.flow_base.specs.declared.value.Value.{Value, out-Value}
use Rattle.flow_base.specs.declared.outcome.Ending.{Ending}
use Rattle.flow_base.specs.declared.outcome.Outcome.{Outcome}
use Rattle.flow_base.specs.Values.{units}
use Rattle.flow_meaning.specs.declared.walk.Request.{Request}
use Rattle.flow_meaning.specs.declared.walk.Request.TheVariants as request
use Rattle.flow_meaning.specs.declared.walk.Answer.{Answer}
use Rattle.flow_meaning.specs.declared.walk.Answer.TheVariants as answer
use Rattle.flow_meaning.specs.Inputs.{Path, path_in}
use Rattle.flow_meaning.specs.Operators.{Text}
use Rattle.flow_meaning.specs.Sequential.{MainAct, outcome_at}
use Rattle.call_rules.specs.Calls.{Call}
use Rattle.stored_units.specs.declared.units.Limit.TheVariants as limit
use Rattle.stored_units.specs.Stored.{max_tasks, max_stored}
use Rattle.kernel_model.specs.Known.{Known, path_at, settled_outcome, known}
use Rattle.kernel_model.specs.Acts.{call_of as next_call, answered, called, waited, printed, checkpointed, arrived_at, main_ended}
use Rattle.kernel_model.specs.Conditions.{MainAsks, CanEndMain}
use Rattle.kernel_model.specs.Invariants.{Inv}
use Rattle.kernel_model.specs.Limits.{stored, passed, units_of_call}
use Rattle.kernel_model.proofs.Counting.{stored-called, stored-printed, stored-unprinted, stored-waited, stored-checkpointed, calls-called}
use Rattle.kernel_model.proofs.KeepingMain.{keep-called, keep-printed, keep-checkpointed, keep-waited-value, keep-waited-name, keep-unwaited-value, keep-unwaited-name, keep-arrived, keep-main-ended}
use Rattle.kernel_model.proofs.Passing.{passed-none, passed-tasks, passed-stored}
use Rattle.kernel_model.proofs.Places.{known-at}
use Rattle.kernel_core.specs.MainTurns.{waited_for, WaitsFor, AddsCall}
use Rattle.kernel_core.specs.Views.{IsFact}

-- ---- limits

-- a number of units that fits is no cut one
pub units-fit : (kept n most : ℕ) → n ≡ min most (2 ^ 64 - 1) → n ≤ max_stored - kept → kept ≤ max_stored → (n ≡ most) × (kept + n ≤ max_stored)
units-fit kept n most is fits within = (omega arith, omega arith)

-- one that doesn't fit is past the limit
pub units-past : (kept n most : ℕ) → n ≡ min most (2 ^ 64 - 1) → max_stored - kept < n → kept ≤ max_stored → max_stored < kept + most
units-past kept n most is past within = omega arith

pub fact-stored : (w : Known) → IsFact w → stored w ≤ max_stored
fact-stored w f = ((passed-none w).0 f.within).1

pub fact-calls : (w : Known) → IsFact w → length w.calls ≤ max_tasks
fact-calls w f = ((passed-none w).0 f.within).0

pub within-from : (v : Known) → length v.calls ≤ max_tasks → stored v ≤ max_stored → passed v ≡ None
within-from v calls units = (passed-none v).1 (calls, units)

-- ---- facts

fact-answered : (w : Known) (a : Answer) (acts : List MainAct) → IsFact w → Inv (answered w a acts) → stored (answered w a acts) ≤ max_stored → IsFact (answered w a acts)
fact-answered w a acts f inv small = record { inv = inv; few_apps = f.few_apps; within = within-from (answered w a acts) (fact-calls w f) small }

pub fact-printed : (w : Known) (value : Value) → IsFact w → MainAsks w (request.Print value) → stored w + units value ≤ max_stored → IsFact (printed w value)
fact-printed w value f asks small = fact-answered w answer.Go _ f (keep-printed w value f.inv asks) (subst (λ (n : ℕ). n ≤ max_stored) (sym (stored-printed w value)) small)

pub fact-checkpointed : (w : Known) → IsFact w → MainAsks w request.Checkpoint → IsFact (checkpointed w)
fact-checkpointed w f asks = fact-answered w answer.Go _ f (keep-checkpointed w f.inv asks) (subst (λ (n : ℕ). n ≤ max_stored) (sym (stored-checkpointed w)) (fact-stored w f))

pub fact-waited : (w : Known) (k : ℕ) (outcome : Outcome) → IsFact w → WaitsFor w k → settled_outcome w k ≡ Some outcome → IsFact (waited w (path_at w k) outcome)
fact-waited w k outcome f h settled = fact-answered w (answer.Outcome outcome) _ f (by_request h.at.wanted h.at.asks h.at.waits) (subst (λ (n : ℕ). n ≤ max_stored) (sym (stored-waited w (path_at w k) outcome)) (fact-stored w f))
  where
    there : outcome_at (known w) (path_at w k) ≡ Some outcome
    there = known-at w f.inv.holds.tracks k h.within ∙ settled

    by_request : (wanted : Request) → MainAsks w wanted → waited_for wanted ≡ Some h.future → Inv (waited w (path_at w k) outcome)
    by_request (request.WaitValue g) asks is = keep-waited-value w g (path_at w k) [] outcome f.inv asks (let same : g ≡ h.future = cc in ap (λ (v : Value). path_in (out-Value v)) same ∙ h.path) there
    by_request (request.WaitName g) asks is = keep-waited-name w g (path_at w k) [] outcome f.inv asks (let same : g ≡ h.future = cc in ap (λ (v : Value). path_in (out-Value v)) same ∙ h.path) there
    by_request other asks is = absurd (cc)

pub fact-arrived : (w : Known) → IsFact w → IsFact (arrived_at w)
fact-arrived w f = record { inv = keep-arrived w f.inv; few_apps = f.few_apps; within = f.within }

pub fact-main-ended : (w : Known) (ending : Ending) → IsFact w → CanEndMain w ending → IsFact (main_ended w ending)
fact-main-ended w ending f can = record { inv = keep-main-ended w ending f.inv can; few_apps = f.few_apps; within = f.within }

-- ---- calls

pub fact-called : (w : Known) (app : ℕ) (arguments : List Value) (names : List Text) (path : Path) (n : ℕ) → IsFact w → MainAsks w (request.Call app arguments names) → AddsCall w (next_call w app arguments names) path n → IsFact (called w (next_call w app arguments names))
fact-called w app arguments names path n f asks adds =
    let c : Call = next_call w app arguments names in
    let count : length (called w c).calls ≡ length w.calls + 1 = calls-called w c in
    let total : stored (called w c) ≡ stored w + n = stored-called w c ∙ ap (λ (m : ℕ). stored w + m) (sym adds.units_are) in
    record {
      inv = keep-called w app arguments names f.inv asks;
      few_apps = f.few_apps;
      within = within-from (called w c) (few (length w.calls) (length (called w c).calls) count adds.few) (subst (λ (m : ℕ). m ≤ max_stored) (sym total) adds.small);
    }
  where
    few : (n m : ℕ) → m ≡ n + 1 → n < max_tasks → m ≤ max_tasks
    few n m is less = omega arith

-- where all calls are taken
pub past-tasks : (w : Known) (c : Call) → max_tasks ≤ length w.calls → passed (called w c) ≡ Some limit.Tasks
past-tasks w c many = (passed-tasks (called w c)).1 (more (length w.calls) (length (called w c).calls) (calls-called w c) many)
  where
    more : (n m : ℕ) → m ≡ n + 1 → max_tasks ≤ n → max_tasks < m
    more n m is many = omega arith

-- where the units of the call don't fit
pub past-store : (w : Known) (c : Call) → length w.calls < max_tasks → max_stored < stored w + units_of_call c → passed (called w c) ≡ Some limit.Stored
past-store w c few large = (passed-stored (called w c)).1 (more (length w.calls) (length (called w c).calls) (calls-called w c) few, subst (λ (m : ℕ). max_stored < m) (sym (stored-called w c)) large)
  where
    more : (n m : ℕ) → m ≡ n + 1 → n < max_tasks → m ≤ max_tasks
    more n m is less = omega arith

-- where the units of a value don't
pub past-print : (w : Known) (value : Value) → IsFact w → max_stored < stored w + units value → passed (printed w value) ≡ Some limit.Stored
past-print w value f large = (passed-stored (printed w value)).1 (fact-calls w f, subst (λ (m : ℕ). max_stored < m) (sym (stored-printed w value)) large)
