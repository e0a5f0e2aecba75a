-- What the turns of tasks do.
use Rattle.std.proofs.Common.{◌≡◌, ℕ, ◌+◌, ◌<◌, ◌≤◌, inl, inr, Bool, true, false, List, length, Option, Some, None, refl, sym, ◌∙◌, ap, subst, arith}
use Rattle.std.specs.Prelude.{IsSome, if◌then◌else◌, slice_get}
use Rattle.std.proofs.lemmas.Bool.{cases_lt}
use Rattle.flow_base.specs.declared.value.Value.{Value}
use Rattle.flow_base.specs.declared.outcome.Exception.{Exception}
use Rattle.flow_base.specs.declared.outcome.Exception.TheVariants as x
use Rattle.flow_base.specs.declared.outcome.Outcome.{Outcome}
use Rattle.flow_base.specs.declared.outcome.Outcome.TheVariants as o
use Rattle.script_tree.specs.declared.tree.AppDef.{AppDef}
use Rattle.task_record.specs.declared.status.Status.TheVariants as status
use Rattle.flow_meaning.specs.Sequential.{apply, resolved, outcome_of}
use Rattle.flow_meaning.specs.Evaluations.{no_losses}
use Rattle.flow_meaning.specs.Inputs.{Path}
use Rattle.dependency_graph.specs.declared.readiness.Readiness.{Readiness}
use Rattle.dependency_graph.specs.declared.readiness.Readiness.TheVariants as readiness
use Rattle.dependency_graph.specs.Readiness.{ready}
use Rattle.call_rules.specs.Calls.{Fails, Attempts, begin_ready, begin_join, has_room, call_outcome, outcome_with}
use Rattle.call_rules.proofs.Agreeing.{begin-attempts, runs-on}
use Rattle.compiled_script.specs.Programs.{IsPlainApp}
use Rattle.kernel_model.specs.declared.answers.Refusal.{Refusal}
use Rattle.kernel_model.specs.declared.answers.Refusal.TheVariants.{NoMemory, TaskLimit, StoreLimit}
use Rattle.kernel_model.specs.Jobs.{JobView, DoneView}
use Rattle.kernel_model.specs.Known.{Known, call_at, path_at, life_at, status_at, known, begin_at, saved_at, apps_in, has_ended}
use Rattle.kernel_model.specs.Invariants.{HasRun, IsReached, Inv}
use Rattle.kernel_model.specs.Acts.{settled_as, launched}
use Rattle.kernel_model.specs.Limits.{IsRefusedFor}
use Rattle.kernel_model.specs.Turns.{IsCallback, IsJoinDone, attempted as attempted_with, carried_out, CarriesOut, begins, ends, Settles, IsEndOf, IsRunning, body_end, job_of}
use Rattle.kernel_model.specs.Conditions.{CanFinish}
use Rattle.kernel_model.proofs.Places.{run-within}
use Rattle.kernel_core.specs.declared.beginning.Beginning.{Beginning}
use Rattle.kernel_core.specs.declared.beginning.Beginning.TheVariants as beginning
use Rattle.kernel_core.specs.declared.task.Task.{Task}
use Rattle.kernel_core.specs.Jobs.{FitsApps}
use Rattle.kernel_core.specs.Joins.{JoinEnds}
use Rattle.kernel_core.specs.Memo.{IsKeptTask}
use Rattle.kernel_core.specs.Views.{IsFact}
use Rattle.kernel_core.specs.Turned.{NoJoinDone, beginning_of, IsAttempt, BeginsWith}
use Rattle.kernel_core.proofs.RunReadings.{Shows, begun-within}

pub fact-is : (v w : Known) → v ≡ w → IsFact v → IsFact w
fact-is v w e fact = subst IsFact e fact

-- ---- how a call begins

-- by its app, and whether its path has room
begins_so : (w : Known) (k : ℕ) (app : AppDef) (values : List Value) (join room : Bool) → begin_at w k ≡ (if join then begin_join room app values else Attempts app values)
    → BeginsWith w k (if join then (if room then beginning.Joins values else beginning.Fails x.DepthError) else beginning.Attempts values)
begins_so w k app values true true is = record { app = app; begins = is }
begins_so w k app values true false is = is
begins_so w k app values false room is = record { app = app; begins = is }

begins_with : (w : Known) (k : ℕ) (app : Option AppDef) (r : Readiness) → begin_at w k ≡ begin_ready (path_at w k) app r → BeginsWith w k (beginning_of app (has_room (path_at w k)) r)
begins_with w k app (readiness.Settles exception) is = is
begins_with w k None (readiness.Runs values) is = is
begins_with w k (Some app) (readiness.Runs values) is = begins_so w k app values app.join (has_room (path_at w k)) is

pub begins-with : (w : Known) (k : ℕ) (app : Option AppDef) (room : Bool) (r : Readiness) (answer : Beginning) → slice_get (apps_in w) (call_at w k).app ≡ app → room ≡ has_room (path_at w k) → r ≡ ready (known w) (call_at w k).arguments → answer ≡ beginning_of app room r → BeginsWith w k answer
begins-with w k app room r answer at roomy is same =
    let begins_as : begin_at w k ≡ begin_ready (path_at w k) app r = ap (λ (a : Option AppDef). begin_ready (path_at w k) a (ready (known w) (call_at w k).arguments)) at ∙ ap (begin_ready (path_at w k) app) (sym is) in
    subst (BeginsWith w k) (sym (same ∙ ap (λ (b : Bool). beginning_of app b r) roomy)) (begins_with w k app r begins_as)

-- ---- callbacks

-- what is refused for one act is refused for any that it may be
pub refused-more : (P Q : Known → Type 0) → ((v : Known) → P v → Q v) → (r : Refusal) → IsRefusedFor P r → IsRefusedFor Q r
refused-more P Q more NoMemory h = tt
refused-more P Q more TaskLimit h = (h.0, more h.0 h.1, h.2)
refused-more P Q more StoreLimit h = (h.0, more h.0 h.1, h.2)

pub begin-refused : (w : Known) (k : ℕ) (r : Refusal) → IsCallback w k → IsRefusedFor (λ v. v ≡ carried_out w k (begin_at w k)) r → IsRefusedFor (CarriesOut w) r
begin-refused w k r is h = refused-more (λ v. v ≡ carried_out w k (begin_at w k)) (CarriesOut w) (λ v after. begins k is after) r h

pub end-refused : (w : Known) (k : ℕ) (r : Refusal) → IsJoinDone w k → IsRefusedFor (JoinEnds w k) r → IsRefusedFor (CarriesOut w) r
end-refused w k r is h = refused-more (JoinEnds w k) (CarriesOut w) (λ v after. ends k is (after is)) r h

pub fails-so : (w v : Known) (k : ℕ) (exception : Exception) → begin_at w k ≡ Fails exception → v ≡ settled_as w k (o.Failed exception) → v ≡ carried_out w k (begin_at w k)
fails-so w v k exception begin after = after ∙ sym (ap (carried_out w k) begin)

pub launches-so : (w v : Known) (k : ℕ) (values : List Value) → IsAttempt w k values → saved_at w k ≡ None → v ≡ launched w k → v ≡ carried_out w k (begin_at w k)
launches-so w v k values a none after = after ∙ sym (ap (attempted_with w k) none) ∙ sym (ap (carried_out w k) a.begins)

-- ---- joins that are done

pub none-done : (w : Known) (ts : List Task) (n : ℕ) → Shows w ts → length ts ≤ n → ((k : ℕ) → k < n → IsJoinDone w k → ⊥) → NoJoinDone w
none-done w ts n s all none k is =
    let within : k < length ts = begun-within w ts k s (λ e. let joining = is.joining in cc) in
    none k (omega (arith, within, all)) is

pub done-from : (w : Known) (j : ℕ) → ((k : ℕ) → k < j → IsJoinDone w k → ⊥) → (IsJoinDone w j → ⊥) → (k : ℕ) → k < j + 1 → IsJoinDone w k → ⊥
done-from w j none next k below is =
    elim (cases_lt k j) [
      | inl before ↦ none k before is
      | inr from ↦ next (let same : k ≡ j = omega (arith, below, from) in subst (IsJoinDone w) same is)
    ]

-- ---- jobs

-- what is attempted is of an app of the script, on the values of its inputs
record Attempted (w : Known) (k : ℕ) : Type 0 where
  app : AppDef
  values : List Value
  begins : begin_at w k ≡ Attempts app values
  there : slice_get (apps_in w) (call_at w k).app ≡ Some app
  given : values ≡ resolved (known w) (call_at w k).arguments

attempted : (w : Known) (k : ℕ) → Inv w → HasRun (status_at w k) → Attempted w k
attempted w k inv run =
    let a = inv.holds.runs.attempted k run in
    let ready = begin-attempts (apps_in w) (known w) (call_at w k) a.app a.values a.begins in
    record { app = a.app; values = a.values; begins = a.begins; there = ready.1; given = (runs-on (known w) (call_at w k).arguments a.values ready.0).are }

-- what is attempted is no join's body
plain_by : (path : Path) (app : Option AppDef) (r : Readiness) (a : AppDef) (values : List Value) → begin_ready path app r ≡ Attempts a values → IsPlainApp app
plain_by path app (readiness.Settles exception) a values is = absurd (cc)
plain_by path None (readiness.Runs given) a values is = absurd (cc)
plain_by path (Some app) (readiness.Runs given) a values is = by_join app.join (has_room path) is
  where
    by_join : (join room : Bool) → (if join then begin_join room app given else Attempts app given) ≡ Attempts a values → join ≡ false
    by_join true true is = absurd (cc)
    by_join true false is = absurd (cc)
    by_join false room is = refl

-- the job of an attempt that waits is of an app of the script, and of no join
pub fits-apps : (w : Known) (k : ℕ) (job : JobView) → Inv w → status_at w k ≡ status.Launched → job ≡ job_of w k → FitsApps (apps_in w) job
fits-apps w k job inv waits is =
    let a = attempted w k inv (subst HasRun (sym waits) tt) in
    let plain : IsPlainApp (slice_get (apps_in w) (call_at w k).app)
    = plain_by (path_at w k) (slice_get (apps_in w) (call_at w k).app) (ready (known w) (call_at w k).arguments) a.app a.values a.begins in
    subst (FitsApps (apps_in w)) (sym is) plain

-- the end of the job of a running attempt is what its body gives
pub can-finish : (w : Known) (done : DoneView) (k : ℕ) → Inv w → has_ended w ≡ false → IsEndOf (apps_in w) done → IsRunning w done.job k → CanFinish w k (outcome_of done.ended)
can-finish w done k inv going end runs =
    let a = attempted w k inv (subst HasRun (sym runs.running) tt) in
    let job : done.ended ≡ body_end (slice_get (apps_in w) (call_at w k).app) (resolved (known w) (call_at w k).arguments) (call_at w k).names
    = end ∙ ap (λ (job : JobView). body_end (slice_get (apps_in w) job.app) job.arguments job.names) runs.is in
    let gives : done.ended ≡ apply a.app a.values (call_at w k).names
    = job ∙ ap (λ (app : Option AppDef). body_end app (resolved (known w) (call_at w k).arguments) (call_at w k).names) a.there
    ∙ ap (λ (values : List Value). apply a.app values (call_at w k).names) (sym a.given) in
    let rule : call_outcome (apps_in w) no_losses (known w) (call_at w k) ≡ outcome_of (apply a.app a.values (call_at w k).names)
    = ap (outcome_with (apps_in w) no_losses (known w) (call_at w k)) a.begins in
    record { not_ended = going; running = runs.running; is = ap outcome_of gives ∙ sym rule }

-- ---- settling

settles_with : (w v : Known) (k : ℕ) (end : Option Outcome) → (life_at w k).end ≡ end → IsSome end → status_at w k ≡ status.RunningEnded → IsKeptTask w k → ((outcome : Outcome) → (life_at w k).end ≡ Some outcome → v ≡ settled_as w k outcome) → Settles w v
settles_with w v k None e some is kept after = absurd (cc)
settles_with w v k (Some outcome) e some is kept after = record { task = k; outcome = outcome; ready = record { over = is; is = e; kept = kept outcome e }; after = after outcome e }

-- an attempt that is over has an end
over_end : (w : Known) (k : ℕ) → Inv w → status_at w k ≡ status.RunningEnded → IsSome (life_at w k).end
over_end w k inv is =
    let within = run-within w inv.holds.tracks.lives k (subst HasRun (sym is) tt) in
    let reached : IsReached (life_at w k) status.RunningEnded = subst (IsReached (life_at w k)) is (inv.holds.tracks.lived k within).reached in
    reached.0

pub settles-one : (w v : Known) (k : ℕ) → Inv w → status_at w k ≡ status.RunningEnded → IsKeptTask w k → ((outcome : Outcome) → (life_at w k).end ≡ Some outcome → v ≡ settled_as w k outcome) → Settles w v
settles-one w v k inv is kept after = settles_with w v k (life_at w k).end refl (over_end w k inv is) is kept after
