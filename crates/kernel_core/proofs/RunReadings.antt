-- What a run's tasks say of what it knows.
use Rattle.std.proofs.Common.{◌≡◌, ◌≢◌, ℕ, zero, suc, ◌+◌, ◌<◌, ◌≤◌, inl, inr, Bool, true, false, List, [], ◌∷◌, length, map, Option, Some, None, get_or, Bor, refl, sym, ◌∙◌, ap, subst, arith}
use Rattle.std.specs.Prelude.{is_some, IsSome, IsTrue, ◌↔◌, if◌then◌else◌, slice_get}
use Rattle.std.specs.List.{list_all}
use Rattle.std.specs.Option.{option_copied}
use Rattle.std.specs.Slice.{IsItemAt}
use Rattle.std.proofs.lemmas.Option.{slice_get_past, slice_get_read}
use Rattle.std.proofs.lemmas.Bool.{and_parts, and_from, false≢true, cases_lt}
use Rattle.flow_base.specs.declared.value.Value.{Value}
use Rattle.flow_base.specs.declared.outcome.Outcome.{Outcome}
use Rattle.flow_meaning.specs.Inputs.{Path, inputs}
use Rattle.flow_meaning.specs.Operators.{Text}
use Rattle.flow_meaning.specs.Sequential.{Tasks, outcome_at, resolved}
use Rattle.dependency_graph.specs.Readiness.{ready}
use Rattle.call_rules.specs.Calls.{Call}
use Rattle.call_rules.specs.Groups.{AllKnown}
use Rattle.task_record.specs.declared.status.Status.{Status}
use Rattle.task_record.specs.declared.status.Status.TheVariants as status
use Rattle.task_record.specs.States.{is_settled}
use Rattle.kernel_model.specs.Known.{Known, Life, no_life, no_call, known, call_at, path_at, life_at, status_at, settled_outcome, inputs_at}
use Rattle.kernel_model.specs.Invariants.{IsReached, Tracks, Inv}
use Rattle.kernel_model.specs.Turns.{IsCallback, IsRunning, job_of}
use Rattle.kernel_model.specs.Jobs.{JobView}
use Rattle.kernel_model.proofs.Places.{status-within}
use Rattle.kernel_core.specs.declared.task.Task.{Task}
use Rattle.kernel_core.specs.Tasks.{call_of, life_of, IsIn, NoneIn}
use Rattle.kernel_core.specs.Turned.{AllSettled, NoCallback, NoJob, IsPlaceOf, IsNowhere}

-- ---- lists of tasks

same_length : (ts : List Task) → length (map life_of ts) ≡ length (map call_of ts)
same_length [] = refl
same_length (t ∷ ts) = ap suc (same_length ts)

as_many_calls : (ts : List Task) → length (map call_of ts) ≡ length ts
as_many_calls [] = refl
as_many_calls (t ∷ ts) = ap suc (as_many_calls ts)

life_read : (ts : List Task) (k : ℕ) (t : Task) → k < length ts → t ≡ get_or ts k t → get_or (map life_of ts) k no_life ≡ life_of t
life_read [] k t within is = absurd (omega arith)
life_read (u ∷ ts) zero t within is = ap life_of (sym is)
life_read (u ∷ ts) (suc k) t within is = life_read ts k t (omega arith) is

call_read : (ts : List Task) (k : ℕ) (t : Task) → k < length ts → t ≡ get_or ts k t → get_or (map call_of ts) k no_call ≡ call_of t
call_read [] k t within is = absurd (omega arith)
call_read (u ∷ ts) zero t within is = ap call_of (sym is)
call_read (u ∷ ts) (suc k) t within is = call_read ts k t (omega arith) is

task_at : (ts : List Task) (k : ℕ) → k < length ts → (t : Task) × (t ≡ get_or ts k t)
task_at [] k within = absurd (omega arith)
task_at (t ∷ ts) zero within = (t, refl)
task_at (t ∷ ts) (suc k) within = task_at ts k (omega arith)

-- ---- a run with these tasks

pub record Shows (w : Known) (ts : List Task) : Type 0 where
  pub calls : w.calls ≡ map call_of ts
  pub lives : w.lives ≡ map life_of ts

pub shows : (v w : Known) (ts : List Task) → v ≡ w → v.calls ≡ map call_of ts → v.lives ≡ map life_of ts → Shows w ts
shows v w ts e calls lives = record { calls = sym (ap (λ (u : Known). u.calls) e) ∙ calls; lives = sym (ap (λ (u : Known). u.lives) e) ∙ lives }

pub life-is : (w : Known) (ts : List Task) (k : ℕ) (t : Task) → Shows w ts → k < length ts → t ≡ get_or ts k t → life_at w k ≡ life_of t
life-is w ts k t s within is = ap (λ (lives : List Life). get_or lives k no_life) s.lives ∙ life_read ts k t within is

pub call-is : (w : Known) (ts : List Task) (k : ℕ) (t : Task) → Shows w ts → k < length ts → t ≡ get_or ts k t → call_at w k ≡ call_of t
call-is w ts k t s within is = ap (λ (calls : List Call). get_or calls k no_call) s.calls ∙ call_read ts k t within is

pub call-within : (w : Known) (ts : List Task) (k : ℕ) → Shows w ts → k < length w.calls → k < length ts
call-within w ts k s within =
    let as_many : length w.calls ≡ length ts = ap length s.calls ∙ as_many_calls ts in
    omega (arith, within, as_many)

pub task-within : (w : Known) (ts : List Task) (k : ℕ) → Shows w ts → k < length ts → k < length w.calls
task-within w ts k s within =
    let as_many : length w.calls ≡ length ts = ap length s.calls ∙ as_many_calls ts in
    omega (arith, within, as_many)

pub begun-within : (w : Known) (ts : List Task) (k : ℕ) → Shows w ts → status_at w k ≢ status.Unsched → k < length ts
begun-within w ts k s begun =
    let same : length w.lives ≡ length w.calls = rw (s.calls, s.lives) (same_length ts) in
    call-within w ts k s (status-within w same k begun)

pub pending-within : (w : Known) (ts : List Task) (k : ℕ) → Shows w ts → status_at w k ≡ status.Pending → k < length ts
pending-within w ts k s pending = begun-within w ts k s (λ e. cc)

-- ---- states of tasks

life_in : (ts : List Task) (k : ℕ) (t : Task) → slice_get ts k ≡ Some t → get_or (map life_of ts) k no_life ≡ life_of t
life_in [] k t h = absurd (cc)
life_in (u ∷ ts) zero t h = let same : u ≡ t = cc in ap life_of same
life_in (u ∷ ts) (suc k) t h = life_in ts k t h

-- a state that a task is in is that of the run
pub status-seen : (w : Known) (ts us : List Task) (s : Status) (k : ℕ) → Shows w ts → us ≡ ts → IsIn us s k → status_at w k ≡ s
status-seen w ts us s k shown same is =
    let there : slice_get ts k ≡ Some is.task = ap (λ (vs : List Task). slice_get vs k) (sym same) ∙ is.there in
    ap (λ (ls : List Life). (get_or ls k no_life).status) shown.lives ∙ ap (λ (life : Life). life.status) (life_in ts k is.task there) ∙ is.state

not_in : (ts : List Task) (s : Status) (k : ℕ) → s ≢ status.Unsched → NoneIn ts s → (get_or (map life_of ts) k no_life).status ≡ s → ⊥
not_in [] s k other none e = other (sym e)
not_in (t ∷ ts) s zero other none e = none 0 t refl e
not_in (t ∷ ts) s (suc k) other none e = not_in ts s k other (λ j u h. none (suc j) u h) e

-- a state that no task is in is not that of a call
none_seen : (w : Known) (ts us : List Task) (s : Status) → Shows w ts → us ≡ ts → s ≢ status.Unsched → NoneIn us s → (k : ℕ) → status_at w k ≢ s
none_seen w ts us s shown same other none k is =
    let e : (get_or (map life_of ts) k no_life).status ≡ s = subst (λ (ls : List Life). (get_or ls k no_life).status ≡ s) shown.lives is in
    not_in ts s k other (subst (λ (vs : List Task). NoneIn vs s) same none) e

pub none-launched : (w : Known) (ts us : List Task) → Shows w ts → us ≡ ts → NoneIn us status.Launched → (k : ℕ) → status_at w k ≢ status.Launched
none-launched w ts us shown same none = none_seen w ts us status.Launched shown same (λ e. absurd (cc)) none

pub none-over : (w : Known) (ts us : List Task) → Shows w ts → us ≡ ts → NoneIn us status.RunningEnded → (k : ℕ) → status_at w k ≢ status.RunningEnded
none-over w ts us shown same none = none_seen w ts us status.RunningEnded shown same (λ e. absurd (cc)) none

-- ---- callbacks

-- what a read of a slice lends
pub item-read : {X : Type 0} (xs : List X) (i : ℕ) (r : Option (Bor X)) → IsItemAt xs i r → slice_get xs i ≡ option_copied r
item-read xs i None at = slice_get_past xs i at.3
item-read xs i (Some x) at = slice_get_read xs (length xs) i x.now refl at.3.0 at.1

pub readiness-is : (w : Known) (ts : List Task) (found : Tasks) (k : ℕ) (t : Task) (arguments : List Value) → Shows w ts → found ≡ known w → k < length ts → t ≡ get_or ts k t → arguments ≡ t.record.arguments → ready found arguments ≡ ready (known w) (call_at w k).arguments
readiness-is w ts found k t arguments s first within is given =
    let calls = call-is w ts k t s within is in
    let second : arguments ≡ (call_at w k).arguments = given ∙ ap (λ (c : Call). c.arguments) (sym calls) in
    ap (λ (tasks : Tasks). ready tasks arguments) first ∙ ap (ready (known w)) second

all_known : (ts : Tasks) (ps : List Path) → list_all (λ p. is_some (outcome_at ts p)) ps ≡ true → AllKnown ts ps
all_known ts [] h = tt
all_known ts (p ∷ ps) h =
    let both = and_parts (is_some (outcome_at ts p)) (list_all (λ p. is_some (outcome_at ts p)) ps) h in
    (both.0, all_known ts ps both.1)

known_all : (ts : Tasks) (ps : List Path) → AllKnown ts ps → list_all (λ p. is_some (outcome_at ts p)) ps ≡ true
known_all ts [] h = refl
known_all ts (p ∷ ps) h = and_from (is_some (outcome_at ts p)) (list_all (λ p. is_some (outcome_at ts p)) ps) h.0 (known_all ts ps h.1)

pub callback-is : (w : Known) (ts : List Task) (found : Tasks) (k : ℕ) (t : Task) (arguments : List Value) (answer : Bool) → Shows w ts → found ≡ known w → k < length w.calls → t ≡ get_or ts k t → t.record.status ≡ status.Pending → arguments ≡ t.record.arguments
    → answer ≡ list_all (λ p. is_some (outcome_at found p)) (inputs arguments) → IsTrue answer ↔ IsCallback w k
callback-is w ts found k t arguments answer s first within is pending given answers =
    let inside : k < length ts = call-within w ts k s within in
    let lives = life-is w ts k t s inside is in
    let calls = call-is w ts k t s inside is in
    let second : inputs arguments ≡ inputs_at w k = ap inputs (given ∙ ap (λ (c : Call). c.arguments) (sym calls)) in
    let tested : answer ≡ list_all (λ p. is_some (outcome_at (known w) p)) (inputs_at w k) = rw (← first, ← second) answers in (
      (λ yes. record { pending = ap (λ (life : Life). life.status) lives ∙ pending; inputs = all_known (known w) (inputs_at w k) (sym tested ∙ yes) }),
      (λ callback. tested ∙ known_all (known w) (inputs_at w k) callback.inputs),
    )

-- no callback among the tasks is none at all
pub none-before : (w : Known) (ts : List Task) (n : ℕ) → Shows w ts → length ts ≤ n → ((k : ℕ) → k < n → IsCallback w k → ⊥) → NoCallback w
none-before w ts n s all none k is =
    let within : k < length ts = pending-within w ts k s is.pending in
    none k (omega (arith, within, all)) is

pub none-from : (w : Known) (j : ℕ) → ((k : ℕ) → k < j → IsCallback w k → ⊥) → (IsCallback w j → ⊥) → (k : ℕ) → k < j + 1 → IsCallback w k → ⊥
none-from w j none next k below is =
    elim (cases_lt k j) [
      | inl before ↦ none k before is
      | inr from ↦ next (let same : k ≡ j = omega (arith, below, from) in subst (IsCallback w) same is)
    ]

-- ---- jobs

abbrev job_with : Path → ℕ → ℕ → ℕ → List Value → List Text → JobView
job_with path attempt manager app arguments names = record { path = path; attempt = attempt; manager = manager; app = app; arguments = arguments; names = names }

same_job : (i j : JobView) → i.path ≡ j.path → i.attempt ≡ j.attempt → i.manager ≡ j.manager → i.app ≡ j.app → i.arguments ≡ j.arguments → i.names ≡ j.names → i ≡ j
same_job i j path attempt manager app arguments names =
    ap (λ (x : Path). job_with x i.attempt i.manager i.app i.arguments i.names) path
    ∙ ap (λ (x : ℕ). job_with j.path x i.manager i.app i.arguments i.names) attempt
    ∙ ap (λ (x : ℕ). job_with j.path j.attempt x i.app i.arguments i.names) manager
    ∙ ap (λ (x : ℕ). job_with j.path j.attempt j.manager x i.arguments i.names) app
    ∙ ap (λ (x : List Value). job_with j.path j.attempt j.manager j.app x i.names) arguments
    ∙ ap (λ (x : List Text). job_with j.path j.attempt j.manager j.app j.arguments x) names

pub job-is : (w : Known) (ts : List Task) (found : Tasks) (k : ℕ) (t : Task) (arguments : List Value) → Shows w ts → found ≡ known w → status_at w k ≡ status.Launched → t ≡ get_or ts k t → arguments ≡ t.record.arguments
    → record { path = t.record.path; attempt = t.record.attempts; manager = 1; app = t.record.app; arguments = resolved found arguments; names = t.record.names } ≡ job_of w k
job-is w ts found k t arguments s first launched is given =
    let within : k < length ts = begun-within w ts k s (λ e. cc) in
    let calls = call-is w ts k t s within is in
    let lives = life-is w ts k t s within is in
    let second : arguments ≡ (call_at w k).arguments = given ∙ ap (λ (c : Call). c.arguments) (sym calls) in
    let resolves : resolved found arguments ≡ resolved (known w) (call_at w k).arguments = ap (λ (tasks : Tasks). resolved tasks arguments) first ∙ ap (resolved (known w)) second in
    same_job _ (job_of w k) (sym (ap (λ (c : Call). c.path) calls)) (sym (ap (λ (life : Life). life.attempts) lives)) refl (sym (ap (λ (c : Call). c.app) calls)) resolves (sym (ap (λ (c : Call). c.names) calls))

-- a task whose record is that of the job
pub record IsOfJob (w : Known) (t : Task) (job : JobView) (k : ℕ) : Type 0 where
  pub state : t.record.status ≡ status.Running
  pub path : job.path ≡ path_at w k
  pub attempt : t.record.attempts ≡ job.attempt
  pub manager : job.manager ≡ 1
  pub app : t.record.app ≡ job.app
  pub names : t.record.names ≡ job.names

pub running-is : (w : Known) (ts : List Task) (found : Tasks) (k : ℕ) (t : Task) (job : JobView) (arguments values : List Value) (answer : Bool) → Shows w ts → found ≡ known w → k < length w.calls → t ≡ get_or ts k t → IsOfJob w t job k → arguments ≡ t.record.arguments → values ≡ job.arguments
    → IsTrue answer ↔ (resolved found arguments ≡ values) → IsTrue answer ↔ IsRunning w job k
running-is w ts found k t job arguments values answer s first within is of given wanted answers =
    let inside : k < length ts = call-within w ts k s within in
    let lives = life-is w ts k t s inside is in
    let calls = call-is w ts k t s inside is in
    let second : arguments ≡ (call_at w k).arguments = given ∙ ap (λ (c : Call). c.arguments) (sym calls) in
    let resolves : resolved found arguments ≡ resolved (known w) (call_at w k).arguments = ap (λ (tasks : Tasks). resolved tasks arguments) first ∙ ap (resolved (known w)) second in (
      (λ yes. record {
        running = ap (λ (life : Life). life.status) lives ∙ of.state;
        is = same_job job (job_of w k) of.path (sym of.attempt ∙ sym (ap (λ (life : Life). life.attempts) lives)) of.manager (sym of.app ∙ sym (ap (λ (c : Call). c.app) calls)) (sym wanted ∙ sym (answers.0 yes) ∙ resolves) (sym of.names ∙ sym (ap (λ (c : Call). c.names) calls));
      }),
      (λ runs. answers.1 (resolves ∙ sym (ap (λ (j : JobView). j.arguments) runs.is) ∙ sym wanted)),
    )

-- a running task is at the place of its job's path
place_of : (w : Known) (job : JobView) (k : ℕ) → Tracks w → IsRunning w job k → IsPlaceOf w job.path k
place_of w job k tracks runs = record {
  within = status-within w tracks.lives k (λ e. absurd (let is = runs.running in cc));
  is = ap (λ (j : JobView). j.path) (sym runs.is);
}

-- a job of another path is of no call
pub no-place : (w : Known) (job : JobView) → Tracks w → IsNowhere w job.path → NoJob w job
no-place w job tracks none k runs = none k (place_of w job k tracks runs)

-- nor is one whose task doesn't run with it
pub no-job : (w : Known) (job : JobView) (k : ℕ) → Tracks w → IsPlaceOf w job.path k → (IsRunning w job k → ⊥) → NoJob w job
no-job w job k tracks at idle j runs =
    let there = place_of w job j tracks runs in
    let same : j ≡ k = tracks.distinct j k there.within at.within (there.is ∙ sym at.is) in
    idle (subst (IsRunning w job) same runs)

-- ---- settled tasks

settled_some : (life : Life) (s : Status) → IsReached life s → is_settled s ≡ true → IsSome (if is_settled s then life.end else None)
settled_some life status.Unsched reached h = absurd (false≢true h)
settled_some life status.Pending reached h = absurd (false≢true h)
settled_some life status.Launched reached h = absurd (false≢true h)
settled_some life status.Running reached h = absurd (false≢true h)
settled_some life status.RunningEnded reached h = absurd (false≢true h)
settled_some life status.Joining reached h = absurd (false≢true h)
settled_some life status.ExecDone reached h = reached
settled_some life status.MemoDone reached h = reached
settled_some life status.Failed reached h = reached
settled_some life status.DepFail reached h = reached
settled_some life status.FailRetryable reached h = absurd (false≢true h)

some_settled : (t : Bool) (end : Option Outcome) → IsSome (if t then end else None) → t ≡ true
some_settled true end some = refl
some_settled false end some = absurd (false≢true some)

all_at : (p : Task → Bool) (ts : List Task) (k : ℕ) (t : Task) → list_all p ts ≡ true → k < length ts → t ≡ get_or ts k t → p t ≡ true
all_at p [] k t h within is = absurd (omega arith)
all_at p (u ∷ ts) zero t h within is = ap p is ∙ (and_parts (p u) (list_all p ts) h).0
all_at p (u ∷ ts) (suc k) t h within is = all_at p ts k t (and_parts (p u) (list_all p ts) h).1 (omega arith) is

at_all : (p : Task → Bool) (ts : List Task) → ((k : ℕ) (t : Task) → k < length ts → t ≡ get_or ts k t → p t ≡ true) → list_all p ts ≡ true
at_all p [] each = refl
at_all p (t ∷ ts) each = and_from (p t) (list_all p ts) (each 0 t (omega arith) refl) (at_all p ts (λ k u within is. each (suc k) u (omega arith) is))

abbrev is_over : Task → Bool
is_over t = is_settled t.record.status

pub settled-all : (w : Known) (ts us : List Task) (answer : Bool) → Shows w ts → Inv w → us ≡ ts → answer ≡ list_all (λ t. is_settled t.record.status) us → IsTrue answer ↔ AllSettled w
settled-all w ts us answer s inv same answers =
    let tested : answer ≡ list_all is_over ts = rw (← same) answers in (
      (λ yes k within.
          let inside : k < length ts = call-within w ts k s within in
          let found = task_at ts k inside in
          let lives = life-is w ts k found.0 s inside found.1 in
          let over : is_settled (life_at w k).status ≡ true = rw lives (all_at is_over ts k found.0 (sym tested ∙ yes) inside found.1) in
          settled_some (life_at w k) (life_at w k).status (inv.holds.tracks.lived k within).reached over),
      (λ all. tested ∙ at_all is_over ts (λ k t within is.
          let some : IsSome (settled_outcome w k) = all k (task-within w ts k s within) in
          let lives = life-is w ts k t s within is in
          some_settled (is_settled t.record.status) t.end (rw lives at some))),
    )
