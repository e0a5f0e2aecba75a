-- What a round of turns keeps.
use Rattle.std.specs.Prelude.{◌≡◌, ◌≢◌, ◌<◌, ◌^◌, ℕ, Bool, true, false, None}
use Rattle.flow_meaning.specs.Evaluations.{no_losses}
use Rattle.task_record.specs.declared.status.Status.TheVariants as status
use Rattle.call_rules.specs.Calls.{call_outcome}
use Rattle.kernel_model.specs.Known.{Known, apps_in, call_at, known, status_at}
use Rattle.kernel_model.specs.Acts.{started, finished}
use Rattle.kernel_model.specs.Work.{turns_left, NoneRuns}

-- how many entries and answers a run has room for
abbrev pub room : ℕ
room = 2 ^ 64

-- fewer turns are left, no attempt runs, and nothing was refused
pub record Keeps (w v : Known) : Type 0 where
  pub fewer : turns_left room v < turns_left room w
  pub still : NoneRuns v
  pub accepted : v.refusal ≡ None

-- an attempt that waited is started, and ends as its task's outcome says
pub record AttemptsTask (w v : Known) : Type 0 where
  pub task : ℕ
  pub waiting : status_at w task ≡ status.Launched
  pub after : v ≡ finished (started w task) task (call_outcome (apps_in w) no_losses (known w) (call_at w task))

abbrev pub AttemptTurn : Known → Bool → Known → Type 0
AttemptTurn w true v = AttemptsTask w v
AttemptTurn w false v = ((k : ℕ) → status_at w k ≢ status.Launched) × (v ≡ w)
