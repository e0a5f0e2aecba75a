-- What the records of tasks and of main's steps mean.
use Rattle.std.specs.Prelude.{◌≡◌, ◌≢◌, ℕ, ◌+◌, ◌<◌, List, [], ◌∷◌, length, map, Option, Some, IsSome, option_map, slice_get}
use Rattle.std.proofs.Common.{get_or}
use Rattle.flow_meaning.specs.declared.walk.Answer.{Answer}
use Rattle.flow_meaning.specs.declared.walk.Answer.TheVariants as answer
use Rattle.flow_meaning.specs.Inputs.{Path}
use Rattle.flow_meaning.specs.Sequential.{Task as TaskOf, Tasks, MainAct, Calls, Waits, Prints, Checkpoints, outcome_answer}
use Rattle.task_record.specs.declared.status.Status.{Status}
use Rattle.task_record.specs.declared.status.Status.TheVariants as status
use Rattle.dependency_graph.specs.Places.{settled_by}
use Rattle.call_rules.specs.Calls.{Call, task_of}
use Rattle.join_apps.specs.Bodies.{result_of}
use Rattle.kernel_model.specs.Known.{Life, no_call, no_life, outcome_in}
use Rattle.kernel_model.specs.Acts.{future_of}
use Rattle.kernel_core.specs.declared.task.Task.{Task}
use Rattle.kernel_core.specs.declared.run_state.MainStep.{MainStep}
use Rattle.kernel_core.specs.declared.run_state.MainStep.TheVariants as step

abbrev pub call_of : Task → Call
call_of t = record { path = t.record.path; app = t.record.app; arguments = t.record.arguments; names = t.record.names }

abbrev pub life_of : Task → Life
life_of t = record { status = t.record.status; attempts = t.record.attempts; cost = t.record.cost; end = t.end; ran = option_map result_of t.ran }

-- the task with its outcome, once it is settled
abbrev pub settled_task : Task → Option TaskOf
settled_task t = option_map (task_of (call_of t)) (outcome_in (life_of t))

-- the settled ones with their outcomes, each with the path that stands at its place
abbrev pub tasks_by : List Path → List Task → Tasks
tasks_by paths ts = settled_by paths (map settled_task ts)

-- the task of this number is in this state
pub record IsIn (ts : List Task) (s : Status) (k : ℕ) : Type 0 where
  pub task : Task
  pub there : slice_get ts k ≡ Some task
  pub within : k < length ts
  pub state : task.record.status ≡ s

-- no task is
abbrev pub NoneIn : List Task → Status → Type 0
NoneIn ts s = (k : ℕ) (t : Task) → slice_get ts k ≡ Some t → t.record.status ≢ s

-- ---- main

-- the answer that main was given
abbrev pub answer_of : List Call → List Life → MainStep → Answer
answer_of cs lives (step.Call k) = answer.Called (future_of (get_or cs k no_call))
answer_of cs lives (step.Wait k) = outcome_answer (outcome_in (get_or lives k no_life))
answer_of cs lives _ = answer.Go

-- what main did then
abbrev pub acts_of : List Call → MainStep → List MainAct
acts_of cs (step.Call k) = Calls (get_or cs k no_call).path ∷ []
acts_of cs (step.Wait k) = Waits (get_or cs k no_call).path ∷ []
acts_of cs (step.Print value) = Prints value ∷ []
acts_of cs step.Checkpoint = Checkpoints ∷ []

-- a call that was made is there, and one that was waited for is settled
abbrev pub AreOver : List Call → List Life → List MainStep → Type 0
AreOver cs lives [] = Unit {0}
AreOver cs lives (step.Call k ∷ steps) = (k < length cs) × AreOver cs lives steps
AreOver cs lives (step.Wait k ∷ steps) = (k < length cs) × IsSome (outcome_in (get_or lives k no_life)) × AreOver cs lives steps
AreOver cs lives (_ ∷ steps) = AreOver cs lives steps
