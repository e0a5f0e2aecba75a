-- What is read from the tasks of a kernel, by path and by name.
use Rattle.std.proofs.Common.{◌≡◌, ℕ, zero, suc, ◌+◌, ◌<◌, ◌≤◌, true, List, [], ◌∷◌, length, map, take, Option, Some, None, get_or, refl, sym, ◌∙◌, ap, arith}
use Rattle.std.specs.Prelude.{option_map, slice_get}
use Rattle.flow_base.specs.declared.outcome.Outcome.{Outcome}
use Rattle.flow_meaning.specs.Inputs.{Path}
use Rattle.flow_meaning.specs.Sequential.{Task as TaskOf, outcome_at}
use Rattle.call_rules.specs.Calls.{Call, task_of}
use Rattle.dependency_graph.specs.Places.{place_in, AreDistinct, task_there, task_at_place}
use Rattle.dependency_graph.proofs.Places.{outcome-there, outcome_of_task}
use Rattle.kernel_model.specs.Known.{outcome_in}
use Rattle.kernel_core.specs.declared.task.Task.{Task}
use Rattle.kernel_core.specs.Tasks.{call_of, life_of, settled_task, tasks_by}

-- ---- the tasks that are settled, by their paths

there : (places : List Path) (ts : List Task) (p : Path) → AreDistinct places → (place : Option ℕ) → place ≡ place_in places p → outcome_at (tasks_by places ts) p ≡ outcome_of_task (task_at_place (map settled_task ts) place)
there places ts p distinct place is = outcome-there places (map settled_task ts) p distinct ∙ ap (λ (k : Option ℕ). outcome_of_task (task_at_place (map settled_task ts) k)) (sym is)

outcome_of : (c : Call) (found : Option Outcome) → outcome_of_task (option_map (task_of c) found) ≡ found
outcome_of c None = refl
outcome_of c (Some outcome) = refl

past : (ts : List Task) (k : ℕ) → length ts ≤ k → outcome_of_task (task_there (slice_get (map settled_task ts) k)) ≡ None
past [] k h = refl
past (t ∷ ts) zero h = absurd (omega arith)
past (t ∷ ts) (suc k) h = past ts k (omega arith)

at_place : (ts : List Task) (k : ℕ) (t : Task) → k < length ts → t ≡ get_or ts k t → outcome_of_task (task_there (slice_get (map settled_task ts) k)) ≡ outcome_in (life_of t)
at_place [] k t within is = absurd (omega arith)
at_place (u ∷ ts) zero t within is = outcome_of (call_of u) (outcome_in (life_of u)) ∙ ap (λ (u : Task). outcome_in (life_of u)) (sym is)
at_place (u ∷ ts) (suc k) t within is = at_place ts k t (omega arith) is

-- a path without a place
pub outcome-nowhere : (places : List Path) (ts : List Task) (p : Path) → AreDistinct places → None ≡ place_in places p → None ≡ outcome_at (tasks_by places ts) p
outcome-nowhere places ts p distinct is = sym (there places ts p distinct None is)

-- a place without a task
pub outcome-missing : (places : List Path) (ts : List Task) (p : Path) (k : ℕ) → AreDistinct places → Some k ≡ place_in places p → length ts ≤ k → None ≡ outcome_at (tasks_by places ts) p
outcome-missing places ts p k distinct is h = sym (there places ts p distinct (Some k) is ∙ past ts k h)

pub outcome-found : (places : List Path) (ts : List Task) (p : Path) (k : ℕ) (t : Task) → AreDistinct places → Some k ≡ place_in places p → k < length ts → t ≡ get_or ts k t → outcome_in (life_of t) ≡ outcome_at (tasks_by places ts) p
outcome-found places ts p k t distinct is within at = sym (there places ts p distinct (Some k) is ∙ at_place ts k t within at)
