-- What a sequential evaluation stores, and the limit that it meets first.
use Rattle.std.specs.Prelude.{ℕ, ◌+◌, ◌≤◌, Bool, true, false, ◌&&◌, if◌then◌else◌, List, [], ◌∷◌, ◌++◌, length, map, filter, flat_map, sum, Option, Some, None, nat_eq, nat_lt}
use Rattle.flow_base.specs.Values.{units}
use Rattle.flow_meaning.specs.Inputs.{Path}
use Rattle.flow_meaning.specs.Sequential.{Task, Tasks, MainAct, Calls, Prints, Sequential}
use Rattle.stored_units.specs.declared.units.Limit.{Limit}
use Rattle.stored_units.specs.declared.units.Limit.TheVariants as limit
use Rattle.stored_units.specs.Stored.{max_tasks, max_stored, call_units, outcome_units}

-- a call with the units of its arguments and names, or a value that is stored
pub data Storing : Type 0 where
  Submits : ℕ → Storing
  Stores : ℕ → Storing

-- a task that is being evaluated: how many numbers its path has, and the units of its outcome
pub record Open : Type 0 where
  pub depth : ℕ
  pub units : ℕ

-- what is open is over once a path with no more numbers follows, the innermost task first
abbrev pub over_at : ℕ → List Open → List Storing
over_at depth [] = []
over_at depth (o ∷ opened) = if nat_lt o.depth depth then [] else Stores o.units ∷ over_at depth opened

abbrev pub open_at : ℕ → List Open → List Open
open_at depth [] = []
open_at depth (o ∷ opened) = if nat_lt o.depth depth then o ∷ opened else open_at depth opened

-- Tasks in the order of their paths: a call is submitted, then all below it is evaluated, then its outcome is stored.
abbrev pub storings_in : List Open → Tasks → List Storing
storings_in opened [] = over_at 0 opened
storings_in opened (t ∷ ts) =
    over_at (length t.path) opened
    ++ Submits (call_units t.arguments t.names) ∷ storings_in (record { depth = length t.path; units = outcome_units t.outcome } ∷ open_at (length t.path) opened) ts

abbrev pub begins_with : Path → Path → Bool
begins_with [] q = true
begins_with (x ∷ xs) [] = false
begins_with (x ∷ xs) (y ∷ ys) = nat_eq x y && begins_with xs ys

-- the call of this path, and all below it
abbrev pub tasks_at : Path → Tasks → Tasks
tasks_at p = filter (λ (t : Task). begins_with p t.path)

abbrev pub storings_of_act : Tasks → MainAct → List Storing
storings_of_act ts (Calls p) = storings_in [] (tasks_at p ts)
storings_of_act ts (Prints value) = Stores (units value) ∷ []
storings_of_act ts _ = []

-- what main's acts store, in order
abbrev pub storings : Tasks → List MainAct → List Storing
storings ts = flat_map (storings_of_act ts)

-- the limit that is met first behind so many calls and so many units; at one call the number of calls goes first
abbrev pub first_limit : ℕ → ℕ → List Storing → Option Limit
first_limit calls stored [] = None
first_limit calls stored (Submits n ∷ rest) =
    if nat_lt calls max_tasks then (if nat_lt max_stored (stored + n) then Some limit.Stored else first_limit (calls + 1) (stored + n) rest)
    else Some limit.Tasks
first_limit calls stored (Stores n ∷ rest) = if nat_lt max_stored (stored + n) then Some limit.Stored else first_limit calls (stored + n) rest

-- the limit that an evaluation meets first
abbrev pub limit_met : Sequential → Option Limit
limit_met s = first_limit 0 0 (storings s.tasks s.acts)

-- ---- the whole

abbrev pub units_of_task : Task → ℕ
units_of_task t = call_units t.arguments t.names + outcome_units t.outcome

-- the units that an evaluation stores
abbrev pub total_units : Sequential → ℕ
total_units s = sum (map units_of_task s.tasks) + sum (map units s.printed)

-- it has no more calls and stores no more units than a run may
pub record IsWithinLimits (s : Sequential) : Type 0 where
  pub few : length s.tasks ≤ max_tasks
  pub small : total_units s ≤ max_stored
