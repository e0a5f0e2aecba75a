-- Paths with their places, and the tasks that stand there.
use Rattle.std.specs.Prelude.{◌≡◌, ℕ, suc, false, if◌then◌else◌, List, [], ◌∷◌, Option, Some, None, option_map, bytes_eq, slice_get}
use Rattle.std.specs.List.{list_any}
use Rattle.flow_meaning.specs.Inputs.{Path}
use Rattle.flow_meaning.specs.Sequential.{Task, Tasks}

-- the place of the first path that is this one
abbrev pub place_in : List Path → Path → Option ℕ
place_in [] p = None
place_in (q ∷ qs) p = if bytes_eq p q then Some 0 else option_map suc (place_in qs p)

-- no path stands twice
abbrev pub AreDistinct : List Path → Type 0
AreDistinct [] = Unit {0}
AreDistinct (p ∷ ps) = (list_any (bytes_eq p) ps ≡ false) × AreDistinct ps

-- the tasks of these paths that are settled, where each place has its task once that is so
abbrev pub settled_by : List Path → List (Option Task) → Tasks
settled_by [] ts = []
settled_by (p ∷ ps) [] = []
settled_by (p ∷ ps) (None ∷ ts) = settled_by ps ts
settled_by (p ∷ ps) (Some t ∷ ts) = record t { path = p } ∷ settled_by ps ts

abbrev pub task_there : Option (Option Task) → Option Task
task_there (Some t) = t
task_there None = None

abbrev pub task_at_place : List (Option Task) → Option ℕ → Option Task
task_at_place ts (Some k) = task_there (slice_get ts k)
task_at_place ts None = None
