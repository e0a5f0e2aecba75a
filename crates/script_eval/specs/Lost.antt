-- Which tasks are lost.
use Rattle.std.specs.Prelude.{ℕ, if◌then◌else◌, List, [], ◌∷◌, Option, Some, None, bytes_eq}
use Rattle.flow_meaning.specs.Inputs.{Path}

-- tasks, each with the number of the manager that was lost with it
abbrev pub Lost : Type 0
Lost = List (Path × ℕ)

-- the manager of the first entry of a path
abbrev pub loss_at : Lost → Path → Option ℕ
loss_at [] path = None
loss_at (e ∷ rest) path = if bytes_eq e.0 path then Some e.1 else loss_at rest path
