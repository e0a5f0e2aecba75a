-- The paths of tasks.
use Rattle.std.specs.Prelude.{ℕ}

-- the most numbers of a task's path
abbrev pub max_path : ℕ
max_path = 64
