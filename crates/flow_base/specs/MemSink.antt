-- A sink in memory.
use Rattle.std.specs.Prelude.{ℕ, List}

-- what it took, the most that it takes, and how often it failed
pub record MemSinkState : Type 0 where
  pub taken : List ℕ
  pub room : ℕ
  pub faults : ℕ
