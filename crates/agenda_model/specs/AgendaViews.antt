-- What contracts see of an agenda.
use Rattle.std.specs.Prelude.{ℕ, List}
use Rattle.dependency_graph.specs.Graphs.{Graph}

pub record AgendaView : Type 0 where
  pub graph : Graph
  -- the launched tasks, in the order of their launches
  pub launched : List ℕ
  -- the tasks whose attempts are over, in the order of their ends
  pub over : List ℕ
  -- how many of the first of them need no storing
  pub kept : ℕ
  -- how many more places for ends there are
  pub spare : ℕ
  -- how many tasks aren't settled
  pub unsettled : ℕ
