-- What a graph keeps.
use Rattle.std.specs.Prelude.{◌≡◌, ℕ, ◌<◌, ◌≤◌, List, length}
use Rattle.dependency_graph.specs.declared.callback.FutureState.{FutureState}
use Rattle.dependency_graph.specs.CallbackViews.{CallbackView}
use Rattle.dependency_graph.specs.Callbacks.{Callbacks, waits_at, waiting_on, AreBelow, AreDistinctNumbers, IsExact}
use Rattle.dependency_graph.specs.Counts.{open_in, count_at}
use Rattle.dependency_graph.specs.Rows.{row_at}

abbrev pub callbacks_of : List FutureState → List CallbackView → List ℕ → ℕ → Callbacks
callbacks_of states waits made given = record { states = states; waits = waits; made = made; given = given }

pub record IsKept (g : Callbacks) (counts : List ℕ) (rows : List (List ℕ)) : Type 0 where
  -- a callback's count is that of its open inputs
  pub counted : (c : ℕ) → count_at counts c ≡ open_in g.states (waits_at g.waits c)
  pub as_many : length counts ≡ length g.waits
  -- a task's row has the callbacks that wait for it, in order
  pub rowed : (n : ℕ) → n < length g.states → row_at rows n ≡ waiting_on n g.waits
  pub wide : length rows ≡ length g.states
  pub below : (c : ℕ) → AreBelow (length g.states) (waits_at g.waits c)
  pub distinct : (c : ℕ) → AreDistinctNumbers (waits_at g.waits c)
  pub given : g.given ≤ length g.made
  pub exact : IsExact g
