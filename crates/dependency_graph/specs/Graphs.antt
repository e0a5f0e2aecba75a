-- What contracts see of a graph, and what its calls do.
use Rattle.std.specs.Prelude.{◌≡◌, ℕ, true, List, [], ◌∷◌, ◌++◌, Option, Some, None, IsSome}
use Rattle.flow_meaning.specs.Inputs.{Path}
use Rattle.dependency_graph.specs.declared.callback.CallbackKind.TheVariants as kind
use Rattle.dependency_graph.specs.declared.callback.FutureState.{FutureState}
use Rattle.dependency_graph.specs.declared.monitor.Settlement.{Settlement}
use Rattle.dependency_graph.specs.Callbacks.{Callbacks, is_open, state_in, with_launch, with_stored, with_state, with_given}
use Rattle.dependency_graph.specs.Monitors.{tell, tell_first}
use Rattle.dependency_graph.specs.OutcomeStates.{state_of}
use Rattle.dependency_graph.specs.Places.{place_in, AreDistinct}

pub record Graph : Type 0 where
  -- the paths of the tasks, by number
  pub paths : List Path
  pub callbacks : Callbacks
  -- what each monitor was told
  pub told : List (List Settlement)

-- ---- numbers of paths

abbrev pub with_place : Option ℕ → List ℕ → List ℕ
with_place None ns = ns
with_place (Some n) ns = n ∷ ns

-- the numbers of these tasks
abbrev pub places_in : List Path → List Path → List ℕ
places_in paths [] = []
places_in paths (p ∷ ps) = with_place (place_in paths p) (places_in paths ps)

-- the tasks are there
abbrev pub AreThere : List Path → List Path → Type 0
AreThere paths [] = Unit {0}
AreThere paths (p ∷ ps) = IsSome (place_in paths p) × AreThere paths ps

-- ---- a task

-- a new task, which waits for tasks that are there
pub record CanAdd (g : Graph) (path : Path) (inputs : List Path) : Type 0 where
  pub new : place_in g.paths path ≡ None
  pub there : AreThere g.paths inputs
  pub distinct : AreDistinct inputs

-- one more task, with its launch
abbrev pub with_task : Path → List Path → Graph → Graph
with_task path inputs g = record g { paths = g.paths ++ path ∷ []; callbacks = with_launch (places_in g.paths inputs) g.callbacks }

-- ---- the end of a join

-- a task that is there, and what its join returned
pub record CanWaitJoin (g : Graph) (path : Path) (returned : List Path) : Type 0 where
  pub task : ℕ
  pub is : place_in g.paths path ≡ Some task
  pub there : AreThere g.paths returned
  pub distinct : AreDistinct returned

abbrev pub with_join_of : Option ℕ → List ℕ → Callbacks → Callbacks
with_join_of None returned c = c
with_join_of (Some n) returned c = with_stored (record { kind = kind.Join; task = n; inputs = returned }) c

-- one more callback, which ends the join of the task
abbrev pub with_join : Path → List Path → Graph → Graph
with_join path returned g = record g { callbacks = with_join_of (place_in g.paths path) (places_in g.paths returned) g.callbacks }

-- ---- a settlement

-- a task that is there and open
pub record IsOpenTask (g : Graph) (path : Path) : Type 0 where
  pub task : ℕ
  pub is : place_in g.paths path ≡ Some task
  pub opened : is_open (state_in g.callbacks.states task) ≡ true

abbrev pub with_state_of : Option ℕ → FutureState → Callbacks → Callbacks
with_state_of None s c = c
with_state_of (Some n) s c = with_state n s c

-- the task is settled, and each monitor was told
abbrev pub with_settlement : Settlement → Graph → Graph
with_settlement s g = record g { callbacks = with_state_of (place_in g.paths s.path) (state_of s.outcome) g.callbacks; told = tell s g.told }

-- some monitors were told of this, and all else is as it was
pub record ToldSome (s : Settlement) (old new : Graph) : Type 0 where
  pub count : ℕ
  pub is : new ≡ record old { told = tell_first count s old.told }

-- ---- a callback

-- the next callback was given
abbrev pub with_next : Graph → Graph
with_next g = record g { callbacks = with_given g.callbacks }
