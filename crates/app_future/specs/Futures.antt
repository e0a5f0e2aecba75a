-- What a table of futures knows.
use Rattle.std.specs.Prelude.{◌≡◌, ℕ, if◌then◌else◌, List, [], ◌∷◌, Option, Some, None, bytes_eq, slice_get}
use Rattle.flow_base.specs.declared.outcome.Outcome.{Outcome}
use Rattle.flow_base.specs.declared.outcome.Outcome.TheVariants.{Value}
use Rattle.flow_base.specs.declared.outcome.FileOut.{FileOut}

abbrev pub Path : Type 0
Path = List ℕ

-- a task's future: how many outputs its app has, and its outcome once it is settled
pub record Future : Type 0 where
  pub outputs : ℕ
  pub outcome : Option Outcome

-- futures by path, in the order in which they were added
abbrev pub Table : Type 0
Table = List (Path × Future)

abbrev pub found : Table → Path → Option Future
found [] path = None
found (e ∷ rest) path = if bytes_eq e.0 path then Some e.1 else found rest path

abbrev pub outcome_in : Option Future → Option Outcome
outcome_in None = None
outcome_in (Some f) = f.outcome

abbrev pub outcome_of : Table → Path → Option Outcome
outcome_of t path = outcome_in (found t path)

-- the future of this path gets this outcome, and nothing else changes
abbrev pub settled : Table → Path → Outcome → Table
settled [] path outcome = []
settled (e ∷ rest) path outcome = if bytes_eq e.0 path then (e.0, record e.1 { outcome = Some outcome }) ∷ rest else e ∷ settled rest path outcome

-- the path stands for a task that isn't settled
pub record IsOpen (t : Table) (path : Path) : Type 0 where
  pub outputs : ℕ
  pub is : found t path ≡ Some (record { outputs = outputs; outcome = None })

-- the file of an output, once its task has a value
abbrev pub file_in : Option Outcome → ℕ → Option FileOut
file_in (Some (Value value files)) index = slice_get files index
file_in _ index = None

-- what a DataFuture is, of the task that makes it
abbrev pub file_of : Table → Path → ℕ → Option FileOut
file_of t path index = file_in (outcome_of t path) index

-- a table only grows: each path stays with its outputs, and an outcome that is there stays
pub record Grows (t u : Table) : Type 0 where
  pub stays : (path : Path) (f : Future) → found t path ≡ Some f → (g : Future) × (found u path ≡ Some g) × (g.outputs ≡ f.outputs) × ((outcome : Outcome) → f.outcome ≡ Some outcome → g.outcome ≡ Some outcome)
