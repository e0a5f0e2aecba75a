-- What a sink has taken.
use Rattle.std.specs.Prelude.{◌≡◌, ℕ, Bool, IsTrue, List, [], ◌++◌, take, Ok, Err}
use Rattle.std.specs.declared.result.Result.{Result}
use Rattle.flow_base.specs.Causes.{Rose}

pub record SinkState : Type 0 where
  pub taken : List ℕ
  pub faults : ℕ

-- the bytes that a write took
abbrev pub accepted : {E : Type 0} → Result ℕ E → List ℕ → List ℕ
accepted (Ok n) bytes = take n bytes
accepted (Err e) bytes = []

-- these bytes or the first of them were taken
pub record TookPart (bytes old new : List ℕ) : Type 0 where
  pub count : ℕ
  pub taken : new ≡ old ++ take count bytes

-- where it tells, these bytes were added
abbrev pub Adds : Bool → SinkState → SinkState → List ℕ → Type 0
Adds tells old new bytes = IsTrue tells → new.taken ≡ old.taken ++ bytes

-- where it tells, these bytes or the first of them were added
abbrev pub AddsPart : Bool → SinkState → SinkState → List ℕ → Type 0
AddsPart tells old new bytes = IsTrue tells → TookPart bytes old.taken new.taken

-- where it tells and its count did not rise, these bytes were added
abbrev pub AddsUnlessFailed : Bool → SinkState → SinkState → List ℕ → Type 0
AddsUnlessFailed tells old new bytes = ¬ Rose old.faults new.faults → Adds tells old new bytes
