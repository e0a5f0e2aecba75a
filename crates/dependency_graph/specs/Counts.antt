-- Counts of open inputs, and what a pass over waiting callbacks does to them.
use Rattle.std.specs.Prelude.{ℕ, ◌+◌, ◌-◌, ◌<◌, nat_eq, if◌then◌else◌, List, [], ◌∷◌, ◌++◌}
use Rattle.std.proofs.Common.{get_or, set}
use Rattle.dependency_graph.specs.declared.callback.FutureState.{FutureState}
use Rattle.dependency_graph.specs.Callbacks.{is_open, state_in, if_settled}

-- how many of these tasks are open
abbrev pub open_in : List FutureState → List ℕ → ℕ
open_in states [] = 0
open_in states (n ∷ ns) = (if is_open (state_in states n) then 1 else 0) + open_in states ns

abbrev pub count_at : List ℕ → ℕ → ℕ
count_at counts c = get_or counts c 0

-- one of these callbacks waits for one task less
abbrev pub lowered_at : List ℕ → ℕ → List ℕ
lowered_at counts c = set counts c (count_at counts c - 1)

-- each does
abbrev pub lowered : List ℕ → List ℕ → List ℕ
lowered [] counts = counts
lowered (c ∷ cs) counts = lowered cs (lowered_at counts c)

-- those that come to wait for none
abbrev pub freed : List ℕ → List ℕ → List ℕ
freed [] counts = []
freed (c ∷ cs) counts = if_settled (nat_eq (count_at counts c - 1) 0) c ++ freed cs (lowered_at counts c)

-- each of them waits
abbrev pub AllWait : List ℕ → List ℕ → Type 0
AllWait [] counts = Unit {0}
AllWait (c ∷ cs) counts = (0 < count_at counts c) × AllWait cs (lowered_at counts c)
