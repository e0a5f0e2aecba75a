-- What contracts see of a graph, and its acts.
use Rattle.std.specs.Prelude.{◌≡◌, ℕ, zero, suc, ◌+◌, ◌<◌, Bool, true, false, not, ◌&&◌, ◌||◌, nat_eq, if◌then◌else◌, List, [], ◌∷◌, ◌++◌, length, Option, Some, None, slice_get}
use Rattle.std.proofs.Common.{get_or, set}
use Rattle.std.specs.List.{filter, list_any}
use Rattle.dependency_graph.specs.declared.callback.FutureState.{FutureState}
use Rattle.dependency_graph.specs.declared.callback.FutureState.TheVariants as state
use Rattle.dependency_graph.specs.declared.callback.CallbackKind.{CallbackKind}
use Rattle.dependency_graph.specs.declared.callback.CallbackKind.TheVariants as kind
use Rattle.dependency_graph.specs.declared.callback.Callback.{Callback}
use Rattle.dependency_graph.specs.declared.callback.Callback.TheVariants as ready
use Rattle.dependency_graph.specs.CallbackViews.{CallbackView}

pub record Callbacks : Type 0 where
  -- the tasks' states, by place
  pub states : List FutureState
  -- all callbacks, in the order in which they were stored
  pub waits : List CallbackView
  -- the numbers of those that became ready, in that order
  pub made : List ℕ
  -- how many of these were given
  pub given : ℕ

-- ---- tasks

abbrev pub is_open : FutureState → Bool
is_open state.Open = true
is_open _ = false

abbrev pub state_in : List FutureState → ℕ → FutureState
state_in states n = get_or states n state.Failed

-- none of them is open
abbrev pub all_settled : List FutureState → List ℕ → Bool
all_settled states [] = true
all_settled states (n ∷ ns) = not (is_open (state_in states n)) && all_settled states ns

-- ---- lists of numbers

abbrev pub has_number : ℕ → List ℕ → Bool
has_number n [] = false
has_number n (m ∷ ms) = nat_eq n m || has_number n ms

abbrev pub AreDistinctNumbers : List ℕ → Type 0
AreDistinctNumbers [] = Unit {0}
AreDistinctNumbers (n ∷ ns) = (has_number n ns ≡ false) × AreDistinctNumbers ns

abbrev pub AreBelow : ℕ → List ℕ → Type 0
AreBelow k [] = Unit {0}
AreBelow k (n ∷ ns) = (n < k) × AreBelow k ns

-- ---- callbacks

abbrev pub waits_at : List CallbackView → ℕ → List ℕ
waits_at [] c = []
waits_at (w ∷ ws) zero = w.inputs
waits_at (w ∷ ws) (suc c) = waits_at ws c

-- the numbers, from i on, of those that wait for this task
abbrev pub waiting_from : ℕ → ℕ → List CallbackView → List ℕ
waiting_from i n [] = []
waiting_from i n (w ∷ ws) = if has_number n w.inputs then i ∷ waiting_from (suc i) n ws else waiting_from (suc i) n ws

abbrev pub waiting_on : ℕ → List CallbackView → List ℕ
waiting_on n ws = waiting_from 0 n ws

abbrev pub has_failed : FutureState → Bool
has_failed state.Failed = true
has_failed _ = false

abbrev pub to_do_by : CallbackKind → Bool → ℕ → Callback
to_do_by kind.Launch false k = ready.Launch k
to_do_by kind.Launch true k = ready.DepFail k
to_do_by kind.Join b k = ready.JoinDone k

-- what is to be done, once the inputs are in these states
abbrev pub to_do : List FutureState → CallbackView → Callback
to_do states w = to_do_by w.kind (list_any (λ n. has_failed (state_in states n)) w.inputs) w.task

-- ---- acts

abbrev pub if_settled : Bool → ℕ → List ℕ
if_settled true c = c ∷ []
if_settled false c = []

-- one more task
abbrev pub with_open : Callbacks → Callbacks
with_open g = record g { states = g.states ++ state.Open ∷ [] }

-- one more callback, which is ready at once if it waits for nothing
abbrev pub with_stored : CallbackView → Callbacks → Callbacks
with_stored w g = record g { waits = g.waits ++ w ∷ []; made = g.made ++ if_settled (all_settled g.states w.inputs) (length g.waits) }

-- one more task, with its launch
abbrev pub with_launch : List ℕ → Callbacks → Callbacks
with_launch inputs g = with_stored (record { kind = kind.Launch; task = length g.states; inputs = inputs }) (with_open g)

-- the callbacks that this settlement makes ready: those that wait for the task, and for no other open one
abbrev pub made_ready_by : List FutureState → List CallbackView → ℕ → List ℕ
made_ready_by states ws n = filter (λ c. all_settled states (waits_at ws c)) (waiting_on n ws)

abbrev pub with_state : ℕ → FutureState → Callbacks → Callbacks
with_state n s g = record g { states = set g.states n s; made = g.made ++ made_ready_by (set g.states n s) g.waits n }

abbrev pub to_do_of : List FutureState → Option CallbackView → Option Callback
to_do_of states None = None
to_do_of states (Some w) = Some (to_do states w)

abbrev pub next_in : Callbacks → Option ℕ → Option Callback
next_in g None = None
next_in g (Some c) = to_do_of g.states (slice_get g.waits c)

-- what is given next: what the first of those that weren't given is to do
abbrev pub next_of : Callbacks → Option Callback
next_of g = next_in g (slice_get g.made g.given)

abbrev pub with_given_by : Callbacks → Option ℕ → Callbacks
with_given_by g None = g
with_given_by g (Some c) = record g { given = g.given + 1 }

abbrev pub with_given : Callbacks → Callbacks
with_given g = with_given_by g (slice_get g.made g.given)

-- ---- what is ready

-- all inputs of this callback are settled
pub record IsReadyCallback (g : Callbacks) (c : ℕ) : Type 0 where
  pub there : c < length g.waits
  pub inputs : all_settled g.states (waits_at g.waits c) ≡ true

-- each callback stands once among those that became ready, from when its inputs are settled on
pub record IsExact (g : Callbacks) : Type 0 where
  pub once : AreDistinctNumbers g.made
  pub only : (c : ℕ) → has_number c g.made ≡ true → IsReadyCallback g c
  pub all : (c : ℕ) → IsReadyCallback g c → has_number c g.made ≡ true
