-- What joins an agenda to the tasks of a run.
use Rattle.std.specs.Prelude.{◌≡◌, ℕ, ◌+◌, ◌<◌, ◌≤◌, true, false, not, if◌then◌else◌, List, [], ◌∷◌, length, map, take, Option, Some, None, slice_get, Result}
use Rattle.std.proofs.Common.{get_or}
use Rattle.flow_base.specs.declared.outcome.Exception.{Exception}
use Rattle.flow_base.specs.declared.outcome.Outcome.{Outcome}
use Rattle.script_tree.specs.declared.tree.AppDef.{AppDef}
use Rattle.task_record.specs.declared.status.Status.{Status}
use Rattle.task_record.specs.declared.status.Status.TheVariants as status
use Rattle.task_record.specs.States.{is_settled}
use Rattle.dependency_graph.specs.declared.callback.CallbackKind.{CallbackKind}
use Rattle.dependency_graph.specs.declared.callback.CallbackKind.TheVariants as kind
use Rattle.dependency_graph.specs.CallbackViews.{CallbackView}
use Rattle.dependency_graph.specs.Callbacks.{Callbacks, is_open, state_in, has_number, AreDistinctNumbers}
use Rattle.dependency_graph.specs.Graphs.{Graph}
use Rattle.flow_meaning.specs.Inputs.{Path, inputs, distinct}
use Rattle.flow_meaning.specs.Meaning.{Done}
use Rattle.call_rules.specs.Calls.{Call, awaited}
use Rattle.kernel_model.specs.Acts.{retold}
use Rattle.memo_table.specs.Table.{MemoView}
use Rattle.kernel_model.specs.Known.{Known, Life, no_call, no_life, known_in, key_in, is_kept, apps_in}
use Rattle.agenda_model.specs.AgendaViews.{AgendaView}

-- ---- queues

-- exactly these tasks stand in the queue, each once
pub record IsQueue (queue : List ℕ) (P : ℕ → Type 0) : Type 0 where
  pub once : AreDistinctNumbers queue
  pub only : (k : ℕ) → has_number k queue ≡ true → P k
  pub all : (k : ℕ) → P k → has_number k queue ≡ true

-- the task of this number is in this state
abbrev pub HasStatus : List Life → Status → ℕ → Type 0
HasStatus lives s k = (get_or lives k no_life).status ≡ s

-- how many attempts of a task in this state run
abbrev pub runs : Status → ℕ
runs status.Running = 1
runs _ = 0

abbrev pub running_in : List Life → ℕ
running_in [] = 0
running_in (life ∷ lives) = runs life.status + running_in lives

-- how many tasks aren't settled
abbrev pub unsettled_in : List Life → ℕ
unsettled_in [] = 0
unsettled_in (life ∷ lives) = (if is_settled life.status then 0 else 1) + unsettled_in lives

-- ---- callbacks

-- the paths of these tasks
abbrev pub paths_at : List Call → List ℕ → List Path
paths_at cs ns = map (λ n. (get_or cs n no_call).path) ns

-- a callback that wasn't given yet
abbrev pub IsLeft : Callbacks → ℕ → Type 0
IsLeft g c = has_number c (take g.given g.made) ≡ false

-- the launch of a task that has not begun, which waits for its inputs
pub record IsLaunchOf (cs : List Call) (lives : List Life) (k : ℕ) (waits : List ℕ) : Type 0 where
  pub within : k < length cs
  pub pending : HasStatus lives status.Pending k
  pub inputs_are : paths_at cs waits ≡ inputs (get_or cs k no_call).arguments

-- the end of a join whose body ran, which waits for what it returned
pub record IsEndOfJoin (cs : List Call) (lives : List Life) (k : ℕ) (waits : List ℕ) : Type 0 where
  pub within : k < length cs
  pub joining : HasStatus lives status.Joining k
  pub result : Result Done Exception
  pub ran : (get_or lives k no_life).ran ≡ Some result
  pub awaited_are : paths_at cs waits ≡ distinct (awaited result)

-- the callback is that of its task as it stands
abbrev pub IsCurrentAs : CallbackKind → List Call → List Life → ℕ → List ℕ → Type 0
IsCurrentAs kind.Launch cs lives k waits = IsLaunchOf cs lives k waits
IsCurrentAs kind.Join cs lives k waits = IsEndOfJoin cs lives k waits

abbrev pub IsCurrent : List Call → List Life → CallbackView → Type 0
IsCurrent cs lives view = IsCurrentAs view.kind cs lives view.task view.inputs

-- the task waits for its callback
abbrev pub Waits : Status → Type 0
Waits status.Pending = Unit {0}
Waits status.Joining = Unit {0}
Waits _ = ⊥

-- a callback of the task is stored, and wasn't given yet
pub record IsStored (g : Callbacks) (k : ℕ) : Type 0 where
  pub number : ℕ
  pub view : CallbackView
  pub there : slice_get g.waits number ≡ Some view
  pub task_is : view.task ≡ k
  pub left : IsLeft g number

-- the task whose callback was given and isn't carried out yet
abbrev pub Lacks : Option ℕ → ℕ → Type 0
Lacks None k = ⊥
Lacks (Some j) k = k ≡ j

-- ---- the graph and the tasks

-- The graph has the tasks, and one callback of each task that waits, but for the one that lacks its callback.
pub record Ties (g : Graph) (cs : List Call) (lives : List Life) (lacking : Option ℕ) : Type 0 where
  pub paths_are : g.paths ≡ map (λ (c : Call). c.path) cs
  pub lived : length lives ≡ length cs
  pub states : length g.callbacks.states ≡ length cs
  pub opens : (k : ℕ) → k < length cs → is_open (state_in g.callbacks.states k) ≡ not (is_settled (get_or lives k no_life).status)
  pub current : (c : ℕ) (view : CallbackView) → slice_get g.callbacks.waits c ≡ Some view → IsLeft g.callbacks c → IsCurrent cs lives view × (Lacks lacking view.task → ⊥)
  pub stored : (k : ℕ) → k < length cs → Waits (get_or lives k no_life).status → (Lacks lacking k → ⊥) → IsStored g.callbacks k
  pub once : (c d : ℕ) (x y : CallbackView) → slice_get g.callbacks.waits c ≡ Some x → slice_get g.callbacks.waits d ≡ Some y → IsLeft g.callbacks c → IsLeft g.callbacks d → x.task ≡ y.task → c ≡ d
  pub given : g.callbacks.given ≤ length g.callbacks.made

-- ---- the agenda and the tasks

pub record ServesTasks (a : AgendaView) (cs : List Call) (lives : List Life) (lacking : Option ℕ) : Type 0 where
  pub ties : Ties a.graph cs lives lacking
  pub launched : IsQueue a.launched (HasStatus lives status.Launched)
  pub over : IsQueue a.over (HasStatus lives status.RunningEnded)
  -- each running attempt has a place for its end
  pub room : running_in lives ≤ a.spare
  pub unsettled : a.unsettled ≡ unsettled_in lives

-- ---- what is to be stored

-- the task needs no storing: by how its attempt ended, by its key, or since that is stored
abbrev pub NeedsNoStore : List AppDef → MemoView → List Call → List Life → ℕ → Type 0
NeedsNoStore apps memo cs lives k = (outcome : Outcome) → (get_or lives k no_life).end ≡ Some outcome → is_kept memo (key_in apps (known_in cs lives) (get_or cs k no_call)) outcome ≡ true

-- so it is with the first tasks of the queue whose attempts are over, as many as are counted
pub record FrontIsKept (a : AgendaView) (apps : List AppDef) (memo : MemoView) (cs : List Call) (lives : List Life) : Type 0 where
  pub within : a.kept ≤ length a.over
  pub kept : (i k : ℕ) → i < a.kept → slice_get a.over i ≡ Some k → NeedsNoStore apps memo cs lives k

-- the agenda is that of what is known, but for a task that lacks its callback
pub record Serves (a : AgendaView) (w : Known) (lacking : Option ℕ) : Type 0 where
  pub tasks : ServesTasks a w.calls w.lives lacking
  pub front : FrontIsKept a (apps_in w) w.memo w.calls w.lives

-- what is known, with what the monitors were told
abbrev pub seen : AgendaView → Known → Known
seen a w = retold a.graph.told w
