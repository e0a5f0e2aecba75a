-- The laws of a history. Each is a test of one entry against the entries before it, with a table.
use Rattle.std.specs.Prelude.{◌≡◌, ℕ, Bool, suc, ◌+◌, ◌<◌, ◌≤◌, true, false, List, [], ◌∷◌, Option, Some, None, IsSome, option_map, bytes_eq}
use Rattle.task_record.specs.declared.status.Status.{Status}
use Rattle.task_record.specs.declared.status.Status.TheVariants as status
use Rattle.event_log.specs.declared.entry.Entry.{Entry}
use Rattle.event_log.specs.declared.entry.Entry.TheVariants as entry
use Rattle.flow_meaning.specs.Inputs.{Path}
use Rattle.flow_meaning.specs.Operators.{Text}
use Rattle.history_laws.specs.declared.table.Expected.{Expected}
use Rattle.history_laws.specs.declared.table.Retries.{Retries}
use Rattle.history_laws.specs.declared.table.Table.{Table}
use Rattle.call_rules.specs.Calls.{child}
use Rattle.memo_table.specs.Keys.{KeyView}
use Rattle.history_laws.specs.Tables.{task_at, table_key, calls_in, waits_before}
use Rattle.history_laws.specs.Reads.{History, is_submitted, has_joined, due, submits, settled, launches, Stage, Unlaunched, Waiting, Running, Over, stage, last_try, value_word, costs, has_hit, has_value, stores, has_end}

-- all of these paths have settled
abbrev pub AllSettled : List Path → History → Type 0
AllSettled [] b = Unit {0}
AllSettled (p ∷ ps) b = IsSome (settled p b) × AllSettled ps b

-- a state in which a task has a value
abbrev pub IsValued : Option Status → Type 0
IsValued (Some status.ExecDone) = Unit {0}
IsValued (Some status.MemoDone) = Unit {0}
IsValued _ = ⊥

-- all of these paths have settled with values
abbrev pub AllValued : List Path → History → Type 0
AllValued [] b = Unit {0}
AllValued (p ∷ ps) b = IsValued (settled p b) × AllValued ps b

-- ---- settling

-- The next call of main is submitted, once all that main waited for before it has settled.
pub record SubmitStands (z : Table) (b : History) (p : Path) (app : Text) : Type 0 where
  pub next : p ≡ suc (submits b) ∷ []
  pub within : submits b < calls_in z.acts
  pub same_app : option_map (λ t. Expected.app t) (task_at z p) ≡ Some app
  pub waited : AllSettled (waits_before (submits b) z.acts) b

-- The state in which a task settles whose outcome has this one: another where it took its value from the memo, and
-- none where it took a value and has none.
abbrev pub state_with : Bool → Status → Option Status
state_with false s = Some s
state_with true status.ExecDone = Some status.MemoDone
state_with true _ = None

-- A submitted task is settled once, in the state of its outcome, after all of its inputs.
pub record SettledStands (z : Table) (b : History) (p : Path) (s : Status) : Type 0 where
  pub task : Expected
  pub is : task_at z p ≡ Some task
  pub submitted : is_submitted p b ≡ true
  pub once : settled p b ≡ None
  pub state : state_with (has_hit p b) task.status ≡ Some s
  pub inputs : AllSettled task.inputs b
  -- a join, after its body ran and all that it returned has settled
  pub joined : task.joins ≡ true → (has_joined p b ≡ true) × AllSettled task.awaits b

-- every task is submitted and settled
pub record IsOver (z : Table) (b : History) : Type 0 where
  pub submitted : (p : Path) → IsSome (task_at z p) → is_submitted p b ≡ true
  pub settled : (p : Path) → IsSome (task_at z p) → IsSome (settled p b)

-- how many calls the body of the task of this path makes
abbrev pub calls_in_task : Option Expected → ℕ
calls_in_task None = 0
calls_in_task (Some task) = task.calls

abbrev pub calls_at : Table → Path → ℕ
calls_at z p = calls_in_task (task_at z p)

-- no call of a join is still to be submitted
abbrev pub IsFree : Table → History → Type 0
IsFree z b = (p : Path) (k : ℕ) → due b ≡ Some (p, k) → calls_at z p ≤ k

abbrev pub OwnStands : Table → History → Entry → Type 0
OwnStands z b (entry.Submit p app) = SubmitStands z b p app
OwnStands z b (entry.Settled p s) = SettledStands z b p s
OwnStands z b entry.End = IsOver z b
OwnStands z b _ = Unit {0}

-- the next call of a join whose body ran
pub record ChildStands (z : Table) (b : History) (caller : Path) (k : ℕ) (e : Entry) : Type 0 where
  pub due : due b ≡ Some (caller, k)
  pub more : k < calls_at z caller
  pub task : Expected
  pub there : task_at z (child caller k) ≡ Some task
  pub is : e ≡ entry.Submit (child caller k) task.app

-- The run of a join is followed directly by the submissions of its calls in order. Else an entry stands by its own law.
pub data SettlingStands (z : Table) (b : History) (e : Entry) : Type 0 where
  follows : (caller : Path) (k : ℕ) → ChildStands z b caller k e → SettlingStands z b e
  stands : IsFree z b → OwnStands z b e → SettlingStands z b e

-- nothing stands behind the end
pub record SettlingLaw (z : Table) (b : History) (e : Entry) : Type 0 where
  pub open_yet : has_end b ≡ false
  pub stands : SettlingStands z b e

-- ---- launches

-- the key is stored
abbrev pub is_stored : Table → History → KeyView → Bool
is_stored z b key = stores (table_key z) key b

-- A submitted, unsettled task that gets its outcome by an attempt is launched once its inputs have values. If its app
-- is cached, then only where its key isn't stored, and it took no value from the memo.
pub record LaunchStands (z : Table) (b : History) (p : Path) : Type 0 where
  pub task : Expected
  pub is : task_at z p ≡ Some task
  pub submitted : is_submitted p b ≡ true
  pub unsettled : settled p b ≡ None
  pub inputs : AllValued task.inputs b
  pub runs : task.runs ≡ true
  pub fresh : (key : KeyView) → task.key ≡ Some key → is_stored z b key ≡ false
  pub unhit : has_hit p b ≡ false

-- The body of a submitted, unsettled join runs, once, as soon as its inputs have values.
pub record JoinRunStands (z : Table) (b : History) (p : Path) : Type 0 where
  pub task : Expected
  pub is : task_at z p ≡ Some task
  pub submitted : is_submitted p b ≡ true
  pub unsettled : settled p b ≡ None
  pub once : has_joined p b ≡ false
  pub inputs : AllValued task.inputs b
  pub joins : task.joins ≡ true

-- A submitted, unsettled task of a cached app takes its value from the memo, once, where its inputs have values and its
-- key is stored.
pub record HitStands (z : Table) (b : History) (p : Path) : Type 0 where
  pub task : Expected
  pub is : task_at z p ≡ Some task
  pub submitted : is_submitted p b ≡ true
  pub unsettled : settled p b ≡ None
  pub once : has_hit p b ≡ false
  pub inputs : AllValued task.inputs b
  pub key : KeyView
  pub cached : task.key ≡ Some key
  pub stored : is_stored z b key ≡ true

-- The value of an attempt is stored by the key of its task, where that isn't stored.
pub record StoredStands (z : Table) (b : History) (p : Path) : Type 0 where
  pub task : Expected
  pub is : task_at z p ≡ Some task
  pub valued : has_value p b ≡ true
  pub key : KeyView
  pub cached : task.key ≡ Some key
  pub fresh : is_stored z b key ≡ false

-- A task of a cached app settles with the value of its attempt only where its key is stored.
abbrev pub SettlesStored : Table → History → Path → Status → Type 0
SettlesStored z b p s = s ≡ status.ExecDone → (key : KeyView) → table_key z p ≡ Some key → is_stored z b key ≡ true

abbrev pub LaunchLaw : Table → History → Entry → Type 0
LaunchLaw z b (entry.Launch p n) = LaunchStands z b p
LaunchLaw z b (entry.JoinRun p) = JoinRunStands z b p
LaunchLaw z b (entry.MemoHit p) = HitStands z b p
LaunchLaw z b (entry.Stored p) = StoredStands z b p
LaunchLaw z b (entry.Settled p s) = SettlesStored z b p s
-- no run writes lines
LaunchLaw z b (entry.Checkpoint count) = ⊥
LaunchLaw z b _ = Unit {0}

-- ---- attempts

-- a further attempt may follow, or a value from the memo: the last one ended without a value, and the costs are within the limit
abbrev pub MayFollow : ℕ → ℕ → Stage → Type 0
MayFollow limit sum Unlaunched = Unit {0}
MayFollow limit sum Waiting = ⊥
MayFollow limit sum Running = ⊥
MayFollow limit sum (Over kind) = (bytes_eq kind value_word ≡ false) × (sum ≤ limit)

pub record AttemptFollows (r : Retries) (b : History) (p : Path) (n : ℕ) : Type 0 where
  pub number : n ≡ launches p b + 1
  pub follows : MayFollow r.limit (costs r p b) (last_try p b)

abbrev pub IsOut : Stage → Type 0
IsOut Waiting = Unit {0}
IsOut Running = Unit {0}
IsOut _ = ⊥

-- the last attempt ends, once, as the body does
pub record AttemptEnds (z : Table) (b : History) (p : Path) (n : ℕ) (kind : Text) : Type 0 where
  pub task : Expected
  pub is : task_at z p ≡ Some task
  pub is_out : IsOut (last_try p b)
  pub number : n ≡ launches p b
  pub same_kind : kind ≡ task.kind

-- how the last attempt stands where a task settles that gets its outcome by an attempt
abbrev pub MaySettle : ℕ → ℕ → Stage → Status → Type 0
MaySettle limit sum (Over kind) status.ExecDone = bytes_eq kind value_word ≡ true
MaySettle limit sum _ status.ExecDone = ⊥
MaySettle limit sum (Over kind) status.Failed = (bytes_eq kind value_word ≡ false) × (limit < sum)
MaySettle limit sum _ status.Failed = ⊥
MaySettle limit sum _ _ = Unit {0}

abbrev pub AttemptsSettle : Retries → Option Expected → History → Path → Status → Type 0
AttemptsSettle r None b p s = Unit {0}
AttemptsSettle r (Some task) b p s = task.runs ≡ true → MaySettle r.limit (costs r p b) (last_try p b) s

abbrev pub AttemptLaw : Retries → Table → History → Entry → Type 0
AttemptLaw r z b (entry.Launch p n) = AttemptFollows r b p n
AttemptLaw r z b (entry.MemoHit p) = MayFollow r.limit (costs r p b) (last_try p b)
AttemptLaw r z b (entry.Ended p n manager kind) = AttemptEnds z b p n kind
AttemptLaw r z b (entry.Settled p s) = AttemptsSettle r (task_at z p) b p s
AttemptLaw r z b _ = Unit {0}

-- ---- the one manager

-- the last attempt, at the manager
pub record AtManager (b : History) (p : Path) (n manager : ℕ) (there : Stage) : Type 0 where
  pub stands : stage p b ≡ there
  pub number : n ≡ launches p b
  pub first : manager ≡ 1

-- what tells of managers, their blocks or the clock
abbrev pub is_of_managers : Entry → Bool
is_of_managers (entry.Dispatch p n manager) = true
is_of_managers (entry.Held p n manager) = true
is_of_managers (entry.LostTry p n manager) = true
is_of_managers (entry.Block block state) = true
is_of_managers (entry.Register manager block slots) = true
is_of_managers (entry.Refused block version) = true
is_of_managers (entry.Tick at) = true
is_of_managers (entry.Beat manager) = true
is_of_managers (entry.Silent manager) = true
is_of_managers (entry.Lost manager) = true
is_of_managers (entry.Drain manager) = true
is_of_managers (entry.Drained manager) = true
is_of_managers (entry.Hold manager) = true
is_of_managers (entry.Scale decided) = true
is_of_managers _ = false

-- A launched attempt is started, and a started one ends. There is one manager from the beginning to the end, so
-- nothing is told of managers.
abbrev pub ManagerLaw : History → Entry → Type 0
ManagerLaw b (entry.Start p n manager) = AtManager b p n manager Waiting
ManagerLaw b (entry.Ended p n manager kind) = AtManager b p n manager Running
ManagerLaw b e = is_of_managers e ≡ false
