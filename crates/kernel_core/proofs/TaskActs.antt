-- What each act on a task does to a state.
use Rattle.std.proofs.Common.{◌≡◌, ℕ, ◌+◌, ◌-◌, ◌≤◌, false, List, [], ◌∷◌, ◌++◌, map, Some, None, IsTrue, get_or, set, refl, sym, ◌∙◌, ap, subst, arith}
use Rattle.std.proofs.lemmas.List.{set-set}
use Rattle.flow_base.specs.declared.outcome.Exception.{Exception}
use Rattle.flow_base.specs.declared.outcome.Exception.TheVariants as x
use Rattle.flow_base.specs.declared.outcome.Outcome.{Outcome}
use Rattle.flow_base.specs.declared.outcome.Outcome.TheVariants as o
use Rattle.task_record.specs.declared.status.Status.{Status}
use Rattle.task_record.specs.declared.status.Status.TheVariants as status
use Rattle.task_record.specs.States.{is_settled}
use Rattle.task_record.specs.Tasks.{Task as TaskRecord}
use Rattle.task_record.specs.Transitions.{may_become}
use Rattle.event_log.specs.declared.entry.Entry.{Entry}
use Rattle.event_log.specs.declared.entry.Entry.TheVariants as entry
use Rattle.dependency_graph.specs.declared.monitor.Settlement.{Settlement}
use Rattle.flow_meaning.specs.Inputs.{Path}
use Rattle.call_rules.specs.Calls.{Call}
use Rattle.history_laws.specs.Tables.{status_of}
use Rattle.kernel_model.specs.Known.{Known, Life, no_life, path_at, life_at, settled_outcome, outcome_in, word_of}
use Rattle.kernel_model.specs.Limits.{stored}
use Rattle.kernel_model.specs.Acts.{put, launched, started, finished, settled_as}
use Rattle.kernel_model.specs.Conditions.{CanLaunch, CanStart, CanFinish, CanFail}
use Rattle.kernel_model.proofs.Counting.{stored-launched, stored-started, stored-finished, stored-settled_as}
use Rattle.kernel_model.proofs.Passing.{passed-stays}
use Rattle.kernel_model.proofs.KeepingTasks.{keep-launched, keep-started, keep-finished, keep-failed}
use Rattle.kernel_core.specs.Tasks.{life_of}
use Rattle.agenda_model.specs.Agendas.{runs}
use Rattle.kernel_core.specs.declared.task.Task.{Task}
use Rattle.kernel_core.specs.declared.run_state.MainStep.{MainStep}
use Rattle.kernel_core.proofs.StateViews.{with, Keeps, Wrote, KnownTask, known-task, written-back, runs-counted, wrote}

-- a task that isn't settled has no outcome
pub unsettled : (t : Task) (s : Status) → t.record.status ≡ s → is_settled s ≡ false → outcome_in (life_of t) ≡ None
unsettled t s is open_yet = rw (is, open_yet) refl

-- nor has it in what is known
pub unsettled-there : (w : Known) (tasks : List Task) (k : ℕ) (t : Task) (s : Status) → KnownTask w tasks k t s → is_settled s ≡ false → settled_outcome w k ≡ None
unsettled-there w tasks k t s known open_yet = ap outcome_in known.life ∙ unsettled t s known.state open_yet

pub path-is : (w : Known) (tasks : List Task) (k : ℕ) (t : Task) (s : Status) → KnownTask w tasks k t s → t.record.path ≡ path_at w k
path-is w tasks k t s known = sym (ap (λ (c : Call). c.path) known.call)

-- that a task of this path settles so
abbrev pub telling : Path → Status → Outcome → Settlement
telling path state outcome = record { path = path; status = state; outcome = outcome }

abbrev pub with-record : Task → TaskRecord → Task
with-record t r = record { «record» = r; end = t.end; ran = t.ran }

-- ---- a launch

launch-known : (w : Known) (tasks : List Task) (steps : List MainStep) (log : List Entry) (k : ℕ) (t : Task) → w ≡ with w tasks steps log → t ≡ get_or tasks k t → CanLaunch w k → KnownTask w tasks k t status.Pending
launch-known w tasks steps log k t is at can = known-task w tasks steps log k t status.Pending is at can.callback.pending (λ h. absurd (cc))

abbrev pub launched-record : TaskRecord → TaskRecord
launched-record r = record r { status = status.Launched; attempts = r.attempts + 1 }

pub launch-keeps : (w v : Known) (tasks : List Task) (steps : List MainStep) (log same_log log_after : List Entry) (running units k : ℕ) (t u s : Task) (r : TaskRecord) (path : Path) (attempt : ℕ) → w ≡ v → Keeps w tasks steps log running units → CanLaunch v k
    → t ≡ get_or tasks k t → r ≡ launched-record t.record
    → s ≡ get_or tasks k s → path ≡ s.record.path
    → u ≡ get_or (set tasks k (with-record t r)) k u → attempt ≡ u.record.attempts
    → same_log ≡ log → log_after ≡ same_log ++ entry.Launch path attempt ∷ []
    → Wrote w (launched v k) (set tasks k (with-record t r)) steps log_after running units
launch-keeps w v tasks steps log same_log log_after running units k t u s r path attempt view keeps can at is_r at_s is_path at_u is_attempt same after =
    let before = subst (λ (u : Known). CanLaunch u k) (sym view) can in
    let known = launch-known w tasks steps log k t keeps.is at before in
    let first = launch-known w tasks steps log k s keeps.is at_s before in
    let none = unsettled-there w tasks k t status.Pending known refl in
    let here : path ≡ path_at w k = is_path ∙ path-is w tasks k s status.Pending first in
    let back = written-back tasks k (with-record t r) u known.within at_u in
    let number : attempt ≡ (life_at w k).attempts + 1 = is_attempt ∙ ap (λ (t : Task). t.record.attempts) back ∙ ap (λ (r : TaskRecord). r.attempts) is_r ∙ ap (λ (l : Life). l.attempts + 1) (sym known.life) in
    let idle : runs t.record.status ≡ 0 = ap runs known.state in
    let out : runs r.status ≡ 0 = ap (λ (r : TaskRecord). runs r.status) is_r in
    let is : put w k (life_of (with-record t r)) (entry.Launch path attempt) ≡ launched w k = rw (is_r, here, number, known.life) refl in
    let as_many = stored-launched w k none in
    subst (λ (u : Known). Wrote w (launched u k) (set tasks k (with-record t r)) steps log_after running units) view
    (wrote w (launched w k) tasks steps log same_log log_after running running units units k t (with-record t r) (entry.Launch path attempt) keeps known.within at
    (rw is_r refl) (unsettled t status.Pending known.state refl) (omega (arith, idle, out)) same after
    is (keep-launched w k keeps.sound.fact.inv before) (passed-stays w (launched w k) refl as_many keeps.sound.fact.within) (keeps.sound.units_are ∙ sym as_many))

-- ---- a start

start-known : (w : Known) (tasks : List Task) (steps : List MainStep) (log : List Entry) (k : ℕ) (t : Task) → w ≡ with w tasks steps log → t ≡ get_or tasks k t → CanStart w k → KnownTask w tasks k t status.Launched
start-known w tasks steps log k t is at can = known-task w tasks steps log k t status.Launched is at can.waiting (λ h. absurd (cc))

abbrev pub started-record : TaskRecord → TaskRecord
started-record r = record r { status = status.Running }

pub start-keeps : (w v : Known) (tasks : List Task) (steps : List MainStep) (log same_log log_after : List Entry) (running units k : ℕ) (t u s : Task) (r : TaskRecord) (path : Path) (attempt : ℕ) → w ≡ v → Keeps w tasks steps log running units → CanStart v k
    → t ≡ get_or tasks k t → r ≡ started-record t.record
    → s ≡ get_or tasks k s → path ≡ s.record.path
    → u ≡ get_or tasks k u → attempt ≡ u.record.attempts
    → same_log ≡ log → log_after ≡ same_log ++ entry.Start path attempt 1 ∷ []
    → Wrote w (started v k) (set tasks k (with-record t r)) steps log_after (running + 1) units
start-keeps w v tasks steps log same_log log_after running units k t u s r path attempt view keeps can at is_r at_s is_path at_u is_attempt same after =
    let before = subst (λ (u : Known). CanStart u k) (sym view) can in
    let known = start-known w tasks steps log k t keeps.is at before in
    let first = start-known w tasks steps log k s keeps.is at_s before in
    let second = start-known w tasks steps log k u keeps.is at_u before in
    let none = unsettled-there w tasks k t status.Launched known refl in
    let here : path ≡ path_at w k = is_path ∙ path-is w tasks k s status.Launched first in
    let number : attempt ≡ (life_at w k).attempts = is_attempt ∙ ap (λ (l : Life). l.attempts) (sym second.life) in
    let idle : runs t.record.status ≡ 0 = ap runs known.state in
    let out : runs r.status ≡ 1 = ap (λ (r : TaskRecord). runs r.status) is_r in
    let is : put w k (life_of (with-record t r)) (entry.Start path attempt 1) ≡ started w k = rw (is_r, here, number, known.life) refl in
    let as_many = stored-started w k none in
    subst (λ (u : Known). Wrote w (started u k) (set tasks k (with-record t r)) steps log_after (running + 1) units) view
    (wrote w (started w k) tasks steps log same_log log_after running (running + 1) units units k t (with-record t r) (entry.Start path attempt 1) keeps known.within at
    (rw is_r refl) (unsettled t status.Launched known.state refl) (omega (arith, idle, out)) same after
    is (keep-started w k keeps.sound.fact.inv before) (passed-stays w (started w k) refl as_many keeps.sound.fact.within) (keeps.sound.units_are ∙ sym as_many))

-- ---- the end of an attempt

finish-known : (w : Known) (tasks : List Task) (steps : List MainStep) (log : List Entry) (k : ℕ) (t : Task) (outcome : Outcome) → w ≡ with w tasks steps log → t ≡ get_or tasks k t → CanFinish w k outcome → KnownTask w tasks k t status.Running
finish-known w tasks steps log k t outcome is at can = known-task w tasks steps log k t status.Running is at can.running (λ h. absurd (cc))

-- the attempt that ends is counted
pub finish-counted : (w v : Known) (tasks : List Task) (steps : List MainStep) (log : List Entry) (k running units : ℕ) (outcome : Outcome) → w ≡ v → Keeps w tasks steps log running units → CanFinish v k outcome → 1 ≤ running
finish-counted w v tasks steps log k running units outcome same keeps can =
    let before = subst (λ (u : Known). CanFinish u k outcome) (sym same) can in
    let lives : w.lives ≡ map life_of tasks = ap (λ (v : Known). v.lives) keeps.is in
    let runs_there : (get_or (map life_of tasks) k no_life).status ≡ status.Running = ap (λ (ls : List Life). (get_or ls k no_life).status) (sym lives) ∙ before.running in
    let one = runs-counted (map life_of tasks) k runs_there in
    let counted = keeps.sound.running in
    omega (arith, one, counted)

abbrev pub ended-record : TaskRecord → TaskRecord
ended-record r = record r { status = status.RunningEnded }

abbrev pub ended-task : Task → Outcome → Task
ended-task t outcome = record { «record» = t.record; end = Some outcome; ran = t.ran }

pub finish-keeps : (w v : Known) (tasks : List Task) (steps : List MainStep) (log log_after : List Entry) (running units k : ℕ) (t u s : Task) (r : TaskRecord) (path : Path) (attempt : ℕ) (word : List ℕ) (outcome : Outcome) → w ≡ v → Keeps w tasks steps log running units → CanFinish v k outcome
    → t ≡ get_or tasks k t → r ≡ ended-record t.record
    → u ≡ get_or tasks k u → attempt ≡ u.record.attempts
    → s ≡ get_or (set tasks k (with-record t r)) k s
    → path ≡ path_at v k → word ≡ word_of outcome
    → log_after ≡ log ++ entry.Ended path attempt 1 word ∷ []
    → Wrote w (finished v k outcome) (set (set tasks k (with-record t r)) k (ended-task s outcome)) steps log_after (running - 1) units
finish-keeps w v tasks steps log log_after running units k t u s r path attempt word outcome view keeps can at is_r at_u is_attempt at_s is_path is_word after =
    let before = subst (λ (u : Known). CanFinish u k outcome) (sym view) can in
    let counted = finish-counted w v tasks steps log k running units outcome view keeps can in
    let known = finish-known w tasks steps log k t outcome keeps.is at before in
    let second = finish-known w tasks steps log k u outcome keeps.is at_u before in
    let none = unsettled-there w tasks k t status.Running known refl in
    let here : path ≡ path_at w k = is_path ∙ ap (λ (u : Known). path_at u k) (sym view) in
    let back = written-back tasks k (with-record t r) s known.within at_s in
    let of_record : s.record ≡ r = ap (λ (t : Task). t.record) back in
    let of_body : s.ran ≡ t.ran = ap (λ (t : Task). t.ran) back in
    let number : attempt ≡ (life_at w k).attempts = is_attempt ∙ ap (λ (l : Life). l.attempts) (sym second.life) in
    let busy : runs t.record.status ≡ 1 = ap runs known.state in
    let out : runs s.record.status ≡ 0 = ap (λ (r : TaskRecord). runs r.status) (of_record ∙ is_r) in
    let is : put w k (life_of (ended-task s outcome)) (entry.Ended path attempt 1 word) ≡ finished w k outcome = rw (of_record, of_body, is_r, here, is_word, number, known.life) refl in
    let as_many = stored-finished w k outcome none in
    rw (set-set tasks k (with-record t r) (ended-task s outcome))
    (subst (λ (u : Known). Wrote w (finished u k outcome) (set tasks k (ended-task s outcome)) steps log_after (running - 1) units) view
    (wrote w (finished w k outcome) tasks steps log log log_after running (running - 1) units units k t (ended-task s outcome) (entry.Ended path attempt 1 word) keeps known.within at
    (rw (of_record, is_r) refl) (unsettled t status.Running known.state refl) (omega (arith, busy, out, counted)) refl after
    is (keep-finished w k outcome keeps.sound.fact.inv before) (passed-stays w (finished w k outcome) refl as_many keeps.sound.fact.within) (keeps.sound.units_are ∙ sym as_many)))

-- ---- settling by one of the first three rules

-- the states of tasks with an exception
failed-state : (P : Status → Type 0) → P status.DepFail → P status.Failed → (exception : Exception) → P (status_of (o.Failed exception))
failed-state P dependency failed (x.DependencyError paths) = dependency
failed-state P dependency failed exception = failed

fail-known : (w : Known) (tasks : List Task) (steps : List MainStep) (log : List Entry) (k : ℕ) (t : Task) (exception : Exception) → w ≡ with w tasks steps log → t ≡ get_or tasks k t → CanFail w k exception → KnownTask w tasks k t status.Pending
fail-known w tasks steps log k t exception is at can = known-task w tasks steps log k t status.Pending is at can.callback.pending (λ h. absurd (cc))

pub fail-allowed : (w v : Known) (tasks : List Task) (steps : List MainStep) (log : List Entry) (k : ℕ) (t : Task) (exception : Exception) (state : Status) → w ≡ v → w ≡ with w tasks steps log → CanFail v k exception → t ≡ get_or tasks k t → state ≡ status_of (o.Failed exception) → IsTrue (may_become t.record.status state)
fail-allowed w v tasks steps log k t exception state same is can at is_state =
    let known = fail-known w tasks steps log k t exception is at (subst (λ (u : Known). CanFail u k exception) (sym same) can) in
    rw (known.state, is_state) (failed-state (λ s. IsTrue (may_become status.Pending s)) refl refl exception)

abbrev pub settled-record : TaskRecord → Status → TaskRecord
settled-record r state = record r { status = state }

pub fail-keeps : (w v : Known) (tasks : List Task) (steps : List MainStep) (log same_log log_after : List Entry) (running units k : ℕ) (t u s : Task) (r : TaskRecord) (path : Path) (exception : Exception) (state : Status) → w ≡ v → w.told ≡ [] → Keeps w tasks steps log running units → CanFail v k exception
    → t ≡ get_or tasks k t → r ≡ settled-record t.record state
    → u ≡ get_or tasks k u → path ≡ u.record.path
    → s ≡ get_or (set tasks k (with-record t r)) k s
    → state ≡ status_of (o.Failed exception)
    → same_log ≡ log → log_after ≡ same_log ++ entry.Settled path state ∷ []
    → Wrote w (settled_as v k (o.Failed exception)) (set (set tasks k (with-record t r)) k (ended-task s (o.Failed exception))) steps log_after running units
fail-keeps w v tasks steps log same_log log_after running units k t u s r path exception state view untold keeps can at is_r at_u is_path at_s is_state same after =
    let before = subst (λ (u : Known). CanFail u k exception) (sym view) can in
    let outcome = o.Failed exception in
    let known = fail-known w tasks steps log k t exception keeps.is at before in
    let first = fail-known w tasks steps log k u exception keeps.is at_u before in
    let none = unsettled-there w tasks k t status.Pending known refl in
    let here : path ≡ path_at w k = is_path ∙ path-is w tasks k u status.Pending first in
    let back = written-back tasks k (with-record t r) s known.within at_s in
    let of_record : s.record ≡ r = ap (λ (t : Task). t.record) back in
    let of_body : s.ran ≡ t.ran = ap (λ (t : Task). t.ran) back in
    let idle : runs t.record.status ≡ 0 = ap runs known.state in
    let rests : runs state ≡ 0 = rw is_state (failed-state (λ s. runs s ≡ 0) refl refl exception) in
    let out : runs s.record.status ≡ 0 = ap (λ (r : TaskRecord). runs r.status) (of_record ∙ is_r) ∙ rests in
    let is : put w k (life_of (ended-task s outcome)) (entry.Settled path state) ≡ settled_as w k outcome = rw (of_record, of_body, is_r, here, is_state, known.life, untold) refl in
    let sum = stored-settled_as w k outcome known.lived none in
    let as_many : stored (settled_as w k outcome) ≡ stored w = omega (arith, sum) in
    rw (set-set tasks k (with-record t r) (ended-task s outcome))
    (subst (λ (u : Known). Wrote w (settled_as u k outcome) (set tasks k (ended-task s outcome)) steps log_after running units) view
    (wrote w (settled_as w k outcome) tasks steps log same_log log_after running running units units k t (ended-task s outcome) (entry.Settled path state) keeps known.within at
    (rw (of_record, is_r) refl) (unsettled t status.Pending known.state refl) (omega (arith, idle, out)) same after
    is (keep-failed w k exception keeps.sound.fact.inv before) (passed-stays w (settled_as w k outcome) refl as_many keeps.sound.fact.within) (keeps.sound.units_are ∙ sym as_many)))
