-- What settling a task by the end of its attempt does to a state, and the end of a run.
use Rattle.std.proofs.Common.{◌≡◌, ℕ, ◌+◌, ◌-◌, ◌^◌, ◌<◌, ◌≤◌, List, [], ◌∷◌, ◌++◌, Option, Some, None, IsTrue, get_or, set, refl, sym, ◌∙◌, ap, subst, arith}
use Rattle.std.specs.Prelude.{min}
use Rattle.std.proofs.lemmas.List.{set-get_or}
use Rattle.flow_base.specs.declared.outcome.Exception.TheVariants as x
use Rattle.flow_base.specs.declared.outcome.Ended.{Ended}
use Rattle.flow_base.specs.declared.outcome.Ended.TheVariants as ended
use Rattle.flow_base.specs.declared.outcome.Outcome.{Outcome}
use Rattle.task_record.specs.declared.status.Status.{Status}
use Rattle.task_record.specs.declared.status.Status.TheVariants as status
use Rattle.task_record.specs.Tasks.{Task as TaskRecord}
use Rattle.task_record.specs.Transitions.{may_become}
use Rattle.event_log.specs.declared.entry.Entry.{Entry}
use Rattle.event_log.specs.declared.entry.Entry.TheVariants as entry
use Rattle.flow_meaning.specs.Evaluations.{no_losses}
use Rattle.flow_meaning.specs.Inputs.{Path}
use Rattle.flow_meaning.specs.Sequential.{outcome_of, apply}
use Rattle.body_requests.proofs.OwnBlocks.{EndsOwn, apply-own}
use Rattle.call_rules.specs.Calls.{Begin, outcome_with}
use Rattle.history_laws.specs.Tables.{status_of}
use Rattle.stored_units.specs.declared.units.Limit.TheVariants as limit
use Rattle.stored_units.specs.Stored.{outcome_units, max_stored}
use Rattle.kernel_model.specs.declared.answers.Refusal.TheVariants.{StoreLimit}
use Rattle.kernel_model.specs.Known.{Known, Life, call_at, path_at, life_at, status_at, known, apps_in}
use Rattle.kernel_model.specs.Invariants.{HasRun, Inv}
use Rattle.kernel_model.specs.Limits.{passed, IsRefusedFor}
use Rattle.kernel_model.specs.Acts.{put, settled_as, settlement_of, over}
use Rattle.kernel_model.specs.Turns.{Settles}
use Rattle.kernel_model.specs.Conditions.{CanEnd}
use Rattle.kernel_model.proofs.Counting.{stored-settled_as}
use Rattle.kernel_model.proofs.Passing.{passed-none, passed-stored}
use Rattle.kernel_model.proofs.KeepingTasks.{keep-settled}
use Rattle.kernel_model.proofs.KeepingEnd.{keep-over}
use Rattle.kernel_core.specs.Memo.{IsKeptTask}
use Rattle.kernel_core.specs.Tasks.{life_of}
use Rattle.agenda_model.specs.Agendas.{runs}
use Rattle.kernel_core.specs.Turned.{AttemptIsOver}
use Rattle.kernel_core.specs.Views.{IsSound}
use Rattle.kernel_core.specs.declared.task.Task.{Task}
use Rattle.kernel_core.specs.declared.run_state.MainStep.{MainStep}
use Rattle.kernel_core.proofs.StateViews.{with, Keeps, Wrote, KnownTask, known-task, log-pushed, wrote, sound-same}
use Rattle.kernel_core.proofs.TaskActs.{telling, with-record, settled-record, unsettled, unsettled-there, path-is}

-- ---- the state in which an attempt's end settles its task

end-state : (P : Status → Type 0) → P status.ExecDone → P status.Failed → (e : Ended) → EndsOwn e → P (status_of (outcome_of e))
end-state P done failed (ended.Value value files) own = done
end-state P done failed (ended.Raised x.ZeroDivisionError) own = failed
end-state P done failed (ended.Raised x.OverflowError) own = failed
end-state P done failed (ended.Raised x.TypeError) own = failed
end-state P done failed (ended.Raised x.IndexError) own = failed
end-state P done failed (ended.Raised x.ValueError) own = failed
end-state P done failed (ended.Raised x.SizeError) own = failed
end-state P done failed (ended.Raised x.BudgetError) own = failed
end-state P done failed (ended.Raised x.MissingOutputs) own = failed
end-state P done failed (ended.Raised (x.AppError text)) own = failed
end-state P done failed (ended.Raised (x.DependencyError paths)) own = absurd own
end-state P done failed (ended.Raised (x.JoinError paths)) own = failed
end-state P done failed (ended.Raised x.DepthError) own = failed
end-state P done failed (ended.Raised (x.ManagerLost manager)) own = failed

attempt-state : (P : Status → Type 0) → P status.ExecDone → P status.Failed → (w : Known) (k : ℕ) (outcome : Outcome) → Inv w → status_at w k ≡ status.RunningEnded → (life_at w k).end ≡ Some outcome → P (status_of outcome)
attempt-state P done failed w k outcome inv is ends =
    let attempt = inv.holds.runs.attempted k (subst HasRun (sym is) tt) in
    let by_body = inv.holds.runs.ended k outcome is ends in
    let body_end : outcome ≡ outcome_of (apply attempt.app attempt.values (call_at w k).names) = by_body ∙ ap (λ (b : Begin). outcome_with (apps_in w) no_losses (known w) (call_at w k) b) attempt.begins in
    subst (λ (q : Outcome). P (status_of q)) (sym body_end) (end-state P done failed (apply attempt.app attempt.values (call_at w k).names) (apply-own attempt.app attempt.values (call_at w k).names))

-- ---- what is known of the task

over-known : (w : Known) (tasks : List Task) (steps : List MainStep) (log : List Entry) (k : ℕ) (t : Task) → w ≡ with w tasks steps log → t ≡ get_or tasks k t → status_at w k ≡ status.RunningEnded → KnownTask w tasks k t status.RunningEnded
over-known w tasks steps log k t is at state = known-task w tasks steps log k t status.RunningEnded is at state (λ h. absurd (cc))

pub settle-allowed : (w v : Known) (tasks : List Task) (steps : List MainStep) (log : List Entry) (running units k : ℕ) (t u : Task) (outcome : Outcome) (state : Status) → w ≡ v → Keeps w tasks steps log running units → AttemptIsOver v k
    → t ≡ get_or tasks k t → u ≡ get_or tasks k u → u.end ≡ Some outcome → state ≡ status_of outcome → IsTrue (may_become t.record.status state)
settle-allowed w v tasks steps log running units k t u outcome state same keeps over at at_u end is_state =
    let is : status_at w k ≡ status.RunningEnded = ap (λ (u : Known). status_at u k) same ∙ over.over in
    let known = over-known w tasks steps log k t keeps.is at is in
    let also = over-known w tasks steps log k u keeps.is at_u is in
    let ends = ap (λ (l : Life). l.end) also.life ∙ end in
    rw (known.state, is_state) (attempt-state (λ s. IsTrue (may_become status.RunningEnded s)) refl refl w k outcome keeps.sound.fact.inv is ends)

-- the path of the record is the task's
pub settle-path : (w v : Known) (tasks : List Task) (steps : List MainStep) (log : List Entry) (k : ℕ) (u : Task) (path : Path) → w ≡ v → w ≡ with w tasks steps log → AttemptIsOver v k → u ≡ get_or tasks k u → path ≡ u.record.path → path ≡ path_at v k
settle-path w v tasks steps log k u path same is over at is_path =
    let known = over-known w tasks steps log k u is at (ap (λ (u : Known). status_at u k) same ∙ over.over) in
    is_path ∙ path-is w tasks k u status.RunningEnded known ∙ ap (λ (u : Known). path_at u k) same

-- there is one end
pub settle-found : (w v : Known) (tasks : List Task) (steps : List MainStep) (log : List Entry) (running units k : ℕ) (u : Task) (found outcome : Outcome) → w ≡ v → Keeps w tasks steps log running units → AttemptIsOver v k → u ≡ get_or tasks k u → u.end ≡ Some found → (life_at v k).end ≡ Some outcome → found ≡ outcome
settle-found w v tasks steps log running units k u found outcome same keeps over at_u end ends =
    let is : status_at w k ≡ status.RunningEnded = ap (λ (u : Known). status_at u k) same ∙ over.over in
    let known = over-known w tasks steps log k u keeps.is at_u is in
    let one : Some found ≡ Some outcome = sym end ∙ ap (λ (l : Life). l.end) (sym known.life) ∙ ap (λ (u : Known). (life_at u k).end) same ∙ ends in
    cc

-- the end of its attempt is the one that the task keeps
pub settle-end : (w v : Known) (tasks : List Task) (steps : List MainStep) (log : List Entry) (k : ℕ) (t : Task) (outcome : Outcome) → w ≡ v → w ≡ with w tasks steps log → AttemptIsOver v k → t ≡ get_or tasks k t → (life_at v k).end ≡ Some outcome → t.end ≡ Some outcome
settle-end w v tasks steps log k t outcome same is over at ends =
    let known = over-known w tasks steps log k t is at (ap (λ (u : Known). status_at u k) same ∙ over.over) in
    ap (λ (l : Life). l.end) (sym known.life) ∙ ap (λ (u : Known). (life_at u k).end) same ∙ ends

-- ---- what the graph is told

-- an end that is written as it was changes no task
pub end-same : (tasks : List Task) (k : ℕ) (t : Task) (end : Option Outcome) → t ≡ get_or tasks k t → end ≡ t.end → set tasks k (record { «record» = t.record; end = end; ran = t.ran }) ≡ tasks
end-same tasks k t end at same = rw same (ap (set tasks k) at ∙ set-get_or tasks k t)

-- the settlement is the task's
pub settle-tells : (w v : Known) (tasks : List Task) (steps : List MainStep) (log : List Entry) (running units k : ℕ) (u s : Task) (path : Path) (found outcome : Outcome) (state : Status) → w ≡ v → Keeps w tasks steps log running units → AttemptIsOver v k
    → s ≡ get_or tasks k s → path ≡ s.record.path
    → u ≡ get_or tasks k u → u.end ≡ Some found
    → state ≡ status_of found → (life_at v k).end ≡ Some outcome
    → telling path state outcome ≡ settlement_of v k outcome
settle-tells w v tasks steps log running units k u s path found outcome state view keeps over at_s is_path at_u end is_state ends =
    let here = settle-path w v tasks steps log k s path view keeps.is over at_s is_path in
    let same = settle-found w v tasks steps log running units k u found outcome view keeps over at_u end ends in
    rw (here, is_state, same) refl

-- ---- units

-- the units so far are within the limit
pub units-within : (w : Known) (tasks : List Task) (steps : List MainStep) (running units : ℕ) → IsSound w tasks steps running units → units ≤ max_stored
units-within w tasks steps running units sound =
    let small = ((passed-none w).0 sound.fact.within).1 in
    let are = sound.units_are in
    omega (arith, small, are)

fits-sum : (most add u units : ℕ) → add ≡ min u (2 ^ 64 - 1) → most < 2 ^ 64 - 1 → add ≤ most - units → units ≤ most → (add ≡ u) × (units + u ≤ most)
fits-sum most add u units is small le within = (omega (arith, is, small, le, within), omega (arith, is, small, le, within))

past-sum : (most add u units : ℕ) → add ≡ min u (2 ^ 64 - 1) → most - units < add → units ≤ most → most < units + u
past-sum most add u units is lt within = omega (arith, is, lt, within)

-- ---- the act

pub settle-keeps : (w v : Known) (tasks : List Task) (steps : List MainStep) (log same_log log_after : List Entry) (running units add k : ℕ) (t u s : Task) (r : TaskRecord) (path : Path) (outcome : Outcome) (state : Status) → w ≡ v → w.told ≡ [] → Keeps w tasks steps log running units → AttemptIsOver v k → IsKeptTask v k
    → t ≡ get_or tasks k t → r ≡ settled-record t.record state
    → s ≡ get_or tasks k s → path ≡ s.record.path
    → u ≡ get_or tasks k u → u.end ≡ Some outcome
    → state ≡ status_of outcome
    → add ≡ min (outcome_units outcome) (2 ^ 64 - 1) → add ≤ max_stored - units
    → same_log ≡ log → log_after ≡ same_log ++ entry.Settled path state ∷ []
    → Wrote w (settled_as v k outcome) (set tasks k (with-record t r)) steps log_after running (units + add)
settle-keeps w v tasks steps log same_log log_after running units add k t u s r path outcome state view untold keeps over no_store at is_r at_s is_path at_u end is_state is_add small same after =
    let not_ended = subst (λ (u : Known). AttemptIsOver u k) (sym view) over in
    let is_over : status_at w k ≡ status.RunningEnded = not_ended.over in
    let known = over-known w tasks steps log k t keeps.is at is_over in
    let also = over-known w tasks steps log k u keeps.is at_u is_over in
    let first = over-known w tasks steps log k s keeps.is at_s is_over in
    let ends = ap (λ (l : Life). l.end) also.life ∙ end in
    let of_task : t.end ≡ Some outcome = ap (λ (l : Life). l.end) (sym known.life) ∙ ends in
    let none = unsettled-there w tasks k t status.RunningEnded known refl in
    let here : path ≡ path_at w k = is_path ∙ path-is w tasks k s status.RunningEnded first in
    let idle : runs t.record.status ≡ 0 = ap runs known.state in
    let rests : runs state ≡ 0 = rw is_state (attempt-state (λ s. runs s ≡ 0) refl refl w k outcome keeps.sound.fact.inv is_over ends) in
    let out : runs r.status ≡ 0 = ap (λ (r : TaskRecord). runs r.status) is_r ∙ rests in
    let is : put w k (life_of (with-record t r)) (entry.Settled path state) ≡ settled_as w k outcome = rw (is_r, here, is_state, known.life, of_task, untold) refl in
    let inv = keep-settled w k outcome keeps.sound.fact.inv (record { not_ended = not_ended.not_ended; ready = record { over = is_over; is = ends; kept = subst (λ (u : Known). IsKeptTask u k) (sym view) no_store outcome ends } }) in
    let sum = stored-settled_as w k outcome known.lived none in
    let are = keeps.sound.units_are in
    let fits = fits-sum max_stored add (outcome_units outcome) units is_add (omega arith) small (units-within w tasks steps running units keeps.sound) in
    let exact = fits.0 in
    let below = fits.1 in
    let few = ((passed-none w).0 keeps.sound.fact.within).0 in
    let within : passed (settled_as w k outcome) ≡ None = (passed-none (settled_as w k outcome)).1 (few, omega (arith, sum, are, below)) in
    subst (λ (u : Known). Wrote w (settled_as u k outcome) (set tasks k (with-record t r)) steps log_after running (units + add)) view
    (wrote w (settled_as w k outcome) tasks steps log same_log log_after running running units (units + add) k t (with-record t r) (entry.Settled path state) keeps known.within at
    (rw is_r refl) (unsettled t status.RunningEnded known.state refl) (omega (arith, idle, out)) same after
    is inv within (omega (arith, sum, are, exact)))

-- the same where the end was written as it was before
pub settle-writes : (w v : Known) (tasks written : List Task) (steps : List MainStep) (log same_log log_after : List Entry) (running units add k : ℕ) (t u s : Task) (r : TaskRecord) (path : Path) (outcome : Outcome) (state : Status) → w ≡ v → w.told ≡ [] → written ≡ tasks → Keeps w tasks steps log running units → AttemptIsOver v k → IsKeptTask v k
    → t ≡ get_or written k t → r ≡ settled-record t.record state
    → s ≡ get_or tasks k s → path ≡ s.record.path
    → u ≡ get_or tasks k u → u.end ≡ Some outcome
    → state ≡ status_of outcome
    → add ≡ min (outcome_units outcome) (2 ^ 64 - 1) → add ≤ max_stored - units
    → same_log ≡ log → log_after ≡ same_log ++ entry.Settled path state ∷ []
    → Wrote w (settled_as v k outcome) (set written k (with-record t r)) steps log_after running (units + add)
settle-writes w v tasks written steps log same_log log_after running units add k t u s r path outcome state view untold as_before keeps over no_store at is_r at_s is_path at_u end is_state is_add small same after =
    subst (λ (ts : List Task). Wrote w (settled_as v k outcome) (set ts k (with-record t r)) steps log_after running (units + add)) (sym as_before)
    (settle-keeps w v tasks steps log same_log log_after running units add k t u s r path outcome state view untold keeps over no_store (subst (λ (ts : List Task). t ≡ get_or ts k t) as_before at) is_r at_s is_path at_u end is_state is_add small same after)

-- past the limit it is refused
pub settle-refused : (w v : Known) (tasks : List Task) (steps : List MainStep) (log : List Entry) (running units add k : ℕ) (u : Task) (outcome : Outcome) → w ≡ v → Keeps w tasks steps log running units → AttemptIsOver v k → IsKeptTask v k
    → u ≡ get_or tasks k u → u.end ≡ Some outcome
    → add ≡ min (outcome_units outcome) (2 ^ 64 - 1) → max_stored - units < add
    → IsRefusedFor (Settles v) StoreLimit
settle-refused w v tasks steps log running units add k u outcome view keeps over no_store at_u end is_add large =
    let not_ended = subst (λ (u : Known). AttemptIsOver u k) (sym view) over in
    let is_over : status_at w k ≡ status.RunningEnded = not_ended.over in
    let known = over-known w tasks steps log k u keeps.is at_u is_over in
    let ends = ap (λ (l : Life). l.end) known.life ∙ end in
    let none = unsettled-there w tasks k u status.RunningEnded known refl in
    let sum = stored-settled_as w k outcome known.lived none in
    let are = keeps.sound.units_are in
    let past = past-sum max_stored add (outcome_units outcome) units is_add large (units-within w tasks steps running units keeps.sound) in
    let few = ((passed-none w).0 keeps.sound.fact.within).0 in
    let limit_passed : passed (settled_as w k outcome) ≡ Some limit.Stored = (passed-stored (settled_as w k outcome)).1 (few, omega (arith, sum, are, past)) in
    subst (λ (u : Known). IsRefusedFor (Settles u) StoreLimit) view
    (settled_as w k outcome, record { task = k; outcome = outcome; ready = record { over = is_over; is = ends; kept = subst (λ (u : Known). IsKeptTask u k) (sym view) no_store outcome ends }; after = refl }, limit_passed)

-- ---- the end

pub end-keeps : (w v : Known) (tasks : List Task) (steps : List MainStep) (log same_log log_after : List Entry) (running units : ℕ) → w ≡ v → Keeps w tasks steps log running units → CanEnd v → same_log ≡ log → log_after ≡ same_log ++ entry.End ∷ [] → Wrote w (over v) tasks steps log_after running units
end-keeps w v tasks steps log same_log log_after running units view keeps can same after =
    let before = subst CanEnd (sym view) can in
    let logs : log_after ≡ log ++ entry.End ∷ [] = after ∙ ap (λ (l : List Entry). l ++ entry.End ∷ []) same in
    let pushed : with w tasks steps log_after ≡ over w = ap (with w tasks steps) logs ∙ ap (λ (past : List Entry). record (with w tasks steps log) { past = past }) (log-pushed log entry.End) ∙ ap over (sym keeps.is) in
    subst (λ (u : Known). Wrote w (over u) tasks steps log_after running units) view
    (record {
      view = pushed;
      sound = subst (λ (u : Known). IsSound u tasks steps running units) (sym pushed) (sound-same w (over w) tasks steps running units keeps.sound (keep-over w keeps.sound.fact.inv before) refl refl refl);
    })
