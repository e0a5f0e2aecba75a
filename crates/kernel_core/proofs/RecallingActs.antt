-- A task that is settled by what the memo has.
use Rattle.std.proofs.Common.{◌≡◌, ℕ, ◌+◌, ◌-◌, ◌^◌, ◌<◌, ◌≤◌, List, [], ◌∷◌, ◌++◌, Some, None, IsTrue, get_or, set, refl, sym, ◌∙◌, ap, subst, arith}
use Rattle.std.specs.Prelude.{min, reverse}
use Rattle.std.proofs.lemmas.List.{set-set}
use Rattle.flow_base.specs.declared.outcome.Outcome.{Outcome}
use Rattle.task_record.specs.declared.status.Status.TheVariants as status
use Rattle.task_record.specs.Tasks.{Task as TaskRecord}
use Rattle.task_record.specs.Transitions.{may_become}
use Rattle.event_log.specs.declared.entry.Entry.{Entry}
use Rattle.event_log.specs.declared.entry.Entry.TheVariants as entry
use Rattle.flow_meaning.specs.Inputs.{Path}
use Rattle.stored_units.specs.declared.units.Limit.TheVariants as limit
use Rattle.stored_units.specs.Stored.{max_stored, outcome_units}
use Rattle.kernel_model.specs.declared.answers.Refusal.TheVariants.{StoreLimit}
use Rattle.kernel_model.specs.Acts.{put, hit, recalled, settled_in, settlement_as}
use Rattle.kernel_model.specs.Invariants.{Inv}
use Rattle.kernel_model.specs.Known.{Known, path_at, value_of, settled_outcome}
use Rattle.kernel_model.specs.Limits.{passed, stored, IsRefusedFor}
use Rattle.kernel_model.proofs.Counting.{stored-settled_in}
use Rattle.kernel_model.proofs.KeepingMemo.{keep-recalled}
use Rattle.kernel_model.proofs.Passing.{passed-none, passed-stored}
use Rattle.kernel_model.proofs.Places.{status-within}
use Rattle.agenda_model.specs.Agendas.{runs}
use Rattle.kernel_core.specs.Memo.{MayRecall}
use Rattle.kernel_core.specs.Tasks.{life_of}
use Rattle.kernel_core.specs.declared.task.Task.{Task}
use Rattle.kernel_core.specs.declared.run_state.MainStep.{MainStep}
use Rattle.kernel_core.proofs.Settling.{units-within}
use Rattle.kernel_core.proofs.StateViews.{with, Keeps, Wrote, KnownTask, known-task, written-back, wrote-so, view-put, log-pushed}
use Rattle.kernel_core.proofs.TaskActs.{unsettled, unsettled-there, path-is, telling, with-record, settled-record, ended-task}

recall_known : (w : Known) (tasks : List Task) (steps : List MainStep) (log : List Entry) (k : ℕ) (t : Task) (outcome : Outcome) → w ≡ with w tasks steps log → t ≡ get_or tasks k t → MayRecall w k outcome → KnownTask w tasks k t status.Pending
recall_known w tasks steps log k t outcome is at may = known-task w tasks steps log k t status.Pending is at may.callback.pending (λ h. absurd (cc))

pub recall-allowed : (w v : Known) (tasks : List Task) (steps : List MainStep) (log : List Entry) (k : ℕ) (t : Task) (outcome : Outcome) → w ≡ v → w ≡ with w tasks steps log → MayRecall v k outcome → t ≡ get_or tasks k t → IsTrue (may_become t.record.status status.MemoDone)
recall-allowed w v tasks steps log k t outcome same is may at =
    let known = recall_known w tasks steps log k t outcome is at (subst (λ (u : Known). MayRecall u k outcome) (sym same) may) in
    rw known.state refl

-- the settlement is the task's
pub recall-tells : (w v : Known) (tasks : List Task) (steps : List MainStep) (log : List Entry) (k : ℕ) (u : Task) (path : Path) (outcome : Outcome) → w ≡ v → w ≡ with w tasks steps log → MayRecall v k outcome
    → u ≡ get_or tasks k u → path ≡ u.record.path → telling path status.MemoDone outcome ≡ settlement_as v k status.MemoDone outcome
recall-tells w v tasks steps log k u path outcome same is may at is_path =
    let known = recall_known w tasks steps log k u outcome is at (subst (λ (x : Known). MayRecall x k outcome) (sym same) may) in
    let here : path ≡ path_at v k = is_path ∙ path-is w tasks k u status.Pending known ∙ ap (λ (x : Known). path_at x k) same in
    ap (λ (p : Path). telling p status.MemoDone outcome) here

fits_sum : (most add u units : ℕ) → add ≡ min u (2 ^ 64 - 1) → most < 2 ^ 64 - 1 → add ≤ most - units → units ≤ most → (add ≡ u) × (units + u ≤ most)
fits_sum most add u units is small le within = (omega (arith, is, small, le, within), omega (arith, is, small, le, within))

past_sum : (most add u units : ℕ) → add ≡ min u (2 ^ 64 - 1) → most - units < add → units ≤ most → most < units + u
past_sum most add u units is lt within = omega (arith, is, lt, within)

pub recall-keeps : (w v : Known) (tasks : List Task) (steps : List MainStep) (log same_log log_hit log_after : List Entry) (running units add k : ℕ) (t u x s : Task) (r : TaskRecord) (first path : Path) (outcome : Outcome) → w ≡ v → w.told ≡ [] → Keeps w tasks steps log running units → MayRecall v k outcome
    → t ≡ get_or tasks k t → r ≡ settled-record t.record status.MemoDone
    → u ≡ get_or tasks k u → first ≡ u.record.path
    → x ≡ get_or tasks k x → path ≡ x.record.path
    → s ≡ get_or (set tasks k (with-record t r)) k s
    → add ≡ min (outcome_units outcome) (2 ^ 64 - 1) → add ≤ max_stored - units
    → same_log ≡ log → log_hit ≡ same_log ++ entry.MemoHit first ∷ [] → log_after ≡ log_hit ++ entry.Settled path status.MemoDone ∷ []
    → Wrote w (settled_in (hit v k) k status.MemoDone outcome) (set (set tasks k (with-record t r)) k (ended-task s outcome)) steps log_after running (units + add)
recall-keeps w v tasks steps log same_log log_hit log_after running units add k t u x s r first path outcome view untold keeps can at is_r at_u is_first at_x is_path at_s is_add small same hits after =
    let may = subst (λ (z : Known). MayRecall z k outcome) (sym view) can in
    let known = recall_known w tasks steps log k t outcome keeps.is at may in
    let known_u = recall_known w tasks steps log k u outcome keeps.is at_u may in
    let known_x = recall_known w tasks steps log k x outcome keeps.is at_x may in
    let none = unsettled-there w tasks k t status.Pending known refl in
    let here_u : first ≡ path_at w k = is_first ∙ path-is w tasks k u status.Pending known_u in
    let here_x : path ≡ path_at w k = is_path ∙ path-is w tasks k x status.Pending known_x in
    let back = written-back tasks k (with-record t r) s known.within at_s in
    let of_record : s.record ≡ r = ap (λ (t : Task). t.record) back in
    let of_body : s.ran ≡ t.ran = ap (λ (t : Task). t.ran) back in
    let idle : runs t.record.status ≡ 0 = ap runs known.state in
    let out : runs s.record.status ≡ 0 = ap (λ (r : TaskRecord). runs r.status) (of_record ∙ is_r) in
    let h : Known = hit w k in
    let log_h : List Entry = log ++ entry.MemoHit first ∷ [] in
    let is_h : h ≡ with h tasks steps log_h
    = ap (λ (z : Known). hit z k) keeps.is
    ∙ ap (λ (p : Path). record (with w tasks steps log) { past = entry.MemoHit p ∷ reverse log }) (sym (here_u ∙ ap (λ (z : Known). path_at z k) keeps.is))
    ∙ ap (λ (past : List Entry). record (with w tasks steps log) { past = past }) (sym (log-pushed log (entry.MemoHit first))) in
    let put_is : put h k (life_of (ended-task s outcome)) (entry.Settled path status.MemoDone) ≡ settled_in h k status.MemoDone outcome = rw (of_record, of_body, is_r, here_x, known.life, untold) refl in
    let logs : log_after ≡ log_h ++ entry.Settled path status.MemoDone ∷ [] = after ∙ ap (λ (l : List Entry). l ++ entry.Settled path status.MemoDone ∷ []) (hits ∙ ap (λ (l : List Entry). l ++ entry.MemoHit first ∷ []) same) in
    let open_yet = unsettled t status.Pending known.state refl in
    let seen : with w (set tasks k (ended-task s outcome)) steps log_after ≡ settled_in h k status.MemoDone outcome
    = ap (with w (set tasks k (ended-task s outcome)) steps) logs
    ∙ view-put h tasks steps log_h k t (ended-task s outcome) (entry.Settled path status.MemoDone) is_h keeps.sound.over known.within at (rw (of_record, is_r) refl) open_yet
    ∙ put_is in
    let inv : Inv (settled_in h k status.MemoDone outcome) = subst (λ (o : Outcome). Inv (settled_in h k status.MemoDone o)) (sym may.is) (keep-recalled w k may.saved keeps.sound.fact.inv (record { not_ended = may.not_ended; callback = may.callback; is = may.there })) in
    let sum = stored-settled_in h k status.MemoDone outcome refl known.lived none in
    let are = keeps.sound.units_are in
    let fits = fits_sum max_stored add (outcome_units outcome) units is_add (omega arith) small (units-within w tasks steps running units keeps.sound) in
    let exact = fits.0 in
    let below = fits.1 in
    let few = ((passed-none w).0 keeps.sound.fact.within).0 in
    let within : passed (settled_in h k status.MemoDone outcome) ≡ None = (passed-none (settled_in h k status.MemoDone outcome)).1 (few, omega (arith, sum, are, below)) in
    rw (set-set tasks k (with-record t r) (ended-task s outcome))
    (subst (λ (z : Known). Wrote w (settled_in (hit z k) k status.MemoDone outcome) (set tasks k (ended-task s outcome)) steps log_after running (units + add)) view
    (wrote-so w (settled_in h k status.MemoDone outcome) tasks steps log log_after running running units (units + add) k t (ended-task s outcome) keeps known.within at
    (rw (of_record, is_r) refl) open_yet (omega (arith, idle, out)) seen refl inv within (omega (arith, sum, are, exact))))

-- past the limit it is refused
pub recall-refused : (w v : Known) (tasks : List Task) (steps : List MainStep) (log : List Entry) (running units add k : ℕ) (outcome : Outcome) → w ≡ v → Keeps w tasks steps log running units → MayRecall v k outcome
    → add ≡ min (outcome_units outcome) (2 ^ 64 - 1) → max_stored - units < add
    → IsRefusedFor (λ u. u ≡ settled_in (hit v k) k status.MemoDone outcome) StoreLimit
recall-refused w v tasks steps log running units add k outcome view keeps can is_add large =
    let may = subst (λ (z : Known). MayRecall z k outcome) (sym view) can in
    let lives = keeps.sound.fact.inv.holds.tracks.lives in
    let within = status-within w lives k (λ e. absurd (let i = may.callback.pending in cc)) in
    let none : settled_outcome w k ≡ None = rw may.callback.pending refl in
    let h : Known = hit w k in
    let sum = stored-settled_in h k status.MemoDone outcome refl (omega (arith, lives, within)) none in
    let are = keeps.sound.units_are in
    let past = past_sum max_stored add (outcome_units outcome) units is_add large (units-within w tasks steps running units keeps.sound) in
    let few = ((passed-none w).0 keeps.sound.fact.within).0 in
    let limit_passed : passed (settled_in h k status.MemoDone outcome) ≡ Some limit.Stored = (passed-stored (settled_in h k status.MemoDone outcome)).1 (few, omega (arith, sum, are, past)) in
    subst (λ (z : Known). IsRefusedFor (λ u. u ≡ settled_in (hit z k) k status.MemoDone outcome) StoreLimit) view
    (settled_in h k status.MemoDone outcome, refl, limit_passed)
