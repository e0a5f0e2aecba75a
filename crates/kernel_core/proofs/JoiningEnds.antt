-- What the end of a join does to a state: its task settles by the outcomes of what its body returned.
use Rattle.std.proofs.Common.{◌≡◌, ℕ, ◌+◌, ◌-◌, ◌^◌, ◌<◌, ◌≤◌, Bool, true, false, List, [], ◌∷◌, ◌++◌, Option, Some, None, IsTrue, get_or, set, refl, sym, ◌∙◌, ap, subst, arith}
use Rattle.std.specs.Prelude.{Result, Ok, Err, if◌then◌else◌, option_map, min}
use Rattle.std.proofs.lemmas.List.{set-set}
use Rattle.flow_base.specs.Values.{fits}
use Rattle.flow_base.specs.declared.value.Value.{Value, out-Value}
use Rattle.flow_base.specs.declared.value.Value.TheOpen.{Value-F}
use Rattle.flow_base.specs.declared.outcome.Ended.{Ended}
use Rattle.flow_base.specs.declared.outcome.Exception.{Exception}
use Rattle.flow_base.specs.declared.outcome.Exception.TheVariants as x
use Rattle.flow_base.specs.declared.outcome.Outcome.{Outcome}
use Rattle.flow_base.specs.declared.outcome.Outcome.TheVariants as o
use Rattle.task_record.specs.declared.status.Status.{Status}
use Rattle.task_record.specs.declared.status.Status.TheVariants as status
use Rattle.task_record.specs.Tasks.{Task as TaskRecord}
use Rattle.task_record.specs.Transitions.{may_become}
use Rattle.task_record.specs.States.{is_settled}
use Rattle.event_log.specs.declared.entry.Entry.{Entry}
use Rattle.event_log.specs.declared.entry.Entry.TheVariants as entry
use Rattle.dependency_graph.specs.declared.monitor.Settlement.{Settlement}
use Rattle.dependency_graph.specs.Graphs.{Graph, ToldSome}
use Rattle.dependency_graph.specs.Monitors.{tell_first, ToldFirst}
use Rattle.flow_meaning.specs.Inputs.{Path, distinct}
use Rattle.flow_meaning.specs.Meaning.{Done}
use Rattle.flow_meaning.specs.Operators.{Layer}
use Rattle.flow_meaning.specs.Sequential.{Tasks, outcome_at, value_in, failed, failed_among, futures_in, one_value, limited_outcome, unless_failed, all_values, join_value, join_outcome}
use Rattle.body_requests.proofs.OwnExceptions.{IsOwn}
use Rattle.call_rules.proofs.Tasks.{same-some}
use Rattle.history_laws.specs.Tables.{status_of}
use Rattle.join_apps.specs.Bodies.{result_of}
use Rattle.stored_units.specs.declared.units.Limit.TheVariants as limit
use Rattle.stored_units.specs.Stored.{outcome_units, max_stored}
use Rattle.kernel_model.specs.declared.answers.Refusal.TheVariants.{StoreLimit}
use Rattle.kernel_model.specs.Known.{Known, Life, path_at, life_at, status_at, known, apps_in}
use Rattle.kernel_model.specs.Invariants.{Inv}
use Rattle.kernel_model.specs.Limits.{passed, IsRefusedFor}
use Rattle.kernel_model.specs.Acts.{put, settled_as, settlement_of}
use Rattle.kernel_model.specs.Turns.{IsJoinDone}
use Rattle.kernel_model.proofs.Counting.{stored-settled_as}
use Rattle.kernel_model.proofs.Passing.{passed-none, passed-stored}
use Rattle.kernel_model.proofs.KeepingTasks.{keep-join-ended}
use Rattle.kernel_core.specs.Joins.{IsOver, JoinEnds}
use Rattle.kernel_core.specs.Tasks.{life_of}
use Rattle.agenda_model.specs.Agendas.{runs}
use Rattle.kernel_core.specs.Views.{IsSound}
use Rattle.kernel_core.specs.declared.task.Task.{Task}
use Rattle.kernel_core.specs.declared.run_state.MainStep.{MainStep}
use Rattle.kernel_core.proofs.JoiningExceptions.{GivesOwn, join-own}
use Rattle.kernel_core.proofs.StateViews.{with, Keeps, Wrote, KnownTask, known-task, written-back, wrote}
use Rattle.kernel_core.proofs.TaskActs.{telling, with-record, ended-task, settled-record, unsettled, unsettled-there, path-is}

-- ---- the state in which a join settles

module _ (P : Status → Type 0) (done : P status.ExecDone) (failing : P status.Failed) where
  own_state : (exception : Exception) → IsOwn exception → P (status_of (o.Failed exception))
  own_state (x.DependencyError paths) own = absurd own
  own_state x.ZeroDivisionError own = failing
  own_state x.OverflowError own = failing
  own_state x.TypeError own = failing
  own_state x.IndexError own = failing
  own_state x.ValueError own = failing
  own_state x.SizeError own = failing
  own_state x.BudgetError own = failing
  own_state x.MissingOutputs own = failing
  own_state (x.AppError text) own = failing
  own_state (x.JoinError paths) own = failing
  own_state x.DepthError own = failing
  own_state (x.ManagerLost manager) own = failing

  if_state : (t : Bool) (a b : Outcome) → P (status_of a) → P (status_of b) → P (status_of (if t then a else b))
  if_state true a b h k = h
  if_state false a b h k = k

  one_state : (ts : Tasks) (p : Path) → P (status_of (one_value ts p))
  one_state ts p = if_state (failed (outcome_at ts p)) (o.Failed (x.JoinError (p ∷ []))) (o.Value (value_in (outcome_at ts p)) []) failing done

  limited_state : (value : Value) → P (status_of (limited_outcome value))
  limited_state value = if_state (fits value) (o.Value value []) (o.Failed x.SizeError) done failing

  unless_state : (ps : List Path) (outcome : Outcome) → P (status_of outcome) → P (status_of (unless_failed ps outcome))
  unless_state [] outcome h = h
  unless_state (p ∷ ps) outcome h = failing

  all_state : (ts : Tasks) (ps : Option (List Path)) → P (status_of (all_values ts ps))
  all_state ts None = failing
  all_state ts (Some ps) = unless_state (failed_among ts (distinct ps)) _ (limited_state _)

  value_state : (ts : Tasks) (l : Layer) → P (status_of (join_value ts l))
  value_state ts (Value-F.Future path outputs) = one_state ts path
  value_state ts (Value-F.List vs) = all_state ts (futures_in vs)
  value_state ts _ = failing

  result_state : (ts : Tasks) (result : Result Done Exception) → GivesOwn result → P (status_of (join_outcome ts result))
  unfolding join_outcome
  result_state ts (Ok d) own = value_state ts (out-Value d.0)
  result_state ts (Err exception) own = own_state exception own

  pub join-state : (w : Known) (k : ℕ) (result : Result Done Exception) → Inv w → (life_at w k).ran ≡ Some result → P (status_of (join_outcome (known w) result))
  join-state w k result inv ran =
      let joined = inv.holds.joins.ran k result ran in
      result_state (known w) result (subst GivesOwn (sym joined.gave) (join-own (apps_in w) (path_at w k) joined.app joined.values))

-- ---- what is known of the task

joining-known : (w : Known) (tasks : List Task) (steps : List MainStep) (log : List Entry) (k : ℕ) (t : Task) → w ≡ with w tasks steps log → t ≡ get_or tasks k t → status_at w k ≡ status.Joining → KnownTask w tasks k t status.Joining
joining-known w tasks steps log k t is at state = known-task w tasks steps log k t status.Joining is at state (λ h. absurd (cc))

-- a join that is over is there
pub over-within : (w v : Known) (tasks : List Task) (steps : List MainStep) (log : List Entry) (k : ℕ) (t : Task) → w ≡ v → w ≡ with w tasks steps log → t ≡ get_or tasks k t → IsOver v k → KnownTask w tasks k t status.Joining
over-within w v tasks steps log k t view is at over = joining-known w tasks steps log k t is at (ap (λ (u : Known). status_at u k) view ∙ over.done.joining)

-- the path of the record is the task's
pub end-path : (w v : Known) (tasks : List Task) (steps : List MainStep) (log : List Entry) (k : ℕ) (u : Task) (path : Path) → w ≡ v → w ≡ with w tasks steps log → IsOver v k → u ≡ get_or tasks k u → path ≡ u.record.path → path ≡ path_at v k
end-path w v tasks steps log k u path same is over at is_path =
    is_path ∙ path-is w tasks k u status.Joining (over-within w v tasks steps log k u same is at over) ∙ ap (λ (u : Known). path_at u k) same

-- its body ended so
over_ran : (w : Known) (tasks : List Task) (k : ℕ) (t : Task) (ended : Ended) → KnownTask w tasks k t status.Joining → t.ran ≡ Some ended → (life_at w k).ran ≡ Some (result_of ended)
over_ran w tasks k t ended known ran = ap (λ (l : Life). l.ran) known.life ∙ ap (option_map result_of) ran

-- the outcome of a join that is over
pub record Settles (w : Known) (k : ℕ) (outcome : Outcome) : Type 0 where
  pub result : Result Done Exception
  pub ran : (life_at w k).ran ≡ Some result
  pub is : outcome ≡ join_outcome (known w) result

pub settles-by : (w v : Known) (tasks : List Task) (steps : List MainStep) (log : List Entry) (k : ℕ) (t : Task) (ended : Ended) (ts : Tasks) (outcome : Outcome) → w ≡ v → w ≡ with w tasks steps log → t ≡ get_or tasks k t → IsOver v k → t.ran ≡ Some ended
    → ts ≡ known v → outcome ≡ join_outcome ts (result_of ended) → Settles w k outcome
settles-by w v tasks steps log k t ended ts outcome view is at over ran known_is gives = record {
  result = result_of ended;
  ran = over_ran w tasks k t ended (over-within w v tasks steps log k t view is at over) ran;
  is = gives ∙ ap (λ (us : Tasks). join_outcome us (result_of ended)) (known_is ∙ ap known (sym view));
}

-- it is the one that ends the join
settles_only : (w : Known) (k : ℕ) (outcome : Outcome) → Settles w k outcome → JoinEnds w k (settled_as w k outcome)
settles_only w k outcome s done =
    let same : s.result ≡ done.result = same-some s.result done.result (sym s.ran ∙ done.ran) in
    ap (settled_as w k) (s.is ∙ ap (join_outcome (known w)) same)

-- ---- what the graph is told

-- the settlement is the join's
pub end-tells : (w v : Known) (tasks : List Task) (steps : List MainStep) (log : List Entry) (k : ℕ) (u : Task) (path : Path) (outcome : Outcome) (state : Status) → w ≡ v → w ≡ with w tasks steps log → IsOver v k
    → u ≡ get_or tasks k u → path ≡ u.record.path → Settles w k outcome → state ≡ status_of outcome
    → (done : IsJoinDone v k) → telling path state outcome ≡ settlement_of v k (join_outcome (known v) done.result)
end-tells w v tasks steps log k u path outcome state view is over at_u is_path s is_state done =
    let here = end-path w v tasks steps log k u path view is over at_u is_path in
    let same : s.result ≡ done.result = same-some s.result done.result (sym s.ran ∙ ap (λ (u : Known). (life_at u k).ran) view ∙ done.ran) in
    let gives : outcome ≡ join_outcome (known v) done.result = s.is ∙ ap (λ (u : Known). join_outcome (known u) s.result) view ∙ ap (join_outcome (known v)) same in
    rw (here, is_state, gives) refl

-- the first monitors were told of it, where the graph gave up
pub told-first : (s t : Settlement) (old new : Graph) → s ≡ t → ToldSome s old new → ToldFirst t old.told new.told
told-first s t old new same some = record { count = some.count; is = ap (λ (g : Graph). g.told) some.is ∙ ap (λ (u : Settlement). tell_first some.count u old.told) same }

-- ---- the state

pub end-allowed : (w v : Known) (tasks : List Task) (steps : List MainStep) (log : List Entry) (k : ℕ) (t : Task) (outcome : Outcome) (state : Status) → w ≡ v → w ≡ with w tasks steps log → Inv w → IsOver v k
    → t ≡ get_or tasks k t → Settles w k outcome → state ≡ status_of outcome → IsTrue (is_settled state) × IsTrue (may_become t.record.status state)
end-allowed w v tasks steps log k t outcome state view is inv over at s is_state =
    let task = over-within w v tasks steps log k t view is at over in
    let here : state ≡ status_of (join_outcome (known w) s.result) = is_state ∙ ap status_of s.is in
    rw (task.state, here) (join-state (λ q. IsTrue (is_settled q) × IsTrue (may_become status.Joining q)) (refl, refl) (refl, refl) w k s.result inv s.ran)

-- ---- units

units_within : (w : Known) (tasks : List Task) (steps : List MainStep) (running units : ℕ) → IsSound w tasks steps running units → units ≤ max_stored
units_within w tasks steps running units sound =
    let small = ((passed-none w).0 sound.fact.within).1 in
    let are = sound.units_are in
    omega (arith, small, are)

fits_sum : (most add u units : ℕ) → add ≡ min u (2 ^ 64 - 1) → most < 2 ^ 64 - 1 → add ≤ most - units → units ≤ most → (add ≡ u) × (units + u ≤ most)
fits_sum most add u units is small le within = (omega (arith, is, small, le, within), omega (arith, is, small, le, within))

past_sum : (most add u units : ℕ) → add ≡ min u (2 ^ 64 - 1) → most - units < add → units ≤ most → most < units + u
past_sum most add u units is lt within = omega (arith, is, lt, within)

-- ---- the act

pub end-keeps : (w v : Known) (tasks : List Task) (steps : List MainStep) (log same_log log_after : List Entry) (running units add k : ℕ) (t u s : Task) (r : TaskRecord) (path : Path) (outcome : Outcome) (state : Status) → w ≡ v → w.told ≡ [] → Keeps w tasks steps log running units → IsOver v k
    → t ≡ get_or tasks k t → r ≡ settled-record t.record state
    → u ≡ get_or tasks k u → path ≡ u.record.path
    → s ≡ get_or (set tasks k (with-record t r)) k s
    → Settles w k outcome → state ≡ status_of outcome
    → add ≡ min (outcome_units outcome) (2 ^ 64 - 1) → add ≤ max_stored - units
    → same_log ≡ log → log_after ≡ same_log ++ entry.Settled path state ∷ []
    → Wrote w (settled_as v k outcome) (set (set tasks k (with-record t r)) k (ended-task s outcome)) steps log_after running (units + add)
end-keeps w v tasks steps log same_log log_after running units add k t u s r path outcome state view untold keeps over at is_r at_u is_path at_s settling is_state is_add small same after =
    let before = subst (λ (u : Known). IsOver u k) (sym view) over in
    let inv = keeps.sound.fact.inv in
    let task = joining-known w tasks steps log k t keeps.is at before.done.joining in
    let first = joining-known w tasks steps log k u keeps.is at_u before.done.joining in
    let none = unsettled-there w tasks k t status.Joining task refl in
    let here : path ≡ path_at w k = is_path ∙ path-is w tasks k u status.Joining first in
    let back = written-back tasks k (with-record t r) s task.within at_s in
    let of_record : s.record ≡ r = ap (λ (t : Task). t.record) back in
    let of_body : s.ran ≡ t.ran = ap (λ (t : Task). t.ran) back in
    let idle : runs t.record.status ≡ 0 = ap runs task.state in
    let rests : runs state ≡ 0 = rw (is_state, settling.is) (join-state (λ q. runs q ≡ 0) refl refl w k settling.result inv settling.ran) in
    let out : runs s.record.status ≡ 0 = ap (λ (r : TaskRecord). runs r.status) (of_record ∙ is_r) ∙ rests in
    let is : put w k (life_of (ended-task s outcome)) (entry.Settled path state) ≡ settled_as w k outcome = rw (of_record, of_body, is_r, here, is_state, task.life, untold) refl in
    let result : settling.result ≡ before.done.result = same-some settling.result before.done.result (sym settling.ran ∙ before.done.ran) in
    let kept = keep-join-ended w k outcome inv (record { not_ended = before.not_ended; done = before.done; is = settling.is ∙ ap (join_outcome (known w)) result }) in
    let sum = stored-settled_as w k outcome task.lived none in
    let are = keeps.sound.units_are in
    let fits = fits_sum max_stored add (outcome_units outcome) units is_add (omega arith) small (units_within w tasks steps running units keeps.sound) in
    let exact = fits.0 in
    let below = fits.1 in
    let few = ((passed-none w).0 keeps.sound.fact.within).0 in
    let within : passed (settled_as w k outcome) ≡ None = (passed-none (settled_as w k outcome)).1 (few, omega (arith, sum, are, below)) in
    rw (set-set tasks k (with-record t r) (ended-task s outcome))
    (subst (λ (u : Known). Wrote w (settled_as u k outcome) (set tasks k (ended-task s outcome)) steps log_after running (units + add)) view
    (wrote w (settled_as w k outcome) tasks steps log same_log log_after running running units (units + add) k t (ended-task s outcome) (entry.Settled path state) keeps task.within at
    (rw (of_record, is_r) refl) (unsettled t status.Joining task.state refl) (omega (arith, idle, out)) same after
    is kept within (omega (arith, sum, are, exact))))

pub end-ends : (w v : Known) (k : ℕ) (outcome : Outcome) (after : Known) → w ≡ v → Settles w k outcome → after ≡ settled_as v k outcome → JoinEnds v k after
end-ends w v k outcome after view s is =
    subst (λ (u : Known). JoinEnds v k u) (sym is) (subst (λ (u : Known). JoinEnds u k (settled_as u k outcome)) view (settles_only w k outcome s))

-- past the limit it is refused
pub end-refused : (w v : Known) (tasks : List Task) (steps : List MainStep) (log : List Entry) (running units add k : ℕ) (t : Task) (outcome : Outcome) → w ≡ v → Keeps w tasks steps log running units → IsOver v k
    → t ≡ get_or tasks k t → Settles w k outcome
    → add ≡ min (outcome_units outcome) (2 ^ 64 - 1) → max_stored - units < add
    → IsRefusedFor (JoinEnds v k) StoreLimit
end-refused w v tasks steps log running units add k t outcome view keeps over at settling is_add large =
    let before = subst (λ (u : Known). IsOver u k) (sym view) over in
    let task = joining-known w tasks steps log k t keeps.is at before.done.joining in
    let none = unsettled-there w tasks k t status.Joining task refl in
    let sum = stored-settled_as w k outcome task.lived none in
    let are = keeps.sound.units_are in
    let past = past_sum max_stored add (outcome_units outcome) units is_add large (units_within w tasks steps running units keeps.sound) in
    let few = ((passed-none w).0 keeps.sound.fact.within).0 in
    let limit_passed : passed (settled_as w k outcome) ≡ Some limit.Stored = (passed-stored (settled_as w k outcome)).1 (few, omega (arith, sum, are, past)) in
    subst (λ (u : Known). IsRefusedFor (JoinEnds u k) StoreLimit) view (settled_as w k outcome, settles_only w k outcome settling, limit_passed)
