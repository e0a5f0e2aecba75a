-- What the body of a join that may run gives, and whether its calls are within the limits.
use Rattle.std.proofs.Common.{◌≡◌, ℕ, ◌+◌, ◌-◌, ◌^◌, ◌<◌, ◌≤◌, Bool, true, false, List, length, map, sum, get_or, Option, Some, None, refl, sym, ◌∙◌, ap, subst, arith}
use Rattle.std.specs.Prelude.{Result, Ok, Err, if◌then◌else◌, min, nat_lt, slice_get}
use Rattle.std.proofs.lemmas.Bool.Decides.{nat_tests}
use Rattle.std.proofs.lemmas.List.{length-map}
use Rattle.flow_base.specs.Paths.{max_path}
use Rattle.flow_base.specs.declared.value.Value.{Value}
use Rattle.flow_base.specs.declared.outcome.Ended.{Ended}
use Rattle.flow_base.specs.declared.outcome.Exception.{Exception}
use Rattle.script_tree.specs.Grammar.{Tree}
use Rattle.script_tree.specs.declared.tree.AppDef.{AppDef}
use Rattle.task_record.specs.States.{is_settled}
use Rattle.task_record.specs.declared.status.Status.TheVariants as status
use Rattle.event_log.specs.declared.entry.Entry.{Entry}
use Rattle.flow_meaning.specs.Inputs.{Path}
use Rattle.flow_meaning.specs.Meaning.{Done}
use Rattle.flow_meaning.specs.Sequential.{Tasks}
use Rattle.dependency_graph.specs.declared.readiness.Readiness.{Readiness}
use Rattle.dependency_graph.specs.declared.readiness.Readiness.TheVariants as readiness
use Rattle.dependency_graph.specs.Readiness.{ready}
use Rattle.dependency_graph.specs.Graphs.{Graph}
use Rattle.call_rules.specs.Calls.{Call, Dry, Attempts, Joins, begin, begin_ready, begin_join, has_room, join_dry}
use Rattle.call_rules.proofs.Agreeing.{begin-joins, begin-room}
use Rattle.stored_units.specs.Stored.{max_tasks, max_stored}
use Rattle.join_apps.specs.declared.body.BodyFault.{BodyFault}
use Rattle.join_apps.specs.declared.body.BodyFault.TheVariants.{TooMany}
use Rattle.join_apps.specs.declared.body.JoinBody.{JoinBody}
use Rattle.join_apps.specs.declared.body.JoinCall.{JoinCall}
use Rattle.join_apps.specs.Bodies.{call_of as join_call, calls_of, result_of, IsJoin, Gives, RunsBody}
use Rattle.kernel_model.specs.declared.answers.Refusal.TheVariants.{TaskLimit, StoreLimit}
use Rattle.kernel_model.specs.Known.{Known, call_at, path_at, status_at, settled_outcome, known, begin_at, apps_in}
use Rattle.kernel_model.specs.Acts.{joined}
use Rattle.kernel_model.specs.Limits.{stored, units_of_call, IsRefusedFor}
use Rattle.kernel_model.specs.Turns.{carried_out}
use Rattle.kernel_model.proofs.Counting.{stored-joined, calls-joined}
use Rattle.kernel_model.proofs.Passing.{passed-none, passed-tasks, passed-stored}
use Rattle.agenda_model.specs.Storing.{CanStoreJoin, CanStoreJoinOf, IsJoinStored, with_join_run}
use Rattle.kernel_core.specs.Joins.{CanRunJoin, AddsCalls}
use Rattle.kernel_core.specs.Views.{IsFact}
use Rattle.kernel_core.specs.Tasks.{call_of}
use Rattle.kernel_core.specs.declared.task.Task.{Task}
use Rattle.kernel_core.specs.declared.run_state.MainStep.{MainStep}
use Rattle.kernel_core.proofs.StateViews.{with}
use Rattle.kernel_core.proofs.TaskActs.{path-is}
use Rattle.kernel_core.proofs.Joining.{join-within}

-- what begins as a join is one
begins_join : (apps : List AppDef) (ts : Tasks) (c : Call) (app : AppDef) (values : List Value) → begin apps ts c ≡ Joins app values → app.join ≡ true
begins_join apps ts c app values is = by_ready (ready ts c.arguments) (slice_get apps c.app) is
  where
    by_app : (vs : List Value) (a : AppDef) (join room : Bool) → a.join ≡ join → (if join then begin_join room a vs else Attempts a vs) ≡ Joins app values → app.join ≡ true
    by_app vs a true true j h = let same : a ≡ app = cc in ap (λ (x : AppDef). x.join) (sym same) ∙ j
    by_app vs a true false j h = absurd (cc)
    by_app vs a false room j h = absurd (cc)

    by_ready : (r : Readiness) (a : Option AppDef) → begin_ready c.path a r ≡ Joins app values → app.join ≡ true
    by_ready (readiness.Settles exception) a h = absurd (cc)
    by_ready (readiness.Runs vs) None h = absurd (cc)
    by_ready (readiness.Runs vs) (Some a) h = by_app vs a a.join (has_room c.path) refl h

-- ---- what its body takes

is_join : (app : Option AppDef) (a : AppDef) → app ≡ Some a → a.join ≡ true → IsJoin app
is_join app a at join = subst IsJoin (sym at) join

app_there : (w : Known) (k : ℕ) (values : List Value) → (can : CanRunJoin w k values) → slice_get (apps_in w) (call_at w k).app ≡ Some can.app
app_there w k values can = (begin-joins (apps_in w) (known w) (call_at w k) can.app values can.begins).1

-- its app is a join
pub body-joins : (w : Known) (k : ℕ) (values : List Value) (tree : Tree) (number : ℕ) → CanRunJoin w k values → tree ≡ w.tree → number ≡ (call_at w k).app → IsJoin (slice_get tree.0 number)
body-joins w k values tree number can same at =
    let there : slice_get tree.0 number ≡ Some can.app = ap (λ (t : Tree). slice_get t.0 number) same ∙ ap (slice_get (apps_in w)) at ∙ app_there w k values can in
    is_join (slice_get tree.0 number) can.app there (begins_join (apps_in w) (known w) (call_at w k) can.app values can.begins)

less_of : (a b : ℕ) → nat_lt a b ≡ true → a < b
less_of a b t = grind (arith, nat_tests)

-- and its path has room
pub body-short : (w : Known) (k : ℕ) (values : List Value) (path : Path) → CanRunJoin w k values → path ≡ path_at w k → length path < max_path
body-short w k values path can at = subst (λ (p : Path). length p < max_path) (sym at) (less_of (length (path_at w k)) max_path (begin-room (apps_in w) (known w) (call_at w k) can.app values can.begins))

-- ---- what its body gives

pub body-gives : (w : Known) (k : ℕ) (values : List Value) (tree : Tree) (path : Path) (number : ℕ) (given : Result JoinBody BodyFault) → (can : CanRunJoin w k values) → tree ≡ w.tree → path ≡ path_at w k → number ≡ (call_at w k).app
    → RunsBody tree path (slice_get tree.0 number) values given → Gives (join_dry (apps_in w) (path_at w k) can.app values) given
body-gives w k values tree path number given can same is at runs =
    let there : slice_get tree.0 number ≡ Some can.app = ap (λ (t : Tree). slice_get t.0 number) same ∙ ap (slice_get (apps_in w)) at ∙ app_there w k values can in
    let here : Gives (join_dry tree.0 path can.app values) given = subst (λ (app : Option AppDef). RunsBody tree path app values given) there runs in
    let of_tree = subst (λ (t : Tree). Gives (join_dry t.0 path can.app values) given) same here in
    subst (λ (p : Path). Gives (join_dry (apps_in w) p can.app values) given) is of_tree

-- the end and the calls of a body
pub record HasRun (w : Known) (k : ℕ) (values : List Value) (ended : Ended) (calls : List JoinCall) : Type 0 where
  pub can : CanRunJoin w k values
  pub gave : (result_of ended, calls_of calls) ≡ join_dry (apps_in w) (path_at w k) can.app values

pub has-run : (w : Known) (k : ℕ) (values : List Value) (given : Result JoinBody BodyFault) (body : JoinBody) → (can : CanRunJoin w k values) → given ≡ Ok body → Gives (join_dry (apps_in w) (path_at w k) can.app values) given → HasRun w k values body.ended body.calls.items
has-run w k values given body can is gives =
    let dry : Dry = join_dry (apps_in w) (path_at w k) can.app values in
    let both = subst (Gives dry) is gives in
    record { can = can; gave = ap (λ (r : Result Done Exception). (r, calls_of body.calls.items)) both.1 ∙ ap (λ (cs : List Call). (dry.0, cs)) both.0 }

-- it is what the callback does
pub carries : (w v : Known) (k : ℕ) (values : List Value) (ended : Ended) (calls : List JoinCall) → HasRun w k values ended calls → v ≡ joined w k (result_of ended, calls_of calls) → v ≡ carried_out w k (begin_at w k)
carries w v k values ended calls ran after = after ∙ ap (joined w k) ran.gave ∙ sym (ap (carried_out w k) ran.can.begins)

-- ---- the limits

unsettled : (w : Known) (k : ℕ) (values : List Value) → CanRunJoin w k values → settled_outcome w k ≡ None
unsettled w k values can = let off : is_settled (status_at w k) ≡ false = ap is_settled can.callback.pending in rw off refl

refused_tasks : (w : Known) (k : ℕ) (values : List Value) → (can : CanRunJoin w k values) → max_tasks < length w.calls + length (join_dry (apps_in w) (path_at w k) can.app values).1 → IsRefusedFor (λ v. v ≡ carried_out w k (begin_at w k)) TaskLimit
refused_tasks w k values can many =
    let ran : Dry = join_dry (apps_in w) (path_at w k) can.app values in
    let sum = calls-joined w k ran in
    (joined w k ran, sym (ap (carried_out w k) can.begins), (passed-tasks (joined w k ran)).1 (omega (arith, sum, many)))

-- its body makes more calls than a run may have
pub body-refused : (w : Known) (k : ℕ) (values : List Value) (given : Result JoinBody BodyFault) (fault : BodyFault) → (can : CanRunJoin w k values) → given ≡ Err fault → fault ≡ TooMany → Gives (join_dry (apps_in w) (path_at w k) can.app values) given → IsRefusedFor (λ v. v ≡ carried_out w k (begin_at w k)) TaskLimit
body-refused w k values given fault can is many_calls gives =
    let many = subst (Gives (join_dry (apps_in w) (path_at w k) can.app values)) (is ∙ ap Err many_calls) gives in
    refused_tasks w k values can (omega (arith, many))

as_many : (w : Known) (k : ℕ) (values : List Value) (ended : Ended) (calls : List JoinCall) → (ran : HasRun w k values ended calls) → length (join_dry (apps_in w) (path_at w k) ran.can.app values).1 ≡ length calls
as_many w k values ended calls ran = ap (λ (d : Dry). length d.1) (sym ran.gave) ∙ length-map calls join_call

-- or more than this run may still have
pub calls-refused : (w : Known) (k : ℕ) (values : List Value) (ended : Ended) (calls : List JoinCall) (count more : ℕ) → HasRun w k values ended calls → count ≡ length w.calls → more ≡ length calls → max_tasks - count < more → IsRefusedFor (λ v. v ≡ carried_out w k (begin_at w k)) TaskLimit
calls-refused w k values ended calls count more ran counted many past =
    let same = as_many w k values ended calls ran in
    refused_tasks w k values ran.can (omega (arith, same, counted, many, past))

weigh : (w : Known) (k : ℕ) (values : List Value) (ended : Ended) (calls : List JoinCall) → (ran : HasRun w k values ended calls) → sum (map units_of_call (join_dry (apps_in w) (path_at w k) ran.can.app values).1) ≡ sum (map units_of_call (calls_of calls))
weigh w k values ended calls ran = ap (λ (d : Dry). sum (map units_of_call d.1)) (sym ran.gave)

past_sum : (most add u units : ℕ) → add ≡ min u (2 ^ 64 - 1) → most - units < add → units ≤ most → most < units + u
past_sum most add u units is lt within = omega (arith, is, lt, within)

fits_sum : (most add u units : ℕ) → add ≡ min u (2 ^ 64 - 1) → most < 2 ^ 64 - 1 → add ≤ most - units → units ≤ most → (add ≡ u) × (units + u ≤ most)
fits_sum most add u units is small le within = (omega (arith, is, small, le, within), omega (arith, is, small, le, within))

-- or they weigh more than this run may still store
pub units-refused : (w : Known) (k : ℕ) (values : List Value) (ended : Ended) (calls : List JoinCall) (count more kept units : ℕ) → IsFact w → HasRun w k values ended calls → count ≡ length w.calls → more ≡ length calls → more ≤ max_tasks - count
    → kept ≡ stored w → units ≡ min (sum (map units_of_call (calls_of calls))) (2 ^ 64 - 1) → max_stored - kept < units → IsRefusedFor (λ v. v ≡ carried_out w k (begin_at w k)) StoreLimit
units-refused w k values ended calls count more kept units fact ran counted many few are weighs past =
    let dry : Dry = join_dry (apps_in w) (path_at w k) ran.can.app values in
    let limits = (passed-none w).0 fact.within in
    let tasks = limits.0 in
    let small = limits.1 in
    let same = as_many w k values ended calls ran in
    let total = calls-joined w k dry in
    let heavy = past_sum max_stored units (sum (map units_of_call (calls_of calls))) kept weighs past (omega (arith, are, small)) in
    let sums = stored-joined w k dry (unsettled w k values ran.can) in
    let weight = weigh w k values ended calls ran in
    (joined w k dry, sym (ap (carried_out w k) ran.can.begins), (passed-stored (joined w k dry)).1 (omega (arith, total, same, counted, many, few, tasks), omega (arith, sums, weight, heavy, are)))

-- or they may be submitted
pub adds-calls : (w : Known) (k : ℕ) (values : List Value) (ended : Ended) (calls : List JoinCall) (count more kept units : ℕ) → IsFact w → HasRun w k values ended calls → count ≡ length w.calls → more ≡ length calls → more ≤ max_tasks - count
    → kept ≡ stored w → units ≡ min (sum (map units_of_call (calls_of calls))) (2 ^ 64 - 1) → units ≤ max_stored - kept → AddsCalls w k ended calls units
adds-calls w k values ended calls count more kept units fact ran counted many few are weighs fit =
    let limits = (passed-none w).0 fact.within in
    let tasks = limits.0 in
    let small = limits.1 in
    let sums = fits_sum max_stored units (sum (map units_of_call (calls_of calls))) kept weighs (omega arith) fit (omega (arith, are, small)) in
    let exact = sums.0 in
    let below = sums.1 in
    record {
      values = values;
      can = ran.can;
      gave = ran.gave;
      units_are = exact;
      few = omega (arith, counted, many, few, tasks);
      small = omega (arith, exact, below, are);
    }

-- ---- what the code reads

-- the tree, the path and the number of an app are those of a task
pub record Reads (v : Known) (k : ℕ) (tree : Tree) (path : Path) (number : ℕ) : Type 0 where
  pub tree_is : tree ≡ v.tree
  pub path_is : path ≡ path_at v k
  pub app_is : number ≡ (call_at v k).app

pub reads-join : (w v : Known) (tasks : List Task) (steps : List MainStep) (log : List Entry) (k : ℕ) (values : List Value) (t : Task) (tree : Tree) (path : Path) (number : ℕ) → w ≡ v → w ≡ with w tasks steps log → CanRunJoin v k values
    → t ≡ get_or tasks k t → tree ≡ w.tree → path ≡ t.record.path → number ≡ t.record.app → Reads v k tree path number
reads-join w v tasks steps log k values t tree path number view is can at same is_path is_app =
    let known = join-within w v tasks steps log k t view is at can.callback.pending in
    record {
      tree_is = same ∙ ap (λ (u : Known). u.tree) view;
      path_is = is_path ∙ path-is w tasks k t status.Pending known ∙ ap (λ (u : Known). path_at u k) view;
      app_is = is_app ∙ sym (ap (λ (c : Call). c.app) known.call) ∙ ap (λ (u : Known). (call_at u k).app) view;
    }

pub counts-calls : (w v : Known) (tasks : List Task) (steps : List MainStep) (log : List Entry) (count : ℕ) → w ≡ v → w ≡ with w tasks steps log → count ≡ length tasks → count ≡ length v.calls
counts-calls w v tasks steps log count view is counted = counted ∙ sym (length-map tasks call_of) ∙ ap (λ (u : Known). length u.calls) (sym is ∙ view)

-- what the body of the join gives, where the code runs it
pub join-gives : (w v : Known) (tasks : List Task) (steps : List MainStep) (log : List Entry) (k : ℕ) (values : List Value) (t : Task) (tree : Tree) (path : Path) (number : ℕ) (given : Result JoinBody BodyFault) → w ≡ v → w ≡ with w tasks steps log → (can : CanRunJoin v k values)
    → t ≡ get_or tasks k t → tree ≡ w.tree → path ≡ t.record.path → number ≡ t.record.app
    → RunsBody tree path (slice_get tree.0 number) values given → Gives (join_dry (apps_in v) (path_at v k) can.app values) given
join-gives w v tasks steps log k values t tree path number given view is can at same is_path is_app runs =
    let r = reads-join w v tasks steps log k values t tree path number view is can at same is_path is_app in
    body-gives v k values tree path number given can r.tree_is r.path_is r.app_is runs

-- its path, where the code reads it once more
pub path-reads : (w v : Known) (tasks : List Task) (steps : List MainStep) (log : List Entry) (k : ℕ) (values : List Value) (t : Task) (path : Path) → w ≡ v → w ≡ with w tasks steps log → CanRunJoin v k values → t ≡ get_or tasks k t → path ≡ t.record.path → path ≡ path_at v k
path-reads w v tasks steps log k values t path view is can at is_path =
    is_path ∙ path-is w tasks k t status.Pending (join-within w v tasks steps log k t view is at can.callback.pending) ∙ ap (λ (u : Known). path_at u k) view

-- ---- what is stored of it

-- it may be stored
pub ran-stores : (g : Graph) (w : Known) (k : ℕ) (values : List Value) (ended : Ended) (calls : List JoinCall) (path : Path) (slice : List JoinCall) → HasRun w k values ended calls → CanStoreJoinOf g w k values → path ≡ path_at w k → slice ≡ calls → CanStoreJoin g path (result_of ended, calls_of slice)
ran-stores g w k values ended calls path slice ran can is_path are =
    let here = subst (CanStoreJoin g (path_at w k)) (sym ran.gave) (can ran.can.app ran.can.begins) in
    subst (λ (p : Path). CanStoreJoin g p (result_of ended, calls_of slice)) (sym is_path) (subst (λ (cs : List JoinCall). CanStoreJoin g (path_at w k) (result_of ended, calls_of cs)) (sym are) here)

gave_of : (w : Known) (k : ℕ) (values : List Value) (ended : Ended) (calls : List JoinCall) (app : AppDef) → HasRun w k values ended calls → begin_at w k ≡ Joins app values → (result_of ended, calls_of calls) ≡ join_dry (apps_in w) (path_at w k) app values
gave_of w k values ended calls app ran begins =
    let one = ran.can.begins in
    let same : ran.can.app ≡ app = cc in
    ran.gave ∙ ap (λ (a : AppDef). join_dry (apps_in w) (path_at w k) a values) same

-- and is
pub ran-stored : (g after : Graph) (w : Known) (k : ℕ) (values : List Value) (ended : Ended) (calls : List JoinCall) (path : Path) (slice : List JoinCall) → HasRun w k values ended calls → path ≡ path_at w k → slice ≡ calls → after ≡ with_join_run path (result_of ended, calls_of slice) g → IsJoinStored g w k values after
ran-stored g after w k values ended calls path slice ran is_path are stored app begins =
    stored ∙ ap (λ (p : Path). with_join_run p (result_of ended, calls_of slice) g) is_path
    ∙ ap (λ (cs : List JoinCall). with_join_run (path_at w k) (result_of ended, calls_of cs) g) are
    ∙ ap (λ (d : Dry). with_join_run (path_at w k) d g) (gave_of w k values ended calls app ran begins)
