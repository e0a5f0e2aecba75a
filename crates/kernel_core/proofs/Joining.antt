-- What the run of a join's body does to a state: its task is written, and the tasks of its calls come behind the others.
use Rattle.std.proofs.Common.{◌≡◌, ℕ, zero, suc, ◌+◌, ◌^◌, ◌<◌, ◌≤◌, Bool, false, List, [], ◌∷◌, ◌++◌, length, map, take, drop, Some, None, get_or, set, bytes_eq, refl, sym, ◌∙◌, ap, subst, arith}
use Rattle.std.specs.Prelude.{Result, Ok, Err, OnErr, slice_get}
use Rattle.std.specs.List.{list_any}
use Rattle.std.proofs.lemmas.Bool.{or_parts}
use Rattle.std.proofs.lemmas.Cmp.{nat_list_eq_equiv}
use Rattle.std.proofs.lemmas.List.{append_assoc, append-nil, map-append, length-append, length-map, take-append-drop, set-set}
use Rattle.std.proofs.Math.Seq.{take-suc, take-append_seam, drop-cons}
use Rattle.flow_base.specs.declared.outcome.Ended.{Ended}
use Rattle.script_tree.specs.Grammar.{Tree}
use Rattle.task_record.specs.declared.status.Status.TheVariants as status
use Rattle.task_record.specs.declared.record.TaskRecord.{TaskRecord}
use Rattle.event_log.specs.declared.entry.Entry.{Entry}
use Rattle.event_log.specs.declared.entry.Entry.TheVariants as entry
use Rattle.flow_meaning.specs.Inputs.{Path}
use Rattle.call_rules.specs.Calls.{Call, Dry, child, join_act}
use Rattle.dependency_graph.specs.Places.{place_in, AreDistinct}
use Rattle.dependency_graph.proofs.Places.{distinct-places}
use Rattle.history_laws.specs.Reads.{submits, is_of_main}
use Rattle.join_apps.specs.declared.body.JoinCall.{JoinCall}
use Rattle.join_apps.specs.Bodies.{call_of as join_call, calls_of, result_of}
use Rattle.kernel_model.specs.Known.{Known, Life, no_call, no_life, path_at, life_at, outcome_in, apps_in}
use Rattle.kernel_model.specs.Acts.{pending, put, submitted, all_submitted, joining, joined}
use Rattle.kernel_model.specs.Conditions.{CanJoin}
use Rattle.kernel_model.specs.Invariants.{Inv, Tracks}
use Rattle.kernel_model.proofs.Counting.{stored-joined, calls-joined}
use Rattle.kernel_model.proofs.Knowing.{dry-path}
use Rattle.kernel_model.proofs.KeepingSubmits.{keep-joined}
use Rattle.kernel_model.proofs.KeepingTasks.{path-long, joining-within}
use Rattle.kernel_model.proofs.Passing.{passed-none}
use Rattle.kernel_core.specs.declared.task.Task.{Task}
use Rattle.kernel_core.specs.declared.run_state.MainStep.{MainStep}
use Rattle.kernel_core.specs.Joins.{AddsCalls, new_task, new_tasks, submission, submissions, task_paths}
use Rattle.kernel_core.specs.Tasks.{call_of, life_of, AreOver}
use Rattle.agenda_model.specs.Agendas.{runs, running_in}
use Rattle.kernel_core.specs.Views.{IsSound, IsIndexed}
use Rattle.kernel_core.proofs.StateViews.{with, Keeps, Wrote, KnownTask, known-task, view-put, answers-push, acts-push, over-push, over-set, calls-set, lives-set, life-read, log-pushed, running-set, running-push, written-back}
use Rattle.kernel_core.proofs.TaskActs.{unsettled, path-is, with-record}

-- what holds anyway holds of an error
pub on-err : {T E P : Type 0} → (r : Result T E) → P → OnErr r P
on-err (Ok x) p = tt
on-err (Err e) p = p

-- ---- calls that are submitted

pub all-tree : (w : Known) (cs : List Call) → (all_submitted w cs).tree ≡ w.tree
all-tree w [] = refl
all-tree w (c ∷ cs) = all-tree (submitted w c) cs

pub all-calls : (w : Known) (cs : List Call) → (all_submitted w cs).calls ≡ w.calls ++ cs
all-calls w [] = sym (append-nil w.calls)
all-calls w (c ∷ cs) = all-calls (submitted w c) cs ∙ append_assoc w.calls (c ∷ []) cs

-- those that aren't main's leave the number of main's
pub all-submits : (w : Known) (cs : List Call) → ((i : ℕ) (c : Call) → slice_get cs i ≡ Some c → is_of_main c.path ≡ false) → submits (all_submitted w cs).past ≡ submits w.past
all-submits w [] below = refl
all-submits w (c ∷ cs) below = all-submits (submitted w c) cs (λ i d at. below (suc i) d at) ∙ rw (below 0 c refl) refl

-- ---- the calls of a join

not_main : (p : Path) (i : ℕ) → 0 < length p → is_of_main (child p i) ≡ false
not_main [] i long = absurd (omega arith)
not_main (x ∷ []) i long = refl
not_main (x ∷ y ∷ p) i long = refl

-- none of them is main's
below_main : (w : Known) (k : ℕ) (ran : Dry) → Inv w → (can : CanJoin w k ran) → (i : ℕ) (c : Call) → slice_get ran.1 i ≡ Some c → is_of_main c.path ≡ false
below_main w k ran inv can i c at =
    let within = joining-within w k inv can.callback in
    let long = path-long w k (inv.holds.tracks.family k within) in
    let there = ap (λ (d : Dry). slice_get d.1 i) (sym can.is) ∙ at in
    let path : c.path ≡ child (path_at w k) i = dry-path (path_at w k) (join_act (apps_in w) can.app can.values) i c there in
    rw path (not_main (path_at w k) i long)

-- the table of paths behind them
pub indexed-joined : (w : Known) (places : List Path) (mains k : ℕ) (ran : Dry) → Inv w → CanJoin w k ran → IsIndexed w places mains → IsIndexed (joined w k ran) (places ++ map (λ (c : Call). c.path) ran.1) mains
indexed-joined w places mains k ran inv can h =
    let calls : (joined w k ran).calls ≡ w.calls ++ ran.1 = all-calls (joining w k ran) ran.1 in
    let few = h.few in
    let longer = length-append w.calls ran.1 in
    record {
      placed = ap (λ (ps : List Path). ps ++ map (λ (c : Call). c.path) ran.1) h.placed ∙ sym (map-append (λ (c : Call). c.path) w.calls ran.1) ∙ ap (map (λ (c : Call). c.path)) (sym calls);
      mains_are = h.mains_are ∙ sym (all-submits (joining w k ran) ran.1 (below_main w k ran inv can));
      few = subst (λ (cs : List Call). mains ≤ length cs) (sym calls) (omega (arith, few, longer));
    }

-- ---- paths that are distinct

path_there : (cs : List Call) (k : ℕ) (p : Path) → slice_get (map (λ (c : Call). c.path) cs) k ≡ Some p → (k < length cs) × ((get_or cs k no_call).path ≡ p)
path_there [] k p at = absurd (cc)
path_there (c ∷ cs) zero p at = (omega arith, cc)
path_there (c ∷ cs) (suc k) p at = let there = path_there cs k p at in (let less = there.0 in omega arith, there.1)

-- no call has the path of another
pub distinct-paths : (w : Known) (places : List Path) (mains : ℕ) → Tracks w → IsIndexed w places mains → AreDistinct places
distinct-paths w places mains tracks h =
    distinct-places places (λ i j p at also.
    let first = path_there w.calls i p (ap (λ (ps : List Path). slice_get ps i) (sym h.placed) ∙ at) in
    let second = path_there w.calls j p (ap (λ (ps : List Path). slice_get ps j) (sym h.placed) ∙ also) in
    tracks.distinct i j first.0 second.0 (first.1 ∙ sym second.1))

-- ---- the tasks of the calls

pub new-calls : (cs : List JoinCall) → map call_of (new_tasks cs) ≡ calls_of cs
new-calls [] = refl
new-calls (c ∷ cs) = ap (λ (ds : List Call). join_call c ∷ ds) (new-calls cs)

pub new-paths : (cs : List JoinCall) → task_paths (new_tasks cs) ≡ map (λ (c : Call). c.path) (calls_of cs)
new-paths [] = refl
new-paths (c ∷ cs) = ap (λ (ps : List Path). c.path ∷ ps) (new-paths cs)

-- ---- what is seen of a state

-- what is known where these are the tasks, the steps and the log, and how many attempts run
pub record Sees (w : Known) (tasks : List Task) (steps : List MainStep) (log : List Entry) (running : ℕ) : Type 0 where
  pub is : w ≡ with w tasks steps log
  pub over : AreOver (map call_of tasks) (map life_of tasks) steps
  pub counted : running ≡ running_in (map life_of tasks)

sees_one : (w : Known) (tasks : List Task) (steps : List MainStep) (log : List Entry) (running : ℕ) (c : JoinCall) → Sees w tasks steps log running
    → Sees (submitted w (join_call c)) (tasks ++ new_task c ∷ []) steps (log ++ submission (apps_in w) (new_task c) ∷ []) running
sees_one w tasks steps log running c s =
    let calls : map call_of (tasks ++ new_task c ∷ []) ≡ map call_of tasks ++ join_call c ∷ [] = map-append call_of tasks (new_task c ∷ []) in
    let lives : map life_of (tasks ++ new_task c ∷ []) ≡ map life_of tasks ++ pending ∷ [] = map-append life_of tasks (new_task c ∷ []) in
    record {
      is = sym (rw (calls, lives, answers-push (map call_of tasks) (map life_of tasks) (join_call c) steps s.over, acts-push (map call_of tasks) (map life_of tasks) (join_call c) steps s.over, log-pushed log (submission (apps_in w) (new_task c)))
          (ap (λ (v : Known). submitted v (join_call c)) (sym s.is)));
      over = rw (calls, lives) (over-push (map call_of tasks) (map life_of tasks) (join_call c) steps s.over);
      counted = s.counted ∙ sym (ap running_in lives ∙ running-push (map life_of tasks));
    }

-- the calls are submitted
pub sees-all : (w : Known) (tasks : List Task) (steps : List MainStep) (log : List Entry) (running : ℕ) (cs : List JoinCall) → Sees w tasks steps log running
    → Sees (all_submitted w (calls_of cs)) (tasks ++ new_tasks cs) steps (log ++ submissions (apps_in w) (new_tasks cs)) running
sees-all w tasks steps log running [] s = subst (λ (ts : List Task). Sees w ts steps (log ++ []) running) (sym (append-nil tasks)) (subst (λ (es : List Entry). Sees w tasks steps es running) (sym (append-nil log)) s)
sees-all w tasks steps log running (c ∷ cs) s =
    let t : Task = new_task c in
    let e : Entry = submission (apps_in w) t in
    let later = sees-all (submitted w (join_call c)) (tasks ++ t ∷ []) steps (log ++ e ∷ []) running cs (sees_one w tasks steps log running c s) in
    let one = subst (λ (ts : List Task). Sees (all_submitted w (calls_of (c ∷ cs))) ts steps ((log ++ e ∷ []) ++ submissions (apps_in w) (new_tasks cs)) running) (append_assoc tasks (t ∷ []) (new_tasks cs)) later in
    subst (λ (es : List Entry). Sees (all_submitted w (calls_of (c ∷ cs))) (tasks ++ new_tasks (c ∷ cs)) steps es running) (append_assoc log (e ∷ []) (submissions (apps_in w) (new_tasks cs))) one

-- a task is written that runs no attempt before and after
pub sees-put : (w : Known) (tasks : List Task) (steps : List MainStep) (log : List Entry) (running k : ℕ) (t u : Task) (e : Entry) → Sees w tasks steps log running
    → k < length tasks → t ≡ get_or tasks k t → call_of u ≡ call_of t → outcome_in (life_of t) ≡ None → runs t.record.status ≡ 0 → runs u.record.status ≡ 0
    → Sees (put w k (life_of u) e) (set tasks k u) steps (log ++ e ∷ []) running
sees-put w tasks steps log running k t u e s within at call none idle out =
    let read = life-read tasks k t within at in
    let open_there : outcome_in (get_or (map life_of tasks) k no_life) ≡ None = ap outcome_in read ∙ none in
    let count : length (map life_of tasks) ≡ length tasks = length-map tasks life_of in
    let sums = running-set (map life_of tasks) k (life_of u) (omega (arith, count, within)) in
    let before : runs (get_or (map life_of tasks) k no_life).status ≡ runs t.record.status = ap (λ (l : Life). runs l.status) read in
    let sum_after : running_in (map life_of (set tasks k u)) ≡ running_in (set (map life_of tasks) k (life_of u)) = ap running_in (lives-set tasks k u) in
    let was = s.counted in
    record {
      is = sym (view-put w tasks steps log k t u e s.is s.over within at call none);
      over = rw (calls-set tasks k t u at call, lives-set tasks k u) (over-set (map call_of tasks) (map life_of tasks) k (life_of u) steps open_there s.over);
      counted = omega (arith, idle, out, sums, before, sum_after, was);
    }

-- ---- the act

join-known : (w : Known) (tasks : List Task) (steps : List MainStep) (log : List Entry) (k : ℕ) (t : Task) → w ≡ with w tasks steps log → t ≡ get_or tasks k t → (life_at w k).status ≡ status.Pending → KnownTask w tasks k t status.Pending
join-known w tasks steps log k t is at state = known-task w tasks steps log k t status.Pending is at state (λ h. absurd (cc))

-- a join whose body runs has not begun
pub join-within : (w v : Known) (tasks : List Task) (steps : List MainStep) (log : List Entry) (k : ℕ) (t : Task) → w ≡ v → w ≡ with w tasks steps log → t ≡ get_or tasks k t → (life_at v k).status ≡ status.Pending → KnownTask w tasks k t status.Pending
join-within w v tasks steps log k t view is at state = join-known w tasks steps log k t is at (ap (λ (u : Known). (life_at u k).status) view ∙ state)

pub can-join : (w : Known) (k : ℕ) (ended : Ended) (calls : List JoinCall) (units : ℕ) → AddsCalls w k ended calls units → CanJoin w k (result_of ended, calls_of calls)
can-join w k ended calls units adds = record { not_ended = adds.can.not_ended; callback = adds.can.callback; app = adds.can.app; values = adds.values; begins = adds.can.begins; is = adds.gave }

-- the task of the join, behind its body
abbrev pub joined-task : Task → Ended → Task
joined-task t ended = record { «record» = record t.record { status = status.Joining }; end = t.end; ran = Some ended }

-- what is written of the join and of its calls
pub record Joins (w : Known) (places : List Path) (tasks : List Task) (steps : List MainStep) (log : List Entry) (running units mains k : ℕ) (ended : Ended) (calls : List JoinCall) (t : Task) : Type 0 where
  pub view : with w (set tasks k (joined-task t ended) ++ new_tasks calls) steps (log ++ entry.JoinRun (path_at w k) ∷ submissions (apps_in w) (new_tasks calls)) ≡ joined w k (result_of ended, calls_of calls)
  pub sound : IsSound (joined w k (result_of ended, calls_of calls)) (set tasks k (joined-task t ended) ++ new_tasks calls) steps running units
  pub indexed : IsIndexed (joined w k (result_of ended, calls_of calls)) (places ++ task_paths (new_tasks calls)) mains

pub join-keeps : (w : Known) (places : List Path) (tasks : List Task) (steps : List MainStep) (log : List Entry) (running units add mains k : ℕ) (ended : Ended) (calls : List JoinCall) (t : Task) → Keeps w tasks steps log running units → IsIndexed w places mains
    → AddsCalls w k ended calls add → t ≡ get_or tasks k t
    → Joins w places tasks steps log running (units + add) mains k ended calls t
join-keeps w places tasks steps log running units add mains k ended calls t keeps indexed adds at =
    let ran : Dry = (result_of ended, calls_of calls) in
    let v : Known = joined w k ran in
    let can = can-join w k ended calls add adds in
    let fact = keeps.sound.fact in
    let known = join-known w tasks steps log k t keeps.is at can.callback.pending in
    let none : outcome_in (life_of t) ≡ None = unsettled t status.Pending known.state refl in
    let none_there : outcome_in (life_at w k) ≡ None = ap outcome_in known.life ∙ none in
    let u : Task = joined-task t ended in
    let e : Entry = entry.JoinRun (path_at w k) in
    let before : Sees w tasks steps log running = record { is = keeps.is; over = keeps.sound.over; counted = keeps.sound.running } in
    let put_is : put w k (life_of u) e ≡ joining w k ran = rw known.life refl in
    let ran_sees : Sees (joining w k ran) (set tasks k u) steps (log ++ e ∷ []) running
    = subst (λ (x : Known). Sees x (set tasks k u) steps (log ++ e ∷ []) running) put_is (sees-put w tasks steps log running k t u e before known.within at refl none (ap runs known.state) refl) in
    let all = sees-all (joining w k ran) (set tasks k u) steps (log ++ e ∷ []) running calls ran_sees in
    let log_is : (log ++ e ∷ []) ++ submissions (apps_in w) (new_tasks calls) ≡ log ++ e ∷ submissions (apps_in w) (new_tasks calls) = append_assoc log (e ∷ []) (submissions (apps_in w) (new_tasks calls)) in
    let seen : Sees v (set tasks k u ++ new_tasks calls) steps (log ++ e ∷ submissions (apps_in w) (new_tasks calls)) running
    = subst (λ (es : List Entry). Sees v (set tasks k u ++ new_tasks calls) steps es running) log_is all in
    let rest : with v (set tasks k u ++ new_tasks calls) steps (log ++ e ∷ submissions (apps_in w) (new_tasks calls)) ≡ with w (set tasks k u ++ new_tasks calls) steps (log ++ e ∷ submissions (apps_in w) (new_tasks calls))
    = other_fields (joining w k ran) (calls_of calls) (set tasks k u ++ new_tasks calls) steps (log ++ e ∷ submissions (apps_in w) (new_tasks calls)) in
    let sum = stored-joined w k ran none_there in
    let many = calls-joined w k ran in
    let as_many : length (calls_of calls) ≡ length calls = length-map calls join_call in
    let few = adds.few in
    let small = adds.small in
    let weighs = adds.units_are in
    let are = keeps.sound.units_are in
    record {
      view = sym (seen.is ∙ rest);
      sound = record {
        fact = record {
          inv = keep-joined w k ran fact.inv can;
          few_apps = subst (λ (tree : Tree). length tree.0 < 2 ^ 32) (sym (all-tree (joining w k ran) ran.1)) fact.few_apps;
          within = (passed-none v).1 (omega (arith, many, as_many, few), omega (arith, sum, small, weighs));
        };
        over = seen.over;
        running = seen.counted;
        units_are = omega (arith, sum, weighs, are);
      };
      indexed = subst (λ (ps : List Path). IsIndexed v (places ++ ps) mains) (sym (new-paths calls)) (indexed-joined w places mains k ran fact.inv can indexed);
    }
  where
    other_fields : (w : Known) (cs : List Call) (tasks : List Task) (steps : List MainStep) (log : List Entry) → with (all_submitted w cs) tasks steps log ≡ with w tasks steps log
    other_fields w [] tasks steps log = refl
    other_fields w (c ∷ cs) tasks steps log = other_fields (submitted w c) cs tasks steps log

-- so it does where the fields are written one after the other
pub record Writes (w v : Known) (places : List Path) (tasks : List Task) (steps : List MainStep) (log : List Entry) (running units mains : ℕ) : Type 0 where
  pub wrote : Wrote w v tasks steps log running units
  pub indexed : IsIndexed (with w tasks steps log) places mains

pub join-writes : (w v : Known) (places places_after : List Path) (tasks same_tasks tasks_after made : List Task) (steps : List MainStep) (log same_log log_after entries : List Entry) (running units add mains k : ℕ) (ended : Ended) (calls : List JoinCall) (t u s : Task) (r : TaskRecord) (path : Path) (tree : Tree) → w.tree ≡ tree → w ≡ v → Keeps w tasks steps log running units → IsIndexed w places mains → AddsCalls v k ended calls add
    → same_tasks ≡ tasks → t ≡ get_or same_tasks k t → r ≡ record t.record { status = status.Joining }
    → u ≡ get_or (set same_tasks k (with-record t r)) k u
    → s ≡ get_or tasks k s → path ≡ s.record.path
    → made ≡ new_tasks calls → tasks_after ≡ set (set same_tasks k (with-record t r)) k (record u { ran = Some ended }) ++ made
    → entries ≡ entry.JoinRun path ∷ submissions tree.0 made → same_log ≡ log → log_after ≡ same_log ++ entries
    → places_after ≡ places ++ task_paths made
    → Writes w (joined v k (result_of ended, calls_of calls)) places_after tasks_after steps log_after running (units + add) mains
join-writes w v places places_after tasks same_tasks tasks_after made steps log same_log log_after entries running units add mains k ended calls t u s r path tree of_tree view keeps indexed adds same at is_r at_u at_s is_path is_made after is_entries logged log_grows placed =
    let ran : Dry = (result_of ended, calls_of calls) in
    let before = subst (λ (x : Known). AddsCalls x k ended calls add) (sym view) adds in
    let there : t ≡ get_or tasks k t = at ∙ ap (λ (ts : List Task). get_or ts k t) same in
    let a = join-keeps w places tasks steps log running units add mains k ended calls t keeps indexed before there in
    let known = join-known w tasks steps log k t keeps.is there before.can.callback.pending in
    let first = join-known w tasks steps log k s keeps.is at_s before.can.callback.pending in
    let here : path ≡ path_at w k = is_path ∙ path-is w tasks k s status.Pending first in
    let within : k < length same_tasks = subst (λ (ts : List Task). k < length ts) (sym same) known.within in
    let back = written-back same_tasks k (with-record t r) u within at_u in
    let task_is : record u { ran = Some ended } ≡ joined-task t ended
    = ap (λ (x : Task). record x { ran = Some ended }) back ∙ ap (λ (q : TaskRecord). record (with-record t q) { ran = Some ended }) is_r in
    let all : List Task = set tasks k (joined-task t ended) ++ new_tasks calls in
    let tasks_are : tasks_after ≡ all
    = after ∙ ap (λ (ts : List Task). ts ++ made) (set-set same_tasks k (with-record t r) (record u { ran = Some ended }) ∙ ap (λ (ts : List Task). set ts k (record u { ran = Some ended })) same ∙ ap (set tasks k) task_is)
    ∙ ap (λ (ms : List Task). set tasks k (joined-task t ended) ++ ms) is_made in
    let log_is : log_after ≡ log ++ entry.JoinRun (path_at w k) ∷ submissions (apps_in w) (new_tasks calls)
    = log_grows ∙ ap (λ (es : List Entry). es ++ entries) logged
    ∙ ap (λ (es : List Entry). log ++ es) (is_entries ∙ ap (λ (x : Tree). entry.JoinRun path ∷ submissions x.0 made) (sym of_tree) ∙ ap (λ (p : Path). entry.JoinRun p ∷ submissions (apps_in w) made) here ∙ ap (λ (ms : List Task). entry.JoinRun (path_at w k) ∷ submissions (apps_in w) ms) is_made) in
    let is : with w tasks_after steps log_after ≡ joined w k ran = ap (λ (ts : List Task). with w ts steps log_after) tasks_are ∙ ap (with w all steps) log_is ∙ a.view in
    let places_are : places_after ≡ places ++ task_paths (new_tasks calls) = placed ∙ ap (λ (ms : List Task). places ++ task_paths ms) is_made in
    record {
      wrote = record {
        view = is ∙ ap (λ (x : Known). joined x k ran) view;
        sound = subst (λ (x : Known). IsSound x tasks_after steps running (units + add)) (sym is) (subst (λ (ts : List Task). IsSound (joined w k ran) ts steps running (units + add)) (sym tasks_are) a.sound);
      };
      indexed = subst (λ (x : Known). IsIndexed x places_after mains) (sym is) (subst (λ (ps : List Path). IsIndexed (joined w k ran) ps mains) (sym places_are) a.indexed);
    }

-- the paths of its calls are new
pub join-distinct : (w : Known) (places : List Path) (mains k : ℕ) (ended : Ended) (calls : List JoinCall) (units : ℕ) → Inv w → IsIndexed w places mains → AddsCalls w k ended calls units → AreDistinct (places ++ task_paths (new_tasks calls))
join-distinct w places mains k ended calls units inv indexed adds =
    let ran : Dry = (result_of ended, calls_of calls) in
    let can = can-join w k ended calls units adds in
    subst (λ (ps : List Path). AreDistinct (places ++ ps)) (sym (new-paths calls))
    (distinct-paths (joined w k ran) (places ++ map (λ (c : Call). c.path) ran.1) mains (keep-joined w k ran inv can).holds.tracks (indexed-joined w places mains k ran inv can indexed))

-- so are those of its tasks
pub tasks-distinct : (w v : Known) (places : List Path) (mains k : ℕ) (ended : Ended) (calls : List JoinCall) (units : ℕ) (made slice : List Task) → w ≡ v → Inv w → IsIndexed w places mains → AddsCalls v k ended calls units → made ≡ new_tasks calls → slice ≡ made → AreDistinct (places ++ task_paths slice)
tasks-distinct w v places mains k ended calls units made slice view inv indexed adds is_made same =
    subst (λ (ts : List Task). AreDistinct (places ++ task_paths ts)) (sym (same ∙ is_made))
    (join-distinct w places mains k ended calls units inv indexed (subst (λ (x : Known). AddsCalls x k ended calls units) (sym view) adds))

-- ---- the table of paths

-- a test that none of a list passes, none of it passes
none_at : {A : Type 0} → (f : A → Bool) (qs : List A) (p : A) (rest : List A) → list_any f (qs ++ p ∷ rest) ≡ false → f p ≡ false
none_at f [] p rest h = (or_parts (f p) (list_any f rest) h).0
none_at f (q ∷ qs) p rest h = none_at f qs p rest (or_parts (f q) (list_any f (qs ++ p ∷ rest)) h).1

-- the next of distinct paths isn't there yet
place_new : (ps : List Path) (p : Path) (rest : List Path) → AreDistinct (ps ++ p ∷ rest) → place_in ps p ≡ None
place_new [] p rest h = refl
place_new (q ∷ qs) p rest h =
    let other : bytes_eq p q ≡ false = nat_list_eq_equiv.symm p q ∙ none_at (bytes_eq q) qs p rest h.0 in
    rw (other, place_new qs p rest h.1) refl

paths_split : (ts : List Task) (i : ℕ) (t : Task) → i < length ts → t ≡ get_or ts i t → task_paths ts ≡ task_paths (take i ts) ++ t.record.path ∷ task_paths (drop (suc i) ts)
paths_split ts i t within at =
    let cut : ts ≡ take i ts ++ t ∷ drop (suc i) ts = sym (take-append-drop i ts) ∙ ap (λ (us : List Task). take i ts ++ us) (drop-cons ts i t within ∙ ap (λ (u : Task). u ∷ drop (suc i) ts) (sym at)) in
    ap task_paths cut ∙ map-append (λ (u : Task). u.record.path) (take i ts) (t ∷ drop (suc i) ts)

pub path-new : (ps now : List Path) (ts : List Task) (i : ℕ) (t : Task) (p : Path) → AreDistinct (ps ++ task_paths ts) → now ≡ ps ++ task_paths (take i ts) → i < length ts → t ≡ get_or ts i t → p ≡ t.record.path → place_in now p ≡ None
path-new ps now ts i t p distinct is within at path =
    let split = ap (λ (qs : List Path). ps ++ qs) (paths_split ts i t within at) ∙ sym (append_assoc ps (task_paths (take i ts)) (t.record.path ∷ task_paths (drop (suc i) ts))) in
    let new = place_new (ps ++ task_paths (take i ts)) t.record.path (task_paths (drop (suc i) ts)) (subst AreDistinct split distinct) in
    rw (is, path) new

pub path-added : (ps now after : List Path) (ts : List Task) (i : ℕ) (t : Task) (p : Path) → now ≡ ps ++ task_paths (take i ts) → after ≡ now ++ p ∷ [] → i < length ts → t ≡ get_or ts i t → p ≡ t.record.path → after ≡ ps ++ task_paths (take (i + 1) ts)
path-added ps now after ts i t p is added within at path =
    let next : i + 1 ≡ suc i = omega arith in
    let more : task_paths (take (i + 1) ts) ≡ task_paths (take i ts) ++ p ∷ []
    = ap (λ (n : ℕ). task_paths (take n ts)) next ∙ ap task_paths (take-suc ts i t within) ∙ map-append (λ (u : Task). u.record.path) (take i ts) (get_or ts i t ∷ []) ∙ ap (λ (u : Task). task_paths (take i ts) ++ u.record.path ∷ []) (sym at) ∙ ap (λ (q : Path). task_paths (take i ts) ++ q ∷ []) (sym path) in
    added ∙ ap (λ (qs : List Path). qs ++ p ∷ []) is ∙ append_assoc ps (task_paths (take i ts)) (p ∷ []) ∙ ap (λ (qs : List Path). ps ++ qs) (sym more)

-- what was added is taken out
pub paths-kept : (ps now after : List Path) (ts : List Task) (i count : ℕ) → now ≡ ps ++ task_paths (take i ts) → count ≡ length ps → after ≡ take count now → after ≡ ps
paths-kept ps now after ts i count is counted cut = cut ∙ ap (take count) is ∙ ap (λ (n : ℕ). take n (ps ++ task_paths (take i ts))) counted ∙ take-append_seam ps (task_paths (take i ts))
