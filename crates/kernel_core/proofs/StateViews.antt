-- What a write of one task, a new task or an entry more does to what is known of a run.
use Rattle.std.proofs.Common.{◌≡◌, ◌≢◌, ℕ, zero, suc, ◌+◌, ◌^◌, ◌<◌, ◌≤◌, List, [], ◌∷◌, ◌++◌, length, map, reverse, Some, None, IsSome, get_or, set, refl, sym, ◌∙◌, ap, subst, arith}
use Rattle.std.specs.Prelude.{slice_get, flat_map}
use Rattle.std.proofs.lemmas.List.{get_or-map, map-set, reverse-append, get_or-set_other, get_or-set_same, get_or_append_left, length-map}
use Rattle.flow_meaning.specs.declared.walk.Answer.{Answer}
use Rattle.flow_meaning.specs.declared.walk.Answer.TheVariants as answer
use Rattle.flow_meaning.specs.Sequential.{MainAct, Calls, Waits, Prints, Checkpoints, outcome_answer}
use Rattle.task_record.specs.declared.status.Status.{Status}
use Rattle.task_record.specs.declared.status.Status.TheVariants as status
use Rattle.event_log.specs.declared.entry.Entry.{Entry}
use Rattle.flow_meaning.specs.Inputs.{Path}
use Rattle.script_tree.specs.Grammar.{Tree}
use Rattle.call_rules.specs.Calls.{Call}
use Rattle.history_laws.specs.Reads.{submits}
use Rattle.kernel_model.specs.Known.{Known, Life, no_call, no_life, call_at, life_at, status_at, outcome_in}
use Rattle.kernel_model.specs.Acts.{pending, future_of, put}
use Rattle.kernel_model.specs.Invariants.{Inv}
use Rattle.kernel_model.specs.Limits.{passed, stored}
use Rattle.kernel_model.proofs.Passing.{passed-stays}
use Rattle.kernel_model.proofs.Places.{outcome-pushed, length-pushed}
use Rattle.kernel_core.specs.Tasks.{call_of, life_of, answer_of, acts_of, AreOver}
use Rattle.agenda_model.specs.Agendas.{runs, running_in}
use Rattle.kernel_core.specs.Views.{IsFact, IsSound, IsIndexed}
use Rattle.kernel_core.specs.declared.task.Task.{Task}
use Rattle.kernel_core.specs.declared.run_state.MainStep.{MainStep}
use Rattle.kernel_core.specs.declared.run_state.MainStep.TheVariants as step

-- ---- what main was answered

-- no wait that is over is for a task without an outcome
other-place : (lives : List Life) (j k : ℕ) → outcome_in (get_or lives j no_life) ≡ None → IsSome (outcome_in (get_or lives k no_life)) → k ≢ j
other-place lives j k none some e = let gone = subst (λ (n : ℕ). outcome_in (get_or lives n no_life) ≡ None) (sym e) none in absurd (let bad = rw gone at some in cc)

-- a write of a task without an outcome changes no answer
pub answers-set : (cs : List Call) (lives : List Life) (j : ℕ) (life : Life) (steps : List MainStep) → outcome_in (get_or lives j no_life) ≡ None → AreOver cs lives steps → map (answer_of cs (set lives j life)) steps ≡ map (answer_of cs lives) steps
answers-set cs lives j life [] none h = refl
answers-set cs lives j life (step.Call k ∷ steps) none h = ap (λ (l : List Answer). answer.Called (future_of (get_or cs k no_call)) ∷ l) (answers-set cs lives j life steps none h.1)
answers-set cs lives j life (step.Wait k ∷ steps) none h =
    rw (get_or-set_other lives j k life no_life (other-place lives j k none h.1)) (ap (λ (l : List Answer). outcome_answer (outcome_in (get_or lives k no_life)) ∷ l) (answers-set cs lives j life steps none h.2))
answers-set cs lives j life (step.Print value ∷ steps) none h = ap (λ (l : List Answer). answer.Go ∷ l) (answers-set cs lives j life steps none h)
answers-set cs lives j life (step.Checkpoint ∷ steps) none h = ap (λ (l : List Answer). answer.Go ∷ l) (answers-set cs lives j life steps none h)

-- and each step is still over
pub over-set : (cs : List Call) (lives : List Life) (j : ℕ) (life : Life) (steps : List MainStep) → outcome_in (get_or lives j no_life) ≡ None → AreOver cs lives steps → AreOver cs (set lives j life) steps
over-set cs lives j life [] none h = tt
over-set cs lives j life (step.Call k ∷ steps) none h = (h.0, over-set cs lives j life steps none h.1)
over-set cs lives j life (step.Wait k ∷ steps) none h =
    (h.0, rw (get_or-set_other lives j k life no_life (other-place lives j k none h.1)) h.1, over-set cs lives j life steps none h.2)
over-set cs lives j life (step.Print value ∷ steps) none h = over-set cs lives j life steps none h
over-set cs lives j life (step.Checkpoint ∷ steps) none h = over-set cs lives j life steps none h

-- a call more changes no answer
pub answers-push : (cs : List Call) (lives : List Life) (c : Call) (steps : List MainStep) → AreOver cs lives steps → map (answer_of (cs ++ c ∷ []) (lives ++ pending ∷ [])) steps ≡ map (answer_of cs lives) steps
answers-push cs lives c [] h = refl
answers-push cs lives c (step.Call k ∷ steps) h = rw (get_or_append_left cs (c ∷ []) no_call k h.0) (ap (λ (l : List Answer). answer.Called (future_of (get_or cs k no_call)) ∷ l) (answers-push cs lives c steps h.1))
answers-push cs lives c (step.Wait k ∷ steps) h = rw (outcome-pushed lives k) (ap (λ (l : List Answer). outcome_answer (outcome_in (get_or lives k no_life)) ∷ l) (answers-push cs lives c steps h.2))
answers-push cs lives c (step.Print value ∷ steps) h = ap (λ (l : List Answer). answer.Go ∷ l) (answers-push cs lives c steps h)
answers-push cs lives c (step.Checkpoint ∷ steps) h = ap (λ (l : List Answer). answer.Go ∷ l) (answers-push cs lives c steps h)

-- nor what main did
pub acts-push : (cs : List Call) (lives : List Life) (c : Call) (steps : List MainStep) → AreOver cs lives steps → flat_map (acts_of (cs ++ c ∷ [])) steps ≡ flat_map (acts_of cs) steps
acts-push cs lives c [] h = refl
acts-push cs lives c (step.Call k ∷ steps) h = rw (get_or_append_left cs (c ∷ []) no_call k h.0) (ap (λ (l : List MainAct). Calls (get_or cs k no_call).path ∷ l) (acts-push cs lives c steps h.1))
acts-push cs lives c (step.Wait k ∷ steps) h = rw (get_or_append_left cs (c ∷ []) no_call k h.0) (ap (λ (l : List MainAct). Waits (get_or cs k no_call).path ∷ l) (acts-push cs lives c steps h.2))
acts-push cs lives c (step.Print value ∷ steps) h = ap (λ (l : List MainAct). Prints value ∷ l) (acts-push cs lives c steps h)
acts-push cs lives c (step.Checkpoint ∷ steps) h = ap (λ (l : List MainAct). Checkpoints ∷ l) (acts-push cs lives c steps h)

-- and each step is still over
pub over-push : (cs : List Call) (lives : List Life) (c : Call) (steps : List MainStep) → AreOver cs lives steps → AreOver (cs ++ c ∷ []) (lives ++ pending ∷ []) steps
over-push cs lives c [] h = tt
over-push cs lives c (step.Call k ∷ steps) h = (let long = length-pushed cs c in let below = h.0 in omega arith, over-push cs lives c steps h.1)
over-push cs lives c (step.Wait k ∷ steps) h = (let long = length-pushed cs c in let below = h.0 in omega arith, rw (outcome-pushed lives k) h.1, over-push cs lives c steps h.2)
over-push cs lives c (step.Print value ∷ steps) h = over-push cs lives c steps h
over-push cs lives c (step.Checkpoint ∷ steps) h = over-push cs lives c steps h

-- one step more is over
pub over-append : (cs : List Call) (lives : List Life) (steps more : List MainStep) → AreOver cs lives steps → AreOver cs lives more → AreOver cs lives (steps ++ more)
over-append cs lives [] more h g = g
over-append cs lives (step.Call k ∷ steps) more h g = (h.0, over-append cs lives steps more h.1 g)
over-append cs lives (step.Wait k ∷ steps) more h g = (h.0, h.1, over-append cs lives steps more h.2 g)
over-append cs lives (step.Print value ∷ steps) more h g = over-append cs lives steps more h g
over-append cs lives (step.Checkpoint ∷ steps) more h g = over-append cs lives steps more h g

-- ---- how many attempts run

pub running-set : (lives : List Life) (k : ℕ) (life : Life) → k < length lives → running_in (set lives k life) + runs (get_or lives k no_life).status ≡ running_in lives + runs life.status
running-set [] k life within = absurd (omega arith)
running-set (l ∷ lives) zero life within = omega arith
running-set (l ∷ lives) (suc k) life within = let h = running-set lives k life (omega arith) in omega (arith, h)

-- a new task doesn't run
pub running-push : (lives : List Life) → running_in (lives ++ pending ∷ []) ≡ running_in lives
running-push [] = refl
running-push (l ∷ lives) = ap (λ (n : ℕ). runs l.status + n) (running-push lives)

-- a task that runs is counted
pub runs-counted : (lives : List Life) (k : ℕ) → (get_or lives k no_life).status ≡ status.Running → 1 ≤ running_in lives
runs-counted [] k is = absurd (cc)
runs-counted (l ∷ lives) zero is = let one : runs l.status ≡ 1 = ap runs is in omega (arith, one)
runs-counted (l ∷ lives) (suc k) is = let h = runs-counted lives k is in omega (arith, h)

-- ---- the log

pub log-pushed : (log : List Entry) (e : Entry) → reverse (log ++ e ∷ []) ≡ e ∷ reverse log
log-pushed log e = reverse-append log (e ∷ [])

-- ---- a task that is read

pub call-read : (tasks : List Task) (k : ℕ) (t : Task) → k < length tasks → t ≡ get_or tasks k t → get_or (map call_of tasks) k no_call ≡ call_of t
call-read tasks k t within at = get_or-map call_of tasks k t no_call within ∙ ap call_of (sym at)

pub life-read : (tasks : List Task) (k : ℕ) (t : Task) → k < length tasks → t ≡ get_or tasks k t → get_or (map life_of tasks) k no_life ≡ life_of t
life-read tasks k t within at = get_or-map life_of tasks k t no_life within ∙ ap life_of (sym at)

pub call-got : (tasks : List Task) (k : ℕ) (t : Task) → slice_get tasks k ≡ Some t → get_or (map call_of tasks) k no_call ≡ call_of t
call-got [] k t is = absurd (cc)
call-got (u ∷ tasks) zero t is = let same : u ≡ t = cc in ap call_of same
call-got (u ∷ tasks) (suc k) t is = call-got tasks k t is

pub life-got : (tasks : List Task) (k : ℕ) (t : Task) → slice_get tasks k ≡ Some t → get_or (map life_of tasks) k no_life ≡ life_of t
life-got [] k t is = absurd (cc)
life-got (u ∷ tasks) zero t is = let same : u ≡ t = cc in ap life_of same
life-got (u ∷ tasks) (suc k) t is = life-got tasks k t is

-- a task that isn't `Unsched` is in the list
pub place-within : (tasks : List Task) (k : ℕ) → (get_or (map life_of tasks) k no_life).status ≢ status.Unsched → k < length tasks
place-within [] k ne = absurd (ne refl)
place-within (t ∷ tasks) zero ne = omega arith
place-within (t ∷ tasks) (suc k) ne = let h = place-within tasks k ne in omega arith

-- ---- a task that is written

-- the task has the same path, app, arguments and names
pub calls-set : (tasks : List Task) (k : ℕ) (t u : Task) → t ≡ get_or tasks k t → call_of u ≡ call_of t → map call_of (set tasks k u) ≡ map call_of tasks
calls-set [] k t u at same = refl
calls-set (v ∷ tasks) zero t u at same = ap (λ (c : Call). c ∷ map call_of tasks) (same ∙ ap call_of at)
calls-set (v ∷ tasks) (suc k) t u at same = ap (λ (cs : List Call). call_of v ∷ cs) (calls-set tasks k t u at same)

pub lives-set : (tasks : List Task) (k : ℕ) (u : Task) → map life_of (set tasks k u) ≡ set (map life_of tasks) k (life_of u)
lives-set tasks k u = map-set life_of tasks k u

-- what was written is read back
pub written-back : (tasks : List Task) (k : ℕ) (u v : Task) → k < length tasks → v ≡ get_or (set tasks k u) k v → v ≡ u
written-back tasks k u v within h = h ∙ get_or-set_same tasks k u v within

-- ---- a write of a task, with an entry behind the log

-- what is known where the tasks, main's steps and the log are these
abbrev pub with : Known → List Task → List MainStep → List Entry → Known
with w tasks steps log = record w {
  answers = map (answer_of (map call_of tasks) (map life_of tasks)) steps;
  calls = map call_of tasks;
  lives = map life_of tasks;
  acts = flat_map (acts_of (map call_of tasks)) steps;
  past = reverse log;
}

-- these are the tasks, the steps, the log and the counters of a state that is seen as `w`
pub record Keeps (w : Known) (tasks : List Task) (steps : List MainStep) (log : List Entry) (running units : ℕ) : Type 0 where
  pub is : w ≡ with w tasks steps log
  pub sound : IsSound w tasks steps running units

-- and these are so behind an act
pub record Wrote (w v : Known) (tasks : List Task) (steps : List MainStep) (log : List Entry) (running units : ℕ) : Type 0 where
  pub view : with w tasks steps log ≡ v
  pub sound : IsSound (with w tasks steps log) tasks steps running units

-- what is known of the k-th task, in a state other than `Unsched`
pub record KnownTask (w : Known) (tasks : List Task) (k : ℕ) (t : Task) (s : Status) : Type 0 where
  pub within : k < length tasks
  pub lived : k < length w.lives
  pub called : k < length w.calls
  pub life : life_at w k ≡ life_of t
  pub call : call_at w k ≡ call_of t
  pub state : t.record.status ≡ s

pub known-task : (w : Known) (tasks : List Task) (steps : List MainStep) (log : List Entry) (k : ℕ) (t : Task) (s : Status) → w ≡ with w tasks steps log → t ≡ get_or tasks k t → status_at w k ≡ s → s ≢ status.Unsched → KnownTask w tasks k t s
known-task w tasks steps log k t s is at state ne =
    let lives : life_at w k ≡ get_or (map life_of tasks) k no_life = ap (λ (v : Known). life_at v k) is in
    let calls : call_at w k ≡ get_or (map call_of tasks) k no_call = ap (λ (v : Known). call_at v k) is in
    let here : (get_or (map life_of tasks) k no_life).status ≡ s = ap (λ (l : Life). l.status) (sym lives) ∙ state in
    let within = place-within tasks k (λ e. ne (sym here ∙ e)) in
    let life = lives ∙ life-read tasks k t within at in
    let as_many_lives : length w.lives ≡ length tasks = ap (λ (v : Known). length v.lives) is ∙ length-map tasks life_of in
    let as_many_calls : length w.calls ≡ length tasks = ap (λ (v : Known). length v.calls) is ∙ length-map tasks call_of in
    record { within = within; lived = omega (arith, within, as_many_lives); called = omega (arith, within, as_many_calls); life = life; call = calls ∙ call-read tasks k t within at; state = ap (λ (l : Life). l.status) (sym life) ∙ state }

pub view-put : (w : Known) (tasks : List Task) (steps : List MainStep) (log : List Entry) (k : ℕ) (t u : Task) (e : Entry) → w ≡ with w tasks steps log → AreOver (map call_of tasks) (map life_of tasks) steps
    → k < length tasks → t ≡ get_or tasks k t → call_of u ≡ call_of t → outcome_in (life_of t) ≡ None
    → with w (set tasks k u) steps (log ++ e ∷ []) ≡ put w k (life_of u) e
view-put w tasks steps log k t u e is over within at same none =
    let open_there : outcome_in (get_or (map life_of tasks) k no_life) ≡ None = ap outcome_in (life-read tasks k t within at) ∙ none in
    rw (calls-set tasks k t u at same, lives-set tasks k u, answers-set (map call_of tasks) (map life_of tasks) k (life_of u) steps open_there over, log-pushed log e)
    (ap (λ (v : Known). put v k (life_of u) e) (sym is))

-- a write of a task that moves the count as the task's state moves, with entries behind the log that make this of it
pub wrote-so : (w v : Known) (tasks : List Task) (steps : List MainStep) (log log_after : List Entry) (running running_after units units_after k : ℕ) (t u : Task) → Keeps w tasks steps log running units
    → k < length tasks → t ≡ get_or tasks k t → call_of u ≡ call_of t → outcome_in (life_of t) ≡ None
    → running + runs u.record.status ≡ running_after + runs t.record.status
    → with w (set tasks k u) steps log_after ≡ v → v.tree ≡ w.tree → Inv v → passed v ≡ None → units_after ≡ stored v
    → Wrote w v (set tasks k u) steps log_after running_after units_after
wrote-so w v tasks steps log log_after running running_after units units_after k t u keeps within at call none moves view tree inv limits counted =
    let sound = keeps.sound in
    let fact = sound.fact in
    let read = life-read tasks k t within at in
    let open_there : outcome_in (get_or (map life_of tasks) k no_life) ≡ None = ap outcome_in read ∙ none in
    let count : length (map life_of tasks) ≡ length tasks = length-map tasks life_of in
    let sums = running-set (map life_of tasks) k (life_of u) (omega (arith, count, within)) in
    let before : runs (get_or (map life_of tasks) k no_life).status ≡ runs t.record.status = ap (λ (l : Life). runs l.status) read in
    let sum_after : running_in (map life_of (set tasks k u)) ≡ running_in (set (map life_of tasks) k (life_of u)) = ap running_in (lives-set tasks k u) in
    let was = sound.running in
    let fact_after : IsFact v = record {
      inv = inv;
      few_apps = subst (λ (x : Tree). length x.0 < 2 ^ 32) (sym tree) fact.few_apps;
      within = limits;
    } in
    record {
      view = view;
      sound = record {
        fact = subst IsFact (sym view) fact_after;
        over = rw (calls-set tasks k t u at call, lives-set tasks k u) (over-set (map call_of tasks) (map life_of tasks) k (life_of u) steps open_there sound.over);
        running = omega (arith, moves, sums, before, sum_after, was);
        units_are = counted ∙ ap stored (sym view);
      };
    }

-- the same with one entry
pub wrote : (w v : Known) (tasks : List Task) (steps : List MainStep) (log same_log log_after : List Entry) (running running_after units units_after k : ℕ) (t u : Task) (e : Entry) → Keeps w tasks steps log running units
    → k < length tasks → t ≡ get_or tasks k t → call_of u ≡ call_of t → outcome_in (life_of t) ≡ None
    → running + runs u.record.status ≡ running_after + runs t.record.status
    → same_log ≡ log → log_after ≡ same_log ++ e ∷ []
    → put w k (life_of u) e ≡ v → Inv v → passed v ≡ None → units_after ≡ stored v
    → Wrote w v (set tasks k u) steps log_after running_after units_after
wrote w v tasks steps log same_log log_after running running_after units units_after k t u e keeps within at call none moves same after is inv limits counted =
    let logs : log_after ≡ log ++ e ∷ [] = after ∙ ap (λ (l : List Entry). l ++ e ∷ []) same in
    let view = ap (with w (set tasks k u) steps) logs ∙ view-put w tasks steps log k t u e keeps.is keeps.sound.over within at call none ∙ is in
    wrote-so w v tasks steps log log_after running running_after units units_after k t u keeps within at call none moves view (ap (λ (x : Known). x.tree) (sym is)) inv limits counted

-- ---- an act that leaves the tasks and main's steps

pub sound-same : (w v : Known) (tasks : List Task) (steps : List MainStep) (running units : ℕ) → IsSound w tasks steps running units → Inv v → v.tree ≡ w.tree → v.calls ≡ w.calls → stored v ≡ stored w → IsSound v tasks steps running units
sound-same w v tasks steps running units sound inv tree calls same = record {
  fact = record {
    inv = inv;
    few_apps = subst (λ (t : Tree). length t.0 < 2 ^ 32) (sym tree) sound.fact.few_apps;
    within = passed-stays w v (ap length calls) same sound.fact.within;
  };
  over = sound.over;
  running = sound.running;
  units_are = sound.units_are ∙ sym same;
}

-- ---- the table of paths

-- the table stays right where calls and submissions stay
pub indexed-same : (w v : Known) (places : List Path) (mains : ℕ) → IsIndexed w places mains → v.calls ≡ w.calls → submits v.past ≡ submits w.past → IsIndexed v places mains
indexed-same w v places mains h calls submissions = record {
  placed = h.placed ∙ ap (λ (cs : List Call). map (λ (c : Call). c.path) cs) (sym calls);
  mains_are = h.mains_are ∙ sym submissions;
  few = subst (λ (cs : List Call). mains ≤ length cs) (sym calls) h.few;
}

-- so it does behind an act, whose view is another one of a state that was seen as `u`
pub indexed-behind : (w u v x : Known) (places : List Path) (mains : ℕ) → w ≡ u → IsIndexed w places mains → v.calls ≡ u.calls → submits v.past ≡ submits u.past → x ≡ v → IsIndexed x places mains
indexed-behind w u v x places mains view h calls submissions is =
    subst (λ (y : Known). IsIndexed y places mains) (sym is) (indexed-same u v places mains (subst (λ (y : Known). IsIndexed y places mains) view h) calls submissions)
