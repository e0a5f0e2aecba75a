-- A write of one task keeps what a kernel keeps.
use Rattle.std.proofs.Common.{◌≡◌, ◌≢◌, ℕ, ◌<◌, ◌≤◌, true, false, List, [], ◌∷◌, ◌++◌, length, set, Option, Some, None, IsSome, refl, sym, ◌∙◌, ap, subst, arith, length-set}
use Rattle.std.specs.Prelude.{slice_get, is_some, Result}
use Rattle.std.proofs.lemmas.Bool.{or_parts}
use Rattle.flow_base.specs.declared.outcome.Exception.{Exception}
use Rattle.flow_base.specs.declared.outcome.Outcome.{Outcome}
use Rattle.script_tree.specs.Grammar.{Tree}
use Rattle.task_record.specs.declared.status.Status.TheVariants as status
use Rattle.event_log.specs.declared.entry.Entry.{Entry}
use Rattle.flow_meaning.specs.Evaluations.{no_losses}
use Rattle.flow_meaning.specs.Inputs.{Path}
use Rattle.flow_meaning.specs.Meaning.{Done}
use Rattle.flow_meaning.specs.Sequential.{Tasks, outcome_at}
use Rattle.history_laws.specs.declared.table.MainEvent.{MainEvent}
use Rattle.history_laws.specs.declared.table.Table.{Table}
use Rattle.call_rules.specs.Calls.{Losses, Call, child, task_of, calls_below, calls_with, awaits, awaits_with, call_outcome, join_dry}
use Rattle.history_laws.specs.Reads.{History, submits, is_submitted, due, stores, has_end, lost}
use Rattle.history_laws.specs.Tables.{task_at, acts_of, is_join, table}
use Rattle.history_laws.specs.Laws.{OwnStands, stands, IsFree, calls_at, calls_in_task, LaunchLaw, AttemptLaw, ManagerLaw}
use Rattle.history_laws.specs.Legal.{IsLegal}
use Rattle.memo_table.specs.Keys.{KeyView}
use Rattle.memo_table.specs.Table.{MemoView}
use Rattle.kernel_model.specs.Known.{Known, Life, no_life, no_retries, call_at, path_at, life_at, status_at, outcome_in, settled_outcome, inputs_at, known, begin_at, key_at, is_kept, has_ended, apps_in, main_left}
use Rattle.kernel_model.specs.Invariants.{IsLife, HasRun, IsCall, IsOf, of_main, of_join, IsDue, FitsAt, FitsLosses, FollowsEvaluation, Tracks, IsAttempted, IsJoined, WaitsSettled, Memoises, IsConsistent, Inv, GrowsInto}
use Rattle.kernel_model.specs.Acts.{put}
use Rattle.call_rules.proofs.Tasks.{outcome-found, some-of, slice-within}
use Rattle.call_rules.proofs.Agreeing.{agree-back, outcome-agrees}
use Rattle.kernel_model.proofs.Places.{set-cases, settled-within, run-within, ran-within}
use Rattle.kernel_model.proofs.Reading.{IsOfTask, other-life, task-submits, task-submitted, task-ends, waits-stay}
use Rattle.kernel_model.proofs.Memos.{memo-grows}
use Rattle.kernel_model.proofs.Growing.{grows-begin, grows-key, grows-inputs, grows-outcome, fits-on, fits-back}
use Rattle.kernel_model.proofs.Knowing.{whole-agrees, knows-call, ruled-at}
use Rattle.call_rules.specs.Groups.{AllKnown}
use Rattle.call_rules.specs.Told.{whole, Asks, IsTold}

-- an entry by the laws, where nothing has ended and no call of a join is still to be submitted
pub record Stands (z : Table) (b : History) (e : Entry) : Type 0 where
  pub own : OwnStands z b e
  pub launching : LaunchLaw z b e
  pub attempts : AttemptLaw no_retries z b e
  pub managers : ManagerLaw b e

pub open-yet : (w : Known) → has_ended w ≡ false → has_end w.past ≡ false
open-yet w h = (or_parts (is_some w.refusal) (has_end w.past) h).1

-- no call of a join is still to be submitted, by the table too
pub free-yet : (w : Known) → Inv w → (losses : Losses) → FollowsEvaluation losses w → IsFree (table w.tree losses) w.past
free-yet w inv losses e p n at =
    let h = inv.holds in
    let d = h.joins.is_due p n at in
    let run = some-result (life_at w d.place).ran d.ran in
    let joined = h.joins.ran d.place run.0 run.1 in
    let c = knows-call w losses h.tracks e d.place d.within in
    let here : task_at (table w.tree losses) p ≡ Some c.task = ap (task_at (table w.tree losses)) d.is ∙ c.is in
    let counted : calls_at (table w.tree losses) p ≡ length (calls_below (apps_in w) (known w) (call_at w d.place)) = ap calls_in_task here ∙ c.calls joined.inputs in
    let few = inv.quiet d.place n d.within (at ∙ ap (λ (q : Path). Some (q, n)) d.is) in
    omega (arith, counted, few)
  where
    some-result : {A : Type 0} → (r : Option A) → IsSome r → (a : A) × (r ≡ Some a)
    some-result (Some a) h = (a, refl)
    some-result None h = absurd (cc)

-- the task has this life, behind these entries, the newest first, and this is stored
abbrev pub puts : Known → ℕ → Life → MemoView → List Entry → Known
puts w k life memo es = record w { lives = set w.lives k life; memo = memo; past = es ++ w.past }

abbrev pub AreOfTask : List Entry → Path → Type 0
AreOfTask [] p = Unit {0}
AreOfTask (e ∷ es) p = IsOfTask e p × AreOfTask es p

-- each of the entries, the newest first, by the laws
abbrev pub AllStand : Table → History → List Entry → Type 0
AllStand z b [] = Unit {0}
AllStand z b (e ∷ []) = Stands z b e
AllStand z b (e ∷ f ∷ es) = Stands z (f ∷ es ++ b) e × (due (f ∷ es ++ b) ≡ None) × AllStand z b (f ∷ es)

-- what an act on a task has to show
pub record TaskStep (w : Known) (k : ℕ) (life : Life) (memo : MemoView) (es : List Entry) : Type 0 where
  pub not_ended : has_ended w ≡ false
  pub within : k < length w.calls
  pub of_task : AreOfTask es (path_at w k)
  pub kept : (outcome : Outcome) → settled_outcome w k ≡ Some outcome → outcome_in life ≡ Some outcome
  pub kept_ran : IsSome (life_at w k).ran → IsSome life.ran
  pub is_life : IsLife no_retries (path_at w k) (es ++ w.past) life
  pub begun : life.status ≡ status.Unsched → ⊥
  pub attempted : HasRun life.status → IsAttempted w k
  pub ended : (outcome : Outcome) → life.status ≡ status.RunningEnded → life.end ≡ Some outcome → outcome ≡ call_outcome (apps_in w) no_losses (known w) (call_at w k)
  pub joined : Tracks (puts w k life memo es) → (result : Result Done Exception) → life.ran ≡ Some result → IsJoined (puts w k life memo es) k result
  pub settled : (outcome : Outcome) → outcome_in life ≡ Some outcome → is_join (begin_at w k) ≡ true → IsSome life.ran
  pub is_due : (p : Path) (n : ℕ) → due (es ++ w.past) ≡ Some (p, n) → IsDue (puts w k life memo es) p n
  pub fits : (outcome : Outcome) → outcome_in life ≡ Some outcome → FitsAt (lost w.past) w k outcome
  pub stands : (losses : Losses) → FitsLosses losses w → FollowsEvaluation losses (puts w k life memo es) → FollowsEvaluation losses w → AllStand (table w.tree losses) w.past es

pub put-grows : (w : Known) (k : ℕ) (life : Life) (memo : MemoView) (es : List Entry) → k < length w.lives → ((outcome : Outcome) → settled_outcome w k ≡ Some outcome → outcome_in life ≡ Some outcome) → GrowsInto w (puts w k life memo es)
put-grows w k life memo es within kept = record {
  tree = refl;
  outcome = λ j outcome h. set-cases w k j life (λ n x. settled_outcome w n ≡ Some outcome → outcome_in x ≡ Some outcome) within (kept outcome) (λ ne g. g) h;
  calls = omega arith;
  call = λ j h. refl;
}

-- a join that ran, where its calls are there
pub joined-grows : (w v : Known) → Tracks w → Tracks v → GrowsInto w v → (k : ℕ) (result : Result Done Exception) → k < length w.calls → (h : IsJoined w k result)
    → ((i : ℕ) (c : Call) → slice_get (join_dry (apps_in w) (path_at w k) h.app h.values).1 i ≡ Some c → ((n : ℕ) → due v.past ≡ Some (path_at w k, n) → i < n) → IsCall v c) → IsJoined v k result
joined-grows w v tw tv grows k result within h children =
    let begins = grows-begin w v tw tv grows k within h.inputs in
    let same : path_at v k ≡ path_at w k = ap (λ (c : Call). c.path) (grows.call k within) in
    let dried : join_dry (apps_in v) (path_at v k) h.app h.values ≡ join_dry (apps_in w) (path_at w k) h.app h.values
    = ap (λ (tree : Tree). join_dry tree.0 (path_at v k) h.app h.values) grows.tree ∙ ap (λ (p : Path). join_dry (apps_in w) p h.app h.values) same in
    record {
      inputs = grows-inputs w v tw tv grows k within h.inputs;
      app = h.app;
      values = h.values;
      begins = begins ∙ h.begins;
      gave = h.gave ∙ ap (λ d. d.0) (sym dried);
      children = λ i c at few. children i c (ap (λ d. slice_get d.1 i) (sym dried) ∙ at) (λ n d. few n (d ∙ ap (λ (p : Path). Some (p, n)) (sym same)));
    }

pub call-grows : (w v : Known) → GrowsInto w v → (c : Call) → IsCall w c → IsCall v c
call-grows w v grows c there = record { place = there.place; within = let lt = there.within in let le = grows.calls in omega arith; is = grows.call there.place there.within ∙ there.is }

-- where none is due, all its calls were there
pub joined-on : (w v : Known) → Inv w → Tracks v → GrowsInto w v → (k : ℕ) (result : Result Done Exception) → k < length w.calls → IsJoined w k result → IsJoined v k result
joined-on w v inv tv grows k result within h =
    let below : calls_below (apps_in w) (known w) (call_at w k) ≡ (join_dry (apps_in w) (path_at w k) h.app h.values).1 = ap (calls_with (apps_in w) (path_at w k)) h.begins in
    joined-grows w v inv.holds.tracks tv grows k result within h (λ i c at few.
    call-grows w v grows c (h.children i c at (λ n d. (let le = inv.quiet k n within d in let lt = slice-within (join_dry (apps_in w) (path_at w k) h.app h.values).1 i c at in omega (arith, le, lt, ap length below)))))

pub attempted-on : (w v : Known) → Tracks w → Tracks v → GrowsInto w v → (k : ℕ) → k < length w.calls → IsAttempted w k → IsAttempted v k
attempted-on w v tw tv grows k within h = record {
  inputs = grows-inputs w v tw tv grows k within h.inputs;
  app = h.app;
  values = h.values;
  begins = grows-begin w v tw tv grows k within h.inputs ∙ h.begins;
}

-- what an attempt waits for is nothing
pub no-awaits : (w : Known) (k : ℕ) → (h : IsAttempted w k) → AllKnown (known w) (awaits (apps_in w) (known w) (call_at w k))
no-awaits w k h = subst (AllKnown (known w)) (sym (ap (awaits_with (apps_in w) (path_at w k)) h.begins)) tt

pub ended-on : (w v : Known) → Tracks w → Tracks v → GrowsInto w v → (k : ℕ) (outcome : Outcome) → k < length w.calls → IsAttempted w k → outcome ≡ call_outcome (apps_in w) no_losses (known w) (call_at w k) → outcome ≡ call_outcome (apps_in v) no_losses (known v) (call_at v k)
ended-on w v tw tv grows k outcome within h is = is ∙ sym (grows-outcome w v tw tv grows no_losses k within h.inputs (no-awaits w k h))

-- a task that settles so has this outcome in the evaluation
pub settles-so : (w v : Known) → IsTold w.tree → Tracks w → Tracks v → GrowsInto w v → (losses : Losses) → FollowsEvaluation losses w → (k : ℕ) (outcome : Outcome) → k < length w.calls → AllKnown (known w) (inputs_at w k) → AllKnown (known w) (awaits (apps_in w) (known w) (call_at w k)) → FitsAt losses v k outcome → outcome_at (whole w.tree losses) (path_at w k) ≡ Some outcome
settles-so w v told tw tv grows losses e k outcome within inputs_known awaits_known fits =
    let all : Tasks = whole w.tree losses in
    let c : Call = call_at w k in
    let there = e.placed k within in
    let ruled = ruled-at w losses told e k within there in
    let inputs_agree = whole-agrees w losses tw e (inputs_at w k) inputs_known in
    let awaits_agree = whole-agrees w losses tw e (awaits (apps_in w) (known w) c) awaits_known in
    let by_known = fits.by_rule ∙ grows-outcome w v tw tv grows losses k within inputs_known awaits_known in
    let by_whole : call_outcome (apps_in w) losses all c ≡ call_outcome (apps_in w) losses (known w) c = sym (outcome-agrees (apps_in w) losses (known w) all c (agree-back all (known w) _ inputs_agree) (agree-back all (known w) _ awaits_agree)) in
    outcome-found all c.path (task_of c there.outcome) there.at ∙ ap Some (ruled.outcome ∙ by_whole ∙ sym by_known)

-- a call of the history is of the same kind as before
pub family-on : (w v : Known) → GrowsInto w v → ((j : ℕ) → IsSome (life_at w j).ran → IsSome (life_at v j).ran) → submits w.past ≤ submits v.past → (k : ℕ) → k < length w.calls → IsOf w k → IsOf v k
family-on w v grows ran more k within (of_main i lt e) = of_main i (omega arith) (ap (λ (c : Call). c.path) (grows.call k within) ∙ e)
family-on w v grows ran more k within (of_join j i lt has e) =
    of_join j i (let le = grows.calls in omega arith) (ran j has) (ap (λ (c : Call). c.path) (grows.call k within) ∙ e ∙ ap (λ (c : Call). child c.path i) (sym (grows.call j lt)))

-- ---- entries of one task

others-life : (es : List Entry) (p o : Path) (b : History) (life : Life) → AreOfTask es p → o ≢ p → IsLife no_retries o b life → IsLife no_retries o (es ++ b) life
others-life [] p o b life is ne h = h
others-life (e ∷ es) p o b life is ne h = other-life no_retries e p o (es ++ b) life is.0 ne (others-life es p o b life is.1 ne h)

all-submits : (es : List Entry) (p : Path) (b : History) → AreOfTask es p → submits (es ++ b) ≡ submits b
all-submits [] p b is = refl
all-submits (e ∷ es) p b is = task-submits e p (es ++ b) is.0 ∙ all-submits es p b is.1

all-submitted : (es : List Entry) (p : Path) (b : History) (o : Path) → AreOfTask es p → is_submitted o (es ++ b) ≡ is_submitted o b
all-submitted [] p b o is = refl
all-submitted (e ∷ es) p b o is = task-submitted e p (es ++ b) o is.0 ∙ all-submitted es p b o is.1

all-end : (es : List Entry) (p : Path) (b : History) → AreOfTask es p → has_end (es ++ b) ≡ has_end b
all-end [] p b is = refl
all-end (e ∷ es) p b is = task-ends e p (es ++ b) is.0 ∙ all-end es p b is.1

all-waits : (es : List Entry) (acts : List MainEvent) (b : History) → WaitsSettled acts b → WaitsSettled acts (es ++ b)
all-waits [] acts b h = h
all-waits (e ∷ es) acts b h = waits-stay e acts (es ++ b) (all-waits es acts b h)

-- entries that stand make a legal history longer
one_legal : (z : Table) (b : History) (e : Entry) → has_end b ≡ false → IsFree z b → Stands z b e → IsLegal no_retries z b → IsLegal no_retries z (e ∷ b)
one_legal z b e opened free s h = record {
  settling = (record { open_yet = opened; stands = stands free s.own }, h.settling);
  launching = (s.launching, h.launching);
  attempts = (s.attempts, h.attempts);
  managers = (s.managers, h.managers);
}

all-legal : (z : Table) (b : History) (es : List Entry) (p : Path) → AreOfTask es p → has_end b ≡ false → IsFree z b → AllStand z b es → IsLegal no_retries z b → IsLegal no_retries z (es ++ b)
all-legal z b [] p is opened free s h = h
all-legal z b (e ∷ []) p is opened free s h = one_legal z b e opened free s h
all-legal z b (e ∷ f ∷ es) p is opened free s h =
    one_legal z (f ∷ es ++ b) e (all-end (f ∷ es) p b is.1 ∙ opened) (λ q n at. absurd (let none = s.1 in cc)) s.0 (all-legal z b (f ∷ es) p is.1 opened free s.2 h)

-- ---- the write

put-tracks : (w : Known) (k : ℕ) (life : Life) (memo : MemoView) (es : List Entry) → Inv w → TaskStep w k life memo es → Tracks (puts w k life memo es)
put-tracks w k life memo es inv step =
    let tw = inv.holds.tracks in
    let l = tw.lives in
    let lw = step.within in
    let within : k < length w.lives = omega arith in
    let p : Path = path_at w k in
    let grows = put-grows w k life memo es within step.kept in
    record {
      lives = length-set w.lives k life ∙ tw.lives;
      distinct = tw.distinct;
      there = λ j h. all-submitted es p w.past (path_at w j) step.of_task ∙ tw.there j h;
      lived = λ j. set-cases w k j life (λ n x. n < length w.calls → IsLife no_retries (path_at w n) (es ++ w.past) x) within
          (λ h. step.is_life)
          (λ ne h. others-life es p (path_at w j) w.past (life_at w j) step.of_task (λ same. ne (tw.distinct j k h step.within same)) (tw.lived j h));
      none = λ q ne. others-life es p q w.past no_life step.of_task (λ same. ne k step.within (sym same)) (tw.none q ne);
      begun = λ j. set-cases w k j life (λ n x. n < length w.calls → x.status ≡ status.Unsched → ⊥) within (λ h. step.begun) (λ ne. tw.begun j);
      family = λ j h. family-on w (puts w k life memo es) grows
          (λ n. set-cases w k n life (λ m x. IsSome (life_at w m).ran → IsSome x.ran) within step.kept_ran (λ ne g. g))
          (let same = all-submits es p w.past step.of_task in omega arith) j h (tw.family j h);
    }

-- where the memo is kept, all is kept
pub keep-puts : (w : Known) (k : ℕ) (life : Life) (memo : MemoView) (es : List Entry) → Inv w → TaskStep w k life memo es → (Tracks (puts w k life memo es) → Memoises (puts w k life memo es)) → IsConsistent (puts w k life memo es)
keep-puts w k life memo es inv step memoises =
    let h = inv.holds in
    let tw = h.tracks in
    let l = tw.lives in
    let lw = step.within in
    let within : k < length w.lives = omega arith in
    let p : Path = path_at w k in
    let v : Known = puts w k life memo es in
    let grows = put-grows w k life memo es within step.kept in
    let tv = put-tracks w k life memo es inv step in
    let opened = open-yet w step.not_ended in
    let same_submits = all-submits es p w.past step.of_task in
    let back : (losses : Losses) → FitsLosses losses v → FitsLosses losses w = fits-back w v tw tv grows (lost w.past) h.right.fits in
    let evaluates : (losses : Losses) → FitsLosses losses v → FollowsEvaluation losses v = λ losses f.
    let before = h.right.evaluates losses (back losses f) in
    record {
      made = before.made;
      count = before.count ∙ sym same_submits;
      group = before.group;
      goes_on = before.goes_on;
      placed = before.placed;
      agrees = λ j outcome settled.
          set-cases w k j life (λ n x. FitsAt losses v n outcome → outcome_in x ≡ Some outcome → outcome_at (whole w.tree losses) (path_at w n) ≡ Some outcome) within
          (λ fit is. settles-so w v h.told tw tv grows losses before k outcome step.within (step.fits outcome is).inputs (step.fits outcome is).awaited fit)
          (λ ne fit is. before.agrees j outcome is)
          (f j outcome settled) settled;
    } in
    record {
      told = h.told;
      texts = h.texts;
      tracks = tv;
      runs = record {
        attempted = λ j. set-cases w k j life (λ n x. HasRun x.status → IsAttempted v n) within
            (λ r. attempted-on w v tw tv grows k step.within (step.attempted r))
            (λ ne r. attempted-on w v tw tv grows j (run-within w tw.lives j r) (h.runs.attempted j r));
        ended = λ j outcome. set-cases w k j life (λ n x. x.status ≡ status.RunningEnded → x.end ≡ Some outcome → outcome ≡ call_outcome (apps_in v) no_losses (known v) (call_at v n)) within
            (λ is has. ended-on w v tw tv grows k outcome step.within (step.attempted (subst HasRun (sym is) tt)) (step.ended outcome is has))
            (λ ne is has. let run : HasRun (status_at w j) = subst HasRun (sym is) tt in ended-on w v tw tv grows j outcome (run-within w tw.lives j run) (h.runs.attempted j run) (h.runs.ended j outcome is has));
      };
      joins = record {
        ran = λ j result. set-cases w k j life (λ n x. x.ran ≡ Some result → IsJoined v n result) within
            (step.joined tv result)
            (λ ne is. joined-on w v inv tv grows j result (ran-within w tw.lives j (some-of (life_at w j).ran result is)) (h.joins.ran j result is));
        settled = λ j outcome. set-cases w k j life (λ n x. outcome_in x ≡ Some outcome → is_join (begin_at v n) ≡ true → IsSome x.ran) within
            (λ is join. step.settled outcome is (sym (ap is_join (grows-begin w v tw tv grows k step.within (step.fits outcome is).inputs)) ∙ join))
            (λ ne is join. h.joins.settled j outcome is (sym (ap is_join (grows-begin w v tw tv grows j (settled-within w tw.lives j outcome is) (h.right.fits j outcome is).inputs)) ∙ join));
        is_due = step.is_due;
      };
      memo = memoises tv;
      main = record {
        asks = subst (λ (n : ℕ). Asks [] n (main_left w)) (sym same_submits) h.main.asks;
        mains = λ i lt. h.main.mains i (omega arith);
        called = h.main.called ∙ sym same_submits;
        waits = all-waits es (acts_of w.acts) w.past h.main.waits;
        ended = h.main.ended;
      };
      right = record {
        fits = λ j outcome. set-cases w k j life (λ n x. outcome_in x ≡ Some outcome → FitsAt (lost (es ++ w.past)) v n outcome) within
            (λ is. fits-on w v tw tv grows (lost w.past) k outcome step.within (step.fits outcome is))
            (λ ne is. fits-on w v tw tv grows (lost w.past) j outcome (settled-within w tw.lives j outcome is) (h.right.fits j outcome is));
        evaluates = evaluates;
        legal = λ losses f.
            let fits = back losses f in
            let before = h.right.evaluates losses fits in
            all-legal (table w.tree losses) w.past es p step.of_task opened (free-yet w inv losses before) (step.stands losses fits (evaluates losses f) before) (h.right.legal losses fits);
        ends = λ ended. absurd (let ends = all-end es p w.past step.of_task in cc);
      };
    }

-- what is stored of a task's key stays stored, as long as nothing is stored
memo-put : (w : Known) (k : ℕ) (life : Life) (es : List Entry) → Inv w → TaskStep w k life w.memo es → ((keys : Path → Option KeyView) (key : KeyView) → stores keys key (es ++ w.past) ≡ stores keys key w.past)
    → ((outcome : Outcome) → outcome_in life ≡ Some outcome → is_kept w.memo (key_at w k) outcome ≡ true) → Tracks (puts w k life w.memo es) → Memoises (puts w k life w.memo es)
memo-put w k life es inv step same kept tv =
    let h = inv.holds in
    let tw = h.tracks in
    let l = tw.lives in
    let lw = step.within in
    let within : k < length w.lives = omega arith in
    let v : Known = puts w k life w.memo es in
    let grows = put-grows w k life w.memo es within step.kept in
    let on : (j : ℕ) (outcome : Outcome) → j < length w.calls → AllKnown (known w) (inputs_at w j) → is_kept w.memo (key_at w j) outcome ≡ true → is_kept w.memo (key_at v j) outcome ≡ true
    = λ j outcome there inputs is. ap (λ key. is_kept w.memo key outcome) (grows-key w v tw tv grows j there inputs) ∙ is in
    memo-grows w v tw tv grows refl same (fits-back w v tw tv grows (lost w.past) h.right.fits)
    (λ j outcome. set-cases w k j life (λ n x. outcome_in x ≡ Some outcome → is_kept w.memo (key_at v n) outcome ≡ true) within
    (λ is. on k outcome step.within (step.fits outcome is).inputs (kept outcome is))
    (λ ne is. on j outcome (settled-within w tw.lives j outcome is) (h.right.fits j outcome is).inputs (h.memo.kept j outcome is)))
    h.memo

-- nothing is stored, and a task that settles is kept
pub keep-told : (w : Known) (k : ℕ) (life : Life) (es : List Entry) → Inv w → TaskStep w k life w.memo es → ((keys : Path → Option KeyView) (key : KeyView) → stores keys key (es ++ w.past) ≡ stores keys key w.past)
    → ((outcome : Outcome) → outcome_in life ≡ Some outcome → is_kept w.memo (key_at w k) outcome ≡ true) → IsConsistent (puts w k life w.memo es)
keep-told w k life es inv step same kept = keep-puts w k life w.memo es inv step (memo-put w k life es inv step same kept)

-- one entry
pub keep-put : (w : Known) (k : ℕ) (life : Life) (e : Entry) → Inv w → TaskStep w k life w.memo (e ∷ []) → ((keys : Path → Option KeyView) (key : KeyView) → stores keys key (e ∷ w.past) ≡ stores keys key w.past)
    → ((outcome : Outcome) → outcome_in life ≡ Some outcome → is_kept w.memo (key_at w k) outcome ≡ true) → IsConsistent (put w k life e)
keep-put w k life e = keep-told w k life (e ∷ [])
