-- Main, from one request to the next.
use Rattle.std.proofs.Common.{◌≡◌, ◌≢◌, ℕ, suc, ◌<◌, ◌≤◌, true, false, List, [], ◌∷◌, ◌++◌, length, map, Result, Ok, Err, IsErrAnd, refl, sym, ◌∙◌, ap, subst, arith, append_assoc, length-append}
use Rattle.std.specs.Prelude.{nat_eq}
use Rattle.std.proofs.lemmas.List.{append-nil}
use Rattle.std.proofs.lemmas.List.Elements.{filter-append}
use Rattle.std.proofs.lemmas.Grind.{flat_map-append}
use Rattle.std.proofs.lemmas.Bool.Decides.{nat_tests}
use Rattle.flow_base.specs.declared.value.Value.{Value, out-Value}
use Rattle.flow_base.specs.declared.value.Value.TheVariants as v
use Rattle.flow_base.specs.declared.outcome.Exception.{Exception}
use Rattle.flow_base.specs.declared.outcome.Ended.{Ended}
use Rattle.flow_base.specs.declared.outcome.Ended.TheVariants as ended
use Rattle.flow_base.specs.Values.{units}
use Rattle.script_tree.specs.Grammar.{Tree}
use Rattle.flow_meaning.specs.declared.walk.Request.{Request}
use Rattle.flow_meaning.specs.declared.walk.Request.TheVariants as request
use Rattle.flow_meaning.specs.declared.walk.Answer.{Answer}
use Rattle.flow_meaning.specs.declared.walk.Answer.TheVariants as answer
use Rattle.flow_meaning.specs.Act.{Act, Give, Throw, Ask, after}
use Rattle.flow_meaning.specs.Inputs.{Path, path_in}
use Rattle.flow_meaning.specs.Meaning.{Done}
use Rattle.flow_meaning.specs.Operators.{Text}
use Rattle.flow_meaning.specs.Sequential.{Task, Tasks, Rule, Made, Main, MainAct, Calls, Waits, Prints, Checkpoints, perform, outcome_answer, rule, main_answer, waits, main_room, at_start, main_ran, sequential, seq}
use Rattle.flow_meaning.specs.Walk.{main_act}
use Rattle.body_requests.specs.Asks.{Each}
use Rattle.call_rules.specs.Calls.{Losses, child}
use Rattle.call_rules.specs.Groups.{IsUnder}
use Rattle.call_rules.proofs.Plain.{each-map}
use Rattle.stored_units.specs.Totals.{Storing, Stores, storings_in, begins_with, tasks_at, storings, storings_of_act, first_limit, limit_met}
use Rattle.app_eval.specs.declared.running.Want.TheVariants as want
use Rattle.app_eval.specs.Walks.{first_want}
use Rattle.join_apps.specs.Bodies.{result_of}
use Rattle.script_eval.specs.declared.state.EvalState.{EvalState}
use Rattle.script_eval.specs.declared.evaluation.EvalFault.{EvalFault}
use Rattle.script_eval.specs.Faults.{Meets}
use Rattle.script_eval.specs.Answering.{shown, settled_from, limit_behind, Added, CanCall, Free, made_by, MainAnswers, MainGives, made_for, printed_for, stored_for, main_answer_for, wait_answer, calls_after, main_performed, IsEmpty}
use Rattle.script_eval.proofs.Calling.{can-more, meets-more, meets-same}
use Rattle.script_eval.proofs.Joining.{added-both, made-same, asked}
use Rattle.script_eval.proofs.Looking.{Alike, known-added}
use Rattle.script_eval.proofs.Under.{AreUnder, IsBelow, rule-below, under-makes}

-- ---- the tasks of one call of main

eq_true : (x y : ℕ) → x ≡ y → nat_eq x y ≡ true
eq_true x y is = grind (arith, nat_tests)

eq_false : (x y : ℕ) → x ≢ y → nat_eq x y ≡ false
eq_false x y ne = grind (arith, nat_tests)

-- below the call of this number
record IsAt (k : ℕ) (p : Path) : Type 0 where
  rest : Path
  is : p ≡ suc k ∷ rest

abbrev AreAt : ℕ → Tasks → Type 0
AreAt k ts = Each (λ (t : Task). IsAt k t.path) ts

begins_here : (k : ℕ) (p : Path) → IsAt k p → begins_with (child [] k) p ≡ true
begins_here k p at = rw (at.is, eq_true (suc k) (suc k) refl) refl

begins_elsewhere : (k n : ℕ) (p : Path) → k ≢ n → IsAt n p → begins_with (child [] k) p ≡ false
begins_elsewhere k n p ne at = let other : suc k ≢ suc n = (λ same. ne (omega arith)) in rw (at.is, eq_false (suc k) (suc n) other) refl

all_at : (k : ℕ) (ts : Tasks) → AreAt k ts → tasks_at (child [] k) ts ≡ ts
all_at k [] at = refl
all_at k (t ∷ ts) at = rw (begins_here k t.path at.0, all_at k ts at.1) refl

none_at : (k n : ℕ) (ts : Tasks) → k ≢ n → AreAt n ts → tasks_at (child [] k) ts ≡ []
none_at k n [] ne at = refl
none_at k n (t ∷ ts) ne at = rw (begins_elsewhere k n t.path ne at.0, none_at k n ts ne at.1) refl

none_under : (k n : ℕ) (ts : Tasks) → n ≤ k → AreUnder [] n ts → tasks_at (child [] k) ts ≡ []
none_under k n [] le under = refl
none_under k n (t ∷ ts) le under =
    let u = under.0 in
    rw (begins_elsewhere k u.number t.path (λ same. let lt = u.below in absurd (omega arith)) (record { rest = u.rest; is = u.is }), none_under k n ts le under.1) refl

made_at : (r : Rule) → IsBelow r → (n app : ℕ) (arguments : List Value) (names : List Text) (known : Tasks) → AreAt n (made_by r [] n app arguments names known)
made_at r below n app arguments names known =
    let made = below (child [] n) app arguments names known in
    (record { rest = []; is = refl }, each-map (λ (t : Task). IsUnder (child [] n) made.calls t.path) (λ (t : Task). IsAt n t.path) (λ t u. record { rest = suc u.number ∷ u.rest; is = u.is }) (r (child [] n) app arguments names known).below made.under)

-- ---- main as a caller

pub can-at : (p : Path) (first calls : ℕ) (s : EvalState) → p ≡ [] → first ≡ 0 → CanCall [] 0 calls s → CanCall p first calls s
can-at p first calls s here is can = subst (λ (n : ℕ). CanCall p n calls s) (sym is) (subst (λ (q : Path). CanCall q 0 calls s) (sym here) can)

pub short-at : (p : Path) → p ≡ [] → length p < 64
short-at p here = let none = ap (length {A = ℕ}) here in omega arith

-- ---- the evaluation

module _ (tree : Tree) (losses : Losses) where
  abbrev pub main_rule : Rule
  main_rule = rule tree.0 losses main_room

  abbrev pub answers : Request → Main → Answer × Main
  answers = main_answer main_rule

  below_main : IsBelow main_rule
  below_main = rule-below tree.0 losses main_room

  abbrev pub new_tasks : Request → Main → Tasks
  new_tasks (request.Call app arguments names) m = made_by main_rule [] m.made.calls app arguments names m.made.tasks
  new_tasks _ m = []

  abbrev pub stored_at : Request → Main → List Storing
  stored_at (request.Print value) m = Stores (units value) ∷ []
  stored_at w m = storings_in [] (new_tasks w m)

  -- what is stored from an act on
  abbrev pub stored_in : Act Done → Main → List Storing
  stored_in (Give d) m = []
  stored_in (Throw exception) m = []
  stored_in (Ask w go) m = stored_at w m ++ stored_in (go (answers w m).0) (answers w m).1

  waits-made : (m : Main) (ps : List Path) → (waits m ps).1.made ≡ m.made
  waits-made m [] = refl
  waits-made m (p ∷ ps) = refl

  waits-printed : (m : Main) (ps : List Path) → (waits m ps).1.printed ≡ m.printed
  waits-printed m [] = refl
  waits-printed m (p ∷ ps) = refl

  -- what main made once it was answered
  made-on : (w : Request) (m : Main) → (answers w m).1.made ≡ record { calls = calls_after tree losses w m.made.calls; tasks = m.made.tasks ++ new_tasks w m }
  made-on (request.Call app arguments names) m = refl
  made-on (request.WaitValue f) m = waits-made m (path_in (out-Value f)) ∙ sym (ap (λ (ts : Tasks). record { calls = m.made.calls; tasks = ts }) (append-nil m.made.tasks))
  made-on (request.WaitName f) m = waits-made m (path_in (out-Value f)) ∙ sym (ap (λ (ts : Tasks). record { calls = m.made.calls; tasks = ts }) (append-nil m.made.tasks))
  made-on (request.Print value) m = sym (ap (λ (ts : Tasks). record { calls = m.made.calls; tasks = ts }) (append-nil m.made.tasks))
  made-on request.Checkpoint m = sym (ap (λ (ts : Tasks). record { calls = m.made.calls; tasks = ts }) (append-nil m.made.tasks))

  printed-on : (w : Request) (m : Main) → (answers w m).1.printed ≡ m.printed ++ printed_for tree losses w
  printed-on (request.Call app arguments names) m = sym (append-nil m.printed)
  printed-on (request.WaitValue f) m = waits-printed m (path_in (out-Value f)) ∙ sym (append-nil m.printed)
  printed-on (request.WaitName f) m = waits-printed m (path_in (out-Value f)) ∙ sym (append-nil m.printed)
  printed-on (request.Print value) m = refl
  printed-on request.Checkpoint m = sym (append-nil m.printed)

  under-made : (m : Main) (n : Made) → m.made ≡ n → AreUnder [] n.calls n.tasks → AreUnder [] m.made.calls m.made.tasks
  under-made m n is under = subst (λ (x : Made). AreUnder [] x.calls x.tasks) (sym is) under

  under-on : (w : Request) (m : Main) → AreUnder [] m.made.calls m.made.tasks → AreUnder [] (answers w m).1.made.calls (answers w m).1.made.tasks
  under-on (request.Call app arguments names) m under = under-makes main_rule below_main [] app arguments names m.made under
  under-on (request.WaitValue f) m under = under-made (waits m (path_in (out-Value f))).1 m.made (waits-made m (path_in (out-Value f))) under
  under-on (request.WaitName f) m under = under-made (waits m (path_in (out-Value f))).1 m.made (waits-made m (path_in (out-Value f))) under
  under-on (request.Print value) m under = under
  under-on request.Checkpoint m under = under

  more-calls : (w : Request) (m : Main) → m.made.calls ≤ (answers w m).1.made.calls
  more-calls (request.Call app arguments names) m = omega arith
  more-calls (request.WaitValue f) m = let same = ap (λ (n : Made). n.calls) (waits-made m (path_in (out-Value f))) in omega arith
  more-calls (request.WaitName f) m = let same = ap (λ (n : Made). n.calls) (waits-made m (path_in (out-Value f))) in omega arith
  more-calls (request.Print value) m = omega arith
  more-calls request.Checkpoint m = omega arith

  -- ---- the tasks of a call stay

  new_elsewhere : (w : Request) (m : Main) (k : ℕ) → k < m.made.calls → tasks_at (child [] k) (new_tasks w m) ≡ []
  new_elsewhere (request.Call app arguments names) m k lt = none_at k m.made.calls (made_by main_rule [] m.made.calls app arguments names m.made.tasks) (λ same. absurd (omega arith)) (made_at main_rule below_main m.made.calls app arguments names m.made.tasks)
  new_elsewhere (request.WaitValue f) m k lt = refl
  new_elsewhere (request.WaitName f) m k lt = refl
  new_elsewhere (request.Print value) m k lt = refl
  new_elsewhere request.Checkpoint m k lt = refl

  stays-on : (w : Request) (m : Main) (k : ℕ) → k < m.made.calls → tasks_at (child [] k) (answers w m).1.made.tasks ≡ tasks_at (child [] k) m.made.tasks
  stays-on w m k lt =
      ap (λ (n : Made). tasks_at (child [] k) n.tasks) (made-on w m)
      ∙ filter-append (λ (t : Task). begins_with (child [] k) t.path) m.made.tasks (new_tasks w m)
      ∙ ap (λ (ts : Tasks). tasks_at (child [] k) m.made.tasks ++ ts) (new_elsewhere w m k lt)
      ∙ append-nil (tasks_at (child [] k) m.made.tasks)

  stays : (act : Act Done) (m : Main) (k : ℕ) → k < m.made.calls → tasks_at (child [] k) (perform answers act m).1.made.tasks ≡ tasks_at (child [] k) m.made.tasks
  stays (Give d) m k lt = refl
  stays (Throw exception) m k lt = refl
  stays (Ask w go) m k lt =
      stays (go (answers w m).0) (answers w m).1 k (let more = more-calls w m in omega arith) ∙ stays-on w m k lt

  -- ---- what the whole stores

  one_act : (ts : Tasks) (acts : List MainAct) (act : MainAct) (xs : List Storing) → storings_of_act ts act ≡ xs → storings ts (acts ++ act ∷ []) ≡ storings ts acts ++ xs
  one_act ts acts act xs is = flat_map-append (storings_of_act ts) acts (act ∷ []) ∙ ap (λ (ys : List Storing). storings ts acts ++ ys) (append-nil (storings_of_act ts act) ∙ is)

  no_act : (ts : Tasks) (acts : List MainAct) → storings ts acts ≡ storings ts acts ++ []
  no_act ts acts = sym (append-nil (storings ts acts))

  wait_stored : (ts : Tasks) (m : Main) (ps : List Path) → storings ts (waits m ps).1.acts ≡ storings ts m.acts ++ []
  wait_stored ts m [] = no_act ts m.acts
  wait_stored ts m (p ∷ ps) = one_act ts m.acts (Waits p) [] refl

  one-stored : (w : Request) (m : Main) (ts : Tasks) → AreUnder [] m.made.calls m.made.tasks → ((k : ℕ) → k < (answers w m).1.made.calls → tasks_at (child [] k) ts ≡ tasks_at (child [] k) (answers w m).1.made.tasks)
      → storings ts (answers w m).1.acts ≡ storings ts m.acts ++ stored_at w m
  one-stored (request.Call app arguments names) m ts under stay =
      let new = made_by main_rule [] m.made.calls app arguments names m.made.tasks in
      let here : tasks_at (child [] m.made.calls) ts ≡ new =
      stay m.made.calls (omega arith)
      ∙ filter-append (λ (t : Task). begins_with (child [] m.made.calls) t.path) m.made.tasks new
      ∙ ap (λ (xs : Tasks). xs ++ tasks_at (child [] m.made.calls) new) (none_under m.made.calls m.made.calls m.made.tasks (omega arith) under)
      ∙ all_at m.made.calls new (made_at main_rule below_main m.made.calls app arguments names m.made.tasks) in
      one_act ts m.acts (Calls (child [] m.made.calls)) (storings_in [] new) (ap (storings_in []) here)
  one-stored (request.WaitValue f) m ts under stay = wait_stored ts m (path_in (out-Value f))
  one-stored (request.WaitName f) m ts under stay = wait_stored ts m (path_in (out-Value f))
  one-stored (request.Print value) m ts under stay = one_act ts m.acts (Prints value) (Stores (units value) ∷ []) refl
  one-stored request.Checkpoint m ts under stay = one_act ts m.acts Checkpoints [] refl

  whole-stored : (act : Act Done) (m : Main) → AreUnder [] m.made.calls m.made.tasks
      → storings (perform answers act m).1.made.tasks (perform answers act m).1.acts ≡ storings (perform answers act m).1.made.tasks m.acts ++ stored_in act m
  whole-stored (Give d) m under = no_act m.made.tasks m.acts
  whole-stored (Throw exception) m under = no_act m.made.tasks m.acts
  whole-stored (Ask w go) m under =
      let r = answers w m in
      let ts = (perform answers (go r.0) r.1).1.made.tasks in
      whole-stored (go r.0) r.1 (under-on w m under)
      ∙ ap (λ (xs : List Storing). xs ++ stored_in (go r.0) r.1) (one-stored w m ts under (λ k lt. stays (go r.0) r.1 k lt))
      ∙ append_assoc (storings ts m.acts) (stored_at w m) (stored_in (go r.0) r.1)

  ran-is : main_ran tree.0 tree.1 losses ≡ main_performed tree losses
  unfolding main_ran
  ran-is = refl

  pub seq-is : seq tree.0 tree.1 losses ≡ sequential (main_performed tree losses)
  unfolding seq
  seq-is = ap sequential ran-is

  limit-is : limit_met (seq tree.0 tree.1 losses) ≡ first_limit 0 0 (stored_in (main_act tree) at_start)
  limit-is = ap limit_met seq-is ∙ ap (first_limit 0 0) (whole-stored (main_act tree) at_start tt)

  -- ---- main's path and its first place

  pub main-at : (p : Path) (first calls : ℕ) (w : Request) (now next : EvalState) (r : Result Answer EvalFault) → p ≡ [] → first ≡ 0 → MainAnswers tree losses p first calls w now next r → MainAnswers tree losses [] 0 calls w now next r
  main-at p first calls w now next r here is h =
      subst (λ (n : ℕ). MainAnswers tree losses [] n calls w now next r) is (subst (λ (q : Path). MainAnswers tree losses q first calls w now next r) here h)

  -- ---- one request on

  module _ (before : EvalState) where
    pub record Stands (act : Act Done) (calls : ℕ) (now : EvalState) : Type 0 where
      pub m : Main
      pub xs : List Storing
      pub same : calls ≡ m.made.calls
      pub few : m.made.calls ≤ length m.made.tasks
      pub under : AreUnder [] m.made.calls m.made.tasks
      pub added : Added tree.0 m.made.tasks m.printed xs before now
      pub performs : main_performed tree losses ≡ perform answers act m
      pub limit : limit_met (seq tree.0 tree.1 losses) ≡ limit_behind now (stored_in act m)

    module _ (empty : IsEmpty before) where
      at_zero : (ys : List Storing) → first_limit 0 0 ys ≡ limit_behind before ys
      at_zero ys = ap (λ (n : ℕ). first_limit n 0 ys) (sym (ap length empty.tasks)) ∙ ap (λ (n : ℕ). first_limit (length before.tasks.items) n ys) (sym empty.stored)

      can : CanCall [] 0 0 before
      can = record {
        even = ap length empty.places ∙ sym (ap length empty.tasks);
        within = omega arith;
        few = omega arith;
        free = subst (Free [] 0) (sym empty.places) (λ k rest le. refl);
      }

      pub stands-start : (act : Act Done) (calls : ℕ) → act ≡ main_act tree → calls ≡ 0 → Stands act calls before
      stands-start act calls is none = record {
        m = at_start;
        xs = [];
        same = none;
        few = omega arith;
        under = tt;
        added = record { tasks = sym (append-nil before.tasks.items); places = sym (append-nil before.places); printed = sym (append-nil before.printed); limit = λ ys. refl };
        performs = ap (λ (a : Act Done). perform answers a at_start) (sym is);
        limit = limit-is ∙ ap (λ (a : Act Done). first_limit 0 0 (stored_in a at_start)) (sym is) ∙ at_zero (stored_in act at_start);
      }

      pub stands-can : (act : Act Done) (calls : ℕ) (now : EvalState) → Stands act calls now → CanCall [] 0 calls now
      stands-can act calls now s =
          subst (λ (n : ℕ). CanCall [] 0 n now) (sym s.same)
          (can-more tree.0 s.m.made.tasks s.m.printed s.xs before now [] 0 s.m.made.calls can (sym (ap length empty.tasks)) s.few s.under s.added)

      known : (act : Act Done) (calls : ℕ) (now : EvalState) (s : Stands act calls now) → Alike (settled_from 0 now) s.m.made.tasks
      known act calls now s = known-added tree.0 s.m.made.tasks s.m.printed s.xs before now 0 can.even (sym (ap length empty.tasks)) s.added

      wait_same : (act : Act Done) (calls : ℕ) (now : EvalState) (s : Stands act calls now) (ps : List Path) → wait_answer tree losses (settled_from 0 now) ps ≡ (waits s.m ps).0
      wait_same act calls now s [] = refl
      wait_same act calls now s (p ∷ ps) = ap outcome_answer (known act calls now s p)

      answer_same : (w : Request) (act : Act Done) (calls : ℕ) (now : EvalState) (s : Stands act calls now) → main_answer_for tree losses [] calls w now ≡ (answers w s.m).0
      answer_same (request.Call app arguments names) act calls now s = ap (λ (k : ℕ). answer.Called (v.Future (child [] k) (length names))) s.same
      answer_same (request.WaitValue f) act calls now s = wait_same act calls now s (path_in (out-Value f))
      answer_same (request.WaitName f) act calls now s = wait_same act calls now s (path_in (out-Value f))
      answer_same (request.Print value) act calls now s = refl
      answer_same request.Checkpoint act calls now s = refl

      tasks_same : (w : Request) (act : Act Done) (calls : ℕ) (now : EvalState) (s : Stands act calls now) → made_for tree losses [] 0 calls w now ≡ new_tasks w s.m
      tasks_same (request.Call app arguments names) act calls now s = made-same tree losses [] calls s.m.made.calls app arguments names _ _ s.same (known act calls now s)
      tasks_same (request.WaitValue f) act calls now s = refl
      tasks_same (request.WaitName f) act calls now s = refl
      tasks_same (request.Print value) act calls now s = refl
      tasks_same request.Checkpoint act calls now s = refl

      stored_same : (w : Request) (act : Act Done) (calls : ℕ) (now : EvalState) (s : Stands act calls now) → stored_for tree losses [] 0 calls w now ≡ stored_at w s.m
      stored_same (request.Call app arguments names) act calls now s = ap (storings_in []) (tasks_same (request.Call app arguments names) act calls now s)
      stored_same (request.WaitValue f) act calls now s = refl
      stored_same (request.WaitName f) act calls now s = refl
      stored_same (request.Print value) act calls now s = refl
      stored_same request.Checkpoint act calls now s = refl

      few_on : (w : Request) (m : Main) → m.made.calls ≤ length m.made.tasks → calls_after tree losses w m.made.calls ≤ length (m.made.tasks ++ new_tasks w m)
      few_on (request.Call app arguments names) m few = let long = length-append m.made.tasks (new_tasks (request.Call app arguments names) m) in omega arith
      few_on (request.WaitValue f) m few = let long = length-append m.made.tasks [] in omega arith
      few_on (request.WaitName f) m few = let long = length-append m.made.tasks [] in omega arith
      few_on (request.Print value) m few = let long = length-append m.made.tasks [] in omega arith
      few_on request.Checkpoint m few = let long = length-append m.made.tasks [] in omega arith

      step : (w : Request) (go : Answer → Act Done) (a : Answer) (calls : ℕ) (now next : EvalState) → Stands (Ask w go) calls now → MainAnswers tree losses [] 0 calls w now next (Ok a) → Stands (go a) (calls_after tree losses w calls) next
      step w go a calls now next s h =
          let r = answers w s.m in
          let told : a ≡ r.0 = h.0 ∙ answer_same w (Ask w go) calls now s in
          let made = made-on w s.m in
          let tasks : made_for tree losses [] 0 calls w now ≡ new_tasks w s.m = tasks_same w (Ask w go) calls now s in
          let stored = stored_same w (Ask w go) calls now s in
          let more : Added tree.0 (new_tasks w s.m) (printed_for tree losses w) (stored_at w s.m) now next =
          subst (λ (ys : List Storing). Added tree.0 (new_tasks w s.m) (printed_for tree losses w) ys now next) stored
          (subst (λ (ts : Tasks). Added tree.0 ts (printed_for tree losses w) (stored_for tree losses [] 0 calls w now) now next) tasks h.1) in
          let both = added-both tree.0 s.m.made.tasks (new_tasks w s.m) s.m.printed (printed_for tree losses w) s.xs (stored_at w s.m) before now next s.added more in
          record {
            m = r.1;
            xs = s.xs ++ stored_at w s.m;
            same = ap (calls_after tree losses w) s.same ∙ sym (ap (λ (n : Made). n.calls) made);
            few = subst (λ (n : Made). n.calls ≤ length n.tasks) (sym made) (few_on w s.m s.few);
            under = under-on w s.m s.under;
            added = subst (λ (n : Made). Added tree.0 n.tasks r.1.printed (s.xs ++ stored_at w s.m) before next) (sym made)
                (subst (λ (ps : List Value). Added tree.0 (s.m.made.tasks ++ new_tasks w s.m) ps (s.xs ++ stored_at w s.m) before next) (sym (printed-on w s.m)) both);
            performs = s.performs ∙ ap (λ (b : Answer). perform answers (go b) r.1) (sym told);
            limit = s.limit ∙ more.limit (stored_in (go r.0) r.1) ∙ ap (λ (b : Answer). limit_behind next (stored_in (go b) r.1)) (sym told);
          }

      pub stands-on : (act left : Act Done) (w : Request) (a : Answer) (calls : ℕ) (now next : EvalState) → Stands act calls now → want.Asks w ≡ first_want act → left ≡ act
          → MainAnswers tree losses [] 0 calls w now next (Ok a) → Stands (after left (a ∷ [])) (calls_after tree losses w calls) next
      stands-on act left w a calls now next s wants same h =
          let ask = asked act w wants in
          let stands : Stands (Ask w ask.0) calls now = subst (λ (b : Act Done). Stands b calls now) ask.1 s in
          subst (λ (b : Act Done). Stands (after b (a ∷ [])) (calls_after tree losses w calls) next) (sym (same ∙ ask.1)) (step w ask.0 a calls now next stands h)

      pub stands-on-calls : (act left : Act Done) (w : Request) (a : Answer) (calls more : ℕ) (now next : EvalState) → more ≡ calls_after tree losses w calls → Stands act calls now → want.Asks w ≡ first_want act → left ≡ act
          → MainAnswers tree losses [] 0 calls w now next (Ok a) → Stands (after left (a ∷ [])) more next
      stands-on-calls act left w a calls more now next is s wants same h = subst (λ (n : ℕ). Stands (after left (a ∷ [])) n next) (sym is) (stands-on act left w a calls now next s wants same h)

      refused : (fault : EvalFault) (w : Request) (go : Answer → Act Done) (calls : ℕ) (now : EvalState) → Stands (Ask w go) calls now → Meets fault (limit_behind now (stored_for tree losses [] 0 calls w now)) → Meets fault (limit_met (seq tree.0 tree.1 losses))
      refused fault w go calls now s met =
          let r = answers w s.m in
          meets-same fault _ _ (sym s.limit)
          (meets-more fault now (stored_at w s.m) (stored_in (go r.0) r.1) (meets-same fault _ _ (ap (limit_behind now) (stored_same w (Ask w go) calls now s)) met))

      pub stands-refused : (act : Act Done) (w : Request) (calls : ℕ) (now next : EvalState) (fault : EvalFault) (r : Result Ended EvalFault) → Stands act calls now → want.Asks w ≡ first_want act
          → MainAnswers tree losses [] 0 calls w now next (Err fault) → IsErrAnd r (λ e. e ≡ fault) → MainGives tree losses next r
      stands-refused act w calls now next fault (Ok e) s wants h err = absurd err
      stands-refused act w calls now next fault (Err e) s wants h err =
          let ask = asked act w wants in
          subst (λ (f : EvalFault). Meets f (limit_met (seq tree.0 tree.1 losses))) (sym err) (refused fault w ask.0 calls now (subst (λ (b : Act Done). Stands b calls now) ask.1 s) h)

      ends : (act : Act Done) (e : Ended) (calls : ℕ) (now : EvalState) (s : Stands act calls now) → stored_in act s.m ≡ [] → perform answers act s.m ≡ (result_of e, s.m) → MainGives tree losses now (Ok e)
      ends act e calls now s none is =
          let whole : main_performed tree losses ≡ (result_of e, s.m) = s.performs ∙ is in
          let front : before.tasks.items ++ map (shown tree.0) s.m.made.tasks ≡ map (shown tree.0) s.m.made.tasks = ap (λ (ts : List _). ts ++ map (shown tree.0) s.m.made.tasks) empty.tasks in
          let printed : before.printed ++ s.m.printed ≡ s.m.printed = ap (λ (ps : List Value). ps ++ s.m.printed) empty.printed in (
            s.limit ∙ ap (limit_behind now) none,
            s.added.tasks ∙ front ∙ sym (ap (λ (r : Result Done Exception × Main). map (shown tree.0) r.1.made.tasks) whole),
            s.added.printed ∙ printed ∙ sym (ap (λ (r : Result Done Exception × Main). r.1.printed) whole),
            sym (ap (λ (r : Result Done Exception × Main). r.0) whole),
          )

      pub stands-ended : (act : Act Done) (e : Ended) (calls : ℕ) (now : EvalState) → Stands act calls now → want.Ended e ≡ first_want act → MainGives tree losses now (Ok e)
      stands-ended (Give d) e calls now s wants = ends (Give d) e calls now s refl (ap (λ (b : Ended). (result_of b, s.m)) (let same : ended.Value d.0 d.1 ≡ e = (let h = wants in cc) in same))
      stands-ended (Throw exception) e calls now s wants = ends (Throw exception) e calls now s refl (ap (λ (b : Ended). (result_of b, s.m)) (let same : ended.Raised exception ≡ e = (let h = wants in cc) in same))
      stands-ended (Ask w go) e calls now s wants = absurd (cc)
