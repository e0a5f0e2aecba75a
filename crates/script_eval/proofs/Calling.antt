-- One call: it is submitted, all below it is evaluated, and its outcome is stored.
use Rattle.std.proofs.Common.{◌≡◌, ◌≢◌, ℕ, suc, ◌+◌, ◌-◌, ◌^◌, ◌<◌, ◌≤◌, Bool, true, false, List, [], ◌∷◌, ◌++◌, length, map, Option, Some, None, Result, Ok, Err, IsErrAnd, refl, sym, ◌∙◌, ap, subst, arith, append_assoc, length-append, bytes_eq, option_map}
use Rattle.std.specs.Prelude.{slice_get}
use Rattle.std.proofs.lemmas.List.{length-map, append-nil}
use Rattle.std.proofs.lemmas.Slice.Eq.{bytes_eq-Decides}
use Rattle.flow_base.specs.Paths.{max_path}
use Rattle.flow_base.specs.declared.value.Value.{Value}
use Rattle.flow_base.specs.declared.value.Value.TheVariants as whole
use Rattle.flow_base.specs.declared.outcome.Outcome.{Outcome}
use Rattle.script_tree.specs.declared.tree.AppDef.{AppDef}
use Rattle.script_tree.specs.Grammar.{Tree}
use Rattle.flow_meaning.specs.declared.walk.Answer.{Answer}
use Rattle.flow_meaning.specs.declared.walk.Answer.TheVariants as answer
use Rattle.flow_meaning.specs.Evaluations.{name_in}
use Rattle.flow_meaning.specs.Inputs.{Path, inputs}
use Rattle.flow_meaning.specs.Operators.{Text}
use Rattle.flow_meaning.specs.Sequential.{Task, Tasks, Ran, rule}
use Rattle.dependency_graph.specs.Places.{place_in}
use Rattle.call_rules.specs.Calls.{Losses, child}
use Rattle.call_rules.proofs.Tasks.{number-same, length-child, below-longer}
use Rattle.stored_units.specs.declared.units.Limit.{Limit}
use Rattle.stored_units.specs.Stored.{call_units, outcome_units, max_tasks}
use Rattle.stored_units.specs.Totals.{Storing, Submits, Stores, first_limit, storings_in}
use Rattle.script_eval.specs.declared.state.EvalTask.{EvalTask}
use Rattle.script_eval.specs.declared.state.EvalState.{EvalState}
use Rattle.script_eval.specs.declared.state.OpenCall.{OpenCall}
use Rattle.script_eval.specs.declared.evaluation.EvalFault.{EvalFault}
use Rattle.script_eval.specs.declared.evaluation.EvalFault.TheVariants.{TaskLimit, StoreLimit, NoMemory}
use Rattle.script_eval.specs.Faults.{Meets, fault_for}
use Rattle.script_eval.specs.Answering.{shown, path_of, settled_from, limit_behind, with_units, Opened, IsSettled, Added, Begun, IsBegun, Gives, CallGives, RanGives, Free, CanCall, made_from, rule_at, rule_below}
use Rattle.script_eval.proofs.Limits.{submits-room, stores-room, submits-on, stores-on, met-first, meets, few-names}
use Rattle.script_eval.proofs.Looking.{known-opened}
use Rattle.script_eval.proofs.Storings.{storings-call}
use Rattle.script_eval.proofs.Under.{AreUnder, Made-below, rule-below, under-longer}

pub names-fit : (s : EvalState) (arguments : List Value) (names : List Text) → limit_behind s (Submits (call_units arguments names) ∷ []) ≡ None → length names < 2 ^ 32
names-fit s arguments names counted =
    let room = submits-room (length s.tasks.items) s.stored (call_units arguments names) [] counted in
    let few = few-names names in
    let small = room.small in
    omega arith

-- ---- faults

pub meets-more : (fault : EvalFault) (s : EvalState) (xs ys : List Storing) → Meets fault (limit_behind s xs) → Meets fault (limit_behind s (xs ++ ys))
meets-more TaskLimit s xs ys met = met-first (length s.tasks.items) s.stored xs ys _ met
meets-more StoreLimit s xs ys met = met-first (length s.tasks.items) s.stored xs ys _ met
meets-more NoMemory s xs ys met = tt

pub meets-same : (fault : EvalFault) (a b : Option Limit) → a ≡ b → Meets fault a → Meets fault b
meets-same fault a b same met = subst (Meets fault) same met

-- ---- places that are free

place_other : (q : Path) (qs : List Path) (p : Path) → q ≢ p → place_in qs p ≡ None → place_in (q ∷ qs) p ≡ None
place_other q qs p ne none = by_test (bytes_eq p q) refl
  where
    by_test : (t : Bool) → bytes_eq p q ≡ t → place_in (q ∷ qs) p ≡ None
    by_test true is = absurd (ne (sym ((bytes_eq-Decides p q).0 is)))
    by_test false is = rw (is, none) refl

place_both : (ps qs : List Path) (p : Path) → place_in ps p ≡ None → place_in qs p ≡ None → place_in (ps ++ qs) p ≡ None
place_both [] qs p none other = other
place_both (q ∷ ps) qs p none other = by_test (bytes_eq p q) refl (place_both ps qs p)
  where
    rest : (r : Option ℕ) → option_map suc r ≡ None → r ≡ None
    rest None h = refl
    rest (Some n) h = absurd (cc)

    by_test : (t : Bool) → bytes_eq p q ≡ t → (place_in ps p ≡ None → place_in qs p ≡ None → place_in (ps ++ qs) p ≡ None) → place_in (q ∷ (ps ++ qs)) p ≡ None
    by_test true is more = absurd (let bad = rw is at none in cc)
    by_test false is more = let later = rest (place_in ps p) (rw is at none) in rw (is, more later other) refl

under_free : (caller : Path) (n : ℕ) (ts : Tasks) → AreUnder caller n ts → Free caller n (map path_of ts)
under_free caller n [] under k rest le = refl
under_free caller n (t ∷ ts) under k rest le =
    let u = under.0 in
    place_other t.path (map path_of ts) (caller ++ suc k ∷ rest) (λ same. let number = number-same caller u.number k u.rest rest (sym u.is ∙ same) in let lt = u.below in omega arith) (under_free caller n ts under.1 k rest le)

free-both : (caller : Path) (n : ℕ) (ps qs : List Path) → Free caller n ps → Free caller n qs → Free caller n (ps ++ qs)
free-both caller n ps qs f g k rest le = place_both ps qs (caller ++ suc k ∷ rest) (f k rest le) (g k rest le)

-- a caller with its calls so far may make one more
pub can-more : (apps : List AppDef) (ts : Tasks) (values : List Value) (xs : List Storing) (s v : EvalState) (caller : Path) (first calls : ℕ)
    → CanCall caller 0 0 s → first ≡ length s.tasks.items → calls ≤ length ts → AreUnder caller calls ts → Added apps ts values xs s v → CanCall caller first calls v
can-more apps ts values xs s v caller first calls can is few under added =
    let tasks = ap (length {A = EvalTask}) added.tasks in
    let places = ap (length {A = Path}) added.places in
    let even = can.even in
    let long = length-append s.tasks.items (map (shown apps) ts) in
    let paths = length-append s.places (map path_of ts) in
    let one = length-map ts (shown apps) in
    let two = length-map ts path_of in
    record {
      even = omega arith;
      within = omega arith;
      few = omega arith;
      free = subst (Free caller calls) (sym added.places) (free-both caller calls s.places (map path_of ts) (λ k rest le. can.free k rest (omega arith)) (under_free caller calls ts under));
    }

-- ---- the call is submitted

pub begun : (path : Path) (app : Text) (units : ℕ) (s u v : EvalState) → limit_behind s (Submits units ∷ []) ≡ None → u ≡ with_units units s → Opened path app u v → Begun path app units s v
begun path app units s u v none is opened = record {
  tasks = opened.tasks ∙ ap (λ (w : EvalState). w.tasks.items ++ record { path = path; app = app; outcome = None } ∷ []) is;
  places = opened.places ∙ ap (λ (w : EvalState). w.places ++ path ∷ []) is;
  printed = opened.printed ∙ ap (λ (w : EvalState). w.printed) is;
  limit = λ xs.
      let count : length v.tasks.items ≡ length s.tasks.items + 1 = ap length opened.tasks ∙ ap (λ (w : EvalState). length (w.tasks.items ++ record { path = path; app = app; outcome = None } ∷ [])) is ∙ length-append s.tasks.items _ in
      let stored : v.stored ≡ s.stored + units = opened.stored ∙ ap (λ (w : EvalState). w.stored) is in
      submits-on (length s.tasks.items) s.stored units (submits-room (length s.tasks.items) s.stored units [] none) xs
      ∙ ap (λ (n : ℕ). first_limit n (s.stored + units) xs) (sym count)
      ∙ ap (λ (n : ℕ). first_limit (length v.tasks.items) n xs) (sym stored);
}

pub is-begun : (tree : Tree) (caller path copy : Path) (first calls app place number : ℕ) (arguments : List Value) (names : List Text) (name : Text) (future : Value) (s u w : EvalState) → number ≡ suc calls → path ≡ caller ++ number ∷ [] → copy ≡ path
    → place ≡ length u.tasks.items → future ≡ whole.Future path (length names) → name ≡ name_in (slice_get tree.0 app) → limit_behind s (Submits (call_units arguments names) ∷ []) ≡ None → u ≡ with_units (call_units arguments names) s → Opened copy name u w
    → IsBegun tree caller calls app arguments names s w (record { path = path; place = place; future = future; number = number })
is-begun tree caller path copy first calls app place number arguments names name future s u w counts is same here makes named none more opened =
    let at : path ≡ child caller calls = is ∙ ap (λ (n : ℕ). caller ++ n ∷ []) counts in
    record {
      path = at;
      place = here ∙ ap (λ (x : EvalState). length x.tasks.items) more;
      future = makes ∙ ap (λ (p : Path). whole.Future p (length names)) at;
      number = counts;
      begun = subst (λ (n : Text). Begun path n (call_units arguments names) s w) named (subst (λ (p : Path). Begun p name (call_units arguments names) s w) same (begun copy name (call_units arguments names) s u w none more opened));
    }

-- there is room for one more
pub room-more : (s : EvalState) (calls units : ℕ) → calls ≤ length s.tasks.items → limit_behind s (Submits units ∷ []) ≡ None → calls < max_tasks
room-more s calls units few none = let room = (submits-room (length s.tasks.items) s.stored units [] none).call in omega arith

-- its path is free, and so are those below it
pub path-free : (caller : Path) (first calls units : ℕ) (s u : EvalState) (path copy : Path) → {number : ℕ} → CanCall caller first calls s → u ≡ with_units units s → number ≡ suc calls → path ≡ caller ++ number ∷ [] → copy ≡ path → place_in u.places copy ≡ None
path-free caller first calls units s u path copy can is counts at same =
    ap (λ (w : EvalState). place_in w.places copy) is ∙ ap (place_in s.places) (same ∙ at ∙ ap (λ (n : ℕ). caller ++ n ∷ []) counts) ∙ can.free calls [] (omega arith)

pub can-run : (caller path : Path) (app : Text) (first calls units : ℕ) (s v : EvalState) → path ≡ child caller calls → CanCall caller first calls s → Begun path app units s v → CanCall path first 0 v
can-run caller path app first calls units s v at can b =
    let tasks = ap (length {A = EvalTask}) b.tasks in
    let places = ap (length {A = Path}) b.places in
    let even = can.even in
    let within = can.within in
    let long = length-append s.tasks.items (record { path = path; app = app; outcome = None } ∷ []) in
    let paths = length-append s.places (path ∷ []) in
    record { even = omega arith; within = omega arith; few = omega arith; free = subst (Free path 0) (sym b.places) (free-both path 0 s.places (path ∷ []) before here) }
  where
    before : Free path 0 s.places
    before k rest le = ap (place_in s.places) (ap (λ (p : Path). p ++ suc k ∷ rest) at ∙ append_assoc caller (suc calls ∷ []) (suc k ∷ rest)) ∙ can.free calls (suc k ∷ rest) (omega arith)

    here : Free path 0 (path ∷ [])
    here k rest le = place_other path [] (path ++ suc k ∷ rest) (λ same. below-longer path k rest same) refl

-- ---- the call is evaluated

module _ (tree : Tree) (losses : Losses) (caller path : Path) (name : Text) (first calls app : ℕ) (arguments : List Value) (names : List Text) (s v : EvalState)
    (at : path ≡ child caller calls) (can : CanCall caller first calls s) (b : Begun path name (call_units arguments names) s v) where
  abbrev pub ran_in : Ran
  ran_in = rule_at tree losses path path app arguments names (settled_from first v)

  abbrev call_ran : Ran
  call_ran = rule_below tree losses caller (child caller calls) app arguments names (settled_from first s)

  abbrev task_with : Ran → Task
  task_with ran = record { path = child caller calls; app = app; arguments = arguments; names = names; inputs = inputs arguments; outcome = ran.outcome }

  ran_same : ran_in ≡ call_ran
  ran_same =
      let room : max_path - length path ≡ max_path - suc (length caller) = (let long = ap length at ∙ length-child caller calls in omega arith) in
      ap (λ (n : ℕ). rule tree.0 losses n path app arguments names (settled_from first v)) room
      ∙ ap (λ (p : Path). rule tree.0 losses (max_path - suc (length caller)) p app arguments names (settled_from first v)) at
      ∙ ap (rule tree.0 losses (max_path - suc (length caller)) (child caller calls) app arguments names) (known-begun)
    where
      known-begun : settled_from first v ≡ settled_from first s
      known-begun = known-opened path name s v first can.even can.within b.tasks b.places

  abbrev stored_by : Ran → List Storing
  stored_by ran = Submits (call_units arguments names) ∷ (storings_in [] ran.below ++ Stores (outcome_units ran.outcome) ∷ [])

  stored_all : storings_in [] (made_from tree losses caller first calls app arguments names s) ≡ stored_by ran_in
  stored_all =
      let below : Made-below (child caller calls) call_ran.below = rule-below tree.0 losses (max_path - suc (length caller)) (child caller calls) app arguments names (settled_from first s) in
      storings-call (task_with call_ran) call_ran.below (under-longer (child caller calls) below.calls call_ran.below below.under)
      ∙ ap stored_by (sym ran_same)

  abbrev stored_for_call : List Storing
  stored_for_call = storings_in [] (made_from tree losses caller first calls app arguments names s)

  pub refused-below : (fault : EvalFault) → Meets fault (limit_behind v (storings_in [] ran_in.below)) → Meets fault (limit_behind s stored_for_call)
  refused-below fault met =
      meets-same fault (limit_behind s (stored_by ran_in)) (limit_behind s stored_for_call) (ap (limit_behind s) (sym stored_all))
      (meets-more fault s (Submits (call_units arguments names) ∷ storings_in [] ran_in.below) (Stores (outcome_units ran_in.outcome) ∷ [])
      (meets-same fault _ _ (sym (b.limit (storings_in [] ran_in.below))) met))

  module _ (w : EvalState) (added : Added tree.0 ran_in.below [] (storings_in [] ran_in.below) v w) where
    limit_to : (xs : List Storing) → limit_behind s (stored_by ran_in ++ xs) ≡ limit_behind w (Stores (outcome_units ran_in.outcome) ∷ xs)
    limit_to xs =
        b.limit _
        ∙ ap (limit_behind v) (append_assoc (storings_in [] ran_in.below) (Stores (outcome_units ran_in.outcome) ∷ []) xs)
        ∙ added.limit (Stores (outcome_units ran_in.outcome) ∷ xs)

    pub refused-outcome : (l : Limit) (fault : EvalFault) → fault ≡ fault_for l → limit_behind w (Stores (outcome_units ran_in.outcome) ∷ []) ≡ Some l → Meets fault (limit_behind s stored_for_call)
    refused-outcome l fault is met =
        meets l fault _ is (ap (limit_behind s) (stored_all ∙ sym (append-nil (stored_by ran_in))) ∙ limit_to [] ∙ met)

    module _ (x : EvalState) (place : ℕ) (none : limit_behind w (Stores (outcome_units ran_in.outcome) ∷ []) ≡ None) (is-place : place ≡ length s.tasks.items) (settled : IsSettled place ran_in.outcome w x) (is-name : name ≡ name_in (slice_get tree.0 app)) where
      settled_tasks : x.tasks.items ≡ s.tasks.items ++ map (shown tree.0) (task_with ran_in ∷ ran_in.below)
      settled_tasks =
          let t : EvalTask = record { path = path; app = name; outcome = None } in
          settled.tasks s.tasks.items t (map (shown tree.0) ran_in.below) (added.tasks ∙ ap (λ (ts : List EvalTask). ts ++ map (shown tree.0) ran_in.below) b.tasks ∙ append_assoc s.tasks.items (t ∷ []) _) is-place
          ∙ ap (λ (p : Path). s.tasks.items ++ record { path = p; app = name; outcome = Some ran_in.outcome } ∷ map (shown tree.0) ran_in.below) at
          ∙ ap (λ (n : Text). s.tasks.items ++ record { path = child caller calls; app = n; outcome = Some ran_in.outcome } ∷ map (shown tree.0) ran_in.below) is-name

      settled_places : x.places ≡ s.places ++ map path_of (task_with ran_in ∷ ran_in.below)
      settled_places =
          settled.places ∙ added.places ∙ ap (λ (ps : List Path). ps ++ map path_of ran_in.below) b.places ∙ append_assoc s.places (path ∷ []) _
          ∙ ap (λ (p : Path). s.places ++ p ∷ map path_of ran_in.below) at

      settled_limit : (xs : List Storing) → limit_behind s (stored_by ran_in ++ xs) ≡ limit_behind x xs
      settled_limit xs =
          let count : length w.tasks.items ≡ length x.tasks.items =
          ap length added.tasks ∙ ap (λ (ts : List EvalTask). length (ts ++ map (shown tree.0) ran_in.below)) b.tasks ∙ counted s.tasks.items _ _ _ ∙ sym (ap length settled_tasks) in
          limit_to xs
          ∙ stores-on (length w.tasks.items) w.stored (outcome_units ran_in.outcome) (stores-room (length w.tasks.items) w.stored (outcome_units ran_in.outcome) [] none) xs
          ∙ ap (λ (n : ℕ). first_limit n (w.stored + outcome_units ran_in.outcome) xs) count
          ∙ ap (λ (n : ℕ). first_limit (length x.tasks.items) n xs) (sym settled.stored)
        where
          counted : (ts : List EvalTask) (t u : EvalTask) (us : List EvalTask) → length ((ts ++ t ∷ []) ++ us) ≡ length (ts ++ u ∷ us)
          counted ts t u us = ap length (append_assoc ts (t ∷ []) us) ∙ length-append ts (t ∷ us) ∙ sym (length-append ts (u ∷ us))

      -- the call with all below it is added
      pub called : Added tree.0 (made_from tree losses caller first calls app arguments names s) [] stored_for_call s x
      called = record {
        tasks = settled_tasks ∙ ap (λ (ran : Ran). s.tasks.items ++ map (shown tree.0) (task_with ran ∷ ran.below)) ran_same;
        places = settled_places ∙ ap (λ (ran : Ran). s.places ++ map path_of (task_with ran ∷ ran.below)) ran_same;
        printed = settled.printed ∙ added.printed ∙ ap (λ (vs : List Value). vs ++ []) b.printed;
        limit = λ xs. ap (λ (ys : List Storing). limit_behind s (ys ++ xs)) stored_all ∙ settled_limit xs;
      }

-- ---- what a call gives

pub gives-err : {A : Type 0} → (apps : List AppDef) (ts : Tasks) (values : List Value) (storings : List Storing) (P : A → Type 0) (before now : EvalState) (fault : EvalFault) (r : Result A EvalFault)
    → IsErrAnd r (λ e. e ≡ fault) → Meets fault (limit_behind before storings) → Gives apps ts values storings P before now r
gives-err apps ts values storings P before now fault (Ok a) err met = absurd err
gives-err apps ts values storings P before now fault (Err e) err met = subst (λ (f : EvalFault). Meets f (limit_behind before storings)) (sym err) met

module _ (tree : Tree) (losses : Losses) (caller : Path) (first calls app : ℕ) (arguments : List Value) (names : List Text) (s v : EvalState) (c : OpenCall) (can : CanCall caller first calls s) (b : IsBegun tree caller calls app arguments names s v c) where
  abbrev app_name : Text
  app_name = name_in (slice_get tree.0 app)

  abbrev pub its_ran : Ran
  its_ran = rule_at tree losses c.path c.path app arguments names (settled_from first v)

  abbrev its_tasks : Tasks
  its_tasks = made_from tree losses caller first calls app arguments names s

  abbrev its_answer : Answer → Type 0
  its_answer a = a ≡ answer.Called (whole.Future (child caller calls) (length names))

  pub its-can : CanCall c.path first 0 v
  its-can = can-run caller c.path app_name first calls (call_units arguments names) s v b.path can b.begun

  pub its-length : length c.path ≡ length caller + 1
  its-length = ap length b.path ∙ length-child caller calls

  pub place-there : (w : EvalState) (outcome : Outcome) → RanGives tree losses its_ran v w (Ok outcome) → c.place < length w.tasks.items
  place-there w outcome ran =
      let here = b.place in
      let one = ap (length {A = EvalTask}) b.begun.tasks in
      let two = ap (length {A = EvalTask}) ran.1.tasks in
      let long = length-append s.tasks.items (record { path = c.path; app = app_name; outcome = None } ∷ []) in
      let longer = length-append v.tasks.items (map (shown tree.0) its_ran.below) in
      omega arith

  -- a limit that is met below it
  pub call-unbegun : (now : EvalState) (fault : EvalFault) (r : Result Answer EvalFault) → IsErrAnd r (λ e. e ≡ fault) → Meets fault (limit_behind v (storings_in [] its_ran.below)) → CallGives tree losses caller first calls app arguments names s now r
  call-unbegun now fault r err met =
      gives-err tree.0 its_tasks [] (storings_in [] its_tasks) its_answer s now fault r err (refused-below tree losses caller c.path app_name first calls app arguments names s v b.path can b.begun fault met)

  pub call-unsettled : (w now : EvalState) (outcome : Outcome) (l : Limit) (r : Result Answer EvalFault) → RanGives tree losses its_ran v w (Ok outcome) → limit_behind w (Stores (outcome_units outcome) ∷ []) ≡ Some l → IsErrAnd r (λ e. e ≡ fault_for l)
      → CallGives tree losses caller first calls app arguments names s now r
  call-unsettled w now outcome l r ran met err =
      gives-err tree.0 its_tasks [] (storings_in [] its_tasks) its_answer s now (fault_for l) r err
      (refused-outcome tree losses caller c.path app_name first calls app arguments names s v b.path can b.begun w ran.1 l (fault_for l) refl
      (ap (λ (o : Outcome). limit_behind w (Stores (outcome_units o) ∷ [])) (sym ran.0) ∙ met))

  pub call-settled : (w x : EvalState) (outcome : Outcome) → RanGives tree losses its_ran v w (Ok outcome) → limit_behind w (Stores (outcome_units outcome) ∷ []) ≡ None → IsSettled c.place outcome w x
      → CallGives tree losses caller first calls app arguments names s x (Ok (answer.Called c.future))
  call-settled w x outcome ran none settled = (
    ap (λ (f : Value). answer.Called f) b.future,
    called tree losses caller c.path app_name first calls app arguments names s v b.path can b.begun w ran.1 x c.place
        (ap (λ (o : Outcome). limit_behind w (Stores (outcome_units o) ∷ [])) (sym ran.0) ∙ none) b.place (subst (λ (o : Outcome). IsSettled c.place o w x) ran.0 settled) refl,
  )

pub call-refused : (tree : Tree) (losses : Losses) (caller : Path) (first calls app : ℕ) (arguments : List Value) (names : List Text) (s now : EvalState) (fault : EvalFault) (r : Result Answer EvalFault)
    → IsErrAnd r (λ e. e ≡ fault) → Meets fault (limit_behind s (Submits (call_units arguments names) ∷ [])) → CallGives tree losses caller first calls app arguments names s now r
call-refused tree losses caller first calls app arguments names s now fault r err met =
    let ran = rule_below tree losses caller (child caller calls) app arguments names (settled_from first s) in
    let below : Made-below (child caller calls) ran.below = rule-below tree.0 losses _ (child caller calls) app arguments names (settled_from first s) in
    let ts = made_from tree losses caller first calls app arguments names s in
    gives-err tree.0 ts [] (storings_in [] ts) (λ a. a ≡ answer.Called (whole.Future (child caller calls) (length names))) s now fault r err
    (meets-same fault _ _ (ap (limit_behind s) (sym (storings-call (record { path = child caller calls; app = app; arguments = arguments; names = names; inputs = inputs arguments; outcome = ran.outcome }) ran.below (under-longer (child caller calls) below.calls ran.below below.under))))
    (meets-more fault s (Submits (call_units arguments names) ∷ []) (storings_in [] ran.below ++ Stores (outcome_units ran.outcome) ∷ []) met))
