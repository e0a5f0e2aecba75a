-- The outcomes that are known from a place on.
use Rattle.std.proofs.Common.{◌≡◌, ℕ, zero, suc, ◌+◌, ◌-◌, ◌<◌, ◌≤◌, Bool, true, false, List, [], ◌∷◌, ◌++◌, length, map, drop, Option, Some, None, refl, sym, ◌∙◌, ap, arith, bytes_eq, if◌then◌else◌, length-drop}
use Rattle.std.specs.Prelude.{slice_get, option_map, nat_lt}
use Rattle.std.proofs.lemmas.Bool.Decides.{nat_tests}
use Rattle.std.proofs.lemmas.List.{drop-append-le, map-append, length-map}
use Rattle.std.proofs.lemmas.Option.{slice_get-map}
use Rattle.std.proofs.Math.Seq.{drop-append_seam}
use Rattle.flow_base.specs.declared.outcome.Outcome.{Outcome}
use Rattle.script_tree.specs.declared.tree.AppDef.{AppDef}
use Rattle.flow_base.specs.declared.value.Value.{Value}
use Rattle.flow_meaning.specs.Inputs.{Path}
use Rattle.flow_meaning.specs.Operators.{Text}
use Rattle.flow_meaning.specs.Sequential.{Task, Tasks, outcome_at}
use Rattle.dependency_graph.specs.Places.{place_in, AreDistinct, settled_by, task_there, task_at_place}
use Rattle.dependency_graph.proofs.Places.{place-within, place-none, place-of, absent, outcome_of_task, outcome-there}
use Rattle.call_rules.proofs.Agreeing.{Agree}
use Rattle.stored_units.specs.Totals.{Storing}
use Rattle.script_eval.specs.declared.state.EvalTask.{EvalTask}
use Rattle.script_eval.specs.declared.state.EvalState.{EvalState}
use Rattle.script_eval.specs.Answering.{shown, path_of, settled_task, settled_from, outcome_in, outcome_from, Added}

get_behind : {A : Type 0} → (n : ℕ) (xs : List A) (j : ℕ) → slice_get (drop n xs) j ≡ slice_get xs (n + j)
get_behind zero xs j = ap (slice_get xs) (let none : j ≡ 0 + j = omega arith in none)
get_behind (suc n) [] j = refl
get_behind (suc n) (x ∷ xs) j = get_behind n xs j ∙ ap (slice_get (x ∷ xs)) (let more : suc (n + j) ≡ suc n + j = omega arith in more)

distinct_behind : (n : ℕ) (ps : List Path) → AreDistinct ps → AreDistinct (drop n ps)
distinct_behind zero ps distinct = distinct
distinct_behind (suc n) [] distinct = tt
distinct_behind (suc n) (p ∷ ps) distinct = distinct_behind n ps distinct.1

-- ---- a path's place from a place on

module _ (first : ℕ) (ps : List Path) (p : Path) where
  place_missing : place_in ps p ≡ None → place_in (drop first ps) p ≡ None
  place_missing none = absent (drop first ps) p (λ j q at. place-none ps p none (first + j) q (sym (get_behind first ps j) ∙ at))

  place_before : AreDistinct ps → (k : ℕ) → place_in ps p ≡ Some k → k < first → place_in (drop first ps) p ≡ None
  place_before distinct k is lt = absent (drop first ps) p (λ j q at same.
      let again : place_in ps p ≡ Some (first + j) = place-of ps (first + j) p distinct (sym (get_behind first ps j) ∙ at ∙ ap Some same) in
      let equal : k ≡ first + j = cc in
      omega arith)

  place_behind : AreDistinct ps → (k : ℕ) → place_in ps p ≡ Some k → first ≤ k → place_in (drop first ps) p ≡ Some (k - first)
  place_behind distinct k is le =
      let at = (place-within ps p k is).1 in
      let there : first + (k - first) ≡ k = omega arith in
      place-of (drop first ps) (k - first) p (distinct_behind first ps distinct) (get_behind first ps (k - first) ∙ ap (slice_get ps) there ∙ at)

-- ---- the outcome there

settled_outcome : (path : Path) (r : Option Outcome) → outcome_of_task (option_map (λ (outcome : Outcome). record { path = path; app = 0; arguments = []; names = []; inputs = []; outcome = outcome }) r) ≡ r
settled_outcome path None = refl
settled_outcome path (Some outcome) = refl

there_outcome : (r : Option EvalTask) → outcome_of_task (task_there (option_map settled_task r)) ≡ outcome_in r
there_outcome None = refl
there_outcome (Some t) = settled_outcome t.path t.outcome

module _ (s : EvalState) (first : ℕ) (p : Path) (distinct : AreDistinct s.places) where
  at_place : (r : Option ℕ) → place_in (drop first s.places) p ≡ r → outcome_at (settled_from first s) p ≡ outcome_of_task (task_at_place (map settled_task (drop first s.tasks.items)) r)
  at_place r is = outcome-there (drop first s.places) (map settled_task (drop first s.tasks.items)) p (distinct_behind first s.places distinct)
      ∙ ap (λ (place : Option ℕ). outcome_of_task (task_at_place (map settled_task (drop first s.tasks.items)) place)) is

  pub looked-missing : place_in s.places p ≡ None → None ≡ outcome_at (settled_from first s) p
  looked-missing none = sym (at_place None (place_missing first s.places p none))

  pub looked-before : (k : ℕ) → place_in s.places p ≡ Some k → k < first → None ≡ outcome_at (settled_from first s) p
  looked-before k is lt = sym (at_place None (place_before first s.places p distinct k is lt))

  pub looked-at : (k : ℕ) → place_in s.places p ≡ Some k → first ≤ k → outcome_in (slice_get s.tasks.items k) ≡ outcome_at (settled_from first s) p
  looked-at k is le =
      let there : first + (k - first) ≡ k = omega arith in
      sym (at_place (Some (k - first)) (place_behind first s.places p distinct k is le)
      ∙ ap (λ (r : Option (Option Task)). outcome_of_task (task_there r)) (slice_get-map settled_task (drop first s.tasks.items) (k - first))
      ∙ ap (λ (r : Option EvalTask). outcome_of_task (task_there (option_map settled_task r))) (get_behind first s.tasks.items (k - first) ∙ ap (slice_get s.tasks.items) there)
      ∙ there_outcome (slice_get s.tasks.items k))

  -- at the place of a path, if that is one from the first on
  pub looked-from : (k : ℕ) → place_in s.places p ≡ Some k → outcome_from first s.tasks.items k ≡ outcome_at (settled_from first s) p
  looked-from k is = by_test (nat_lt k first) refl
    where
      lt_of : nat_lt k first ≡ true → k < first
      lt_of t = grind (arith, nat_tests)

      le_of : nat_lt k first ≡ false → first ≤ k
      le_of t = grind (arith, nat_tests)

      by_test : (t : Bool) → nat_lt k first ≡ t → outcome_from first s.tasks.items k ≡ outcome_at (settled_from first s) p
      by_test true e = rw e (looked-before k is (lt_of e))
      by_test false e = rw e (looked-at k is (le_of e))

-- ---- what the state shows of tasks

-- both know the same
abbrev pub Alike : Tasks → Tasks → Type 0
Alike ts us = (p : Path) → outcome_at ts p ≡ outcome_at us p

pub alike-agree : (ts us : Tasks) → Alike ts us → (ps : List Path) → Agree ts us ps
alike-agree ts us same [] = tt
alike-agree ts us same (p ∷ ps) = (same p, alike-agree ts us same ps)

known_shown : (apps : List AppDef) (ts : Tasks) → Alike (settled_by (map path_of ts) (map settled_task (map (shown apps) ts))) ts
known_shown apps [] p = refl
known_shown apps (t ∷ ts) p = ap (λ (r : Option Outcome). if bytes_eq t.path p then Some t.outcome else r) (known_shown apps ts p)

pub known-added : (apps : List AppDef) (ts : Tasks) (printed : List Value) (xs : List Storing) (s v : EvalState) (first : ℕ) → length s.places ≡ length s.tasks.items → first ≡ length s.tasks.items → Added apps ts printed xs s v → Alike (settled_from first v) ts
known-added apps ts printed xs s v first even is added p =
    let places : drop first v.places ≡ map path_of ts = ap (drop first) added.places ∙ ap (λ (n : ℕ). drop n (s.places ++ map path_of ts)) (is ∙ sym even) ∙ drop-append_seam s.places (map path_of ts) in
    let tasks : drop first v.tasks.items ≡ map (shown apps) ts = ap (drop first) added.tasks ∙ ap (λ (n : ℕ). drop n (s.tasks.items ++ map (shown apps) ts)) is ∙ drop-append_seam s.tasks.items (map (shown apps) ts) in
    ap (λ (ps : List Path). outcome_at (settled_by ps (map settled_task (drop first v.tasks.items))) p) places
    ∙ ap (λ (us : List EvalTask). outcome_at (settled_by (map path_of ts) (map settled_task us)) p) tasks
    ∙ known_shown apps ts p

-- a task without an outcome tells nothing
none_behind : (ps : List Path) (ts : List (Option Task)) (q : Path) → length ps ≡ length ts → settled_by (ps ++ q ∷ []) (ts ++ None ∷ []) ≡ settled_by ps ts
none_behind [] [] q same = refl
none_behind [] (t ∷ ts) q same = absurd (omega arith)
none_behind (p ∷ ps) [] q same = absurd (omega arith)
none_behind (p ∷ ps) (None ∷ ts) q same = none_behind ps ts q (omega arith)
none_behind (p ∷ ps) (Some t ∷ ts) q same = ap (λ (us : Tasks). record t { path = p } ∷ us) (none_behind ps ts q (omega arith))

pub known-opened : (path : Path) (app : Text) (s v : EvalState) (first : ℕ) → length s.places ≡ length s.tasks.items → first ≤ length s.tasks.items → v.tasks.items ≡ s.tasks.items ++ record { path = path; app = app; outcome = None } ∷ [] → v.places ≡ s.places ++ path ∷ [] → settled_from first v ≡ settled_from first s
known-opened path app s v first even le more_tasks more_places =
    let new : EvalTask = record { path = path; app = app; outcome = None } in
    let places : drop first v.places ≡ drop first s.places ++ path ∷ [] = ap (drop first) more_places ∙ drop-append-le first s.places (path ∷ []) (omega arith) in
    let tasks : map settled_task (drop first v.tasks.items) ≡ map settled_task (drop first s.tasks.items) ++ None ∷ [] =
    ap (λ (us : List EvalTask). map settled_task (drop first us)) more_tasks
    ∙ ap (map settled_task) (drop-append-le first s.tasks.items (new ∷ []) le)
    ∙ map-append settled_task (drop first s.tasks.items) (new ∷ []) in
    let same : length (drop first s.places) ≡ length (map settled_task (drop first s.tasks.items)) =
    length-drop first s.places ∙ ap (λ (n : ℕ). n - first) even ∙ sym (length-map (drop first s.tasks.items) settled_task ∙ length-drop first s.tasks.items) in
    ap (λ (ps : List Path). settled_by ps (map settled_task (drop first v.tasks.items))) places
    ∙ ap (λ (us : List (Option Task)). settled_by (drop first s.places ++ path ∷ []) us) tasks
    ∙ none_behind (drop first s.places) (map settled_task (drop first s.tasks.items)) path same
