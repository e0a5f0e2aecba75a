-- The numbers of tasks that are there, and what a graph keeps.
use Rattle.std.proofs.Common.{◌≡◌, ℕ, ◌+◌, ◌<◌, false, subst, List, [], ◌∷◌, ◌++◌, length, drop, get_or, Option, Some, None, bytes_eq, refl, sym, ap, ◌∙◌, true≢false, append_assoc}
use Rattle.std.specs.Prelude.{IsSome}
use Rattle.std.specs.List.{list_any}
use Rattle.std.proofs.lemmas.List.{drop_more}
use Rattle.std.proofs.lemmas.Option.{none-some}
use Rattle.std.proofs.lemmas.Slice.Eq.{bytes_eq-Decides}
use Rattle.flow_meaning.specs.Inputs.{Path}
use Rattle.dependency_graph.specs.Callbacks.{AreBelow, AreDistinctNumbers, has_number}
use Rattle.dependency_graph.specs.Graphs.{AreThere, places_in, with_place}
use Rattle.dependency_graph.specs.Places.{place_in, AreDistinct}
use Rattle.dependency_graph.proofs.Numbers.{or-split, not-eq}
use Rattle.dependency_graph.proofs.Places.{place-within}

pub place-below : (paths : List Path) (p : Path) (n : ℕ) → place_in paths p ≡ Some n → n < length paths
place-below paths p n is = (place-within paths p n is).0

below_by : (k : ℕ) (place : Option ℕ) (ns : List ℕ) → ((n : ℕ) → place ≡ Some n → n < k) → AreBelow k ns → AreBelow k (with_place place ns)
below_by k None ns first rest = rest
below_by k (Some n) ns first rest = (first n refl, rest)

pub places-below : (paths tasks : List Path) → AreBelow (length paths) (places_in paths tasks)
places-below paths [] = tt
places-below paths (p ∷ ps) = below_by (length paths) (place_in paths p) (places_in paths ps) (place-below paths p) (places-below paths ps)

-- two paths at one place are the same
same_place : (paths : List Path) (p q : Path) (n : ℕ) → place_in paths p ≡ Some n → place_in paths q ≡ Some n → p ≡ q
same_place paths p q n first second = let same : Some p ≡ Some q = sym (place-within paths p n first).1 ∙ (place-within paths q n second).1 in cc same

lacks_by : (n : ℕ) (place : Option ℕ) (ns : List ℕ) → ((m : ℕ) → place ≡ Some m → n ≡ m → ⊥) → has_number n ns ≡ false → has_number n (with_place place ns) ≡ false
lacks_by n None ns others rest = rest
lacks_by n (Some m) ns others rest = rw (not-eq n m (others m refl)) rest

place_lacks : (paths : List Path) (p : Path) (n : ℕ) (ps : List Path) → place_in paths p ≡ Some n → list_any (bytes_eq p) ps ≡ false → has_number n (places_in paths ps) ≡ false
place_lacks paths p n [] is others = refl
place_lacks paths p n (q ∷ qs) is others =
    let two = or-split (bytes_eq p q) (list_any (bytes_eq p) qs) others in
    lacks_by n (place_in paths q) (places_in paths qs)
    (λ m at same. true≢false (sym ((bytes_eq-Decides p q).1 (same_place paths p q n is (at ∙ ap Some (sym same)))) ∙ two.0))
    (place_lacks paths p n qs is two.1)

distinct_by : (place : Option ℕ) (ns : List ℕ) → ((n : ℕ) → place ≡ Some n → has_number n ns ≡ false) → AreDistinctNumbers ns → AreDistinctNumbers (with_place place ns)
distinct_by None ns first rest = rest
distinct_by (Some n) ns first rest = (first n refl, rest)

pub places-distinct : (paths tasks : List Path) → AreDistinct tasks → AreDistinctNumbers (places_in paths tasks)
places-distinct paths [] distinct = tt
places-distinct paths (p ∷ ps) distinct =
    distinct_by (place_in paths p) (places_in paths ps) (λ n is. place_lacks paths p n ps is distinct.0) (places-distinct paths ps distinct.1)

-- ---- one task more

task_here : (tasks : List Path) (i : ℕ) (p : Path) → i < length tasks → p ≡ get_or tasks i p → drop i tasks ≡ p ∷ drop (i + 1) tasks
task_here tasks i p short is = drop_more tasks i p short ∙ ap (λ (q : Path). q ∷ drop (i + 1) tasks) (sym is)

pub record TakesPlace (paths tasks : List Path) (i : ℕ) (places : List ℕ) : Type 0 where
  pub there : AreThere paths (drop i tasks)
  pub same : places ++ places_in paths (drop i tasks) ≡ places_in paths tasks

pub takes-place : (paths tasks : List Path) (i n : ℕ) (p : Path) (places new : List ℕ) → i < length tasks → p ≡ get_or tasks i p → place_in paths p ≡ Some n → new ≡ places ++ n ∷ []
    → AreThere paths (drop i tasks) → places ++ places_in paths (drop i tasks) ≡ places_in paths tasks → TakesPlace paths tasks (i + 1) new
takes-place paths tasks i n p places new short is at pushed there same =
    let here = task_here tasks i p short is in
    let rest = drop (i + 1) tasks in
    record {
      there = (subst (AreThere paths) here there).1;
      same =
          ap (λ (ns : List ℕ). ns ++ places_in paths rest) pushed
          ∙ append_assoc places (n ∷ []) (places_in paths rest)
          ∙ ap (λ (place : Option ℕ). places ++ with_place place (places_in paths rest)) (sym at)
          ∙ ap (λ (ps : List Path). places ++ places_in paths ps) (sym here)
          ∙ same;
    }

none_there : (place : Option ℕ) → IsSome place → place ≡ None → ⊥
none_there None some none = true≢false (sym some)
none_there (Some n) some none = none-some n (sym none)

pub task-there : (paths tasks : List Path) (i : ℕ) (p : Path) → i < length tasks → p ≡ get_or tasks i p → AreThere paths (drop i tasks) → place_in paths p ≡ None → ⊥
task-there paths tasks i p short is there none = none_there (place_in paths p) (subst (AreThere paths) (task_here tasks i p short is) there).0 none

-- ---- the numbers that a call is given

pub numbers-below : (paths tasks : List Path) (count : ℕ) (places : List ℕ) → length paths ≡ count → places ≡ places_in paths tasks → AreBelow count places
numbers-below paths tasks count places same is = rw (is, ← same) (places-below paths tasks)

pub numbers-distinct : (paths tasks : List Path) (places : List ℕ) → places ≡ places_in paths tasks → AreDistinct tasks → AreDistinctNumbers places
numbers-distinct paths tasks places is distinct = rw is (places-distinct paths tasks distinct)
