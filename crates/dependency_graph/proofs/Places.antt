-- A path is found at its place, and the task there.
use Rattle.std.proofs.Common.{◌≡◌, ◌≢◌, ℕ, zero, suc, ◌+◌, ◌<◌, arith, Bool, true, false, not, cond, ◌||◌, if◌then◌else◌, nat_lt, List, [], ◌∷◌, ◌++◌, length, map, take, slice_get, Option, Some, None, is_some, option_map, bytes_eq, refl, sym, ap, ◌∙◌, subst, true≢false}
use Rattle.std.specs.Prelude.{Result, Ok, Err, OnOk, is_err}
use Rattle.std.proofs.lemmas.List.{take-map, map-append}
use Rattle.std.proofs.lemmas.Option.{none-some}
use Rattle.std.proofs.lemmas.Bool.Decides.{nat_tests}
use Rattle.std.proofs.lemmas.Slice.Eq.{bytes_eq-Decides}
use Rattle.std.proofs.lemmas.Cmp.{nat_list_eq_equiv}
use Rattle.std.specs.List.{list_any, position, AllByRecursion}
use Rattle.std.specs.List as std
use Rattle.indexmap.specs.IndexSet.{insert_key}
use Rattle.flow_base.specs.declared.outcome.Outcome.{Outcome}
use Rattle.flow_meaning.specs.Inputs.{Path}
use Rattle.flow_meaning.specs.Sequential.{Task, outcome_at}
use Rattle.dependency_graph.specs.Added.{added}
use Rattle.dependency_graph.specs.Places.{place_in, AreDistinct, settled_by, task_at_place}

equal : (p q : Path) → bytes_eq p q ≡ true → p ≡ q
equal p q = (bytes_eq-Decides p q).0

itself : (p q : Path) → p ≡ q → bytes_eq p q ≡ true
itself p q = (bytes_eq-Decides p q).1

-- the place behind a first path
abbrev behind : Bool → Option ℕ → Option ℕ
behind first place = if first then Some 0 else option_map suc place

found_behind : (first : Bool) (place : Option ℕ) → is_some (behind first place) ≡ (first || is_some place)
found_behind true place = refl
found_behind false None = refl
found_behind false (Some k) = refl

found_behind_any : (first : Bool) (place : Option ℕ) → is_some place ≡ true → is_some (behind first place) ≡ true
found_behind_any true place found = refl
found_behind_any false (Some k) found = refl
found_behind_any false None found = found

no_place : (place : Option ℕ) → is_some place ≡ false → place ≡ None
no_place None none = refl
no_place (Some k) none = absurd (true≢false none)

-- a path has a place where it is among them
any_place : (ps : List Path) (p : Path) → list_any (bytes_eq p) ps ≡ is_some (place_in ps p)
any_place [] p = refl
any_place (q ∷ qs) p = ap (λ any. bytes_eq p q || any) (any_place qs p) ∙ sym (found_behind (bytes_eq p q) (place_in qs p))

found_at : (ps : List Path) (p : Path) (k : ℕ) → slice_get ps k ≡ Some p → is_some (place_in ps p) ≡ true
found_at [] p k at = absurd (none-some _ at)
found_at (q ∷ qs) p zero at =
    let same : q ≡ p = cc at in
    ap (λ first. is_some (behind first (place_in qs p))) (itself p q (sym same))
found_at (q ∷ qs) p (suc k) at = found_behind_any (bytes_eq p q) (place_in qs p) (found_at qs p k at)

-- ---- the place of a path

pub place-within : (ps : List Path) (p : Path) (k : ℕ) → place_in ps p ≡ Some k → (k < length ps) × (slice_get ps k ≡ Some p)
place-within [] p k is = absurd (none-some _ is)
place-within (q ∷ qs) p k is = within (bytes_eq p q) refl (place_in qs p) (place-within qs p) is
  where
    within : (first : Bool) → bytes_eq p q ≡ first → (place : Option ℕ) → ((j : ℕ) → place ≡ Some j → (j < length qs) × (slice_get qs j ≡ Some p))
        → behind first place ≡ Some k → (k < length (q ∷ qs)) × (slice_get (q ∷ qs) k ≡ Some p)
    within true same place later is =
        let here : 0 ≡ k = cc is in
        subst (λ n. (n < length (q ∷ qs)) × (slice_get (q ∷ qs) n ≡ Some p)) here (omega arith, ap Some (sym (equal p q same)))
    within false same None later is = absurd (none-some _ is)
    within false same (Some j) later is =
        let there : suc j ≡ k = cc is in
        let at = later j refl in
        subst (λ n. (n < length (q ∷ qs)) × (slice_get (q ∷ qs) n ≡ Some p)) there (omega (arith, at.0), at.1)

pub place-none : (ps : List Path) (p : Path) → place_in ps p ≡ None → (k : ℕ) (q : Path) → slice_get ps k ≡ Some q → q ≢ p
place-none ps p none k q at same = true≢false (sym (found_at ps p k (at ∙ ap Some same)) ∙ ap is_some none)

-- a path that stands behind another of distinct ones differs from it
other_behind : (p q : Path) (qs : List Path) (k : ℕ) → list_any (bytes_eq q) qs ≡ false → slice_get qs k ≡ Some p → bytes_eq p q ≡ false
other_behind p q qs k once at = by (bytes_eq p q) refl
  where
    by : (first : Bool) → bytes_eq p q ≡ first → first ≡ false
    by true same = absurd (true≢false (sym (any_place qs q ∙ found_at qs q k (at ∙ ap Some (equal p q same))) ∙ once))
    by false same = refl

pub place-of : (ps : List Path) (k : ℕ) (p : Path) → AreDistinct ps → slice_get ps k ≡ Some p → place_in ps p ≡ Some k
place-of [] k p distinct at = absurd (none-some _ at)
place-of (q ∷ qs) zero p distinct at =
    let same : q ≡ p = cc at in
    ap (λ first. behind first (place_in qs p)) (itself p q (sym same))
place-of (q ∷ qs) (suc k) p distinct at =
    ap (λ first. behind first (place_in qs p)) (other_behind p q qs k distinct.0 at)
    ∙ ap (option_map suc) (place-of qs k p distinct.1 at)

pub absent : (ps : List Path) (p : Path) → ((k : ℕ) (q : Path) → slice_get ps k ≡ Some q → q ≢ p) → place_in ps p ≡ None
absent ps p others = by (place_in ps p) refl
  where
    by : (place : Option ℕ) → place_in ps p ≡ place → place ≡ None
    by None is = refl
    by (Some k) is = absurd (others k p (place-within ps p k is).1 refl)

pub distinct-places : (ps : List Path) → ((i j : ℕ) (p : Path) → slice_get ps i ≡ Some p → slice_get ps j ≡ Some p → i ≡ j) → AreDistinct ps
distinct-places [] once = tt
distinct-places (p ∷ ps) once =
    let others : (k : ℕ) (q : Path) → slice_get ps k ≡ Some q → q ≢ p = λ k q at same. (let two = once 0 (suc k) p refl (at ∙ ap Some same) in omega (arith, two)) in
    (any_place ps p ∙ ap is_some (absent ps p others), distinct-places ps (λ i j q at also. (let one = once (suc i) (suc j) q at also in omega (arith, one))))

-- ---- the task at a place

abbrev pub outcome_of_task : Option Task → Option Outcome
outcome_of_task = option_map (λ (t : Task). t.outcome)

no_tasks : (place : Option ℕ) → task_at_place [] place ≡ None
no_tasks None = refl
no_tasks (Some k) = refl

task_behind : (t : Option Task) (ts : List (Option Task)) (place : Option ℕ) → task_at_place (t ∷ ts) (option_map suc place) ≡ task_at_place ts place
task_behind t ts None = refl
task_behind t ts (Some k) = refl

pub outcome-there : (ps : List Path) (ts : List (Option Task)) (p : Path) → AreDistinct ps → outcome_at (settled_by ps ts) p ≡ outcome_of_task (task_at_place ts (place_in ps p))
outcome-there [] ts p distinct = refl
outcome-there (q ∷ qs) [] p distinct = ap outcome_of_task (sym (no_tasks (place_in (q ∷ qs) p)))
outcome-there (q ∷ qs) (None ∷ ts) p distinct = by (bytes_eq p q) refl (outcome-there qs ts p distinct.1)
  where
    by : (first : Bool) → bytes_eq p q ≡ first → outcome_at (settled_by qs ts) p ≡ outcome_of_task (task_at_place ts (place_in qs p))
        → outcome_at (settled_by qs ts) p ≡ outcome_of_task (task_at_place (None ∷ ts) (behind first (place_in qs p)))
    by true same rest =
        let once : list_any (bytes_eq p) qs ≡ false = ap (λ r. list_any (bytes_eq r) qs) (equal p q same) ∙ distinct.0 in
        rest ∙ ap (λ place. outcome_of_task (task_at_place ts place)) (no_place (place_in qs p) (sym (any_place qs p) ∙ once))
    by false same rest = rest ∙ ap outcome_of_task (sym (task_behind None ts (place_in qs p)))
outcome-there (q ∷ qs) (Some t ∷ ts) p distinct =
    ap (λ first. if first then Some t.outcome else outcome_at (settled_by qs ts) p) (nat_list_eq_equiv.symm q p)
    ∙ by (bytes_eq p q) (outcome-there qs ts p distinct.1)
  where
    by : (first : Bool) → outcome_at (settled_by qs ts) p ≡ outcome_of_task (task_at_place ts (place_in qs p))
        → (if first then Some t.outcome else outcome_at (settled_by qs ts) p) ≡ outcome_of_task (task_at_place (Some t ∷ ts) (behind first (place_in qs p)))
    by true rest = refl
    by false rest = rest ∙ ap outcome_of_task (sym (task_behind (Some t) ts (place_in qs p)))

-- ---- paths as the keys of a set

-- the first index that passes, by the first element
position_front : (first : Bool) (n m : ℕ) → cond (nat_lt (cond (not first) (1 + n) 0) (suc m)) (Some (cond (not first) (1 + n) 0)) None ≡ behind first (cond (nat_lt n m) (Some n) None)
position_front true n m =
    let short : nat_lt 0 (suc m) ≡ true = grind (arith, nat_tests) in
    ap (λ short. cond short (Some 0) None) short
position_front false n m =
    let shorter : nat_lt (1 + n) (suc m) ≡ nat_lt n m = grind (arith, nat_tests) in
    ap (λ short. cond short (Some (1 + n)) None) shorter ∙ by (nat_lt n m)
  where
    by : (short : Bool) → cond short (Some (1 + n)) None ≡ option_map suc (cond short (Some n) None)
    by true = let next : 1 + n ≡ suc n = omega arith in ap Some next
    by false = refl

module _ {K : Type 0} (numbers : K → Path) where
  abbrev same_key : K → K → Bool
  same_key x y = bytes_eq (numbers x) (numbers y)

  position_place : (keys : List K) (p : Path) → position (λ key. bytes_eq p (numbers key)) keys ≡ place_in (map numbers keys) p
  position_place [] p = refl
  position_place (key ∷ keys) p = position_front (bytes_eq p (numbers key)) _ _ ∙ ap (behind (bytes_eq p (numbers key))) (position_place keys p)

  any_key : (keys : List K) (p : Path) → list_any (λ key. bytes_eq p (numbers key)) keys ≡ list_any (bytes_eq p) (map numbers keys)
  any_key [] p = refl
  any_key (key ∷ keys) p = ap (λ any. bytes_eq p (numbers key) || any) (any_key keys p)

  no_other : (key : K) (keys : List K) → AllByRecursion (λ other. same_key key other ≡ false) keys → list_any (bytes_eq (numbers key)) (map numbers keys) ≡ false
  no_other key [] differ = refl
  no_other key (other ∷ keys) differ = rw (differ.0) (no_other key keys differ.1)

  distinct_keys : (keys : List K) → std.IsDistinct same_key keys → AreDistinct (map numbers keys)
  unfolding std.IsDistinct
  distinct_keys [] unique = tt
  distinct_keys (key ∷ keys) unique = (no_other key keys unique.0, distinct_keys keys unique.1)

  inserted : (there : Bool) (keys : List K) (key : K) → there ≡ false → map numbers (if there then keys else keys ++ key ∷ []) ≡ map numbers keys ++ numbers key ∷ []
  inserted true keys key new = absurd (true≢false new)
  inserted false keys key new = map-append numbers keys (key ∷ [])

  -- ---- of a table that is known by its view

  module _ (keys : List K) (ps : List Path) (is : map numbers keys ≡ ps) where
    pub place_found : (numbers_given p : Path) (place : Option ℕ) → numbers_given ≡ p → place ≡ position (λ key. bytes_eq numbers_given (numbers key)) keys → place ≡ place_in ps p
    place_found numbers_given p place same h = rw (← is, h, same) (position_place keys p)

    pub distinct_paths : std.IsDistinct same_key keys → AreDistinct ps
    distinct_paths unique = rw (← is) (distinct_keys keys unique)

    pub one_more : (new : List K) (key : K) (p : Path) → numbers key ≡ p → place_in ps p ≡ None → new ≡ insert_key same_key keys key → map numbers new ≡ ps ++ p ∷ []
    one_more new key p same none h =
        let not_there : list_any (same_key key) keys ≡ false = any_key keys (numbers key) ∙ (any_place (map numbers keys) (numbers key) ∙ (ap (λ qs. is_some (place_in qs (numbers key))) is ∙ (ap (λ q. is_some (place_in ps q)) same ∙ ap is_some none))) in
        ap (map numbers) h ∙ (inserted (list_any (same_key key) keys) keys key not_there ∙ (ap (λ qs. qs ++ numbers key ∷ []) is ∙ ap (λ q. ps ++ q ∷ []) same))

    pub first_ones : (new : List K) (count : ℕ) → new ≡ take count keys → map numbers new ≡ take count ps
    first_ones new count h = rw (h, ← is) (sym (take-map numbers count keys))

-- ---- a path that may be among them

among : (ps : List Path) (p : Path) → list_any (λ q. bytes_eq q p) ps ≡ list_any (bytes_eq p) ps
among [] p = refl
among (q ∷ qs) p = ap (λ first. first || list_any (λ r. bytes_eq r p) qs) (nat_list_eq_equiv.symm q p) ∙ ap (λ any. bytes_eq p q || any) (among qs p)

is_added : (ps : List Path) (p : Path) (there : Bool) → there ≡ is_some (place_in ps p) → (if there then ps else ps ++ p ∷ []) ≡ added ps p
is_added ps p there is = ap (λ any. if any then ps else ps ++ p ∷ []) (is ∙ sym (any_place ps p) ∙ sym (among ps p))

pub added-there : (places paths ps : List Path) (p : Path) (found : Option ℕ) → places ≡ paths → paths ≡ ps → found ≡ place_in places p → true ≡ is_some found → ps ≡ added ps p
added-there places paths ps p found same view at there =
    is_added ps p true (there ∙ ap is_some at ∙ ap (λ qs. is_some (place_in qs p)) (same ∙ view))

pub added-new : {T E : Type 0} (places paths new ps : List Path) (p q : Path) (found : Option ℕ) (pushed : Result T E) → places ≡ paths → paths ≡ ps → found ≡ place_in places p → false ≡ is_some found → q ≡ p
    → false ≡ is_err pushed → OnOk pushed (new ≡ paths ++ q ∷ []) → new ≡ added ps p
added-new places paths new ps p q found (Ok x) same view at none copied ok longer =
    longer ∙ ap (λ qs. qs ++ q ∷ []) view ∙ ap (λ r. ps ++ r ∷ []) copied ∙ is_added ps p false (none ∙ ap is_some at ∙ ap (λ qs. is_some (place_in qs p)) (same ∙ view))
added-new places paths new ps p q found (Err e) same view at none copied ok longer = absurd (true≢false (sym ok))
