-- Ends with distinct paths that are sorted by path are in the order of paths.
use Rattle.std.specs.Prelude.{◌||◌, ◌&&◌, if◌then◌else◌, cond, nat_lt, nat_eq}
use Rattle.std.proofs.Common.{◌≡◌, ◌≢◌, ◌⊎◌, inl, inr, ℕ, suc, ◌+◌, ◌<◌, ◌≤◌, Bool, true, false, List, [], ◌∷◌, length, get_or, bytes_eq, refl, sym, ◌∙◌, ap, ap₂, subst, arith}
use denote.Ref.{Bor}
use denote.Param.Members.{Mut}
use Rattle.std.specs.Cmp.Lexicographic.{slice_cmp}
use Rattle.std.specs.Fn.{Called}
use Rattle.std.specs.List.{AllByRecursion, list_any, sum_by}
use Rattle.std.specs.List.Sorted.{IsPermutation, IsSortedBy, IsSortedByClosure}
use Rattle.std.specs.Ordering.{is_lt, nat_cmp, ordering_then}
use Rattle.std.specs.declared.cmp.Ordering.{Ordering}
use Rattle.std.specs.declared.cmp.Ordering.TheVariants.{Less, Equal, Greater}
use Rattle.std.proofs.lemmas.Cmp.{nat_list_cmp_total}
use Rattle.std.proofs.lemmas.Fn.{always_returns_same}
use Rattle.std.proofs.lemmas.List.Elements.{All-from_recursion, recursion_from_All}
use Rattle.std.proofs.lemmas.List.Sorted.{IsPermutation-refl, IsPermutation-sym, IsPermutation-trans, IsPermutation-cons, IsPermutation-middle, All-permutation, sum_by-IsPermutation, ranks_by}
use Rattle.std.proofs.lemmas.List.Sums.{sum_by-cons}
use Rattle.std.proofs.lemmas.Slice.Eq.{bytes_eq-Decides}
use Rattle.flow_base.specs.declared.outcome.TaskEnd.{TaskEnd}
use Rattle.flow_meaning.specs.Inputs.{Path}
use Rattle.dependency_graph.specs.Places.{AreDistinct}
use Rattle.call_rules.specs.Orders.{path_less}
use Rattle.call_rules.proofs.Ordering.{less-trans, less-irrefl, less-total}
use Rattle.kernel_core.specs.Parts.{ends_paths, placed, ordered}

-- ---- as the order of paths compares

abbrev pub before : TaskEnd → TaskEnd → Bool
before e f = path_less e.path f.path

abbrev compared : TaskEnd → TaskEnd → Ordering
compared e f = slice_cmp nat_cmp e.path f.path

first_decides : (a b s : Bool) (r : Ordering) → is_lt r ≡ s → is_lt (ordering_then (cond a Less (cond b Equal Greater)) r) ≡ (a || (b && s))
first_decides true b s r is = refl
first_decides false true s r is = is
first_decides false false s r is = refl

less_compared : (p q : Path) → is_lt (slice_cmp nat_cmp p q) ≡ path_less p q
less_compared [] [] = refl
less_compared [] (y ∷ ys) = refl
less_compared (x ∷ xs) [] = refl
less_compared (x ∷ xs) (y ∷ ys) = first_decides (nat_lt x y) (nat_eq x y) (path_less xs ys) (slice_cmp nat_cmp xs ys) (less_compared xs ys)

-- ---- distinct paths

abbrev here : Path → TaskEnd → ℕ
here p e = cond (bytes_eq p e.path) 1 0

-- no path stands twice
abbrev OnceEach : List TaskEnd → Type 0
OnceEach es = (p : Path) → sum_by (here p) es ≤ 1

none_here : (p : Path) (es : List TaskEnd) → list_any (bytes_eq p) (ends_paths es) ≡ false → sum_by (here p) es ≡ 0
none_here p [] none = refl
none_here p (e ∷ es) none = sum_by-cons (here p) e es ∙ by_test (bytes_eq p e.path) none (none_here p es)
  where
    by_test : (b : Bool) → (b || list_any (bytes_eq p) (ends_paths es)) ≡ false
        → (list_any (bytes_eq p) (ends_paths es) ≡ false → sum_by (here p) es ≡ 0) → cond b 1 0 + sum_by (here p) es ≡ 0
    by_test true h further = absurd (cc)
    by_test false h further = omega (arith, further h)

once_each : (es : List TaskEnd) → AreDistinct (ends_paths es) → OnceEach es
once_each [] distinct p = omega arith
once_each (e ∷ es) distinct p = subst (λ (n : ℕ). n ≤ 1) (sym (sum_by-cons (here p) e es)) (by_test (bytes_eq p e.path) refl (once_each es distinct.1 p))
  where
    by_test : (b : Bool) → bytes_eq p e.path ≡ b → sum_by (here p) es ≤ 1 → cond b 1 0 + sum_by (here p) es ≤ 1
    by_test true is h =
        let none : sum_by (here p) es ≡ 0 = none_here p es (ap (λ (q : Path). list_any (bytes_eq q) (ends_paths es)) ((bytes_eq-Decides p e.path).0 is) ∙ distinct.0) in
        omega (arith, none)
    by_test false is h = omega (arith, h)

-- each path differs from those behind it
abbrev Apart : List TaskEnd → Type 0
Apart [] = Unit {0}
Apart (e ∷ es) = AllByRecursion (λ f. e.path ≢ f.path) es × Apart es

others : (p : Path) (es : List TaskEnd) → sum_by (here p) es ≡ 0 → AllByRecursion (λ f. p ≢ f.path) es
others p [] none = tt
others p (e ∷ es) none = by_test (bytes_eq p e.path) refl (sym (sum_by-cons (here p) e es) ∙ none) (others p es)
  where
    by_test : (b : Bool) → bytes_eq p e.path ≡ b → cond b 1 0 + sum_by (here p) es ≡ 0 → (sum_by (here p) es ≡ 0 → AllByRecursion (λ f. p ≢ f.path) es) → AllByRecursion (λ f. p ≢ f.path) (e ∷ es)
    by_test true is h further = absurd (omega (arith, h))
    by_test false is h further = (λ same. (let yes = (bytes_eq-Decides p e.path).1 same in cc), further (omega (arith, h)))

apart : (es : List TaskEnd) → OnceEach es → Apart es
apart [] once = tt
apart (e ∷ es) once = (others e.path es first, apart es (λ p. let more = sum_by-cons (here p) e es in let few = once p in omega arith))
  where
    first : sum_by (here e.path) es ≡ 0
    first =
        let more = sum_by-cons (here e.path) e es in
        let is : here e.path e ≡ 1 = ap (λ (b : Bool). cond b 1 0) ((bytes_eq-Decides e.path e.path).1 refl) in
        let few = once e.path in
        omega arith

-- ---- ascending ends

abbrev Ascends : List TaskEnd → Type 0
Ascends [] = Unit {0}
Ascends (e ∷ es) = AllByRecursion (λ f. before e f ≡ true) es × Ascends es

every_with : (P Q R : TaskEnd → Type 0) → ((f : TaskEnd) → P f → Q f → R f) → (es : List TaskEnd) → AllByRecursion P es → AllByRecursion Q es → AllByRecursion R es
every_with P Q R both [] a b = tt
every_with P Q R both (e ∷ es) a b = (both e a.0 b.0, every_with P Q R both es a.1 b.1)

every_so : (P R : TaskEnd → Type 0) → ((f : TaskEnd) → P f → R f) → (es : List TaskEnd) → AllByRecursion P es → AllByRecursion R es
every_so P R so es a = every_with P P R (λ f h _. so f h) es a a

every_moved : (P : TaskEnd → Type 0) (es fs : List TaskEnd) → IsPermutation es fs → AllByRecursion P es → AllByRecursion P fs
every_moved P es fs moved h = recursion_from_All P fs (All-permutation P es fs moved (All-from_recursion P es h))

-- what holds of each of these holds of each of those
abbrev Reaches : List TaskEnd → List TaskEnd → Type 1
Reaches es fs = (P : TaskEnd → Type 0) → AllByRecursion P es → AllByRecursion P fs

first_same : (e f : TaskEnd) (es fs : List TaskEnd) → Ascends (e ∷ es) → Ascends (f ∷ fs) → Reaches (e ∷ es) (f ∷ fs) → Reaches (f ∷ fs) (e ∷ es) → e ≡ f
first_same e f es fs a b to from =
    by_both
    (to (λ g. (e ≡ g) ⊎ (before e g ≡ true)) (inl refl, every_so (λ g. before e g ≡ true) (λ g. (e ≡ g) ⊎ (before e g ≡ true)) (λ g lt. inr lt) es a.0)).0
    (from (λ g. (f ≡ g) ⊎ (before f g ≡ true)) (inl refl, every_so (λ g. before f g ≡ true) (λ g. (f ≡ g) ⊎ (before f g ≡ true)) (λ g lt. inr lt) fs b.0)).0
  where
    by_both : (e ≡ f) ⊎ (before e f ≡ true) → (f ≡ e) ⊎ (before f e ≡ true) → e ≡ f
    by_both (inl is) other = is
    by_both (inr lt) (inl is) = sym is
    by_both (inr lt) (inr back) = absurd (less-irrefl e.path (less-trans e.path f.path e.path lt back))

rest_reached : (e f : TaskEnd) (es fs : List TaskEnd) → e ≡ f → Ascends (f ∷ fs) → Reaches (e ∷ es) (f ∷ fs) → Reaches es fs
rest_reached e f es fs is b to P h =
    every_with (λ g. before f g ≡ true) (λ g. before e g ≡ true → P g) P (λ g lt so. so (ap (λ (x : TaskEnd). before x g) is ∙ lt)) fs b.0
    (to (λ g. before e g ≡ true → P g) (λ lt. absurd (less-irrefl e.path lt), every_so P (λ g. before e g ≡ true → P g) (λ g p _. p) es h)).1

ascending_same : (es fs : List TaskEnd) → Ascends es → Ascends fs → Reaches es fs → Reaches fs es → es ≡ fs
ascending_same [] [] a b to from = refl
ascending_same [] (f ∷ fs) a b to from = absurd ((to (λ _. ⊥) tt).0)
ascending_same (e ∷ es) [] a b to from = absurd ((from (λ _. ⊥) tt).0)
ascending_same (e ∷ es) (f ∷ fs) a b to from =
    let is = first_same e f es fs a b to from in
    ap₂ ◌∷◌ is (ascending_same es fs a.1 b.1 (rest_reached e f es fs is b to) (rest_reached f e fs es (sym is) a from))

-- ---- what is in its place

place_moves : (e : TaskEnd) (es : List TaskEnd) → IsPermutation (e ∷ es) (placed e es)
place_moves e [] = IsPermutation-refl (e ∷ [])
place_moves e (f ∷ es) = by_test (path_less e.path f.path) (place_moves e es)
  where
    by_test : (b : Bool) → IsPermutation (e ∷ es) (placed e es) → IsPermutation (e ∷ f ∷ es) (if b then e ∷ f ∷ es else f ∷ placed e es)
    by_test true further = IsPermutation-refl (e ∷ f ∷ es)
    by_test false further = IsPermutation-trans _ _ _ (IsPermutation-middle (e ∷ []) f es) (IsPermutation-cons f (e ∷ es) (placed e es) further)

order_moves : (es : List TaskEnd) → IsPermutation es (ordered es)
order_moves [] = IsPermutation-refl []
order_moves (e ∷ es) = IsPermutation-trans _ _ _ (IsPermutation-cons e es (ordered es) (order_moves es)) (place_moves e (ordered es))

place_ascends : (e : TaskEnd) (es : List TaskEnd) → Ascends es → AllByRecursion (λ f. e.path ≢ f.path) es → Ascends (placed e es)
place_ascends e [] a other = (tt, tt)
place_ascends e (f ∷ es) a other = by_test (path_less e.path f.path) refl (place_ascends e es a.1 other.1)
  where
    by_test : (b : Bool) → path_less e.path f.path ≡ b → Ascends (placed e es) → Ascends (if b then e ∷ f ∷ es else f ∷ placed e es)
    by_test true is further = ((is, every_so (λ g. before f g ≡ true) (λ g. before e g ≡ true) (λ g lt. less-trans e.path f.path g.path is lt) es a.0), a)
    by_test false is further =
        let less : before f e ≡ true = less-total e.path f.path is other.0 in
        (every_moved (λ g. before f g ≡ true) (e ∷ es) (placed e es) (place_moves e es) (less, a.0), further)

order_ascends : (es : List TaskEnd) → Apart es → Ascends (ordered es)
order_ascends [] other = tt
order_ascends (e ∷ es) other = place_ascends e (ordered es) (order_ascends es other.1) (every_moved (λ f. e.path ≢ f.path) es (ordered es) (order_moves es) other.0)

-- ---- what is sorted

-- no end is before the one in front of it
abbrev Rises : List TaskEnd → Type 0
Rises es = (k : ℕ) (d : TaskEnd) → suc k < length es → before (get_or es (suc k) d) (get_or es k d) ≡ false

rises : (es : List TaskEnd) → IsSortedBy (λ e f. is_lt (compared e f)) es → Rises es
rises es sorted k d lt =
    let next : suc k ≡ k + 1 = omega arith in
    ap (λ (n : ℕ). before (get_or es n d) (get_or es k d)) next ∙ sym (less_compared (get_or es (k + 1) d).path (get_or es k d).path) ∙ sorted k d (omega arith) (omega arith)

rising_ascends : (es : List TaskEnd) → Rises es → Apart es → Ascends es
rising_ascends [] up other = tt
rising_ascends (e ∷ []) up other = (tt, tt)
rising_ascends (e ∷ f ∷ es) up other =
    let rest = rising_ascends (f ∷ es) (λ k d lt. up (suc k) d (omega arith)) other.1 in
    let less : before e f ≡ true = less-total f.path e.path (up 0 e (omega arith)) (λ same. other.0.0 (sym same)) in
    ((less, every_so (λ g. before f g ≡ true) (λ g. before e g ≡ true) (λ g lt. less-trans e.path f.path g.path less lt) es rest.0), rest)

sorted_ordered : (es fs : List TaskEnd) → AreDistinct (ends_paths es) → IsPermutation es fs → IsSortedBy (λ e f. is_lt (compared e f)) fs → fs ≡ ordered es
sorted_ordered es fs distinct moved sorted =
    let once = once_each es distinct in
    let once_too : OnceEach fs = λ p. subst (λ (n : ℕ). n ≤ 1) (sym (sum_by-IsPermutation (here p) es fs moved)) (once p) in
    let order = order_moves es in
    ascending_same fs (ordered es) (rising_ascends fs (rises fs sorted) (apart fs once_too)) (order_ascends es (apart es once))
    (λ P h. every_moved P es (ordered es) order (every_moved P fs es (IsPermutation-sym es fs moved) h))
    (λ P h. every_moved P es fs moved (every_moved P (ordered es) es (IsPermutation-sym es (ordered es) order) h))

-- what a sort by path gives
pub sorted-ordered : {F : Type 0} {g : Mut F (Bor TaskEnd × (Bor TaskEnd × Unit {0})) Ordering} {f : F} (es fs : List TaskEnd)
    → AreDistinct (ends_paths es) → IsPermutation es fs → IsSortedByClosure g f fs
    → ((a : Bor TaskEnd × (Bor TaskEnd × Unit {0})) (r : Ordering) (f' : F) → Called g f a r f' → (r ≡ compared a.0.now a.1.0.now) × (f' ≡ f)) → fs ≡ ordered es
sorted-ordered {g = g} {f = f} es fs distinct moved sorted calls =
    sorted_ordered es fs distinct moved
    (sorted (λ e f. is_lt (compared e f)) (ranks_by nat_list_cmp_total (λ (e : TaskEnd). e.path))
    (always_returns_same g (λ a r. is_lt r ≡ is_lt (compared a.0.now a.1.0.now)) f (λ a r f' k. (ap is_lt (calls a r f' k).0, (calls a r f' k).1))))
