-- The numbers of the first apps of each name.
use Rattle.std.proofs.Common.{◌≡◌, ℕ, suc, zero, ◌+◌, Bool, true, false, cond, not, ◌||◌, if◌then◌else◌, nat_lt, arith, List, [], ◌∷◌, ◌++◌, length, take, slice_get, Option, Some, None, bytes_eq, refl, ap, sym, subst, ◌∙◌, Bor}
use Rattle.std.specs.List.{list_any, find, position_or_len, prefix_len}
use Rattle.std.specs.Map.{lookup}
use Rattle.std.specs.Option.{option_map}
use Rattle.std.proofs.lemmas.Slice.Eq.{bytes_eq-Decides}
use Rattle.script_tree.specs.declared.tree.AppDef.{AppDef}
use Rattle.script_tree.specs.Marks.{Name}
use Rattle.script_tree.specs.Rules.{app_named}
use Rattle.app_index.specs.Numbers.{first_at, AreNumbers}

abbrev read : {X : Type 0} → List X → Option ℕ → Option X
read xs None = None
read xs (Some i) = slice_get xs i

abbrev is_before : Option ℕ → ℕ → Bool
is_before None k = false
is_before (Some i) k = nat_lt i k

abbrev or_last : Option ℕ → Option ℕ → Option ℕ
or_last None r = r
or_last (Some i) r = Some i

read_later : {X : Type 0} (x : X) (xs : List X) (r : Option ℕ) → read (x ∷ xs) (option_map suc r) ≡ read xs r
read_later x xs None = refl
read_later x xs (Some i) = refl

before_later : (r : Option ℕ) (k : ℕ) → is_before (option_map suc r) (suc k) ≡ is_before r k
before_later None k = refl
before_later (Some i) k = grind arith

before_none : (r : Option ℕ) → is_before r 0 ≡ false
before_none None = refl
before_none (Some i) = grind arith

last_later : (r : Option ℕ) (b : Bool) (n : ℕ) → option_map suc (or_last r (if b then Some n else None)) ≡ or_last (option_map suc r) (if b then Some (suc n) else None)
last_later None true n = refl
last_later None false n = refl
last_later (Some i) b n = refl

last_none : (r : Option ℕ) → or_last r None ≡ r
last_none None = refl
last_none (Some i) = refl

module _ {X : Type 0} (p : X → Bool) where
  found_split : (b : Bool) (x : X) (xs : List X) → find p xs ≡ read xs (first_at p xs) → cond b (Some x) (find p xs) ≡ read (x ∷ xs) (if b then Some 0 else option_map suc (first_at p xs))
  found_split true x xs h = refl
  found_split false x xs h = h ∙ sym (read_later x xs (first_at p xs))

  found : (xs : List X) → find p xs ≡ read xs (first_at p xs)
  found [] = refl
  found (x ∷ xs) = found_split (p x) x xs (found xs)

  taken_split : (b : Bool) (x : X) (xs : List X) (k : ℕ) → list_any p (take k xs) ≡ is_before (first_at p xs) k → (b || list_any p (take k xs)) ≡ is_before (if b then Some 0 else option_map suc (first_at p xs)) (suc k)
  taken_split true x xs k h = grind arith
  taken_split false x xs k h = h ∙ sym (before_later (first_at p xs) k)

  taken : (xs : List X) (k : ℕ) → list_any p (take k xs) ≡ is_before (first_at p xs) k
  taken xs zero = sym (before_none (first_at p xs))
  taken [] (suc k) = refl
  taken (x ∷ xs) (suc k) = taken_split (p x) x xs k (taken xs k)

  alone : (b : Bool) → (if b then Some 0 else option_map suc None) ≡ or_last None (if b then Some 0 else None)
  alone true = refl
  alone false = refl

  last_split : (b : Bool) (xs : List X) (y : X) → first_at p (xs ++ y ∷ []) ≡ or_last (first_at p xs) (if p y then Some (length xs) else None)
      → (if b then Some 0 else option_map suc (first_at p (xs ++ y ∷ []))) ≡ or_last (if b then Some 0 else option_map suc (first_at p xs)) (if p y then Some (suc (length xs)) else None)
  last_split true xs y h = refl
  last_split false xs y h = ap (option_map suc) h ∙ last_later (first_at p xs) (p y) (length xs)

  last : (xs : List X) (y : X) → first_at p (xs ++ y ∷ []) ≡ or_last (first_at p xs) (if p y then Some (length xs) else None)
  last [] y = alone (p y)
  last (x ∷ xs) y = last_split (p x) xs y (last xs y)

-- ---- look-ups

abbrev or_count : ℕ → Option ℕ → ℕ
or_count n None = n
or_count n (Some i) = i

count_later : (n : ℕ) (r : Option ℕ) → or_count (suc n) (option_map suc r) ≡ suc (or_count n r)
count_later n None = refl
count_later n (Some i) = refl

module _ {X : Type 0} (p : X → Bool) where
  placed_split : (b : Bool) (xs : List X) → prefix_len (λ x. not (p x)) xs ≡ or_count (length xs) (first_at p xs) → cond (not b) (1 + prefix_len (λ x. not (p x)) xs) 0 ≡ or_count (suc (length xs)) (if b then Some 0 else option_map suc (first_at p xs))
  placed_split true xs h = refl
  placed_split false xs h =
      let one : 1 + prefix_len (λ x. not (p x)) xs ≡ suc (prefix_len (λ x. not (p x)) xs) = omega arith in
      one ∙ ap suc h ∙ sym (count_later (length xs) (first_at p xs))

  placed : (xs : List X) → position_or_len p xs ≡ or_count (length xs) (first_at p xs)
  placed [] = refl
  placed (x ∷ xs) = placed_split (p x) xs (placed xs)

module _ (apps apps_now : List AppDef) (entries : List (Bor Name × ℕ)) (name : Name) (is : apps ≡ apps_now) (h : AreNumbers apps entries) where
  pub none_named : None ≡ lookup (λ key. bytes_eq name key.now) entries → None ≡ app_named apps_now name
  none_named none = rw (← is) (sym (found _ apps ∙ ap (read apps) (sym (h.at name) ∙ sym none)))

  pub one_named : (i : ℕ) → Some i ≡ lookup (λ key. bytes_eq name key.now) entries → slice_get apps i ≡ app_named apps_now name
  one_named i some = rw (← is) (sym (found _ apps ∙ ap (read apps) (sym (h.at name) ∙ sym some)))

  pub none_placed : None ≡ lookup (λ key. bytes_eq name key.now) entries → length apps ≡ position_or_len (λ app. bytes_eq app.name name) apps_now
  none_placed none = rw (← is) (sym (placed (λ app. bytes_eq app.name name) apps ∙ ap (or_count (length apps)) (sym (h.at name) ∙ sym none)))

  pub one_placed : (i : ℕ) → Some i ≡ lookup (λ key. bytes_eq name key.now) entries → i ≡ position_or_len (λ app. bytes_eq app.name name) apps_now
  one_placed i some = rw (← is) (sym (placed (λ app. bytes_eq app.name name) apps ∙ ap (or_count (length apps)) (sym (h.at name) ∙ sym some)))

  pub none_taken : (k : ℕ) → None ≡ lookup (λ key. bytes_eq name key.now) entries → false ≡ list_any (λ app. bytes_eq app.name name) (take k apps_now)
  none_taken k none = rw (← is) (sym (taken _ apps k ∙ ap (λ r. is_before r k) (sym (h.at name) ∙ sym none)))

  pub one_taken : (k i : ℕ) → Some i ≡ lookup (λ key. bytes_eq name key.now) entries → nat_lt i k ≡ list_any (λ app. bytes_eq app.name name) (take k apps_now)
  one_taken k i some = rw (← is) (sym (taken _ apps k ∙ ap (λ r. is_before r k) (sym (h.at name) ∙ sym some)))

-- ---- one more app

module _ (apps : List AppDef) (app : AppDef) (entries : List (Bor Name × ℕ)) (h : AreNumbers apps entries) where
  again_split : (i : ℕ) (name : Name) (b : Bool) → bytes_eq app.name name ≡ b → Some i ≡ lookup (λ key. bytes_eq app.name key.now) entries
      → lookup (λ key. bytes_eq name key.now) entries ≡ or_last (first_at (λ a. bytes_eq a.name name) apps) (if b then Some (length apps) else None)
  again_split i name true e some =
      let same = (bytes_eq-Decides app.name name).0 e in
      let at = sym (subst (λ n. Some i ≡ lookup (λ key. bytes_eq n key.now) entries) same some) in
      at ∙ ap (λ r. or_last r (Some (length apps))) (sym at ∙ h.at name)
  again_split i name false e some = h.at name ∙ sym (last_none _)

  pub again : (i : ℕ) → Some i ≡ lookup (λ key. bytes_eq app.name key.now) entries → AreNumbers (apps ++ app ∷ []) entries
  again i some = record { at = λ name. again_split i name (bytes_eq app.name name) refl some ∙ sym (last (λ a. bytes_eq a.name name) apps app) }

  more_split : (name : Name) (b : Bool) → bytes_eq app.name name ≡ b → None ≡ lookup (λ key. bytes_eq app.name key.now) entries
      → cond b (Some (length apps)) (lookup (λ key. bytes_eq name key.now) entries) ≡ or_last (first_at (λ a. bytes_eq a.name name) apps) (if b then Some (length apps) else None)
  more_split name true e none =
      let same = (bytes_eq-Decides app.name name).0 e in
      let at = sym (subst (λ n. None ≡ lookup (λ key. bytes_eq n key.now) entries) same none) in
      ap (λ r. or_last r (Some (length apps))) (sym at ∙ h.at name)
  more_split name false e none = h.at name ∙ sym (last_none _)

  pub more : (new : List (Bor Name × ℕ)) → None ≡ lookup (λ key. bytes_eq app.name key.now) entries
      → ((name : Name) → lookup (λ key. bytes_eq name key.now) new ≡ cond (bytes_eq app.name name) (Some (length apps)) (lookup (λ key. bytes_eq name key.now) entries))
      → AreNumbers (apps ++ app ∷ []) new
  more new none put = record { at = λ name. put name ∙ more_split name (bytes_eq app.name name) refl none ∙ sym (last (λ a. bytes_eq a.name name) apps app) }
