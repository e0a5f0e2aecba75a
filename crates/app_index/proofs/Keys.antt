-- Names as the keys of a set.
use Rattle.std.proofs.Common.{◌≡◌, ℕ, Bool, true, false, ◌||◌, if◌then◌else◌, List, [], ◌∷◌, ◌++◌, map, take, Some, slice_get, bytes_eq, refl, ap, sym, ◌∙◌, Bor}
use Rattle.std.proofs.lemmas.List.{take-map, map-append}
use Rattle.std.proofs.lemmas.Option.{slice_get-map}
use Rattle.std.proofs.lemmas.Slice.Eq.{bytes_eq-Decides}
use Rattle.std.specs.Option.{option_map}
use Rattle.std.specs.List.{list_any, AllByRecursion}
use Rattle.std.specs.List as std
use Rattle.indexmap.specs.IndexSet.{insert_key}
use Rattle.script_tree.specs.Marks.{Name}
use Rattle.app_index.specs.Names.{is_among, with_name, IsDistinct}

abbrev pub names : List (Bor Name) → List Name
names keys = map (λ key. key.now) keys

abbrev pub same_key : Bor Name → Bor Name → Bool
same_key x y = bytes_eq x.now y.now

pub kept : (keys new : List (Bor Name)) (old : List Name) (count : ℕ) → names keys ≡ old → new ≡ take count keys → names new ≡ take count old
kept keys new old count is h = rw (h, ← is) (sym (take-map (λ key. key.now) count keys))

any_named : (name : Name) (keys : List (Bor Name)) → list_any (λ key. bytes_eq name key.now) keys ≡ is_among (names keys) name
any_named name [] = refl
any_named name (key ∷ keys) = ap (λ b. bytes_eq name key.now || b) (any_named name keys)

pub has : (keys : List (Bor Name)) (old : List Name) (name : Name) (r : Bool) → names keys ≡ old → r ≡ list_any (λ key. bytes_eq name key.now) keys → r ≡ is_among old name
has keys old name r is h = rw (h, ← is) (any_named name keys)

inserted : (keys : List (Bor Name)) (name : Bor Name) (b : Bool) → names (if b then keys else keys ++ name ∷ []) ≡ (if b then names keys else names keys ++ name.now ∷ [])
inserted keys name true = refl
inserted keys name false = map-append (λ key. key.now) keys (name ∷ [])

pub added : (keys new : List (Bor Name)) (old : List Name) (name : Bor Name) → names keys ≡ old → new ≡ insert_key same_key keys name → names new ≡ with_name old name.now
added keys new old name is h = rw (h, ← is) (inserted keys name _ ∙ ap (λ b. if b then names keys else names keys ++ name.now ∷ []) (any_named name.now keys))

none_named : (key : Bor Name) (keys : List (Bor Name)) → AllByRecursion (λ y. same_key key y ≡ false) keys → is_among (names keys) key.now ≡ false
none_named key [] h = refl
none_named key (k ∷ ks) h = rw (h.0) (none_named key ks h.1)

distinct_names : (keys : List (Bor Name)) → std.IsDistinct same_key keys → IsDistinct (names keys)
unfolding std.IsDistinct
distinct_names [] h = tt
distinct_names (key ∷ keys) h = (none_named key keys h.0, distinct_names keys h.1)

pub distinct : (keys : List (Bor Name)) (old : List Name) → names keys ≡ old → std.IsDistinct same_key keys → IsDistinct old
distinct keys old is h = rw (← is) (distinct_names keys h)

pub placed : (keys : List (Bor Name)) (place : ℕ) (name key : Bor Name) → slice_get keys place ≡ Some key → same_key name key ≡ true → slice_get (names keys) place ≡ Some name.now
placed keys place name key at same = slice_get-map (λ k. k.now) keys place ∙ ap (option_map (λ k. k.now)) at ∙ ap Some (sym ((bytes_eq-Decides name.now key.now).0 same))
