-- The number of an app of a name.
use Rattle.std.proofs.Common.{◌≡◌, ℕ, suc, ◌+◌, ◌≤◌, ◌<◌, ◌^◌, not, true, false, Bool, cond, List, [], ◌∷◌, map, length, bytes_eq, refl, ap, arith}
use Rattle.std.specs.List.{position_or_len, prefix_len}
use Rattle.script_tree.specs.declared.tree.AppDef.{AppDef}
use Rattle.flow_meaning.specs.Operators.{Text}
use Rattle.flow_meaning.specs.Meaning as m
use Rattle.flow_meaning.specs.Walk.{names_in}

module _ {X Y : Type 0} (p : Y → Bool) (f : X → Y) where
  mapped : (xs : List X) → prefix_len (λ x. p (f x)) xs ≡ prefix_len p (map f xs)
  mapped [] = refl
  mapped (x ∷ xs) = ap (λ n. cond (p (f x)) (1 + n) 0) (mapped xs)

module _ {X : Type 0} (p : X → Bool) where
  prefix_split : (b : Bool) (n k : ℕ) → n ≤ k → cond b (1 + n) 0 ≤ suc k
  prefix_split true n k h = omega arith
  prefix_split false n k h = omega arith

  prefix_within : (xs : List X) → prefix_len p xs ≤ length xs
  prefix_within [] = omega arith
  prefix_within (x ∷ xs) = prefix_split (p x) (prefix_len p xs) (length xs) (prefix_within xs)

pub number_mapped : (apps : List AppDef) (name : Text) → position_or_len (λ app. bytes_eq app.name name) apps ≡ m.number_of (names_in apps) name
number_mapped apps name = mapped (λ n. not (bytes_eq n name)) (λ app. app.name) apps

pub number_within : (apps : List AppDef) (name : Text) (n : ℕ) → n ≡ position_or_len (λ app. bytes_eq app.name name) apps → length apps < 2 ^ 32 → n < 2 ^ 32
number_within apps name n is few = let h = prefix_within (λ app. not (bytes_eq app.name name)) apps in omega arith
