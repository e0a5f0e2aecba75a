-- The numbers of apps by their names.
use Rattle.std.specs.Prelude.{◌≡◌, ℕ, suc, Bool, List, [], ◌∷◌, Option, Some, None, if◌then◌else◌, bytes_eq}
use Rattle.std.specs.Borrow.{Bor}
use Rattle.std.specs.Map.{lookup}
use Rattle.std.specs.Option.{option_map}
use Rattle.script_tree.specs.declared.tree.AppDef.{AppDef}
use Rattle.script_tree.specs.Marks.{Name}

-- the number of the first that passes
abbrev pub first_at : {X : Type 0} → (X → Bool) → List X → Option ℕ
first_at p [] = None
first_at p (x ∷ xs) = if p x then Some 0 else option_map suc (first_at p xs)

-- for each name the number of its first app
pub record AreNumbers (apps : List AppDef) (entries : List (Bor Name × ℕ)) : Type 0 where
  pub at : (name : Name) → lookup (λ key. bytes_eq name key.now) entries ≡ first_at (λ app. bytes_eq app.name name) apps
