-- The words of an index, as words of the lost tasks that it stands for.
use Rattle.std.proofs.Common.{◌≡◌, ℕ, cond, List, [], ◌∷◌, ◌++◌, Option, Some, None, bytes_eq, refl, ap, ◌∙◌}
use Rattle.std.proofs.lemmas.List.{map-append}
use Rattle.std.specs.Cmp.Lexicographic.{nat_list_eq_equiv}
use Rattle.std.specs.Map.{lookup}
use Rattle.flow_meaning.specs.Inputs.{Path}
use Rattle.script_eval.specs.Lost.{Lost, loss_at}
use Rattle.script_eval.specs.Entries.{lost_in}

module _ {K : Type 0} (numbers : K → Path) where
  loss_lookup : (es : List (K × ℕ)) (path : Path) → lookup (λ key. bytes_eq path (numbers key)) es ≡ loss_at (lost_in numbers es) path
  loss_lookup [] path = refl
  loss_lookup (e ∷ es) path = rw (nat_list_eq_equiv.symm path (numbers e.0)) (ap (λ r. cond (bytes_eq (numbers e.0) path) (Some e.1) r) (loss_lookup es path))

  one_added : (es : List (K × ℕ)) (key : K) (manager : ℕ) → lost_in numbers (es ++ (key, manager) ∷ []) ≡ lost_in numbers es ++ (numbers key, manager) ∷ []
  one_added es key manager = map-append (λ e. (numbers e.0, e.1)) es ((key, manager) ∷ [])

  -- ---- of lost tasks that are known by their view

  module _ (es : List (K × ℕ)) (lost : Lost) (is : lost_in numbers es ≡ lost) where
    pub looked_up : (key path : Path) (r : Option ℕ) → key ≡ path → r ≡ lookup (λ k. bytes_eq key (numbers k)) es → r ≡ loss_at lost path
    looked_up key path r same h = rw (← is, h, same) (loss_lookup es path)

    pub absent : (key : K) (path : Path) → numbers key ≡ path → loss_at lost path ≡ None → lookup (λ k. bytes_eq (numbers key) (numbers k)) es ≡ None
    absent key path same none = looked_up (numbers key) path _ same refl ∙ none

    pub one_more : (new : List (K × ℕ)) (key : K) (path : Path) (manager : ℕ) → numbers key ≡ path → new ≡ es ++ (key, manager) ∷ [] → lost_in numbers new ≡ lost ++ (path, manager) ∷ []
    one_more new key path manager same h = rw (← is, h, ← same) (one_added es key manager)
