-- The words of an index, as words of the table that it stands for.
use Rattle.std.proofs.Common.{◌≡◌, Bool, true, false, cond, List, [], ◌∷◌, ◌++◌, Option, Some, None, unwrap_or, bytes_eq, if◌then◌else◌, refl, ap, sym, ◌∙◌}
use Rattle.std.proofs.lemmas.List.{map-append}
use Rattle.std.specs.Cmp.Lexicographic.{nat_list_eq_equiv}
use Rattle.std.specs.Map.{lookup, set_value}
use Rattle.flow_base.specs.declared.outcome.Outcome.{Outcome}
use Rattle.app_future.specs.Futures.{Path, Future, Table, found, settled}
use Rattle.app_future.specs.Entries.{table_of}

module _ {K : Type 0} (numbers : K → Path) where
  pub found_lookup : (es : List (K × Future)) (path : Path) → lookup (λ key. bytes_eq path (numbers key)) es ≡ found (table_of numbers es) path
  found_lookup [] path = refl
  found_lookup (e ∷ es) path = rw (nat_list_eq_equiv.symm path (numbers e.0)) (ap (λ r. cond (bytes_eq (numbers e.0) path) (Some e.1) r) (found_lookup es path))

  set_split : (b : Bool) (e : K × Future) (es : List (K × Future)) (path : Path) (outcome : Outcome) (f : Future) → cond b (Some e.1) (lookup (λ key. bytes_eq path (numbers key)) es) ≡ Some f
      → (lookup (λ key. bytes_eq path (numbers key)) es ≡ Some f → table_of numbers (set_value (λ key. bytes_eq path (numbers key)) es (record f { outcome = Some outcome })) ≡ settled (table_of numbers es) path outcome)
      → table_of numbers (cond b ((e.0, record f { outcome = Some outcome }) ∷ es) (e ∷ set_value (λ key. bytes_eq path (numbers key)) es (record f { outcome = Some outcome })))
      ≡ (if b then (numbers e.0, record e.1 { outcome = Some outcome }) ∷ table_of numbers es else (numbers e.0, e.1) ∷ settled (table_of numbers es) path outcome)
  set_split true e es path outcome f is h = ap (λ g. (numbers e.0, record g { outcome = Some outcome }) ∷ table_of numbers es) (sym (ap (λ r. unwrap_or r f) is))
  set_split false e es path outcome f is h = ap (λ r. (numbers e.0, e.1) ∷ r) (h is)

  pub settled_set : (es : List (K × Future)) (path : Path) (outcome : Outcome) (f : Future) → lookup (λ key. bytes_eq path (numbers key)) es ≡ Some f
      → table_of numbers (set_value (λ key. bytes_eq path (numbers key)) es (record f { outcome = Some outcome })) ≡ settled (table_of numbers es) path outcome
  settled_set [] path outcome f is = refl
  settled_set (e ∷ es) path outcome f is = rw (← nat_list_eq_equiv.symm path (numbers e.0)) (set_split (bytes_eq path (numbers e.0)) e es path outcome f is (settled_set es path outcome f))

  pub added : (es : List (K × Future)) (key : K) (f : Future) → table_of numbers (es ++ (key, f) ∷ []) ≡ table_of numbers es ++ (numbers key, f) ∷ []
  added es key f = map-append (λ e. (numbers e.0, e.1)) es ((key, f) ∷ [])

  -- ---- of a table that is known by its view

  module _ (es : List (K × Future)) (t : Table) (is : table_of numbers es ≡ t) where
    pub looked_up : (key path : Path) (r : Option Future) → key ≡ path → r ≡ lookup (λ k. bytes_eq key (numbers k)) es → r ≡ found t path
    looked_up key path r same h = rw (← is, h, same) (found_lookup es path)

    pub absent : (key : K) (path : Path) → numbers key ≡ path → found t path ≡ None → lookup (λ k. bytes_eq (numbers key) (numbers k)) es ≡ None
    absent key path same none = looked_up (numbers key) path _ same refl ∙ none

    pub unchanged : (new : List (K × Future)) → new ≡ es → table_of numbers new ≡ t
    unchanged new same = rw same is

    pub one_more : (new : List (K × Future)) (key : K) (path : Path) (f g : Future) → numbers key ≡ path → f ≡ g → new ≡ es ++ (key, f) ∷ [] → table_of numbers new ≡ t ++ (path, g) ∷ []
    one_more new key path f g same value h = rw (← is, h, ← same, ← value) (added es key f)

    pub one_settled : (new : List (K × Future)) (key path : Path) (outcome : Outcome) (f g : Future) → key ≡ path → Some f ≡ lookup (λ k. bytes_eq key (numbers k)) es
        → g ≡ record { outputs = f.outputs; outcome = Some outcome } → new ≡ set_value (λ k. bytes_eq key (numbers k)) es g → table_of numbers new ≡ settled t path outcome
    one_settled new key path outcome f g same h value set = rw (← is, set, value, ← same) (settled_set es key outcome f (sym h))
