-- What settling a path changes, and what only grows.
use Rattle.std.proofs.Common.{◌≡◌, ◌≢◌, ℕ, Bool, true, false, [], ◌∷◌, ◌++◌, Option, Some, None, is_some, bytes_eq, if◌then◌else◌, refl, ap, sym, subst, ◌∙◌, true≢false}
use Rattle.std.proofs.lemmas.Slice.Eq.{bytes_eq-Decides}
use Rattle.std.specs.Cmp.Lexicographic.{nat_list_eq_equiv}
use Rattle.std.specs.Option.{option_map}
use Rattle.flow_base.specs.declared.outcome.Outcome.{Outcome}
use Rattle.app_future.specs.Futures.{Path, Future, Table, IsOpen, Grows, found, outcome_in, settled}

abbrev with_outcome : Outcome → Future → Future
with_outcome outcome f = record f { outcome = Some outcome }

-- ---- the path that is settled

module _ (path : Path) (outcome : Outcome) where
  at_path_split : (b : Bool) (e : Path × Future) (rest : Table) → bytes_eq e.0 path ≡ b
      → found (settled rest path outcome) path ≡ option_map (with_outcome outcome) (found rest path)
      → found (if b then (e.0, with_outcome outcome e.1) ∷ rest else e ∷ settled rest path outcome) path ≡ option_map (with_outcome outcome) (if b then Some e.1 else found rest path)
  at_path_split true e rest is h = rw is refl
  at_path_split false e rest is h = rw is h

  at_path : (t : Table) → found (settled t path outcome) path ≡ option_map (with_outcome outcome) (found t path)
  at_path [] = refl
  at_path (e ∷ rest) = at_path_split (bytes_eq e.0 path) e rest refl (at_path rest)

pub after : (t : Table) (path : Path) (outcome : Outcome) (h : IsOpen t path) → found (settled t path outcome) path ≡ Some (record { outputs = h.outputs; outcome = Some outcome })
after t path outcome h = at_path path outcome t ∙ ap (option_map (with_outcome outcome)) h.is

pub closed : (t : Table) (path : Path) (outcome : Outcome) → IsOpen t path → IsOpen (settled t path outcome) path → ⊥
closed t path outcome h again =
    true≢false (ap (λ r. is_some (outcome_in r)) (sym (after t path outcome h) ∙ again.is))

-- ---- the others

module _ (path : Path) (outcome : Outcome) (other : Path) (differs : bytes_eq path other ≡ false) where
  at_other_split : (b c : Bool) (e : Path × Future) (rest : Table) → bytes_eq e.0 path ≡ b → bytes_eq e.0 other ≡ c
      → found (settled rest path outcome) other ≡ found rest other
      → found (if b then (e.0, with_outcome outcome e.1) ∷ rest else e ∷ settled rest path outcome) other ≡ (if c then Some e.1 else found rest other)
  at_other_split true true e rest is same h = absurd (true≢false (sym same ∙ nat_list_eq_equiv.congr e.0 path other is ∙ differs))
  at_other_split true false e rest is same h = rw same refl
  at_other_split false c e rest is same h = rw same (ap (λ r. if c then Some e.1 else r) h)

  at_other : (t : Table) → found (settled t path outcome) other ≡ found t other
  at_other [] = refl
  at_other (e ∷ rest) = at_other_split (bytes_eq e.0 path) (bytes_eq e.0 other) e rest refl refl (at_other rest)

others_split : (t : Table) (path : Path) (outcome : Outcome) (other : Path) (b : Bool) → bytes_eq path other ≡ b → path ≢ other → found (settled t path outcome) other ≡ found t other
others_split t path outcome other true is differs = absurd (differs ((bytes_eq-Decides path other).0 is))
others_split t path outcome other false is differs = at_other path outcome other is t

pub others : (t : Table) (path : Path) (outcome : Outcome) (other : Path) → path ≢ other → found (settled t path outcome) other ≡ found t other
others t path outcome other differs = others_split t path outcome other (bytes_eq path other) refl differs

-- ---- growing

pub grows_same : (t u : Table) → u ≡ t → Grows t u
grows_same t u is = record { stays = λ path f h. (f, rw is h, refl, λ outcome e. e) }

found_first_split : (b : Bool) (e : Path × Future) (rest more : Table) (path : Path) (f : Future) → (found rest path ≡ Some f → found (rest ++ more) path ≡ Some f)
    → (if b then Some e.1 else found rest path) ≡ Some f → (if b then Some e.1 else found (rest ++ more) path) ≡ Some f
found_first_split true e rest more path f later h = h
found_first_split false e rest more path f later h = later h

found_first : (t more : Table) (path : Path) (f : Future) → found t path ≡ Some f → found (t ++ more) path ≡ Some f
found_first [] more path f h = absurd (true≢false (sym (ap is_some h)))
found_first (e ∷ rest) more path f h = found_first_split (bytes_eq e.0 path) e rest more path f (found_first rest more path f) h

pub grows_added : (t u more : Table) → u ≡ t ++ more → Grows t u
grows_added t u more is = record { stays = λ path f h. (f, rw is (found_first t more path f h), refl, λ outcome e. e) }

abbrev outputs_in : Option Future → ℕ
outputs_in None = 0
outputs_in (Some f) = f.outputs

grows_settled_split : (t : Table) (path : Path) (outcome : Outcome) (other : Path) (f : Future) (b : Bool) → IsOpen t path → bytes_eq path other ≡ b → found t other ≡ Some f
    → (g : Future) × (found (settled t path outcome) other ≡ Some g) × (g.outputs ≡ f.outputs) × ((o : Outcome) → f.outcome ≡ Some o → g.outcome ≡ Some o)
grows_settled_split t path outcome other f true is_open is h =
    let same : path ≡ other = (bytes_eq-Decides path other).0 is in
    let known : Some (record { outputs = is_open.outputs; outcome = None }) ≡ Some f = sym is_open.is ∙ subst (λ p. found t p ≡ Some f) (sym same) h in (
      record { outputs = is_open.outputs; outcome = Some outcome },
      subst (λ p. found (settled t path outcome) p ≡ Some (record { outputs = is_open.outputs; outcome = Some outcome })) same (after t path outcome is_open),
      ap outputs_in known,
      λ o e. absurd (true≢false (sym (ap is_some (ap outcome_in known ∙ e)))),
    )
grows_settled_split t path outcome other f false is_open is h = (f, at_other path outcome other is t ∙ h, refl, λ o e. e)

pub grows_settled : (t u : Table) (path : Path) (outcome : Outcome) → IsOpen t path → u ≡ settled t path outcome → Grows t u
grows_settled t u path outcome is_open is = record { stays = λ other f h. rw is (grows_settled_split t path outcome other f (bytes_eq path other) is_open refl h) }
