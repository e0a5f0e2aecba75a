-- The least of a list of faults.
use Rattle.std.specs.Prelude.{slice_index_or}
use Rattle.std.proofs.Common.{◌≡◌, ℕ, zero, suc, ◌<◌, ◌≤◌, ◌⊎◌, inl, inr, ⊎_elim, Bool, true, false, if◌then◌else◌, List, [], ◌∷◌, length, fold, Contains, Option, Some, None, refl, sym, ap, ◌∙◌, subst, arith}
use Rattle.std.proofs.lemmas.Bool.Decides.{nat_tests}
use Rattle.script_tree.specs.declared.fault.Rule.{Rule}
use Rattle.script_tree.specs.Faults.{rule_number}
use Rattle.app_check.specs.Seeing.{is_less, lesser}

-- ---- the order

abbrev pub IsBelow : ℕ × Rule → ℕ × Rule → Type 0
IsBelow f g = (f.0 < g.0) ⊎ ((f.0 ≡ g.0) × (rule_number f.1 ≤ rule_number g.1))

below_same : (f : ℕ × Rule) → IsBelow f f
below_same f = inr (refl, omega arith)

below_on : (f g h : ℕ × Rule) → IsBelow f g → IsBelow g h → IsBelow f h
below_on f g h (inl a) (inl b) = inl (omega (arith, a, b))
below_on f g h (inl a) (inr b) = inl (omega (arith, a, b.0))
below_on f g h (inr a) (inl b) = inl (omega (arith, a.0, b))
below_on f g h (inr a) (inr b) = inr (omega (arith, a.0, b.0), omega (arith, a.1, b.1))

less_below : (f g : ℕ × Rule) → is_less f g ≡ true → IsBelow f g
less_below f g e = grind (arith, nat_tests)

not_less_below : (f g : ℕ × Rule) → is_less f g ≡ false → IsBelow g f
not_less_below f g e = grind (arith, nat_tests)

-- ---- elements

contains_here : (f : ℕ × Rule) (fs : List (ℕ × Rule)) → Contains (f ∷ fs) f
contains_here f fs = (0, omega arith, refl)

contains_more : (g f : ℕ × Rule) (fs : List (ℕ × Rule)) → Contains fs f → Contains (g ∷ fs) f
contains_more g f fs h = (suc h.0, omega (arith, h.1), h.2)

contains_none-by : (f : ℕ × Rule) (k : ℕ) → k < length {A = ℕ × Rule} [] → ⊥
contains_none-by f k h = omega (arith, h)

contains_cases-by : (g f : ℕ × Rule) (fs : List (ℕ × Rule)) (k : ℕ) → k < length (g ∷ fs) → slice_index_or (g ∷ fs) k f ≡ f → (g ≡ f) ⊎ Contains fs f
contains_cases-by g f fs zero short e = inl e
contains_cases-by g f fs (suc k) short e = inr (k, omega (arith, short), e)

contains_cases : (g f : ℕ × Rule) (fs : List (ℕ × Rule)) → Contains (g ∷ fs) f → (g ≡ f) ⊎ Contains fs f
contains_cases g f fs h = contains_cases-by g f fs h.0 h.1 h.2

-- ---- the least

abbrev pub IsLeast : List (ℕ × Rule) → ℕ × Rule → Type 0
IsLeast fs f = Contains fs f × ((other : Rule) (at : ℕ) → Contains fs (at, other) → IsBelow f (at, other))

abbrev pub LeastOf : List (ℕ × Rule) → Option (ℕ × Rule) → Type 0
LeastOf fs None = fs ≡ []
LeastOf fs (Some f) = IsLeast fs f

-- the least of g and these
record Leads (g : ℕ × Rule) (fs : List (ℕ × Rule)) : Type 0 where
  pub fault : ℕ × Rule
  pub is : fold lesser (Some g) fs ≡ Some fault
  pub inside : Contains (g ∷ fs) fault
  pub below : (other : ℕ × Rule) → Contains (g ∷ fs) other → IsBelow fault other

leads_end : (g : ℕ × Rule) → Leads g []
leads_end g = record {
  fault = g;
  is = refl;
  inside = contains_here g [];
  below = λ other h. ⊎_elim (λ e. subst (IsBelow g) e (below_same g)) (λ k. absurd (contains_none-by other k.0 k.1)) (contains_cases g other [] h);
}

skip_one : (g f x : ℕ × Rule) (fs : List (ℕ × Rule)) → Contains (g ∷ fs) x → Contains (g ∷ f ∷ fs) x
skip_one g f x fs h = ⊎_elim (λ e. subst (Contains (g ∷ f ∷ fs)) e (contains_here g (f ∷ fs))) (λ k. contains_more g x (f ∷ fs) (contains_more f x fs k)) (contains_cases g x fs h)

leads_less : (g f : ℕ × Rule) (fs : List (ℕ × Rule)) → is_less f g ≡ true → Leads f fs → Leads g (f ∷ fs)
leads_less g f fs e h = record {
  fault = h.fault;
  is = ap (λ b. fold lesser (if b then Some f else Some g) fs) e ∙ h.is;
  inside = contains_more g h.fault (f ∷ fs) h.inside;
  below = λ other k. ⊎_elim
      (λ same. subst (IsBelow h.fault) same (below_on h.fault f g (h.below f (contains_here f fs)) (less_below f g e)))
      (λ more. h.below other more)
      (contains_cases g other (f ∷ fs) k);
}

leads_not : (g f : ℕ × Rule) (fs : List (ℕ × Rule)) → is_less f g ≡ false → Leads g fs → Leads g (f ∷ fs)
leads_not g f fs e h = record {
  fault = h.fault;
  is = ap (λ b. fold lesser (if b then Some f else Some g) fs) e ∙ h.is;
  inside = skip_one g f h.fault fs h.inside;
  below = λ other k. ⊎_elim
      (λ same. subst (IsBelow h.fault) same (h.below g (contains_here g fs)))
      (λ more. ⊎_elim
      (λ same. subst (IsBelow h.fault) same (below_on h.fault g f (h.below g (contains_here g fs)) (not_less_below f g e)))
      (λ rest. h.below other (contains_more g other fs rest))
      (contains_cases f other fs more))
      (contains_cases g other (f ∷ fs) k);
}

leads_by : (g f : ℕ × Rule) (fs : List (ℕ × Rule)) (b : Bool) → is_less f g ≡ b → ((x : ℕ × Rule) → Leads x fs) → Leads g (f ∷ fs)
leads_by g f fs true e h = leads_less g f fs e (h f)
leads_by g f fs false e h = leads_not g f fs e (h g)

leads : (g : ℕ × Rule) (fs : List (ℕ × Rule)) → Leads g fs
leads g [] = leads_end g
leads g (f ∷ fs) = leads_by g f fs (is_less f g) refl (λ x. leads x fs)

pub least_of_all : (fs : List (ℕ × Rule)) → LeastOf fs (fold lesser None fs)
least_of_all [] = refl
least_of_all (f ∷ fs) =
    let h : Leads f fs = leads f fs in
    subst (LeastOf (f ∷ fs)) (sym h.is) (h.inside, λ other at k. h.below (at, other) k)
