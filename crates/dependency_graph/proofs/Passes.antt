-- A pass that lowers the counts of distinct callbacks.
use Rattle.std.proofs.Common.{◌≡◌, ℕ, zero, suc, ◌-◌, ◌<◌, Bool, true, false, ◌||◌, nat_eq, List, [], ◌∷◌, ◌++◌, length, refl, sym, ◌∙◌, ap, subst, arith, eq-eqb, eqb-true, true≢false, cond}
use Rattle.std.specs.List.{filter}
use Rattle.std.proofs.lemmas.List.{length-set, get_or-set_same, get_or-set_other}
use Rattle.dependency_graph.specs.Callbacks.{has_number, AreDistinctNumbers, if_settled}
use Rattle.dependency_graph.specs.Counts.{count_at, lowered_at, lowered, freed, AllWait}
use Rattle.dependency_graph.proofs.Numbers.{apart}

counted-within : (counts : List ℕ) (c k : ℕ) → count_at counts c ≡ suc k → c < length counts
counted-within [] c k h = absurd (omega (arith, h))
counted-within (n ∷ counts) zero k h = omega arith
counted-within (n ∷ counts) (suc c) k h = let below = counted-within counts c k h in omega (arith, below)

-- these callbacks have one more than they are to have, and the others what they are to have
pub record Midway (after : ℕ → ℕ) (cs counts : List ℕ) : Type 0 where
  pub waits : (c : ℕ) → has_number c cs ≡ true → count_at counts c ≡ suc (after c)
  pub rest : (c : ℕ) → has_number c cs ≡ false → count_at counts c ≡ after c

module _ (after : ℕ → ℕ) where
  first-waits : (c : ℕ) (cs counts : List ℕ) → Midway after (c ∷ cs) counts → count_at counts c ≡ suc (after c)
  first-waits c cs counts mid = mid.waits c (ap (λ (b : Bool). b || has_number c cs) (eq-eqb c c refl))

  one-less : (c : ℕ) (cs counts : List ℕ) → Midway after (c ∷ cs) counts → count_at counts c - 1 ≡ after c
  one-less c cs counts mid = let h = first-waits c cs counts mid in omega (arith, h)

  midway-next : (c : ℕ) (cs counts : List ℕ) → has_number c cs ≡ false → Midway after (c ∷ cs) counts → Midway after cs (lowered_at counts c)
  midway-next c cs counts new mid =
      let below = counted-within counts c (after c) (first-waits c cs counts mid) in
      let here : count_at (lowered_at counts c) c ≡ after c = get_or-set_same counts c (count_at counts c - 1) 0 below ∙ one-less c cs counts mid in
      let there : (d : ℕ) → (d ≡ c → ⊥) → count_at (lowered_at counts c) d ≡ count_at counts d = λ d ne. get_or-set_other counts c d (count_at counts c - 1) 0 ne in
      record {
        waits = λ d h. there d (λ e. true≢false (sym h ∙ ap (λ (x : ℕ). has_number x cs) e ∙ new)) ∙ mid.waits d (or-second (nat_eq d c) (has_number d cs) h);
        rest = λ d h. by-place d (nat_eq d c) refl h here there;
      }
    where
      or-second : (a b : Bool) → b ≡ true → (a || b) ≡ true
      or-second true b h = refl
      or-second false b h = h

      by-place : (d : ℕ) (b : Bool) → nat_eq d c ≡ b → has_number d cs ≡ false → count_at (lowered_at counts c) c ≡ after c → ((e : ℕ) → (e ≡ c → ⊥) → count_at (lowered_at counts c) e ≡ count_at counts e) → count_at (lowered_at counts c) d ≡ after d
      by-place d true same h here there = subst (λ (x : ℕ). count_at (lowered_at counts c) x ≡ after x) (sym (eqb-true d c same)) here
      by-place d false other h here there = there d (λ e. true≢false (sym (eq-eqb d c e) ∙ other)) ∙ mid.rest d (rw other h)

  -- behind the pass each has what it is to have
  pub lowered-counts : (cs counts : List ℕ) → AreDistinctNumbers cs → Midway after cs counts → (c : ℕ) → count_at (lowered cs counts) c ≡ after c
  lowered-counts [] counts apart mid c = mid.rest c refl
  lowered-counts (d ∷ cs) counts apart mid c = lowered-counts cs (lowered_at counts d) apart.1 (midway-next d cs counts apart.0 mid) c

  pub lowered-length : (cs counts : List ℕ) → length (lowered cs counts) ≡ length counts
  lowered-length [] counts = refl
  lowered-length (d ∷ cs) counts = lowered-length cs (lowered_at counts d) ∙ length-set counts d (count_at counts d - 1)

  pub all-wait : (cs counts : List ℕ) → AreDistinctNumbers cs → Midway after cs counts → AllWait cs counts
  all-wait [] counts apart mid = tt
  all-wait (d ∷ cs) counts apart mid = let h = first-waits d cs counts mid in (omega (arith, h), all-wait cs (lowered_at counts d) apart.1 (midway-next d cs counts apart.0 mid))

  kept-if : (b : Bool) (c : ℕ) (cs : List ℕ) → if_settled b c ++ cs ≡ cond b (c ∷ cs) cs
  kept-if true c cs = refl
  kept-if false c cs = refl

  -- those that come to wait for none
  pub freed-are : (cs counts : List ℕ) → AreDistinctNumbers cs → Midway after cs counts → freed cs counts ≡ filter (λ c. nat_eq (after c) 0) cs
  freed-are [] counts apart mid = refl
  freed-are (d ∷ cs) counts apart mid =
      ap (λ (k : ℕ). if_settled (nat_eq k 0) d ++ freed cs (lowered_at counts d)) (one-less d cs counts mid)
      ∙ ap (λ (l : List ℕ). if_settled (nat_eq (after d) 0) d ++ l) (freed-are cs (lowered_at counts d) apart.1 (midway-next d cs counts apart.0 mid))
      ∙ kept-if (nat_eq (after d) 0) d (filter (λ c. nat_eq (after c) 0) cs)
