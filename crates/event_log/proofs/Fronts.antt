-- Fronts that are given.
use Rattle.std.proofs.Common.{◌≡◌, ℕ, eqb, ◌&&◌, Bool, true, false, List, [], ◌∷◌, length, take, drop, Some, None, refl}
use Rattle.std.specs.Prelude.{if◌then◌else◌}
use Rattle.std.specs.Cmp.Lexicographic.{pointwise}
use Rattle.event_log.specs.Reading.{behind}

pub behind_some : (bs cs : List ℕ) → pointwise eqb (take (length bs) cs) bs ≡ true → behind bs cs ≡ Some (drop (length bs) cs)
behind_some [] cs e = refl
behind_some (b ∷ bs) [] e = absurd (cc)
behind_some (b ∷ bs) (c ∷ cs) e = by_first (eqb c b) (behind_some bs cs) e
  where
    by_first : (t : Bool) → (pointwise eqb (take (length bs) cs) bs ≡ true → behind bs cs ≡ Some (drop (length bs) cs)) → (t && pointwise eqb (take (length bs) cs) bs) ≡ true → (if t then behind bs cs else None) ≡ Some (drop (length bs) cs)
    by_first true more h = more h
    by_first false more h = absurd (cc)

pub behind_none : (bs cs : List ℕ) → pointwise eqb (take (length bs) cs) bs ≡ false → behind bs cs ≡ None
behind_none [] cs e = absurd (cc)
behind_none (b ∷ bs) [] e = refl
behind_none (b ∷ bs) (c ∷ cs) e = by_first (eqb c b) (behind_none bs cs) e
  where
    by_first : (t : Bool) → (pointwise eqb (take (length bs) cs) bs ≡ false → behind bs cs ≡ None) → (t && pointwise eqb (take (length bs) cs) bs) ≡ false → (if t then behind bs cs else None) ≡ None
    by_first true more h = more h
    by_first false more h = refl
