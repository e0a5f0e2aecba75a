-- Monitors are told one after the other.
use Rattle.std.proofs.Common.{◌≡◌, ℕ, zero, suc, ◌+◌, ◌<◌, ◌≤◌, List, [], ◌∷◌, ◌++◌, length, map, get_or, set, refl, ap, subst, ◌∙◌, arith}
use Rattle.std.specs.Prelude.{Result, Ok, Err, OnErr}
use Rattle.std.proofs.Math.Seq.{map-set_same}
use Rattle.std.proofs.lemmas.List.{length-map}
use Rattle.flow_meaning.specs.Inputs.{Path}
use Rattle.dependency_graph.specs.Callbacks.{Callbacks}
use Rattle.dependency_graph.specs.Graphs.{Graph, ToldSome}
use Rattle.dependency_graph.specs.declared.monitor.Settlement.{Settlement}
use Rattle.dependency_graph.specs.Monitors.{ToldFirst, tell, tell_first}

pub told-all : (s : Settlement) (n : ℕ) (told : List (List Settlement)) → length told ≤ n → tell_first n s told ≡ tell s told
told-all s zero [] all = refl
told-all s zero (seen ∷ told) all = absurd (omega arith)
told-all s (suc n) [] all = refl
told-all s (suc n) (seen ∷ told) all = ap (λ (rest : List (List Settlement)). (seen ++ s ∷ []) ∷ rest) (told-all s n told (omega arith))

-- what holds anyway holds of an error
pub on-err : {T E P : Type 0} → (r : Result T E) → P → OnErr r P
on-err (Ok x) p = tt
on-err (Err e) p = p

-- ---- all were told, and then the table found no memory

told_whole : (s : Settlement) (paths : List Path) (table after : Callbacks) (told new : List (List Settlement)) → new ≡ tell s told → after ≡ table
    → ToldSome s (record { paths = paths; callbacks = table; told = told }) (record { paths = paths; callbacks = after; told = new })
told_whole s paths table after told new tells same = record { count = length told; is = rw (tells, same, told-all s (length told) told (omega arith)) refl }

pub told-whole : {T E : Type 0} (s : Settlement) (old : Graph) (paths : List Path) (table after : Callbacks) (told new : List (List Settlement)) → record { paths = paths; callbacks = table; told = told } ≡ old
    → new ≡ tell s told → (r : Result T E) → OnErr r (after ≡ table) → OnErr r (ToldSome s old (record { paths = paths; callbacks = after; told = new }))
told-whole s old paths table after told new view tells (Ok x) same = tt
told-whole s old paths table after told new view tells (Err e) same = subst (λ (g : Graph). ToldSome s g (record { paths = paths; callbacks = after; told = new })) view (told_whole s paths table after told new tells same)

-- ---- one after the other

module _ {K : Type 0} (told : K → List Settlement) where
  next_told : (s : Settlement) (monitors : List K) (i : ℕ) (old new : K) (before : List (List Settlement)) → i < length monitors → old ≡ get_or monitors i old → told new ≡ told old ++ s ∷ []
      → map told monitors ≡ tell_first i s before → map told (set monitors i new) ≡ tell_first (suc i) s before
  next_told s [] i old new before short is tells so_far = absurd (omega arith)
  next_told s (m ∷ ms) zero old new [] short is tells so_far = absurd (cc so_far)
  next_told s (m ∷ ms) zero old new (b ∷ bs) short is tells so_far =
      let first : told m ≡ b = cc so_far in
      let rest : map told ms ≡ bs = cc so_far in
      rw (tells, is, first, rest) refl
  next_told s (m ∷ ms) (suc i) old new [] short is tells so_far = absurd (cc so_far)
  next_told s (m ∷ ms) (suc i) old new (b ∷ bs) short is tells so_far =
      let first : told m ≡ b ++ s ∷ [] = cc so_far in
      let rest : map told ms ≡ tell_first i s bs = cc so_far in
      rw (first, next_told s ms i old new bs (omega arith) is tells rest) refl

  pub told-next : (s : Settlement) (monitors : List K) (i : ℕ) (old new : K) (before : List (List Settlement)) → i < length monitors → old ≡ get_or monitors i old → told new ≡ told old ++ s ∷ []
      → map told monitors ≡ tell_first i s before → map told (set monitors i new) ≡ tell_first (i + 1) s before
  told-next s monitors i old new before short is tells so_far =
      let next : i + 1 ≡ suc i = omega arith in
      rw next (next_told s monitors i old new before short is tells so_far)

  pub told-kept : (monitors : List K) (i : ℕ) (old new : K) → old ≡ get_or monitors i old → told new ≡ told old → map told (set monitors i new) ≡ map told monitors
  told-kept monitors i old new is same = map-set_same told monitors i new old (same ∙ ap told is)

  pub told-some : (s : Settlement) (monitors : List K) (i : ℕ) (old new : K) (before : List (List Settlement)) → old ≡ get_or monitors i old → told new ≡ told old → map told monitors ≡ tell_first i s before
      → ToldFirst s before (map told (set monitors i new))
  told-some s monitors i old new before is same so_far = record { count = i; is = told-kept monitors i old new is same ∙ so_far }

  pub told-each : (s : Settlement) (monitors initial : List K) (i : ℕ) → length monitors ≡ length initial → length monitors ≤ i → map told monitors ≡ tell_first i s (map told initial) → map told monitors ≡ tell s (map told initial)
  told-each s monitors initial i same all so_far =
      let count = length-map initial told in
      so_far ∙ told-all s i (map told initial) (omega (arith, count))
