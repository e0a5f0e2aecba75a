-- What monitors are told.
use Rattle.std.specs.Prelude.{◌≡◌, ℕ, zero, suc, List, [], ◌∷◌, ◌++◌, map}
use Rattle.dependency_graph.specs.declared.monitor.Settlement.{Settlement}

-- each is told of one more settlement
abbrev pub tell : Settlement → List (List Settlement) → List (List Settlement)
tell s told = map (λ (seen : List Settlement). seen ++ s ∷ []) told

-- the first so many are
abbrev pub tell_first : ℕ → Settlement → List (List Settlement) → List (List Settlement)
tell_first zero s told = told
tell_first (suc n) s [] = []
tell_first (suc n) s (seen ∷ told) = (seen ++ s ∷ []) ∷ tell_first n s told

-- the first of them were told of this
pub record ToldFirst (s : Settlement) (before after : List (List Settlement)) : Type 0 where
  pub count : ℕ
  pub is : after ≡ tell_first count s before
