-- Texts as a script spells them, paths, and what stands between separators.
use Rattle.std.specs.Prelude.{ℕ, List, [], ◌∷◌, ◌++◌, map, flat_map, if◌then◌else◌, ◌==◌}
use Rattle.std.specs.Fmt.{decimal}

-- each behind a separator
abbrev pub behind : List ℕ → List (List ℕ) → List ℕ
behind separator items = flat_map (λ item. separator ++ item) items

-- the first, and each further one behind a separator
abbrev pub joined : List ℕ → List (List ℕ) → List ℕ
joined separator [] = []
joined separator (first ∷ rest) = first ++ behind separator rest

-- a byte of a text, as a script spells it
abbrev pub escaped : ℕ → List ℕ
escaped b = if b == 10 then 92 ∷ 110 ∷ [] else if b == 34 then 92 ∷ 34 ∷ [] else if b == 92 then 92 ∷ 92 ∷ [] else b ∷ []

abbrev pub quoted : List ℕ → List ℕ
quoted text = 34 ∷ flat_map escaped text ++ 34 ∷ []

abbrev pub path_text : List ℕ → List ℕ
path_text path = joined (46 ∷ []) (map decimal path)
