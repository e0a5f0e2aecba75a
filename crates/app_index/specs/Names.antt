-- Names, each once, in the order in which they came.
use Rattle.std.specs.Prelude.{◌≡◌, Bool, false, List, [], ◌∷◌, ◌++◌, if◌then◌else◌, bytes_eq}
use Rattle.std.specs.List.{list_any}
use Rattle.script_tree.specs.Marks.{Name}

abbrev pub is_among : List Name → Name → Bool
is_among names name = list_any (bytes_eq name) names

-- behind the others, where it isn't there
abbrev pub with_name : List Name → Name → List Name
with_name names name = if is_among names name then names else names ++ name ∷ []

-- no name stands twice
abbrev pub IsDistinct : List Name → Type 0
IsDistinct [] = Unit {0}
IsDistinct (name ∷ names) = (is_among names name ≡ false) × IsDistinct names
