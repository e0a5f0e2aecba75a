-- What the values of the code stand for.
use Rattle.std.specs.Prelude.{List, [], ◌∷◌, Option, Some, None}
use Rattle.std.specs.Borrow.{Bor}
use Rattle.script_tree.specs.Marks.{Name}

abbrev pub names_of : Option (Bor Name) → List Name
names_of None = []
names_of (Some name) = name.now ∷ []
