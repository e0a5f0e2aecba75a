-- Tasks in the order of their paths: number by number, a path before those that it begins.
use Rattle.std.specs.Prelude.{◌≡◌, Bool, true, false, ◌||◌, ◌&&◌, if◌then◌else◌, [], ◌∷◌, nat_lt, nat_eq}
use Rattle.flow_meaning.specs.Inputs.{Path}
use Rattle.flow_meaning.specs.Sequential.{Task, Tasks}
use Rattle.body_requests.specs.Asks.{Each}

abbrev pub path_less : Path → Path → Bool
path_less xs [] = false
path_less [] (y ∷ ys) = true
path_less (x ∷ xs) (y ∷ ys) = nat_lt x y || (nat_eq x y && path_less xs ys)

-- a task in its place
abbrev pub placed : Task → Tasks → Tasks
placed t [] = t ∷ []
placed t (s ∷ ts) = if path_less t.path s.path then t ∷ s ∷ ts else s ∷ placed t ts

abbrev pub in_order : Tasks → Tasks
in_order [] = []
in_order (t ∷ ts) = placed t (in_order ts)

-- each path is before the next ones
abbrev pub Ascending : Tasks → Type 0
Ascending [] = Unit {0}
Ascending (t ∷ ts) = Each (λ (s : Task). path_less t.path s.path ≡ true) ts × Ascending ts
