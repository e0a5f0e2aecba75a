-- The marks that are seen, one after another.
use Rattle.std.proofs.Common.{◌≡◌, [], ◌∷◌, ◌++◌, refl}
use Rattle.std.proofs.lemmas.List.Sums.{fold-append}
use Rattle.script_tree.specs.Marks.{Mark, Marks}
use Rattle.app_check.specs.Seeing.{Seen, see, seen}

pub seen_none : (z : Seen) → seen z [] ≡ z
unfolding seen
seen_none z = refl

pub seen_one : (z : Seen) (m : Mark) (ms : Marks) → seen z (m ∷ ms) ≡ seen (see z m) ms
unfolding seen
seen_one z m ms = refl

pub seen_more : (z : Seen) (ms ns : Marks) → seen z (ms ++ ns) ≡ seen (seen z ms) ns
unfolding seen
seen_more z ms ns = fold-append see z ms ns

pub ruleset seen_rules = (seen_more, seen_one, seen_none)
