use Rattle.std.proofs.Common.{◌≡◌, map, take}
use Rattle.std.specs.Arc.{arc_value}
use Rattle.script_tree.specs.Canonical as canonical
use Rattle.app_texts.proofs.texts.AppTexts.of.Given as goal

abbrev pub invariant-loop-app : goal.invariant-loop-app
invariant-loop-app l = map arc_value l.texts.items ≡ map canonical.app (take l.app-index l.script.tree.0)
