use Rattle.std.proofs.Common.{◌≡◌, drop}
use Rattle.script_tree.specs.Marks.{apps_from}
use Rattle.app_check.specs.Seeing.{seen}
use Rattle.app_check.proofs.definition.see_apps.Given as goal

abbrev pub invariant-loop-number : goal.invariant-loop-number
invariant-loop-number l = seen l.checker (apps_from l.number (drop l.number l.apps)) ≡ seen l.fn.checker (apps_from 0 l.fn.apps)
