use Rattle.std.proofs.Common.{◌≡◌, ◌++◌, drop}
use Rattle.app_eval.specs.Joins.{behind}
use Rattle.app_eval.proofs.texts.joined_to.Given as goal

abbrev pub invariant-loop-other : goal.invariant-loop-other
invariant-loop-other l = l.text ++ behind l.by (drop l.other-index l.others) ≡ l.first ++ behind l.by l.others
