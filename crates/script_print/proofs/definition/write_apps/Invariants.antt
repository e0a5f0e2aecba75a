use Rattle.std.proofs.Common.{◌≡◌, ◌++◌, ◌∷◌, [], take, flat_map}
use Rattle.script_tree.specs.Canonical as canonical
use Rattle.script_print.proofs.definition.write_apps.Given as goal

abbrev pub invariant-loop-app : goal.invariant-loop-app
invariant-loop-app l = l.writer ≡ l.fn.writer ++ flat_map (λ app. canonical.app app ++ 10 ∷ []) (take l.app-index l.apps)
