use Rattle.std.proofs.Common.{◌≡◌, map, drop}
use Rattle.script_tree.specs.BuiltIns.{lookup}
use Rattle.app_script.proofs.piece.word_in.Given as goal

abbrev pub invariant-loop-spelling : goal.invariant-loop-spelling
invariant-loop-spelling l =
    lookup (map (λ e. (e.0.now, e.1)) (drop l.spelling-index l.table)) l.run ≡ lookup (map (λ e. (e.0.now, e.1)) l.table) l.run
