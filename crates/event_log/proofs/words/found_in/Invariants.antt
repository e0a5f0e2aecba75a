use Rattle.std.proofs.Common.{◌≡◌, map, drop}
use Rattle.script_tree.specs.BuiltIns.{lookup}
use Rattle.event_log.proofs.words.found_in.Given as goal

abbrev pub invariant-loop-key : goal.invariant-loop-key
invariant-loop-key g l =
    lookup (map (λ e. (e.0.now, e.1)) (drop l.key-index l.table)) l.word ≡ lookup (map (λ e. (e.0.now, e.1)) l.table) l.word
