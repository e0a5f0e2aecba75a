use Rattle.std.proofs.Common.{◌≡◌, map, drop}
use Rattle.script_tree.specs.Lexing.{symbol_piece}
use Rattle.app_script.proofs.piece.symbol_in.Given as goal

abbrev pub invariant-loop-spelling : goal.invariant-loop-spelling
invariant-loop-spelling l =
    symbol_piece (map (λ e. (e.0.now, e.1)) (drop l.spelling-index l.table)) l.text ≡ symbol_piece (map (λ e. (e.0.now, e.1)) l.table) l.text
