use Rattle.std.proofs.Common.{◌≡◌, ◌++◌, drop, flat_map, map}
use Rattle.script_tree.specs.Canonical as canonical
use Rattle.script_tree.specs.Folds.{fold_statement}
use Rattle.script_print.proofs.statement.+statement.Given as goal

abbrev pub invariant-write_statements-loop-statement : goal.invariant-write_statements-loop-statement
invariant-write_statements-loop-statement l = l.writer ++ flat_map (λ lines. lines l.indent) (map (fold_statement canonical.block_lines) (drop l.statement-index l.statements)) ≡ l.fn.writer ++ flat_map (λ lines. lines l.indent) (map (fold_statement canonical.block_lines) l.statements)
