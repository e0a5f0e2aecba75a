use Rattle.std.proofs.Common.{◌≡◌, [], drop, flat_map, map}
use Rattle.script_tree.specs.Marks as marks
use Rattle.script_tree.specs.Folds.{fold_statement}
use Rattle.app_check.specs.Seeing.{seen}
use Rattle.app_check.proofs.statement.+statement.Given as goal

abbrev pub invariant-see_statements-loop-statement : goal.invariant-see_statements-loop-statement
invariant-see_statements-loop-statement l = seen l.checker (flat_map (λ s. s []) (map (fold_statement marks.block_marks) (drop l.statement-index l.statements))) ≡ seen l.fn.checker (flat_map (λ s. s []) (map (fold_statement marks.block_marks) l.fn.statements))
