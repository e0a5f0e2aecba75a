use Rattle.std.proofs.Common.{◌≡◌, ◌++◌, drop, flat_map, map, codes}
use Rattle.script_tree.specs.Canonical as canonical
use Rattle.script_tree.specs.Folds.{fold_added, fold_comp, fold_conj, fold_factor, fold_post, fold_sum, fold_term}
use Rattle.script_print.proofs.expression.+expression.Given as goal

abbrev pub invariant-write_expr-loop-other : goal.invariant-write_expr-loop-other
invariant-write_expr-loop-other l = l.writer ++ flat_map (λ f. codes " or " ++ f) (map (fold_conj canonical.expr_text) (drop l.other-index l.other-items)) ≡ l.fn.writer ++ canonical.expr l.fn.e

abbrev pub invariant-write_conj-loop-other : goal.invariant-write_conj-loop-other
invariant-write_conj-loop-other l = l.writer ++ flat_map (λ f. codes " and " ++ f) (map (fold_comp canonical.expr_text) (drop l.other-index l.other-items)) ≡ l.fn.writer ++ fold_conj canonical.expr_text l.fn.e

abbrev pub invariant-write_sum-loop-other : goal.invariant-write_sum-loop-other
invariant-write_sum-loop-other l = l.writer ++ flat_map (λ f. canonical.sum_text f.0 ++ f.1) (map (fold_added canonical.expr_text) (drop l.other-index l.other-items)) ≡ l.fn.writer ++ fold_sum canonical.expr_text l.fn.e

abbrev pub invariant-write_term-loop-other : goal.invariant-write_term-loop-other
invariant-write_term-loop-other l = l.writer ++ flat_map (λ f. canonical.term_text f.0 ++ f.1) (map (fold_factor canonical.expr_text) (drop l.other-index l.other-items)) ≡ l.fn.writer ++ fold_term canonical.expr_text l.fn.e

abbrev pub invariant-write_post-loop-index : goal.invariant-write_post-loop-index
invariant-write_post-loop-index l = l.writer ++ flat_map (λ f. codes "[" ++ (f ++ codes "]")) (map canonical.expr (drop l.index-index l.index-items)) ≡ l.fn.writer ++ fold_post canonical.expr_text l.fn.e

abbrev pub invariant-write_listed-loop-item : goal.invariant-write_listed-loop-item
invariant-write_listed-loop-item l = l.writer ++ flat_map (λ f. codes ", " ++ f) (map canonical.expr (drop l.item-index l.rest)) ≡ l.fn.writer ++ canonical.listed (map canonical.expr l.fn.items)
