use Rattle.std.proofs.Common.{◌≡◌, ◌∷◌, drop, flat_map, map}
use Rattle.script_tree.specs.Marks as marks
use Rattle.script_tree.specs.Marks.{Other}
use Rattle.script_tree.specs.Folds.{fold_added, fold_comp, fold_conj, fold_factor, fold_post, fold_sum, fold_term}
use Rattle.app_check.specs.Seeing.{seen}
use Rattle.app_check.proofs.expression.+expression.Given as goal

abbrev pub invariant-see_expr-loop-other : goal.invariant-see_expr-loop-other
invariant-see_expr-loop-other l = seen l.checker (flat_map (λ f. Other ∷ f) (map (fold_conj marks.expr_marks) (drop l.other-index l.other-items))) ≡ seen l.fn.checker (marks.expr l.fn.e)

abbrev pub invariant-see_conj-loop-other : goal.invariant-see_conj-loop-other
invariant-see_conj-loop-other l = seen l.checker (flat_map (λ f. Other ∷ f) (map (fold_comp marks.expr_marks) (drop l.other-index l.other-items))) ≡ seen l.fn.checker (fold_conj marks.expr_marks l.fn.e)

abbrev pub invariant-see_sum-loop-other : goal.invariant-see_sum-loop-other
invariant-see_sum-loop-other l = seen l.checker (flat_map (λ f. Other ∷ f.1) (map (fold_added marks.expr_marks) (drop l.other-index l.other-items))) ≡ seen l.fn.checker (fold_sum marks.expr_marks l.fn.e)

abbrev pub invariant-see_term-loop-other : goal.invariant-see_term-loop-other
invariant-see_term-loop-other l = seen l.checker (flat_map (λ f. Other ∷ f.1) (map (fold_factor marks.expr_marks) (drop l.other-index l.other-items))) ≡ seen l.fn.checker (fold_term marks.expr_marks l.fn.e)

abbrev pub invariant-see_post-loop-index : goal.invariant-see_post-loop-index
invariant-see_post-loop-index l = seen l.checker (flat_map marks.in_parens (map marks.expr (drop l.index-index l.index-items))) ≡ seen l.fn.checker (fold_post marks.expr_marks l.fn.e)

abbrev pub invariant-see_listed-loop-item : goal.invariant-see_listed-loop-item
invariant-see_listed-loop-item l = seen l.checker (flat_map (λ f. Other ∷ f) (map marks.expr (drop l.item-index l.rest))) ≡ seen l.fn.checker (marks.listed (map marks.expr l.fn.items))
