use Rattle.std.proofs.Common.{rules, arith, sym, ap, subst, map, ◌∙◌, IfOk}
use Rattle.flow_base.specs.declared.value.Value.TheVariants as value
use Rattle.script_tree.specs.declared.tree.Added.{out-Added}
use Rattle.script_tree.specs.declared.tree.CallExpr.{out-CallExpr}
use Rattle.script_tree.specs.declared.tree.Comp.{out-Comp}
use Rattle.script_tree.specs.declared.tree.Compared.{out-Compared}
use Rattle.script_tree.specs.declared.tree.Conj.{out-Conj}
use Rattle.script_tree.specs.declared.tree.Expr.{out-Expr}
use Rattle.script_tree.specs.declared.tree.Factor.{out-Factor}
use Rattle.script_tree.specs.declared.tree.Post.{out-Post}
use Rattle.script_tree.specs.declared.tree.Sum.{out-Sum}
use Rattle.script_tree.specs.declared.tree.Term.{out-Term}
use Rattle.script_tree.specs.declared.tree.Unary.{out-Unary}
use Rattle.flow_meaning.specs.Walk.{names_in}
use Rattle.body_program.specs.Classes as calc
use Rattle.body_program.specs.Resolved.{AllMean, Applies, OperandsMean}
use Rattle.flow_meaning.specs.Act.{◌>>=◌}
use Rattle.flow_meaning.specs.Meaning as m
use Rattle.script_tree.specs.BuiltIns.{built_in_named}
use Rattle.script_tree.specs.declared.tree.SumOp.{SumOp}
use Rattle.script_tree.specs.declared.tree.TermOp.{TermOp}
use Rattle.body_program.proofs.Tables.{grows_further}
use Rattle.body_program.proofs.Means as means
use Rattle.body_program.proofs.Trees as tree
use Rattle.body_program.proofs.expression.Resolver.+expression.Goals as goal

pub conjs-loop-e-init : goal.conjs-loop-e-init
conjs-loop-e-init t c = means.parts_begin (calc.conj_calc (names_in c.args.self.now.apps.now)) c.args.names.now c.new-codes.result c.args.es.now c.new-codes.ensures

pub conjs-returns-in_err-conj-clause-grows : goal.conjs-returns-in_err-conj-clause-grows
conjs-returns-in_err-conj-clause-grows t c = grows_further c.args.names.now c.loop-e.names c.conj.new.names c.loop-e.invariant.0 c.conj.ensures.grows

pub conjs-returns-in_err-push-clause-grows : goal.conjs-returns-in_err-push-clause-grows
conjs-returns-in_err-push-clause-grows t c = grows_further c.args.names.now c.loop-e.names c.conj.new.names c.loop-e.invariant.0 c.conj.ensures.grows

pub conjs-loop-e-preserved : goal.conjs-loop-e-preserved
conjs-loop-e-preserved t c = means.parts_more (calc.conj_calc (names_in c.args.self.now.apps.now)) c.args.names.now c.loop-e.names c.conj.new.names c.loop-e.codes c.push.new.self c.in_ok-conj.field-0 c.args.es.now c.loop-e.e-index c.e-item.result c.loop-e.invariant c.conj.ensures.grows c.in_ok-conj.ensures.means c.in_ok-push.ensures.ok (omega arith) c.e-item.is

pub conjs-returns-clause-grows : goal.conjs-returns-clause-grows
conjs-returns-clause-grows t c = c.loop-e.invariant.0

pub conjs-returns-clause-mean : goal.conjs-returns-clause-mean
conjs-returns-clause-mean t c = means.parts_done (calc.conj_calc (names_in c.args.self.now.apps.now)) c.loop-e.names c.loop-e.codes c.args.es.now c.loop-e.e-index c.loop-e.invariant.1 (omega arith)

pub comps-loop-e-init : goal.comps-loop-e-init
comps-loop-e-init t c = means.parts_begin (calc.comp_calc (names_in c.args.self.now.apps.now)) c.args.names.now c.new-codes.result c.args.es.now c.new-codes.ensures

pub comps-returns-in_err-comp-clause-grows : goal.comps-returns-in_err-comp-clause-grows
comps-returns-in_err-comp-clause-grows t c = grows_further c.args.names.now c.loop-e.names c.comp.new.names c.loop-e.invariant.0 c.comp.ensures.grows

pub comps-returns-in_err-push-clause-grows : goal.comps-returns-in_err-push-clause-grows
comps-returns-in_err-push-clause-grows t c = grows_further c.args.names.now c.loop-e.names c.comp.new.names c.loop-e.invariant.0 c.comp.ensures.grows

pub comps-loop-e-preserved : goal.comps-loop-e-preserved
comps-loop-e-preserved t c = means.parts_more (calc.comp_calc (names_in c.args.self.now.apps.now)) c.args.names.now c.loop-e.names c.comp.new.names c.loop-e.codes c.push.new.self c.in_ok-comp.field-0 c.args.es.now c.loop-e.e-index c.e-item.result c.loop-e.invariant c.comp.ensures.grows c.in_ok-comp.ensures.means c.in_ok-push.ensures.ok (omega arith) c.e-item.is

pub comps-returns-clause-grows : goal.comps-returns-clause-grows
comps-returns-clause-grows t c = c.loop-e.invariant.0

pub comps-returns-clause-mean : goal.comps-returns-clause-mean
comps-returns-clause-mean t c = means.parts_done (calc.comp_calc (names_in c.args.self.now.apps.now)) c.loop-e.names c.loop-e.codes c.args.es.now c.loop-e.e-index c.loop-e.invariant.1 (omega arith)

pub exprs-loop-e-init : goal.exprs-loop-e-init
exprs-loop-e-init t c = means.parts_begin (calc.expr_calc (names_in c.args.self.now.apps.now)) c.args.names.now c.new-codes.result c.args.es.now c.new-codes.ensures

pub exprs-returns-in_err-expr-clause-grows : goal.exprs-returns-in_err-expr-clause-grows
exprs-returns-in_err-expr-clause-grows t c = grows_further c.args.names.now c.loop-e.names c.expr.new.names c.loop-e.invariant.0 c.expr.ensures.grows

pub exprs-returns-in_err-push-clause-grows : goal.exprs-returns-in_err-push-clause-grows
exprs-returns-in_err-push-clause-grows t c = grows_further c.args.names.now c.loop-e.names c.expr.new.names c.loop-e.invariant.0 c.expr.ensures.grows

pub exprs-loop-e-preserved : goal.exprs-loop-e-preserved
exprs-loop-e-preserved t c = means.parts_more (calc.expr_calc (names_in c.args.self.now.apps.now)) c.args.names.now c.loop-e.names c.expr.new.names c.loop-e.codes c.push.new.self c.in_ok-expr.field-0 c.args.es.now c.loop-e.e-index c.e-item.result c.loop-e.invariant c.expr.ensures.grows c.in_ok-expr.ensures.means c.in_ok-push.ensures.ok (omega arith) c.e-item.is

pub exprs-returns-clause-grows : goal.exprs-returns-clause-grows
exprs-returns-clause-grows t c = c.loop-e.invariant.0

pub exprs-returns-clause-mean : goal.exprs-returns-clause-mean
exprs-returns-clause-mean t c = means.parts_done (calc.expr_calc (names_in c.args.self.now.apps.now)) c.loop-e.names c.loop-e.codes c.args.es.now c.loop-e.e-index c.loop-e.invariant.1 (omega arith)

pub added-loop-e-init : goal.added-loop-e-init
added-loop-e-init t c = means.operands_begin (calc.added_calc (names_in c.args.self.now.apps.now)) c.args.names.now c.new-codes.result c.args.es.now c.new-codes.ensures

pub added-returns-in_err-term-clause-grows : goal.added-returns-in_err-term-clause-grows
added-returns-in_err-term-clause-grows t c = grows_further c.args.names.now c.loop-e.names c.term.new.names c.loop-e.invariant.0 c.term.ensures.grows

pub added-returns-in_err-push-clause-grows : goal.added-returns-in_err-push-clause-grows
added-returns-in_err-push-clause-grows t c = grows_further c.args.names.now c.loop-e.names c.term.new.names c.loop-e.invariant.0 c.term.ensures.grows

pub added-loop-e-preserved : goal.added-loop-e-preserved
added-loop-e-preserved t c = means.operands_more (calc.added_calc (names_in c.args.self.now.apps.now)) c.args.names.now c.loop-e.names c.term.new.names c.loop-e.codes c.push.new.self (out-Added c.e-item.result).op c.in_ok-term.field-0 (calc.term_calc (names_in c.args.self.now.apps.now) (out-Added c.e-item.result).term) c.args.es.now c.loop-e.e-index c.e-item.result (tree.added_is (names_in c.args.self.now.apps.now) c.e-item.result) c.loop-e.invariant c.term.ensures.grows c.in_ok-term.ensures.means c.in_ok-push.ensures.ok (omega arith) c.e-item.is

pub added-returns-clause-grows : goal.added-returns-clause-grows
added-returns-clause-grows t c = c.loop-e.invariant.0

pub added-returns-clause-mean : goal.added-returns-clause-mean
added-returns-clause-mean t c = means.operands_done (calc.added_calc (names_in c.args.self.now.apps.now)) c.loop-e.names c.loop-e.codes c.args.es.now c.loop-e.e-index c.loop-e.invariant.1 (omega arith)

pub factors-loop-e-init : goal.factors-loop-e-init
factors-loop-e-init t c = means.operands_begin (calc.factor_calc (names_in c.args.self.now.apps.now)) c.args.names.now c.new-codes.result c.args.es.now c.new-codes.ensures

pub factors-returns-in_err-unary-clause-grows : goal.factors-returns-in_err-unary-clause-grows
factors-returns-in_err-unary-clause-grows t c = grows_further c.args.names.now c.loop-e.names c.unary.new.names c.loop-e.invariant.0 c.unary.ensures.grows

pub factors-returns-in_err-push-clause-grows : goal.factors-returns-in_err-push-clause-grows
factors-returns-in_err-push-clause-grows t c = grows_further c.args.names.now c.loop-e.names c.unary.new.names c.loop-e.invariant.0 c.unary.ensures.grows

pub factors-loop-e-preserved : goal.factors-loop-e-preserved
factors-loop-e-preserved t c = means.operands_more (calc.factor_calc (names_in c.args.self.now.apps.now)) c.args.names.now c.loop-e.names c.unary.new.names c.loop-e.codes c.push.new.self (out-Factor c.e-item.result).op c.in_ok-unary.field-0 (calc.unary_calc (names_in c.args.self.now.apps.now) (out-Factor c.e-item.result).unary) c.args.es.now c.loop-e.e-index c.e-item.result (tree.factor_is (names_in c.args.self.now.apps.now) c.e-item.result) c.loop-e.invariant c.unary.ensures.grows c.in_ok-unary.ensures.means c.in_ok-push.ensures.ok (omega arith) c.e-item.is

pub factors-returns-clause-grows : goal.factors-returns-clause-grows
factors-returns-clause-grows t c = c.loop-e.invariant.0

pub factors-returns-clause-mean : goal.factors-returns-clause-mean
factors-returns-clause-mean t c = means.operands_done (calc.factor_calc (names_in c.args.self.now.apps.now)) c.loop-e.names c.loop-e.codes c.args.es.now c.loop-e.e-index c.loop-e.invariant.1 (omega arith)

pub expr-returns-then-is_empty-clause-means : goal.expr-returns-then-is_empty-clause-means
expr-returns-then-is_empty-clause-means t c = means.same_calc c.conj.new.names c.in_ok-first.first (calc.conj_calc (names_in c.args.self.now.apps.now) (out-Expr c.args.e.now).first) (calc.expr_calc (names_in c.args.self.now.apps.now) c.args.e.now) (tree.expr_alone (names_in c.args.self.now.apps.now) c.args.e.now (c.is_empty.ensures.0 c.if-is_empty.true)) c.in_ok-first.ensures.means

pub expr-returns-clause-means : goal.expr-returns-clause-means
expr-returns-clause-means t c = means.same_calc c.conjs.new.names _ _ (calc.expr_calc (names_in c.args.self.now.apps.now) c.args.e.now) (sym (tree.expr_is (names_in c.args.self.now.apps.now) c.args.e.now)) (means.any_means c.conj.new.names c.conjs.new.names c.conjs.ensures.grows c.in_ok-first.first c.in_ok-new.field-0 c.in_ok-new.ensures (calc.conj_calc (names_in c.args.self.now.apps.now) (out-Expr c.args.e.now).first) c.in_ok-first.ensures.means c.in_ok-others.others (map (calc.conj_calc (names_in c.args.self.now.apps.now)) (out-Expr c.args.e.now).others) (subst (λ l. AllMean c.conjs.new.names c.in_ok-others.others (map (calc.conj_calc (names_in c.args.self.now.apps.now)) l)) c.as_slice.ensures c.in_ok-others.ensures.mean) (λ none. let h = c.is_empty.ensures.1 (means.none_mapped (calc.conj_calc (names_in c.args.self.now.apps.now)) (out-Expr c.args.e.now).others none) in cc))

pub conj-returns-then-is_empty-clause-means : goal.conj-returns-then-is_empty-clause-means
conj-returns-then-is_empty-clause-means t c = means.same_calc c.comp.new.names c.in_ok-first.first (calc.comp_calc (names_in c.args.self.now.apps.now) (out-Conj c.args.e.now).first) (calc.conj_calc (names_in c.args.self.now.apps.now) c.args.e.now) (tree.conj_alone (names_in c.args.self.now.apps.now) c.args.e.now (c.is_empty.ensures.0 c.if-is_empty.true)) c.in_ok-first.ensures.means

pub conj-returns-clause-means : goal.conj-returns-clause-means
conj-returns-clause-means t c = means.same_calc c.comps.new.names _ _ (calc.conj_calc (names_in c.args.self.now.apps.now) c.args.e.now) (sym (tree.conj_is (names_in c.args.self.now.apps.now) c.args.e.now)) (means.all_means c.comp.new.names c.comps.new.names c.comps.ensures.grows c.in_ok-first.first c.in_ok-new.field-0 c.in_ok-new.ensures (calc.comp_calc (names_in c.args.self.now.apps.now) (out-Conj c.args.e.now).first) c.in_ok-first.ensures.means c.in_ok-others.others (map (calc.comp_calc (names_in c.args.self.now.apps.now)) (out-Conj c.args.e.now).others) (subst (λ l. AllMean c.comps.new.names c.in_ok-others.others (map (calc.comp_calc (names_in c.args.self.now.apps.now)) l)) c.as_slice.ensures c.in_ok-others.ensures.mean) (λ none. let h = c.is_empty.ensures.1 (means.none_mapped (calc.comp_calc (names_in c.args.self.now.apps.now)) (out-Conj c.args.e.now).others none) in cc))

pub sum-returns-then-is_empty-clause-means : goal.sum-returns-then-is_empty-clause-means
sum-returns-then-is_empty-clause-means t c = means.same_at c.term.new.names c.in_ok-first.first (calc.term_calc (names_in c.args.self.now.apps.now) (out-Sum c.args.e.now).first) (calc.sum_calc (names_in c.args.self.now.apps.now) c.args.e.now) (tree.sum_alone (names_in c.args.self.now.apps.now) c.args.e.now (c.is_empty.ensures.0 c.if-is_empty.true)) c.in_ok-first.ensures.means

pub sum-returns-clause-means : goal.sum-returns-clause-means
sum-returns-clause-means t c = means.same_calc c.added.new.names _ _ (calc.sum_calc (names_in c.args.self.now.apps.now) c.args.e.now) (sym (tree.sum_is (names_in c.args.self.now.apps.now) c.args.e.now)) (means.sum_means c.term.new.names c.added.new.names c.added.ensures.grows c.in_ok-first.first c.in_ok-new.field-0 c.in_ok-new.ensures (calc.term_calc (names_in c.args.self.now.apps.now) (out-Sum c.args.e.now).first) c.in_ok-first.ensures.means c.in_ok-others.others (map (calc.added_calc (names_in c.args.self.now.apps.now)) (out-Sum c.args.e.now).others) (subst (λ l. OperandsMean {Op = SumOp} c.added.new.names c.in_ok-others.others (map (calc.added_calc (names_in c.args.self.now.apps.now)) l)) c.as_slice.ensures c.in_ok-others.ensures.mean))

pub term-returns-then-is_empty-clause-means : goal.term-returns-then-is_empty-clause-means
term-returns-then-is_empty-clause-means t c = means.same_at c.unary.new.names c.in_ok-first.first (calc.unary_calc (names_in c.args.self.now.apps.now) (out-Term c.args.e.now).first) (calc.term_calc (names_in c.args.self.now.apps.now) c.args.e.now) (tree.term_alone (names_in c.args.self.now.apps.now) c.args.e.now (c.is_empty.ensures.0 c.if-is_empty.true)) c.in_ok-first.ensures.means

pub term-returns-clause-means : goal.term-returns-clause-means
term-returns-clause-means t c = means.same_calc c.factors.new.names _ _ (calc.term_calc (names_in c.args.self.now.apps.now) c.args.e.now) (sym (tree.term_is (names_in c.args.self.now.apps.now) c.args.e.now)) (means.product_means c.unary.new.names c.factors.new.names c.factors.ensures.grows c.in_ok-first.first c.in_ok-new.field-0 c.in_ok-new.ensures (calc.unary_calc (names_in c.args.self.now.apps.now) (out-Term c.args.e.now).first) c.in_ok-first.ensures.means c.in_ok-others.others (map (calc.factor_calc (names_in c.args.self.now.apps.now)) (out-Term c.args.e.now).others) (subst (λ l. OperandsMean {Op = TermOp} c.factors.new.names c.in_ok-others.others (map (calc.factor_calc (names_in c.args.self.now.apps.now)) l)) c.as_slice.ensures c.in_ok-others.ensures.mean))

pub post-returns-then-is_empty-clause-means : goal.post-returns-then-is_empty-clause-means
post-returns-then-is_empty-clause-means t c = means.same_at c.atom.new.names c.in_ok-atom.atom (calc.atom_calc (names_in c.args.self.now.apps.now) (out-Post c.args.e.now).atom) (calc.post_calc (names_in c.args.self.now.apps.now) c.args.e.now) (tree.post_alone (names_in c.args.self.now.apps.now) c.args.e.now (c.is_empty.ensures.0 c.if-is_empty.true)) c.in_ok-atom.ensures.means

pub post-returns-clause-means : goal.post-returns-clause-means
post-returns-clause-means t c = means.same_calc c.exprs.new.names _ _ (calc.post_calc (names_in c.args.self.now.apps.now) c.args.e.now) (sym (tree.post_is (names_in c.args.self.now.apps.now) c.args.e.now)) (means.at_means c.atom.new.names c.exprs.new.names c.exprs.ensures.grows c.in_ok-atom.atom c.in_ok-new.field-0 c.in_ok-new.ensures (calc.atom_calc (names_in c.args.self.now.apps.now) (out-Post c.args.e.now).atom) c.in_ok-atom.ensures.means c.in_ok-indices.indices (map (calc.expr_calc (names_in c.args.self.now.apps.now)) (out-Post c.args.e.now).indices) (subst (λ l. AllMean c.exprs.new.names c.in_ok-indices.indices (map (calc.expr_calc (names_in c.args.self.now.apps.now)) l)) c.as_slice.ensures c.in_ok-indices.ensures.mean))

pub unary-returns-in-None-clause-means : goal.unary-returns-in-None-clause-means
unary-returns-in-None-clause-means t c = means.same_at c.post.new.names c.in_ok-post.post (calc.post_calc (names_in c.args.self.now.apps.now) (out-Unary c.args.e.now).post) (calc.unary_calc (names_in c.args.self.now.apps.now) c.args.e.now) (tree.unary_alone (names_in c.args.self.now.apps.now) c.args.e.now c.in-None.is) c.in_ok-post.ensures.means

pub unary-returns-in_ok-new-in-Some-clause-means : goal.unary-returns-in_ok-new-in-Some-clause-means
unary-returns-in_ok-new-in-Some-clause-means t c = means.same_calc c.post.new.names _ _ (calc.unary_calc (names_in c.args.self.now.apps.now) c.args.e.now) (sym (tree.unary_signed (names_in c.args.self.now.apps.now) c.args.e.now c.in-Some.op c.in-Some.is)) (means.signed_means c.post.new.names c.in_ok-new-in-Some.field-0 c.in_ok-post.post (calc.post_calc (names_in c.args.self.now.apps.now) (out-Unary c.args.e.now).post) c.in-Some.op c.in_ok-new-in-Some.ensures c.in_ok-post.ensures.means)

pub comp-returns-in-None-clause-means : goal.comp-returns-in-None-clause-means
comp-returns-in-None-clause-means t c = means.same_calc c.sum.new.names c.in_ok-left.left (calc.sum_calc (names_in c.args.self.now.apps.now) (out-Comp c.args.e.now).left) (calc.comp_calc (names_in c.args.self.now.apps.now) c.args.e.now) (sym (tree.comp_alone (names_in c.args.self.now.apps.now) c.args.e.now c.in-None.is)) c.in_ok-left.ensures.means

pub comp-returns-in_ok-new-in-Some-2-clause-means : goal.comp-returns-in_ok-new-in-Some-2-clause-means
comp-returns-in_ok-new-in-Some-2-clause-means t c = means.same_calc c.sum-in-Some.new.names _ _ (calc.comp_calc (names_in c.args.self.now.apps.now) c.args.e.now) (sym (tree.comp_tested (names_in c.args.self.now.apps.now) c.args.e.now c.in-Some.test c.in-Some.is)) (means.compared_means c.sum.new.names c.sum-in-Some.new.names c.sum-in-Some.ensures.grows c.in_ok-left.left c.in_ok-new-in-Some.field-0 c.in_ok-new-in-Some.ensures (calc.sum_calc (names_in c.args.self.now.apps.now) (out-Comp c.args.e.now).left) c.in_ok-left.ensures.means (out-Compared c.in-Some.test).op c.in_ok-right-in-Some.right c.in_ok-new-in-Some-2.field-0 (calc.sum_calc (names_in c.args.self.now.apps.now) (out-Compared c.in-Some.test).right) c.in_ok-new-in-Some-2.ensures c.in_ok-right-in-Some.ensures.means)

pub call-returns-clause-means : goal.call-returns-clause-means
call-returns-clause-means t c =
    let e = c.args.e.now in
    means.same_calc c.exprs-2.new.names _ _ (calc.call_calc (names_in c.args.self.now.apps.now) e) (sym (tree.call_is (names_in c.args.self.now.apps.now) e)) (means.call_means (names_in c.args.self.now.apps.now) c.exprs.new.names c.exprs-2.new.names (out-CallExpr e).app c.number_of.result c.in_ok-arguments.arguments c.in_ok-outputs.outputs (map (calc.expr_calc (names_in c.args.self.now.apps.now)) (out-CallExpr e).arguments) (map (calc.expr_calc (names_in c.args.self.now.apps.now)) (out-CallExpr e).names) c.number_of.ensures (subst (λ l. AllMean c.exprs.new.names c.in_ok-arguments.arguments (map (calc.expr_calc (names_in c.args.self.now.apps.now)) l)) c.as_slice.ensures c.in_ok-arguments.ensures.mean) c.exprs-2.ensures.grows (subst (λ l. AllMean c.exprs-2.new.names c.in_ok-outputs.outputs (map (calc.expr_calc (names_in c.args.self.now.apps.now)) l)) c.as_slice-2.ensures c.in_ok-outputs.ensures.mean))

pub atom-returns-in-Number-clause-means : goal.atom-returns-in-Number-clause-means
atom-returns-in-Number-clause-means t c = means.same_calc c.args.names.now _ _ (calc.atom_calc (names_in c.args.self.now.apps.now) c.args.e.now) (sym (ap (calc.atom_calc (names_in c.args.self.now.apps.now)) c.in-Number.is ∙ tree.number_is (names_in c.args.self.now.apps.now) c.in-Number.n)) (means.int_means c.args.names.now _ c.in-Number.n (search rules))

pub atom-returns-in-Text-clause-means : goal.atom-returns-in-Text-clause-means
atom-returns-in-Text-clause-means t c = means.same_result c.text.result c.args.names.now _ (calc.atom_calc (names_in c.args.self.now.apps.now) c.args.e.now) (sym (ap (calc.atom_calc (names_in c.args.self.now.apps.now)) c.in-Text.is ∙ tree.text_is (names_in c.args.self.now.apps.now) c.in-Text.text)) (means.text_means c.text.result c.args.names.now c.in-Text.text c.text.ensures)

pub atom-returns-in-Nothing-clause-means : goal.atom-returns-in-Nothing-clause-means
atom-returns-in-Nothing-clause-means t c = means.same_calc c.args.names.now _ _ (calc.atom_calc (names_in c.args.self.now.apps.now) c.args.e.now) (sym (ap (calc.atom_calc (names_in c.args.self.now.apps.now)) c.in-Nothing.is ∙ tree.nothing_is (names_in c.args.self.now.apps.now))) (means.constant_means c.args.names.now value.Nothing)

pub atom-returns-in_ok-slot-in-Variable-clause-means : goal.atom-returns-in_ok-slot-in-Variable-clause-means
atom-returns-in_ok-slot-in-Variable-clause-means t c = means.same_calc c.slot.new.self _ _ (calc.atom_calc (names_in c.args.self.now.apps.now) c.args.e.now) (sym (ap (calc.atom_calc (names_in c.args.self.now.apps.now)) c.in-Variable.is ∙ tree.variable_is (names_in c.args.self.now.apps.now) c.in-Variable.name)) (means.slot_means c.slot.new.self c.in_ok-slot-in-Variable.field-0 c.in-Variable.name c.in_ok-slot-in-Variable.ensures.slot)

pub atom-returns-in-Paren-clause-means : goal.atom-returns-in-Paren-clause-means
atom-returns-in-Paren-clause-means t c = means.same_result c.expr.result c.expr.new.names (calc.expr_calc (names_in c.args.self.now.apps.now) c.get.result.now) (calc.atom_calc (names_in c.args.self.now.apps.now) c.args.e.now) (sym (ap (calc.atom_calc (names_in c.args.self.now.apps.now)) c.in-Paren.is ∙ tree.paren_is (names_in c.args.self.now.apps.now) c.in-Paren.e ∙ ap (calc.expr_calc (names_in c.args.self.now.apps.now)) (sym c.get.ensures))) c.expr.ensures.means

pub atom-returns-in-Call-clause-means : goal.atom-returns-in-Call-clause-means
atom-returns-in-Call-clause-means t c = means.same_result c.call.result c.call.new.names (calc.call_calc (names_in c.args.self.now.apps.now) c.get-in-Call.result.now) (calc.atom_calc (names_in c.args.self.now.apps.now) c.args.e.now) (sym (ap (calc.atom_calc (names_in c.args.self.now.apps.now)) c.in-Call.is ∙ tree.call_atom_is (names_in c.args.self.now.apps.now) c.in-Call.call ∙ ap (calc.call_calc (names_in c.args.self.now.apps.now)) (sym c.get-in-Call.ensures))) c.call.ensures.means

pub atom-returns-in_ok-exprs-in-List-clause-means : goal.atom-returns-in_ok-exprs-in-List-clause-means
atom-returns-in_ok-exprs-in-List-clause-means t c = means.same_calc c.exprs.new.names _ _ (calc.atom_calc (names_in c.args.self.now.apps.now) c.args.e.now) (sym (ap (calc.atom_calc (names_in c.args.self.now.apps.now)) c.in-List.is ∙ tree.list_is (names_in c.args.self.now.apps.now) c.in-List.es)) (means.list_means c.exprs.new.names c.in_ok-exprs-in-List.field-0 (map (calc.expr_calc (names_in c.args.self.now.apps.now)) c.in-List.es) (subst (λ l. AllMean c.exprs.new.names c.in_ok-exprs-in-List.field-0 (map (calc.expr_calc (names_in c.args.self.now.apps.now)) l)) c.as_slice.ensures c.in_ok-exprs-in-List.ensures.mean))

pub atom-returns-in_ok-arguments-in-BuiltIn-clause-means : goal.atom-returns-in_ok-arguments-in-BuiltIn-clause-means
atom-returns-in_ok-arguments-in-BuiltIn-clause-means t c =
    let name = c.in-BuiltIn.name in
    let es = c.in-BuiltIn.es in
    let codes = c.in_ok-arguments-in-BuiltIn.arguments in
    means.same_result c.built_in.result c.exprs-in-BuiltIn.new.names (λ vars. m.values vars (map (calc.expr_calc (names_in c.args.self.now.apps.now)) es) >>= m.applied (built_in_named name)) (calc.atom_calc (names_in c.args.self.now.apps.now) c.args.e.now) (sym (ap (calc.atom_calc (names_in c.args.self.now.apps.now)) c.in-BuiltIn.is ∙ tree.built_in_is (names_in c.args.self.now.apps.now) name es)) (means.applied_means c.built_in.result c.exprs-in-BuiltIn.new.names (built_in_named name) codes (map (calc.expr_calc (names_in c.args.self.now.apps.now)) es) (subst (λ b. IfOk c.built_in.result (λ d. Applies d b codes)) c.named.ensures c.built_in.ensures) (subst (λ l. AllMean c.exprs-in-BuiltIn.new.names codes (map (calc.expr_calc (names_in c.args.self.now.apps.now)) l)) c.as_slice-in-BuiltIn.ensures c.in_ok-arguments-in-BuiltIn.ensures.mean))
