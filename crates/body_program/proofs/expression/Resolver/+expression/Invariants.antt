use Rattle.std.proofs.Common.{map, take}
use Rattle.script_tree.specs.declared.tree.SumOp.{SumOp}
use Rattle.script_tree.specs.declared.tree.TermOp.{TermOp}
use Rattle.flow_meaning.specs.Walk.{names_in}
use Rattle.body_program.specs.Classes as calc
use Rattle.body_program.specs.Resolved.{AllMean, Grows, OperandsMean}
use Rattle.body_program.proofs.expression.Resolver.+expression.Given as goal

abbrev pub invariant-added-loop-e : goal.invariant-added-loop-e
invariant-added-loop-e l = Grows l.fn.names l.names × OperandsMean {Op = SumOp} l.names l.codes (map (calc.added_calc (names_in l.self.apps.now)) (take l.e-index l.es))

abbrev pub invariant-comps-loop-e : goal.invariant-comps-loop-e
invariant-comps-loop-e l = Grows l.fn.names l.names × AllMean l.names l.codes (map (calc.comp_calc (names_in l.self.apps.now)) (take l.e-index l.es))

abbrev pub invariant-conjs-loop-e : goal.invariant-conjs-loop-e
invariant-conjs-loop-e l = Grows l.fn.names l.names × AllMean l.names l.codes (map (calc.conj_calc (names_in l.self.apps.now)) (take l.e-index l.es))

abbrev pub invariant-exprs-loop-e : goal.invariant-exprs-loop-e
invariant-exprs-loop-e l = Grows l.fn.names l.names × AllMean l.names l.codes (map (calc.expr_calc (names_in l.self.apps.now)) (take l.e-index l.es))

abbrev pub invariant-factors-loop-e : goal.invariant-factors-loop-e
invariant-factors-loop-e l = Grows l.fn.names l.names × OperandsMean {Op = TermOp} l.names l.codes (map (calc.factor_calc (names_in l.self.apps.now)) (take l.e-index l.es))
