use Rattle.std.proofs.Common.{◌≡◌, drop, map}
use Rattle.flow_meaning.specs.Act.{all_from}
use Rattle.flow_meaning.specs.Run.{run}
use Rattle.body_program.specs.Meaning.{code_value, sums, products, items_at}
use Rattle.app_eval.specs.Chains.{operands, values_calc}
use Rattle.app_eval.specs.Chains as calc
use Rattle.app_eval.proofs.expression.Scope.+expr.Given as goal

abbrev pub invariant-sums-loop-other : goal.invariant-sums-loop-other
invariant-sums-loop-other l = run (sums l.left (operands l.self.slots.now (drop l.other-index l.others))) l.answers.left.now ≡ run (sums l.fn.first (operands l.self.slots.now l.others)) l.initial.answers.left.now

abbrev pub invariant-products-loop-other : goal.invariant-products-loop-other
invariant-products-loop-other l = run (products l.left (operands l.self.slots.now (drop l.other-index l.others))) l.answers.left.now ≡ run (products l.fn.first (operands l.self.slots.now l.others)) l.initial.answers.left.now

abbrev pub invariant-items_at-loop-other : goal.invariant-items_at-loop-other
invariant-items_at-loop-other l = run (items_at l.from (map (code_value l.self.slots.now) (drop l.other-index l.others))) l.answers.left.now ≡ run (items_at l.fn.first (map (code_value l.self.slots.now) l.others)) l.initial.answers.left.now

abbrev pub invariant-any-loop-other : goal.invariant-any-loop-other
invariant-any-loop-other l = run (calc.any_from l.self.slots.now l.holds (drop l.other-index l.others)) l.answers.left.now ≡ run (calc.any_from l.self.slots.now l.fn.first l.others) l.initial.answers.left.now

abbrev pub invariant-all-loop-other : goal.invariant-all-loop-other
invariant-all-loop-other l = run (calc.all_from l.self.slots.now l.holds (drop l.other-index l.others)) l.answers.left.now ≡ run (calc.all_from l.self.slots.now l.fn.first l.others) l.initial.answers.left.now

abbrev pub invariant-values-loop-e : goal.invariant-values-loop-e
invariant-values-loop-e l = run (all_from l.values (map (code_value l.self.slots.now) (drop l.e-index l.es))) l.answers.left.now ≡ run (values_calc l.self.slots.now l.es) l.initial.answers.left.now
