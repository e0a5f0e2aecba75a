use Rattle.std.proofs.Common.{◌≡◌, drop}
use Rattle.std.specs.List.{list_any}
use Rattle.flow_base.specs.declared.value.Value.{out-Value}
use Rattle.flow_meaning.specs.Inputs.{deep_in}
use Rattle.dependency_graph.proofs.deep.are_deep.Given as goal

abbrev pub invariant-loop-argument : goal.invariant-loop-argument
invariant-loop-argument l = list_any (λ v. deep_in (out-Value v)) (drop l.argument-index l.arguments) ≡ list_any (λ v. deep_in (out-Value v)) l.arguments
