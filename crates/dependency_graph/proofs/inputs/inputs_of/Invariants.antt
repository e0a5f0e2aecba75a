use Rattle.std.proofs.Common.{◌≡◌, drop}
use Rattle.std.specs.List.{flat_map}
use Rattle.flow_base.specs.declared.value.Value.{out-Value}
use Rattle.flow_meaning.specs.Inputs.{inputs, paths_in}
use Rattle.dependency_graph.specs.Added.{added_all}
use Rattle.dependency_graph.proofs.inputs.inputs_of.Given as goal

abbrev pub invariant-loop-argument : goal.invariant-loop-argument
invariant-loop-argument l = added_all l.paths (flat_map (λ v. paths_in (out-Value v)) (drop l.argument-index l.arguments)) ≡ inputs l.arguments
