use Rattle.std.proofs.Common.{◌≡◌, map, take}
use Rattle.dependency_graph.specs.Resolved.{argument_resolved}
use Rattle.dependency_graph.proofs.resolved.resolve.Given as goal

abbrev pub invariant-loop-argument : goal.invariant-loop-argument
invariant-loop-argument g l = l.values ≡ map (argument_resolved (g.O.Outcomes.tasks l.outcomes)) (take l.argument-index l.arguments)
