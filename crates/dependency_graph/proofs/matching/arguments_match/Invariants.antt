use Rattle.std.proofs.Common.{◌≡◌, drop, map}
use Rattle.flow_base.specs.Values.{all_match, same}
use Rattle.dependency_graph.specs.Resolved.{argument_resolved}
use Rattle.dependency_graph.proofs.matching.arguments_match.Given as goal

abbrev pub invariant-loop-i : goal.invariant-loop-i
invariant-loop-i g l =
    let resolved = argument_resolved (g.O.Outcomes.tasks l.outcomes) in
    all_match (map same (map resolved (drop l.i l.arguments))) (drop l.i l.values) ≡ all_match (map same (map resolved l.arguments)) l.values
