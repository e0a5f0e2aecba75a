use Rattle.std.proofs.Common.{◌≡◌, drop, map}
use Rattle.flow_base.specs.Values.{all_match, same}
use Rattle.dependency_graph.specs.Resolved.{item_resolved}
use Rattle.dependency_graph.proofs.matching.items_match.Given as goal

abbrev pub invariant-loop-i : goal.invariant-loop-i
invariant-loop-i g l =
    let resolved = item_resolved (g.O.Outcomes.tasks l.outcomes) in
    all_match (map same (map resolved (drop l.i l.items))) (drop l.i l.values) ≡ all_match (map same (map resolved l.items)) l.values
