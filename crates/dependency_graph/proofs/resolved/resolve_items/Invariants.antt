use Rattle.std.proofs.Common.{◌≡◌, map, take}
use Rattle.dependency_graph.specs.Resolved.{item_resolved}
use Rattle.dependency_graph.proofs.resolved.resolve_items.Given as goal

abbrev pub invariant-loop-item : goal.invariant-loop-item
invariant-loop-item g l = l.values ≡ map (item_resolved (g.O.Outcomes.tasks l.outcomes)) (take l.item-index l.items)
