use Rattle.dependency_graph.proofs.GraphPlaces.{numbers-below, numbers-distinct}
use Rattle.dependency_graph.proofs.graph.Graph.wait_join.Goals as goal

pub wait_join-requires-clause-below : goal.wait_join-requires-clause-below
wait_join-requires-clause-below g c = numbers-below _ c.args.returned.now _ c.in_ok-places.places.items c.self.invariant c.in_ok-places.ensures

pub wait_join-requires-clause-distinct : goal.wait_join-requires-clause-distinct
wait_join-requires-clause-distinct g c = numbers-distinct c.self.inside.paths c.args.returned.now c.in_ok-places.places.items c.in_ok-places.ensures c.requires.distinct
