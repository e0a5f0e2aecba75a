use Rattle.dependency_graph.proofs.GraphPlaces.{numbers-below, numbers-distinct}
use Rattle.dependency_graph.proofs.graph.Graph.add.Goals as goal

pub add-requires-2-clause-below : goal.add-requires-2-clause-below
add-requires-2-clause-below g c = numbers-below _ c.args.inputs.now _ c.in_ok-places.places.items c.self.invariant c.in_ok-places.ensures

pub add-requires-2-clause-distinct : goal.add-requires-2-clause-distinct
add-requires-2-clause-distinct g c = numbers-distinct c.self.inside.paths c.args.inputs.now c.in_ok-places.places.items c.in_ok-places.ensures c.requires.distinct
