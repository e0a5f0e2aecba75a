use Rattle.dependency_graph.proofs.Places.{added-there, added-new}
use Rattle.dependency_graph.proofs.distinct_paths.DistinctPaths.add.Goals as goal

pub returns-then-is_some-clause-ok : goal.returns-then-is_some-clause-ok
returns-then-is_some-clause-ok c = added-there c.self.inside.places c.self.inside.paths c.args.self.now c.args.path.now c.place.result c.self.invariant c.self.view_is c.place.ensures.place c.if-is_some.ensures

pub returns-clause-ok : goal.returns-clause-ok
returns-clause-ok c = added-new c.self.inside.places c.self.inside.paths c.push.new.self c.args.self.now c.args.path.now c.in_ok-copy.copy c.place.result c.push.result c.self.invariant c.self.view_is c.place.ensures.place c.if-is_some.ensures c.in_ok-copy.ensures c.if-is_err.ensures.value c.push.ensures.ok
