use Rattle.dependency_graph.specs.Resolved.{item_resolved}
use Rattle.dependency_graph.proofs.Lengths.{as_many_made}
use Rattle.dependency_graph.proofs.matching.items_match.Goals as goal

pub returns-then-items-values : goal.returns-then-items-values
returns-then-items-values g c = as_many_made (item_resolved (g.O.Outcomes.tasks c.args.outcomes.now)) c.args.items.now c.args.values.now c.if-items-values.true
