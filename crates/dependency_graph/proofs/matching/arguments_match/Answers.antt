use Rattle.dependency_graph.specs.Resolved.{argument_resolved}
use Rattle.dependency_graph.proofs.Lengths.{as_many_made}
use Rattle.dependency_graph.proofs.matching.arguments_match.Goals as goal

pub returns-then-arguments-values : goal.returns-then-arguments-values
returns-then-arguments-values g c = as_many_made (argument_resolved (g.O.Outcomes.tasks c.args.outcomes.now)) c.args.arguments.now c.args.values.now c.if-arguments-values.true
