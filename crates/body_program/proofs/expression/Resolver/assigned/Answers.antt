use Rattle.body_program.proofs.Following.{assignment_follows}
use Rattle.body_program.proofs.expression.Resolver.assigned.Goals as goal

pub returns-clause-follows : goal.returns-clause-follows
returns-clause-follows c = assignment_follows _ c.args.name.now c.args.e.now c.in_ok-step.ensures.follows
