use Rattle.body_program.proofs.Following.{let_follows}
use Rattle.body_program.proofs.expression.Resolver.declared.Goals as goal

pub returns-clause-follows : goal.returns-clause-follows
returns-clause-follows c = let_follows _ c.args.name.now c.args.e.now c.in_ok-step.ensures.follows
