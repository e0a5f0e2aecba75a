use Rattle.body_program.proofs.Following.{return_follows}
use Rattle.body_program.proofs.expression.Resolver.returned.Goals as goal

pub returns-clause-follows : goal.returns-clause-follows
returns-clause-follows c = return_follows _ c.args.e.now c.in_ok-value.ensures.means
