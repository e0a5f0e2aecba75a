use Rattle.body_program.proofs.Following.{call_follows}
use Rattle.body_program.proofs.expression.Resolver.called.Goals as goal

pub returns-clause-follows : goal.returns-clause-follows
returns-clause-follows c = call_follows _ c.args.e.now c.in_ok-value.ensures.means
