use Rattle.body_program.proofs.Following.{raise_follows}
use Rattle.body_program.proofs.expression.Resolver.raised.Goals as goal

pub returns-clause-follows : goal.returns-clause-follows
returns-clause-follows c = raise_follows _ c.args.e.now c.in_ok-value.ensures.means
