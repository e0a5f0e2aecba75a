use Rattle.body_program.proofs.Following.{write_follows}
use Rattle.body_program.proofs.expression.Resolver.written.Goals as goal

pub returns-clause-follows : goal.returns-clause-follows
returns-clause-follows c = write_follows _ c.args.output.now c.args.content.now c.in_ok-place.ensures.means c.in_ok-text.ensures.grows c.in_ok-text.ensures.means
