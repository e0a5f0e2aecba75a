use Rattle.body_program.proofs.Following.{print_follows}
use Rattle.body_program.proofs.expression.Resolver.printed.Goals as goal

pub returns-clause-follows : goal.returns-clause-follows
returns-clause-follows c = print_follows _ c.args.e.now c.in_ok-value.ensures.means
