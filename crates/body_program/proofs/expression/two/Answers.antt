use Rattle.body_program.proofs.Arguments.{two_applies}
use Rattle.body_program.proofs.expression.two.Goals as goal

pub returns : goal.returns
returns c = two_applies c.args.built_in c.args.arguments c.last.new.arguments c.last-2.new.arguments c.in_ok-second.second c.in_ok-first.first c.in_ok-second.ensures c.in_ok-first.ensures c.requires
