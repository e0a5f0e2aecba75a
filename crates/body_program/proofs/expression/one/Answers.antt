use Rattle.body_program.proofs.Arguments.{one_applies}
use Rattle.body_program.proofs.expression.one.Goals as goal

pub returns : goal.returns
returns c = one_applies c.args.built_in c.args.arguments c.last.new.arguments c.in_ok-first.first c.in_ok-first.ensures c.requires
