use Rattle.body_program.proofs.Arguments.{three_applies}
use Rattle.body_program.proofs.expression.three.Goals as goal

pub returns : goal.returns
returns c = three_applies c.args.built_in c.args.arguments c.last.new.arguments c.last-2.new.arguments c.last-3.new.arguments c.in_ok-third.third c.in_ok-second.second c.in_ok-first.first c.in_ok-third.ensures c.in_ok-second.ensures c.in_ok-first.ensures c.requires
