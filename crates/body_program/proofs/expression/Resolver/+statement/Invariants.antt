use Rattle.std.proofs.Common.{map, take}
use Rattle.flow_meaning.specs.Walk.{names_in}
use Rattle.body_program.specs.Classes.{statement_part}
use Rattle.body_program.specs.Resolved.{AllFollow, Grows}
use Rattle.body_program.proofs.expression.Resolver.+statement.Given as goal

abbrev pub invariant-block-loop-statement : goal.invariant-block-loop-statement
invariant-block-loop-statement l = Grows l.fn.names l.names × AllFollow l.names l.steps (map (statement_part (names_in l.self.apps.now)) (take l.statement-index l.statements))
