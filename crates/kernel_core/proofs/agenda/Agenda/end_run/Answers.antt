use Rattle.std.proofs.Common.{refl, sym, arith}
use Rattle.kernel_core.proofs.Serving.{not-done, can-end}
use Rattle.kernel_core.proofs.agenda.Agenda.end_run.Goals as goal

pub returns-then-self-gt0-clause-turn : goal.returns-then-self-gt0-clause-turn
returns-then-self-gt0-clause-turn g c = (not-done _ _ c.args.state.now c.self.view_is c.facts.ensures.fact c.requires.serves (omega (arith, c.if-self-gt0.true)), refl)

pub end-requires : goal.end-requires
end-requires g c = can-end _ _ c.args.state.now c.self.view_is c.facts.ensures.fact c.requires.serves c.requires.going (sym c.if-not-is_main_over.ensures) (omega (arith, c.if-self-gt0.false))

pub returns-clause-turn : goal.returns-clause-turn
returns-clause-turn g c = ((can-end _ _ c.args.state.now c.self.view_is c.facts.ensures.fact c.requires.serves c.requires.going (sym c.if-not-is_main_over.ensures) (omega (arith, c.if-self-gt0.false))).done, c.in_ok-end.ensures.ok)
