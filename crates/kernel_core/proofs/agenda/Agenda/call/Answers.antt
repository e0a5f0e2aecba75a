use Rattle.std.proofs.Common.{refl, arith}
use Rattle.kernel_core.proofs.CarriedOut.{call-added, call-serves, one-more}
use Rattle.kernel_core.proofs.agenda.Agenda.call.Goals as goal

pub call-requires-clause-add : goal.call-requires-clause-add
call-requires-clause-add g c = call-added _ _ c.args.state.now c.args.app c.args.arguments c.args.names c.self.view_is c.facts.ensures.fact c.requires.asks c.requires.serves

pub overflow_add-self : goal.overflow_add-self
overflow_add-self g c =
    let room = one-more _ _ c.args.state.now c.self.view_is c.facts.ensures.fact c.requires.serves in
    omega (arith, room)

pub returns-clause-serves : goal.returns-clause-serves
returns-clause-serves g c = call-serves _ _ _ c.args.state.now c.call.new.self c.args.app c.args.arguments c.args.names c.self.view_is c.facts.ensures.fact c.facts-2.ensures c.requires.asks c.requires.serves c.in_ok-future.ensures.ok c.in_ok-future.ensures.added refl refl refl refl refl
