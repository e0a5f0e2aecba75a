use Rattle.std.proofs.Common.{refl, arith}
use Rattle.kernel_core.proofs.Serving.{started-serves, launched-first}
use Rattle.kernel_core.proofs.agenda.Agenda.take_job.Goals as goal

pub returns-clause-serves : goal.returns-clause-serves
returns-clause-serves g c =
    let waits = launched-first _ _ c.args.state.now c.in-Some.k _ c.self.view_is c.requires.serves c.in-Some.ensures.items in
    started-serves _ _ _ c.args.state.now c.start.new.self c.in-Some.k _ c.self.view_is c.facts.ensures.fact (record { not_ended = c.requires.going; waiting = waits }) c.requires.serves c.in-Some.ensures.items c.in_ok-start.ensures.ok refl refl c.in_ok-reserve.ensures.items refl (omega (arith, c.in_ok-reserve.ensures.ok, c.in_ok-reserve.ensures.len, c.in_ok-reserve.ensures.capacity, c.running.ensures)) refl
