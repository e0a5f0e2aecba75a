use Rattle.std.proofs.Common.{refl, arith}
use Rattle.std.proofs.lemmas.Result.{err_from_is_err_and}
use Rattle.kernel_core.proofs.Serving.{place-is-over, place-is-kept, over-opened, over-counts, over-settles, over-serves, over-undone, over-none}
use Rattle.kernel_core.proofs.KeptPlaces.{found-some, found-none, place-task, place-within}
use Rattle.kernel_core.proofs.agenda.Agenda.settle_one.Goals as goal

pub returns-in_default-clause-turn : goal.returns-in_default-clause-turn
returns-in_default-clause-turn g c = (over-none c.args.self.now c.args.state.now c.requires.serves (found-none c.in_ok-i.field-0 _ _ c.in_default.not-Some c.in_ok-i.ensures), refl)

pub unreachable-requires : goal.unreachable-requires
unreachable-requires g c =
    let place = found-some c.in_ok-i.field-0 c.in-Some.i _ _ c.in-Some.is c.in_ok-i.ensures in
    let within = place-within _ _ c.args.state.now c.in-Some.i c.self.view_is place in
    let bad = c.in_default-remove.ensures.variant.1 (omega (arith, within)) in
    absurd (cc)

pub settle-requires-clause-over : goal.settle-requires-clause-over
settle-requires-clause-over g c =
    let place = found-some c.in_ok-i.field-0 c.in-Some.i _ _ c.in-Some.is c.in_ok-i.ensures in
    let at = place-task _ _ c.args.state.now c.in-Some-remove.k c.in-Some.i _ c.self.view_is place c.in-Some-remove.ensures.value in
    record { not_ended = c.requires.going; over = place-is-over _ _ c.args.state.now c.in-Some-remove.k c.in-Some.i c.self.view_is c.facts.ensures.fact c.requires.serves place at }

pub settle-requires-clause-kept : goal.settle-requires-clause-kept
settle-requires-clause-kept g c =
    let place = found-some c.in_ok-i.field-0 c.in-Some.i _ _ c.in-Some.is c.in_ok-i.ensures in
    let at = place-task _ _ c.args.state.now c.in-Some-remove.k c.in-Some.i _ c.self.view_is place c.in-Some-remove.ensures.value in
    place-is-kept _ _ c.args.state.now c.in-Some-remove.k c.in-Some.i c.self.view_is c.facts.ensures.fact c.requires.serves place at

pub settle-requires-clause-opened : goal.settle-requires-clause-opened
settle-requires-clause-opened g c =
    let place = found-some c.in_ok-i.field-0 c.in-Some.i _ _ c.in-Some.is c.in_ok-i.ensures in
    let at = place-task _ _ c.args.state.now c.in-Some-remove.k c.in-Some.i _ c.self.view_is place c.in-Some-remove.ensures.value in
    over-opened _ _ c.args.state.now c.in-Some-remove.k c.in-Some.i c.self.view_is c.facts.ensures.fact c.requires.serves place at

pub returns-in_err-settle-clause-err : goal.returns-in_err-settle-clause-err
returns-in_err-settle-clause-err g c =
    let place = found-some c.in_ok-i.field-0 c.in-Some.i _ _ c.in-Some.is c.in_ok-i.ensures in
    let at = place-task _ _ c.args.state.now c.in-Some-remove.k c.in-Some.i _ c.self.view_is place c.in-Some-remove.ensures.value in
    let p = err_from_is_err_and c.from_residual-in_err-settle.result c.from_residual-in_err-settle.ensures.1 in
    rw (p.1, p.2) (over-undone _ _ c.args.state.now c.in-Some-remove.k c.in-Some.i c.self.view_is c.facts.ensures.fact c.requires.serves place at c.settle.new.self c.settle.new.graph.told _ c.in_err-settle.ensures.err c.in_err-settle.ensures.told c.in_err-settle.ensures.refused)

pub overflow_sub-self : goal.overflow_sub-self
overflow_sub-self g c =
    let place = found-some c.in_ok-i.field-0 c.in-Some.i _ _ c.in-Some.is c.in_ok-i.ensures in
    let at = place-task _ _ c.args.state.now c.in-Some-remove.k c.in-Some.i _ c.self.view_is place c.in-Some-remove.ensures.value in
    over-counts _ _ c.args.state.now c.in-Some-remove.k c.in-Some.i c.self.view_is c.facts.ensures.fact c.requires.serves place at

pub returns-clause-turn : goal.returns-clause-turn
returns-clause-turn g c =
    let place = found-some c.in_ok-i.field-0 c.in-Some.i _ _ c.in-Some.is c.in_ok-i.ensures in
    let at = place-task _ _ c.args.state.now c.in-Some-remove.k c.in-Some.i _ c.self.view_is place c.in-Some-remove.ensures.value in
    over-settles _ _ c.args.state.now c.in-Some-remove.k c.in-Some.i c.self.view_is c.facts.ensures.fact c.requires.serves place at c.settle.new.self c.settle.new.graph c.in_ok-settle.ensures.ok c.in_ok-settle.ensures.settled

pub returns-clause-serves : goal.returns-clause-serves
returns-clause-serves g c =
    let place = found-some c.in_ok-i.field-0 c.in-Some.i _ _ c.in-Some.is c.in_ok-i.ensures in
    let at = place-task _ _ c.args.state.now c.in-Some-remove.k c.in-Some.i _ c.self.view_is place c.in-Some-remove.ensures.value in
    let counts = over-counts _ _ c.args.state.now c.in-Some-remove.k c.in-Some.i c.self.view_is c.facts.ensures.fact c.requires.serves place at in
    over-serves _ _ c.args.state.now c.in-Some-remove.k c.in-Some.i c.self.view_is c.facts.ensures.fact c.requires.serves place at _ c.settle.new.self c.requires.going c.in_ok-settle.ensures.ok c.in_ok-settle.ensures.settled refl c.in-Some-remove.ensures.items c.saturating_sub-self-inside.ensures (omega (arith, c.in-Some-remove.ensures.len, c.in-Some-remove.ensures.capacity)) (omega (arith, counts))
