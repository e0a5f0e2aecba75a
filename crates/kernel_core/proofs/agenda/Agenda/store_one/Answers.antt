use Rattle.std.proofs.Common.{◌+◌, ◌∙◌, ap}
use Rattle.std.proofs.lemmas.Result.{err_from_is_err_and}
use Rattle.agenda_model.specs.AgendaViews.{AgendaView}
use Rattle.agenda_model.specs.Agendas.{seen}
use Rattle.kernel_core.proofs.Serving.{store-none, stored-turn, stored-serves, stored-undone, told-same}
use Rattle.kernel_core.proofs.KeptPlaces.{found-some, found-none}
use Rattle.kernel_core.proofs.agenda.Agenda.store_one.Goals as goal

pub returns-in_default-clause-turn : goal.returns-in_default-clause-turn
returns-in_default-clause-turn g c =
    let all = found-none c.in_ok-k.field-0 _ _ c.in_default.not-Some c.in_ok-k.ensures.found in
    (store-none c.first_unstored.new.self c.args.state.now c.args.self.now.graph.told c.first_unstored.ensures.serves all, ap (λ (a : AgendaView). seen a c.args.state.now) c.first_unstored.ensures.same)

pub returns-in_err-store-clause-err : goal.returns-in_err-store-clause-err
returns-in_err-store-clause-err g c =
    let told = told-same c.args.self.now c.first_unstored.new.self c.first_unstored.ensures.same in
    let p = err_from_is_err_and c.from_residual-in_err-store.result c.from_residual-in_err-store.ensures.1 in
    rw (p.1, p.2) (stored-undone c.args.state.now c.store.new.self c.args.self.now.graph.told c.first_unstored.new.self.graph.told _ c.in_err-store.ensures.err told c.in_err-store.ensures.refused)

pub returns-clause-turn : goal.returns-clause-turn
returns-clause-turn g c =
    let found = found-some c.in_ok-k.field-0 _ _ _ c.in-Some.is c.in_ok-k.ensures.found in
    let told = ap (λ (a : AgendaView). a.graph.told) c.self.view_is ∙ told-same c.args.self.now c.first_unstored.new.self c.first_unstored.ensures.same in
    stored-turn c.args.self.now.graph.told c.self.inside.graph.told c.args.state.now c.store.new.self c.in-Some.k c.in-Some.key told found.unstored c.in_ok-store.ensures.ok

pub returns-clause-serves : goal.returns-clause-serves
returns-clause-serves g c =
    let found = found-some c.in_ok-k.field-0 _ _ _ c.in-Some.is c.in_ok-k.ensures.found in
    stored-serves c.first_unstored.new.self _ c.args.state.now c.store.new.self c.in-Some.k c.in-Some.key c.first_unstored.ensures.serves found c.in_ok-store.ensures.ok (ap (λ (a : AgendaView). record a { kept = a.kept + 1 }) c.self.view_is)
