use Rattle.std.proofs.Common.{refl, ◌∙◌, ap, arith}
use Rattle.std.proofs.lemmas.Result.{err_from_is_err_and}
use Rattle.agenda_model.specs.AgendaViews.{AgendaView}
use Rattle.kernel_core.proofs.CarriedOut.{join-seen, join-grows, join-stores, join-undone, join-counts, join-serves}
use Rattle.kernel_core.proofs.agenda.Agenda.run_join.Goals as goal

pub run_join-requires-clause-store : goal.run_join-requires-clause-store
run_join-requires-clause-store g c = join-stores c.args.state.now c.args.k c.args.values c.requires.can _ _ c.self.view_is c.facts.ensures.fact c.requires.serves

pub returns-in_err-run_join-clause-err : goal.returns-in_err-run_join-clause-err
returns-in_err-run_join-clause-err g c =
    let p = err_from_is_err_and c.from_residual.result c.from_residual.ensures.1 in
    rw (p.1, p.2) (join-undone c.args.state.now c.args.k c.args.values c.requires.can _ _ c.self.view_is c.facts.ensures.fact c.requires.serves c.run_join.new.self c.run_join.new.graph.told _ c.in_err-run_join.ensures.err c.run_join.ensures.told c.in_err-run_join.ensures.refused)

pub overflow_sub-self : goal.overflow_sub-self
overflow_sub-self g c =
    let grows = join-grows c.args.state.now c.args.k c.args.values c.requires.can c.run_join.new.self c.in_ok-run_join.ensures.ok in
    omega (arith, grows, c.len.ensures, c.len-before.ensures)

pub overflow_add-self : goal.overflow_add-self
overflow_add-self g c =
    let few = join-counts c.args.state.now c.args.k c.args.values c.requires.can _ _ c.self.view_is c.facts.ensures.fact c.requires.serves c.run_join.new.self c.facts-3.ensures.fact c.in_ok-run_join.ensures.ok in
    omega (arith, few, c.len.ensures, c.len-before.ensures)

pub returns-clause-ok : goal.returns-clause-ok
returns-clause-ok g c = join-seen c.args.state.now c.args.k c.args.values c.requires.can c.args.self.now.graph.told c.run_join.new.graph.told c.run_join.new.self c.in_ok-run_join.ensures.ok (c.run_join.ensures.told ∙ ap (λ (a : AgendaView). a.graph.told) c.self.view_is)

pub returns-clause-serves : goal.returns-clause-serves
returns-clause-serves g c = join-serves c.args.state.now c.args.k c.args.values c.requires.can _ _ c.self.view_is c.facts.ensures.fact c.requires.serves _ c.run_join.new.self c.facts-2.ensures c.in_ok-run_join.ensures.ok c.in_ok-run_join.ensures.stored refl refl refl refl (omega (arith, c.len.ensures, c.len-before.ensures))
