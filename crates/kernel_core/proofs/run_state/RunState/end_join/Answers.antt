use Rattle.std.proofs.Common.{inr, refl, ◌∙◌, ap, arith}
use Rattle.std.proofs.lemmas.Result.{err_from_is_err_and}
use Rattle.dependency_graph.specs.declared.monitor.Settlement.{Settlement}
use Rattle.dependency_graph.specs.Graphs.{with_settlement}
use Rattle.kernel_model.specs.Acts.{settled_as}
use Rattle.kernel_core.proofs.StateViews.{indexed-behind}
use Rattle.kernel_core.proofs.JoiningEnds.{settles-by, end-tells, told-first, end-allowed, end-keeps, end-ends, end-refused}
use Rattle.kernel_core.proofs.run_state.RunState.end_join.Goals as goal

pub returns-then-units-self-clause-refused : goal.returns-then-units-self-clause-refused
returns-then-units-self-clause-refused g c =
    let s = settles-by _ _ c.self.inside.tasks.items c.self.inside.steps.items c.self.inside.log.items c.args.k c.index.result.now c.in-Some.ended _ c.in_ok-outcome.outcome c.self.view_is refl c.index.ensures c.requires.over c.in-Some.is c.settled.ensures c.in_ok-outcome.ensures in
    end-refused _ _ c.self.inside.tasks.items c.self.inside.steps.items c.self.inside.log.items c.self.inside.running c.self.inside.stored c.outcome_units-units.result c.args.k c.index.result.now c.in_ok-outcome.outcome
    c.self.view_is (record { is = refl; sound = c.self.invariant.0 }) c.requires.over c.index.ensures s c.outcome_units-units.ensures c.if-units-self.true

pub returns-in_err-settled-clause-told : goal.returns-in_err-settled-clause-told
returns-in_err-settled-clause-told g c =
    let s = settles-by _ _ c.self.inside.tasks.items c.self.inside.steps.items c.self.inside.log.items c.args.k c.index.result.now c.in-Some.ended _ c.in_ok-outcome.outcome c.self.view_is refl c.index.ensures c.requires.over c.in-Some.is c.settled.ensures c.in_ok-outcome.ensures in
    let p = err_from_is_err_and c.from_residual-in_err-settled.result c.from_residual-in_err-settled.ensures.1 in
    rw (p.1, p.2) (λ done. inr (refl, told-first _ _ c.args.graph.now c.settled-2.new.self (end-tells _ _ c.self.inside.tasks.items c.self.inside.steps.items c.self.inside.log.items c.args.k c.index-2.result.now c.in_ok-path.path c.in_ok-outcome.outcome c.status_of-status.result c.self.view_is refl c.requires.over c.index-2.ensures (c.in_ok-path.ensures ∙ c.path.ensures) s c.status_of-status.ensures done) c.in_err-settled.ensures.err))

pub finish-requires-clause-transition : goal.finish-requires-clause-transition
finish-requires-clause-transition g c =
    let s = settles-by _ _ c.self.inside.tasks.items c.self.inside.steps.items c.self.inside.log.items c.args.k c.index.result.now c.in-Some.ended _ c.in_ok-outcome.outcome c.self.view_is refl c.index.ensures c.requires.over c.in-Some.is c.settled.ensures c.in_ok-outcome.ensures in
    (end-allowed _ _ c.self.inside.tasks.items c.self.inside.steps.items c.self.inside.log.items c.args.k c.index_mut.result.now c.in_ok-outcome.outcome c.status_of-status.result c.self.view_is refl c.self.invariant.0.fact.inv c.requires.over c.index_mut.ensures.value s c.status_of-status.ensures).1

pub invariant_of-self-2 : goal.invariant_of-self-2
invariant_of-self-2 g c =
    let s = settles-by _ _ c.self.inside.tasks.items c.self.inside.steps.items c.self.inside.log.items c.args.k c.index.result.now c.in-Some.ended _ c.in_ok-outcome.outcome c.self.view_is refl c.index.ensures c.requires.over c.in-Some.is c.settled.ensures c.in_ok-outcome.ensures in
    let a = end-keeps _ _ c.self.inside.tasks.items c.self.inside.steps.items c.self.inside.log.items c.reserve.new.self.items c.push_reserved.new.self.items c.self.inside.running c.self.inside.stored c.outcome_units-units.result c.args.k
    c.index_mut.result.now c.index-2.result.now c.index_mut-2.result.now c.finish.new.self c.in_ok-path.path c.in_ok-outcome.outcome c.status_of-status.result
    c.self.view_is refl (record { is = refl; sound = c.self.invariant.0 }) c.requires.over c.index_mut.ensures.value c.finish.ensures c.index-2.ensures (c.in_ok-path.ensures ∙ c.path.ensures) c.index_mut-2.ensures.value s c.status_of-status.ensures c.outcome_units-units.ensures c.if-units-self.false c.in_ok-reserve.ensures.items c.push_reserved.ensures.items in
    (a.sound, indexed-behind _ c.args.self.now (settled_as c.args.self.now c.args.k c.in_ok-outcome.outcome) _ c.self.inside.places c.self.inside.mains c.self.view_is c.self.invariant.1 refl refl a.view, c.self.invariant.2, omega (arith, c.in_ok-reserve.ensures.ok, c.push_reserved.ensures.len, c.push_reserved.ensures.capacity))

pub returns-clause-ok : goal.returns-clause-ok
returns-clause-ok g c =
    let s = settles-by _ _ c.self.inside.tasks.items c.self.inside.steps.items c.self.inside.log.items c.args.k c.index.result.now c.in-Some.ended _ c.in_ok-outcome.outcome c.self.view_is refl c.index.ensures c.requires.over c.in-Some.is c.settled.ensures c.in_ok-outcome.ensures in
    let a = end-keeps _ _ c.self.inside.tasks.items c.self.inside.steps.items c.self.inside.log.items c.reserve.new.self.items c.push_reserved.new.self.items c.self.inside.running c.self.inside.stored c.outcome_units-units.result c.args.k
    c.index_mut.result.now c.index-2.result.now c.index_mut-2.result.now c.finish.new.self c.in_ok-path.path c.in_ok-outcome.outcome c.status_of-status.result
    c.self.view_is refl (record { is = refl; sound = c.self.invariant.0 }) c.requires.over c.index_mut.ensures.value c.finish.ensures c.index-2.ensures (c.in_ok-path.ensures ∙ c.path.ensures) c.index_mut-2.ensures.value s c.status_of-status.ensures c.outcome_units-units.ensures c.if-units-self.false c.in_ok-reserve.ensures.items c.push_reserved.ensures.items in
    end-ends _ _ c.args.k c.in_ok-outcome.outcome _ c.self.view_is s a.view

pub returns-clause-settled : goal.returns-clause-settled
returns-clause-settled g c done =
    let s = settles-by _ _ c.self.inside.tasks.items c.self.inside.steps.items c.self.inside.log.items c.args.k c.index.result.now c.in-Some.ended _ c.in_ok-outcome.outcome c.self.view_is refl c.index.ensures c.requires.over c.in-Some.is c.settled.ensures c.in_ok-outcome.ensures in
    c.in_ok-settled.ensures.ok ∙ ap (λ (s : Settlement). with_settlement s c.args.graph.now) (end-tells _ _ c.self.inside.tasks.items c.self.inside.steps.items c.self.inside.log.items c.args.k c.index-2.result.now c.in_ok-path.path c.in_ok-outcome.outcome c.status_of-status.result c.self.view_is refl c.requires.over c.index-2.ensures (c.in_ok-path.ensures ∙ c.path.ensures) s c.status_of-status.ensures done)
