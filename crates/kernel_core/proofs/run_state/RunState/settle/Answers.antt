use Rattle.std.proofs.Common.{◌≡◌, List, inr, get_or, refl, ◌∙◌, ap, subst, arith}
use Rattle.std.proofs.lemmas.Result.{err_from_is_err_and}
use Rattle.flow_base.specs.declared.outcome.Outcome.{Outcome}
use Rattle.dependency_graph.specs.declared.monitor.Settlement.{Settlement}
use Rattle.dependency_graph.specs.Graphs.{with_settlement}
use Rattle.dependency_graph.specs.Monitors.{ToldFirst}
use Rattle.kernel_model.specs.Acts.{settled_as}
use Rattle.kernel_core.specs.declared.task.Task.{Task}
use Rattle.kernel_core.proofs.StateViews.{indexed-behind}
use Rattle.kernel_core.proofs.Settling.{settle-allowed, settle-found, settle-end, end-same, settle-tells, settle-writes, settle-refused}
use Rattle.kernel_core.proofs.run_state.RunState.settle.Goals as goal

pub returns-then-units-self-clause-refused : goal.returns-then-units-self-clause-refused
returns-then-units-self-clause-refused g c = settle-refused _ _ c.self.inside.tasks.items c.self.inside.steps.items c.self.inside.log.items c.self.inside.running c.self.inside.stored c.outcome_units-units.result c.args.k c.index.result.now c.in-Some.outcome
    c.self.view_is (record { is = refl; sound = c.self.invariant.0 }) c.requires.over c.requires.kept c.index.ensures c.in-Some.is c.outcome_units-units.ensures c.if-units-self.true

pub invariant_of-self-in_err-path-2 : goal.invariant_of-self-in_err-path-2
invariant_of-self-in_err-path-2 g c =
    let same = end-same c.self.inside.tasks.items c.args.k c.index_mut.result.now c.tell_end.new.end c.index_mut.ensures.value c.in_err-path-2.ensures.same in
    rw (same, c.in_ok-reserve.ensures.items) (c.self.invariant.0, c.self.invariant.1, c.self.invariant.2, omega (arith, c.self.invariant.3, c.in_ok-reserve.ensures.len, c.in_ok-reserve.ensures.ok, c.in_ok-reserve.ensures.capacity))

pub returns-in_err-path-2-clause-told : goal.returns-in_err-path-2-clause-told
returns-in_err-path-2-clause-told g c =
    let p = err_from_is_err_and c.from_residual-in_err-path-2.result c.from_residual-in_err-path-2.ensures.1 in
    rw (p.1, p.2) (λ outcome ends.
    let end = settle-end _ _ c.self.inside.tasks.items c.self.inside.steps.items c.self.inside.log.items c.args.k c.index_mut.result.now outcome c.self.view_is refl c.requires.over c.index_mut.ensures.value ends in
    inr (
      refl,
      subst (λ (s : Settlement). ToldFirst s c.args.graph.now.told c.tell_end.new.graph.told)
          (settle-tells _ _ c.self.inside.tasks.items c.self.inside.steps.items c.self.inside.log.items c.self.inside.running c.self.inside.stored c.args.k c.index.result.now c.index-2.result.now c.in_ok-path.path c.in-Some.outcome outcome c.status_of-status.result
          c.self.view_is (record { is = refl; sound = c.self.invariant.0 }) c.requires.over c.index-2.ensures (c.in_ok-path.ensures ∙ c.path.ensures) c.index.ensures c.in-Some.is c.status_of-status.ensures ends)
          (c.in_err-path-2.ensures.told outcome end),
    ))

pub finish-requires-clause-transition : goal.finish-requires-clause-transition
finish-requires-clause-transition g c =
    let same = end-same c.self.inside.tasks.items c.args.k c.index_mut.result.now c.tell_end.new.end c.index_mut.ensures.value c.in_ok-path-2.ensures.same in
    settle-allowed _ _ c.self.inside.tasks.items c.self.inside.steps.items c.self.inside.log.items c.self.inside.running c.self.inside.stored c.args.k c.index_mut-2.result.now c.index.result.now c.in-Some.outcome c.status_of-status.result c.self.view_is (record { is = refl; sound = c.self.invariant.0 }) c.requires.over
    (subst (λ (ts : List Task). c.index_mut-2.result.now ≡ get_or ts c.args.k c.index_mut-2.result.now) same c.index_mut-2.ensures.value) c.index.ensures c.in-Some.is c.status_of-status.ensures

pub invariant_of-self-2 : goal.invariant_of-self-2
invariant_of-self-2 g c =
    let same = end-same c.self.inside.tasks.items c.args.k c.index_mut.result.now c.tell_end.new.end c.index_mut.ensures.value c.in_ok-path-2.ensures.same in
    let a = settle-writes _ _ c.self.inside.tasks.items _ c.self.inside.steps.items c.self.inside.log.items c.reserve.new.self.items c.push_reserved.new.self.items c.self.inside.running c.self.inside.stored c.outcome_units-units.result c.args.k
    c.index_mut-2.result.now c.index.result.now c.index-2.result.now c.finish.new.self c.in_ok-path-2.path c.in-Some.outcome c.status_of-status.result
    c.self.view_is refl same (record { is = refl; sound = c.self.invariant.0 }) c.requires.over c.requires.kept c.index_mut-2.ensures.value c.finish.ensures c.index-2.ensures (c.in_ok-path-2.ensures.path ∙ c.in_ok-path.ensures ∙ c.path.ensures) c.index.ensures c.in-Some.is c.status_of-status.ensures c.outcome_units-units.ensures c.if-units-self.false c.in_ok-reserve.ensures.items c.push_reserved.ensures.items in
    (a.sound, indexed-behind _ c.args.self.now (settled_as c.args.self.now c.args.k c.in-Some.outcome) _ c.self.inside.places c.self.inside.mains c.self.view_is c.self.invariant.1 refl refl a.view, c.self.invariant.2, omega (arith, c.in_ok-reserve.ensures.ok, c.push_reserved.ensures.len, c.push_reserved.ensures.capacity))

pub returns-clause-ok : goal.returns-clause-ok
returns-clause-ok g c outcome ends =
    let same = end-same c.self.inside.tasks.items c.args.k c.index_mut.result.now c.tell_end.new.end c.index_mut.ensures.value c.in_ok-path-2.ensures.same in
    let a = settle-writes _ _ c.self.inside.tasks.items _ c.self.inside.steps.items c.self.inside.log.items c.reserve.new.self.items c.push_reserved.new.self.items c.self.inside.running c.self.inside.stored c.outcome_units-units.result c.args.k
    c.index_mut-2.result.now c.index.result.now c.index-2.result.now c.finish.new.self c.in_ok-path-2.path c.in-Some.outcome c.status_of-status.result
    c.self.view_is refl same (record { is = refl; sound = c.self.invariant.0 }) c.requires.over c.requires.kept c.index_mut-2.ensures.value c.finish.ensures c.index-2.ensures (c.in_ok-path-2.ensures.path ∙ c.in_ok-path.ensures ∙ c.path.ensures) c.index.ensures c.in-Some.is c.status_of-status.ensures c.outcome_units-units.ensures c.if-units-self.false c.in_ok-reserve.ensures.items c.push_reserved.ensures.items in
    let found = settle-found _ _ c.self.inside.tasks.items c.self.inside.steps.items c.self.inside.log.items c.self.inside.running c.self.inside.stored c.args.k c.index.result.now c.in-Some.outcome outcome c.self.view_is (record { is = refl; sound = c.self.invariant.0 }) c.requires.over c.index.ensures c.in-Some.is ends in
    a.view ∙ ap (λ (o : Outcome). settled_as c.args.self.now c.args.k o) found

pub returns-clause-settled : goal.returns-clause-settled
returns-clause-settled g c outcome ends =
    let end = settle-end _ _ c.self.inside.tasks.items c.self.inside.steps.items c.self.inside.log.items c.args.k c.index_mut.result.now outcome c.self.view_is refl c.requires.over c.index_mut.ensures.value ends in
    c.in_ok-path-2.ensures.settled outcome end ∙ ap (λ (s : Settlement). with_settlement s c.args.graph.now)
    (settle-tells _ _ c.self.inside.tasks.items c.self.inside.steps.items c.self.inside.log.items c.self.inside.running c.self.inside.stored c.args.k c.index.result.now c.index-2.result.now c.in_ok-path.path c.in-Some.outcome outcome c.status_of-status.result
    c.self.view_is (record { is = refl; sound = c.self.invariant.0 }) c.requires.over c.index-2.ensures (c.in_ok-path.ensures ∙ c.path.ensures) c.index.ensures c.in-Some.is c.status_of-status.ensures ends)
