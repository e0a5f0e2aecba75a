use Rattle.std.proofs.Common.{refl, arith}
use Rattle.kernel_core.proofs.Joining.{on-err, tasks-distinct, join-writes}
use Rattle.kernel_core.proofs.run_state.RunState.submit_calls.Goals as goal

pub invariant_of-self : goal.invariant_of-self
invariant_of-self c = rw c.in_err-reserve.ensures.items c.self.invariant

pub returns-in_err-reserve-clause-err : goal.returns-in_err-reserve-clause-err
returns-in_err-reserve-clause-err c = on-err c.from_residual-in_err-reserve.result (rw c.in_err-reserve.ensures.items c.self.view_is)

pub invariant_of-self-in_err-reserve-2 : goal.invariant_of-self-in_err-reserve-2
invariant_of-self-in_err-reserve-2 c =
    rw (c.in_err-reserve-2.ensures.items, c.in_err-reserve-2.ensures.len, c.in_err-reserve-2.ensures.err, c.in_ok-reserve.ensures.items) c.self.invariant

pub returns-in_err-reserve-2-clause-err : goal.returns-in_err-reserve-2-clause-err
returns-in_err-reserve-2-clause-err c = on-err c.from_residual-in_err-reserve-2.result (rw (c.in_err-reserve-2.ensures.items, c.in_ok-reserve.ensures.items) c.self.view_is)

pub add_paths-requires-clause-distinct : goal.add_paths-requires-clause-distinct
add_paths-requires-clause-distinct c = tasks-distinct _ c.args.self.now c.self.inside.places c.self.inside.mains c.args.k c.args.ended c.args.calls.items c.args.units c.in_ok-tasks.tasks.items c.as_slice-2.result.now
    c.self.view_is c.self.invariant.0.fact.inv c.self.invariant.1 c.requires c.in_ok-tasks.ensures c.as_slice-2.ensures.value

pub invariant_of-self-in_err-add_paths : goal.invariant_of-self-in_err-add_paths
invariant_of-self-in_err-add_paths c = (
  rw (c.in_ok-reserve.ensures.items, c.in_ok-reserve-2.ensures.items) c.self.invariant.0,
  rw (c.in_err-add_paths.ensures.err, c.in_ok-reserve.ensures.items, c.in_ok-reserve-2.ensures.items) c.self.invariant.1,
  c.self.invariant.2,
  omega (arith, c.in_ok-reserve-2.ensures.ok, c.in_ok-reserve-2.ensures.len, c.self.invariant.3),
)

pub returns-in_err-add_paths-clause-err : goal.returns-in_err-add_paths-clause-err
returns-in_err-add_paths-clause-err c = on-err c.from_residual-in_err-add_paths.result (rw (c.in_ok-reserve.ensures.items, c.in_ok-reserve-2.ensures.items) c.self.view_is)

pub invariant_of-self-2 : goal.invariant_of-self-2
invariant_of-self-2 c =
    let a = join-writes _ c.args.self.now c.self.inside.places c.add_paths.new.places c.self.inside.tasks.items c.reserve.new.self.items c.append_reserved.new.list.items c.in_ok-tasks.tasks.items c.self.inside.steps.items c.self.inside.log.items c.reserve-2.new.self.items c.append_reserved-2.new.list.items c.in_ok-entries.entries.items
    c.self.inside.running c.self.inside.stored c.args.units c.self.inside.mains c.args.k c.args.ended c.args.calls.items c.index_mut.result.now c.index_mut-2.result.now c.index.result.now c.joining.new.self c.path.result.now c.self.inside.script.tree refl
    c.self.view_is (record { is = refl; sound = c.self.invariant.0 }) c.self.invariant.1 c.requires
    c.in_ok-reserve.ensures.items c.index_mut.ensures.value c.joining.ensures c.index_mut-2.ensures.value c.index.ensures c.path.ensures
    c.in_ok-tasks.ensures c.append_reserved.ensures.items
    (rw (← c.script.ensures.script, ← c.apps.ensures.apps, ← c.as_slice.ensures.value) c.in_ok-entries.ensures) c.in_ok-reserve-2.ensures.items c.append_reserved-2.ensures.items
    (rw (← c.as_slice-2.ensures.value) c.in_ok-add_paths.ensures.ok) in
    (a.wrote.sound, a.indexed, c.self.invariant.2, omega (arith, c.in_ok-reserve-2.ensures.ok, c.len-2.ensures, c.append_reserved-2.ensures.len, c.append_reserved-2.ensures.capacity))

pub returns-clause-ok : goal.returns-clause-ok
returns-clause-ok c =
    let a = join-writes _ c.args.self.now c.self.inside.places c.add_paths.new.places c.self.inside.tasks.items c.reserve.new.self.items c.append_reserved.new.list.items c.in_ok-tasks.tasks.items c.self.inside.steps.items c.self.inside.log.items c.reserve-2.new.self.items c.append_reserved-2.new.list.items c.in_ok-entries.entries.items
    c.self.inside.running c.self.inside.stored c.args.units c.self.inside.mains c.args.k c.args.ended c.args.calls.items c.index_mut.result.now c.index_mut-2.result.now c.index.result.now c.joining.new.self c.path.result.now c.self.inside.script.tree refl
    c.self.view_is (record { is = refl; sound = c.self.invariant.0 }) c.self.invariant.1 c.requires
    c.in_ok-reserve.ensures.items c.index_mut.ensures.value c.joining.ensures c.index_mut-2.ensures.value c.index.ensures c.path.ensures
    c.in_ok-tasks.ensures c.append_reserved.ensures.items
    (rw (← c.script.ensures.script, ← c.apps.ensures.apps, ← c.as_slice.ensures.value) c.in_ok-entries.ensures) c.in_ok-reserve-2.ensures.items c.append_reserved-2.ensures.items
    (rw (← c.as_slice-2.ensures.value) c.in_ok-add_paths.ensures.ok) in
    a.wrote.view
