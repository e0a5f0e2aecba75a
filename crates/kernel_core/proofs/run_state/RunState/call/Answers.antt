use Rattle.std.proofs.Common.{◌<◌, ◌^◌, [], refl, arith}
use Rattle.kernel_core.proofs.MainWrites.{call-adds, names-fit}
use Rattle.kernel_core.proofs.run_state.RunState.call.Goals as goal

pub overflow_cast-future : goal.overflow_cast-future
overflow_cast-future g c =
    let small : c.len-2.result < 2 ^ 32 = rw c.len-2.ensures (names-fit c.self.inside.stored c.call_units-units.result c.args.arguments c.args.names (rw (← c.as_slice.ensures, ← c.as_slice-2.ensures) c.call_units-units.ensures) c.if-units-self.false) in
    omega arith

pub submit-requires-clause-adds : goal.submit-requires-clause-adds
submit-requires-clause-adds g c =
    let k = c.self.inside in
    call-adds _ k.script.tree k.tasks.items k.steps.items k.arrived k.ending k.memo k.log.items k.refusal [] k.running k.stored c.call_units-units.result c.len.result k.mains c.args.app c.args.arguments c.args.names c.in_ok-path.path k.places c.self.invariant.0 c.self.invariant.1 c.self.view_is
    (omega (arith, c.len.ensures)) (let few = c.if-len-ge-MAX_TASKS.false in omega (arith, c.len.ensures)) (rw c.new.ensures at c.in_ok-path.ensures) (rw (← c.as_slice.ensures, ← c.as_slice-2.ensures) c.call_units-units.ensures) c.if-units-self.false

pub returns-clause-future : goal.returns-clause-future
returns-clause-future g c =
    let k = c.self.inside in
    let adds = call-adds _ k.script.tree k.tasks.items k.steps.items k.arrived k.ending k.memo k.log.items k.refusal [] k.running k.stored c.call_units-units.result c.len.result k.mains c.args.app c.args.arguments c.args.names c.in_ok-path.path k.places c.self.invariant.0 c.self.invariant.1 c.self.view_is
    (omega (arith, c.len.ensures)) (let few = c.if-len-ge-MAX_TASKS.false in omega (arith, c.len.ensures)) (rw c.new.ensures at c.in_ok-path.ensures) (rw (← c.as_slice.ensures, ← c.as_slice-2.ensures) c.call_units-units.ensures) c.if-units-self.false in
    rw (c.in_ok-copy.ensures, c.len-2.ensures, adds.path_is) refl
