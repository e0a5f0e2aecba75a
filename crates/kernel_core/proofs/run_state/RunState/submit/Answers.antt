use Rattle.std.proofs.Common.{[], refl, arith, ◌∙◌}
use Rattle.kernel_core.proofs.MainWrites.{Writes, adds-few, submit-new, submit-view, submit-sound, submit-indexed}
use Rattle.kernel_core.proofs.run_state.RunState.submit.Goals as goal

pub invariant_of-self : goal.invariant_of-self
invariant_of-self c = rw c.in_err-reserve.ensures.items c.self.invariant

pub invariant_of-self-in_err-reserve-2 : goal.invariant_of-self-in_err-reserve-2
invariant_of-self-in_err-reserve-2 c = rw (c.in_err-reserve-2.ensures.items, c.in_ok-reserve.ensures.items) c.self.invariant

pub invariant_of-self-in_err-reserve-3 : goal.invariant_of-self-in_err-reserve-3
invariant_of-self-in_err-reserve-3 c =
    rw (c.in_err-reserve-3.ensures.items, c.in_err-reserve-3.ensures.len, c.in_err-reserve-3.ensures.err, c.in_ok-reserve-2.ensures.items, c.in_ok-reserve.ensures.items) c.self.invariant

pub invariant_of-self-in_err-add : goal.invariant_of-self-in_err-add
invariant_of-self-in_err-add c = (
  rw (c.in_ok-reserve.ensures.items, c.in_ok-reserve-2.ensures.items, c.in_ok-reserve-3.ensures.items) c.self.invariant.0,
  rw (c.in_err-add.ensures.err, c.in_ok-reserve.ensures.items, c.in_ok-reserve-2.ensures.items, c.in_ok-reserve-3.ensures.items) c.self.invariant.1,
  c.self.invariant.2,
  omega (arith, c.in_ok-reserve-3.ensures.ok, c.in_ok-reserve-3.ensures.len, c.self.invariant.3),
)

pub add-requires : goal.add-requires
add-requires c =
    let k = c.self.inside in
    submit-new _ c.args.self.now k.places k.mains c.args.units c.args.app c.args.arguments c.args.names c.args.path c.self.view_is c.self.invariant.0.fact c.self.invariant.1 c.requires.adds

pub overflow_add-self : goal.overflow_add-self
overflow_add-self c =
    let k = c.self.inside in
    let few = adds-few _ c.args.self.now k.places k.mains c.args.units _ c.args.path c.self.view_is c.self.invariant.1 c.requires.adds in
    omega (arith, few)

pub invariant_of-self-2 : goal.invariant_of-self-2
invariant_of-self-2 c =
    let k = c.self.inside in
    let writes : Writes k.script.tree k.tasks.items c.args.app c.args.arguments c.args.names c.args.path c.len-k.result c.pending.new.self c.in_ok-submitted.submitted c.in_ok-name.name = record {
      number = omega (arith, c.len-k.ensures);
      made = rw (c.pending.ensures, c.new-record.ensures) refl;
      copied = c.in_ok-submitted.ensures;
      named = rw (← c.script.ensures.script, ← c.apps.ensures.apps) c.in_ok-name.ensures;
    } in
    let view = submit-view _ k.script.tree k.tasks.items k.steps.items k.arrived k.ending k.memo k.log.items k.refusal [] k.running k.stored c.args.units c.args.app c.args.arguments c.args.names c.args.path c.len-k.result c.pending.new.self c.in_ok-submitted.submitted c.in_ok-name.name c.self.invariant.0 c.self.view_is c.requires.adds writes in (
      rw (c.push_reserved.ensures.items, c.push_reserved-2.ensures.items, c.push_reserved-3.ensures.items, c.in_ok-reserve.ensures.items, c.in_ok-reserve-2.ensures.items, c.in_ok-reserve-3.ensures.items)
          (submit-sound _ k.script.tree k.tasks.items k.steps.items k.arrived k.ending k.memo k.log.items k.refusal [] k.running k.stored c.args.units c.args.app c.args.arguments c.args.names c.args.path c.len-k.result c.pending.new.self c.in_ok-submitted.submitted c.in_ok-name.name c.self.invariant.0 c.self.view_is c.requires.asks c.requires.adds writes),
      rw (c.push_reserved.ensures.items, c.push_reserved-2.ensures.items, c.push_reserved-3.ensures.items, c.in_ok-reserve.ensures.items, c.in_ok-reserve-2.ensures.items, c.in_ok-reserve-3.ensures.items)
          (submit-indexed _ c.args.self.now _ k.places c.add.new.self k.mains c.args.units c.args.app c.args.arguments c.args.names c.args.path c.self.view_is c.self.invariant.1 c.requires.adds c.in_ok-add.ensures.added view),
      c.self.invariant.2,
      omega (arith, c.in_ok-reserve-3.ensures.ok),
    )

pub returns-clause-ok : goal.returns-clause-ok
returns-clause-ok c =
    let k = c.self.inside in
    let writes : Writes k.script.tree k.tasks.items c.args.app c.args.arguments c.args.names c.args.path c.len-k.result c.pending.new.self c.in_ok-submitted.submitted c.in_ok-name.name = record {
      number = omega (arith, c.len-k.ensures);
      made = rw (c.pending.ensures, c.new-record.ensures) refl;
      copied = c.in_ok-submitted.ensures;
      named = rw (← c.script.ensures.script, ← c.apps.ensures.apps) c.in_ok-name.ensures;
    } in
    rw (c.push_reserved.ensures.items, c.push_reserved-2.ensures.items, c.push_reserved-3.ensures.items, c.in_ok-reserve.ensures.items, c.in_ok-reserve-2.ensures.items, c.in_ok-reserve-3.ensures.items)
    (submit-view _ k.script.tree k.tasks.items k.steps.items k.arrived k.ending k.memo k.log.items k.refusal [] k.running k.stored c.args.units c.args.app c.args.arguments c.args.names c.args.path c.len-k.result c.pending.new.self c.in_ok-submitted.submitted c.in_ok-name.name c.self.invariant.0 c.self.view_is c.requires.adds writes)
