use Rattle.std.proofs.Common.{refl, arith}
use Rattle.kernel_model.specs.Acts.{finished}
use Rattle.kernel_core.proofs.StateViews.{indexed-behind}
use Rattle.kernel_core.proofs.TaskActs.{finish-counted, finish-keeps}
use Rattle.kernel_core.proofs.run_state.RunState.finish.Goals as goal

pub overflow_sub-self : goal.overflow_sub-self
overflow_sub-self c = finish-counted _ _ c.self.inside.tasks.items c.self.inside.steps.items c.self.inside.log.items c.args.k c.self.inside.running c.self.inside.stored c.args.outcome c.self.view_is (record { is = refl; sound = c.self.invariant.0 }) c.requires.can

pub push_reserved-requires : goal.push_reserved-requires
push_reserved-requires c =
    let one = finish-counted _ _ c.self.inside.tasks.items c.self.inside.steps.items c.self.inside.log.items c.args.k c.self.inside.running c.self.inside.stored c.args.outcome c.self.view_is (record { is = refl; sound = c.self.invariant.0 }) c.requires.can in
    omega (arith, one, c.self.invariant.3)

pub invariant_of-self : goal.invariant_of-self
invariant_of-self c =
    let one = finish-counted _ _ c.self.inside.tasks.items c.self.inside.steps.items c.self.inside.log.items c.args.k c.self.inside.running c.self.inside.stored c.args.outcome c.self.view_is (record { is = refl; sound = c.self.invariant.0 }) c.requires.can in
    let a = finish-keeps _ _ c.self.inside.tasks.items c.self.inside.steps.items c.self.inside.log.items c.push_reserved.new.self.items c.self.inside.running c.self.inside.stored c.args.k
    c.index_mut.result.now c.index.result.now c.index_mut-2.result.now c.running_ended.new.self c.args.path c.attempts-attempt.result c.args.word c.args.outcome
    c.self.view_is (record { is = refl; sound = c.self.invariant.0 }) c.requires.can c.index_mut.ensures.value c.running_ended.ensures c.index.ensures c.attempts-attempt.ensures c.index_mut-2.ensures.value c.requires.path c.requires.word c.push_reserved.ensures.items in
    (a.sound, indexed-behind _ c.args.self.now (finished c.args.self.now c.args.k c.args.outcome) _ c.self.inside.places c.self.inside.mains c.self.view_is c.self.invariant.1 refl refl a.view, c.self.invariant.2, omega (arith, one, c.self.invariant.3, c.push_reserved.ensures.len, c.push_reserved.ensures.capacity))

pub returns : goal.returns
returns c =
    let a = finish-keeps _ _ c.self.inside.tasks.items c.self.inside.steps.items c.self.inside.log.items c.push_reserved.new.self.items c.self.inside.running c.self.inside.stored c.args.k
    c.index_mut.result.now c.index.result.now c.index_mut-2.result.now c.running_ended.new.self c.args.path c.attempts-attempt.result c.args.word c.args.outcome
    c.self.view_is (record { is = refl; sound = c.self.invariant.0 }) c.requires.can c.index_mut.ensures.value c.running_ended.ensures c.index.ensures c.attempts-attempt.ensures c.index_mut-2.ensures.value c.requires.path c.requires.word c.push_reserved.ensures.items in
    a.view
