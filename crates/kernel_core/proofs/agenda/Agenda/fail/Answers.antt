use Rattle.std.proofs.Common.{refl, arith}
use Rattle.flow_base.specs.declared.outcome.Outcome.TheVariants as o
use Rattle.task_record.specs.declared.status.Status.TheVariants as status
use Rattle.kernel_model.proofs.KeepingTasks.{keep-failed}
use Rattle.kernel_core.proofs.CarriedOut.{pending-idle, idle-opened, idle-counts, idle-serves}
use Rattle.kernel_core.proofs.agenda.Agenda.fail.Goals as goal

pub fail-requires-clause-opened : goal.fail-requires-clause-opened
fail-requires-clause-opened g c = idle-opened _ _ c.args.state.now c.args.k status.Pending pending-idle c.requires.can.callback.pending c.self.view_is c.facts.ensures.fact c.requires.serves

pub overflow_sub-self : goal.overflow_sub-self
overflow_sub-self g c = idle-counts _ _ c.args.state.now c.args.k status.Pending pending-idle c.requires.can.callback.pending c.self.view_is c.facts.ensures.fact c.requires.serves

pub returns-clause-serves : goal.returns-clause-serves
returns-clause-serves g c =
    let counts = idle-counts _ _ c.args.state.now c.args.k status.Pending pending-idle c.requires.can.callback.pending c.self.view_is c.facts.ensures.fact c.requires.serves in
    idle-serves _ _ c.args.state.now c.args.k status.Pending pending-idle c.requires.can.callback.pending c.self.view_is c.facts.ensures.fact c.requires.serves _ c.fail.new.self (o.Failed c.args.exception) (keep-failed c.args.state.now c.args.k c.args.exception c.facts.ensures.fact.inv c.requires.can) c.in_ok-fail.ensures.ok c.in_ok-fail.ensures.settled refl refl refl (omega arith) (omega (arith, counts))
