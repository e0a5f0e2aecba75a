use Rattle.std.proofs.Common.{refl, ◌∙◌, ap, arith}
use Rattle.std.proofs.lemmas.Result.{err_from_is_err_and}
use Rattle.task_record.specs.declared.status.Status.TheVariants as status
use Rattle.kernel_core.proofs.CarriedOut.{pending-idle, idle-opened, idle-counts}
use Rattle.kernel_core.proofs.Recalled.{recall-undone, recalled-serves}
use Rattle.kernel_core.proofs.agenda.Agenda.recall.Goals as goal

pub recall-requires-clause-opened : goal.recall-requires-clause-opened
recall-requires-clause-opened g c = idle-opened _ _ c.args.state.now c.args.k status.Pending pending-idle c.requires.may.callback.pending c.self.view_is c.facts.ensures.fact c.requires.serves

pub returns-in_err-recall-clause-err : goal.returns-in_err-recall-clause-err
returns-in_err-recall-clause-err g c =
    let p = err_from_is_err_and c.from_residual.result c.from_residual.ensures.1 in
    rw (p.1, p.2) (recall-undone _ _ c.args.state.now c.recall.new.self c.args.k c.args.outcome c.recall.new.graph.told _ c.self.view_is c.in_err-recall.ensures.err c.in_err-recall.ensures.told c.in_err-recall.ensures.refused)

pub overflow_sub-self : goal.overflow_sub-self
overflow_sub-self g c = idle-counts _ _ c.args.state.now c.args.k status.Pending pending-idle c.requires.may.callback.pending c.self.view_is c.facts.ensures.fact c.requires.serves

pub returns-clause-serves : goal.returns-clause-serves
returns-clause-serves g c =
    let counts = idle-counts _ _ c.args.state.now c.args.k status.Pending pending-idle c.requires.may.callback.pending c.self.view_is c.facts.ensures.fact c.requires.serves in
    recalled-serves _ _ _ c.args.state.now c.recall.new.self c.args.k c.args.outcome c.self.view_is c.facts.ensures.fact c.requires.may c.requires.serves c.in_ok-recall.ensures.ok c.in_ok-recall.ensures.settled refl refl refl (omega arith) (omega (arith, counts))
