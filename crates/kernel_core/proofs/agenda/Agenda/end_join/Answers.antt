use Rattle.std.proofs.Common.{refl, arith}
use Rattle.std.proofs.lemmas.Result.{err_from_is_err_and}
use Rattle.task_record.specs.declared.status.Status.TheVariants as status
use Rattle.kernel_model.proofs.KeepingTasks.{keep-join-ended}
use Rattle.kernel_core.proofs.CarriedOut.{joining-idle, idle-opened, idle-counts, idle-serves, ended-undone}
use Rattle.kernel_core.proofs.agenda.Agenda.end_join.Goals as goal

pub end_join-requires-clause-opened : goal.end_join-requires-clause-opened
end_join-requires-clause-opened g c = idle-opened _ _ c.args.state.now c.args.k status.Joining joining-idle c.requires.over.done.joining c.self.view_is c.facts.ensures.fact c.requires.serves

pub returns-in_err-end_join-clause-err : goal.returns-in_err-end_join-clause-err
returns-in_err-end_join-clause-err g c =
    let p = err_from_is_err_and c.from_residual.result c.from_residual.ensures.1 in
    rw (p.1, p.2) (ended-undone _ _ c.args.state.now c.end_join.new.self c.args.k c.end_join.new.graph.told _ c.self.view_is c.requires.over c.in_err-end_join.ensures.err c.in_err-end_join.ensures.told c.in_err-end_join.ensures.refused)

pub overflow_sub-self : goal.overflow_sub-self
overflow_sub-self g c = idle-counts _ _ c.args.state.now c.args.k status.Joining joining-idle c.requires.over.done.joining c.self.view_is c.facts.ensures.fact c.requires.serves

pub returns-clause-serves : goal.returns-clause-serves
returns-clause-serves g c =
    let counts = idle-counts _ _ c.args.state.now c.args.k status.Joining joining-idle c.requires.over.done.joining c.self.view_is c.facts.ensures.fact c.requires.serves in
    let done = c.requires.over.done in
    idle-serves _ _ c.args.state.now c.args.k status.Joining joining-idle c.requires.over.done.joining c.self.view_is c.facts.ensures.fact c.requires.serves _ c.end_join.new.self _ (keep-join-ended c.args.state.now c.args.k _ c.facts.ensures.fact.inv (record { not_ended = c.requires.over.not_ended; done = done; is = refl })) (c.in_ok-end_join.ensures.ok done) (c.in_ok-end_join.ensures.settled done) refl refl refl (omega arith) (omega (arith, counts))
