use Rattle.std.proofs.Common.{sym, ◌∙◌}
use Rattle.kernel_core.proofs.Recalled.{may-recall}
use Rattle.kernel_core.proofs.agenda.Agenda.attempt.Goals as goal

pub recall-requires-clause-may : goal.recall-requires-clause-may
recall-requires-clause-may g c = may-recall c.args.state.now c.args.k c.args.values c.in-Some.outcome c.requires.may (sym c.in-Some.is ∙ c.in_ok-outcome.ensures)
