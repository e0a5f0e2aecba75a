use Rattle.kernel_core.proofs.Promising.{holds, seen-fact}
use Rattle.kernel_core.proofs.kernel.Kernel.facts.Goals as goal

pub returns-clause-fact : goal.returns-clause-fact
returns-clause-fact g c = seen-fact c.self.inside.state c.args.self.now c.self.inside.agenda.graph.told c.self.view_is c.facts.ensures.fact

pub returns-clause-holds : goal.returns-clause-holds
returns-clause-holds g c = holds c.args.self.now (seen-fact c.self.inside.state c.args.self.now c.self.inside.agenda.graph.told c.self.view_is c.facts.ensures.fact)
