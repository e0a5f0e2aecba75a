use Rattle.kernel_core.proofs.Recalling.{attempt-within, attempt-app}
use Rattle.kernel_core.proofs.run_state.RunState.recollection.Goals as goal

pub is_cached-requires : goal.is_cached-requires
is_cached-requires c = attempt-within c.args.self.now c.args.k c.args.values c.facts.ensures.fact.inv c.requires

pub key-requires-clause-within : goal.key-requires-clause-within
key-requires-clause-within c = attempt-within c.args.self.now c.args.k c.args.values c.facts.ensures.fact.inv c.requires

pub key-requires-clause-there : goal.key-requires-clause-there
key-requires-clause-there c = attempt-app c.args.self.now c.args.k c.args.values c.requires
