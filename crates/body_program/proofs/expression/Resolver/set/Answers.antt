use Rattle.body_program.proofs.Following.{set_follows}
use Rattle.body_program.proofs.expression.Resolver.set.Goals as goal

pub returns-clause-follows : goal.returns-clause-follows
returns-clause-follows c = set_follows _ c.in_ok-slot.slot c.args.name.now c.in_ok-value.value c.args.e.now c.in_ok-value.ensures.means c.slot.ensures.grows c.in_ok-slot.ensures.slot c.set_slot.ensures.sets
