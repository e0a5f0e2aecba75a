use Rattle.app_index.proofs.Numbers.{none_taken, one_taken}
use Rattle.app_index.proofs.apps.Apps.is_taken.Goals as goal

pub returns-in-None : goal.returns-in-None
returns-in-None c = none_taken c.self.inside.apps.now c.args.self.now c.self.inside.numbers.entries c.args.name.now c.self.view_is c.self.invariant c.args.number c.in-None.ensures.value

pub returns-in-Some : goal.returns-in-Some
returns-in-Some c = one_taken c.self.inside.apps.now c.args.self.now c.self.inside.numbers.entries c.args.name.now c.self.view_is c.self.invariant c.args.number c.in-Some.first.now c.in-Some.ensures.value
