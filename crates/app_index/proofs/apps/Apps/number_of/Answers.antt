use Rattle.app_index.proofs.Numbers.{none_placed, one_placed}
use Rattle.app_index.proofs.apps.Apps.number_of.Goals as goal

pub returns-in-None : goal.returns-in-None
returns-in-None c = none_placed c.self.inside.apps.now c.args.self.now c.self.inside.numbers.entries c.args.name.now c.self.view_is c.self.invariant c.in-None.ensures.value

pub returns-in-Some : goal.returns-in-Some
returns-in-Some c = one_placed c.self.inside.apps.now c.args.self.now c.self.inside.numbers.entries c.args.name.now c.self.view_is c.self.invariant c.in-Some.number.now c.in-Some.ensures.value
