use Rattle.std.proofs.Common.{◌∙◌}
use Rattle.app_index.proofs.Numbers.{none_named, one_named}
use Rattle.app_index.proofs.apps.Apps.named.Goals as goal

pub returns-in-None : goal.returns-in-None
returns-in-None c = none_named c.self.inside.apps.now c.args.self.now c.self.inside.numbers.entries c.args.name.now c.self.view_is c.self.invariant c.in-None.ensures.value

pub returns-in-Some : goal.returns-in-Some
returns-in-Some c = c.at.ensures ∙ (one_named c.self.inside.apps.now c.args.self.now c.self.inside.numbers.entries c.args.name.now c.self.view_is c.self.invariant c.in-Some.number.now c.in-Some.ensures.value)
