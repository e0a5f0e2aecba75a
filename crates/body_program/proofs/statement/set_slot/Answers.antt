use Rattle.std.proofs.Common.{ap, sym, ◌∙◌}
use Rattle.body_program.specs.declared.code.Code.TheVariants.{Two}
use Rattle.body_program.proofs.Appending.{appends, set_sets, sets_as}
use Rattle.body_program.proofs.statement.set_slot.Goals as goal

pub returns-then-appends_to-clause-sets : goal.returns-then-appends_to-clause-sets
returns-then-appends_to-clause-sets c =
    let is = c.appends_to.ensures.is c.if-appends_to.true in
    appends c.args.slot c.args.value c.in-Two.built_in c.in-Two.list c.into_inner.result (c.in-Two.is ∙ ap (Two c.in-Two.built_in c.in-Two.list) (sym c.into_inner.ensures)) is.0 (sym c.get.ensures ∙ is.1)

pub returns-else-appends_to-clause-sets : goal.returns-else-appends_to-clause-sets
returns-else-appends_to-clause-sets c = sets_as c.args.slot c.args.value (Two c.in-Two.built_in c.in-Two.list c.in-Two.item) c.in-Two.is

pub returns-in_default-clause-sets : goal.returns-in_default-clause-sets
returns-in_default-clause-sets c = set_sets c.args.slot c.args.value
