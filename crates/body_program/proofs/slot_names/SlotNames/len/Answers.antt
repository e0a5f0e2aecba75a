use Rattle.body_program.proofs.Keys.{distinct}
use Rattle.body_program.proofs.slot_names.SlotNames.len.Goals as goal

pub returns-clause-distinct : goal.returns-clause-distinct
returns-clause-distinct c = rw (← c.self.view_is) (distinct c.self.inside.names c.len.ensures.distinct)
