use Rattle.app_index.proofs.Keys.{distinct}
use Rattle.app_index.proofs.name_table.NameTable.len.Goals as goal

pub returns-clause-distinct : goal.returns-clause-distinct
returns-clause-distinct c = distinct c.self.inside.names.keys c.args.self.now c.self.view_is c.len.ensures.unique
