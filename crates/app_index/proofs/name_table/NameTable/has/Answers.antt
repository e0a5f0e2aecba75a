use Rattle.app_index.proofs.Keys.{has}
use Rattle.app_index.proofs.name_table.NameTable.has.Goals as goal

pub returns : goal.returns
returns c = has c.self.inside.names.keys c.args.self.now c.args.name.now c.contains.result c.self.view_is c.contains.ensures
