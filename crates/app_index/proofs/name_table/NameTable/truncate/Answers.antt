use Rattle.app_index.proofs.Keys.{kept}
use Rattle.app_index.proofs.name_table.NameTable.truncate.Goals as goal

pub returns : goal.returns
returns c = kept c.self.inside.names.keys c.truncate.new.self.keys c.args.self.now c.args.count c.self.view_is c.truncate.ensures.keys
