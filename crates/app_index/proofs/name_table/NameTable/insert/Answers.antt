use Rattle.app_index.proofs.Keys.{added, placed}
use Rattle.app_index.proofs.name_table.NameTable.insert.Goals as goal

pub returns-clause-names : goal.returns-clause-names
returns-clause-names c = added c.self.inside.names.keys c.insert_full.new.self.keys c.args.self.now c.args.name c.self.view_is c.in_ok-place.ensures.keys

pub returns-clause-place : goal.returns-clause-place
returns-clause-place c = placed c.insert_full.new.self.keys c.in_ok-place.place c.args.name c.in_ok-place.ensures.stored.0 c.in_ok-place.ensures.stored.1 c.in_ok-place.ensures.stored.2
