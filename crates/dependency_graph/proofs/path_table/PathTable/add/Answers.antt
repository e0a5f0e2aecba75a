use Rattle.std.proofs.Common.{◌∙◌, vec_items}
use Rattle.dependency_graph.proofs.Places.{one_more}
use Rattle.dependency_graph.proofs.path_table.PathTable.add.Goals as goal

pub returns-clause-added : goal.returns-clause-added
returns-clause-added c = one_more vec_items c.self.inside.paths.keys c.args.self.now c.self.view_is c.insert.new.self.keys c.in_ok-numbers.numbers c.args.path.now (c.in_ok-numbers.ensures.items ∙ c.as_slice.ensures) c.requires c.in_ok-insert.ensures.keys
