use Rattle.std.proofs.Common.{vec_items}
use Rattle.dependency_graph.proofs.Places.{first_ones}
use Rattle.dependency_graph.proofs.path_table.PathTable.truncate.Goals as goal

pub returns : goal.returns
returns c = first_ones vec_items c.self.inside.paths.keys c.args.self.now c.self.view_is c.truncate.new.self.keys c.args.count c.truncate.ensures.keys
