use Rattle.std.proofs.Common.{vec_items}
use Rattle.dependency_graph.proofs.Places.{place_found, distinct_paths}
use Rattle.dependency_graph.proofs.path_table.PathTable.place.Goals as goal

pub returns-clause-place : goal.returns-clause-place
returns-clause-place c = place_found vec_items c.self.inside.paths.keys c.args.self.now c.self.view_is c.as_slice.result.now c.args.path.now c.get_index_of.result c.as_slice.ensures c.get_index_of.ensures.index

pub returns-clause-distinct : goal.returns-clause-distinct
returns-clause-distinct c = distinct_paths vec_items c.self.inside.paths.keys c.args.self.now c.self.view_is c.len.ensures.unique
