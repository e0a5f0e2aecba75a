use Rattle.std.proofs.Common.{arith}
use Rattle.dependency_graph.proofs.RowWrites.{room-within, room-here, room-other, rows-pushed}
use Rattle.dependency_graph.proofs.rows.push_one.Goals as goal

pub index_mut-requires : goal.index_mut-requires
index_mut-requires c = let below = room-within c.args.rows.now.items c.args.n c.requires in omega (arith, below)

pub push_reserved-requires : goal.push_reserved-requires
push_reserved-requires c = room-here c.args.rows.now.items c.args.n _ c.requires c.index_mut.ensures.value

pub returns-clause-pushed : goal.returns-clause-pushed
returns-clause-pushed c = rows-pushed c.args.rows.now.items c.args.n c.args.c _ _ c.index_mut.ensures.value c.push_reserved.ensures.items

pub returns-clause-keeps : goal.returns-clause-keeps
returns-clause-keeps c = record { room = λ m ne h. room-other c.args.rows.now.items c.args.n m _ ne h }
