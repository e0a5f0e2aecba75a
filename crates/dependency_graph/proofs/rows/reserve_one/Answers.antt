use Rattle.std.proofs.Common.{arith}
use Rattle.dependency_graph.proofs.RowWrites.{room-at, room-set, rows-same}
use Rattle.dependency_graph.proofs.rows.reserve_one.Goals as goal

pub returns-in_err-reserve-clause-same : goal.returns-in_err-reserve-clause-same
returns-in_err-reserve-clause-same c = rows-same c.args.rows.now.items c.args.n _ _ c.index_mut.ensures.value c.reserve.ensures.items

pub returns-in_err-reserve-clause-keeps : goal.returns-in_err-reserve-clause-keeps
returns-in_err-reserve-clause-keeps c = record { room = λ m h. room-set c.args.rows.now.items c.args.n m _ _ c.index_mut.ensures.value c.reserve.ensures.len c.reserve.ensures.capacity h }

pub returns-clause-same : goal.returns-clause-same
returns-clause-same c = rows-same c.args.rows.now.items c.args.n _ _ c.index_mut.ensures.value c.reserve.ensures.items

pub returns-clause-keeps : goal.returns-clause-keeps
returns-clause-keeps c = record { room = λ m h. room-set c.args.rows.now.items c.args.n m _ _ c.index_mut.ensures.value c.reserve.ensures.len c.reserve.ensures.capacity h }

pub returns-clause-room : goal.returns-clause-room
returns-clause-room c = room-at c.args.rows.now.items c.args.n _ c.requires (omega (arith, c.in_ok-reserve.ensures.ok))
