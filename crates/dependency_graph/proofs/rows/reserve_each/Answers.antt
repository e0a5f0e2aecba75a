use Rattle.std.proofs.Common.{refl}
use Rattle.dependency_graph.proofs.RowWrites.{reserve-next}
use Rattle.dependency_graph.proofs.rows.reserve_each.Goals as goal

pub loop-n-preserved : goal.loop-n-preserved
loop-n-preserved c =
    let i = c.loop-n.invariant in
    let done = c.in_ok-reserve_one.ensures in
    let a = reserve-next c.args.tasks.now c.loop-n.n-index _ c.loop-n.rows.items c.reserve_one.new.rows.items _ c.loop-n-test.true refl i.same i.below i.room done.same done.keeps done.room in
    record { same = a.same; below = a.below; room = a.room }
