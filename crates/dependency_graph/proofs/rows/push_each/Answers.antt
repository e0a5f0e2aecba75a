use Rattle.std.proofs.Common.{refl}
use Rattle.dependency_graph.proofs.RowWrites.{push-next}
use Rattle.dependency_graph.proofs.rows.push_each.Goals as goal

pub loop-n-preserved : goal.loop-n-preserved
loop-n-preserved c =
    let i = c.loop-n.invariant in
    let a = push-next c.args.tasks.now c.loop-n.n-index _ c.args.c c.loop-n.rows.items c.push_one.new.rows.items _ c.loop-n-test.true refl i.rows i.distinct i.room c.push_one.ensures.pushed c.push_one.ensures.keeps in
    record { rows = a.rows; distinct = a.distinct; room = a.room }
