use Rattle.std.proofs.Common.{sym}
use Rattle.dependency_graph.proofs.GraphPlaces.{takes-place, task-there}
use Rattle.dependency_graph.proofs.graph.places_of.Goals as goal

pub unreachable-requires : goal.unreachable-requires
unreachable-requires c = task-there c.args.paths.now c.args.tasks.now c.loop-task.task-index c.task-item.result c.loop-task-test.true c.task-item.is c.loop-task.invariant.there (sym c.in-None.ensures.place)

pub loop-task-preserved : goal.loop-task-preserved
loop-task-preserved c =
    let next = takes-place c.args.paths.now c.args.tasks.now c.loop-task.task-index c.in-Some.place c.task-item.result c.loop-task.places.items c.push.new.self.items c.loop-task-test.true c.task-item.is (sym c.in-Some.ensures.place) c.in_ok-push-in-Some.ensures.items c.loop-task.invariant.there c.loop-task.invariant.same in
    record { there = next.there; same = next.same }
