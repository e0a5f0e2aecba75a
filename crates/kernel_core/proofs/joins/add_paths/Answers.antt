use Rattle.kernel_core.proofs.Joining.{path-new}
use Rattle.kernel_core.proofs.joins.add_paths.Goals as goal

pub add-requires : goal.add-requires
add-requires c = path-new c.args.places.now c.loop-task.places c.args.tasks.now c.loop-task.task-index c.task-item.result c.path.result.now c.requires.distinct c.loop-task.invariant c.loop-task-test.true c.task-item.is c.path.ensures
