use Rattle.std.proofs.Common.{List, sym, subst}
use Rattle.flow_base.specs.declared.outcome.TaskEnd.{TaskEnd}
use Rattle.dependency_graph.specs.Places.{AreDistinct}
use Rattle.kernel_core.specs.Parts.{ends_paths}
use Rattle.kernel_core.proofs.PartsGiven.{ends-distinct}
use Rattle.kernel_core.proofs.parts.task_ends.Goals as goal

pub sorted_by_path-requires : goal.sorted_by_path-requires
sorted_by_path-requires c = subst (λ (es : List TaskEnd). AreDistinct (ends_paths es)) (sym c.in_ok-ends.ensures) (ends-distinct c.args.apps.now c.args.tasks.items c.requires)
