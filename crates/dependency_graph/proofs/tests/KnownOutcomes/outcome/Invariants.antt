use Rattle.std.proofs.Common.{◌≡◌, List, [], map, drop}
use Rattle.flow_base.specs.declared.outcome.TaskEnd.{TaskEnd}
use Rattle.flow_meaning.specs.Sequential.{Tasks, outcome_at}
use Rattle.dependency_graph.proofs.tests.KnownOutcomes.outcome.Given as goal

abbrev pub invariant-loop-end : goal.invariant-loop-end
invariant-loop-end l =
    let tasks_of : List TaskEnd → Tasks = map (λ e. record { path = e.path; app = 0; arguments = []; names = []; inputs = []; outcome = e.outcome }) in
    outcome_at (tasks_of (drop l.end-index l.end-items)) l.path ≡ outcome_at (tasks_of l.end-items) l.path
