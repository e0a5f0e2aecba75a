-- The state of a future, by its outcome.
use Rattle.flow_base.specs.declared.outcome.Outcome.{Outcome}
use Rattle.flow_base.specs.declared.outcome.Outcome.TheVariants as o
use Rattle.dependency_graph.specs.declared.callback.FutureState.{FutureState}
use Rattle.dependency_graph.specs.declared.callback.FutureState.TheVariants as state

abbrev pub state_of : Outcome → FutureState
state_of (o.Value value files) = state.Value
state_of (o.Failed exception) = state.Failed
