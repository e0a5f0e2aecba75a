use Rattle.std.proofs.Common.{◌≡◌, drop, not, ◌&&◌}
use Rattle.std.specs.List.{list_any}
use Rattle.flow_base.specs.declared.value.Value.{out-Value}
use Rattle.flow_base.specs.Values.{is_plain}
use Rattle.flow_meaning.specs.Inputs.{is_list}
use Rattle.dependency_graph.proofs.deep.is_deep.Given as goal

abbrev pub invariant-loop-item : goal.invariant-loop-item
invariant-loop-item l = list_any (λ v. is_list (out-Value v) && not (is_plain v)) (drop l.item-index l.item-items) ≡ list_any (λ v. is_list (out-Value v) && not (is_plain v)) l.item-items
