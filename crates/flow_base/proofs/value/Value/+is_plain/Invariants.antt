use Rattle.std.proofs.Common.{◌≡◌, map, drop}
use Rattle.std.specs.List.{list_all}
use Rattle.flow_base.specs.Values.{is_plain}
use Rattle.flow_base.proofs.value.Value.+is_plain.Given as goal

abbrev pub invariant-loop-item : goal.invariant-loop-item
invariant-loop-item l = list_all (λ p. p) (map is_plain (drop l.item-index l.item-items)) ≡ list_all (λ p. p) (map is_plain l.item-items)
