use Rattle.std.proofs.Common.{◌≡◌, min, ◌^◌, ◌-◌, map, take}
use Rattle.flow_base.specs.Values.{levels, greatest}
use Rattle.flow_base.proofs.value.Value.+levels.Given as goal

abbrev pub invariant-loop-item : goal.invariant-loop-item
invariant-loop-item l = l.deepest ≡ min (greatest (map levels (take l.item-index l.item-items))) (2 ^ 32 - 1)
