use Rattle.std.proofs.Common.{◌≡◌, ◌+◌, min, ◌^◌, ◌-◌, sum, map, take}
use Rattle.flow_base.specs.Values.{units}
use Rattle.flow_base.proofs.value.Value.+size.Given as goal

abbrev pub invariant-loop-item : goal.invariant-loop-item
invariant-loop-item l = l.total ≡ min (1 + sum (map units (take l.item-index l.item-items))) (2 ^ 64 - 1)
