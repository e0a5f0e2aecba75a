use Rattle.std.proofs.Common.{◌≡◌, ◌+◌, min, ◌^◌, ◌-◌, sum, map, take}
use Rattle.flow_base.specs.Values.{units}
use Rattle.stored_units.specs.Stored.{name_units}
use Rattle.stored_units.proofs.units.call_units.Given as goal

abbrev pub invariant-loop-argument : goal.invariant-loop-argument
invariant-loop-argument l = l.sum ≡ min (sum (map units (take l.argument-index l.arguments))) (2 ^ 64 - 1)

abbrev pub invariant-loop-name : goal.invariant-loop-name
invariant-loop-name l = l.sum ≡ min (sum (map units l.arguments) + sum (map name_units (take l.name-index l.names))) (2 ^ 64 - 1)
