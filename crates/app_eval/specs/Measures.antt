-- Units and levels that are kept with a value.
use Rattle.std.specs.Prelude.{◌≡◌, ◌+◌, ◌-◌, ◌^◌, min, max, Bool, ◌&&◌, nat_le, Option, Some, None}
use Rattle.flow_base.specs.declared.value.Value.{Value}
use Rattle.flow_base.specs.Values.{units, levels, max_units, max_levels}
use Rattle.app_eval.specs.declared.limits.Measure.{Measure}

abbrev pub IsMeasureOf : Option Measure → Value → Type 0
IsMeasureOf None value = Unit {0}
IsMeasureOf (Some m) value = (m.units ≡ min (units value) (2 ^ 64 - 1)) × (m.levels ≡ min (levels value) (2 ^ 32 - 1))

-- the measure of a list with one more item
abbrev pub with_item : Measure → Value → Measure
with_item m item = record { units = min (m.units + min (units item) (2 ^ 64 - 1)) (2 ^ 64 - 1); levels = max m.levels (min (min (levels item) (2 ^ 32 - 1) + 1) (2 ^ 32 - 1)) }

abbrev pub measure_fits : Measure → Bool
measure_fits m = nat_le m.units max_units && nat_le m.levels max_levels

-- whether two lists joined are within the limits
abbrev pub joined_fits : Value → Value → Bool
joined_fits left right = nat_le (units left + units right) (1 + max_units) && (nat_le (levels left) max_levels && nat_le (levels right) max_levels)
