-- How many units a run stores, and its limits.
use Rattle.std.specs.Prelude.{ℕ, ◌+◌, List, length, map, sum}
use Rattle.flow_base.specs.declared.value.Value.{Value}
use Rattle.flow_base.specs.declared.outcome.FileOut.{FileOut}
use Rattle.flow_base.specs.declared.outcome.Outcome.{Outcome}
use Rattle.flow_base.specs.declared.outcome.Outcome.TheVariants as o
use Rattle.flow_base.specs.Values.{units}
use Rattle.flow_meaning.specs.Operators.{Text}

-- the most calls of a run
abbrev pub max_tasks : ℕ
max_tasks = 100000

-- the most units that a run stores
abbrev pub max_stored : ℕ
max_stored = 16777216

abbrev pub name_units : Text → ℕ
name_units name = 1 + length name

-- the units of a call: of its arguments and of its names
abbrev pub call_units : List Value → List Text → ℕ
call_units arguments names = sum (map units arguments) + sum (map name_units names)

abbrev pub file_units : FileOut → ℕ
file_units file = 1 + length file.name + length file.content

-- the units of an outcome: of a value with its files; an exception has none
abbrev pub outcome_units : Outcome → ℕ
outcome_units (o.Value value files) = units value + sum (map file_units files)
outcome_units (o.Failed exception) = 0
