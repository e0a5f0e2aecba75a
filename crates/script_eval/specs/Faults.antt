-- The fault of a limit.
use Rattle.std.specs.Prelude.{◌≡◌, Option, Some}
use Rattle.stored_units.specs.declared.units.Limit.{Limit}
use Rattle.stored_units.specs.declared.units.Limit.TheVariants as limit
use Rattle.script_eval.specs.declared.evaluation.EvalFault.{EvalFault}
use Rattle.script_eval.specs.declared.evaluation.EvalFault.TheVariants.{TaskLimit, StoreLimit, NoMemory}

abbrev pub fault_for : Limit → EvalFault
fault_for limit.Tasks = TaskLimit
fault_for limit.Stored = StoreLimit

-- the fault tells which limit is met
abbrev pub Meets : EvalFault → Option Limit → Type 0
Meets TaskLimit met = met ≡ Some limit.Tasks
Meets StoreLimit met = met ≡ Some limit.Stored
Meets NoMemory met = Unit {0}
