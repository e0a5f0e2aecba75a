-- The values that the code's own types stand for.
use Rattle.flow_base.specs.declared.value.Value.{Value}
use Rattle.app_eval.specs.declared.operand.Source.{Source}
use Rattle.app_eval.specs.declared.operand.Source.TheVariants.{Kept, Made}

abbrev pub value_in : Source → Value
value_in (Kept value) = value.now
value_in (Made value) = value
