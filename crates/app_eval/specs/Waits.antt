-- What a body asks for about a future or an output.
use Rattle.flow_base.specs.declared.value.Value.{Value, out-Value}
use Rattle.flow_meaning.specs.declared.walk.Request.TheVariants as request
use Rattle.flow_meaning.specs.Act.{Act, Ask}
use Rattle.flow_meaning.specs.Told.{awaited_value, awaited_name}

abbrev pub value_asked : Value → Act Value
value_asked f = Ask (request.WaitValue f) (awaited_value (out-Value f))

abbrev pub name_asked : Value → Act Value
name_asked f = Ask (request.WaitName f) awaited_name
