-- What a body makes of an answer.
use Rattle.std.specs.Prelude.{[], Option, Some, None, slice_get}
use Rattle.flow_base.specs.declared.value.Value.{Value, out-Value}
use Rattle.flow_base.specs.declared.value.Value.TheOpen.{Value-F}
use Rattle.flow_base.specs.declared.value.Value.TheVariants as v
use Rattle.flow_base.specs.declared.outcome.FileOut.{FileOut}
use Rattle.flow_base.specs.declared.outcome.Outcome.{Outcome}
use Rattle.flow_base.specs.declared.outcome.Outcome.TheVariants as o
use Rattle.flow_base.specs.declared.outcome.Exception.TheVariants as x
use Rattle.flow_base.specs.Exceptions.{exception_name}
use Rattle.flow_meaning.specs.declared.walk.Request.TheVariants as request
use Rattle.flow_meaning.specs.declared.walk.Answer.{Answer}
use Rattle.flow_meaning.specs.declared.walk.Answer.TheVariants as answer
use Rattle.flow_meaning.specs.Act.{Act, Give, Throw, Ask}
use Rattle.flow_meaning.specs.Operators.{Layer, Text}

abbrev pub as_file : Option FileOut → Act Value
as_file (Some f) = Give (v.File f.name f.content)
as_file None = Throw x.IndexError

-- the value of a future, and the file of an output
abbrev pub told_value : Layer → Outcome → Act Value
told_value (Value-F.Output path i) (o.Value value files) = as_file (slice_get files i)
told_value _ (o.Value value files) = Give value
told_value _ (o.Failed exception) = Throw exception

-- the empty text for a value
abbrev pub told_name : Outcome → Text
told_name (o.Value value files) = []
told_name (o.Failed exception) = exception_name exception

abbrev pub awaited_value : Layer → Answer → Act Value
awaited_value f (answer.Outcome outcome) = told_value f outcome
awaited_value f _ = Throw x.TypeError

abbrev pub awaited_name : Answer → Act Value
awaited_name (answer.Outcome outcome) = Give (v.Text (told_name outcome))
awaited_name _ = Throw x.TypeError

abbrev pub called_value : Answer → Act Value
called_value (answer.Called future) = Give future
called_value _ = Throw x.TypeError

-- asks, where it is a future or an output
abbrev pub awaits : Layer → Act Value → Act Value
awaits (Value-F.Future path outputs) ask = ask
awaits (Value-F.Output path index) ask = ask
awaits _ ask = Throw x.TypeError

unfoldable pub result_of : Value → Act Value
result_of f = awaits (out-Value f) (Ask (request.WaitValue f) (awaited_value (out-Value f)))

unfoldable pub exception_of : Value → Act Value
exception_of f = awaits (out-Value f) (Ask (request.WaitName f) awaited_name)
