-- What a body asks is within the limits of values.
use Rattle.std.specs.Prelude.{◌≡◌, true, List, []}
use Rattle.flow_base.specs.declared.value.Value.{Value, out-Value}
use Rattle.flow_base.specs.declared.value.Value.TheVariants as v
use Rattle.flow_base.specs.declared.outcome.FileOut.{FileOut}
use Rattle.flow_base.specs.declared.outcome.Outcome.TheVariants as o
use Rattle.flow_base.specs.declared.outcome.Ended.{Ended}
use Rattle.flow_base.specs.declared.outcome.Ended.TheVariants as ended
use Rattle.flow_base.specs.Values.{fits}
use Rattle.flow_meaning.specs.declared.walk.Request.{Request}
use Rattle.flow_meaning.specs.declared.walk.Request.TheVariants as request
use Rattle.flow_meaning.specs.declared.walk.Answer.{Answer}
use Rattle.flow_meaning.specs.declared.walk.Answer.TheVariants as answer
use Rattle.flow_meaning.specs.Act.{Act}
use Rattle.flow_meaning.specs.Inputs.{Path}
use Rattle.flow_meaning.specs.Meaning.{Done, file_fits}
use Rattle.body_requests.specs.Asks.{Each, Asks, IsFuture}

abbrev pub IsWithin : Value → Type 0
IsWithin v = fits v ≡ true

abbrev pub FileWithin : FileOut → Type 0
FileWithin f = file_fits f.name f.content ≡ true

-- a call is answered by a future, and a wait by a value and files within the limits
abbrev pub AnswerWithin : Answer → Type 0
AnswerWithin (answer.Called future) = IsFuture (out-Value future)
AnswerWithin (answer.Outcome (o.Value value files)) = IsWithin value × Each FileWithin files
AnswerWithin _ = Unit {0}

-- each argument, the name of each output as a text, and what is printed
abbrev pub RequestWithin : List Path → Request → Type 0
RequestWithin ps (request.Call app arguments names) = Each IsWithin arguments × Each (λ t. IsWithin (v.Text t)) names
RequestWithin ps (request.Print value) = IsWithin value
RequestWithin ps _ = Unit {0}

abbrev pub DoneWithin : List Path → Done → Type 0
DoneWithin ps d = IsWithin d.0 × Each FileWithin d.1

abbrev pub AsksWithin : Act Done → Type 0
AsksWithin = Asks RequestWithin AnswerWithin DoneWithin []

abbrev pub EndsWithin : Ended → Type 0
EndsWithin (ended.Value value files) = IsWithin value × Each FileWithin files
EndsWithin (ended.Raised exception) = Unit {0}
