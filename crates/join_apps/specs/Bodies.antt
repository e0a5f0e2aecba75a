-- What the body of a join calls, and how it ends.
use Rattle.std.specs.Prelude.{◌≡◌, ◌<◌, ◌≤◌, List, length, map, Option, Some, None, Ok, Err}
use Rattle.std.specs.declared.result.Result.{Result}
use Rattle.flow_base.specs.declared.value.Value.{Value}
use Rattle.flow_base.specs.declared.outcome.Exception.{Exception}
use Rattle.flow_base.specs.declared.outcome.Ended.{Ended}
use Rattle.flow_base.specs.declared.outcome.Ended.TheVariants as ended
use Rattle.script_tree.specs.declared.tree.AppDef.{AppDef}
use Rattle.script_tree.specs.Grammar.{Tree}
use Rattle.flow_meaning.specs.Inputs.{Path}
use Rattle.flow_meaning.specs.Meaning.{Done}
use Rattle.call_rules.specs.Calls.{Call, Dry, join_dry}
use Rattle.stored_units.specs.Stored.{max_tasks}
pub use Rattle.compiled_script.specs.Programs.{IsJoin}
use Rattle.join_apps.specs.declared.body.JoinCall.{JoinCall}
use Rattle.join_apps.specs.declared.body.JoinBody.{JoinBody}
use Rattle.join_apps.specs.declared.body.BodyFault.{BodyFault}
use Rattle.join_apps.specs.declared.body.BodyFault.TheVariants.{TooMany, NoMemory}

abbrev pub call_of : JoinCall → Call
call_of c = record { path = c.path; app = c.app; arguments = c.arguments; names = c.names }

abbrev pub calls_of : List JoinCall → List Call
calls_of = map call_of

-- what a body gave, or the exception that it threw, by how it ended
abbrev pub result_of : Ended → Result Done Exception
result_of (ended.Value value files) = Ok (value, files)
result_of (ended.Raised exception) = Err exception

-- these are the calls and the end, and the calls are no more than a run may have; or they are more
abbrev pub Gives : Dry → Result JoinBody BodyFault → Type 0
Gives dry (Ok body) = (calls_of body.calls.items ≡ dry.1) × (result_of body.ended ≡ dry.0) × (length dry.1 ≤ max_tasks)
Gives dry (Err TooMany) = max_tasks < length dry.1
Gives dry (Err NoMemory) = Unit {0}

-- it gives what the body of the app does, without the outcomes of its calls
abbrev pub RunsBody : Tree → Path → Option AppDef → List Value → Result JoinBody BodyFault → Type 0
RunsBody tree path (Some app) arguments result = Gives (join_dry tree.0 path app arguments) result
RunsBody tree path None arguments result = ⊥
