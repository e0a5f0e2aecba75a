-- How a request of a join's body is answered, and the call that it makes.
use Rattle.std.specs.Prelude.{◌≡◌, ◌<◌, ◌≤◌, ◌^◌, ℕ, List, [], ◌∷◌, ◌++◌, length, Ok, Err}
use Rattle.std.specs.declared.result.Result.{Result}
use Rattle.flow_base.specs.declared.value.Value.{Value}
use Rattle.flow_base.specs.declared.value.Value.TheVariants as v
use Rattle.flow_meaning.specs.declared.walk.Request.{Request}
use Rattle.flow_meaning.specs.declared.walk.Request.TheVariants as request
use Rattle.flow_meaning.specs.declared.walk.Answer.{Answer}
use Rattle.flow_meaning.specs.declared.walk.Answer.TheVariants as answer
use Rattle.flow_meaning.specs.Inputs.{Path}
use Rattle.flow_meaning.specs.Operators.{Text}
use Rattle.call_rules.specs.Calls.{child}
use Rattle.stored_units.specs.Stored.{max_tasks}
use Rattle.join_apps.specs.declared.body.JoinCall.{JoinCall}
use Rattle.join_apps.specs.declared.body.BodyFault.{BodyFault}
use Rattle.join_apps.specs.declared.body.BodyFault.TheVariants.{TooMany, NoMemory}

-- the call behind these
abbrev pub next_call : Path → List JoinCall → ℕ → List Value → List Text → JoinCall
next_call caller calls app arguments names = record { path = child caller (length calls); app = app; arguments = arguments; names = names }

-- One more call is made, and answered by its future; or there are as many as a run may have.
abbrev pub Makes : Path → ℕ → List Value → List Text → List JoinCall → List JoinCall → Result Answer BodyFault → Type 0
Makes caller app arguments names before now (Ok given) =
    (given ≡ answer.Called (v.Future (child caller (length before)) (length names)))
    × (now ≡ before ++ next_call caller before app arguments names ∷ [])
    × (length before < max_tasks)
Makes caller app arguments names before now (Err TooMany) = max_tasks ≤ length before
Makes caller app arguments names before now (Err NoMemory) = Unit {0}

-- a join's body asks for nothing else
abbrev pub Answers : Path → Request → List JoinCall → List JoinCall → Result Answer BodyFault → Type 0
Answers caller (request.Call app arguments names) before now result = Makes caller app arguments names before now result
Answers caller _ before now result = ⊥

-- it is a call, and has fewer names than a future may have outputs
abbrev pub IsShortCall : Request → Type 0
IsShortCall (request.Call app arguments names) = length names < 2 ^ 32
IsShortCall _ = ⊥
