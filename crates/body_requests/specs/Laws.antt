-- What is true of every body.
use Rattle.std.specs.Prelude.{◌≡◌, ℕ, false, List, [], Contains, Option, Some, slice_get}
use Rattle.flow_base.specs.declared.value.Value.{Value, out-Value}
use Rattle.script_tree.specs.declared.tree.AppDef.{AppDef}
use Rattle.script_tree.specs.declared.tree.Block.{Block}
use Rattle.script_tree.specs.Grammar.{Tree}
use Rattle.script_tree.specs.declared.body_kind.BodyKind.TheVariants.{OfMain}
use Rattle.script_tree.specs.Rules.{body_of, IsWellFormed}
use Rattle.flow_meaning.specs.declared.walk.Request.TheVariants as request
use Rattle.flow_meaning.specs.declared.walk.Answer.{Answer}
use Rattle.flow_meaning.specs.Run.{Gave, run, request_of}
use Rattle.flow_meaning.specs.Inputs.{Path, inputs}
use Rattle.flow_meaning.specs.Meaning.{Done, body}
use Rattle.flow_meaning.specs.Operators.{Text}
use Rattle.flow_meaning.specs.Sequential.{apply, seq}
use Rattle.flow_meaning.specs.Walk.{main_act, body_act}
use Rattle.body_requests.specs.Asks.{Each, NamesOnly, IsPlain, IsAnswer, IsTold, told_after, AsksTold, EndsPlain, AsksWell, AsksNothing}
use Rattle.body_requests.specs.Ordered.{InOrder, AllGood}
use Rattle.body_requests.specs.Within.{IsWithin, AsksWithin, EndsWithin}

-- main, and a body on plain arguments, name only futures that they were told of
abbrev pub BodiesAskTold : Type 0
BodiesAskTold = (s : Tree) (app : Option AppDef) (arguments : List Value) → Each IsPlain arguments → AsksTold [] (body_act s app arguments)

-- a plain app gives a plain value
abbrev pub AppsGivePlain : Type 0
AppsGivePlain = (app : AppDef) (arguments : List Value) (names : List Text) → Each IsPlain arguments → EndsPlain (apply app arguments names)

-- a call waits only for calls that the same body made before it
abbrev pub CallsWaitForEarlier : Type 0
CallsWaitForEarlier = (s : Tree) (app : Option AppDef) (arguments : List Value) → Each IsPlain arguments → (rs : List Answer) → Each IsAnswer rs
    → (number : ℕ) (given : List Value) (names : List Text) → request_of (run (body_act s app arguments) rs) ≡ Some (request.Call number given names) → Each (Contains (told_after [] rs)) (inputs given)

-- what a body waits for is a call that it made before, or an output of one
abbrev pub WaitsAreTold : Type 0
WaitsAreTold = (s : Tree) (app : Option AppDef) (arguments : List Value) → Each IsPlain arguments → (rs : List Answer) → Each IsAnswer rs
    → (f : Value) → request_of (run (body_act s app arguments) rs) ≡ Some (request.WaitValue f) → IsTold (told_after [] rs) (out-Value f)

-- what a body gives names only calls that it made: a join returns only futures of its own
abbrev pub GivesOwnCalls : Type 0
GivesOwnCalls = (s : Tree) (app : Option AppDef) (arguments : List Value) → Each IsPlain arguments → (rs left : List Answer) → Each IsAnswer rs
    → (d : Done) → run (body_act s app arguments) rs ≡ Gave d left → NamesOnly (told_after [] rs) d.0

-- in a well-formed script each body asks what its kind may ask, and calls apps as they are declared
abbrev pub BodiesAskWell : Type 0
BodiesAskWell = (s : Tree) → IsWellFormed s → AsksWell OfMain s.0 (main_act s)
    × ((k : ℕ) (a : AppDef) (arguments : List Value) → slice_get s.0 k ≡ Some a → AsksWell (body_of a) s.0 (body_act s (Some a) arguments))

-- a plain app of a well-formed script asks for nothing
abbrev pub PlainAppsAskNothing : Type 0
PlainAppsAskNothing = (s : Tree) (k : ℕ) (a : AppDef) (arguments : List Value) (names : List Text) → IsWellFormed s → slice_get s.0 k ≡ Some a → a.join ≡ false → AsksNothing (body [] a.body a.parameters arguments names)

-- a body on arguments within the limits asks within them
abbrev pub BodiesAskWithin : Type 0
BodiesAskWithin = (s : Tree) (app : Option AppDef) (arguments : List Value) → Each IsWithin arguments → AsksWithin (body_act s app arguments)

-- a plain app gives a value and files within the limits
abbrev pub AppsGiveWithin : Type 0
AppsGiveWithin = (app : AppDef) (arguments : List Value) (names : List Text) → Each IsWithin arguments → EndsWithin (apply app arguments names)

-- each task of the sequential evaluation waits only for tasks before it, and its outcome is plain and within the limits
abbrev pub TasksAreOrdered : Type 0
TasksAreOrdered = (apps : List AppDef) (main : Block) (losses : Path → Option ℕ) → InOrder [] (seq apps main losses).tasks × AllGood (seq apps main losses).tasks
