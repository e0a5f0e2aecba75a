-- What a body asks: it names only the futures that it was told of.
use Rattle.std.specs.Prelude.{◌≡◌, ℕ, true, List, [], ◌∷◌, ◌++◌, length, flat_map, Contains, Option, Some, None, slice_get}
use Rattle.flow_base.specs.declared.value.Value.{Value, fold-Value, out-Value}
use Rattle.flow_base.specs.declared.value.Value.TheOpen.{Value-F}
use Rattle.flow_base.specs.declared.outcome.Outcome.TheVariants as o
use Rattle.flow_base.specs.declared.outcome.Ended.{Ended}
use Rattle.flow_base.specs.declared.outcome.Ended.TheVariants as ended
use Rattle.flow_base.specs.Values.{is_plain}
use Rattle.script_tree.specs.declared.tree.AppDef.{AppDef}
use Rattle.script_tree.specs.Rules.{outputs_of}
use Rattle.script_tree.specs.declared.body_kind.BodyKind.{BodyKind}
use Rattle.script_tree.specs.declared.body_kind.BodyKind.TheVariants.{Plain, Join, OfMain}
use Rattle.flow_meaning.specs.declared.walk.Request.{Request}
use Rattle.flow_meaning.specs.declared.walk.Request.TheVariants as request
use Rattle.flow_meaning.specs.declared.walk.Answer.{Answer}
use Rattle.flow_meaning.specs.declared.walk.Answer.TheVariants as answer
use Rattle.flow_meaning.specs.Act.{Act, Give, Throw, Ask}
use Rattle.flow_meaning.specs.Inputs.{Path, path_in}
use Rattle.flow_meaning.specs.Meaning.{Done}
use Rattle.flow_meaning.specs.Operators.{Layer}

abbrev pub Each : {A : Type 0} → (A → Type 0) → List A → Type 0
Each P [] = Unit {0}
Each P (x ∷ xs) = P x × Each P xs

-- ---- values

-- the paths of the futures and outputs that stand in a value, at any depth
abbrev pub paths_step : Value-F (List Path) → List Path
paths_step (Value-F.List pss) = flat_map (λ ps. ps) pss
paths_step (Value-F.Future path outputs) = path ∷ []
paths_step (Value-F.Output path index) = path ∷ []
paths_step _ = []

unfoldable pub all_paths : Value → List Path
all_paths = fold-Value (List Path) paths_step

abbrev pub NamesOnly : List Path → Value → Type 0
NamesOnly ps v = Each (Contains ps) (all_paths v)

abbrev pub IsPlain : Value → Type 0
IsPlain v = is_plain v ≡ true

-- ---- acts

-- the path that an answer tells of
abbrev pub told_by : Answer → List Path
told_by (answer.Called future) = path_in (out-Value future)
told_by _ = []

-- the paths that these answers tell of, behind those told before
abbrev pub told_after : List Path → List Answer → List Path
told_after ps [] = ps
told_after ps (r ∷ rs) = told_after (told_by r ++ ps) rs

-- Each request fits what was told so far, where each answer is one that counts; and so does what it gives.
module _ (Fits : List Path → Request → Type 0) (Counts : Answer → Type 0) where
  abbrev pub Asks : {A : Type 0} → (List Path → A → Type 0) → List Path → Act A → Type 0
  Asks P ps (Give x) = P ps x
  Asks P ps (Throw exception) = Unit {0}
  Asks P ps (Ask request go) = Fits ps request × ((r : Answer) → Counts r → Asks P (told_by r ++ ps) (go r))

-- ---- futures that were told

abbrev pub IsFuture : Layer → Type 0
IsFuture (Value-F.Future path outputs) = Unit {0}
IsFuture _ = ⊥

-- a call is answered by a future, and a wait by a plain value
abbrev pub IsAnswer : Answer → Type 0
IsAnswer (answer.Called future) = IsFuture (out-Value future)
IsAnswer (answer.Outcome (o.Value value files)) = IsPlain value
IsAnswer _ = Unit {0}

-- a future or an output that was told
abbrev pub IsTold : List Path → Layer → Type 0
IsTold ps (Value-F.Future path outputs) = Contains ps path
IsTold ps (Value-F.Output path index) = Contains ps path
IsTold ps _ = ⊥

abbrev pub RequestTold : List Path → Request → Type 0
RequestTold ps (request.Call app arguments names) = Each (NamesOnly ps) arguments
RequestTold ps (request.WaitValue f) = IsTold ps (out-Value f)
RequestTold ps (request.WaitName f) = IsTold ps (out-Value f)
RequestTold ps (request.Print value) = NamesOnly ps value
RequestTold ps request.Checkpoint = Unit {0}

abbrev pub DoneTold : List Path → Done → Type 0
DoneTold ps d = NamesOnly ps d.0

abbrev pub AsksTold : List Path → Act Done → Type 0
AsksTold = Asks RequestTold IsAnswer DoneTold

abbrev pub EndsPlain : Ended → Type 0
EndsPlain (ended.Value value files) = IsPlain value
EndsPlain (ended.Raised exception) = Unit {0}

-- ---- what the static rules leave to each kind of body

abbrev pub IsDeclared : Option AppDef → ℕ → ℕ → Type 0
IsDeclared (Some a) arguments names = (length a.parameters ≡ arguments) × (outputs_of a.outputs ≡ names)
IsDeclared None arguments names = ⊥

-- A plain app asks nothing, a join only calls, and each call is of an app of the script with as many arguments and
-- names as it has.
abbrev pub RequestIn : BodyKind → List AppDef → Request → Type 0
RequestIn Plain apps w = ⊥
RequestIn b apps (request.Call app arguments names) = IsDeclared (slice_get apps app) (length arguments) (length names)
RequestIn Join apps w = ⊥
RequestIn OfMain apps w = Unit {0}

abbrev pub AnyAnswer : Answer → Type 0
AnyAnswer r = Unit {0}

abbrev pub AnyDone : List Path → Done → Type 0
AnyDone ps d = Unit {0}

abbrev pub AsksWell : BodyKind → List AppDef → Act Done → Type 0
AsksWell b apps = Asks (λ ps. RequestIn b apps) AnyAnswer AnyDone []

-- it asks for nothing
abbrev pub AsksNothing : Act Done → Type 0
AsksNothing (Give d) = Unit {0}
AsksNothing (Throw exception) = Unit {0}
AsksNothing (Ask w go) = ⊥
