-- What the functions on a frame return.
use Rattle.std.specs.Prelude.{◌≡◌, ℕ, ℤ, if◌then◌else◌, List, [], ◌∷◌, Some, Result, Ok, Err, slice_get, slice_set, length}
use Rattle.flow_base.specs.declared.value.Value.{Value}
use Rattle.flow_base.specs.declared.outcome.Exception.{Exception}
use Rattle.flow_base.specs.declared.outcome.Exception.TheVariants as x
use Rattle.script_tree.specs.declared.tree.BuiltIn.TheVariants as b
use Rattle.flow_meaning.specs.Act.{Act, Give, Throw, ◌>>=◌}
use Rattle.flow_meaning.specs.Operators.{Text}
use Rattle.flow_meaning.specs.Meaning as m
use Rattle.body_program.specs.Meaning.{Store, Flow, Goes, Returns, Does, held, with_slot}
use Rattle.app_eval.specs.declared.frame.Frame.{Frame}
use Rattle.app_eval.specs.declared.frame.Flow.{Flow as FlowOf}
use Rattle.app_eval.specs.declared.frame.Flow.TheVariants as flow
use Rattle.app_eval.specs.declared.operators.Failure.{Failure}
use Rattle.app_eval.specs.declared.operators.Failure.TheVariants as failure

abbrev pub store_of : Frame → Store
store_of f = record { slots = f.slots.items; written = f.written.items; left = f.left }

abbrev pub flow_of : FlowOf → Store → Flow
flow_of flow.Goes s = Goes s
flow_of (flow.Returns value) s = Returns value s

-- where memory may be wanted before an exception is raised
abbrev pub Raises : {A : Type 0} → Failure → Act A → Type 0
Raises (failure.Raised exception) act = act ≡ Throw exception
Raises failure.NoMemory act = Unit {0}

-- one that changes a value to what is given
abbrev pub Becomes : {A : Type 0} → Result (Unit {0}) Failure → A → Act A → Type 0
Becomes (Ok _) new act = act ≡ Give new
Becomes (Err f) new act = Raises f act

-- a function that changes the frame alone, and may want memory
abbrev pub Changes : Result (Unit {0}) Failure → Store → Act Flow → Type 0
Changes (Ok _) behind act = act ≡ Give (Goes behind)
Changes (Err f) behind act = Raises f act

-- a function that changes the frame alone
abbrev pub Writes : Result (Unit {0}) Exception → Store → Act Flow → Type 0
Writes (Ok _) behind act = act ≡ Give (Goes behind)
Writes (Err exception) behind act = act ≡ Throw exception

abbrev pub appends : ℕ → Value → Does
appends slot item s = do
  list ← held (slice_get s.slots slot)
  longer ← m.applied_to b.Append (list ∷ item ∷ [])
  Give (Goes (with_slot slot longer s))

abbrev pub writes_text : List Text → ℤ → Text → Does
writes_text names i content s = do
  k ← m.output_place i (length names)
  if m.file_fits (m.name_at names k) content then Give (Goes (record s { written = slice_set s.written k (Some content) })) else Throw x.SizeError

-- whether a variable is set
abbrev pub IsSet : Result (Unit {0}) Exception → Act Value → Type 0
IsSet (Ok _) act = (value : Value) × (act ≡ Give value)
IsSet (Err exception) act = act ≡ Throw exception

-- one more turn, or the exception
abbrev pub Turns : Result (Unit {0}) Exception → Store → Act Store → Type 0
Turns (Ok _) behind act = act ≡ Give behind
Turns (Err exception) behind act = act ≡ Throw exception
