-- When the code of slots means the same as the tree of names.
use Rattle.std.specs.Prelude.{◌≡◌, ℕ, false, if◌then◌else◌, List, [], ◌∷◌, ◌++◌, map, Option, Some, None, bytes_eq, slice_get}
use Rattle.std.specs.List.{list_any}
use Rattle.flow_base.specs.declared.value.Value.{Value}
use Rattle.script_tree.specs.declared.tree.BuiltIn.{BuiltIn}
use Rattle.flow_meaning.specs.Act.{Act, Give, ◌>>=◌, all_of}
use Rattle.flow_meaning.specs.Operators.{Text}
use Rattle.flow_meaning.specs.Meaning as m
use Rattle.body_program.specs.Meaning as code
use Rattle.body_program.specs.declared.code.Code.{Code}
use Rattle.body_program.specs.declared.code.Code.TheVariants as c
use Rattle.script_tree.specs.declared.tree.BuiltIn.TheVariants as b
use Rattle.body_program.specs.declared.code.Simple.{Simple}
use Rattle.body_program.specs.declared.code.Simple.TheVariants as simple
use Rattle.body_program.specs.declared.code.Step.{Step}
use Rattle.body_program.specs.declared.code.Program.{Program}
use Rattle.script_tree.specs.declared.tree.Block.{Block}

-- the names of a body's variables, by slots
abbrev pub Table : Type 0
Table = List Text

-- more names behind those of a table
pub record Grows (table later : Table) : Type 0 where
  pub more : Table
  pub is : later ≡ table ++ more

-- no name stands twice
abbrev pub IsDistinct : Table → Type 0
IsDistinct [] = Unit {0}
IsDistinct (name ∷ names) = (list_any (bytes_eq name) names ≡ false) × IsDistinct names

-- the variable of a name
abbrev pub found : m.Vars → Text → Option Value
found [] name = None
found (e ∷ es) name = if bytes_eq e.0 name then Some e.1 else found es name

-- the variables of these names
abbrev pub slots_of : Table → m.Vars → code.Slots
slots_of table vars = map (found vars) table

abbrev pub store_of : Table → m.State → code.Store
store_of table s = record { slots = slots_of table s.vars; written = s.written; left = s.left }

abbrev pub flow_of : Table → m.Flow → code.Flow
flow_of table (m.Goes s) = code.Goes (store_of table s)
flow_of table (m.Returns value s) = code.Returns value (store_of table s)

-- ---- expressions

-- at any later table the code gives what the expression gives by names
pub record Means (table : Table) (e : Code) (calc : m.Calc) : Type 0 where
  pub same : (later : Table) → Grows table later → (vars : m.Vars) → code.code_value (slots_of later vars) e ≡ calc vars

pub record AllMean (table : Table) (cs : List Code) (calcs : List m.Calc) : Type 0 where
  pub same : (later : Table) → Grows table later → (vars : m.Vars) → map (code.code_value (slots_of later vars)) cs ≡ map (λ calc. calc vars) calcs

-- operands behind their operators
pub record OperandsMean {Op : Type 0} (table : Table) (cs : List (Op × Code)) (calcs : List (Op × m.Calc)) : Type 0 where
  pub same : (later : Table) → Grows table later → (vars : m.Vars) → map {B = Op × Act Value} (λ c. (c.0, code.code_value (slots_of later vars) c.1)) cs ≡ map {B = Op × Act Value} (λ calc. (calc.0, calc.1 vars)) calcs

-- a built-in, or none that is known, of these arguments
abbrev pub Applies : Code → Option BuiltIn → List Code → Type 0
Applies e built_in arguments = (slots : code.Slots) → code.code_value slots e ≡ (all_of (map (code.code_value slots) arguments) >>= m.applied built_in)

-- ---- statements, by the names of the outputs

abbrev pub DoesBy : Type 0
DoesBy = List Text → m.Does

-- at any later table, in which no name stands twice, the step does what the statement does by names
pub record Follows (table : Table) (step : Step) (does : DoesBy) : Type 0 where
  pub same : (later : Table) → Grows table later → IsDistinct later → (names : List Text) (s : m.State) → code.step_does names step (store_of later s) ≡ (does names s >>= λ f. Give (flow_of later f))

pub record AllFollow (table : Table) (steps : List Step) (does : List DoesBy) : Type 0 where
  pub same : (later : Table) → Grows table later → IsDistinct later → (names : List Text) (s : m.State) → code.steps_do names steps (store_of later s) ≡ (m.sequence (map (λ d. d names) does) s >>= λ f. Give (flow_of later f))

-- A slot gets the value of an expression.
abbrev pub Sets : Step → ℕ → Code → Type 0
Sets step slot e = (names : List Text) (s : code.Store) → code.step_does names step s ≡ (code.code_value s.slots e >>= λ value. Give (code.Goes (code.with_slot slot value s)))

-- the list in this slot with one more item
pub record IsAppend (slot : ℕ) (value : Code) : Type 0 where
  pub item : Code
  pub is : value ≡ c.Two b.Append (c.Slot slot) item

-- it is changed where it stands
pub record ChangesInPlace (slot : ℕ) (step : Simple) : Type 0 where
  pub item : Code
  pub is : step ≡ simple.Append slot item

-- ---- bodies

-- the slots of parameters
abbrev pub AreSlots : Table → List ℕ → List Text → Type 0
AreSlots table slots parameters = (later : Table) → Grows table later → map (slice_get later) slots ≡ map Some parameters

-- the program does what the body does, with any arguments and names of outputs
abbrev pub IsProgramOf : Program → List Text → Block → List Text → Type 0
IsProgramOf p apps block parameters = (arguments : List Value) (names : List Text) → code.program_act p arguments names ≡ m.body apps block parameters arguments names
