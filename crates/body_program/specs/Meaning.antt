-- The meaning of bodies whose variables stand in slots.
use Rattle.std.specs.Prelude.{ℕ, zero, suc, Bool, true, false, if◌then◌else◌, List, [], ◌∷◌, map, Option, Some, None, slice_get, slice_set, length}
use Rattle.flow_base.specs.declared.value.Value.{Value}
use Rattle.flow_base.specs.declared.value.Value.TheVariants as v
use Rattle.flow_base.specs.declared.outcome.Exception.TheVariants as x
use Rattle.script_tree.specs.declared.tree.SumOp.{SumOp}
use Rattle.script_tree.specs.declared.tree.TermOp.{TermOp}
use Rattle.script_tree.specs.declared.tree.BuiltIn.TheVariants as b
use Rattle.flow_meaning.specs.declared.walk.Request.TheVariants as request
use Rattle.flow_meaning.specs.Act.{Act, Give, Throw, Ask, ◌>>=◌, all_of}
use Rattle.flow_meaning.specs.Operators.{Text, limited, int_of, text_of, list_of, truth_of, truth, added, multiplied, compared, indexed, texts_of}
use Rattle.flow_meaning.specs.Told.{called_value}
use Rattle.flow_meaning.specs.Meaning as m
use Rattle.body_program.specs.declared.code.Code.{Code, fold-Code}
use Rattle.body_program.specs.declared.code.Code.TheOpen.{Code-F}
use Rattle.body_program.specs.declared.code.Simple.{Simple}
use Rattle.body_program.specs.declared.code.Simple.TheVariants as simple
use Rattle.body_program.specs.declared.code.Step.{Step, fold-Step}
use Rattle.body_program.specs.declared.code.Step.TheOpen.{Step-F}
use Rattle.body_program.specs.declared.code.Program.{Program}

-- the value of each variable that is set
abbrev pub Slots : Type 0
Slots = List (Option Value)

-- a variable that isn't set is a TypeError
abbrev pub held : Option (Option Value) → Act Value
held (Some (Some value)) = Give value
held _ = Throw x.TypeError

-- ---- expressions, at the slots of a moment: what each gives, by what its parts give

-- goes on while the conditions are false, or while they are true
abbrev pub until : Bool → Bool → List (Act Value) → Act Bool
until stop holds [] = Give holds
until true true (e ∷ es) = Give true
until false false (e ∷ es) = Give false
until true false (e ∷ es) = e >>= truth_of >>= λ holds. until true holds es
until false true (e ∷ es) = e >>= truth_of >>= λ holds. until false holds es

abbrev pub chain : Bool → Act Value → List (Act Value) → Act Value
chain stop first others = first >>= truth_of >>= λ holds. until stop holds others >>= λ all. Give (truth all)

abbrev pub sums : Value → List (SumOp × Act Value) → Act Value
sums left [] = Give left
sums left (e ∷ es) = e.1 >>= λ right. added e.0 left right >>= λ sum. sums sum es

abbrev pub products : Value → List (TermOp × Act Value) → Act Value
products left [] = Give left
products left (e ∷ es) = e.1 >>= λ right. multiplied e.0 left right >>= λ product. products product es

abbrev pub items_at : Value → List (Act Value) → Act Value
items_at from [] = Give from
items_at from (e ∷ es) = e >>= λ i. indexed from i >>= λ item. items_at item es

-- the arguments and then the names are evaluated, and the call is asked for
abbrev pub calls : ℕ → List (Act Value) → List (Act Value) → Act Value
calls app arguments names = do
  vs ← all_of arguments
  ns ← all_of names
  ts ← texts_of ns
  Ask (request.Call app vs ts) called_value

abbrev pub code_step : Slots → Code-F (Act Value) → Act Value
code_step slots (Code-F.Constant value) = Give value
code_step slots Code-F.TooLarge = Throw x.SizeError
code_step slots (Code-F.Slot k) = held (slice_get slots k)
code_step slots (Code-F.List es) = all_of es >>= λ vs. limited (v.List vs)
code_step slots (Code-F.One built_in e) = e >>= λ value. m.applied_to built_in (value ∷ [])
code_step slots (Code-F.Two built_in d e) = d >>= λ first. e >>= λ second. m.applied_to built_in (first ∷ second ∷ [])
code_step slots (Code-F.Three built_in c d e) = c >>= λ first. d >>= λ second. e >>= λ third. m.applied_to built_in (first ∷ second ∷ third ∷ [])
code_step slots (Code-F.Unknown es) = all_of es >>= λ vs. Throw x.TypeError
code_step slots (Code-F.Call app arguments names) = calls app arguments names
code_step slots (Code-F.Any first others) = chain true first others
code_step slots (Code-F.All first others) = chain false first others
code_step slots (Code-F.Compared op d e) = d >>= λ left. e >>= λ right. compared op left right
code_step slots (Code-F.Sum first others) = first >>= λ left. sums left others
code_step slots (Code-F.Product first others) = first >>= λ left. products left others
code_step slots (Code-F.At from indices) = from >>= λ value. items_at value indices
code_step slots (Code-F.Signed op e) = e >>= m.signed (Some op)

-- what an expression gives
unfoldable pub code_value : Slots → Code → Act Value
code_value slots = fold-Code (Act Value) (code_step slots)

-- ---- statements

-- what a body has: its variables, what it wrote to each output, and how many turns its loops may still make
pub record Store : Type 0 where
  pub slots : Slots
  pub written : List (Option Text)
  pub left : ℕ

-- a statement goes on, or returns
pub data Flow : Type 0 where
  Goes : Store → Flow
  Returns : Value → Store → Flow

abbrev pub Does : Type 0
Does = Store → Act Flow

abbrev pub with_slot : ℕ → Value → Store → Store
with_slot k value s = record s { slots = slice_set s.slots k (Some value) }

abbrev pub and_then : Flow → Does → Act Flow
and_then (Goes s) next = next s
and_then (Returns value s) next = Give (Returns value s)

-- one after another
abbrev pub sequence : List Does → Does
sequence [] s = Give (Goes s)
sequence (d ∷ ds) s = d s >>= λ f. and_then f (sequence ds)

-- one more turn of a loop of this body
abbrev pub turn_from : ℕ → Store → Act Store
turn_from zero s = Throw x.BudgetError
turn_from (suc left) s = Give (record s { left = left })

abbrev pub turn : Store → Act Store
turn s = turn_from s.left s

-- a turn with one item
abbrev pub item_turn : ℕ → Does → Value → Does
item_turn k body item s = turn s >>= λ at. body (with_slot k item at)

-- a turn with each item
abbrev pub each_turn : ℕ → Does → List Value → Does
each_turn k body [] s = Give (Goes s)
each_turn k body (item ∷ items) s = item_turn k body item s >>= λ f. and_then f (each_turn k body items)

-- a turn, or none where the condition is false
abbrev pub one_turn : Code → Does → Store → Act (Option Flow)
one_turn condition body s = code_value s.slots condition >>= truth_of >>= λ holds. if holds then (turn s >>= body >>= λ f. Give (Some f)) else Give None

abbrev pub goes_on : Store → Does → Option Flow → Act Flow
goes_on s next None = Give (Goes s)
goes_on s next (Some f) = and_then f next

-- Turns while the condition holds. The number only bounds the recursion.
abbrev pub while_turns : ℕ → Code → Does → Does
while_turns zero condition body s = Throw x.BudgetError
while_turns (suc n) condition body s = one_turn condition body s >>= goes_on s (while_turns n condition body)

-- a loop makes no more turns than are left, and looks at its condition once more
unfoldable pub repeated : Code → Does → Does
repeated condition body s = while_turns (suc s.left) condition body s

module _ (names : List Text) where
  -- writes the text to the output
  abbrev pub writes : Value → Value → Does
  writes at with s = do
    i ← int_of at
    content ← text_of with
    k ← m.output_place i (length names)
    if m.file_fits (m.name_at names k) content then Give (Goes (record s { written = slice_set s.written k (Some content) })) else Throw x.SizeError

  -- what a statement without blocks does
  abbrev pub simple_does : Simple → Does
  simple_does (simple.Set k e) s = code_value s.slots e >>= λ value. Give (Goes (with_slot k value s))
  simple_does (simple.Append k e) s = do
    list ← held (slice_get s.slots k)
    item ← code_value s.slots e
    longer ← m.applied_to b.Append (list ∷ item ∷ [])
    Give (Goes (with_slot k longer s))
  simple_does (simple.Return e) s = code_value s.slots e >>= λ value. Give (Returns value s)
  simple_does (simple.Raise e) s = code_value s.slots e >>= text_of >>= λ t. Throw (x.AppError t)
  simple_does (simple.Write e t) s = code_value s.slots e >>= λ at. code_value s.slots t >>= λ with. writes at with s
  simple_does (simple.Print e) s = code_value s.slots e >>= λ value. Ask (request.Print value) (λ _. Give (Goes s))
  simple_does simple.Checkpoint s = Ask request.Checkpoint (λ _. Give (Goes s))
  simple_does (simple.Do e) s = code_value s.slots e >>= λ _. Give (Goes s)

  abbrev pub step_step : Step-F Does → Does
  step_step (Step-F.Simple step) s = simple_does step s
  step_step (Step-F.While e body) s = repeated e (sequence body) s
  step_step (Step-F.For k e body) s = code_value s.slots e >>= list_of >>= λ items. each_turn k (sequence body) items s
  step_step (Step-F.If e steps others) s = code_value s.slots e >>= truth_of >>= λ holds. (if holds then sequence steps else sequence others) s

  -- what a statement does
  unfoldable pub step_does : Step → Does
  step_does = fold-Step Does step_step

  abbrev pub steps_do : List Step → Does
  steps_do steps = sequence (map step_does steps)

  -- the end of a body returns nothing
  abbrev pub done : Flow → Act m.Done
  done (Goes s) = m.files_of names s.written >>= λ files. Give (v.Nothing, files)
  done (Returns value s) = m.files_of names s.written >>= λ files. Give (value, files)

-- ---- bodies

-- arguments in the slots of their parameters, the first of one slot
abbrev pub with_arguments : List ℕ → List Value → Slots → Slots
with_arguments (k ∷ ks) (value ∷ values) slots = slice_set (with_arguments ks values slots) k (Some value)
with_arguments _ _ slots = slots

abbrev pub none_set : ℕ → Slots
none_set zero = []
none_set (suc n) = None ∷ none_set n

abbrev pub at_begin : Program → List Value → List Text → Store
at_begin p arguments names = record { slots = with_arguments p.parameters arguments (none_set p.slots); written = m.unwritten names; left = m.max_turns }

-- a body with these arguments and names of outputs
unfoldable pub program_act : Program → List Value → List Text → Act m.Done
program_act p arguments names = steps_do names p.steps (at_begin p arguments names) >>= done names
