-- The meaning of expressions, statements and bodies.
use Rattle.std.specs.Prelude.{ℕ, zero, suc, ◌+◌, Bool, true, false, not, if◌then◌else◌, List, [], ◌∷◌, ◌++◌, length, map, Option, Some, None, nat_lt, nat_le, bytes_eq, slice_set, zip, ℤ, pos}
use Rattle.std.specs.List.{position_or_len}
use Rattle.flow_base.specs.declared.value.Value.{Value, out-Value}
use Rattle.flow_base.specs.declared.value.Value.TheVariants as v
use Rattle.flow_base.specs.declared.outcome.FileOut.{FileOut}
use Rattle.flow_base.specs.declared.outcome.Exception.TheVariants as x
use Rattle.flow_base.specs.Values.{max_units}
use Rattle.script_tree.specs.declared.tree.CompareOp.{CompareOp}
use Rattle.script_tree.specs.declared.tree.SumOp.{SumOp}
use Rattle.script_tree.specs.declared.tree.TermOp.{TermOp}
use Rattle.script_tree.specs.declared.tree.UnaryOp.{UnaryOp}
use Rattle.script_tree.specs.declared.tree.UnaryOp.TheVariants as sign
use Rattle.script_tree.specs.declared.tree.BuiltIn.{BuiltIn}
use Rattle.script_tree.specs.declared.tree.BuiltIn.TheVariants as b
use Rattle.script_tree.specs.declared.tree.Atom.TheOpen.{Atom-F}
use Rattle.script_tree.specs.declared.tree.Expr.{Expr}
use Rattle.script_tree.specs.declared.tree.CallExpr.{CallExpr}
use Rattle.script_tree.specs.Folds.{Steps, AtomOf, BlockSteps, fold_expr, fold_call, fold_block}
use Rattle.script_tree.specs.declared.tree.Statement.TheOpen.{Statement-F}
use Rattle.script_tree.specs.declared.tree.Block.{Block}
use Rattle.script_tree.specs.BuiltIns.{built_in_named}
use Rattle.flow_meaning.specs.declared.walk.Request.TheVariants as request
use Rattle.flow_meaning.specs.Act.{Act, Give, Throw, Ask, ◌>>=◌, all_of}
use Rattle.flow_meaning.specs.Operators.{Text, limited, int_of, text_of, list_of, truth_of, truth, added, multiplied, negated, compared, indexed, len, sliced, int_text, number_in, the_number, ints_from, count_between, split_at, joined, texts_of, file_name, file_content, output_of}
use Rattle.flow_meaning.specs.Told.{result_of, exception_of, called_value}
use Rattle.std.specs.Prelude.{◌-ℤ◌}

-- ---- variables, a finite map

abbrev pub Vars : Type 0
Vars = List (Text × Value)

abbrev pub got : Vars → Text → Act Value
got [] name = Throw x.TypeError
got (e ∷ es) name = if bytes_eq e.0 name then Give e.1 else got es name

-- the variable's new value in its place, or at the end
abbrev pub put : Vars → Text → Value → Vars
put [] name value = (name, value) ∷ []
put (e ∷ es) name value = if bytes_eq e.0 name then (e.0, value) ∷ es else e ∷ put es name value

-- ---- built-ins

abbrev pub applied_to : BuiltIn → List Value → Act Value
applied_to b.Len (a ∷ []) = len (out-Value a)
applied_to b.Text (a ∷ []) = int_of a >>= λ n. Give (v.Text (int_text n))
applied_to b.Number (a ∷ []) = text_of a >>= λ t. the_number (number_in t)
applied_to b.Slice (a ∷ from ∷ to ∷ []) = sliced (out-Value a) (out-Value from) (out-Value to)
applied_to b.Range (a ∷ to ∷ []) = do
  from ← int_of a
  below ← int_of to
  limited (v.List (ints_from from (count_between (below -ℤ from))))
applied_to b.Append (a ∷ item ∷ []) = list_of a >>= λ vs. limited (v.List (vs ++ item ∷ []))
applied_to b.Split (a ∷ by ∷ []) = do
  t ← text_of a
  s ← text_of by
  split_at t s
applied_to b.Concat (a ∷ by ∷ []) = do
  vs ← list_of a
  ts ← texts_of vs
  s ← text_of by
  limited (v.Text (joined s ts))
applied_to b.File (a ∷ with ∷ []) = do
  name ← text_of a
  content ← text_of with
  limited (v.File name content)
applied_to b.Name (f ∷ []) = file_name (out-Value f)
applied_to b.Content (f ∷ []) = file_content (out-Value f)
applied_to b.Output (f ∷ i ∷ []) = output_of (out-Value f) (out-Value i)
applied_to b.Result (f ∷ []) = result_of f
applied_to b.Exception (f ∷ []) = exception_of f
applied_to _ _ = Throw x.TypeError

abbrev pub applied : Option BuiltIn → List Value → Act Value
applied (Some built_in) vs = applied_to built_in vs
applied None vs = Throw x.TypeError

-- ---- expressions: what each gives, by the variables

abbrev pub Calc : Type 0
Calc = Vars → Act Value

-- all of them in order
abbrev pub values : Vars → List Calc → Act (List Value)
values vars es = all_of (map (λ e. e vars) es)

-- goes on while the conditions are false, or while they are true
abbrev pub until : Bool → Vars → Bool → List Calc → Act Bool
until stop vars holds [] = Give holds
until true vars true (e ∷ es) = Give true
until false vars false (e ∷ es) = Give false
until true vars false (e ∷ es) = e vars >>= truth_of >>= λ holds. until true vars holds es
until false vars true (e ∷ es) = e vars >>= truth_of >>= λ holds. until false vars holds es

-- one operand alone is no condition
abbrev pub chain : Bool → Calc → List Calc → Calc
chain stop first [] = first
chain stop first (e ∷ es) = λ vars. first vars >>= truth_of >>= λ holds. until stop vars holds (e ∷ es) >>= λ all. Give (truth all)

abbrev pub sums : Vars → Value → List (SumOp × Calc) → Act Value
sums vars left [] = Give left
sums vars left (e ∷ es) = e.1 vars >>= λ right. added e.0 left right >>= λ sum. sums vars sum es

abbrev pub products : Vars → Value → List (TermOp × Calc) → Act Value
products vars left [] = Give left
products vars left (e ∷ es) = e.1 vars >>= λ right. multiplied e.0 left right >>= λ product. products vars product es

abbrev pub items_at : Vars → Value → List Calc → Act Value
items_at vars from [] = Give from
items_at vars from (e ∷ es) = e vars >>= λ i. indexed from i >>= λ item. items_at vars item es

abbrev pub tested : Calc → Option (CompareOp × Calc) → Calc
tested left None = left
tested left (Some test) = λ vars. left vars >>= λ a. test.1 vars >>= λ b. compared test.0 a b

abbrev pub signed : Option UnaryOp → Value → Act Value
signed None a = Give a
signed (Some sign.Minus) a = negated a
signed (Some sign.Not) a = truth_of a >>= λ holds. Give (truth (not holds))

module _ (apps : List Text) where
  -- the number of the first app of a name
  abbrev pub number_of : Text → ℕ
  number_of name = position_or_len (λ app. bytes_eq app name) apps

  abbrev pub call_of : Text → List Value → List Text → Act Value
  call_of app arguments names = Ask (request.Call (number_of app) arguments names) called_value

  abbrev pub called : Text → List Calc → List Calc → Calc
  called app arguments names = λ vars. do
    vs ← values vars arguments
    ns ← values vars names
    ts ← texts_of ns
    call_of app vs ts

  abbrev pub atom_step : AtomOf Calc → Calc
  atom_step (Atom-F.Number n) = λ vars. Give (v.Int n)
  atom_step (Atom-F.Text t) = λ vars. limited (v.Text t)
  atom_step Atom-F.Nothing = λ vars. Give v.Nothing
  atom_step (Atom-F.Variable name) = λ vars. got vars name
  atom_step (Atom-F.BuiltIn name arguments) = λ vars. values vars arguments >>= applied (built_in_named name)
  atom_step (Atom-F.Call call) = call
  atom_step (Atom-F.Paren e) = e
  atom_step (Atom-F.List es) = λ vars. values vars es >>= λ vs. limited (v.List vs)

  abbrev pub meaning : Steps Calc
  meaning = record {
    atom = atom_step;
    call = λ e. called e.app e.arguments e.names;
    comp = λ e. tested e.left e.test;
    conj = λ e. chain false e.first e.others;
    expr = λ e. chain true e.first e.others;
    post = λ e vars. e.atom vars >>= λ from. items_at vars from e.indices;
    sum = λ e vars. e.first vars >>= λ left. sums vars left e.others;
    term = λ e vars. e.first vars >>= λ left. products vars left e.others;
    unary = λ e vars. e.post vars >>= signed e.op;
  }

  -- what an expression gives
  abbrev pub value_of : Expr → Calc
  value_of = fold_expr meaning

  abbrev pub call_value : CallExpr → Calc
  call_value = fold_call meaning

-- ---- statements

-- what a body has: its variables, what it wrote to each output, and how many turns its loops may still make
pub record State : Type 0 where
  pub vars : Vars
  pub written : List (Option Text)
  pub left : ℕ

-- a statement goes on, or returns
pub data Flow : Type 0 where
  Goes : State → Flow
  Returns : Value → State → Flow

abbrev pub Does : Type 0
Does = State → Act Flow

abbrev pub sets : Text → Value → State → Act Flow
sets name value s = Give (Goes (record s { vars = put s.vars name value }))

abbrev pub and_then : Flow → Does → Act Flow
and_then (Goes s) next = next s
and_then (Returns value s) next = Give (Returns value s)

-- one after another
abbrev pub sequence : List Does → Does
sequence [] s = Give (Goes s)
sequence (d ∷ ds) s = d s >>= λ f. and_then f (sequence ds)

abbrev pub max_turns : ℕ
max_turns = 1000000

-- one more turn of a loop of this body
abbrev pub turn_from : ℕ → State → Act State
turn_from zero s = Throw x.BudgetError
turn_from (suc left) s = Give (record s { left = left })

abbrev pub turn : State → Act State
turn s = turn_from s.left s

-- a turn with one item
abbrev pub item_turn : Text → Does → Value → Does
item_turn name body item s = turn s >>= λ at. body (record at { vars = put at.vars name item })

-- a turn with each item
abbrev pub each_turn : Text → Does → List Value → Does
each_turn name body [] s = Give (Goes s)
each_turn name body (item ∷ items) s = item_turn name body item s >>= λ f. and_then f (each_turn name body items)

-- a turn, or none where the condition is false
abbrev pub one_turn : Calc → Does → State → Act (Option Flow)
one_turn condition body s = condition s.vars >>= truth_of >>= λ holds. if holds then (turn s >>= body >>= λ f. Give (Some f)) else Give None

abbrev pub goes_on : State → Does → Option Flow → Act Flow
goes_on s next None = Give (Goes s)
goes_on s next (Some f) = and_then f next

-- Turns while the condition holds. The number only bounds the recursion.
abbrev pub while_turns : ℕ → Calc → Does → Does
while_turns zero condition body s = Throw x.BudgetError
while_turns (suc n) condition body s = one_turn condition body s >>= goes_on s (while_turns n condition body)

-- a loop makes no more turns than are left, and looks at its condition once more
unfoldable pub repeated : Calc → Does → Does
repeated condition body s = while_turns (suc s.left) condition body s

-- a file is within the limits of a value
abbrev pub file_fits : Text → Text → Bool
file_fits name content = nat_le (1 + length name + length content) max_units

abbrev pub name_at : List Text → ℕ → Text
name_at [] i = []
name_at (n ∷ ns) zero = n
name_at (n ∷ ns) (suc i) = name_at ns i

abbrev pub output_place : ℤ → ℕ → Act ℕ
output_place (pos i) n = if nat_lt i n then Give i else Throw x.IndexError
output_place _ n = Throw x.IndexError

module _ (apps : List Text) (names : List Text) where
  -- writes the text to the output
  abbrev pub writes : ℤ → Text → State → Act Flow
  writes i content s = output_place i (length names) >>= λ k.
      if file_fits (name_at names k) content then Give (Goes (record s { written = slice_set s.written k (Some content) })) else Throw x.SizeError

  abbrev pub otherwise : Option Does → Does
  otherwise (Some block) = block
  otherwise None = λ s. Give (Goes s)

  abbrev pub statement_step : Statement-F Does Does → Does
  statement_step (Statement-F.Let name e) = λ s. value_of apps e s.vars >>= λ value. sets name value s
  statement_step (Statement-F.Set name e) = λ s. value_of apps e s.vars >>= λ value. sets name value s
  statement_step (Statement-F.While e body) = repeated (value_of apps e) body
  statement_step (Statement-F.For name e body) = λ s. value_of apps e s.vars >>= list_of >>= λ items. each_turn name body items s
  statement_step (Statement-F.If e block other) = λ s. value_of apps e s.vars >>= truth_of >>= λ holds. (if holds then block else otherwise other) s
  statement_step (Statement-F.Return e) = λ s. value_of apps e s.vars >>= λ value. Give (Returns value s)
  statement_step (Statement-F.Raise e) = λ s. value_of apps e s.vars >>= text_of >>= λ t. Throw (x.AppError t)
  statement_step (Statement-F.Write e t) = λ s. do
    at ← value_of apps e s.vars
    with ← value_of apps t s.vars
    i ← int_of at
    content ← text_of with
    writes i content s
  statement_step (Statement-F.Print e) = λ s. value_of apps e s.vars >>= λ value. Ask (request.Print value) (λ _. Give (Goes s))
  statement_step Statement-F.Checkpoint = λ s. Ask request.Checkpoint (λ _. Give (Goes s))
  statement_step (Statement-F.Call call) = λ s. call_value apps call s.vars >>= λ _. Give (Goes s)

  abbrev pub doing : BlockSteps Does
  doing = record { statement = statement_step; block = λ b. sequence b.statements }

  -- what a block does
  abbrev pub does : Block → Does
  does = fold_block doing

-- ---- bodies

-- what a body gives: its value and its files
abbrev pub Done : Type 0
Done = Value × List FileOut

-- the files, where each output was written, behind those that are made
abbrev pub files_from : List FileOut → List Text → List (Option Text) → Act (List FileOut)
files_from given [] written = Give given
files_from given (n ∷ ns) [] = Throw x.MissingOutputs
files_from given (n ∷ ns) (None ∷ ws) = Throw x.MissingOutputs
files_from given (n ∷ ns) (Some content ∷ ws) = files_from (given ++ record { name = n; content = content } ∷ []) ns ws

abbrev pub files_of : List Text → List (Option Text) → Act (List FileOut)
files_of = files_from []

-- the end of a body returns nothing
abbrev pub done : List Text → Flow → Act Done
done names (Goes s) = files_of names s.written >>= λ files. Give (v.Nothing, files)
done names (Returns value s) = files_of names s.written >>= λ files. Give (value, files)

abbrev pub unwritten : List Text → List (Option Text)
unwritten names = map (λ n. None) names

-- a body with these parameters, arguments and names of outputs; apps are the names of the script's apps
unfoldable pub body : List Text → Block → List Text → List Value → List Text → Act Done
body apps block parameters arguments names =
    does apps names block (record { vars = zip parameters arguments; written = unwritten names; left = max_turns }) >>= done names
