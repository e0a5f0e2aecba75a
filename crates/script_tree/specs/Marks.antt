-- What the static rules see of a tree: one mark for each token, in the order of the text.
use Rattle.std.specs.Prelude.{ℕ, suc, Bool, true, false, List, [], ◌∷◌, ◌++◌, length, flat_map, replicate, Option, Some, None, ℤ}
use Rattle.script_tree.specs.declared.tree.CompareOp.{CompareOp}
use Rattle.script_tree.specs.declared.tree.UnaryOp.{UnaryOp}
use Rattle.script_tree.specs.declared.tree.Atom.TheOpen.{Atom-F}
use Rattle.script_tree.specs.declared.tree.Statement.TheOpen.{Statement-F}
use Rattle.script_tree.specs.declared.tree.Expr.{Expr}
use Rattle.script_tree.specs.declared.tree.CallExpr.{CallExpr}
use Rattle.script_tree.specs.declared.tree.Block.{Block}
use Rattle.script_tree.specs.declared.tree.AppDef.{AppDef}
use Rattle.script_tree.specs.Folds.{Steps, AtomOf, BlockSteps, fold_expr, fold_call, fold_block}
use Rattle.script_tree.specs.Grammar.{Tree}

abbrev pub Name : Type 0
Name = List ℕ

pub data Mark : Type 0 where
  -- nothing is asked of it
  Other : Mark
  -- `{`, behind which these names are visible, and `}`
  Opens : List Name → Mark
  Closes : Mark
  -- a variable is named in its declaration, and is visible behind a token
  Declares : Name → Mark
  MakesVisible : Name → Mark
  -- a variable is used or set
  Uses : Name → Mark
  -- a built-in's name, with how many arguments it has
  Applies : Name → ℕ → Mark
  -- `call`, and the app's name with the numbers of arguments and of names
  Calls : Mark
  NamesApp : Name → ℕ → ℕ → Mark
  -- `print` or `checkpoint`
  MainOnly : Mark
  -- `write`
  Writes : Mark
  -- the `join` of an app, and whether it is cached
  Joins : Bool → Mark
  -- the name of an app, with its number
  Defines : ℕ → AppDef → Mark
  -- a parameter, with its number from 0
  Takes : ℕ → Name → Mark
  -- `outputs` and the number
  HasOutputs : Mark
  Outputs : ℤ → Mark
  -- `main`
  Main : Mark

abbrev pub Marks : Type 0
Marks = List Mark

abbrev pub others : ℕ → Marks
others n = replicate n Other

abbrev pub listed : List Marks → Marks
listed [] = []
listed (e ∷ es) = e ++ flat_map (λ f. Other ∷ f) es

abbrev pub in_parens : Marks → Marks
in_parens ms = Other ∷ ms ++ Other ∷ []

abbrev pub names_part : List Marks → Marks
names_part [] = []
names_part (n ∷ ns) = Other ∷ in_parens (listed (n ∷ ns))

abbrev pub compared_part : Option (CompareOp × Marks) → Marks
compared_part None = []
compared_part (Some e) = Other ∷ e.1

abbrev pub sign_part : Option UnaryOp → Marks
sign_part None = []
sign_part (Some op) = Other ∷ []

abbrev pub atom_marks : AtomOf Marks → Marks
atom_marks (Atom-F.Number n) = Other ∷ []
atom_marks (Atom-F.Text text) = Other ∷ []
atom_marks Atom-F.Nothing = Other ∷ []
atom_marks (Atom-F.Variable name) = Uses name ∷ []
atom_marks (Atom-F.BuiltIn name arguments) = Applies name (length arguments) ∷ in_parens (listed arguments)
atom_marks (Atom-F.Call call) = call
atom_marks (Atom-F.Paren e) = in_parens e
atom_marks (Atom-F.List es) = in_parens (listed es)

abbrev pub expr_marks : Steps Marks
expr_marks = record {
  atom = atom_marks;
  call = λ e. Calls ∷ NamesApp e.app (length e.arguments) (length e.names) ∷ in_parens (listed e.arguments) ++ names_part e.names;
  comp = λ e. e.left ++ compared_part e.test;
  conj = λ e. e.first ++ flat_map (λ f. Other ∷ f) e.others;
  expr = λ e. e.first ++ flat_map (λ f. Other ∷ f) e.others;
  post = λ e. e.atom ++ flat_map in_parens e.indices;
  sum = λ e. e.first ++ flat_map (λ f. Other ∷ f.1) e.others;
  term = λ e. e.first ++ flat_map (λ f. Other ∷ f.1) e.others;
  unary = λ e. sign_part e.op ++ e.post;
}

abbrev pub expr : Expr → Marks
expr = fold_expr expr_marks

abbrev pub call : CallExpr → Marks
call = fold_call expr_marks

-- a block, behind whose `{` these names are visible
abbrev pub InBlock : Type 0
InBlock = List Name → Marks

abbrev pub else_part : Option InBlock → Marks
else_part None = []
else_part (Some block) = Other ∷ block []

abbrev pub statement_marks : Statement-F InBlock InBlock → Marks
statement_marks (Statement-F.Let name e) = Other ∷ Declares name ∷ Other ∷ expr e ++ MakesVisible name ∷ []
statement_marks (Statement-F.Set name e) = Uses name ∷ Other ∷ expr e ++ Other ∷ []
statement_marks (Statement-F.While e body) = Other ∷ expr e ++ body []
statement_marks (Statement-F.For name e body) = Other ∷ Declares name ∷ Other ∷ expr e ++ body (name ∷ [])
statement_marks (Statement-F.If e block other) = Other ∷ expr e ++ (block [] ++ else_part other)
statement_marks (Statement-F.Return e) = Other ∷ expr e ++ Other ∷ []
statement_marks (Statement-F.Raise e) = Other ∷ expr e ++ Other ∷ []
statement_marks (Statement-F.Write e text) = Writes ∷ expr e ++ (Other ∷ expr text ++ Other ∷ [])
statement_marks (Statement-F.Print e) = MainOnly ∷ expr e ++ Other ∷ []
statement_marks Statement-F.Checkpoint = MainOnly ∷ Other ∷ []
statement_marks (Statement-F.Call c) = call c ++ Other ∷ []

abbrev pub block_marks : BlockSteps InBlock
block_marks = record { statement = λ s names. statement_marks s; block = λ b names. Opens names ∷ flat_map (λ s. s []) b.statements ++ Closes ∷ [] }

abbrev pub block : Block → Marks
block b = fold_block block_marks b []

abbrev pub when : Bool → Mark → Marks
when true m = m ∷ []
when false m = []

abbrev pub parameters_from : ℕ → List Name → List Marks
parameters_from k [] = []
parameters_from k (n ∷ ns) = (Takes k n ∷ []) ∷ parameters_from (suc k) ns

abbrev pub outputs_part : Option ℤ → Marks
outputs_part None = []
outputs_part (Some n) = HasOutputs ∷ Outputs n ∷ []

abbrev pub app : ℕ → AppDef → Marks
app k a = when a.cached Other ++ (when a.join (Joins a.cached) ++ (Other ∷ Defines k a ∷ in_parens (listed (parameters_from 0 a.parameters)) ++ (outputs_part a.outputs ++ block a.body)))

abbrev pub apps_from : ℕ → List AppDef → Marks
apps_from k [] = []
apps_from k (a ∷ rest) = app k a ++ apps_from (suc k) rest

abbrev pub script : Tree → Marks
script s = apps_from 0 s.0 ++ (Main ∷ block s.1)
