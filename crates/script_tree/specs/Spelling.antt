-- The tokens of a tree. Parentheses are a part of the tree, so a tree has one list of tokens.
use Rattle.std.specs.Prelude.{ℕ, Bool, true, false, List, [], ◌∷◌, ◌++◌, flat_map, Option, Some, None, ℤ}
use Rattle.script_tree.specs.declared.token.Token.{Token}
use Rattle.script_tree.specs.declared.token.Token.TheVariants as t
use Rattle.script_tree.specs.declared.token.Keyword.{Keyword}
use Rattle.script_tree.specs.declared.token.Keyword.TheVariants as w
use Rattle.script_tree.specs.declared.token.Symbol.{Symbol}
use Rattle.script_tree.specs.declared.token.Symbol.TheVariants as s
use Rattle.script_tree.specs.declared.tree.SumOp.{SumOp}
use Rattle.script_tree.specs.declared.tree.SumOp.TheVariants as plus
use Rattle.script_tree.specs.declared.tree.TermOp.{TermOp}
use Rattle.script_tree.specs.declared.tree.TermOp.TheVariants as times
use Rattle.script_tree.specs.declared.tree.CompareOp.{CompareOp}
use Rattle.script_tree.specs.declared.tree.CompareOp.TheVariants as by
use Rattle.script_tree.specs.declared.tree.UnaryOp.{UnaryOp}
use Rattle.script_tree.specs.declared.tree.UnaryOp.TheVariants as sign
use Rattle.script_tree.specs.declared.tree.Atom.TheOpen.{Atom-F}
use Rattle.script_tree.specs.declared.tree.Statement.TheOpen.{Statement-F}
use Rattle.script_tree.specs.declared.tree.Expr.{Expr}
use Rattle.script_tree.specs.declared.tree.CallExpr.{CallExpr}
use Rattle.script_tree.specs.declared.tree.Block.{Block}
use Rattle.script_tree.specs.declared.tree.AppDef.{AppDef}
use Rattle.script_tree.specs.Folds.{Steps, AtomOf, BlockSteps, fold_expr, fold_call, fold_block}

abbrev pub Tokens : Type 0
Tokens = List Token

-- these and nothing else
abbrev pub word : Keyword → Tokens
word k = t.Keyword k ∷ []

abbrev pub symbol : Symbol → Tokens
symbol k = t.Symbol k ∷ []

-- with commas between them
abbrev pub listed : List Tokens → Tokens
listed [] = []
listed (e ∷ es) = e ++ flat_map (λ f. t.Symbol s.Comma ∷ f) es

abbrev pub in_parens : Tokens → Tokens
in_parens ts = t.Symbol s.OpenParen ∷ ts ++ symbol s.CloseParen

abbrev pub names_part : List Tokens → Tokens
names_part [] = []
names_part (n ∷ ns) = t.Keyword w.To ∷ in_parens (listed (n ∷ ns))

abbrev pub compare_symbol : CompareOp → Symbol
compare_symbol by.Equal = s.Equal
compare_symbol by.Differ = s.Differ
compare_symbol by.Less = s.Less
compare_symbol by.AtMost = s.AtMost
compare_symbol by.Greater = s.Greater
compare_symbol by.AtLeast = s.AtLeast

abbrev pub sum_symbol : SumOp → Symbol
sum_symbol plus.Plus = s.Plus
sum_symbol plus.Minus = s.Minus

abbrev pub term_symbol : TermOp → Symbol
term_symbol times.Times = s.Times
term_symbol times.Over = s.Over
term_symbol times.Rest = s.Rest

abbrev pub compared_part : Option (CompareOp × Tokens) → Tokens
compared_part None = []
compared_part (Some e) = t.Symbol (compare_symbol e.0) ∷ e.1

abbrev pub sign_part : Option UnaryOp → Tokens
sign_part None = []
sign_part (Some sign.Minus) = symbol s.Minus
sign_part (Some sign.Not) = word w.Not

abbrev pub atom_tokens : AtomOf Tokens → Tokens
atom_tokens (Atom-F.Number n) = t.Number n ∷ []
atom_tokens (Atom-F.Text text) = t.Text text ∷ []
atom_tokens Atom-F.Nothing = word w.Nothing
atom_tokens (Atom-F.Variable name) = t.Name name ∷ []
atom_tokens (Atom-F.BuiltIn name arguments) = t.Name name ∷ in_parens (listed arguments)
atom_tokens (Atom-F.Call call) = call
atom_tokens (Atom-F.Paren e) = in_parens e
atom_tokens (Atom-F.List es) = t.Symbol s.OpenList ∷ listed es ++ symbol s.CloseList

abbrev pub expr_tokens : Steps Tokens
expr_tokens = record {
  atom = atom_tokens;
  call = λ e. t.Keyword w.Call ∷ t.Name e.app ∷ in_parens (listed e.arguments) ++ names_part e.names;
  comp = λ e. e.left ++ compared_part e.test;
  conj = λ e. e.first ++ flat_map (λ f. t.Keyword w.And ∷ f) e.others;
  expr = λ e. e.first ++ flat_map (λ f. t.Keyword w.Or ∷ f) e.others;
  post = λ e. e.atom ++ flat_map (λ f. t.Symbol s.OpenList ∷ f ++ symbol s.CloseList) e.indices;
  sum = λ e. e.first ++ flat_map (λ f. t.Symbol (sum_symbol f.0) ∷ f.1) e.others;
  term = λ e. e.first ++ flat_map (λ f. t.Symbol (term_symbol f.0) ∷ f.1) e.others;
  unary = λ e. sign_part e.op ++ e.post;
}

abbrev pub expr : Expr → Tokens
expr = fold_expr expr_tokens

abbrev pub call : CallExpr → Tokens
call = fold_call expr_tokens

abbrev pub ended : Tokens → Tokens
ended ts = ts ++ symbol s.Semicolon

abbrev pub else_part : Option Tokens → Tokens
else_part None = []
else_part (Some block) = t.Keyword w.Else ∷ block

abbrev pub statement_tokens : Statement-F Tokens Tokens → Tokens
statement_tokens (Statement-F.Let name e) = ended (t.Keyword w.Let ∷ t.Name name ∷ t.Symbol s.Assign ∷ expr e)
statement_tokens (Statement-F.Set name e) = ended (t.Name name ∷ t.Symbol s.Assign ∷ expr e)
statement_tokens (Statement-F.While e body) = t.Keyword w.While ∷ expr e ++ body
statement_tokens (Statement-F.For name e body) = t.Keyword w.For ∷ t.Name name ∷ t.Keyword w.In ∷ expr e ++ body
statement_tokens (Statement-F.If e block other) = t.Keyword w.If ∷ expr e ++ (block ++ else_part other)
statement_tokens (Statement-F.Return e) = ended (t.Keyword w.Return ∷ expr e)
statement_tokens (Statement-F.Raise e) = ended (t.Keyword w.Raise ∷ expr e)
statement_tokens (Statement-F.Write e text) = ended (t.Keyword w.Write ∷ expr e ++ (t.Symbol s.Comma ∷ expr text))
statement_tokens (Statement-F.Print e) = ended (t.Keyword w.Print ∷ expr e)
statement_tokens Statement-F.Checkpoint = ended (word w.Checkpoint)
statement_tokens (Statement-F.Call c) = ended (call c)

abbrev pub block_tokens : BlockSteps Tokens
block_tokens = record { statement = statement_tokens; block = λ b. t.Symbol s.OpenBlock ∷ flat_map (λ ts. ts) b.statements ++ symbol s.CloseBlock }

abbrev pub block : Block → Tokens
block = fold_block block_tokens

abbrev pub when : Bool → Tokens → Tokens
when true ts = ts
when false ts = []

abbrev pub outputs_part : Option ℤ → Tokens
outputs_part None = []
outputs_part (Some n) = t.Keyword w.Outputs ∷ t.Number n ∷ []

abbrev pub name_tokens : List ℕ → Tokens
name_tokens name = t.Name name ∷ []

abbrev pub names_of : List (List ℕ) → List Tokens
names_of [] = []
names_of (n ∷ ns) = name_tokens n ∷ names_of ns

abbrev pub app : AppDef → Tokens
app a = when a.cached (word w.Cached) ++ (when a.join (word w.Join) ++ (t.Keyword w.App ∷ t.Name a.name ∷ in_parens (listed (names_of a.parameters)) ++ (outputs_part a.outputs ++ block a.body)))

-- the tokens of a script
abbrev pub script : List AppDef × Block → Tokens
script s = flat_map app s.0 ++ (t.Keyword w.Main ∷ block s.1)
