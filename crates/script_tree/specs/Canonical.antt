-- The canonical text of a tree.
use Rattle.std.specs.Prelude.{ℕ, ◌+◌, ◌*◌, Bool, true, false, if◌then◌else◌, List, [], ◌∷◌, ◌++◌, flat_map, replicate, Option, Some, None, ℤ, pos, negsuc, decimal, codes, nat_eq}
use Rattle.std.specs.List.{join_by}
use Rattle.script_tree.specs.declared.tree.SumOp.{SumOp}
use Rattle.script_tree.specs.declared.tree.SumOp.TheVariants as plus
use Rattle.script_tree.specs.declared.tree.TermOp.{TermOp}
use Rattle.script_tree.specs.declared.tree.TermOp.TheVariants as times
use Rattle.script_tree.specs.declared.tree.CompareOp.{CompareOp}
use Rattle.script_tree.specs.declared.tree.CompareOp.TheVariants as by
use Rattle.script_tree.specs.declared.tree.UnaryOp.{UnaryOp}
use Rattle.script_tree.specs.declared.tree.UnaryOp.TheVariants as sign
use Rattle.script_tree.specs.declared.tree.Atom.TheOpen.{Atom-F}
use Rattle.script_tree.specs.declared.tree.Statement.TheOpen.{Statement-F}
use Rattle.script_tree.specs.declared.tree.Expr.{Expr}
use Rattle.script_tree.specs.declared.tree.CallExpr.{CallExpr}
use Rattle.script_tree.specs.declared.tree.Block.{Block}
use Rattle.script_tree.specs.declared.tree.AppDef.{AppDef}
use Rattle.script_tree.specs.Folds.{Steps, AtomOf, BlockSteps, fold_expr, fold_call, fold_block}
use Rattle.script_tree.specs.Grammar.{Tree}

abbrev pub Text : Type 0
Text = List ℕ

-- how a byte of a text value is spelt
abbrev pub spelt_byte : ℕ → Text
spelt_byte b = if nat_eq b 10 then codes "\\n" else (if nat_eq b 34 then 92 ∷ 34 ∷ [] else (if nat_eq b 92 then 92 ∷ 92 ∷ [] else b ∷ []))

abbrev pub spelt : Text → Text
spelt text = 34 ∷ flat_map spelt_byte text ++ 34 ∷ []

abbrev pub listed : List Text → Text
listed = join_by (λ e. e) (codes ", ")

abbrev pub in_parens : Text → Text
in_parens text = codes "(" ++ (text ++ codes ")")

abbrev pub names_part : List Text → Text
names_part [] = []
names_part (n ∷ ns) = codes " to " ++ in_parens (listed (n ∷ ns))

abbrev pub compare_text : CompareOp → Text
compare_text by.Equal = codes " == "
compare_text by.Differ = codes " != "
compare_text by.Less = codes " < "
compare_text by.AtMost = codes " <= "
compare_text by.Greater = codes " > "
compare_text by.AtLeast = codes " >= "

abbrev pub sum_text : SumOp → Text
sum_text plus.Plus = codes " + "
sum_text plus.Minus = codes " - "

abbrev pub term_text : TermOp → Text
term_text times.Times = codes " * "
term_text times.Over = codes " / "
term_text times.Rest = codes " % "

abbrev pub compared_part : Option (CompareOp × Text) → Text
compared_part None = []
compared_part (Some e) = compare_text e.0 ++ e.1

abbrev pub sign_part : Option UnaryOp → Text
sign_part None = []
sign_part (Some sign.Minus) = codes "-"
sign_part (Some sign.Not) = codes "not "

-- a number is never negative
abbrev pub number_text : ℤ → Text
number_text (pos n) = decimal n
number_text (negsuc n) = []

abbrev pub atom_text : AtomOf Text → Text
atom_text (Atom-F.Number n) = number_text n
atom_text (Atom-F.Text text) = spelt text
atom_text Atom-F.Nothing = codes "nothing"
atom_text (Atom-F.Variable name) = name
atom_text (Atom-F.BuiltIn name arguments) = name ++ in_parens (listed arguments)
atom_text (Atom-F.Call call) = call
atom_text (Atom-F.Paren e) = in_parens e
atom_text (Atom-F.List es) = codes "[" ++ (listed es ++ codes "]")

abbrev pub expr_text : Steps Text
expr_text = record {
  atom = atom_text;
  call = λ e. codes "call " ++ (e.app ++ (in_parens (listed e.arguments) ++ names_part e.names));
  comp = λ e. e.left ++ compared_part e.test;
  conj = λ e. e.first ++ flat_map (λ f. codes " and " ++ f) e.others;
  expr = λ e. e.first ++ flat_map (λ f. codes " or " ++ f) e.others;
  post = λ e. e.atom ++ flat_map (λ f. codes "[" ++ (f ++ codes "]")) e.indices;
  sum = λ e. e.first ++ flat_map (λ f. sum_text f.0 ++ f.1) e.others;
  term = λ e. e.first ++ flat_map (λ f. term_text f.0 ++ f.1) e.others;
  unary = λ e. sign_part e.op ++ e.post;
}

abbrev pub expr : Expr → Text
expr = fold_expr expr_text

abbrev pub call : CallExpr → Text
call = fold_call expr_text

-- two spaces for each block round a line
abbrev pub indent : ℕ → Text
indent depth = replicate (2 * depth) 32

abbrev pub Lines : Type 0
Lines = ℕ → Text

abbrev pub line : Text → Lines
line text depth = indent depth ++ (text ++ 10 ∷ [])

-- a block's lines after its `{`, with its `}` but no newline after it
abbrev pub else_lines : Option Lines → ℕ → Text
else_lines None depth = []
else_lines (Some block) depth = codes " else " ++ block depth

-- a block begins behind its head on the head's line, and ends with its `}`
abbrev pub headed : Text → Lines → Lines
headed head block depth = indent depth ++ (head ++ (codes " " ++ (block depth ++ 10 ∷ [])))

abbrev pub statement_lines : Statement-F Lines Lines → Lines
statement_lines (Statement-F.Let name e) = line (codes "let " ++ (name ++ (codes " = " ++ (expr e ++ codes ";"))))
statement_lines (Statement-F.Set name e) = line (name ++ (codes " = " ++ (expr e ++ codes ";")))
statement_lines (Statement-F.While e body) = headed (codes "while " ++ expr e) body
statement_lines (Statement-F.For name e body) = headed (codes "for " ++ (name ++ (codes " in " ++ expr e))) body
statement_lines (Statement-F.If e block other) = headed (codes "if " ++ expr e) (λ depth. block depth ++ else_lines other depth)
statement_lines (Statement-F.Return e) = line (codes "return " ++ (expr e ++ codes ";"))
statement_lines (Statement-F.Raise e) = line (codes "raise " ++ (expr e ++ codes ";"))
statement_lines (Statement-F.Write e text) = line (codes "write " ++ (expr e ++ (codes ", " ++ (expr text ++ codes ";"))))
statement_lines (Statement-F.Print e) = line (codes "print " ++ (expr e ++ codes ";"))
statement_lines Statement-F.Checkpoint = line (codes "checkpoint;")
statement_lines (Statement-F.Call c) = line (call c ++ codes ";")

abbrev pub block_lines : BlockSteps Lines
block_lines = record { statement = statement_lines; block = λ b depth. codes "{" ++ (10 ∷ flat_map (λ s. s (depth + 1)) b.statements ++ (indent depth ++ codes "}")) }

abbrev pub block : Block → Lines
block = fold_block block_lines

abbrev pub when : Bool → Text → Text
when true text = text
when false text = []

abbrev pub outputs_part : Option ℤ → Text
outputs_part None = []
outputs_part (Some n) = codes " outputs " ++ number_text n

-- the canonical text of an app, with the newline after its `}`
unfoldable pub app : AppDef → Text
app a = when a.cached (codes "cached ") ++ (when a.join (codes "join ") ++ (codes "app " ++ (a.name ++ (in_parens (listed a.parameters) ++ (outputs_part a.outputs ++ (codes " " ++ (block a.body 0 ++ 10 ∷ [])))))))

-- the canonical text of a script: a blank line between two definitions
unfoldable pub canonical : Tree → Text
canonical s = flat_map (λ a. app a ++ 10 ∷ []) s.0 ++ (codes "main " ++ (block s.1 0 ++ 10 ∷ []))
