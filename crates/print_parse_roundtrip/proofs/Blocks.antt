-- The canonical text of a block is read as its tokens.
use Rattle.std.proofs.Common.{◌≡◌, ℕ, ◌+◌, ◌*◌, Bool, true, false, List, [], ◌∷◌, ◌++◌, map, refl, sym, ap, subst, append-nil, append_assoc, codes, Option, Some, None}
use Rattle.std.specs.Prelude.{ℤ}
use Rattle.std.specs.List.{flat_map}
use Rattle.script_tree.specs.declared.token.Token.TheVariants as t
use Rattle.script_tree.specs.declared.token.Keyword.TheVariants as w
use Rattle.script_tree.specs.declared.token.Symbol.TheVariants as s
use Rattle.script_tree.specs.declared.tree.Block.{Block, roll-Block, ind-Block}
use Rattle.script_tree.specs.declared.tree.Statement.{Statement, roll-Statement}
use Rattle.script_tree.specs.declared.tree.Statement.TheOpen.{Statement-F}
use Rattle.script_tree.specs.declared.tree.Statement.TheFolds.{map-Statement}
use Rattle.script_tree.specs.declared.tree.AppDef.{AppDef}
use Rattle.script_tree.specs.Folds.{fold_block, fold_statement}
use Rattle.script_tree.specs.Lexing.{Text}
use Rattle.script_tree.specs.Canonical.{block_lines, app as app_text}
use Rattle.script_tree.specs.Canonical as canonical
use Rattle.script_tree.specs.Spelling.{Tokens, block_tokens}
use Rattle.script_tree.specs.Spelling as spelling
use Rattle.print_parse_roundtrip.specs.Lexes.{Lexes, AreTokens}
use Rattle.script_tree.proofs.Rolls.{in_statement, statement-rolled, block-rolled}
use Rattle.print_parse_roundtrip.proofs.Parts.{Whole, Reads, Part, Closing, same, whole_reads, then_whole, then_reads, then_part, then_closing, parts, closing_reads, closing_whole, part_closing, no_whole, no_part, name_reads, word_reads, word_blank, blank, newline, blanks}
use Rattle.print_parse_roundtrip.proofs.Expressions.{expr_reads, call_reads, number_reads, in_parens, spaced, semicolon, comma, open_block, close_block}

-- ---- lines

-- a newline behind a text
pub with_newline : (text : Text) (ts : Tokens) → Whole text ts → Whole (text ++ 10 ∷ []) ts
with_newline text ts a = same _ _ _ (append-nil ts) (then_whole a newline.whole)

line : (text : Text) (ts : Tokens) (depth : ℕ) → Whole text ts → Whole (canonical.line text depth) ts
line text ts depth a = then_whole (blanks (2 * depth)) (with_newline text ts a)

headed : (head : Text) (hs : Tokens) (block : Text) (ts : Tokens) (depth : ℕ) → Reads head hs → Whole block ts → Whole (canonical.headed head (λ d. block) depth) (hs ++ ts)
headed head hs block ts depth a b = then_whole (blanks (2 * depth)) (then_closing a (closing_whole blank (with_newline block ts b)))

-- a semicolon behind an expression
ended : {x : Text} {ts : Tokens} → Reads x ts → Whole (x ++ codes ";") (ts ++ spelling.symbol s.Semicolon)
ended a = then_closing a semicolon

assign : Closing (codes " = ") (t.Symbol s.Assign ∷ [])
assign = spaced s.Assign (λ rest. refl)

-- ---- statements

abbrev StatementReads : Statement → Type 0
StatementReads x = (depth : ℕ) → Whole (fold_statement block_lines x depth) (fold_statement block_tokens x)

abbrev BlockReads : Block → Type 0
BlockReads x = (depth : ℕ) → Whole (fold_block block_lines x depth) (fold_block block_tokens x)

abbrev StatementLayer : Type 0
StatementLayer = Statement-F ((x : Statement) × StatementReads x) ((x : Block) × BlockReads x)

abbrev first_of : StatementLayer → Statement-F Statement Block
first_of = map-Statement ((x : Statement) × StatementReads x) ((x : Block) × BlockReads x) Statement Block (λ e. e.0) (λ e. e.0)

write_tokens : (d e : Tokens) → t.Keyword w.Write ∷ (d ++ (t.Symbol s.Comma ∷ (e ++ spelling.symbol s.Semicolon))) ≡ spelling.ended (t.Keyword w.Write ∷ d ++ (t.Symbol s.Comma ∷ e))
write_tokens d e = sym (append_assoc (t.Keyword w.Write ∷ d) (t.Symbol s.Comma ∷ e) (spelling.symbol s.Semicolon))

statement_of : (y : StatementLayer) (depth : ℕ) → Whole (canonical.statement_lines (in_statement block_lines (first_of y)) depth) (spelling.statement_tokens (in_statement block_tokens (first_of y)))
statement_of (Statement-F.Let x e) depth = line _ _ depth (then_whole (word_blank w.Let) (then_closing (name_reads x) (closing_whole assign (ended (expr_reads e)))))
statement_of (Statement-F.Set x e) depth = line _ _ depth (then_closing (name_reads x) (closing_whole assign (ended (expr_reads e))))
statement_of (Statement-F.While e b) depth = headed _ _ _ _ depth (then_reads (word_blank w.While) (expr_reads e)) (b.1 depth)
statement_of (Statement-F.For x e b) depth = headed _ _ _ _ depth (then_reads (word_blank w.For) (then_part (name_reads x) (closing_reads (closing_whole blank (word_blank w.In)) (expr_reads e)))) (b.1 depth)
statement_of (Statement-F.If e b None) depth = headed _ _ _ _ depth (then_reads (word_blank w.If) (expr_reads e)) (then_whole (b.1 depth) no_whole)
statement_of (Statement-F.If e b (Some d)) depth = headed _ _ _ _ depth (then_reads (word_blank w.If) (expr_reads e)) (then_whole (b.1 depth) (then_whole (closing_whole blank (word_blank w.Else)).whole (d.1 depth)))
statement_of (Statement-F.Return e) depth = line _ _ depth (then_whole (word_blank w.Return) (ended (expr_reads e)))
statement_of (Statement-F.Raise e) depth = line _ _ depth (then_whole (word_blank w.Raise) (ended (expr_reads e)))
statement_of (Statement-F.Write d e) depth = line _ _ depth (same _ _ _ (write_tokens _ _) (then_whole (word_blank w.Write) (then_closing (expr_reads d) (closing_whole comma (ended (expr_reads e))))))
statement_of (Statement-F.Print e) depth = line _ _ depth (then_whole (word_blank w.Print) (ended (expr_reads e)))
statement_of Statement-F.Checkpoint depth = line _ _ depth (ended (word_reads w.Checkpoint))
statement_of (Statement-F.Call c) depth = line _ _ depth (ended (call_reads c))

moved : (x y : Text) (ts us : Tokens) → x ≡ y → ts ≡ us → Whole y us → Whole x ts
moved x y ts us e h a = subst (λ (z : Text). Whole z ts) (sym e) (subst (λ (z : Tokens). Whole y z) (sym h) a)

statement_step : (y : StatementLayer) → StatementReads (roll-Statement (first_of y))
statement_step y depth = moved _ _ _ _ (ap (λ (z : canonical.Lines). z depth) (statement-rolled block_lines _)) (statement-rolled block_tokens _) (statement_of y depth)

statements_whole : (depth : ℕ) (xs : List ((x : Statement) × StatementReads x))
    → Whole (flat_map (λ z. z depth) (map (fold_statement block_lines) (map (λ x. x.0) xs))) (flat_map (λ ts. ts) (map (fold_statement block_tokens) (map (λ x. x.0) xs)))
statements_whole depth [] = no_whole
statements_whole depth (x ∷ xs) = then_whole (x.1 depth) (statements_whole depth xs)

block_step : (xs : List ((x : Statement) × StatementReads x)) → BlockReads (roll-Block (record { statements = map (λ x. x.0) xs }))
block_step xs depth = moved _ _ _ _ (ap (λ (z : canonical.Lines). z depth) (block-rolled block_lines _)) (block-rolled block_tokens _)
    (then_whole open_block.whole (then_whole (then_whole newline.whole (statements_whole (depth + 1) xs)) (then_whole (blanks (2 * depth)) close_block.whole)))

pub block_reads : (x : Block) → BlockReads x
block_reads x = ind-Block StatementReads BlockReads (λ x y is. subst (λ z. StatementReads (roll-Statement z)) is (statement_step y)) (λ x y is. subst (λ z. BlockReads (roll-Block z)) is (block_step y.statements)) x

pub with_block : (b : Block) (depth : ℕ) (rest : Text) (ts : Tokens) → AreTokens (spelling.block b) → Lexes rest ts → Lexes (canonical.block b depth ++ rest) (spelling.block b ++ ts)
with_block b depth rest ts valid more = (block_reads b depth).at valid rest ts more

-- ---- apps

when_whole : (b : Bool) (x : Text) (ts : Tokens) → Whole x ts → Whole (canonical.when b x) (spelling.when b ts)
when_whole true x ts a = a
when_whole false x ts a = no_whole

more_names : (xs : List Text) → Part (flat_map (λ x. codes ", " ++ x) xs) (flat_map (λ ts. t.Symbol s.Comma ∷ ts) (spelling.names_of xs))
more_names [] = no_part
more_names (x ∷ xs) = parts (closing_reads comma (name_reads x)) (more_names xs)

names_listed : (xs : List Text) → Reads (canonical.listed xs) (spelling.listed (spelling.names_of xs))
names_listed [] = whole_reads no_whole
names_listed (x ∷ xs) = then_part (name_reads x) (more_names xs)

outputs_part : (n : Option ℤ) → Part (canonical.outputs_part n) (spelling.outputs_part n)
outputs_part None = no_part
outputs_part (Some n) = closing_reads (closing_whole blank (word_blank w.Outputs)) (number_reads n)

pub app_whole : (a : AppDef) → Whole (canonical.app a) (spelling.app a)
unfolding app_text
app_whole a = then_whole (when_whole a.cached _ _ (word_blank w.Cached)) (then_whole (when_whole a.join _ _ (word_blank w.Join))
    (then_whole (word_blank w.App) (then_closing (name_reads a.name) (closing_whole (in_parens (names_listed a.parameters)) (part_closing (outputs_part a.outputs) (closing_whole blank (with_newline _ _ (block_reads a.body 0)))).whole))))

pub with_app : (a : AppDef) (rest : Text) (ts : Tokens) → AreTokens (spelling.app a) → Lexes rest ts → Lexes (canonical.app a ++ rest) (spelling.app a ++ ts)
with_app a rest ts valid more = (app_whole a).at valid rest ts more
