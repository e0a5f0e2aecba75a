-- The canonical text of an app has text bytes alone.
use Rattle.std.proofs.Common.{◌≡◌, ℕ, ◌+◌, ◌*◌, Bool, true, false, List, [], ◌∷◌, ◌++◌, map, refl, sym, ap, subst, append-nil, append_assoc, codes, Option, Some, None}
use Rattle.std.specs.Prelude.{ℤ}
use Rattle.std.specs.List.{flat_map}
use Rattle.script_tree.specs.declared.token.Token.TheVariants as t
use Rattle.script_tree.specs.declared.token.Keyword.TheVariants as w
use Rattle.script_tree.specs.declared.token.Symbol.TheVariants as s
use Rattle.script_tree.specs.declared.tree.Block.{Block, roll-Block, ind-Block}
use Rattle.script_tree.specs.declared.tree.Statement.{Statement, roll-Statement}
use Rattle.script_tree.specs.declared.tree.Statement.TheOpen.{Statement-F}
use Rattle.script_tree.specs.declared.tree.Statement.TheFolds.{map-Statement}
use Rattle.script_tree.specs.declared.tree.AppDef.{AppDef}
use Rattle.script_tree.specs.Folds.{fold_block, fold_statement}
use Rattle.script_tree.specs.Lexing.{Text}
use Rattle.script_tree.specs.Canonical.{block_lines, app as app_text}
use Rattle.script_tree.specs.Canonical as canonical
use Rattle.script_tree.specs.Spelling.{Tokens, block_tokens}
use Rattle.script_tree.specs.Spelling as spelling
use Rattle.script_tree.proofs.Rolls.{in_statement, statement-rolled, block-rolled}
use Rattle.app_texts.proofs.Clean.{Clean, clean_same, clean_moved, clean_both, clean_none, clean_word, clean_space, clean_blanks, clean_name, clean_number}
use Rattle.app_texts.proofs.Expressions.{expr_clean, call_clean, in_parens}

-- ---- lines

-- a newline behind a text
with_newline : (text : Text) (ts : Tokens) → Clean text ts → Clean (text ++ 10 ∷ []) ts
with_newline text ts a = clean_same _ _ _ (append-nil ts) (clean_both a (clean_space (10 ∷ []) refl))

line : (text : Text) (ts : Tokens) (depth : ℕ) → Clean text ts → Clean (canonical.line text depth) ts
line text ts depth a = clean_both (clean_blanks (2 * depth)) (with_newline text ts a)

headed : (head : Text) (hs : Tokens) (block : Text) (ts : Tokens) (depth : ℕ) → Clean head hs → Clean block ts → Clean (canonical.headed head (λ d. block) depth) (hs ++ ts)
headed head hs block ts depth a b = clean_both (clean_blanks (2 * depth)) (clean_both a (clean_both (clean_space (codes " ") refl) (with_newline block ts b)))

-- a semicolon behind an expression
ended : {x : Text} {ts : Tokens} → Clean x ts → Clean (x ++ codes ";") (ts ++ spelling.symbol s.Semicolon)
ended a = clean_both a (clean_word (codes ";") (t.Symbol s.Semicolon) refl)

assign : Clean (codes " = ") (t.Symbol s.Assign ∷ [])
assign = clean_word _ _ refl

-- ---- statements

abbrev StatementClean : Statement → Type 0
StatementClean x = (depth : ℕ) → Clean (fold_statement block_lines x depth) (fold_statement block_tokens x)

abbrev BlockClean : Block → Type 0
BlockClean x = (depth : ℕ) → Clean (fold_block block_lines x depth) (fold_block block_tokens x)

abbrev StatementLayer : Type 0
StatementLayer = Statement-F ((x : Statement) × StatementClean x) ((x : Block) × BlockClean x)

abbrev first_of : StatementLayer → Statement-F Statement Block
first_of = map-Statement ((x : Statement) × StatementClean x) ((x : Block) × BlockClean x) Statement Block (λ e. e.0) (λ e. e.0)

write_tokens : (d e : Tokens) → t.Keyword w.Write ∷ (d ++ (t.Symbol s.Comma ∷ (e ++ spelling.symbol s.Semicolon))) ≡ spelling.ended (t.Keyword w.Write ∷ d ++ (t.Symbol s.Comma ∷ e))
write_tokens d e = sym (append_assoc (t.Keyword w.Write ∷ d) (t.Symbol s.Comma ∷ e) (spelling.symbol s.Semicolon))

statement_of : (y : StatementLayer) (depth : ℕ) → Clean (canonical.statement_lines (in_statement block_lines (first_of y)) depth) (spelling.statement_tokens (in_statement block_tokens (first_of y)))
statement_of (Statement-F.Let x e) depth = line _ _ depth (clean_both (clean_word (codes "let ") (t.Keyword w.Let) refl) (clean_both (clean_name x) (clean_both assign (ended (expr_clean e)))))
statement_of (Statement-F.Set x e) depth = line _ _ depth (clean_both (clean_name x) (clean_both assign (ended (expr_clean e))))
statement_of (Statement-F.While e b) depth = headed _ _ _ _ depth (clean_both (clean_word (codes "while ") (t.Keyword w.While) refl) (expr_clean e)) (b.1 depth)
statement_of (Statement-F.For x e b) depth = headed _ _ _ _ depth (clean_both (clean_word (codes "for ") (t.Keyword w.For) refl) (clean_both (clean_name x) (clean_both (clean_word (codes " in ") (t.Keyword w.In) refl) (expr_clean e)))) (b.1 depth)
statement_of (Statement-F.If e b None) depth = headed _ _ _ _ depth (clean_both (clean_word (codes "if ") (t.Keyword w.If) refl) (expr_clean e)) (clean_both (b.1 depth) clean_none)
statement_of (Statement-F.If e b (Some d)) depth = headed _ _ _ _ depth (clean_both (clean_word (codes "if ") (t.Keyword w.If) refl) (expr_clean e)) (clean_both (b.1 depth) (clean_both (clean_word (codes " else ") (t.Keyword w.Else) refl) (d.1 depth)))
statement_of (Statement-F.Return e) depth = line _ _ depth (clean_both (clean_word (codes "return ") (t.Keyword w.Return) refl) (ended (expr_clean e)))
statement_of (Statement-F.Raise e) depth = line _ _ depth (clean_both (clean_word (codes "raise ") (t.Keyword w.Raise) refl) (ended (expr_clean e)))
statement_of (Statement-F.Write d e) depth = line _ _ depth (clean_same _ _ _ (write_tokens _ _) (clean_both (clean_word (codes "write ") (t.Keyword w.Write) refl) (clean_both (expr_clean d) (clean_both (clean_word (codes ", ") (t.Symbol s.Comma) refl) (ended (expr_clean e))))))
statement_of (Statement-F.Print e) depth = line _ _ depth (clean_both (clean_word (codes "print ") (t.Keyword w.Print) refl) (ended (expr_clean e)))
statement_of Statement-F.Checkpoint depth = line _ _ depth (ended (clean_word (codes "checkpoint") (t.Keyword w.Checkpoint) refl))
statement_of (Statement-F.Call c) depth = line _ _ depth (ended (call_clean c))

statement_step : (y : StatementLayer) → StatementClean (roll-Statement (first_of y))
statement_step y depth = clean_moved _ _ _ _ (ap (λ (z : canonical.Lines). z depth) (statement-rolled block_lines _)) (statement-rolled block_tokens _) (statement_of y depth)

statements_clean : (depth : ℕ) (xs : List ((x : Statement) × StatementClean x))
    → Clean (flat_map (λ z. z depth) (map (fold_statement block_lines) (map (λ x. x.0) xs))) (flat_map (λ ts. ts) (map (fold_statement block_tokens) (map (λ x. x.0) xs)))
statements_clean depth [] = clean_none
statements_clean depth (x ∷ xs) = clean_both (x.1 depth) (statements_clean depth xs)

block_step : (xs : List ((x : Statement) × StatementClean x)) → BlockClean (roll-Block (record { statements = map (λ x. x.0) xs }))
block_step xs depth = clean_moved _ _ _ _ (ap (λ (z : canonical.Lines). z depth) (block-rolled block_lines _)) (block-rolled block_tokens _)
    (clean_both (clean_word (codes "{") (t.Symbol s.OpenBlock) refl)
    (clean_both (clean_both (clean_space (10 ∷ []) refl) (statements_clean (depth + 1) xs)) (clean_both (clean_blanks (2 * depth)) (clean_word (codes "}") (t.Symbol s.CloseBlock) refl))))

block_clean : (x : Block) → BlockClean x
block_clean x = ind-Block StatementClean BlockClean (λ x y is. subst (λ z. StatementClean (roll-Statement z)) is (statement_step y)) (λ x y is. subst (λ z. BlockClean (roll-Block z)) is (block_step y.statements)) x

-- ---- apps

when_clean : (b : Bool) (x : Text) (ts : Tokens) → Clean x ts → Clean (canonical.when b x) (spelling.when b ts)
when_clean true x ts a = a
when_clean false x ts a = clean_none

more_names : (xs : List Text) → Clean (flat_map (λ x. codes ", " ++ x) xs) (flat_map (λ ts. t.Symbol s.Comma ∷ ts) (spelling.names_of xs))
more_names [] = clean_none
more_names (x ∷ xs) = clean_both (clean_both (clean_word (codes ", ") (t.Symbol s.Comma) refl) (clean_name x)) (more_names xs)

names_listed : (xs : List Text) → Clean (canonical.listed xs) (spelling.listed (spelling.names_of xs))
names_listed [] = clean_none
names_listed (x ∷ xs) = clean_both (clean_name x) (more_names xs)

outputs_part : (n : Option ℤ) → Clean (canonical.outputs_part n) (spelling.outputs_part n)
outputs_part None = clean_none
outputs_part (Some n) = clean_both (clean_word (codes " outputs ") (t.Keyword w.Outputs) refl) (clean_number n)

pub app_clean : (a : AppDef) → Clean (canonical.app a) (spelling.app a)
unfolding app_text
app_clean a = clean_both (when_clean a.cached _ _ (clean_word (codes "cached ") (t.Keyword w.Cached) refl)) (clean_both (when_clean a.join _ _ (clean_word (codes "join ") (t.Keyword w.Join) refl))
    (clean_both (clean_word (codes "app ") (t.Keyword w.App) refl) (clean_both (clean_name a.name) (clean_both (in_parens (names_listed a.parameters)) (clean_both (outputs_part a.outputs) (clean_both (clean_space (codes " ") refl) (with_newline _ _ (block_clean a.body 0))))))))
