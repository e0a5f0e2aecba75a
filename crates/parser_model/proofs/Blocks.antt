-- A token more of a block is spelled at the end of what has been read.
use Rattle.std.proofs.Common.{◌≡◌, ℕ, List, [], ◌∷◌, ◌++◌, map, refl, ap, ◌∙◌, sym, subst, Option, Some, None, append-nil, append_assoc}
use Rattle.std.specs.List.{flat_map}
use Rattle.std.proofs.lemmas.Grind.{flat_map-append}
use Rattle.std.proofs.lemmas.List.Folds.{flat_map-map}
use Rattle.script_tree.specs.declared.token.Token.{Token}
use Rattle.script_tree.specs.declared.token.Token.TheVariants as t
use Rattle.script_tree.specs.declared.token.Keyword.TheVariants as w
use Rattle.script_tree.specs.declared.token.Symbol.{Symbol}
use Rattle.script_tree.specs.declared.token.Symbol.TheVariants as s
use Rattle.script_tree.specs.declared.tree.Expr.{Expr}
use Rattle.script_tree.specs.declared.tree.CallExpr.{CallExpr, roll-CallExpr}
use Rattle.script_tree.specs.declared.tree.Block.{Block}
use Rattle.script_tree.specs.declared.tree.Statement.{Statement}
use Rattle.script_tree.specs.declared.tree.Statement.TheVariants as st
use Rattle.parser_model.specs.declared.expression_state.OpenBracket.{OpenBracket}
use Rattle.parser_model.specs.declared.expression_state.ExprState.{ExprState}
use Rattle.parser_model.specs.declared.expression_state.ExprState.TheVariants as o
use Rattle.parser_model.specs.declared.expression_state.ExprNext.{ExprNext}
use Rattle.parser_model.specs.declared.expression_state.ExprNext.TheVariants.{Stay, Done, Stop}
use Rattle.parser_model.specs.declared.block_state.ExprUse.{ExprUse}
use Rattle.parser_model.specs.declared.block_state.ExprUse.TheVariants as v
use Rattle.parser_model.specs.declared.block_state.Head.{Head}
use Rattle.parser_model.specs.declared.block_state.Head.TheVariants as h
use Rattle.parser_model.specs.declared.block_state.Opened.{Opened}
use Rattle.parser_model.specs.declared.block_state.StatementState.{StatementState}
use Rattle.parser_model.specs.declared.block_state.StatementState.TheVariants as i
use Rattle.parser_model.specs.declared.block_state.BlockMove.{BlockMove}
use Rattle.parser_model.specs.declared.block_state.BlockMove.TheVariants.{Go, Add, Again, Enter, Leave, Halt}
use Rattle.script_tree.specs.declared.tree.Statement.{fold-roll-Statement}
use Rattle.script_tree.specs.declared.tree.Block.{fold-roll-Block}
use Rattle.script_tree.specs.Folds.{fold_statement, fold_block}
use Rattle.script_tree.specs.Spelling.{Tokens, symbol, word, listed, in_parens, names_part, block as block_spelling, block_tokens}
use Rattle.parser_model.specs.Reading.{nothing_before, step, split}
use Rattle.parser_model.specs.declared.block_state.BlockState.{BlockState}
use Rattle.parser_model.specs.Stages.{read as read_for, begin, if_name, End, Semicolon, Comma, Round, Brace, Other, end_of, ended, goes, first, if_symbol, called, after_if, if_in, act, block, left, Now, In, Out, Stuck, leave, acted, acted_again, inside_step}
use Rattle.parser_model.proofs.Spelled.{focus, items, call_part, read, items-spells, items-more, nothing-spells}
use Rattle.parser_model.proofs.Equations.{expr, call as call_tokens, call-rolled}
use Rattle.parser_model.proofs.Steps.{Spells, step-spells, IsSplit, split-is, call_part-is}

unfoldable pub statement : Statement → Tokens
statement = fold_statement block_tokens

unfoldable pub tokens_of_block : Block → Tokens
tokens_of_block = block_spelling

pub statement-let : (x : List ℕ) (e : Expr) → statement (st.Let x e) ≡ (t.Keyword w.Let ∷ t.Name x ∷ t.Symbol s.Assign ∷ expr e) ++ symbol s.Semicolon
unfolding expr call_tokens statement fold_statement fold_block tokens_of_block
statement-let x e = ap (fold_statement block_tokens) (sym (st.rolls-Let x e)) ∙ fold-roll-Statement _ _ _ _ _

pub statement-set : (x : List ℕ) (e : Expr) → statement (st.Set x e) ≡ (t.Name x ∷ t.Symbol s.Assign ∷ expr e) ++ symbol s.Semicolon
unfolding expr call_tokens statement fold_statement fold_block tokens_of_block
statement-set x e = ap (fold_statement block_tokens) (sym (st.rolls-Set x e)) ∙ fold-roll-Statement _ _ _ _ _

pub statement-while : (e : Expr) (b : Block) → statement (st.While e b) ≡ t.Keyword w.While ∷ expr e ++ tokens_of_block b
unfolding expr call_tokens statement fold_statement fold_block tokens_of_block
statement-while e b = ap (fold_statement block_tokens) (sym (st.rolls-While e b)) ∙ fold-roll-Statement _ _ _ _ _

pub statement-for : (x : List ℕ) (e : Expr) (b : Block) → statement (st.For x e b) ≡ t.Keyword w.For ∷ t.Name x ∷ t.Keyword w.In ∷ expr e ++ tokens_of_block b
unfolding expr call_tokens statement fold_statement fold_block tokens_of_block
statement-for x e b = ap (fold_statement block_tokens) (sym (st.rolls-For x e b)) ∙ fold-roll-Statement _ _ _ _ _

pub statement-return : (e : Expr) → statement (st.Return e) ≡ (t.Keyword w.Return ∷ expr e) ++ symbol s.Semicolon
unfolding expr call_tokens statement fold_statement fold_block tokens_of_block
statement-return e = ap (fold_statement block_tokens) (sym (st.rolls-Return e)) ∙ fold-roll-Statement _ _ _ _ _

pub statement-raise : (e : Expr) → statement (st.Raise e) ≡ (t.Keyword w.Raise ∷ expr e) ++ symbol s.Semicolon
unfolding expr call_tokens statement fold_statement fold_block tokens_of_block
statement-raise e = ap (fold_statement block_tokens) (sym (st.rolls-Raise e)) ∙ fold-roll-Statement _ _ _ _ _

pub statement-print : (e : Expr) → statement (st.Print e) ≡ (t.Keyword w.Print ∷ expr e) ++ symbol s.Semicolon
unfolding expr call_tokens statement fold_statement fold_block tokens_of_block
statement-print e = ap (fold_statement block_tokens) (sym (st.rolls-Print e)) ∙ fold-roll-Statement _ _ _ _ _

pub statement-write : (d e : Expr) → statement (st.Write d e) ≡ (t.Keyword w.Write ∷ expr d ++ (t.Symbol s.Comma ∷ expr e)) ++ symbol s.Semicolon
unfolding expr call_tokens statement fold_statement fold_block tokens_of_block
statement-write d e = ap (fold_statement block_tokens) (sym (st.rolls-Write d e)) ∙ fold-roll-Statement _ _ _ _ _

pub statement-checkpoint : statement st.Checkpoint ≡ t.Keyword w.Checkpoint ∷ symbol s.Semicolon
unfolding expr call_tokens statement fold_statement fold_block tokens_of_block
statement-checkpoint = ap (fold_statement block_tokens) (sym (st.rolls-Checkpoint)) ∙ fold-roll-Statement _ _ _ _ _

pub statement-call : (c : CallExpr) → statement (st.Call c) ≡ call_tokens c ++ symbol s.Semicolon
unfolding expr call_tokens statement fold_statement fold_block tokens_of_block
statement-call c = ap (fold_statement block_tokens) (sym (st.rolls-Call c)) ∙ fold-roll-Statement _ _ _ _ _

pub statement-if : (e : Expr) (b : Block) → statement (st.If e b None) ≡ t.Keyword w.If ∷ expr e ++ (tokens_of_block b ++ [])
unfolding expr call_tokens statement fold_statement fold_block tokens_of_block
statement-if e b = ap (fold_statement block_tokens) (sym (st.rolls-If e b None)) ∙ fold-roll-Statement _ _ _ _ _

pub statement-else : (e : Expr) (b d : Block) → statement (st.If e b (Some d)) ≡ t.Keyword w.If ∷ expr e ++ (tokens_of_block b ++ t.Keyword w.Else ∷ tokens_of_block d)
unfolding expr call_tokens statement fold_statement fold_block tokens_of_block
statement-else e b d = ap (fold_statement block_tokens) (sym (st.rolls-If e b (Some d))) ∙ fold-roll-Statement _ _ _ _ _

pub block-rolled : (ss : List Statement) → tokens_of_block (block ss) ≡ t.Symbol s.OpenBlock ∷ flat_map statement ss ++ symbol s.CloseBlock
unfolding expr call_tokens statement fold_statement fold_block tokens_of_block
block-rolled ss = fold-roll-Block _ _ _ _ _ ∙ simp flat_map-map

-- ---- what has been read

abbrev pub waiting : ExprUse → Tokens
waiting (v.Let x) = t.Keyword w.Let ∷ t.Name x ∷ symbol s.Assign
waiting (v.Set x) = t.Name x ∷ symbol s.Assign
waiting v.While = word w.While
waiting (v.For x) = t.Keyword w.For ∷ t.Name x ∷ word w.In
waiting v.If = word w.If
waiting v.Return = word w.Return
waiting v.Raise = word w.Raise
waiting v.Write = word w.Write
waiting (v.WriteText d) = t.Keyword w.Write ∷ expr d ++ symbol s.Comma
waiting v.Print = word w.Print
waiting (v.Argument x es) = t.Keyword w.Call ∷ t.Name x ∷ t.Symbol s.OpenParen ∷ items es
waiting (v.Names x es ns) = call_part x es ++ (t.Keyword w.To ∷ t.Symbol s.OpenParen ∷ items ns)

abbrev pub if_tokens : Expr → Block → Tokens
if_tokens e b = t.Keyword w.If ∷ expr e ++ tokens_of_block b

unfoldable pub within : StatementState → Tokens
within i.Begin = []
within i.LetWord = word w.Let
within (i.LetName x) = t.Keyword w.Let ∷ t.Name x ∷ []
within (i.SetName x) = t.Name x ∷ []
within i.ForWord = word w.For
within (i.ForName x) = t.Keyword w.For ∷ t.Name x ∷ []
within i.CheckpointWord = word w.Checkpoint
within i.CallWord = word w.Call
within (i.CallName x) = t.Keyword w.Call ∷ t.Name x ∷ []
within (i.CallFirst x) = t.Keyword w.Call ∷ t.Name x ∷ symbol s.OpenParen
within (i.Called x es) = call_part x es
within (i.CallTo x es) = call_part x es ++ word w.To
within (i.CallEnd c) = call_tokens c
within (i.IfBlock e b) = if_tokens e b
within (i.ElseWord e b) = if_tokens e b ++ word w.Else
within (i.Reading wait fs o) = waiting wait ++ read fs o

abbrev pub head : Head → Tokens
head (h.While e) = t.Keyword w.While ∷ expr e ++ symbol s.OpenBlock
head (h.For x e) = t.Keyword w.For ∷ t.Name x ∷ t.Keyword w.In ∷ expr e ++ symbol s.OpenBlock
head (h.If e) = t.Keyword w.If ∷ expr e ++ symbol s.OpenBlock
head (h.Else e b) = if_tokens e b ++ (t.Keyword w.Else ∷ symbol s.OpenBlock)

abbrev pub Acts : Tokens → Token → BlockMove → Type 0
Acts ts token (Go next) = within next ≡ ts ++ token ∷ []
Acts ts token (Add x) = statement x ≡ ts ++ token ∷ []
Acts ts token (Again x) = statement x ≡ ts
Acts ts token (Enter x) = head x ≡ ts ++ token ∷ []
Acts ts token Leave = (ts ≡ []) × (token ≡ t.Symbol s.CloseBlock)
Acts ts token Halt = Unit {0}

nothing_read : read [] (o.Operand nothing_before) ≡ []
unfolding focus
nothing_read = nothing-spells

read-acts : (wait : ExprUse) (ts : Tokens) (token : Token) → waiting wait ≡ ts ++ token ∷ [] → Acts ts token (read_for wait)
unfolding within
read-acts wait ts token e = ap (λ z. waiting wait ++ z) nothing_read ∙ (append-nil _ ∙ e)

begin-acts : (token : Token) → Acts [] token (begin token)
unfolding within
begin-acts (t.Symbol s.CloseBlock) = (refl, refl)
begin-acts (t.Name x) = refl
begin-acts (t.Keyword w.Let) = refl
begin-acts (t.Keyword w.While) = read-acts v.While [] _ refl
begin-acts (t.Keyword w.For) = refl
begin-acts (t.Keyword w.If) = read-acts v.If [] _ refl
begin-acts (t.Keyword w.Return) = read-acts v.Return [] _ refl
begin-acts (t.Keyword w.Raise) = read-acts v.Raise [] _ refl
begin-acts (t.Keyword w.Write) = read-acts v.Write [] _ refl
begin-acts (t.Keyword w.Print) = read-acts v.Print [] _ refl
begin-acts (t.Keyword w.Checkpoint) = refl
begin-acts (t.Keyword w.Call) = refl
begin-acts _ = tt

abbrev IsEnd : Token → End → Type 0
IsEnd token Semicolon = token ≡ t.Symbol s.Semicolon
IsEnd token Comma = token ≡ t.Symbol s.Comma
IsEnd token Round = token ≡ t.Symbol s.CloseParen
IsEnd token Brace = token ≡ t.Symbol s.OpenBlock
IsEnd token Other = Unit {0}

is_end : (token : Token) → IsEnd token (end_of token)
is_end (t.Symbol s.Semicolon) = refl
is_end (t.Symbol s.Comma) = refl
is_end (t.Symbol s.CloseParen) = refl
is_end (t.Symbol s.OpenBlock) = refl
is_end _ = tt

pub some_names : (es : List Expr) (e : Expr) → names_part (map expr (es ++ e ∷ [])) ≡ t.Keyword w.To ∷ in_parens (listed (map expr (es ++ e ∷ [])))
some_names [] e = refl
some_names (d ∷ es) e = refl

pub call-tokens : (x : List ℕ) (es ns : List Expr) → call_tokens (roll-CallExpr (record { app = x; arguments = es; names = ns })) ≡ call_part x es ++ names_part (map expr ns)
unfolding call_part
call-tokens x es ns = call-rolled _

ended-acts : (wait : ExprUse) (e : Expr) (c : End) (token : Token) → IsEnd token c → Acts (waiting wait ++ expr e) token (ended wait e c)
unfolding within
ended-acts (v.Let x) e Semicolon token is = rw is (statement-let x e)
ended-acts (v.Set x) e Semicolon token is = rw is (statement-set x e)
ended-acts v.While e Brace token is = rw is refl
ended-acts (v.For x) e Brace token is = rw is refl
ended-acts v.If e Brace token is = rw is refl
ended-acts v.Return e Semicolon token is = rw is (statement-return e)
ended-acts v.Raise e Semicolon token is = rw is (statement-raise e)
ended-acts v.Write e Comma token is = rw is (read-acts (v.WriteText e) (t.Keyword w.Write ∷ expr e) (t.Symbol s.Comma) refl)
ended-acts (v.WriteText d) e Semicolon token is = rw is (statement-write d e ∙ ap (λ z. z ++ symbol s.Semicolon) (sym (append_assoc (t.Keyword w.Write ∷ expr d) (symbol s.Comma) (expr e))))
ended-acts v.Print e Semicolon token is = rw is (statement-print e)
ended-acts (v.Argument x es) e Comma token is = rw is (read-acts (v.Argument x (es ++ e ∷ [])) ((t.Keyword w.Call ∷ t.Name x ∷ t.Symbol s.OpenParen ∷ items es) ++ expr e) (t.Symbol s.Comma) (rw (items-more es e) (simp append_assoc)))
ended-acts (v.Argument x es) e Round token is = rw (is, call_part-is x (es ++ e ∷ []), items-spells es e) refl
ended-acts (v.Names x es ns) e Comma token is = rw is (read-acts (v.Names x es (ns ++ e ∷ [])) (waiting (v.Names x es ns) ++ expr e) (t.Symbol s.Comma) (rw (items-more ns e) (simp append_assoc)))
ended-acts (v.Names x es ns) e Round token is = rw (is, call-tokens x es (ns ++ e ∷ []), some_names ns e, items-spells ns e) (simp append_assoc)
ended-acts _ e _ token is = tt

goes-acts : (wait : ExprUse) (ts : Tokens) (token : Token) (n : ExprNext) → Spells ts token n → Acts (waiting wait ++ ts) token (goes wait token n)
unfolding within
goes-acts wait ts token (Stay fs o) e = ap (λ z. waiting wait ++ z) e ∙ sym (append_assoc (waiting wait) ts (token ∷ []))
goes-acts wait ts token (Done e) is = subst (λ (z : Tokens). Acts (waiting wait ++ z) token (ended wait e (end_of token))) is (ended-acts wait e (end_of token) token (is_end token))
goes-acts wait ts token Stop e = tt

reading-acts : (wait : ExprUse) (fs : List OpenBracket) (o : ExprState) (token : Token) → Acts (waiting wait ++ read fs o) token (goes wait token (step fs o token))
reading-acts wait fs o token = goes-acts wait (read fs o) token (step fs o token) (step-spells fs o token)

if_name-acts : (next : List ℕ → StatementState) (ts : Tokens) (token : Token) → ((x : List ℕ) → within (next x) ≡ ts ++ t.Name x ∷ []) → Acts ts token (if_name next token)
if_name-acts next ts (t.Name x) e = e x
if_name-acts next ts _ e = tt

if_symbol-acts : (k : Symbol) (a : BlockMove) (ts : Tokens) (token : Token) → Acts ts (t.Symbol k) a → Acts ts token (if_symbol k a token)
if_symbol-acts s.Assign a ts (t.Symbol s.Assign) e = e
if_symbol-acts s.Semicolon a ts (t.Symbol s.Semicolon) e = e
if_symbol-acts s.OpenParen a ts (t.Symbol s.OpenParen) e = e
if_symbol-acts s.OpenBlock a ts (t.Symbol s.OpenBlock) e = e
if_symbol-acts _ a ts _ e = tt

if_in-acts : (a : BlockMove) (ts : Tokens) (token : Token) → Acts ts (t.Keyword w.In) a → Acts ts token (if_in a token)
if_in-acts a ts (t.Keyword w.In) e = e
if_in-acts a ts _ e = tt

argument_begins : (x : List ℕ) → waiting (v.Argument x []) ++ read [] (o.Operand nothing_before) ≡ t.Keyword w.Call ∷ t.Name x ∷ symbol s.OpenParen
argument_begins x = ap (λ (z : Tokens). (t.Keyword w.Call ∷ t.Name x ∷ symbol s.OpenParen) ++ z) nothing_read

first_argument : (x : List ℕ) (token : Token) → Acts (t.Keyword w.Call ∷ t.Name x ∷ symbol s.OpenParen) token (goes (v.Argument x []) token (step [] (o.Operand nothing_before) token))
first_argument x token = subst (λ (z : Tokens). Acts z token (goes (v.Argument x []) token (step [] (o.Operand nothing_before) token))) (argument_begins x)
    (reading-acts (v.Argument x []) [] (o.Operand nothing_before) token)

first-acts : (x : List ℕ) (token : Token) → Acts (t.Keyword w.Call ∷ t.Name x ∷ symbol s.OpenParen) token (first x token)
unfolding within
first-acts x (t.Symbol s.CloseParen) = call_part-is x []
first-acts x token = first_argument x token

called-acts : (x : List ℕ) (es : List Expr) (token : Token) → Acts (call_part x es) token (called x es token)
unfolding within
called-acts x es (t.Keyword w.To) = refl
called-acts x es (t.Symbol s.Semicolon) = statement-call _ ∙ ap (λ z. z ++ symbol s.Semicolon) (call-tokens x es [] ∙ append-nil _)
called-acts x es _ = tt

after_if-acts : (e : Expr) (b : Block) (token : Token) → Acts (if_tokens e b) token (after_if e b token)
unfolding within
after_if-acts e b (t.Keyword w.Else) = refl
after_if-acts e b _ = statement-if e b ∙ ap (λ z. (t.Keyword w.If ∷ expr e) ++ z) (append-nil _)

pub act-acts : (i : StatementState) (token : Token) → Acts (within i) token (act i token)
unfolding within act
act-acts i.Begin token = begin-acts token
act-acts i.LetWord token = if_name-acts (λ x. i.LetName x) (word w.Let) token (λ x. refl)
act-acts (i.LetName x) token = if_symbol-acts s.Assign _ (t.Keyword w.Let ∷ t.Name x ∷ []) token (read-acts (v.Let x) (t.Keyword w.Let ∷ t.Name x ∷ []) (t.Symbol s.Assign) refl)
act-acts (i.SetName x) token = if_symbol-acts s.Assign _ (t.Name x ∷ []) token (read-acts (v.Set x) (t.Name x ∷ []) (t.Symbol s.Assign) refl)
act-acts i.ForWord token = if_name-acts (λ x. i.ForName x) (word w.For) token (λ x. refl)
act-acts (i.ForName x) token = if_in-acts _ (t.Keyword w.For ∷ t.Name x ∷ []) token (read-acts (v.For x) (t.Keyword w.For ∷ t.Name x ∷ []) (t.Keyword w.In) refl)
act-acts i.CheckpointWord token = if_symbol-acts s.Semicolon _ (word w.Checkpoint) token statement-checkpoint
act-acts i.CallWord token = if_name-acts (λ x. i.CallName x) (word w.Call) token (λ x. refl)
act-acts (i.CallName x) token = if_symbol-acts s.OpenParen _ (t.Keyword w.Call ∷ t.Name x ∷ []) token refl
act-acts (i.CallFirst x) token = first-acts x token
act-acts (i.Called x es) token = called-acts x es token
act-acts (i.CallTo x es) token = if_symbol-acts s.OpenParen _ (call_part x es ++ word w.To) token (read-acts (v.Names x es []) (call_part x es ++ word w.To) (t.Symbol s.OpenParen) (sym (append_assoc (call_part x es) (word w.To) (symbol s.OpenParen))))
act-acts (i.CallEnd c) token = if_symbol-acts s.Semicolon _ (call_tokens c) token (statement-call c)
act-acts (i.IfBlock e b) token = after_if-acts e b token
act-acts (i.ElseWord e b) token = if_symbol-acts s.OpenBlock _ (if_tokens e b ++ word w.Else) token (sym (append_assoc (if_tokens e b) (word w.Else) (symbol s.OpenBlock)))
act-acts (i.Reading wait fs o) token = reading-acts wait fs o token

-- ---- the open blocks

unfoldable pub opened : Opened → Tokens
opened o = flat_map statement o.before ++ head o.head

-- the tokens of the outermost block so far
unfoldable pub inside : BlockState → Tokens
inside z = t.Symbol s.OpenBlock ∷ flat_map opened z.opened ++ (flat_map statement z.before ++ within z.last)

abbrev pub Nows : Tokens → Token → Now → Type 0
Nows ts token (In z) = inside z ≡ ts ++ token ∷ []
Nows ts token (Out b) = tokens_of_block b ≡ ts ++ token ∷ []
Nows ts token Stuck = Unit {0}

abbrev pub so_far : List Opened → List Statement → Tokens → Tokens
so_far os before ts = t.Symbol s.OpenBlock ∷ flat_map opened os ++ (flat_map statement before ++ ts)

while-closes : (e : Expr) (ss : List Statement) → statement (st.While e (block ss)) ≡ head (h.While e) ++ (flat_map statement ss ++ symbol s.CloseBlock)
while-closes e ss = statement-while e (block ss) ∙ (ap (λ z. (t.Keyword w.While ∷ expr e) ++ z) (block-rolled ss) ∙ sym (append_assoc (t.Keyword w.While ∷ expr e) (symbol s.OpenBlock) (flat_map statement ss ++ symbol s.CloseBlock)))

for-closes : (x : List ℕ) (e : Expr) (ss : List Statement) → statement (st.For x e (block ss)) ≡ head (h.For x e) ++ (flat_map statement ss ++ symbol s.CloseBlock)
for-closes x e ss = statement-for x e (block ss) ∙ (ap (λ z. (t.Keyword w.For ∷ t.Name x ∷ t.Keyword w.In ∷ expr e) ++ z) (block-rolled ss) ∙ sym (append_assoc (t.Keyword w.For ∷ t.Name x ∷ t.Keyword w.In ∷ expr e) (symbol s.OpenBlock) (flat_map statement ss ++ symbol s.CloseBlock)))

if-closes : (e : Expr) (ss : List Statement) → if_tokens e (block ss) ≡ head (h.If e) ++ (flat_map statement ss ++ symbol s.CloseBlock)
if-closes e ss = ap (λ z. (t.Keyword w.If ∷ expr e) ++ z) (block-rolled ss) ∙ sym (append_assoc (t.Keyword w.If ∷ expr e) (symbol s.OpenBlock) (flat_map statement ss ++ symbol s.CloseBlock))

else-closes : (e : Expr) (b : Block) (ss : List Statement) → statement (st.If e b (Some (block ss))) ≡ head (h.Else e b) ++ (flat_map statement ss ++ symbol s.CloseBlock)
else-closes e b ss = statement-else e b (block ss) ∙ (ap (λ z. (t.Keyword w.If ∷ expr e) ++ (tokens_of_block b ++ (t.Keyword w.Else ∷ z))) (block-rolled ss)
    ∙ (sym (append_assoc (t.Keyword w.If ∷ expr e) (tokens_of_block b) (t.Keyword w.Else ∷ t.Symbol s.OpenBlock ∷ (flat_map statement ss ++ symbol s.CloseBlock)))
    ∙ sym (append_assoc (if_tokens e b) (t.Keyword w.Else ∷ symbol s.OpenBlock) (flat_map statement ss ++ symbol s.CloseBlock))))

-- the block belongs to a statement that is whole now
whole_left : (os : List Opened) (before : List Statement) (hd : Head) (x : Statement) (ss : List Statement) → statement x ≡ head hd ++ (flat_map statement ss ++ symbol s.CloseBlock)
    → flat_map opened os ++ (flat_map statement (before ++ x ∷ []) ++ []) ≡ flat_map opened (os ++ record { before = before; head = hd } ∷ []) ++ (flat_map statement ss ++ symbol s.CloseBlock)
unfolding opened
whole_left os before hd x ss e = simp (flat_map-append, append-nil, append_assoc, e)

if_left : (os : List Opened) (before : List Statement) (e : Expr) (ss : List Statement)
    → flat_map opened os ++ (flat_map statement before ++ if_tokens e (block ss)) ≡ flat_map opened (os ++ record { before = before; head = h.If e } ∷ []) ++ (flat_map statement ss ++ symbol s.CloseBlock)
unfolding opened
if_left os before e ss = rw (if-closes e ss) (simp (flat_map-append, append-nil, append_assoc))

pub left-nows : (os : List Opened) (before : List Statement) (hd : Head) (ss : List Statement)
    → inside (left os before hd (block ss)) ≡ so_far (os ++ record { before = before; head = hd } ∷ []) ss (symbol s.CloseBlock)
unfolding inside within
left-nows os before (h.While e) ss = ap (λ z. t.Symbol s.OpenBlock ∷ z) (whole_left os before _ _ ss (while-closes e ss))
left-nows os before (h.For x e) ss = ap (λ z. t.Symbol s.OpenBlock ∷ z) (whole_left os before _ _ ss (for-closes x e ss))
left-nows os before (h.If e) ss = ap (λ z. t.Symbol s.OpenBlock ∷ z) (if_left os before e ss)
left-nows os before (h.Else e b) ss = ap (λ z. t.Symbol s.OpenBlock ∷ z) (whole_left os before _ _ ss (else-closes e b ss))

pub so_far-more : (os : List Opened) (before : List Statement) (ts us : Tokens) → so_far os before (ts ++ us) ≡ so_far os before ts ++ us
so_far-more os before ts us = ap (λ z. t.Symbol s.OpenBlock ∷ z) (ap (λ z. flat_map opened os ++ z) (sym (append_assoc (flat_map statement before) ts us)) ∙ sym (append_assoc (flat_map opened os) (flat_map statement before ++ ts) us))

outer_left : (before : List Statement) → tokens_of_block (block before) ≡ so_far [] before (symbol s.CloseBlock)
outer_left before = block-rolled before

leave-nows : (os : List Opened) (before : List Statement) (r : Option (List Opened × Opened)) → IsSplit os r
    → Nows (so_far os before []) (t.Symbol s.CloseBlock) (leave before r)
leave-nows os before None is = rw is (outer_left before ∙ so_far-more [] before [] (symbol s.CloseBlock))
leave-nows os before (Some (ps, p)) is = left-nows ps p.before p.head before ∙ (ap (λ (zs : List Opened). so_far zs before (symbol s.CloseBlock)) (sym is) ∙ so_far-more os before [] (symbol s.CloseBlock))

pub again_tokens : (os : List Opened) (before : List Statement) (x : Statement) (ts : Tokens) → statement x ≡ ts → so_far os (before ++ x ∷ []) [] ≡ so_far os before ts
again_tokens os before x ts e = ap (λ z. t.Symbol s.OpenBlock ∷ (flat_map opened os ++ z)) (simp (flat_map-append, append-nil, e))

-- a block is opened
enter_tokens : (os : List Opened) (before : List Statement) (hd : Head) (ts : Tokens) → head hd ≡ ts → so_far (os ++ record { before = before; head = hd } ∷ []) [] [] ≡ so_far os before ts
unfolding opened
enter_tokens os before hd ts e = ap (λ z. t.Symbol s.OpenBlock ∷ z) (simp (flat_map-append, append-nil, append_assoc, e))

-- a token that acts behind the last whole statement
acted-nows : (os : List Opened) (before : List Statement) (ts : Tokens) (token : Token) (a : BlockMove) → Acts ts token a → Nows (so_far os before ts) token (acted os before a)
unfolding inside within
acted-nows os before ts token (Go last) e = ap (so_far os before) e ∙ so_far-more os before ts (token ∷ [])
acted-nows os before ts token (Add x) e = again_tokens os before x _ e ∙ so_far-more os before ts (token ∷ [])
acted-nows os before ts token (Enter x) e = enter_tokens os before x _ e ∙ so_far-more os before ts (token ∷ [])
acted-nows os before ts token Leave e = rw (e.0, e.1) (leave-nows os before (split os) (split-is os))
acted-nows os before ts token (Again x) e = tt
acted-nows os before ts token Halt e = tt

again-nows : (os : List Opened) (before : List Statement) (ts : Tokens) (token : Token) (a : BlockMove) → Acts ts token a → Nows (so_far os before ts) token (acted_again os before token a)
again-nows os before ts token (Again x) e = subst (λ (z : Tokens). Nows z token (acted os (before ++ x ∷ []) (begin token))) (again_tokens os before x ts e)
    (acted-nows os (before ++ x ∷ []) [] token (begin token) (begin-acts token))
again-nows os before ts token (Go last) e = acted-nows os before ts token (Go last) e
again-nows os before ts token (Add x) e = acted-nows os before ts token (Add x) e
again-nows os before ts token (Enter x) e = acted-nows os before ts token (Enter x) e
again-nows os before ts token Leave e = acted-nows os before ts token Leave e
again-nows os before ts token Halt e = tt

pub inside_step-spells : (z : BlockState) (token : Token) → Nows (inside z) token (inside_step z token)
unfolding inside_step inside
inside_step-spells z token = again-nows z.opened z.before (within z.last) token (act z.last token) (act-acts z.last token)
