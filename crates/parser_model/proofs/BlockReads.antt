-- What is spelled as a block is read.
use Rattle.std.proofs.Common.{◌≡◌, ℕ, List, [], ◌∷◌, ◌++◌, map, refl, ap, ◌∙◌, sym, subst, Bool, true, false, Option, Some, None, append-nil, append_assoc}
use Rattle.std.specs.List.{flat_map}
use Rattle.script_tree.specs.declared.token.Token.{Token}
use Rattle.script_tree.specs.declared.token.Token.TheVariants as t
use Rattle.script_tree.specs.declared.token.Keyword.TheVariants as w
use Rattle.script_tree.specs.declared.token.Symbol.TheVariants as s
use Rattle.script_tree.specs.declared.tree.Expr.{Expr}
use Rattle.script_tree.specs.declared.tree.CallExpr.{CallExpr, roll-CallExpr}
use Rattle.script_tree.specs.declared.tree.Block.{Block, roll-Block}
use Rattle.script_tree.specs.declared.tree.Statement.{Statement}
use Rattle.script_tree.specs.declared.tree.Statement.TheVariants as st
use Rattle.parser_model.specs.declared.expression_state.OpenBracket.{OpenBracket}
use Rattle.parser_model.specs.declared.expression_state.ExprState.{ExprState}
use Rattle.parser_model.specs.declared.expression_state.ExprState.TheVariants as o
use Rattle.parser_model.specs.declared.expression_state.ExprNext.{ExprNext}
use Rattle.parser_model.specs.declared.expression_state.ExprNext.TheVariants.{Stay, Done, Stop}
use Rattle.parser_model.specs.declared.block_state.ExprUse.{ExprUse}
use Rattle.parser_model.specs.declared.block_state.ExprUse.TheVariants as v
use Rattle.parser_model.specs.declared.block_state.Head.{Head}
use Rattle.parser_model.specs.declared.block_state.Head.TheVariants as h
use Rattle.parser_model.specs.declared.block_state.Opened.{Opened}
use Rattle.parser_model.specs.declared.block_state.StatementState.{StatementState}
use Rattle.parser_model.specs.declared.block_state.StatementState.TheVariants as i
use Rattle.parser_model.specs.declared.block_state.BlockMove.TheVariants.{Enter}
use Rattle.script_tree.specs.declared.tree.Statement.{roll-Statement}
use Rattle.script_tree.specs.declared.tree.Statement.TheOpen.{Statement-F, Block-F}
use Rattle.script_tree.specs.Spelling.{Tokens, symbol, listed}
use Rattle.parser_model.specs.Reading.{nothing_before, step}
use Rattle.parser_model.specs.declared.block_state.BlockState.{BlockState}
use Rattle.parser_model.specs.Stages.{begin, call, Brace, end_of, ended, goes, first, act, block, left, Now, In, Out, Stuck, leave, acted, acted_again, inside_step}
use Rattle.parser_model.proofs.Equations.{expr}
use Rattle.parser_model.proofs.Steps.{split-snoc, call_part-is}
use Rattle.parser_model.proofs.Blocks.{statement, tokens_of_block, statement-let, statement-set, statement-while, statement-for, statement-return, statement-raise, statement-print, statement-write, statement-checkpoint, statement-call, statement-if, statement-else, block-rolled, call-tokens}
use Rattle.parser_model.specs.Reading.{run, goes_on, behind_of}
use Rattle.parser_model.specs.declared.expression_state.Behind.TheVariants.{Others}
use Rattle.parser_model.proofs.Complete.{exprs_read, is_plain, step_at}
use Rattle.script_tree.specs.declared.tree.Statement.{ind-Statement, roll-Statement}
use Rattle.script_tree.specs.declared.tree.Block.{out-Block, roll-out-Block, out-roll-Block, ind-Block}
use Rattle.script_tree.specs.declared.tree.CallExpr.{out-CallExpr, roll-out-CallExpr}
use Rattle.script_tree.specs.declared.tree.Statement.TheFolds.{map-Statement}

-- ---- tokens of a block

abbrev pub then_go : (BlockState → Now) → Now → Now
then_go go (In z) = go z
then_go go (Out b) = Stuck
then_go go Stuck = Stuck

abbrev pub run_in : Tokens → BlockState → Now
run_in [] z = In z
run_in (token ∷ ts) z = then_go (run_in ts) (inside_step z token)

run_in-by : (ts us : Tokens) (n : Now) → ((z : BlockState) → run_in (ts ++ us) z ≡ then_go (run_in us) (run_in ts z)) → then_go (run_in (ts ++ us)) n ≡ then_go (run_in us) (then_go (run_in ts) n)
run_in-by ts us (In z) h = h z
run_in-by ts us (Out b) h = refl
run_in-by ts us Stuck h = refl

pub run_in-append : (ts us : Tokens) (z : BlockState) → run_in (ts ++ us) z ≡ then_go (run_in us) (run_in ts z)
run_in-append [] us z = refl
run_in-append (token ∷ ts) us z = run_in-by ts us (inside_step z token) (run_in-append ts us)

pub runs_in : (ts us : Tokens) (z y : BlockState) (n : Now) → run_in ts z ≡ In y → run_in us y ≡ n → run_in (ts ++ us) z ≡ n
runs_in ts us z y n e h = run_in-append ts us z ∙ (ap (then_go (run_in us)) e ∙ h)

abbrev at : List Opened → List Statement → StatementState → BlockState
at os before last = record { opened = os; before = before; last = last }

expr_same : (os : List Opened) (before : List Statement) (wait : ExprUse) (fs gs : List OpenBracket) (o q : ExprState) → Stay fs o ≡ Stay gs q
    → In (at os before (i.Reading wait fs o)) ≡ In (at os before (i.Reading wait gs q))
expr_same os before wait fs gs o q e = let f1 : fs ≡ gs = cc in let f2 : o ≡ q = cc in cc

expr_in_by : (os : List Opened) (before : List Statement) (wait : ExprUse) (token : Token) (ts : Tokens) (fs gs : List OpenBracket) (o q : ExprState) (n : ExprNext) → step fs o token ≡ n
    → ((hs : List OpenBracket) (p : ExprState) → run ts hs p ≡ Stay gs q → run_in ts (at os before (i.Reading wait hs p)) ≡ In (at os before (i.Reading wait gs q)))
    → goes_on (run ts) n ≡ Stay gs q → run_in (token ∷ ts) (at os before (i.Reading wait fs o)) ≡ In (at os before (i.Reading wait gs q))
unfolding inside_step act
expr_in_by os before wait token ts fs gs o q (Stay hs p) is h e = ap (λ (n : ExprNext). then_go (run_in ts) (acted_again os before token (goes wait token n))) is ∙ h hs p e
expr_in_by os before wait token ts fs gs o q (Done x) is h e = absurd (cc)
expr_in_by os before wait token ts fs gs o q Stop is h e = absurd (cc)

-- an expression is read inside of a block as alone
expr_in : (os : List Opened) (before : List Statement) (wait : ExprUse) (ts : Tokens) (fs gs : List OpenBracket) (o q : ExprState) → run ts fs o ≡ Stay gs q
    → run_in ts (at os before (i.Reading wait fs o)) ≡ In (at os before (i.Reading wait gs q))
expr_in os before wait [] fs gs o q e = expr_same os before wait fs gs o q e
expr_in os before wait (token ∷ ts) fs gs o q e = expr_in_by os before wait token ts fs gs o q (step fs o token) refl (λ hs p. expr_in os before wait ts hs gs p q) e

-- a whole expression, and what ends it
pub ended_in : (os : List Opened) (before : List Statement) (wait : ExprUse) (e : Expr) (token : Token) → is_plain token ≡ true → behind_of token ≡ Others → (n : Now)
    → acted_again os before token (ended wait e (end_of token)) ≡ n
    → run_in (expr e ++ token ∷ []) (at os before (i.Reading wait [] (o.Operand nothing_before))) ≡ then_go (run_in []) n
unfolding inside_step act
ended_in os before wait e token plain behind n is =
    let r = exprs_read e [] in
    let last : step [] r.last token ≡ Done e = step_at [] r.last r.before r.post token Others r.at_end plain behind ∙ ap (λ (x : Expr). Done x) r.fact in
    runs_in (expr e) (token ∷ []) _ (at os before (i.Reading wait [] r.last)) _ (expr_in os before wait (expr e) [] [] (o.Operand nothing_before) r.last r.run)
    (ap (λ (m : ExprNext). then_go (run_in []) (acted_again os before token (goes wait token m))) last ∙ ap (then_go (run_in [])) is)

-- ---- statements

abbrev pub is_else : Token → Bool
is_else (t.Keyword w.Else) = true
is_else _ = false

-- these statements are read, though an `else` may be to come
abbrev pub Ready : BlockState → List Opened → List Statement → Type 0
Ready z os before = (token : Token) → is_else token ≡ false → inside_step z token ≡ inside_step (at os before i.Begin) token

pub record StatementRead (x : Statement) (os : List Opened) (before : List Statement) : Type 0 where
  pub first : Token
  pub rest : Tokens
  pub is : statement x ≡ first ∷ rest
  pub last : BlockState
  pub run : run_in (first ∷ rest) (at os before i.Begin) ≡ In last
  pub ready : Ready last os (before ++ x ∷ [])

abbrev pub StatementReads : Statement → Type 0
StatementReads x = (os : List Opened) (before : List Statement) → StatementRead x os before

-- a block, behind its `{`
abbrev pub tail : Block → Tokens
tail b = flat_map statement (out-Block b).statements ++ symbol s.CloseBlock

abbrev pub BlockReads : Block → Type 0
BlockReads b = (os : List Opened) (before : List Statement) (hd : Head) → run_in (tail b) (at (os ++ record { before = before; head = hd } ∷ []) [] i.Begin) ≡ In (left os before hd b)

tail-spells : (b : Block) → tokens_of_block b ≡ t.Symbol s.OpenBlock ∷ tail b
tail-spells b = ap tokens_of_block (sym (roll-out-Block b)) ∙ block-rolled (out-Block b).statements

whole : (x : Statement) (os : List Opened) (before : List Statement) (first : Token) (rest : Tokens) → statement x ≡ first ∷ rest
    → run_in (first ∷ rest) (at os before i.Begin) ≡ In (at os (before ++ x ∷ []) i.Begin) → StatementRead x os before
whole x os before first rest e r = record { first = first; rest = rest; is = e; last = at os (before ++ x ∷ []) i.Begin; run = r; ready = λ token h. refl }

let_reads : (x : List ℕ) (e : Expr) → StatementReads (st.Let x e)
unfolding inside_step act
let_reads x e os before = whole _ os before (t.Keyword w.Let) (t.Name x ∷ t.Symbol s.Assign ∷ (expr e ++ symbol s.Semicolon)) (statement-let x e) (ended_in os before (v.Let x) e (t.Symbol s.Semicolon) refl refl _ refl)

set_reads : (x : List ℕ) (e : Expr) → StatementReads (st.Set x e)
unfolding inside_step act
set_reads x e os before = whole _ os before (t.Name x) (t.Symbol s.Assign ∷ (expr e ++ symbol s.Semicolon)) (statement-set x e) (ended_in os before (v.Set x) e (t.Symbol s.Semicolon) refl refl _ refl)

return_reads : (e : Expr) → StatementReads (st.Return e)
unfolding inside_step act
return_reads e os before = whole _ os before (t.Keyword w.Return) (expr e ++ symbol s.Semicolon) (statement-return e) (ended_in os before v.Return e (t.Symbol s.Semicolon) refl refl _ refl)

raise_reads : (e : Expr) → StatementReads (st.Raise e)
unfolding inside_step act
raise_reads e os before = whole _ os before (t.Keyword w.Raise) (expr e ++ symbol s.Semicolon) (statement-raise e) (ended_in os before v.Raise e (t.Symbol s.Semicolon) refl refl _ refl)

print_reads : (e : Expr) → StatementReads (st.Print e)
unfolding inside_step act
print_reads e os before = whole _ os before (t.Keyword w.Print) (expr e ++ symbol s.Semicolon) (statement-print e) (ended_in os before v.Print e (t.Symbol s.Semicolon) refl refl _ refl)

checkpoint_reads : StatementReads st.Checkpoint
unfolding inside_step act
checkpoint_reads os before = whole _ os before (t.Keyword w.Checkpoint) (symbol s.Semicolon) statement-checkpoint refl

-- an expression before a block
before_block : (os : List Opened) (before : List Statement) (wait : ExprUse) (e : Expr) (hd : Head) (b : Block) → ended wait e Brace ≡ Enter hd → BlockReads b
    → run_in (expr e ++ t.Symbol s.OpenBlock ∷ tail b) (at os before (i.Reading wait [] (o.Operand nothing_before))) ≡ In (left os before hd b)
before_block os before wait e hd b enters h = subst (λ (z : Tokens). run_in z (at os before (i.Reading wait [] (o.Operand nothing_before))) ≡ In (left os before hd b)) (append_assoc (expr e) (symbol s.OpenBlock) (tail b))
    (runs_in (expr e ++ symbol s.OpenBlock) (tail b) _ (at (os ++ record { before = before; head = hd } ∷ []) [] i.Begin) _
    (ended_in os before wait e (t.Symbol s.OpenBlock) refl refl _ (ap (acted_again os before (t.Symbol s.OpenBlock)) enters)) (h os before hd))

SuchBlock : Type 0
SuchBlock = (b : Block) × BlockReads b

while_reads : (e : Expr) (b : Block) → BlockReads b → StatementReads (st.While e b)
unfolding inside_step act
while_reads e b hb os before = whole _ os before (t.Keyword w.While) (expr e ++ t.Symbol s.OpenBlock ∷ tail b) (statement-while e b ∙ ap (λ z. (t.Keyword w.While ∷ expr e) ++ z) (tail-spells b)) (before_block os before v.While e (h.While e) b refl hb)

for_reads : (x : List ℕ) (e : Expr) (b : Block) → BlockReads b → StatementReads (st.For x e b)
unfolding inside_step act
for_reads x e b hb os before = whole _ os before (t.Keyword w.For) (t.Name x ∷ t.Keyword w.In ∷ (expr e ++ t.Symbol s.OpenBlock ∷ tail b)) (statement-for x e b ∙ ap (λ z. (t.Keyword w.For ∷ t.Name x ∷ t.Keyword w.In ∷ expr e) ++ z) (tail-spells b)) (before_block os before (v.For x) e (h.For x e) b refl hb)

begin_once : (os : List Opened) (before : List Statement) (token : Token) → acted_again os before token (begin token) ≡ acted os before (begin token)
begin_once os before (t.Symbol s.CloseBlock) = refl
begin_once os before (t.Name x) = refl
begin_once os before (t.Keyword w.Let) = refl
begin_once os before (t.Keyword w.While) = refl
begin_once os before (t.Keyword w.For) = refl
begin_once os before (t.Keyword w.If) = refl
begin_once os before (t.Keyword w.Return) = refl
begin_once os before (t.Keyword w.Raise) = refl
begin_once os before (t.Keyword w.Write) = refl
begin_once os before (t.Keyword w.Print) = refl
begin_once os before (t.Keyword w.Checkpoint) = refl
begin_once os before (t.Keyword w.Call) = refl
begin_once os before _ = refl

-- behind an `if` and its block, any other token goes on as behind the whole statement
if_ready : (e : Expr) (b : Block) (os : List Opened) (before : List Statement) → Ready (at os before (i.IfBlock e b)) os (before ++ st.If e b None ∷ [])
unfolding inside_step act
if_ready e b os before (t.Keyword w.Else) h = absurd (cc)
if_ready e b os before token h = sym (begin_once os (before ++ st.If e b None ∷ []) token)

if_reads : (e : Expr) (b : Block) → BlockReads b → StatementReads (st.If e b None)
unfolding inside_step act
if_reads e b hb os before = record {
  first = t.Keyword w.If;
  rest = expr e ++ t.Symbol s.OpenBlock ∷ tail b;
  is = statement-if e b ∙ ap (λ z. (t.Keyword w.If ∷ expr e) ++ z) (append-nil _ ∙ tail-spells b);
  last = at os before (i.IfBlock e b);
  run = before_block os before v.If e (h.If e) b refl hb;
  ready = if_ready e b os before;
}

else_in : (e : Expr) (b d : Block) (os : List Opened) (before : List Statement) → BlockReads d
    → run_in (t.Keyword w.Else ∷ t.Symbol s.OpenBlock ∷ tail d) (at os before (i.IfBlock e b)) ≡ In (at os (before ++ st.If e b (Some d) ∷ []) i.Begin)
unfolding inside_step act
else_in e b d os before hd = hd os before (h.Else e b)

else_reads : (e : Expr) (b d : Block) → BlockReads b → BlockReads d → StatementReads (st.If e b (Some d))
unfolding inside_step act
else_reads e b d hb hd os before = whole _ os before (t.Keyword w.If) (expr e ++ (t.Symbol s.OpenBlock ∷ tail b) ++ (t.Keyword w.Else ∷ t.Symbol s.OpenBlock ∷ tail d))
    (statement-else e b d ∙ (ap (λ z. (t.Keyword w.If ∷ expr e) ++ (z ++ t.Keyword w.Else ∷ tokens_of_block d)) (tail-spells b)
    ∙ (ap (λ z. (t.Keyword w.If ∷ expr e) ++ ((t.Symbol s.OpenBlock ∷ tail b) ++ t.Keyword w.Else ∷ z)) (tail-spells d) ∙ sym (append_assoc (t.Keyword w.If ∷ expr e) (t.Symbol s.OpenBlock ∷ tail b) _))))
    (runs_in (expr e ++ (t.Symbol s.OpenBlock ∷ tail b)) (t.Keyword w.Else ∷ t.Symbol s.OpenBlock ∷ tail d) _ (at os before (i.IfBlock e b)) _
    (before_block os before v.If e (h.If e) b refl hb) (else_in e b d os before hd))

write_reads : (d e : Expr) → StatementReads (st.Write d e)
unfolding inside_step act
write_reads d e os before = whole _ os before (t.Keyword w.Write) ((expr d ++ symbol s.Comma) ++ (expr e ++ symbol s.Semicolon))
    (statement-write d e ∙ (append_assoc (t.Keyword w.Write ∷ expr d) (t.Symbol s.Comma ∷ expr e) (symbol s.Semicolon) ∙ sym (append_assoc (t.Keyword w.Write ∷ expr d) (symbol s.Comma) (expr e ++ symbol s.Semicolon))))
    (runs_in (expr d ++ symbol s.Comma) (expr e ++ symbol s.Semicolon) _ (at os before (i.Reading (v.WriteText d) [] (o.Operand nothing_before))) _
    (ended_in os before v.Write d (t.Symbol s.Comma) refl refl _ refl) (ended_in os before (v.WriteText d) e (t.Symbol s.Semicolon) refl refl _ refl))

-- ---- calls

arguments_in : (os : List Opened) (before : List Statement) (x : List ℕ) (ds : List Expr) (e : Expr) (es : List Expr)
    → run_in (listed (map expr (e ∷ es)) ++ symbol s.CloseParen) (at os before (i.Reading (v.Argument x ds) [] (o.Operand nothing_before))) ≡ In (at os before (i.Called x (ds ++ e ∷ es)))
arguments_in os before x ds e [] = rw append-nil (ended_in os before (v.Argument x ds) e (t.Symbol s.CloseParen) refl refl _ refl)
arguments_in os before x ds e (d ∷ es) =
    let rest : Tokens = listed (map expr (d ∷ es)) ++ symbol s.CloseParen in
    let goal : Tokens → Type 0 = λ z. run_in z (at os before (i.Reading (v.Argument x ds) [] (o.Operand nothing_before))) ≡ In (at os before (i.Called x (ds ++ e ∷ d ∷ es))) in
    let all : run_in ((expr e ++ symbol s.Comma) ++ rest) (at os before (i.Reading (v.Argument x ds) [] (o.Operand nothing_before))) ≡ In (at os before (i.Called x (ds ++ e ∷ d ∷ es))) =
    runs_in (expr e ++ symbol s.Comma) rest _ (at os before (i.Reading (v.Argument x (ds ++ e ∷ [])) [] (o.Operand nothing_before))) _
    (ended_in os before (v.Argument x ds) e (t.Symbol s.Comma) refl refl _ refl)
    (arguments_in os before x (ds ++ e ∷ []) d es ∙ ap (λ (z : List Expr). In (at os before (i.Called x z))) (append_assoc ds (e ∷ []) (d ∷ es))) in
    subst goal (append_assoc (expr e) (symbol s.Comma) rest ∙ sym (append_assoc (expr e) _ (symbol s.CloseParen))) all

abbrev call_of : List ℕ → List Expr → List Expr → CallExpr
call_of x es ns = roll-CallExpr (record { app = x; arguments = es; names = ns })

names_in : (os : List Opened) (before : List Statement) (x : List ℕ) (gs : List Expr) (ds : List Expr) (e : Expr) (es : List Expr)
    → run_in (listed (map expr (e ∷ es)) ++ symbol s.CloseParen) (at os before (i.Reading (v.Names x gs ds) [] (o.Operand nothing_before))) ≡ In (at os before (i.CallEnd (call_of x gs (ds ++ e ∷ es))))
names_in os before x gs ds e [] = rw append-nil (ended_in os before (v.Names x gs ds) e (t.Symbol s.CloseParen) refl refl _ refl)
names_in os before x gs ds e (d ∷ es) =
    let rest : Tokens = listed (map expr (d ∷ es)) ++ symbol s.CloseParen in
    let goal : Tokens → Type 0 = λ z. run_in z (at os before (i.Reading (v.Names x gs ds) [] (o.Operand nothing_before))) ≡ In (at os before (i.CallEnd (call_of x gs (ds ++ e ∷ d ∷ es)))) in
    let all : run_in ((expr e ++ symbol s.Comma) ++ rest) (at os before (i.Reading (v.Names x gs ds) [] (o.Operand nothing_before))) ≡ In (at os before (i.CallEnd (call_of x gs (ds ++ e ∷ d ∷ es)))) =
    runs_in (expr e ++ symbol s.Comma) rest _ (at os before (i.Reading (v.Names x gs (ds ++ e ∷ [])) [] (o.Operand nothing_before))) _
    (ended_in os before (v.Names x gs ds) e (t.Symbol s.Comma) refl refl _ refl)
    (names_in os before x gs (ds ++ e ∷ []) d es ∙ ap (λ (z : List Expr). In (at os before (i.CallEnd (call_of x gs z)))) (append_assoc ds (e ∷ []) (d ∷ es))) in
    subst goal (append_assoc (expr e) (symbol s.Comma) rest ∙ sym (append_assoc (expr e) _ (symbol s.CloseParen))) all

-- the first token of a list's items is no bracket that ends it
ended_list : {A : Type 0} (ts : List A) (x : A) → ts ++ x ∷ [] ≡ [] → ⊥
ended_list [] x e = cc
ended_list (y ∷ ts) x e = cc

first_in : (os : List Opened) (before : List Statement) (x : List ℕ) (token : Token) (ts : Tokens) (y : BlockState)
    → run_in (token ∷ ts) (at os before (i.Reading (v.Argument x []) [] (o.Operand nothing_before))) ≡ In y → run_in (token ∷ ts) (at os before (i.CallFirst x)) ≡ In y
unfolding inside_step act step
first_in os before x (t.Symbol s.CloseParen) ts y e = absurd (cc)
first_in os before x _ ts y e = e

first_in_any : (os : List Opened) (before : List Statement) (x : List ℕ) (ts : Tokens) (y : BlockState) → (ts ≡ [] → ⊥)
    → run_in ts (at os before (i.Reading (v.Argument x []) [] (o.Operand nothing_before))) ≡ In y → run_in ts (at os before (i.CallFirst x)) ≡ In y
first_in_any os before x [] y never e = absurd (never refl)
first_in_any os before x (token ∷ ts) y never e = first_in os before x token ts y e

call_in : (os : List Opened) (before : List Statement) (x : List ℕ) (es : List Expr) → run_in (listed (map expr es) ++ symbol s.CloseParen) (at os before (i.CallFirst x)) ≡ In (at os before (i.Called x es))
unfolding inside_step act
call_in os before x [] = refl
call_in os before x (e ∷ es) = first_in_any os before x (listed (map expr (e ∷ es)) ++ symbol s.CloseParen) _ (ended_list _ _) (arguments_in os before x [] e es)

call_reads : (x : List ℕ) (es ns : List Expr) → StatementReads (call x es ns)
unfolding inside_step act
call_reads x es [] os before = whole _ os before (t.Keyword w.Call) (t.Name x ∷ t.Symbol s.OpenParen ∷ ((listed (map expr es) ++ symbol s.CloseParen) ++ symbol s.Semicolon))
    (statement-call _ ∙ ap (λ z. z ++ symbol s.Semicolon) (call-tokens x es [] ∙ (append-nil _ ∙ call_part-is x es)))
    (runs_in (listed (map expr es) ++ symbol s.CloseParen) (symbol s.Semicolon) (at os before (i.CallFirst x)) (at os before (i.Called x es)) _ (call_in os before x es) refl)
call_reads x es (n ∷ ns) os before =
    let named : Tokens = listed (map expr (n ∷ ns)) ++ symbol s.CloseParen in
    whole _ os before (t.Keyword w.Call) (t.Name x ∷ t.Symbol s.OpenParen ∷ ((listed (map expr es) ++ symbol s.CloseParen) ++ (t.Keyword w.To ∷ t.Symbol s.OpenParen ∷ (named ++ symbol s.Semicolon))))
    (statement-call _ ∙ (ap (λ z. z ++ symbol s.Semicolon) (call-tokens x es (n ∷ ns) ∙ ap (λ z. z ++ (t.Keyword w.To ∷ t.Symbol s.OpenParen ∷ named)) (call_part-is x es))
    ∙ append_assoc ((t.Keyword w.Call ∷ t.Name x ∷ symbol s.OpenParen) ++ (listed (map expr es) ++ symbol s.CloseParen)) (t.Keyword w.To ∷ t.Symbol s.OpenParen ∷ named) (symbol s.Semicolon)))
    (runs_in (listed (map expr es) ++ symbol s.CloseParen) _ (at os before (i.CallFirst x)) (at os before (i.Called x es)) _ (call_in os before x es)
    (runs_in named (symbol s.Semicolon) (at os before (i.Reading (v.Names x es []) [] (o.Operand nothing_before))) (at os before (i.CallEnd (call_of x es (n ∷ ns)))) _ (names_in os before x es [] n ns) refl))

-- ---- blocks

pub not_else : (first : Token) (rest : Tokens) (os : List Opened) (before : List Statement) (y : BlockState) → run_in (first ∷ rest) (at os before i.Begin) ≡ In y → is_else first ≡ false
unfolding inside_step act
not_else (t.Keyword w.Else) rest os before y e = absurd (cc)
not_else _ rest os before y e = refl

block_ends : (os : List Opened) (p : Opened) (done : List Statement) → inside_step (at (os ++ p ∷ []) done i.Begin) (t.Symbol s.CloseBlock) ≡ In (left os p.before p.head (block done))
unfolding inside_step act
block_ends os p done = ap (λ (r : Option (List Opened × Opened)). leave done r) (split-snoc os p)

statements_read : (os : List Opened) (p : Opened) (done : List Statement) (xs : List ((x : Statement) × StatementReads x)) (z : BlockState) → Ready z (os ++ p ∷ []) done
    → run_in (flat_map statement (map (λ x. x.0) xs) ++ symbol s.CloseBlock) z ≡ In (left os p.before p.head (block (done ++ map (λ x. x.0) xs)))
statements_read os p done [] z ready = ap (then_go (λ y. In y)) (ready (t.Symbol s.CloseBlock) refl ∙ block_ends os p done)
    ∙ ap (λ (ss : List Statement). In (left os p.before p.head (block ss))) (sym (append-nil done))
statements_read os p done (x ∷ xs) z ready =
    let r = x.1 (os ++ p ∷ []) done in
    let more : Tokens = flat_map statement (map (λ y. y.0) xs) ++ symbol s.CloseBlock in
    let here : run_in (r.first ∷ r.rest) z ≡ In r.last = ap (then_go (run_in r.rest)) (ready r.first (not_else r.first r.rest (os ++ p ∷ []) done r.last r.run)) ∙ r.run in
    let all : run_in ((r.first ∷ r.rest) ++ more) z ≡ In (left os p.before p.head (block (done ++ map (λ y. y.0) (x ∷ xs)))) =
    runs_in (r.first ∷ r.rest) more z r.last _ here (statements_read os p (done ++ x.0 ∷ []) xs r.last r.ready
    ∙ ap (λ (ss : List Statement). In (left os p.before p.head (block ss))) (append_assoc done (x.0 ∷ []) (map (λ y. y.0) xs))) in
    subst (λ (ts : Tokens). run_in ts z ≡ In (left os p.before p.head (block (done ++ map (λ y. y.0) (x ∷ xs)))))
    (ap (λ (ts : Tokens). ts ++ more) (sym r.is) ∙ sym (append_assoc (statement x.0) (flat_map statement (map (λ y. y.0) xs)) (symbol s.CloseBlock))) all

block_step : (xs : List ((x : Statement) × StatementReads x)) → BlockReads (block (map (λ x. x.0) xs))
block_step xs os before hd = subst (λ (r : Block-F Statement Block). run_in (flat_map statement r.statements ++ symbol s.CloseBlock) (at (os ++ record { before = before; head = hd } ∷ []) [] i.Begin) ≡ In (left os before hd (block (map (λ x. x.0) xs))))
    (sym (out-roll-Block (record { statements = map (λ x. x.0) xs }))) (statements_read os (record { before = before; head = hd }) [] xs (at (os ++ record { before = before; head = hd } ∷ []) [] i.Begin) (λ token h. refl))

abbrev StatementLayer : Type 0
StatementLayer = Statement-F ((x : Statement) × StatementReads x) ((b : Block) × BlockReads b)

abbrev first_of : StatementLayer → Statement-F Statement Block
first_of = map-Statement ((x : Statement) × StatementReads x) ((b : Block) × BlockReads b) Statement Block (λ e. e.0) (λ e. e.0)

any_call_reads : (c : CallExpr) → StatementReads (st.Call c)
any_call_reads c = subst (λ (d : CallExpr). StatementReads (st.Call d)) (roll-out-CallExpr c) (call_reads (out-CallExpr c).app (out-CallExpr c).arguments (out-CallExpr c).names)

statement_step : (y : StatementLayer) → StatementReads (roll-Statement (first_of y))
statement_step (Statement-F.Let x e) = subst StatementReads (sym (st.rolls-Let x e)) (let_reads x e)
statement_step (Statement-F.Set x e) = subst StatementReads (sym (st.rolls-Set x e)) (set_reads x e)
statement_step (Statement-F.While e b) = subst StatementReads (sym (st.rolls-While e b.0)) (while_reads e b.0 b.1)
statement_step (Statement-F.For x e b) = subst StatementReads (sym (st.rolls-For x e b.0)) (for_reads x e b.0 b.1)
statement_step (Statement-F.If e b None) = subst StatementReads (sym (st.rolls-If e b.0 None)) (if_reads e b.0 b.1)
statement_step (Statement-F.If e b (Some d)) = subst StatementReads (sym (st.rolls-If e b.0 (Some d.0))) (else_reads e b.0 d.0 b.1 d.1)
statement_step (Statement-F.Return e) = subst StatementReads (sym (st.rolls-Return e)) (return_reads e)
statement_step (Statement-F.Raise e) = subst StatementReads (sym (st.rolls-Raise e)) (raise_reads e)
statement_step (Statement-F.Write d e) = subst StatementReads (sym (st.rolls-Write d e)) (write_reads d e)
statement_step (Statement-F.Print e) = subst StatementReads (sym (st.rolls-Print e)) (print_reads e)
statement_step Statement-F.Checkpoint = subst StatementReads (sym st.rolls-Checkpoint) checkpoint_reads
statement_step (Statement-F.Call c) = subst StatementReads (sym (st.rolls-Call c)) (any_call_reads c)

pub statements_all_read : (x : Statement) → StatementReads x
statements_all_read x = ind-Statement StatementReads BlockReads (λ x y is. subst (λ z. StatementReads (roll-Statement z)) is (statement_step y)) (λ x y is. subst (λ z. BlockReads (roll-Block z)) is (block_step y.statements)) x

pub blocks_read : (b : Block) → BlockReads b
blocks_read b = ind-Block StatementReads BlockReads (λ x y is. subst (λ z. StatementReads (roll-Statement z)) is (statement_step y)) (λ x y is. subst (λ z. BlockReads (roll-Block z)) is (block_step y.statements)) b
