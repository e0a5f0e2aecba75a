-- What a token does within a block.
use Rattle.std.proofs.Common.{◌≡◌, refl, Bool, true, false, List, [], ◌∷◌, ◌++◌, None, ℕ}
use Rattle.script_tree.specs.declared.token.Token.{Token}
use Rattle.script_tree.specs.declared.token.Token.TheVariants as t
use Rattle.script_tree.specs.declared.token.Keyword.TheVariants as w
use Rattle.script_tree.specs.declared.token.Symbol.TheVariants as s
use Rattle.script_tree.specs.declared.tree.Expr.{Expr}
use Rattle.script_tree.specs.declared.tree.Block.{Block}
use Rattle.script_tree.specs.declared.tree.Statement.{Statement}
use Rattle.script_tree.specs.declared.tree.Statement.TheVariants as st
use Rattle.parser_model.specs.declared.expression_state.ExprState.TheVariants as o
use Rattle.parser_model.specs.declared.expression_state.ExprNext.{ExprNext}
use Rattle.parser_model.specs.declared.expression_state.ExprNext.TheVariants.{Stay, Done, Stop}
use Rattle.parser_model.specs.declared.block_state.Opened.{Opened}
use Rattle.parser_model.specs.declared.block_state.ExprUse.{ExprUse}
use Rattle.parser_model.specs.declared.block_state.ExprUse.TheVariants as v
use Rattle.parser_model.specs.declared.block_state.StatementState.{StatementState}
use Rattle.parser_model.specs.declared.block_state.StatementState.TheVariants as i
use Rattle.parser_model.specs.declared.block_state.BlockMove.{BlockMove}
use Rattle.parser_model.specs.declared.block_state.BlockMove.TheVariants.{Go, Add, Again}
use Rattle.parser_model.specs.Reading.{nothing_before, step}
use Rattle.parser_model.specs.Stages.{read, begin, if_name, End, Semicolon, Comma, Round, Brace, end_of, ended, goes, first, if_symbol, called, after_if, if_in, act, In, acted, acted_again, inside_step}
use Rattle.parser_step.specs.Turns.{closes, is_else, inside_of}

pub first_closes : (x : List ℕ) (token : Token) → closes token ≡ true → first x token ≡ Go (i.Called x [])
first_closes x (t.Symbol s.CloseParen) h = refl
first_closes x token h = absurd (cc)

pub first_reads : (x : List ℕ) (token : Token) → closes token ≡ false → first x token ≡ goes (v.Argument x []) token (step [] (o.Operand nothing_before) token)
first_reads x (t.Symbol s.CloseParen) h = absurd (cc)
first_reads x token h = refl

pub ruleset first_rules = (first_closes, first_reads)

pub if_goes_on : (os : List Opened) (before : List Statement) (e : Expr) (b : Block) (token : Token) → is_else token ≡ true
    → acted_again os before token (after_if e b token) ≡ In (inside_of os before (i.ElseWord e b))
if_goes_on os before e b (t.Keyword w.Else) h = refl
if_goes_on os before e b token h = absurd (cc)

pub if_ends : (os : List Opened) (before : List Statement) (e : Expr) (b : Block) (token : Token) → is_else token ≡ false
    → acted_again os before token (after_if e b token) ≡ acted os (before ++ st.If e b None ∷ []) (begin token)
if_ends os before e b (t.Keyword w.Else) h = absurd (cc)
if_ends os before e b token h = refl

pub ruleset if_rules = (if_goes_on, if_ends)

-- ---- all but an `if` and its block end no statement before the token

abbrev pub once : BlockMove → Bool
once (Again x) = false
once a = true

pub once_acted : (os : List Opened) (before : List Statement) (token : Token) (a : BlockMove) → once a ≡ true → acted_again os before token a ≡ acted os before a
once_acted os before token (Again x) h = absurd (cc)
once_acted os before token a h = refl

begin_once : (token : Token) → once (begin token) ≡ true
begin_once (t.Symbol s.CloseBlock) = refl
begin_once (t.Name x) = refl
begin_once (t.Keyword w.Let) = refl
begin_once (t.Keyword w.While) = refl
begin_once (t.Keyword w.For) = refl
begin_once (t.Keyword w.If) = refl
begin_once (t.Keyword w.Return) = refl
begin_once (t.Keyword w.Raise) = refl
begin_once (t.Keyword w.Write) = refl
begin_once (t.Keyword w.Print) = refl
begin_once (t.Keyword w.Checkpoint) = refl
begin_once (t.Keyword w.Call) = refl
begin_once _ = refl

name_once : (next : List ℕ → StatementState) (token : Token) → once (if_name next token) ≡ true
name_once next (t.Name x) = refl
name_once next _ = refl

assign_once : (wait : ExprUse) (token : Token) → once (if_symbol s.Assign (read wait) token) ≡ true
assign_once wait (t.Symbol s.Assign) = refl
assign_once wait _ = refl

semicolon_once : (x : Statement) (token : Token) → once (if_symbol s.Semicolon (Add x) token) ≡ true
semicolon_once x (t.Symbol s.Semicolon) = refl
semicolon_once x _ = refl

paren_once : (last : StatementState) (token : Token) → once (if_symbol s.OpenParen (Go last) token) ≡ true
paren_once last (t.Symbol s.OpenParen) = refl
paren_once last _ = refl

brace_once : (e : Expr) (b : Block) (token : Token) → once (act (i.ElseWord e b) token) ≡ true
unfolding act
brace_once e b (t.Symbol s.OpenBlock) = refl
brace_once e b _ = refl

in_once : (wait : ExprUse) (token : Token) → once (if_in (read wait) token) ≡ true
in_once wait (t.Keyword w.In) = refl
in_once wait _ = refl

called_once : (x : List ℕ) (es : List Expr) (token : Token) → once (called x es token) ≡ true
called_once x es (t.Keyword w.To) = refl
called_once x es (t.Symbol s.Semicolon) = refl
called_once x es _ = refl

ended_once : (wait : ExprUse) (e : Expr) (end : End) → once (ended wait e end) ≡ true
ended_once (v.Let x) e Semicolon = refl
ended_once (v.Set x) e Semicolon = refl
ended_once v.While e Brace = refl
ended_once (v.For x) e Brace = refl
ended_once v.If e Brace = refl
ended_once v.Return e Semicolon = refl
ended_once v.Raise e Semicolon = refl
ended_once v.Write e Comma = refl
ended_once (v.WriteText d) e Semicolon = refl
ended_once v.Print e Semicolon = refl
ended_once (v.Argument x es) e Comma = refl
ended_once (v.Argument x es) e Round = refl
ended_once (v.Names x es ns) e Comma = refl
ended_once (v.Names x es ns) e Round = refl
ended_once _ e _ = refl

goes_once : (wait : ExprUse) (token : Token) (n : ExprNext) → once (goes wait token n) ≡ true
goes_once wait token (Stay fs focus) = refl
goes_once wait token (Done e) = ended_once wait e (end_of token)
goes_once wait token Stop = refl

first_once : (x : List ℕ) (token : Token) → once (first x token) ≡ true
first_once x (t.Symbol s.CloseParen) = refl
first_once x token = goes_once (v.Argument x []) token (step [] (o.Operand nothing_before) token)

act_once : (last : StatementState) (token : Token) → ((e : Expr) (b : Block) → last ≡ i.IfBlock e b → ⊥) → once (act last token) ≡ true
unfolding act
act_once i.Begin token h = begin_once token
act_once i.LetWord token h = name_once _ token
act_once (i.LetName x) token h = assign_once _ token
act_once (i.SetName x) token h = assign_once _ token
act_once i.ForWord token h = name_once _ token
act_once (i.ForName x) token h = in_once _ token
act_once i.CheckpointWord token h = semicolon_once _ token
act_once i.CallWord token h = name_once _ token
act_once (i.CallName x) token h = paren_once _ token
act_once (i.CallFirst x) token h = first_once x token
act_once (i.Called x es) token h = called_once x es token
act_once (i.CallTo x es) token h = paren_once _ token
act_once (i.CallEnd c) token h = semicolon_once _ token
act_once (i.IfBlock e b) token h = absurd (h e b refl)
act_once (i.ElseWord e b) token h = brace_once e b token
act_once (i.Reading wait fs focus) token h = goes_once wait token (step fs focus token)

pub other_once : (os : List Opened) (before : List Statement) (last : StatementState) (token : Token) → ((e : Expr) (b : Block) → last ≡ i.IfBlock e b → ⊥)
    → inside_step (inside_of os before last) token ≡ acted os before (act last token)
unfolding inside_step
other_once os before last token h = once_acted os before token (act last token) (act_once last token h)

pub if_once : (os : List Opened) (before : List Statement) (e : Expr) (b : Block) (token : Token)
    → inside_step (inside_of os before (i.IfBlock e b)) token ≡ acted_again os before token (after_if e b token)
unfolding inside_step act
if_once os before e b token = refl

pub ruleset once_rules = (other_once, if_once)
