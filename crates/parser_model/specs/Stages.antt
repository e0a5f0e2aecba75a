-- A machine that reads the statements of a block token by token. Its state is what has been read.
use Rattle.std.specs.Prelude.{ℕ, List, [], ◌∷◌, ◌++◌, Option, Some, None}
use Rattle.script_tree.specs.declared.token.Token.{Token}
use Rattle.script_tree.specs.declared.token.Token.TheVariants as t
use Rattle.script_tree.specs.declared.token.Keyword.TheVariants as w
use Rattle.script_tree.specs.declared.token.Symbol.{Symbol}
use Rattle.script_tree.specs.declared.token.Symbol.TheVariants as s
use Rattle.script_tree.specs.declared.tree.Expr.{Expr}
use Rattle.script_tree.specs.declared.tree.CallExpr.{roll-CallExpr}
use Rattle.script_tree.specs.declared.tree.Block.{Block, roll-Block}
use Rattle.script_tree.specs.declared.tree.Statement.{Statement}
use Rattle.script_tree.specs.declared.tree.Statement.TheVariants as st
use Rattle.parser_model.specs.declared.expression_state.ExprState.TheVariants as o
use Rattle.parser_model.specs.declared.expression_state.ExprNext.{ExprNext}
use Rattle.parser_model.specs.declared.expression_state.ExprNext.TheVariants.{Stay, Done, Stop}
use Rattle.parser_model.specs.declared.block_state.ExprUse.{ExprUse}
use Rattle.parser_model.specs.declared.block_state.ExprUse.TheVariants as v
use Rattle.parser_model.specs.declared.block_state.Head.{Head}
use Rattle.parser_model.specs.declared.block_state.Head.TheVariants as h
use Rattle.parser_model.specs.declared.block_state.Opened.{Opened}
use Rattle.parser_model.specs.declared.block_state.StatementState.{StatementState}
use Rattle.parser_model.specs.declared.block_state.StatementState.TheVariants as i
use Rattle.parser_model.specs.declared.block_state.BlockState.{BlockState}
use Rattle.parser_model.specs.declared.block_state.BlockMove.{BlockMove}
use Rattle.parser_model.specs.declared.block_state.BlockMove.TheVariants.{Go, Add, Again, Enter, Leave, Halt}
use Rattle.parser_model.specs.Reading.{nothing_before, step, split}

abbrev pub read : ExprUse → BlockMove
read wait = Go (i.Reading wait [] (o.Operand nothing_before))

abbrev pub begin : Token → BlockMove
begin (t.Symbol s.CloseBlock) = Leave
begin (t.Name x) = Go (i.SetName x)
begin (t.Keyword w.Let) = Go i.LetWord
begin (t.Keyword w.While) = read v.While
begin (t.Keyword w.For) = Go i.ForWord
begin (t.Keyword w.If) = read v.If
begin (t.Keyword w.Return) = read v.Return
begin (t.Keyword w.Raise) = read v.Raise
begin (t.Keyword w.Write) = read v.Write
begin (t.Keyword w.Print) = read v.Print
begin (t.Keyword w.Checkpoint) = Go i.CheckpointWord
begin (t.Keyword w.Call) = Go i.CallWord
begin _ = Halt

abbrev pub if_name : (List ℕ → StatementState) → Token → BlockMove
if_name next (t.Name x) = Go (next x)
if_name next _ = Halt

abbrev pub call : List ℕ → List Expr → List Expr → Statement
call x es ns = st.Call (roll-CallExpr (record { app = x; arguments = es; names = ns }))

-- what an expression ends with
pub data End : Type 0 where
  Semicolon : End
  Comma : End
  Round : End
  Brace : End
  Other : End

abbrev pub end_of : Token → End
end_of (t.Symbol s.Semicolon) = Semicolon
end_of (t.Symbol s.Comma) = Comma
end_of (t.Symbol s.CloseParen) = Round
end_of (t.Symbol s.OpenBlock) = Brace
end_of _ = Other

-- an expression has ended, before this token
abbrev pub ended : ExprUse → Expr → End → BlockMove
ended (v.Let x) e Semicolon = Add (st.Let x e)
ended (v.Set x) e Semicolon = Add (st.Set x e)
ended v.While e Brace = Enter (h.While e)
ended (v.For x) e Brace = Enter (h.For x e)
ended v.If e Brace = Enter (h.If e)
ended v.Return e Semicolon = Add (st.Return e)
ended v.Raise e Semicolon = Add (st.Raise e)
ended v.Write e Comma = read (v.WriteText e)
ended (v.WriteText d) e Semicolon = Add (st.Write d e)
ended v.Print e Semicolon = Add (st.Print e)
ended (v.Argument x es) e Comma = read (v.Argument x (es ++ e ∷ []))
ended (v.Argument x es) e Round = Go (i.Called x (es ++ e ∷ []))
ended (v.Names x es ns) e Comma = read (v.Names x es (ns ++ e ∷ []))
ended (v.Names x es ns) e Round = Go (i.CallEnd (roll-CallExpr (record { app = x; arguments = es; names = ns ++ e ∷ [] })))
ended _ e _ = Halt

abbrev pub goes : ExprUse → Token → ExprNext → BlockMove
goes wait token (Stay fs focus) = Go (i.Reading wait fs focus)
goes wait token (Done e) = ended wait e (end_of token)
goes wait token Stop = Halt

abbrev pub first : List ℕ → Token → BlockMove
first x (t.Symbol s.CloseParen) = Go (i.Called x [])
first x token = goes (v.Argument x []) token (step [] (o.Operand nothing_before) token)

abbrev pub if_symbol : Symbol → BlockMove → Token → BlockMove
if_symbol s.Assign a (t.Symbol s.Assign) = a
if_symbol s.Semicolon a (t.Symbol s.Semicolon) = a
if_symbol s.OpenParen a (t.Symbol s.OpenParen) = a
if_symbol s.OpenBlock a (t.Symbol s.OpenBlock) = a
if_symbol _ a _ = Halt

abbrev pub called : List ℕ → List Expr → Token → BlockMove
called x es (t.Keyword w.To) = Go (i.CallTo x es)
called x es (t.Symbol s.Semicolon) = Add (call x es [])
called x es _ = Halt

abbrev pub after_if : Expr → Block → Token → BlockMove
after_if e b (t.Keyword w.Else) = Go (i.ElseWord e b)
after_if e b _ = Again (st.If e b None)

abbrev pub if_in : BlockMove → Token → BlockMove
if_in a (t.Keyword w.In) = a
if_in a _ = Halt

unfoldable pub act : StatementState → Token → BlockMove
act i.Begin token = begin token
act i.LetWord token = if_name (λ x. i.LetName x) token
act (i.LetName x) token = if_symbol s.Assign (read (v.Let x)) token
act (i.SetName x) token = if_symbol s.Assign (read (v.Set x)) token
act i.ForWord token = if_name (λ x. i.ForName x) token
act (i.ForName x) token = if_in (read (v.For x)) token
act i.CheckpointWord token = if_symbol s.Semicolon (Add st.Checkpoint) token
act i.CallWord token = if_name (λ x. i.CallName x) token
act (i.CallName x) token = if_symbol s.OpenParen (Go (i.CallFirst x)) token
act (i.CallFirst x) token = first x token
act (i.Called x es) token = called x es token
act (i.CallTo x es) token = if_symbol s.OpenParen (read (v.Names x es [])) token
act (i.CallEnd c) token = if_symbol s.Semicolon (Add (st.Call c)) token
act (i.IfBlock e b) token = after_if e b token
act (i.ElseWord e b) token = if_symbol s.OpenBlock (Enter (h.Else e b)) token
act (i.Reading wait fs focus) token = goes wait token (step fs focus token)

-- ---- the blocks that are read, the last at the end

abbrev pub block : List Statement → Block
block ss = roll-Block (record { statements = ss })

-- the block has ended
abbrev pub left : List Opened → List Statement → Head → Block → BlockState
left os before (h.While e) b = record { opened = os; before = before ++ st.While e b ∷ []; last = i.Begin }
left os before (h.For x e) b = record { opened = os; before = before ++ st.For x e b ∷ []; last = i.Begin }
left os before (h.If e) b = record { opened = os; before = before; last = i.IfBlock e b }
left os before (h.Else e d) b = record { opened = os; before = before ++ st.If e d (Some b) ∷ []; last = i.Begin }

pub data Now : Type 0 where
  In : BlockState → Now
  -- the outermost block has ended
  Out : Block → Now
  Stuck : Now

abbrev pub leave : List Statement → Option (List Opened × Opened) → Now
leave before None = Out (block before)
leave before (Some (os, o)) = In (left os o.before o.head (block before))

abbrev pub acted : List Opened → List Statement → BlockMove → Now
acted os before (Go last) = In (record { opened = os; before = before; last = last })
acted os before (Add x) = In (record { opened = os; before = before ++ x ∷ []; last = i.Begin })
acted os before (Enter head) = In (record { opened = os ++ record { before = before; head = head } ∷ []; before = []; last = i.Begin })
acted os before Leave = leave before (split os)
acted os before (Again x) = Stuck
acted os before Halt = Stuck

abbrev pub acted_again : List Opened → List Statement → Token → BlockMove → Now
acted_again os before token (Again x) = acted os (before ++ x ∷ []) (begin token)
acted_again os before token a = acted os before a

-- one more token of a block
unfoldable pub inside_step : BlockState → Token → Now
inside_step s token = acted_again s.opened s.before token (act s.last token)
