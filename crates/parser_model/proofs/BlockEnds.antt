-- What has been read of a block goes on to some block.
use Rattle.std.proofs.Common.{◌≡◌, ℕ, List, [], ◌∷◌, ◌++◌, refl, ap, ◌∙◌, sym, subst, Some, None, append-nil, append_assoc}
use Rattle.script_tree.specs.declared.token.Token.TheVariants as t
use Rattle.script_tree.specs.declared.token.Keyword.TheVariants as w
use Rattle.script_tree.specs.declared.token.Symbol.TheVariants as s
use Rattle.script_tree.specs.declared.tree.Expr.{Expr}
use Rattle.script_tree.specs.declared.tree.Block.{Block}
use Rattle.script_tree.specs.declared.tree.Statement.{Statement}
use Rattle.script_tree.specs.declared.tree.Statement.TheVariants as st
use Rattle.parser_model.specs.declared.expression_state.OpenBracket.{OpenBracket}
use Rattle.parser_model.specs.declared.expression_state.ExprState.{ExprState}
use Rattle.parser_model.specs.declared.block_state.ExprUse.{ExprUse}
use Rattle.parser_model.specs.declared.block_state.ExprUse.TheVariants as v
use Rattle.parser_model.specs.declared.block_state.Head.{Head}
use Rattle.parser_model.specs.declared.block_state.Head.TheVariants as h
use Rattle.parser_model.specs.declared.block_state.Opened.{Opened}
use Rattle.parser_model.specs.declared.block_state.StatementState.{StatementState}
use Rattle.parser_model.specs.declared.block_state.StatementState.TheVariants as i
use Rattle.script_tree.specs.Spelling.{Tokens, symbol, word, in_parens}
use Rattle.parser_model.specs.Reading.{nothing_before}
use Rattle.parser_model.specs.declared.block_state.BlockState.{BlockState}
use Rattle.parser_model.specs.Stages.{call, block, left}
use Rattle.parser_model.proofs.Spelled.{items, call_part, read, items-spells, nothing-spells}
use Rattle.parser_model.proofs.Equations.{expr}
use Rattle.parser_model.proofs.Steps.{call_part-is}
use Rattle.script_tree.specs.declared.tree.Atom.TheVariants as a
use Rattle.parser_model.specs.Reading.{whole_expr, bare}
use Rattle.parser_model.proofs.Equations.{atom-nothing, post}
use Rattle.parser_model.proofs.Spelled.{whole_expr-spells, bare-spells}
use Rattle.parser_model.proofs.Completion.{completes, from_end}
use Rattle.parser_model.proofs.Blocks.{statement, tokens_of_block, statement-let, statement-set, statement-while, statement-for, statement-return, statement-raise, statement-print, statement-write, statement-checkpoint, statement-call, statement-if, statement-else, block-rolled, waiting, within, if_tokens, inside, so_far, so_far-more, left-nows, again_tokens, call-tokens, some_names}

pub record StatementCompletes (ts : Tokens) : Type 0 where
  pub found : Statement
  pub rest : Tokens
  pub is : statement found ≡ ts ++ rest

-- the shortest expression and block
abbrev some_expr : Expr
some_expr = whole_expr nothing_before (bare a.Nothing)

some_expr-spells : expr some_expr ≡ word w.Nothing
some_expr-spells = whole_expr-spells nothing_before (bare a.Nothing) ∙ (ap (λ z. z ++ post (bare a.Nothing)) nothing-spells ∙ (bare-spells a.Nothing ∙ atom-nothing))

some_block-spells : tokens_of_block (block []) ≡ t.Symbol s.OpenBlock ∷ symbol s.CloseBlock
some_block-spells = block-rolled []

abbrev some_name : List ℕ
some_name = 102 ∷ []

made : (x : Statement) (ts rest us : Tokens) → statement x ≡ us → us ≡ ts ++ rest → StatementCompletes ts
made x ts rest us e h = record { found = x; rest = rest; is = e ∙ h }

-- an expression is whole
waiting_completes : (wait : ExprUse) (e : Expr) → StatementCompletes (waiting wait ++ expr e)
waiting_completes (v.Let x) e = made (st.Let x e) _ (symbol s.Semicolon) _ (statement-let x e) refl
waiting_completes (v.Set x) e = made (st.Set x e) _ (symbol s.Semicolon) _ (statement-set x e) refl
waiting_completes v.While e = made (st.While e (block [])) _ (t.Symbol s.OpenBlock ∷ symbol s.CloseBlock) _ (statement-while e (block []) ∙ ap (λ z. (t.Keyword w.While ∷ expr e) ++ z) some_block-spells) refl
waiting_completes (v.For x) e = made (st.For x e (block [])) _ (t.Symbol s.OpenBlock ∷ symbol s.CloseBlock) _ (statement-for x e (block []) ∙ ap (λ z. (t.Keyword w.For ∷ t.Name x ∷ t.Keyword w.In ∷ expr e) ++ z) some_block-spells) refl
waiting_completes v.If e = made (st.If e (block []) None) _ (t.Symbol s.OpenBlock ∷ symbol s.CloseBlock) _ (statement-if e (block []) ∙ ap (λ z. (t.Keyword w.If ∷ expr e) ++ z) (append-nil _ ∙ some_block-spells)) refl
waiting_completes v.Return e = made (st.Return e) _ (symbol s.Semicolon) _ (statement-return e) refl
waiting_completes v.Raise e = made (st.Raise e) _ (symbol s.Semicolon) _ (statement-raise e) refl
waiting_completes v.Write e = made (st.Write e some_expr) _ (t.Symbol s.Comma ∷ t.Keyword w.Nothing ∷ symbol s.Semicolon) _ (statement-write e some_expr)
    (ap (λ z. ((t.Keyword w.Write ∷ expr e) ++ (t.Symbol s.Comma ∷ z)) ++ symbol s.Semicolon) some_expr-spells ∙ append_assoc (t.Keyword w.Write ∷ expr e) (t.Symbol s.Comma ∷ word w.Nothing) (symbol s.Semicolon))
waiting_completes (v.WriteText d) e = made (st.Write d e) _ (symbol s.Semicolon) _ (statement-write d e) (ap (λ z. z ++ symbol s.Semicolon) (sym (append_assoc (t.Keyword w.Write ∷ expr d) (symbol s.Comma) (expr e))))
waiting_completes v.Print e = made (st.Print e) _ (symbol s.Semicolon) _ (statement-print e) refl
waiting_completes (v.Argument x es) e = made (call x (es ++ e ∷ []) []) _ (t.Symbol s.CloseParen ∷ symbol s.Semicolon) _
    (statement-call _ ∙ ap (λ z. z ++ symbol s.Semicolon) (call-tokens x (es ++ e ∷ []) [] ∙ (append-nil _ ∙ (call_part-is x (es ++ e ∷ []) ∙ ap (λ z. (t.Keyword w.Call ∷ t.Name x ∷ symbol s.OpenParen) ++ (z ++ symbol s.CloseParen)) (items-spells es e)))))
    (append_assoc ((t.Keyword w.Call ∷ t.Name x ∷ symbol s.OpenParen) ++ (items es ++ expr e)) (symbol s.CloseParen) (symbol s.Semicolon))
waiting_completes (v.Names x es ns) e = made (call x es (ns ++ e ∷ [])) _ (t.Symbol s.CloseParen ∷ symbol s.Semicolon) _
    (statement-call _ ∙ ap (λ z. z ++ symbol s.Semicolon) (call-tokens x es (ns ++ e ∷ []) ∙ ap (λ z. call_part x es ++ z) (some_names ns e ∙ ap (λ z. t.Keyword w.To ∷ in_parens z) (items-spells ns e))))
    (simp append_assoc)

shorter : (ts more : Tokens) → StatementCompletes (ts ++ more) → StatementCompletes ts
shorter ts more c = record { found = c.found; rest = more ++ c.rest; is = c.is ∙ append_assoc ts more c.rest }

reading_completes : (wait : ExprUse) (fs : List OpenBracket) (o : ExprState) → StatementCompletes (waiting wait ++ read fs o)
reading_completes wait fs o = let c = completes fs o in
    shorter (waiting wait ++ read fs o) c.rest (subst StatementCompletes (ap (λ z. waiting wait ++ z) c.is ∙ sym (append_assoc (waiting wait) (read fs o) c.rest)) (waiting_completes wait c.found))

-- an expression is to come
wanted_completes : (wait : ExprUse) (ts more : Tokens) → waiting wait ≡ ts ++ more → StatementCompletes ts
wanted_completes wait ts more e = shorter ts more (shorter (ts ++ more) (expr some_expr) (subst (λ (z : Tokens). StatementCompletes (z ++ expr some_expr)) e (waiting_completes wait some_expr)))

call_completes : (x : List ℕ) (es : List Expr) → StatementCompletes (call_part x es)
call_completes x es = made (call x es []) _ (symbol s.Semicolon) _ (statement-call _ ∙ ap (λ z. z ++ symbol s.Semicolon) (call-tokens x es [] ∙ append-nil _)) refl

pub within_completes : (i : StatementState) → StatementCompletes (within i)
unfolding within
within_completes i.Begin = made st.Checkpoint _ (t.Keyword w.Checkpoint ∷ symbol s.Semicolon) _ statement-checkpoint refl
within_completes i.LetWord = wanted_completes (v.Let some_name) (word w.Let) (t.Name some_name ∷ symbol s.Assign) refl
within_completes (i.LetName x) = wanted_completes (v.Let x) (t.Keyword w.Let ∷ t.Name x ∷ []) (symbol s.Assign) refl
within_completes (i.SetName x) = wanted_completes (v.Set x) (t.Name x ∷ []) (symbol s.Assign) refl
within_completes i.ForWord = wanted_completes (v.For some_name) (word w.For) (t.Name some_name ∷ word w.In) refl
within_completes (i.ForName x) = wanted_completes (v.For x) (t.Keyword w.For ∷ t.Name x ∷ []) (word w.In) refl
within_completes i.CheckpointWord = made st.Checkpoint _ (symbol s.Semicolon) _ statement-checkpoint refl
within_completes i.CallWord = wanted_completes (v.Argument some_name []) (word w.Call) (t.Name some_name ∷ symbol s.OpenParen) refl
within_completes (i.CallName x) = wanted_completes (v.Argument x []) (t.Keyword w.Call ∷ t.Name x ∷ []) (symbol s.OpenParen) refl
within_completes (i.CallFirst x) = wanted_completes (v.Argument x []) (t.Keyword w.Call ∷ t.Name x ∷ symbol s.OpenParen) [] refl
within_completes (i.Called x es) = call_completes x es
within_completes (i.CallTo x es) = wanted_completes (v.Names x es []) (call_part x es ++ word w.To) (symbol s.OpenParen) (sym (append_assoc (call_part x es) (word w.To) (symbol s.OpenParen)))
within_completes (i.CallEnd c) = made (st.Call c) _ (symbol s.Semicolon) _ (statement-call c) refl
within_completes (i.IfBlock e b) = made (st.If e b None) _ [] _ (statement-if e b) (sym (append_assoc (t.Keyword w.If ∷ expr e) (tokens_of_block b) []))
within_completes (i.ElseWord e b) = made (st.If e b (Some (block []))) _ (t.Symbol s.OpenBlock ∷ symbol s.CloseBlock) _
    (statement-else e b (block []) ∙ ap (λ z. (t.Keyword w.If ∷ expr e) ++ (tokens_of_block b ++ (t.Keyword w.Else ∷ z))) some_block-spells)
    (sym (append_assoc (t.Keyword w.If ∷ expr e) (tokens_of_block b) (t.Keyword w.Else ∷ t.Symbol s.OpenBlock ∷ symbol s.CloseBlock)) ∙ sym (append_assoc (if_tokens e b) (word w.Else) (t.Symbol s.OpenBlock ∷ symbol s.CloseBlock)))
within_completes (i.Reading wait fs o) = reading_completes wait fs o

-- ---- the open blocks

pub record BlockCompletes (ts : Tokens) : Type 0 where
  pub found : Block
  pub rest : Tokens
  pub is : tokens_of_block found ≡ ts ++ rest

shorter_block : (ts more : Tokens) → BlockCompletes (ts ++ more) → BlockCompletes ts
shorter_block ts more c = record { found = c.found; rest = more ++ c.rest; is = c.is ∙ append_assoc ts more c.rest }

abbrev Closes : List Opened → Type 0
Closes os = (before : List Statement) → BlockCompletes (so_far os before [])

left_closes : (os : List Opened) (before : List Statement) (hd : Head) (b : Block) → Closes os → BlockCompletes (inside (left os before hd b))
unfolding inside within
left_closes os before (h.While e) b c = c (before ++ st.While e b ∷ [])
left_closes os before (h.For x e) b c = c (before ++ st.For x e b ∷ [])
left_closes os before (h.If e) b c = subst BlockCompletes (again_tokens os before (st.If e b None) (if_tokens e b) (statement-if e b ∙ ap (λ z. (t.Keyword w.If ∷ expr e) ++ z) (append-nil _))) (c (before ++ st.If e b None ∷ []))
left_closes os before (h.Else e d) b c = c (before ++ st.If e d (Some b) ∷ [])

opened_closes : (os : List Opened) (p : Opened) → Closes os → Closes (os ++ p ∷ [])
opened_closes os p c before = shorter_block _ (symbol s.CloseBlock)
    (subst BlockCompletes (left-nows os p.before p.head before ∙ so_far-more (os ++ p ∷ []) before [] (symbol s.CloseBlock)) (left_closes os p.before p.head (block before) c))

none_closes : Closes []
none_closes before = record { found = block before; rest = symbol s.CloseBlock; is = block-rolled before ∙ so_far-more [] before [] (symbol s.CloseBlock) }

pub blocks_close : (os : List Opened) → Closes os
blocks_close os = from_end Closes none_closes opened_closes [] os none_closes

pub inside_completes : (z : BlockState) → BlockCompletes (inside z)
unfolding inside
inside_completes z = let c = within_completes z.last in
    shorter_block _ c.rest (subst BlockCompletes (again_tokens z.opened z.before c.found (within z.last ++ c.rest) c.is ∙ so_far-more z.opened z.before (within z.last) c.rest) (blocks_close z.opened (z.before ++ c.found ∷ [])))
