-- A machine that reads an expression token by token. Its state is what has been read.
use Rattle.std.specs.Prelude.{◌≡◌, ℕ, Bool, true, false, ◌&&◌, if◌then◌else◌, List, [], ◌∷◌, ◌++◌, Option, Some, None}
use Rattle.script_tree.specs.declared.token.Token.{Token}
use Rattle.script_tree.specs.declared.token.Token.TheVariants as t
use Rattle.script_tree.specs.declared.token.Keyword.TheVariants as w
use Rattle.script_tree.specs.declared.token.Symbol.TheVariants as s
use Rattle.script_tree.specs.declared.tree.SumOp.{SumOp}
use Rattle.script_tree.specs.declared.tree.SumOp.TheVariants as plus
use Rattle.script_tree.specs.declared.tree.TermOp.{TermOp}
use Rattle.script_tree.specs.declared.tree.TermOp.TheVariants as times
use Rattle.script_tree.specs.declared.tree.CompareOp.{CompareOp}
use Rattle.script_tree.specs.declared.tree.CompareOp.TheVariants as by
use Rattle.script_tree.specs.declared.tree.UnaryOp.{UnaryOp}
use Rattle.script_tree.specs.declared.tree.UnaryOp.TheVariants as sign
use Rattle.script_tree.specs.declared.tree.Expr.{Expr, roll-Expr, out-Expr}
use Rattle.script_tree.specs.declared.tree.Conj.{Conj, roll-Conj, out-Conj}
use Rattle.script_tree.specs.declared.tree.Comp.{Comp, roll-Comp}
use Rattle.script_tree.specs.declared.tree.Compared.{roll-Compared}
use Rattle.script_tree.specs.declared.tree.Sum.{Sum, roll-Sum, out-Sum}
use Rattle.script_tree.specs.declared.tree.Added.{roll-Added}
use Rattle.script_tree.specs.declared.tree.Term.{Term, roll-Term, out-Term}
use Rattle.script_tree.specs.declared.tree.Factor.{roll-Factor}
use Rattle.script_tree.specs.declared.tree.Unary.{Unary, roll-Unary}
use Rattle.script_tree.specs.declared.tree.Post.{Post, roll-Post, out-Post}
use Rattle.script_tree.specs.declared.tree.Atom.{Atom}
use Rattle.script_tree.specs.declared.tree.Atom.TheVariants as a
use Rattle.script_tree.specs.declared.tree.CallExpr.{roll-CallExpr}
use Rattle.parser_model.specs.declared.expression_state.Before.{Before}
use Rattle.parser_model.specs.declared.expression_state.Listing.{Listing}
use Rattle.parser_model.specs.declared.expression_state.Listing.TheVariants as l
use Rattle.parser_model.specs.declared.expression_state.OpenBracket.{OpenBracket}
use Rattle.parser_model.specs.declared.expression_state.OpenBracket.TheVariants as f
use Rattle.parser_model.specs.declared.expression_state.ExprState.{ExprState}
use Rattle.parser_model.specs.declared.expression_state.ExprState.TheVariants as o
use Rattle.parser_model.specs.declared.expression_state.ExprMove.{ExprMove}
use Rattle.parser_model.specs.declared.expression_state.ExprMove.TheVariants.{To, Open, Ends, Empty, Stuck}
use Rattle.parser_model.specs.declared.expression_state.Behind.{Behind}
use Rattle.parser_model.specs.declared.expression_state.Behind.TheVariants.{Indexes, Multiplies, Adds, Compares, Ands, Ors, Others}
use Rattle.parser_model.specs.declared.expression_state.Closer.{Closer}
use Rattle.parser_model.specs.declared.expression_state.Closer.TheVariants.{Round, Square, Comma, Other}
use Rattle.parser_model.specs.declared.expression_state.ExprStep.{ExprStep}
use Rattle.parser_model.specs.declared.expression_state.ExprStep.TheVariants as p
use Rattle.parser_model.specs.declared.expression_state.ExprNext.{ExprNext}
use Rattle.parser_model.specs.declared.expression_state.ExprNext.TheVariants.{Stay, Done, Stop}

-- ---- trees from what stands before an operand

abbrev pub term_of : Option (Term × TermOp) → Unary → Term
term_of None u = roll-Term (record { first = u; others = [] })
term_of (Some (so_far, op)) u = roll-Term (record { first = (out-Term so_far).first; others = (out-Term so_far).others ++ roll-Factor (record { op = op; unary = u }) ∷ [] })

abbrev pub sum_of : Option (Sum × SumOp) → Term → Sum
sum_of None x = roll-Sum (record { first = x; others = [] })
sum_of (Some (so_far, op)) x = roll-Sum (record { first = (out-Sum so_far).first; others = (out-Sum so_far).others ++ roll-Added (record { op = op; term = x }) ∷ [] })

abbrev pub comp_of : Option (Sum × CompareOp) → Sum → Comp
comp_of None x = roll-Comp (record { left = x; test = None })
comp_of (Some (left, op)) x = roll-Comp (record { left = left; test = Some (roll-Compared (record { op = op; right = x })) })

abbrev pub conj_of : Option Conj → Comp → Conj
conj_of None x = roll-Conj (record { first = x; others = [] })
conj_of (Some so_far) x = roll-Conj (record { first = (out-Conj so_far).first; others = (out-Conj so_far).others ++ x ∷ [] })

abbrev pub expr_of : Option Expr → Conj → Expr
expr_of None x = roll-Expr (record { first = x; others = [] })
expr_of (Some so_far) x = roll-Expr (record { first = (out-Expr so_far).first; others = (out-Expr so_far).others ++ x ∷ [] })

-- what an operand makes with what stands before it
abbrev pub made_term : Option (Term × TermOp) → Option UnaryOp → Post → Term
made_term term op p = term_of term (roll-Unary (record { op = op; post = p }))

abbrev pub made_sum : Option (Sum × SumOp) → Option (Term × TermOp) → Option UnaryOp → Post → Sum
made_sum sum term op p = sum_of sum (made_term term op p)

abbrev pub made_comp : Option (Sum × CompareOp) → Option (Sum × SumOp) → Option (Term × TermOp) → Option UnaryOp → Post → Comp
made_comp left sum term op p = comp_of left (made_sum sum term op p)

unfoldable pub whole_term : Before → Post → Term
whole_term b p = made_term b.term b.sign p

unfoldable pub whole_sum : Before → Post → Sum
whole_sum b p = sum_of b.sum (whole_term b p)

unfoldable pub whole_comp : Before → Post → Comp
whole_comp b p = comp_of b.left (whole_sum b p)

unfoldable pub whole_conj : Before → Post → Conj
whole_conj b p = conj_of b.ands (whole_comp b p)

unfoldable pub whole_expr : Before → Post → Expr
whole_expr b p = expr_of b.ors (whole_conj b p)

abbrev pub nothing_before : Before
nothing_before = record { ors = None; ands = None; left = None; sum = None; term = None; sign = None }

abbrev pub bare : Atom → Post
bare atom = roll-Post (record { atom = atom; indices = [] })

abbrev pub with_index : Post → Expr → Post
with_index p e = roll-Post (record { atom = (out-Post p).atom; indices = (out-Post p).indices ++ e ∷ [] })

-- ---- one token

abbrev pub operand : Before → Token → ExprMove
operand b (t.Number n) = To (o.After b (bare (a.Number n)))
operand b (t.Text x) = To (o.After b (bare (a.Text x)))
operand b (t.Name x) = To (o.Named b x)
operand b (t.Keyword w.Nothing) = To (o.After b (bare a.Nothing))
operand b (t.Keyword w.Call) = To (o.CallWord b)
operand b (t.Symbol s.OpenParen) = Open (f.Paren b) (o.Operand nothing_before)
operand b (t.Symbol s.OpenList) = Open (f.Listed (l.List b) []) o.First
operand b _ = Stuck

-- a sign comes once
abbrev pub signed : Before → UnaryOp → Option UnaryOp → ExprMove
signed b op None = To (o.Operand (record b { sign = Some op }))
signed b op (Some _) = Stuck

abbrev pub wanted : Before → Token → ExprMove
wanted b (t.Symbol s.Minus) = signed b sign.Minus b.sign
wanted b (t.Keyword w.Not) = signed b sign.Not b.sign
wanted b token = operand b token

-- a token that may stand behind an operand

abbrev pub behind_of : Token → Behind
behind_of (t.Symbol s.OpenList) = Indexes
behind_of (t.Symbol s.Times) = Multiplies times.Times
behind_of (t.Symbol s.Over) = Multiplies times.Over
behind_of (t.Symbol s.Rest) = Multiplies times.Rest
behind_of (t.Symbol s.Plus) = Adds plus.Plus
behind_of (t.Symbol s.Minus) = Adds plus.Minus
behind_of (t.Symbol s.Equal) = Compares by.Equal
behind_of (t.Symbol s.Differ) = Compares by.Differ
behind_of (t.Symbol s.Less) = Compares by.Less
behind_of (t.Symbol s.AtMost) = Compares by.AtMost
behind_of (t.Symbol s.Greater) = Compares by.Greater
behind_of (t.Symbol s.AtLeast) = Compares by.AtLeast
behind_of (t.Keyword w.And) = Ands
behind_of (t.Keyword w.Or) = Ors
behind_of _ = Others

abbrev pub compared : Before → Post → CompareOp → Option (Sum × CompareOp) → ExprMove
compared b p op None = To (o.Operand (record { ors = b.ors; ands = b.ands; left = Some (whole_sum b p, op); sum = None; term = None; sign = None }))
compared b p op (Some _) = Ends (whole_expr b p)

abbrev pub after : Before → Post → Behind → ExprMove
after b p Indexes = Open (f.Index b p) (o.Operand nothing_before)
after b p (Multiplies op) = To (o.Operand (record { ors = b.ors; ands = b.ands; left = b.left; sum = b.sum; term = Some (whole_term b p, op); sign = None }))
after b p (Adds op) = To (o.Operand (record { ors = b.ors; ands = b.ands; left = b.left; sum = Some (whole_sum b p, op); term = None; sign = None }))
after b p (Compares op) = compared b p op b.left
after b p Ands = To (o.Operand (record { ors = b.ors; ands = Some (whole_conj b p); left = None; sum = None; term = None; sign = None }))
after b p Ors = To (o.Operand (record { ors = Some (whole_expr b p); ands = None; left = None; sum = None; term = None; sign = None }))
after b p Others = Ends (whole_expr b p)

abbrev pub opens_paren : Token → Bool
opens_paren (t.Symbol s.OpenParen) = true
opens_paren _ = false

abbrev pub is_to : Token → Bool
is_to (t.Keyword w.To) = true
is_to _ = false

abbrev pub named : Before → List ℕ → Token → ExprMove
named b x token = if opens_paren token then Open (f.Listed (l.Arguments b x) []) o.First else after b (bare (a.Variable x)) (behind_of token)

abbrev pub call_post : List ℕ → List Expr → List Expr → Post
call_post app arguments names = bare (a.Call (roll-CallExpr (record { app = app; arguments = arguments; names = names })))

abbrev pub called : Before → List ℕ → List Expr → Token → ExprMove
called b app arguments token = if is_to token then To (o.CallTo b app arguments) else after b (call_post app arguments []) (behind_of token)

-- the list has ended
abbrev pub list_done : Listing → List Expr → ExprState
list_done (l.List b) es = o.After b (bare (a.List es))
list_done (l.Arguments b x) es = o.After b (bare (a.BuiltIn x es))
list_done (l.Call b app) es = o.Called b app es
list_done (l.Names b app arguments) es = o.After b (call_post app arguments es)

abbrev pub first : Token → ExprMove
first (t.Symbol s.CloseParen) = Empty
first (t.Symbol s.CloseList) = Empty
first token = wanted nothing_before token

abbrev pub call_word : Before → Token → ExprMove
call_word b (t.Name x) = To (o.CallName b x)
call_word b _ = Stuck

abbrev pub opens : OpenBracket → ExprState → Token → ExprMove
opens frame focus (t.Symbol s.OpenParen) = Open frame focus
opens frame focus _ = Stuck

abbrev pub move : ExprState → Token → ExprMove
move (o.Operand b) token = wanted b token
move o.First token = first token
move (o.Named b x) token = named b x token
move (o.CallWord b) token = call_word b token
move (o.CallName b x) token = opens (f.Listed (l.Call b x) []) o.First token
move (o.Called b app arguments) token = called b app arguments token
move (o.CallTo b app arguments) token = opens (f.Listed (l.Names b app arguments) []) (o.Operand nothing_before) token
move (o.After b p) token = after b p (behind_of token)

-- ---- with the open brackets, the last one at the end

abbrev pub split_with : {A : Type 0} → A → Option (List A × A) → Option (List A × A)
split_with x None = Some ([], x)
split_with x (Some (xs, y)) = Some (x ∷ xs, y)

-- all but the last, and the last
abbrev pub split : {A : Type 0} → List A → Option (List A × A)
split [] = None
split (x ∷ xs) = split_with x (split xs)

abbrev pub closer_of : Token → Closer
closer_of (t.Symbol s.CloseParen) = Round
closer_of (t.Symbol s.CloseList) = Square
closer_of (t.Symbol s.Comma) = Comma
closer_of _ = Other

-- whether the symbol ends the list
abbrev pub ends_list : Listing → Closer → Bool
ends_list (l.List b) Square = true
ends_list (l.List b) _ = false
ends_list _ Round = true
ends_list _ _ = false

abbrev pub listed_on : List OpenBracket → Listing → List Expr → Closer → ExprNext
listed_on fs l es Comma = Stay (fs ++ f.Listed l es ∷ []) (o.Operand nothing_before)
listed_on fs l es c = if ends_list l c then Stay fs (list_done l es) else Stop

-- the expression in a bracket has ended
abbrev pub in_frame : List OpenBracket → OpenBracket → Expr → Closer → ExprNext
in_frame fs (f.Paren b) e Round = Stay fs (o.After b (bare (a.Paren e)))
in_frame fs (f.Paren b) e _ = Stop
in_frame fs (f.Index b p) e Square = Stay fs (o.After b (with_index p e))
in_frame fs (f.Index b p) e _ = Stop
in_frame fs (f.Listed l es) e c = listed_on fs l (es ++ e ∷ []) c

abbrev pub close : Expr → Closer → Option (List OpenBracket × OpenBracket) → ExprNext
close e c None = Done e
close e c (Some (fs, frame)) = in_frame fs frame e c

-- names are one at least
abbrev pub may_be_empty : Listing → Bool
may_be_empty (l.Names b x es) = false
may_be_empty _ = true

abbrev pub empty : Closer → Option (List OpenBracket × OpenBracket) → ExprNext
empty c (Some (fs, f.Listed l [])) = if may_be_empty l && ends_list l c then Stay fs (list_done l []) else Stop
empty c _ = Stop

abbrev pub act : List OpenBracket → Token → ExprMove → ExprNext
act fs token (To focus) = Stay fs focus
act fs token (Open frame focus) = Stay (fs ++ frame ∷ []) focus
act fs token (Ends e) = close e (closer_of token) (split fs)
act fs token Empty = empty (closer_of token) (split fs)
act fs token Stuck = Stop

-- one more token of an expression
unfoldable pub step : List OpenBracket → ExprState → Token → ExprNext
step fs focus token = act fs token (move focus token)

abbrev pub goes_on : (List OpenBracket → ExprState → ExprNext) → ExprNext → ExprNext
goes_on go (Stay fs focus) = go fs focus
goes_on go (Done e) = Stop
goes_on go Stop = Stop

-- all the tokens of a part of an expression
abbrev pub run : List Token → List OpenBracket → ExprState → ExprNext
run [] fs focus = Stay fs focus
run (token ∷ ts) fs focus = goes_on (run ts) (step fs focus token)

-- the same as what a function returns, and what it leaves of the frames
abbrev pub Became : ExprNext → ExprStep → List OpenBracket → Type 0
Became n (p.Stay focus) fs = n ≡ Stay fs focus
Became n (p.Done e) fs = n ≡ Done e
Became n p.Stop fs = n ≡ Stop
