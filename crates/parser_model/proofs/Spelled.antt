-- A token more is spelled at the end of what has been read.
use Rattle.std.proofs.Common.{◌≡◌, ℕ, List, [], ◌∷◌, ◌++◌, map, refl, ap, ◌∙◌, sym, subst, Option, Some, None, append-nil, append_assoc}
use Rattle.std.specs.List.{flat_map}
use Rattle.std.proofs.lemmas.Grind.{flat_map-append}
use Rattle.script_tree.specs.declared.token.Token.{Token}
use Rattle.script_tree.specs.declared.token.Token.TheVariants as t
use Rattle.script_tree.specs.declared.token.Keyword.TheVariants as w
use Rattle.script_tree.specs.declared.token.Symbol.TheVariants as s
use Rattle.script_tree.specs.declared.tree.SumOp.{SumOp}
use Rattle.script_tree.specs.declared.tree.TermOp.{TermOp}
use Rattle.script_tree.specs.declared.tree.CompareOp.{CompareOp}
use Rattle.script_tree.specs.declared.tree.UnaryOp.{UnaryOp}
use Rattle.script_tree.specs.declared.tree.Atom.{Atom}
use Rattle.script_tree.specs.declared.tree.Atom.TheVariants as a
use Rattle.script_tree.specs.declared.tree.Comp.{Comp}
use Rattle.script_tree.specs.declared.tree.Conj.{Conj, out-Conj, roll-out-Conj}
use Rattle.script_tree.specs.declared.tree.Expr.{Expr, out-Expr, roll-out-Expr}
use Rattle.script_tree.specs.declared.tree.Post.{Post, out-Post, roll-out-Post}
use Rattle.script_tree.specs.declared.tree.Sum.{Sum, out-Sum, roll-out-Sum}
use Rattle.script_tree.specs.declared.tree.Term.{Term, out-Term, roll-out-Term}
use Rattle.script_tree.specs.declared.tree.Unary.{Unary}
use Rattle.parser_model.specs.declared.expression_state.Before.{Before}
use Rattle.parser_model.specs.declared.expression_state.Listing.{Listing}
use Rattle.parser_model.specs.declared.expression_state.Listing.TheVariants as l
use Rattle.parser_model.specs.declared.expression_state.OpenBracket.{OpenBracket}
use Rattle.parser_model.specs.declared.expression_state.OpenBracket.TheVariants as f
use Rattle.parser_model.specs.declared.expression_state.ExprState.{ExprState}
use Rattle.parser_model.specs.declared.expression_state.ExprState.TheVariants as o
use Rattle.script_tree.specs.Spelling.{Tokens, symbol, word, listed, in_parens, names_part, sign_part, sum_symbol, term_symbol, compare_symbol}
use Rattle.parser_model.specs.declared.expression_state.ExprMove.{ExprMove}
use Rattle.parser_model.specs.declared.expression_state.ExprMove.TheVariants.{To, Open, Ends, Empty, Stuck}
use Rattle.parser_model.specs.declared.expression_state.Behind.{Behind}
use Rattle.parser_model.specs.declared.expression_state.Behind.TheVariants.{Indexes, Multiplies, Adds, Compares, Ands, Ors, Others}
use Rattle.parser_model.specs.Reading.{term_of, sum_of, comp_of, conj_of, expr_of, whole_term, whole_sum, whole_comp, whole_conj, whole_expr, nothing_before, bare, with_index, operand, signed, wanted, behind_of, compared as compared_move, after, named, call_post, called, first, call_word, opens, move}
use Rattle.parser_model.proofs.Equations.{expr, conj, comp, sum, term, unary, post, atom, added, factor, expr-rolled, conj-rolled, sum-rolled, term-rolled, unary-rolled, post-rolled, call-rolled, added-rolled, factor-rolled, compared-rolled, comp-none, comp-some, atom-number, atom-text, atom-nothing, atom-variable, atom-call}

abbrev pub ors_part : Option Expr → Tokens
ors_part None = []
ors_part (Some e) = expr e ++ word w.Or

abbrev pub ands_part : Option Conj → Tokens
ands_part None = []
ands_part (Some c) = conj c ++ word w.And

abbrev pub left_part : Option (Sum × CompareOp) → Tokens
left_part None = []
left_part (Some (x, op)) = sum x ++ symbol (compare_symbol op)

abbrev pub sums_part : Option (Sum × SumOp) → Tokens
sums_part None = []
sums_part (Some (x, op)) = sum x ++ symbol (sum_symbol op)

abbrev pub terms_part : Option (Term × TermOp) → Tokens
terms_part None = []
terms_part (Some (x, op)) = term x ++ symbol (term_symbol op)

-- what stands before an operand, for each class
abbrev pub before_term : Before → Tokens
before_term b = terms_part b.term ++ sign_part b.sign

abbrev pub before_sum : Before → Tokens
before_sum b = sums_part b.sum ++ before_term b

abbrev pub before_comp : Before → Tokens
before_comp b = left_part b.left ++ before_sum b

abbrev pub before_conj : Before → Tokens
before_conj b = ands_part b.ands ++ before_comp b

unfoldable pub before : Before → Tokens
before b = ors_part b.ors ++ before_conj b

-- items that are done, each with its comma
abbrev pub items : List Expr → Tokens
items = flat_map (λ e. expr e ++ symbol s.Comma)

unfoldable pub call_part : List ℕ → List Expr → Tokens
call_part x es = t.Keyword w.Call ∷ t.Name x ∷ in_parens (listed (map expr es))

unfoldable pub before_list : Listing → Tokens
before_list (l.List b) = before b ++ symbol s.OpenList
before_list (l.Arguments b x) = before b ++ t.Name x ∷ symbol s.OpenParen
before_list (l.Call b x) = before b ++ t.Keyword w.Call ∷ t.Name x ∷ symbol s.OpenParen
before_list (l.Names b x es) = before b ++ (call_part x es ++ t.Keyword w.To ∷ symbol s.OpenParen)

unfoldable pub frame : OpenBracket → Tokens
frame (f.Paren b) = before b ++ symbol s.OpenParen
frame (f.Index b p) = before b ++ (post p ++ symbol s.OpenList)
frame (f.Listed l es) = before_list l ++ items es

unfoldable pub focus : ExprState → Tokens
focus (o.Operand b) = before b
focus o.First = []
focus (o.Named b x) = before b ++ t.Name x ∷ []
focus (o.CallWord b) = before b ++ word w.Call
focus (o.CallName b x) = before b ++ t.Keyword w.Call ∷ t.Name x ∷ []
focus (o.Called b x es) = before b ++ call_part x es
focus (o.CallTo b x es) = before b ++ (call_part x es ++ word w.To)
focus (o.After b p) = before b ++ post p

abbrev pub frames : List OpenBracket → Tokens
frames = flat_map frame

-- all that has been read
abbrev pub read : List OpenBracket → ExprState → Tokens
read fs o = frames fs ++ focus o

-- ---- trees

chain : {A : Type 0} (h : A → Tokens) (z zs : Tokens) (xs : List A) (x : A) → zs ≡ z ++ flat_map h xs → z ++ flat_map h (xs ++ x ∷ []) ≡ zs ++ h x
chain h z zs xs x e = simp (flat_map-append, append-nil, e, append_assoc)

term_again : (x : Term) → term x ≡ unary (out-Term x).first ++ flat_map factor (out-Term x).others
term_again x = ap term (sym (roll-out-Term x)) ∙ term-rolled (out-Term x)

sum_again : (x : Sum) → sum x ≡ term (out-Sum x).first ++ flat_map added (out-Sum x).others
sum_again x = ap sum (sym (roll-out-Sum x)) ∙ sum-rolled (out-Sum x)

conj_again : (x : Conj) → conj x ≡ comp (out-Conj x).first ++ flat_map (λ c. t.Keyword w.And ∷ comp c) (out-Conj x).others
conj_again x = ap conj (sym (roll-out-Conj x)) ∙ conj-rolled (out-Conj x)

expr_again : (x : Expr) → expr x ≡ conj (out-Expr x).first ++ flat_map (λ c. t.Keyword w.Or ∷ conj c) (out-Expr x).others
expr_again x = ap expr (sym (roll-out-Expr x)) ∙ expr-rolled (out-Expr x)

post_again : (x : Post) → post x ≡ atom (out-Post x).atom ++ flat_map (λ e. t.Symbol s.OpenList ∷ expr e ++ symbol s.CloseList) (out-Post x).indices
post_again x = ap post (sym (roll-out-Post x)) ∙ post-rolled (out-Post x)

pub term_of-spells : (so_far : Option (Term × TermOp)) (u : Unary) → term (term_of so_far u) ≡ terms_part so_far ++ unary u
term_of-spells None u = term-rolled _ ∙ append-nil _
term_of-spells (Some (x, op)) u = term-rolled _ ∙ (chain factor _ _ _ _ (term_again x) ∙ (ap (λ z. term x ++ z) (factor-rolled _) ∙ simp append_assoc))

pub sum_of-spells : (so_far : Option (Sum × SumOp)) (x : Term) → sum (sum_of so_far x) ≡ sums_part so_far ++ term x
sum_of-spells None x = sum-rolled _ ∙ append-nil _
sum_of-spells (Some (y, op)) x = sum-rolled _ ∙ (chain added _ _ _ _ (sum_again y) ∙ (ap (λ z. sum y ++ z) (added-rolled _) ∙ simp append_assoc))

pub comp_of-spells : (so_far : Option (Sum × CompareOp)) (x : Sum) → comp (comp_of so_far x) ≡ left_part so_far ++ sum x
comp_of-spells None x = comp-none x
comp_of-spells (Some (y, op)) x = comp-some y _ ∙ (ap (λ z. sum y ++ z) (compared-rolled _) ∙ simp append_assoc)

pub conj_of-spells : (so_far : Option Conj) (x : Comp) → conj (conj_of so_far x) ≡ ands_part so_far ++ comp x
conj_of-spells None x = conj-rolled _ ∙ append-nil _
conj_of-spells (Some y) x = conj-rolled _ ∙ (chain (λ (c : Comp). t.Keyword w.And ∷ comp c) _ _ (out-Conj y).others x (conj_again y) ∙ simp append_assoc)

pub expr_of-spells : (so_far : Option Expr) (x : Conj) → expr (expr_of so_far x) ≡ ors_part so_far ++ conj x
expr_of-spells None x = expr-rolled _ ∙ append-nil _
expr_of-spells (Some y) x = expr-rolled _ ∙ (chain (λ (c : Conj). t.Keyword w.Or ∷ conj c) _ _ (out-Expr y).others x (expr_again y) ∙ simp append_assoc)

pub whole_term-spells : (b : Before) (p : Post) → term (whole_term b p) ≡ before_term b ++ post p
unfolding whole_term
whole_term-spells b p = term_of-spells b.term _ ∙ (ap (λ z. terms_part b.term ++ z) (unary-rolled _) ∙ simp append_assoc)

pub whole_sum-spells : (b : Before) (p : Post) → sum (whole_sum b p) ≡ before_sum b ++ post p
unfolding whole_sum
whole_sum-spells b p = sum_of-spells b.sum _ ∙ (ap (λ z. sums_part b.sum ++ z) (whole_term-spells b p) ∙ simp append_assoc)

pub whole_comp-spells : (b : Before) (p : Post) → comp (whole_comp b p) ≡ before_comp b ++ post p
unfolding whole_comp
whole_comp-spells b p = comp_of-spells b.left _ ∙ (ap (λ z. left_part b.left ++ z) (whole_sum-spells b p) ∙ simp append_assoc)

pub whole_conj-spells : (b : Before) (p : Post) → conj (whole_conj b p) ≡ before_conj b ++ post p
unfolding whole_conj
whole_conj-spells b p = conj_of-spells b.ands _ ∙ (ap (λ z. ands_part b.ands ++ z) (whole_comp-spells b p) ∙ simp append_assoc)

pub whole_expr-spells : (b : Before) (p : Post) → expr (whole_expr b p) ≡ before b ++ post p
unfolding whole_expr before
whole_expr-spells b p = expr_of-spells b.ors _ ∙ (ap (λ z. ors_part b.ors ++ z) (whole_conj-spells b p) ∙ simp append_assoc)

pub bare-spells : (x : Atom) → post (bare x) ≡ atom x
bare-spells x = post-rolled _ ∙ append-nil _

pub with_index-spells : (p : Post) (e : Expr) → post (with_index p e) ≡ post p ++ (t.Symbol s.OpenList ∷ expr e ++ symbol s.CloseList)
with_index-spells p e = post-rolled _ ∙ chain (λ (d : Expr). t.Symbol s.OpenList ∷ expr d ++ symbol s.CloseList) _ _ (out-Post p).indices e (post_again p)

more_items-spells : (es : List Expr) (e : Expr) → flat_map (λ f. t.Symbol s.Comma ∷ f) (map expr (es ++ e ∷ [])) ≡ t.Symbol s.Comma ∷ items es ++ expr e
more_items-spells [] e = append-nil _
more_items-spells (d ∷ es) e = ap (λ z. (t.Symbol s.Comma ∷ expr d) ++ z) (more_items-spells es e) ∙ simp append_assoc

-- items with their commas, and one more
pub items-spells : (es : List Expr) (e : Expr) → listed (map expr (es ++ e ∷ [])) ≡ items es ++ expr e
items-spells [] e = append-nil _
items-spells (d ∷ es) e = ap (λ z. expr d ++ z) (more_items-spells es e) ∙ simp append_assoc

pub items-more : (es : List Expr) (e : Expr) → items (es ++ e ∷ []) ≡ items es ++ (expr e ++ symbol s.Comma)
items-more es e = simp (flat_map-append, append-nil)

-- ---- one token

pub nothing-spells : before nothing_before ≡ []
unfolding before
nothing-spells = refl

-- what a move makes of the tokens behind the open brackets
abbrev pub Moves : Tokens → Token → ExprMove → Type 0
Moves so_far token (To o) = focus o ≡ so_far ++ token ∷ []
Moves so_far token (Open f o) = frame f ++ focus o ≡ so_far ++ token ∷ []
Moves so_far token (Ends e) = expr e ≡ so_far
Moves so_far token Empty = so_far ≡ []
Moves so_far token Stuck = Unit {0}

operand-moves : (b : Before) (token : Token) → Moves (before b) token (operand b token)
unfolding focus frame before_list
operand-moves b (t.Number n) = ap (λ z. before b ++ z) (bare-spells _ ∙ atom-number n)
operand-moves b (t.Text x) = ap (λ z. before b ++ z) (bare-spells _ ∙ atom-text x)
operand-moves b (t.Name x) = refl
operand-moves b (t.Keyword w.Nothing) = ap (λ z. before b ++ z) (bare-spells _ ∙ atom-nothing)
operand-moves b (t.Keyword w.Call) = refl
operand-moves b (t.Symbol s.OpenParen) = simp (append-nil, nothing-spells)
operand-moves b (t.Symbol s.OpenList) = simp append-nil
operand-moves b _ = tt

signed-moves : (b : Before) (op : UnaryOp) (had : Option UnaryOp) (token : Token) → b.sign ≡ had → sign_part (Some op) ≡ token ∷ [] → Moves (before b) token (signed b op had)
unfolding focus before
signed-moves b op None token e is = simp (e, is, append-nil, append_assoc)
signed-moves b op (Some x) token e is = tt

wanted-moves : (b : Before) (token : Token) → Moves (before b) token (wanted b token)
wanted-moves b (t.Symbol s.Minus) = signed-moves b _ b.sign _ refl refl
wanted-moves b (t.Keyword w.Not) = signed-moves b _ b.sign _ refl refl
wanted-moves b token = operand-moves b token

abbrev pub IsBehind : Token → Behind → Type 0
IsBehind token Indexes = token ≡ t.Symbol s.OpenList
IsBehind token (Multiplies op) = token ≡ t.Symbol (term_symbol op)
IsBehind token (Adds op) = token ≡ t.Symbol (sum_symbol op)
IsBehind token (Compares op) = token ≡ t.Symbol (compare_symbol op)
IsBehind token Ands = token ≡ t.Keyword w.And
IsBehind token Ors = token ≡ t.Keyword w.Or
IsBehind token Others = Unit {0}

pub is_behind : (token : Token) → IsBehind token (behind_of token)
is_behind (t.Symbol s.OpenList) = refl
is_behind (t.Symbol s.Times) = refl
is_behind (t.Symbol s.Over) = refl
is_behind (t.Symbol s.Rest) = refl
is_behind (t.Symbol s.Plus) = refl
is_behind (t.Symbol s.Minus) = refl
is_behind (t.Symbol s.Equal) = refl
is_behind (t.Symbol s.Differ) = refl
is_behind (t.Symbol s.Less) = refl
is_behind (t.Symbol s.AtMost) = refl
is_behind (t.Symbol s.Greater) = refl
is_behind (t.Symbol s.AtLeast) = refl
is_behind (t.Keyword w.And) = refl
is_behind (t.Keyword w.Or) = refl
is_behind _ = tt

compared-moves : (b : Before) (p : Post) (op : CompareOp) (had : Option (Sum × CompareOp)) → b.left ≡ had
    → Moves (before b ++ post p) (t.Symbol (compare_symbol op)) (compared_move b p op had)
unfolding focus before
compared-moves b p op None e = simp (e, whole_sum-spells b p, append-nil, append_assoc)
compared-moves b p op (Some x) e = whole_expr-spells b p

after-moves : (b : Before) (p : Post) (c : Behind) (token : Token) → IsBehind token c → Moves (before b ++ post p) token (after b p c)
unfolding focus before frame
after-moves b p Indexes token e = rw e (simp (append-nil, append_assoc))
after-moves b p (Multiplies op) token e = rw e (simp (whole_term-spells b p, append-nil, append_assoc))
after-moves b p (Adds op) token e = rw e (simp (whole_sum-spells b p, append-nil, append_assoc))
after-moves b p (Compares op) token e = rw e (compared-moves b p op b.left refl)
after-moves b p Ands token e = rw e (simp (whole_conj-spells b p, append-nil, append_assoc))
after-moves b p Ors token e = rw e (simp (whole_expr-spells b p, append-nil, append_assoc))
after-moves b p Others token e = whole_expr-spells b p

-- the same of an operand that is spelled so
operand_after-moves : (b : Before) (p : Post) (ts : Tokens) (token : Token) → post p ≡ ts → Moves (before b ++ ts) token (after b p (behind_of token))
operand_after-moves b p ts token e = subst (λ (z : Tokens). Moves (before b ++ z) token (after b p (behind_of token))) e (after-moves b p (behind_of token) token (is_behind token))

named-moves : (b : Before) (x : List ℕ) (token : Token) → Moves (before b ++ t.Name x ∷ []) token (named b x token)
unfolding focus frame before_list
named-moves b x (t.Symbol s.OpenParen) = simp (append-nil, append_assoc)
named-moves b x token = operand_after-moves b (bare (a.Variable x)) _ token (bare-spells _ ∙ atom-variable x)

pub call_post-spells : (x : List ℕ) (es ns : List Expr) → post (call_post x es ns) ≡ call_part x es ++ names_part (map expr ns)
unfolding call_part
call_post-spells x es ns = bare-spells _ ∙ (atom-call _ ∙ (call-rolled _ ∙ refl))

called-moves : (b : Before) (x : List ℕ) (es : List Expr) (token : Token) → Moves (before b ++ call_part x es) token (called b x es token)
unfolding focus
called-moves b x es (t.Keyword w.To) = simp append_assoc
called-moves b x es token = operand_after-moves b (call_post x es []) _ token (call_post-spells x es [] ∙ append-nil _)

first-moves : (token : Token) → Moves [] token (first token)
first-moves (t.Symbol s.CloseParen) = refl
first-moves (t.Symbol s.CloseList) = refl
first-moves token = subst (λ (z : Tokens). Moves z token (wanted nothing_before token)) nothing-spells (wanted-moves nothing_before token)

call_word-moves : (b : Before) (token : Token) → Moves (before b ++ word w.Call) token (call_word b token)
unfolding focus
call_word-moves b (t.Name x) = simp append_assoc
call_word-moves b _ = tt

opens-moves : (f : OpenBracket) (o : ExprState) (ts : Tokens) (token : Token) → frame f ++ focus o ≡ ts ++ symbol s.OpenParen → Moves ts token (opens f o token)
opens-moves f o ts (t.Symbol s.OpenParen) e = e
opens-moves f o ts _ e = tt

pub move-moves : (o : ExprState) (token : Token) → Moves (focus o) token (move o token)
unfolding focus frame before_list call_part
move-moves (o.Operand b) token = wanted-moves b token
move-moves o.First token = first-moves token
move-moves (o.Named b x) token = named-moves b x token
move-moves (o.CallWord b) token = call_word-moves b token
move-moves (o.CallName b x) token = opens-moves _ _ _ token (simp (append-nil, append_assoc))
move-moves (o.Called b x es) token = called-moves b x es token
move-moves (o.CallTo b x es) token = opens-moves _ _ _ token (simp (nothing-spells, append-nil, append_assoc))
move-moves (o.After b p) token = after-moves b p (behind_of token) token (is_behind token)
