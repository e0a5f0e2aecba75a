-- What is spelled so is read.
use Rattle.std.proofs.Common.{◌≡◌, ℕ, List, [], ◌∷◌, ◌++◌, map, refl, ap, ◌∙◌, sym, subst, Bool, true, false, Option, Some, None, append-nil, append_assoc}
use Rattle.std.specs.Prelude.{ℤ}
use Rattle.std.specs.List.{flat_map}
use Rattle.script_tree.specs.declared.token.Token.{Token}
use Rattle.script_tree.specs.declared.token.Token.TheVariants as t
use Rattle.script_tree.specs.declared.token.Keyword.TheVariants as w
use Rattle.script_tree.specs.declared.token.Symbol.TheVariants as s
use Rattle.script_tree.specs.declared.tree.SumOp.{SumOp}
use Rattle.script_tree.specs.declared.tree.SumOp.TheVariants as plus
use Rattle.script_tree.specs.declared.tree.TermOp.{TermOp}
use Rattle.script_tree.specs.declared.tree.TermOp.TheVariants as times
use Rattle.script_tree.specs.declared.tree.CompareOp.{CompareOp}
use Rattle.script_tree.specs.declared.tree.CompareOp.TheVariants as by
use Rattle.script_tree.specs.declared.tree.UnaryOp.{UnaryOp}
use Rattle.script_tree.specs.declared.tree.UnaryOp.TheVariants as sign
use Rattle.script_tree.specs.declared.tree.Atom.TheOpen.{Atom-F, Comp-F}
use Rattle.script_tree.specs.declared.tree.Atom.{Atom, roll-Atom}
use Rattle.script_tree.specs.declared.tree.Atom.TheFolds.{map-Atom, map-Comp}
use Rattle.script_tree.specs.declared.tree.Atom.TheVariants as a
use Rattle.script_tree.specs.declared.tree.Added.{Added, roll-Added, out-Added, out-roll-Added, roll-out-Added}
use Rattle.script_tree.specs.declared.tree.CallExpr.{CallExpr, roll-CallExpr}
use Rattle.script_tree.specs.declared.tree.Comp.{Comp, roll-Comp}
use Rattle.script_tree.specs.declared.tree.Compared.{Compared, roll-Compared, out-Compared, out-roll-Compared, roll-out-Compared}
use Rattle.script_tree.specs.declared.tree.Conj.{Conj, roll-Conj, out-Conj, out-roll-Conj}
use Rattle.script_tree.specs.declared.tree.Expr.{Expr, roll-Expr, out-Expr, out-roll-Expr}
use Rattle.script_tree.specs.declared.tree.Factor.{Factor, roll-Factor, out-Factor, out-roll-Factor, roll-out-Factor}
use Rattle.script_tree.specs.declared.tree.Post.{Post, roll-Post, out-roll-Post}
use Rattle.script_tree.specs.declared.tree.Sum.{Sum, roll-Sum, out-Sum, out-roll-Sum}
use Rattle.script_tree.specs.declared.tree.Term.{Term, roll-Term, out-Term, out-roll-Term}
use Rattle.script_tree.specs.declared.tree.Unary.{Unary, roll-Unary}
use Rattle.parser_model.specs.declared.expression_state.Before.{Before}
use Rattle.parser_model.specs.declared.expression_state.Listing.{Listing}
use Rattle.parser_model.specs.declared.expression_state.Listing.TheVariants as l
use Rattle.parser_model.specs.declared.expression_state.OpenBracket.{OpenBracket}
use Rattle.parser_model.specs.declared.expression_state.OpenBracket.TheVariants as f
use Rattle.parser_model.specs.declared.expression_state.ExprState.{ExprState}
use Rattle.parser_model.specs.declared.expression_state.ExprState.TheVariants as o
use Rattle.script_tree.specs.Spelling.{Tokens, symbol, listed, in_parens, names_part, sum_symbol, term_symbol, compare_symbol}
use Rattle.parser_model.specs.declared.expression_state.ExprMove.TheVariants.{To}
use Rattle.parser_model.specs.declared.expression_state.Behind.{Behind}
use Rattle.parser_model.specs.declared.expression_state.Behind.TheVariants.{Indexes, Multiplies, Adds, Compares, Ands, Ors, Others}
use Rattle.parser_model.specs.declared.expression_state.Closer.TheVariants.{Round, Square}
use Rattle.parser_model.specs.declared.expression_state.ExprNext.{ExprNext}
use Rattle.parser_model.specs.declared.expression_state.ExprNext.TheVariants.{Stay, Done, Stop}
use Rattle.parser_model.specs.Reading.{term_of, sum_of, comp_of, conj_of, expr_of, whole_term, whole_sum, whole_comp, whole_conj, whole_expr, nothing_before, bare, with_index, signed, behind_of, compared as compared_move, after, call_post, list_done, first, move, closer_of, may_be_empty, listed_on, in_frame, close, empty, act, step, goes_on, run}
use Rattle.parser_model.proofs.Equations.{expr, call, conj, comp, sum, term, unary, post, atom, added, factor, compared, expr-rolled, conj-rolled, sum-rolled, term-rolled, unary-rolled, post-rolled, call-rolled, added-rolled, factor-rolled, compared-rolled, comp-none, comp-some, atom-number, atom-text, atom-nothing, atom-variable, atom-built_in, atom-call, atom-paren, atom-list}
use Rattle.script_tree.specs.declared.tree.Expr.{ind-Expr}
use Rattle.parser_model.proofs.Steps.{split-snoc}

goes_on-append : (ts us : Tokens) (n : ExprNext) → ((fs : List OpenBracket) (o : ExprState) → run (ts ++ us) fs o ≡ goes_on (run us) (run ts fs o))
    → goes_on (run (ts ++ us)) n ≡ goes_on (run us) (goes_on (run ts) n)
goes_on-append ts us (Stay fs o) e = e fs o
goes_on-append ts us (Done x) e = refl
goes_on-append ts us Stop e = refl

pub run-append : (ts us : Tokens) (fs : List OpenBracket) (o : ExprState) → run (ts ++ us) fs o ≡ goes_on (run us) (run ts fs o)
run-append [] us fs o = refl
run-append (token ∷ ts) us fs o = goes_on-append ts us (step fs o token) (run-append ts us)

pub runs : (ts us : Tokens) (fs gs : List OpenBracket) (o q : ExprState) (n : ExprNext) → run ts fs o ≡ Stay gs q → run us gs q ≡ n → run (ts ++ us) fs o ≡ n
runs ts us fs gs o q n e h = run-append ts us fs o ∙ (ap (goes_on (run us)) e ∙ h)

pub steps : (token : Token) (us : Tokens) (fs gs : List OpenBracket) (o q : ExprState) (n : ExprNext) → step fs o token ≡ Stay gs q → run us gs q ≡ n → run (token ∷ us) fs o ≡ n
steps token us fs gs o q n e h = ap (goes_on (run us)) e ∙ h

abbrev pub is_plain : Token → Bool
is_plain (t.Symbol s.OpenParen) = false
is_plain (t.Keyword w.To) = false
is_plain _ = true

-- a focus behind an operand, but for two tokens
abbrev pub AtEnd : ExprState → Before → Post → Type 0
AtEnd o b p = (token : Token) → is_plain token ≡ true → move o token ≡ after b p (behind_of token)

pub record Reads (fs : List OpenBracket) (o : ExprState) (ts : Tokens) (F : Before → Post → Type 0) : Type 0 where
  pub last : ExprState
  pub before : Before
  pub post : Post
  pub run : run ts fs o ≡ Stay fs last
  pub at_end : AtEnd last before post
  pub fact : F before post

pub and_then : (fs : List OpenBracket) (o q : ExprState) (ts us : Tokens) (token : Token) (F G : Before → Post → Type 0)
    → (r : Reads fs o ts F) → step fs r.last token ≡ Stay fs q → Reads fs q us G → Reads fs o (ts ++ token ∷ us) G
and_then fs o q ts us token F G r e next = record {
  last = next.last;
  before = next.before;
  post = next.post;
  run = runs ts (token ∷ us) fs fs o r.last _ r.run (steps token us fs fs r.last q _ e next.run);
  at_end = next.at_end;
  fact = next.fact;
}

-- A chain of items, each of which joins what has been read.
abbrev pub joined : {X Y : Type 0} → (X → Y → X) → X → List Y → X
joined join x [] = x
joined join x (y ∷ ys) = joined join (join x y) ys

-- one item more of a chain
abbrev pub Joins : {X Y : Type 0} → (Y → Tokens) → (X → Y → X) → (X → Before → Post → Type 0) → Y → Type 0
Joins {X} spell join F y = (fs : List OpenBracket) (o : ExprState) (x : X) (ts : Tokens) → Reads fs o ts (F x) → Reads fs o (ts ++ spell y) (F (join x y))

pub chain_reads : {X Y : Type 0} (spell : Y → Tokens) (join : X → Y → X) (F : X → Before → Post → Type 0) (fs : List OpenBracket) (o : ExprState)
    (ys : List ((y : Y) × Joins spell join F y)) (x : X) (ts : Tokens) → Reads fs o ts (F x)
    → Reads fs o (ts ++ flat_map spell (map (λ y. y.0) ys)) (F (joined join x (map (λ y. y.0) ys)))
chain_reads spell join F fs o [] x ts r = rw append-nil r
chain_reads spell join F fs o (y ∷ ys) x ts r = subst (λ (z : Tokens). Reads fs o z (F (joined join (join x y.0) (map (λ y. y.0) ys)))) (append_assoc ts (spell y.0) (flat_map spell (map (λ y. y.0) ys)))
    (chain_reads spell join F fs o ys (join x y.0) (ts ++ spell y.0) (y.1 fs o x ts r))

-- ---- the classes

pub record SameOrs (b c : Before) : Type 0 where
  pub ors : c.ors ≡ b.ors

pub record SameAnds (b c : Before) : Type 0 where
  pub ors : c.ors ≡ b.ors
  pub ands : c.ands ≡ b.ands

pub record SameLeft (b c : Before) : Type 0 where
  pub ors : c.ors ≡ b.ors
  pub ands : c.ands ≡ b.ands
  pub left : c.left ≡ b.left

pub record SameSum (b c : Before) : Type 0 where
  pub ors : c.ors ≡ b.ors
  pub ands : c.ands ≡ b.ands
  pub left : c.left ≡ b.left
  pub sum : c.sum ≡ b.sum

abbrev pub AtomReads : Atom → Type 0
AtomReads x = (fs : List OpenBracket) (b : Before) → Reads fs (o.Operand b) (atom x) (λ c q. (c ≡ b) × (q ≡ bare x))

abbrev pub CallReads : CallExpr → Type 0
CallReads x = (fs : List OpenBracket) (b : Before) → Reads fs (o.Operand b) (call x) (λ c q. (c ≡ b) × (q ≡ bare (a.Call x)))

abbrev pub PostReads : Post → Type 0
PostReads x = (fs : List OpenBracket) (b : Before) → Reads fs (o.Operand b) (post x) (λ c q. (c ≡ b) × (q ≡ x))

-- b has no sign
abbrev pub UnaryFact : Before → Term → Before → Post → Type 0
UnaryFact b x c q = SameSum b c × (whole_term c q ≡ x)

abbrev pub UnaryReads : Unary → Type 0
UnaryReads x = (fs : List OpenBracket) (b : Before) → b.sign ≡ None → Reads fs (o.Operand b) (unary x) (UnaryFact b (term_of b.term x))

abbrev pub FactorReads : Factor → Type 0
FactorReads x = UnaryReads (out-Factor x).unary

abbrev pub TermFact : Before → Sum → Before → Post → Type 0
TermFact b x c q = SameLeft b c × (whole_sum c q ≡ x)

abbrev pub TermReads : Term → Type 0
TermReads x = (fs : List OpenBracket) (b : Before) → b.sign ≡ None → b.term ≡ None → Reads fs (o.Operand b) (term x) (TermFact b (sum_of b.sum x))

abbrev pub AddedReads : Added → Type 0
AddedReads x = TermReads (out-Added x).term

abbrev pub SumFact : Before → Comp → Before → Post → Type 0
SumFact b x c q = SameAnds b c × (whole_comp c q ≡ x)

abbrev pub SumReads : Sum → Type 0
SumReads x = (fs : List OpenBracket) (b : Before) → b.sign ≡ None → b.term ≡ None → b.sum ≡ None → Reads fs (o.Operand b) (sum x) (TermFact b x)

abbrev pub ComparedReads : Compared → Type 0
ComparedReads x = SumReads (out-Compared x).right

abbrev pub CompFact : Before → Conj → Before → Post → Type 0
CompFact b x c q = SameOrs b c × (whole_conj c q ≡ x)

abbrev pub CompReads : Comp → Type 0
CompReads x = (fs : List OpenBracket) (b : Before) → b.sign ≡ None → b.term ≡ None → b.sum ≡ None → b.left ≡ None → Reads fs (o.Operand b) (comp x) (CompFact b (conj_of b.ands x))

abbrev pub ConjFact : Expr → Before → Post → Type 0
ConjFact x c q = whole_expr c q ≡ x

abbrev pub ConjReads : Conj → Type 0
ConjReads x = (fs : List OpenBracket) (b : Before) → b.sign ≡ None → b.term ≡ None → b.sum ≡ None → b.left ≡ None → b.ands ≡ None → Reads fs (o.Operand b) (conj x) (ConjFact (expr_of b.ors x))

abbrev pub ExprReads : Expr → Type 0
ExprReads x = (fs : List OpenBracket) → Reads fs (o.Operand nothing_before) (expr x) (ConjFact x)

-- ---- operators

pub step_at : (fs : List OpenBracket) (o : ExprState) (b : Before) (p : Post) (token : Token) (c : Behind) → AtEnd o b p → is_plain token ≡ true → behind_of token ≡ c → step fs o token ≡ act fs token (after b p c)
unfolding step
step_at fs o b p token c at plain e = ap (λ m. act fs token m) (at token plain ∙ ap (λ z. after b p z) e)

term-plain : (op : TermOp) → is_plain (t.Symbol (term_symbol op)) ≡ true
term-plain times.Times = refl
term-plain times.Over = refl
term-plain times.Rest = refl

term-behind : (op : TermOp) → behind_of (t.Symbol (term_symbol op)) ≡ Multiplies op
term-behind times.Times = refl
term-behind times.Over = refl
term-behind times.Rest = refl

sum-plain : (op : SumOp) → is_plain (t.Symbol (sum_symbol op)) ≡ true
sum-plain plus.Plus = refl
sum-plain plus.Minus = refl

sum-behind : (op : SumOp) → behind_of (t.Symbol (sum_symbol op)) ≡ Adds op
sum-behind plus.Plus = refl
sum-behind plus.Minus = refl

compare-plain : (op : CompareOp) → is_plain (t.Symbol (compare_symbol op)) ≡ true
compare-plain by.Equal = refl
compare-plain by.Differ = refl
compare-plain by.Less = refl
compare-plain by.AtMost = refl
compare-plain by.Greater = refl
compare-plain by.AtLeast = refl

compare-behind : (op : CompareOp) → behind_of (t.Symbol (compare_symbol op)) ≡ Compares op
compare-behind by.Equal = refl
compare-behind by.Differ = refl
compare-behind by.Less = refl
compare-behind by.AtMost = refl
compare-behind by.Greater = refl
compare-behind by.AtLeast = refl

weaken : (fs : List OpenBracket) (st : ExprState) (ts : Tokens) (F G : Before → Post → Type 0) → ((c : Before) (q : Post) → F c q → G c q) → Reads fs st ts F → Reads fs st ts G
weaken fs st ts F G h r = record { last = r.last; before = r.before; post = r.post; run = r.run; at_end = r.at_end; fact = h r.before r.post r.fact }

-- an operator, and what is read behind it
behind_reads : (fs : List OpenBracket) (st : ExprState) (ts us : Tokens) (token : Token) (k : Behind) (c : Before) (F H G : Before → Post → Type 0)
    → (r : Reads fs st ts F) → is_plain token ≡ true → behind_of token ≡ k → after r.before r.post k ≡ To (o.Operand c)
    → Reads fs (o.Operand c) us H → ((d : Before) (q : Post) → H d q → G d q) → Reads fs st (ts ++ token ∷ us) G
behind_reads fs st ts us token k c F H G r plain is goes next h =
    and_then fs st (o.Operand c) ts us token F G r (step_at fs r.last r.before r.post token k r.at_end plain is ∙ ap (λ m. act fs token m) goes) (weaken fs (o.Operand c) us H G h next)

abbrev factor_join : Term → Factor → Term
factor_join x y = roll-Term (record { first = (out-Term x).first; others = (out-Term x).others ++ y ∷ [] })

factor-joins : (b : Before) (y : Factor) → FactorReads y → Joins factor factor_join (UnaryFact b) y
factor-joins b y h fs st x ts r =
    let op = (out-Factor y).op in
    let u = (out-Factor y).unary in
    let c : Before = record { ors = r.before.ors; ands = r.before.ands; left = r.before.left; sum = r.before.sum; term = Some (whole_term r.before r.post, op); sign = None } in
    subst (λ (z : Tokens). Reads fs st (ts ++ z) (UnaryFact b (factor_join x y))) (sym (factor-rolled _) ∙ ap factor (roll-out-Factor y))
    (behind_reads fs st ts (unary u) (t.Symbol (term_symbol op)) (Multiplies op) c _ _ _ r (term-plain op) (term-behind op) refl (h fs c refl)
    (λ d q g. (
      record { ors = g.0.ors ∙ r.fact.0.ors; ands = g.0.ands ∙ r.fact.0.ands; left = g.0.left ∙ r.fact.0.left; sum = g.0.sum ∙ r.fact.0.sum },
      g.1 ∙ (ap (λ (z : Term). term_of (Some (z, op)) u) r.fact.1 ∙ ap (λ (z : Factor). factor_join x z) (roll-out-Factor y)),
    )))

abbrev added_join : Sum → Added → Sum
added_join x y = roll-Sum (record { first = (out-Sum x).first; others = (out-Sum x).others ++ y ∷ [] })

added-joins : (b : Before) (y : Added) → AddedReads y → Joins added added_join (TermFact b) y
added-joins b y h fs st x ts r =
    let op = (out-Added y).op in
    let u = (out-Added y).term in
    let c : Before = record { ors = r.before.ors; ands = r.before.ands; left = r.before.left; sum = Some (whole_sum r.before r.post, op); term = None; sign = None } in
    subst (λ (z : Tokens). Reads fs st (ts ++ z) (TermFact b (added_join x y))) (sym (added-rolled _) ∙ ap added (roll-out-Added y))
    (behind_reads fs st ts (term u) (t.Symbol (sum_symbol op)) (Adds op) c _ _ _ r (sum-plain op) (sum-behind op) refl (h fs c refl refl)
    (λ d q g. (
      record { ors = g.0.ors ∙ r.fact.0.ors; ands = g.0.ands ∙ r.fact.0.ands; left = g.0.left ∙ r.fact.0.left },
      g.1 ∙ (ap (λ (z : Sum). sum_of (Some (z, op)) u) r.fact.1 ∙ ap (λ (z : Added). added_join x z) (roll-out-Added y)),
    )))

abbrev comp_join : Conj → Comp → Conj
comp_join x y = roll-Conj (record { first = (out-Conj x).first; others = (out-Conj x).others ++ y ∷ [] })

comp-joins : (b : Before) (y : Comp) → CompReads y → Joins (λ c. t.Keyword w.And ∷ comp c) comp_join (CompFact b) y
comp-joins b y h fs st x ts r =
    let c : Before = record { ors = r.before.ors; ands = Some (whole_conj r.before r.post); left = None; sum = None; term = None; sign = None } in
    behind_reads fs st ts (comp y) (t.Keyword w.And) Ands c _ _ _ r refl refl refl (h fs c refl refl refl refl)
    (λ d q g. (record { ors = g.0.ors ∙ r.fact.0.ors }, g.1 ∙ ap (λ (z : Conj). conj_of (Some z) y) r.fact.1))

abbrev conj_join : Expr → Conj → Expr
conj_join x y = roll-Expr (record { first = (out-Expr x).first; others = (out-Expr x).others ++ y ∷ [] })

conj-joins : (y : Conj) → ConjReads y → Joins (λ c. t.Keyword w.Or ∷ conj c) conj_join ConjFact y
conj-joins y h fs st x ts r =
    let c : Before = record { ors = Some (whole_expr r.before r.post); ands = None; left = None; sum = None; term = None; sign = None } in
    behind_reads fs st ts (conj y) (t.Keyword w.Or) Ors c _ _ _ r refl refl refl (h fs c refl refl refl refl refl)
    (λ d q g. g ∙ ap (λ (z : Expr). expr_of (Some z) y) r.fact)

-- ---- brackets

end_step : (fs : List OpenBracket) (fr : OpenBracket) (st : ExprState) (b : Before) (p : Post) (e : Expr) (token : Token) → AtEnd st b p → whole_expr b p ≡ e → is_plain token ≡ true → behind_of token ≡ Others
    → step (fs ++ fr ∷ []) st token ≡ in_frame fs fr e (closer_of token)
end_step fs fr st b p e token at is plain behind = step_at (fs ++ fr ∷ []) st b p token Others at plain behind
    ∙ (ap (λ (r : Option (List OpenBracket × OpenBracket)). close (whole_expr b p) (closer_of token) r) (split-snoc fs fr) ∙ ap (λ (z : Expr). in_frame fs fr z (closer_of token)) is)

-- an expression in a bracket, and what ends it
in_bracket : (fs gs : List OpenBracket) (fr : OpenBracket) (e : Expr) (token : Token) (q : ExprState) → ExprReads e → is_plain token ≡ true → behind_of token ≡ Others → in_frame fs fr e (closer_of token) ≡ Stay gs q
    → run (expr e ++ token ∷ []) (fs ++ fr ∷ []) (o.Operand nothing_before) ≡ Stay gs q
in_bracket fs gs fr e token q h plain behind goes =
    let r = h (fs ++ fr ∷ []) in
    runs (expr e) (token ∷ []) (fs ++ fr ∷ []) (fs ++ fr ∷ []) _ r.last _ r.run
    (steps token [] (fs ++ fr ∷ []) gs r.last q _ (end_step fs fr r.last r.before r.post e token r.at_end r.fact plain behind ∙ goes) refl)

abbrev pub PostFact : Before → Post → Before → Post → Type 0
PostFact b x c q = (c ≡ b) × (q ≡ x)

abbrev index_tokens : Expr → Tokens
index_tokens e = t.Symbol s.OpenList ∷ expr e ++ symbol s.CloseList

index-joins : (b : Before) (e : Expr) → ExprReads e → Joins index_tokens with_index (PostFact b) e
index-joins b e h fs st x ts r = record {
  last = o.After r.before (with_index r.post e);
  before = r.before;
  post = with_index r.post e;
  run = runs ts (index_tokens e) fs fs st r.last _ r.run
      (steps (t.Symbol s.OpenList) _ fs (fs ++ f.Index r.before r.post ∷ []) r.last (o.Operand nothing_before) _ (step_at fs r.last r.before r.post _ Indexes r.at_end refl refl)
      (in_bracket fs fs (f.Index r.before r.post) e (t.Symbol s.CloseList) _ h refl refl refl));
  at_end = λ token plain. refl;
  fact = (r.fact.0, ap (λ (z : Post). with_index z e) r.fact.1);
}

-- ---- lists

abbrev pub closing : Listing → Token
closing (l.List b) = t.Symbol s.CloseList
closing _ = t.Symbol s.CloseParen

list_ends : (fs : List OpenBracket) (l : Listing) (es : List Expr) → listed_on fs l es (closer_of (closing l)) ≡ Stay fs (list_done l es)
list_ends fs (l.List b) es = refl
list_ends fs (l.Arguments b x) es = refl
list_ends fs (l.Call b x) es = refl
list_ends fs (l.Names b x ds) es = refl

closing-plain : (l : Listing) → is_plain (closing l) ≡ true
closing-plain (l.List b) = refl
closing-plain (l.Arguments b x) = refl
closing-plain (l.Call b x) = refl
closing-plain (l.Names b x ds) = refl

closing-behind : (l : Listing) → behind_of (closing l) ≡ Others
closing-behind (l.List b) = refl
closing-behind (l.Arguments b x) = refl
closing-behind (l.Call b x) = refl
closing-behind (l.Names b x ds) = refl

abbrev pub SuchExpr : Type 0
SuchExpr = (e : Expr) × ExprReads e

abbrev pub exprs : List SuchExpr → List Expr
exprs = map (λ e. e.0)

-- items of a list, and its end
pub items_read : (fs : List OpenBracket) (l : Listing) (ds : List Expr) (e : SuchExpr) (es : List SuchExpr)
    → run (listed (map expr (exprs (e ∷ es))) ++ closing l ∷ []) (fs ++ f.Listed l ds ∷ []) (o.Operand nothing_before) ≡ Stay fs (list_done l (ds ++ exprs (e ∷ es)))
items_read fs l ds e [] = rw append-nil (in_bracket fs fs (f.Listed l ds) e.0 (closing l) _ e.1 (closing-plain l) (closing-behind l) (list_ends fs l (ds ++ e.0 ∷ [])))
items_read fs l ds e (d ∷ es) =
    let r = e.1 (fs ++ f.Listed l ds ∷ []) in
    let rest : Tokens = listed (map expr (exprs (d ∷ es))) ++ closing l ∷ [] in
    let whole : run (expr e.0 ++ t.Symbol s.Comma ∷ rest) (fs ++ f.Listed l ds ∷ []) (o.Operand nothing_before) ≡ Stay fs (list_done l (ds ++ exprs (e ∷ d ∷ es))) =
    runs (expr e.0) (t.Symbol s.Comma ∷ rest) (fs ++ f.Listed l ds ∷ []) (fs ++ f.Listed l ds ∷ []) _ r.last _ r.run
    (steps (t.Symbol s.Comma) rest (fs ++ f.Listed l ds ∷ []) (fs ++ f.Listed l (ds ++ e.0 ∷ []) ∷ []) r.last (o.Operand nothing_before) _
    (end_step fs (f.Listed l ds) r.last r.before r.post e.0 (t.Symbol s.Comma) r.at_end r.fact refl refl)
    (items_read fs l (ds ++ e.0 ∷ []) d es ∙ ap (λ (z : List Expr). Stay fs (list_done l z)) (append_assoc ds (e.0 ∷ []) (exprs (d ∷ es))))) in
    subst (λ (z : Tokens). run z (fs ++ f.Listed l ds ∷ []) (o.Operand nothing_before) ≡ Stay fs (list_done l (ds ++ exprs (e ∷ d ∷ es)))) (sym (append_assoc (expr e.0) _ (closing l ∷ []))) whole

-- the first item's tokens are as those of any operand
first_step : (fs gs : List OpenBracket) (q : ExprState) (token : Token) → step fs (o.Operand nothing_before) token ≡ Stay gs q → step fs o.First token ≡ Stay gs q
unfolding step
first_step fs gs q (t.Symbol s.CloseParen) e = absurd (cc)
first_step fs gs q (t.Symbol s.CloseList) e = absurd (cc)
first_step fs gs q _ e = e

stays : (ts : Tokens) (n : ExprNext) (gs : List OpenBracket) (q : ExprState) → goes_on (run ts) n ≡ Stay gs q → (fs : List OpenBracket) × (o : ExprState) × (n ≡ Stay fs o)
stays ts (Stay fs o) gs q e = (fs, o, refl)
stays ts (Done x) gs q e = absurd (cc)
stays ts Stop gs q e = absurd (cc)

first_run : (token : Token) (ts : Tokens) (fs gs : List OpenBracket) (q : ExprState) → run (token ∷ ts) fs (o.Operand nothing_before) ≡ Stay gs q → run (token ∷ ts) fs o.First ≡ Stay gs q
first_run token ts fs gs q e =
    let s1 = stays ts (step fs (o.Operand nothing_before) token) gs q e in
    ap (goes_on (run ts)) (first_step fs s1.0 s1.1 token s1.2 ∙ sym s1.2) ∙ e

first_run_any : (ts : Tokens) (fs gs : List OpenBracket) (q : ExprState) → (ts ≡ [] → ⊥) → run ts fs (o.Operand nothing_before) ≡ Stay gs q → run ts fs o.First ≡ Stay gs q
first_run_any [] fs gs q n e = absurd (n refl)
first_run_any (token ∷ ts) fs gs q n e = first_run token ts fs gs q e

ended : {A : Type 0} (ts : List A) (x : A) → ts ++ x ∷ [] ≡ [] → ⊥
ended [] x e = cc
ended (y ∷ ts) x e = cc

empty_step : (fs : List OpenBracket) (l : Listing) → may_be_empty l ≡ true → step (fs ++ f.Listed l [] ∷ []) o.First (closing l) ≡ Stay fs (list_done l [])
unfolding step
empty_step fs (l.List b) e = ap (λ (r : Option (List OpenBracket × OpenBracket)). empty Square r) (split-snoc fs (f.Listed (l.List b) []))
empty_step fs (l.Arguments b x) e = ap (λ (r : Option (List OpenBracket × OpenBracket)). empty Round r) (split-snoc fs (f.Listed (l.Arguments b x) []))
empty_step fs (l.Call b x) e = ap (λ (r : Option (List OpenBracket × OpenBracket)). empty Round r) (split-snoc fs (f.Listed (l.Call b x) []))
empty_step fs (l.Names b x ds) e = absurd (cc)

-- a list that may be empty
pub list_read : (fs : List OpenBracket) (l : Listing) (es : List SuchExpr) → may_be_empty l ≡ true
    → run (listed (map expr (exprs es)) ++ closing l ∷ []) (fs ++ f.Listed l [] ∷ []) o.First ≡ Stay fs (list_done l (exprs es))
list_read fs l [] ok = steps (closing l) [] (fs ++ f.Listed l [] ∷ []) fs o.First (list_done l []) _ (empty_step fs l ok) refl
list_read fs l (e ∷ es) ok = first_run_any (listed (map expr (exprs (e ∷ es))) ++ closing l ∷ []) (fs ++ f.Listed l [] ∷ []) fs _ (ended _ (closing l)) (items_read fs l [] e es)

-- ---- atoms

made : (fs : List OpenBracket) (b : Before) (p : Post) (ts : Tokens) → run ts fs (o.Operand b) ≡ Stay fs (o.After b p) → Reads fs (o.Operand b) ts (PostFact b p)
made fs b p ts e = record { last = o.After b p; before = b; post = p; run = e; at_end = λ token plain. refl; fact = (refl, refl) }

number_reads : (n : ℤ) → AtomReads (a.Number n)
unfolding step
number_reads n fs b = rw (atom-number n) (made fs b (bare (a.Number n)) _ refl)

text_reads : (x : List ℕ) → AtomReads (a.Text x)
unfolding step
text_reads x fs b = rw (atom-text x) (made fs b (bare (a.Text x)) _ refl)

nothing_reads : AtomReads a.Nothing
unfolding step
nothing_reads fs b = rw atom-nothing (made fs b (bare a.Nothing) _ refl)

named_at : (b : Before) (x : List ℕ) → AtEnd (o.Named b x) b (bare (a.Variable x))
named_at b x (t.Symbol s.OpenParen) plain = absurd (cc)
named_at b x _ plain = refl

called_at : (b : Before) (x : List ℕ) (es : List Expr) → AtEnd (o.Called b x es) b (call_post x es [])
called_at b x es (t.Keyword w.To) plain = absurd (cc)
called_at b x es _ plain = refl

variable_reads : (x : List ℕ) → AtomReads (a.Variable x)
unfolding step
variable_reads x fs b = rw (atom-variable x) (record { last = o.Named b x; before = b; post = bare (a.Variable x); run = refl; at_end = named_at b x; fact = (refl, refl) })

built_in_reads : (x : List ℕ) (es : List SuchExpr) → AtomReads (a.BuiltIn x (exprs es))
unfolding step
built_in_reads x es fs b = rw (atom-built_in x (exprs es)) (made fs b (bare (a.BuiltIn x (exprs es))) _
    (list_read fs (l.Arguments b x) es refl))

list_reads : (es : List SuchExpr) → AtomReads (a.List (exprs es))
unfolding step
list_reads es fs b = rw (atom-list (exprs es)) (made fs b (bare (a.List (exprs es))) _ (list_read fs (l.List b) es refl))

paren_reads : (e : SuchExpr) → AtomReads (a.Paren e.0)
unfolding step
paren_reads e fs b = rw (atom-paren e.0) (made fs b (bare (a.Paren e.0)) _ (in_bracket fs fs (f.Paren b) e.0 (t.Symbol s.CloseParen) _ e.1 refl refl refl))

call_reads : (c : (c : CallExpr) × CallReads c) → AtomReads (a.Call c.0)
call_reads c fs b = rw (atom-call c.0) (c.1 fs b)

call_list_reads : (x : List ℕ) (es ns : List SuchExpr) → CallReads (roll-CallExpr (record { app = x; arguments = exprs es; names = exprs ns }))
unfolding step
call_list_reads x es [] fs b = rw (call-rolled _, append-nil) (record { last = o.Called b x (exprs es); before = b; post = call_post x (exprs es) []; run = list_read fs (l.Call b x) es refl; at_end = called_at b x (exprs es); fact = (refl, refl) })
call_list_reads x es (n ∷ ns) fs b = rw call-rolled (made fs b (call_post x (exprs es) (exprs (n ∷ ns))) _
    (runs (t.Keyword w.Call ∷ t.Name x ∷ in_parens (listed (map expr (exprs es)))) (names_part (map expr (exprs (n ∷ ns)))) fs fs (o.Operand b) (o.Called b x (exprs es)) _
    (list_read fs (l.Call b x) es refl) (items_read fs (l.Names b x (exprs es)) [] n ns)))

-- ---- chains

term-joined : (first : Unary) (xs ys : List Factor) → joined factor_join (roll-Term (record { first = first; others = xs })) ys ≡ roll-Term (record { first = first; others = xs ++ ys })
term-joined first xs [] = ap (λ (z : List Factor). roll-Term (record { first = first; others = z })) (sym (append-nil xs))
term-joined first xs (y ∷ ys) = rw (out-roll-Term) (term-joined first (xs ++ y ∷ []) ys ∙ ap (λ (z : List Factor). roll-Term (record { first = first; others = z })) (append_assoc xs (y ∷ []) ys))

sum-joined : (first : Term) (xs ys : List Added) → joined added_join (roll-Sum (record { first = first; others = xs })) ys ≡ roll-Sum (record { first = first; others = xs ++ ys })
sum-joined first xs [] = ap (λ (z : List Added). roll-Sum (record { first = first; others = z })) (sym (append-nil xs))
sum-joined first xs (y ∷ ys) = rw (out-roll-Sum) (sum-joined first (xs ++ y ∷ []) ys ∙ ap (λ (z : List Added). roll-Sum (record { first = first; others = z })) (append_assoc xs (y ∷ []) ys))

conj-joined : (first : Comp) (xs ys : List Comp) → joined comp_join (roll-Conj (record { first = first; others = xs })) ys ≡ roll-Conj (record { first = first; others = xs ++ ys })
conj-joined first xs [] = ap (λ (z : List Comp). roll-Conj (record { first = first; others = z })) (sym (append-nil xs))
conj-joined first xs (y ∷ ys) = rw (out-roll-Conj) (conj-joined first (xs ++ y ∷ []) ys ∙ ap (λ (z : List Comp). roll-Conj (record { first = first; others = z })) (append_assoc xs (y ∷ []) ys))

expr-joined : (first : Conj) (xs ys : List Conj) → joined conj_join (roll-Expr (record { first = first; others = xs })) ys ≡ roll-Expr (record { first = first; others = xs ++ ys })
expr-joined first xs [] = ap (λ (z : List Conj). roll-Expr (record { first = first; others = z })) (sym (append-nil xs))
expr-joined first xs (y ∷ ys) = rw (out-roll-Expr) (expr-joined first (xs ++ y ∷ []) ys ∙ ap (λ (z : List Conj). roll-Expr (record { first = first; others = z })) (append_assoc xs (y ∷ []) ys))

post-joined : (x : Atom) (xs ys : List Expr) → joined with_index (roll-Post (record { atom = x; indices = xs })) ys ≡ roll-Post (record { atom = x; indices = xs ++ ys })
post-joined x xs [] = ap (λ (z : List Expr). roll-Post (record { atom = x; indices = z })) (sym (append-nil xs))
post-joined x xs (y ∷ ys) = rw (out-roll-Post) (post-joined x (xs ++ y ∷ []) ys ∙ ap (λ (z : List Expr). roll-Post (record { atom = x; indices = z })) (append_assoc xs (y ∷ []) ys))

-- items with what they join
with_joins : {X Y : Type 0} (P : Y → Type 0) (spell : Y → Tokens) (join : X → Y → X) (F : X → Before → Post → Type 0) → ((y : Y) → P y → Joins spell join F y)
    → List ((y : Y) × P y) → List ((y : Y) × Joins spell join F y)
with_joins P spell join F h [] = []
with_joins P spell join F h (y ∷ ys) = (y.0, h y.0 y.1) ∷ with_joins P spell join F h ys

with_joins-firsts : {X Y : Type 0} (P : Y → Type 0) (spell : Y → Tokens) (join : X → Y → X) (F : X → Before → Post → Type 0) (h : (y : Y) → P y → Joins spell join F y) (ys : List ((y : Y) × P y))
    → map (λ y. y.0) (with_joins P spell join F h ys) ≡ map (λ y. y.0) ys
unfolding with_joins
with_joins-firsts P spell join F h [] = refl
with_joins-firsts P spell join F h (y ∷ ys) = ap (λ z. y.0 ∷ z) (with_joins-firsts P spell join F h ys)

-- a chain whose items are all read
chain_of : {X Y : Type 0} (P : Y → Type 0) (spell : Y → Tokens) (join : X → Y → X) (F : X → Before → Post → Type 0) (h : (y : Y) → P y → Joins spell join F y)
    (fs : List OpenBracket) (st : ExprState) (ys : List ((y : Y) × P y)) (x : X) (ts : Tokens) → Reads fs st ts (F x) → Reads fs st (ts ++ flat_map spell (map (λ y. y.0) ys)) (F (joined join x (map (λ y. y.0) ys)))
chain_of {X} {Y} P spell join F h fs st ys x ts r = subst (λ (zs : List Y). Reads fs st (ts ++ flat_map spell zs) (F (joined join x zs))) (with_joins-firsts P spell join F h ys)
    (chain_reads spell join F fs st (with_joins P spell join F h ys) x ts r)

post_reads : (x : (x : Atom) × AtomReads x) (es : List SuchExpr) → PostReads (roll-Post (record { atom = x.0; indices = exprs es }))
post_reads x es fs b = rw post-rolled (weaken fs _ _ _ _ (λ c q g. (g.0, g.1 ∙ post-joined x.0 [] (exprs es)))
    (chain_of ExprReads index_tokens with_index (PostFact b) (index-joins b) fs (o.Operand b) es (bare x.0) (atom x.0) (x.1 fs b)))

unary_fact : (b c : Before) (p q : Post) (op : Option UnaryOp) → b.sign ≡ op → c ≡ b → q ≡ p → UnaryFact b (term_of b.term (roll-Unary (record { op = op; post = p }))) c q
unfolding whole_term
unary_fact b c p q op sg e is = (
  record { ors = ap (λ (z : Before). z.ors) e; ands = ap (λ (z : Before). z.ands) e; left = ap (λ (z : Before). z.left) e; sum = ap (λ (z : Before). z.sum) e },
  rw (e, is, sg) refl,
)

prefixed : (fs : List OpenBracket) (st q : ExprState) (token : Token) (us : Tokens) (F : Before → Post → Type 0) → step fs st token ≡ Stay fs q → Reads fs q us F → Reads fs st (token ∷ us) F
prefixed fs st q token us F e r = record { last = r.last; before = r.before; post = r.post; run = steps token us fs fs st q _ e r.run; at_end = r.at_end; fact = r.fact }

minus_step : (fs : List OpenBracket) (b : Before) → b.sign ≡ None → step fs (o.Operand b) (t.Symbol s.Minus) ≡ Stay fs (o.Operand (record b { sign = Some sign.Minus }))
unfolding step
minus_step fs b e = ap (λ (z : Option UnaryOp). act fs (t.Symbol s.Minus) (signed b sign.Minus z)) e

not_step : (fs : List OpenBracket) (b : Before) → b.sign ≡ None → step fs (o.Operand b) (t.Keyword w.Not) ≡ Stay fs (o.Operand (record b { sign = Some sign.Not }))
unfolding step
not_step fs b e = ap (λ (z : Option UnaryOp). act fs (t.Keyword w.Not) (signed b sign.Not z)) e

signed_fact : (b c : Before) (p q : Post) (op : UnaryOp) → c ≡ record b { sign = Some op } → q ≡ p → UnaryFact b (term_of b.term (roll-Unary (record { op = Some op; post = p }))) c q
signed_fact b c p q op e is = let g = unary_fact (record b { sign = Some op }) c p q (Some op) refl e is in
    (record { ors = g.0.ors; ands = g.0.ands; left = g.0.left; sum = g.0.sum }, g.1)

unary_reads : (op : Option UnaryOp) (p : (p : Post) × PostReads p) → UnaryReads (roll-Unary (record { op = op; post = p.0 }))
unary_reads None p fs b e = rw unary-rolled (weaken fs _ _ _ _ (λ c q g. unary_fact b c p.0 q None e g.0 g.1) (p.1 fs b))
unary_reads (Some sign.Minus) p fs b e = rw unary-rolled (prefixed fs _ _ _ _ _ (minus_step fs b e)
    (weaken fs _ _ _ _ (λ c q g. signed_fact b c p.0 q sign.Minus g.0 g.1) (p.1 fs (record b { sign = Some sign.Minus }))))
unary_reads (Some sign.Not) p fs b e = rw unary-rolled (prefixed fs _ _ _ _ _ (not_step fs b e)
    (weaken fs _ _ _ _ (λ c q g. signed_fact b c p.0 q sign.Not g.0 g.1) (p.1 fs (record b { sign = Some sign.Not }))))

term_fact : (b c : Before) (q : Post) (x : Term) → UnaryFact b x c q → TermFact b (sum_of b.sum x) c q
unfolding whole_sum
term_fact b c q x g = (record { ors = g.0.ors; ands = g.0.ands; left = g.0.left }, rw (g.1, g.0.sum) refl)

term_reads : (x : (x : Unary) × UnaryReads x) (ys : List ((y : Factor) × FactorReads y)) → TermReads (roll-Term (record { first = x.0; others = map (λ y. y.0) ys }))
term_reads x ys fs b e1 e2 = rw term-rolled (weaken fs _ _ _ _ (λ c q g. term_fact b c q _ (g.0, g.1 ∙ term-joined x.0 [] (map (λ y. y.0) ys)))
    (chain_of FactorReads factor factor_join (UnaryFact b) (factor-joins b) fs (o.Operand b) ys (roll-Term (record { first = x.0; others = [] })) (unary x.0)
    (weaken fs _ _ _ _ (λ c q g. (g.0, g.1 ∙ ap (λ (z : Option (Term × TermOp)). term_of z x.0) e2)) (x.1 fs b e1))))

sum_fact : (b c : Before) (q : Post) (x : Sum) → TermFact b x c q → SumFact b (comp_of b.left x) c q
unfolding whole_comp
sum_fact b c q x g = (record { ors = g.0.ors; ands = g.0.ands }, rw (g.1, g.0.left) refl)

sum_reads : (x : (x : Term) × TermReads x) (ys : List ((y : Added) × AddedReads y)) → SumReads (roll-Sum (record { first = x.0; others = map (λ y. y.0) ys }))
sum_reads x ys fs b e1 e2 e3 = rw sum-rolled (weaken fs _ _ _ _ (λ c q g. (g.0, g.1 ∙ sum-joined x.0 [] (map (λ y. y.0) ys)))
    (chain_of AddedReads added added_join (TermFact b) (added-joins b) fs (o.Operand b) ys (roll-Sum (record { first = x.0; others = [] })) (term x.0)
    (weaken fs _ _ _ _ (λ c q g. (g.0, g.1 ∙ ap (λ (z : Option (Sum × SumOp)). sum_of z x.0) e3)) (x.1 fs b e1 e2))))

comp_fact : (b c : Before) (q : Post) (x : Comp) → SumFact b x c q → CompFact b (conj_of b.ands x) c q
unfolding whole_conj
comp_fact b c q x g = (record { ors = g.0.ors }, rw (g.1, g.0.ands) refl)

conj_fact : (b c : Before) (q : Post) (x : Conj) → CompFact b x c q → ConjFact (expr_of b.ors x) c q
unfolding whole_expr
conj_fact b c q x g = rw (g.1, g.0.ors) refl

comp_none_reads : (x : (x : Sum) × SumReads x) → CompReads (roll-Comp (record { left = x.0; test = None }))
comp_none_reads x fs b e1 e2 e3 e4 = rw (comp-none x.0) (weaken fs _ _ _ _
    (λ c q g. let h = sum_fact b c q x.0 g in comp_fact b c q _ (h.0, h.1 ∙ ap (λ (z : Option (Sum × CompareOp)). comp_of z x.0) e4)) (x.1 fs b e1 e2 e3))

compared_goes : (c : Before) (q : Post) (op : CompareOp) → c.left ≡ None
    → after c q (Compares op) ≡ To (o.Operand (record { ors = c.ors; ands = c.ands; left = Some (whole_sum c q, op); sum = None; term = None; sign = None }))
compared_goes c q op e = ap (λ (z : Option (Sum × CompareOp)). compared_move c q op z) e

comp_some_reads : (x : (x : Sum) × SumReads x) (y : (y : Compared) × ComparedReads y) → CompReads (roll-Comp (record { left = x.0; test = Some y.0 }))
comp_some_reads x y fs b e1 e2 e3 e4 =
    let op = (out-Compared y.0).op in
    let u = (out-Compared y.0).right in
    let r = x.1 fs b e1 e2 e3 in
    let c : Before = record { ors = r.before.ors; ands = r.before.ands; left = Some (whole_sum r.before r.post, op); sum = None; term = None; sign = None } in
    rw (comp-some x.0 y.0)
    (subst (λ (z : Tokens). Reads fs (o.Operand b) (sum x.0 ++ z) (CompFact b (conj_of b.ands (roll-Comp (record { left = x.0; test = Some y.0 }))))) (sym (compared-rolled _) ∙ ap compared (roll-out-Compared y.0))
    (behind_reads fs (o.Operand b) (sum x.0) (sum u) (t.Symbol (compare_symbol op)) (Compares op) c _ _ _ r (compare-plain op) (compare-behind op)
    (compared_goes r.before r.post op (r.fact.0.left ∙ e4)) (y.1 fs c refl refl refl)
    (λ d q g. let h = sum_fact c d q u g in
    comp_fact b d q _ (
      record { ors = h.0.ors ∙ r.fact.0.ors; ands = h.0.ands ∙ r.fact.0.ands },
      h.1 ∙ (ap (λ (z : Sum). comp_of (Some (z, op)) u) r.fact.1 ∙ ap (λ (z : Compared). roll-Comp (record { left = x.0; test = Some z })) (roll-out-Compared y.0)),
    ))))

conj_reads : (x : (x : Comp) × CompReads x) (ys : List ((y : Comp) × CompReads y)) → ConjReads (roll-Conj (record { first = x.0; others = map (λ y. y.0) ys }))
conj_reads x ys fs b e1 e2 e3 e4 e5 = rw conj-rolled (weaken fs _ _ _ _ (λ c q g. conj_fact b c q _ (g.0, g.1 ∙ conj-joined x.0 [] (map (λ y. y.0) ys)))
    (chain_of CompReads (λ c. t.Keyword w.And ∷ comp c) comp_join (CompFact b) (comp-joins b) fs (o.Operand b) ys (roll-Conj (record { first = x.0; others = [] })) (comp x.0)
    (weaken fs _ _ _ _ (λ c q g. (g.0, g.1 ∙ ap (λ (z : Option Conj). conj_of z x.0) e5)) (x.1 fs b e1 e2 e3 e4))))

expr_reads : (x : (x : Conj) × ConjReads x) (ys : List ((y : Conj) × ConjReads y)) → ExprReads (roll-Expr (record { first = x.0; others = map (λ y. y.0) ys }))
expr_reads x ys fs = rw expr-rolled (weaken fs _ _ _ _ (λ c q g. g ∙ expr-joined x.0 [] (map (λ y. y.0) ys))
    (chain_of ConjReads (λ c. t.Keyword w.Or ∷ conj c) conj_join ConjFact conj-joins fs (o.Operand nothing_before) ys (roll-Expr (record { first = x.0; others = [] })) (conj x.0)
    (x.1 fs nothing_before refl refl refl refl refl)))

-- ---- every tree

abbrev AtomLayer : Type 0
AtomLayer = Atom-F ((x : Atom) × AtomReads x) ((x : Added) × AddedReads x) ((x : CallExpr) × CallReads x) ((x : Comp) × CompReads x) ((x : Compared) × ComparedReads x) ((x : Conj) × ConjReads x) ((x : Expr) × ExprReads x) ((x : Factor) × FactorReads x) ((x : Post) × PostReads x) ((x : Sum) × SumReads x) ((x : Term) × TermReads x) ((x : Unary) × UnaryReads x)

abbrev CompLayer : Type 0
CompLayer = Comp-F ((x : Atom) × AtomReads x) ((x : Added) × AddedReads x) ((x : CallExpr) × CallReads x) ((x : Comp) × CompReads x) ((x : Compared) × ComparedReads x) ((x : Conj) × ConjReads x) ((x : Expr) × ExprReads x) ((x : Factor) × FactorReads x) ((x : Post) × PostReads x) ((x : Sum) × SumReads x) ((x : Term) × TermReads x) ((x : Unary) × UnaryReads x)

abbrev first_of_atom : AtomLayer → Atom-F Atom Added CallExpr Comp Compared Conj Expr Factor Post Sum Term Unary
first_of_atom = map-Atom ((x : Atom) × AtomReads x) ((x : Added) × AddedReads x) ((x : CallExpr) × CallReads x) ((x : Comp) × CompReads x) ((x : Compared) × ComparedReads x) ((x : Conj) × ConjReads x) ((x : Expr) × ExprReads x) ((x : Factor) × FactorReads x) ((x : Post) × PostReads x) ((x : Sum) × SumReads x) ((x : Term) × TermReads x) ((x : Unary) × UnaryReads x) Atom Added CallExpr Comp Compared Conj Expr Factor Post Sum Term Unary (λ e. e.0) (λ e. e.0) (λ e. e.0) (λ e. e.0) (λ e. e.0) (λ e. e.0) (λ e. e.0) (λ e. e.0) (λ e. e.0) (λ e. e.0) (λ e. e.0) (λ e. e.0)

abbrev first_of_comp : CompLayer → Comp-F Atom Added CallExpr Comp Compared Conj Expr Factor Post Sum Term Unary
first_of_comp = map-Comp ((x : Atom) × AtomReads x) ((x : Added) × AddedReads x) ((x : CallExpr) × CallReads x) ((x : Comp) × CompReads x) ((x : Compared) × ComparedReads x) ((x : Conj) × ConjReads x) ((x : Expr) × ExprReads x) ((x : Factor) × FactorReads x) ((x : Post) × PostReads x) ((x : Sum) × SumReads x) ((x : Term) × TermReads x) ((x : Unary) × UnaryReads x) Atom Added CallExpr Comp Compared Conj Expr Factor Post Sum Term Unary (λ e. e.0) (λ e. e.0) (λ e. e.0) (λ e. e.0) (λ e. e.0) (λ e. e.0) (λ e. e.0) (λ e. e.0) (λ e. e.0) (λ e. e.0) (λ e. e.0) (λ e. e.0)

atom_step : (y : AtomLayer) → AtomReads (roll-Atom (first_of_atom y))
atom_step (Atom-F.Number n) = subst AtomReads (sym (a.rolls-Number n)) (number_reads n)
atom_step (Atom-F.Text x) = subst AtomReads (sym (a.rolls-Text x)) (text_reads x)
atom_step Atom-F.Nothing = subst AtomReads (sym a.rolls-Nothing) nothing_reads
atom_step (Atom-F.Variable x) = subst AtomReads (sym (a.rolls-Variable x)) (variable_reads x)
atom_step (Atom-F.BuiltIn x es) = subst AtomReads (sym (a.rolls-BuiltIn x (exprs es))) (built_in_reads x es)
atom_step (Atom-F.Call c) = subst AtomReads (sym (a.rolls-Call c.0)) (call_reads c)
atom_step (Atom-F.Paren e) = subst AtomReads (sym (a.rolls-Paren e.0)) (paren_reads e)
atom_step (Atom-F.List es) = subst AtomReads (sym (a.rolls-List (exprs es))) (list_reads es)

comp_step_of : (x : (x : Sum) × SumReads x) (y : Option ((y : Compared) × ComparedReads y)) → CompReads (roll-Comp (first_of_comp (record { left = x; test = y })))
comp_step_of x None = comp_none_reads x
comp_step_of x (Some y) = comp_some_reads x y

pub exprs_read : (x : Expr) → ExprReads x
exprs_read x = ind-Expr AtomReads AddedReads CallReads CompReads ComparedReads ConjReads ExprReads FactorReads PostReads SumReads TermReads UnaryReads
    (λ x y is. subst (λ z. AtomReads (roll-Atom z)) is (atom_step y))
    (λ x y is. subst (λ z. AddedReads (roll-Added z)) is (rw out-roll-Added (y.term.1)))
    (λ x y is. subst (λ z. CallReads (roll-CallExpr z)) is (call_list_reads y.app y.arguments y.names))
    (λ x y is. subst (λ z. CompReads (roll-Comp z)) is (comp_step_of y.left y.test))
    (λ x y is. subst (λ z. ComparedReads (roll-Compared z)) is (rw out-roll-Compared (y.right.1)))
    (λ x y is. subst (λ z. ConjReads (roll-Conj z)) is (conj_reads y.first y.others))
    (λ x y is. subst (λ z. ExprReads (roll-Expr z)) is (expr_reads y.first y.others))
    (λ x y is. subst (λ z. FactorReads (roll-Factor z)) is (rw out-roll-Factor (y.unary.1)))
    (λ x y is. subst (λ z. PostReads (roll-Post z)) is (post_reads y.atom y.indices))
    (λ x y is. subst (λ z. SumReads (roll-Sum z)) is (sum_reads y.first y.others))
    (λ x y is. subst (λ z. TermReads (roll-Term z)) is (term_reads y.first y.others))
    (λ x y is. subst (λ z. UnaryReads (roll-Unary z)) is (unary_reads y.op y.post)) x
