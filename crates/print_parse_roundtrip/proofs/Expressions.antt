-- The canonical text of an expression is read as its tokens.
use Rattle.std.proofs.Common.{◌≡◌, false, List, [], ◌∷◌, ◌++◌, map, refl, sym, ap, subst, codes, Option, Some, None, append_assoc}
use Rattle.std.specs.Prelude.{ℤ}
use Rattle.std.specs.List.{flat_map}
use Rattle.std.proofs.lemmas.List.Elements.{All-head}
use Rattle.script_tree.specs.declared.token.Token.TheVariants as t
use Rattle.script_tree.specs.declared.token.Keyword.TheVariants as w
use Rattle.script_tree.specs.declared.token.Symbol.{Symbol}
use Rattle.script_tree.specs.declared.token.Symbol.TheVariants as s
use Rattle.script_tree.specs.declared.tree.SumOp.{SumOp}
use Rattle.script_tree.specs.declared.tree.SumOp.TheVariants as plus
use Rattle.script_tree.specs.declared.tree.TermOp.{TermOp}
use Rattle.script_tree.specs.declared.tree.TermOp.TheVariants as times
use Rattle.script_tree.specs.declared.tree.CompareOp.{CompareOp}
use Rattle.script_tree.specs.declared.tree.CompareOp.TheVariants as by
use Rattle.script_tree.specs.declared.tree.UnaryOp.{UnaryOp}
use Rattle.script_tree.specs.declared.tree.UnaryOp.TheVariants as sign
use Rattle.script_tree.specs.declared.tree.Atom.TheOpen.{Atom-F, Added-F, CallExpr-F, Comp-F, Compared-F, Conj-F, Expr-F, Factor-F, Post-F, Sum-F, Term-F, Unary-F}
use Rattle.script_tree.specs.declared.tree.Atom.TheFolds.{map-Atom, map-Comp}
use Rattle.script_tree.specs.declared.tree.Atom.{Atom, roll-Atom}
use Rattle.script_tree.specs.declared.tree.Added.{Added, roll-Added}
use Rattle.script_tree.specs.declared.tree.CallExpr.{CallExpr, roll-CallExpr, ind-CallExpr}
use Rattle.script_tree.specs.declared.tree.Comp.{Comp, roll-Comp}
use Rattle.script_tree.specs.declared.tree.Compared.{Compared, roll-Compared}
use Rattle.script_tree.specs.declared.tree.Conj.{Conj, roll-Conj}
use Rattle.script_tree.specs.declared.tree.Expr.{Expr, roll-Expr, ind-Expr}
use Rattle.script_tree.specs.declared.tree.Factor.{Factor, roll-Factor}
use Rattle.script_tree.specs.declared.tree.Post.{Post, roll-Post}
use Rattle.script_tree.specs.declared.tree.Sum.{Sum, roll-Sum}
use Rattle.script_tree.specs.declared.tree.Term.{Term, roll-Term}
use Rattle.script_tree.specs.declared.tree.Unary.{Unary, roll-Unary}
use Rattle.script_tree.specs.Folds.{fold_atom, fold_added, fold_call, fold_comp, fold_compared, fold_conj, fold_expr, fold_factor, fold_post, fold_sum, fold_term, fold_unary}
use Rattle.script_tree.specs.Lexing.{Text}
use Rattle.script_tree.specs.Canonical.{expr_text}
use Rattle.script_tree.specs.Canonical as canonical
use Rattle.script_tree.specs.Spelling.{Tokens, expr_tokens}
use Rattle.script_tree.specs.Spelling as spelling
use Rattle.print_parse_roundtrip.specs.Lexes.{Lexes, IsToken, IsNumber, AreTokens, goes_on, symbol_text, grows}
use Rattle.print_parse_roundtrip.proofs.Pieces.{behind_blank, with_number, with_symbol}
use Rattle.script_tree.proofs.Rolls.{in_atom, atom-rolled, added-rolled, call-rolled, comp-rolled, compared-rolled, conj-rolled, expr-rolled, factor-rolled, post-rolled, sum-rolled, term-rolled, unary-rolled}
use Rattle.print_parse_roundtrip.proofs.Parts.{Whole, Reads, Part, Closing, whole_reads, closing_part, then_whole, then_reads, then_part, then_closing, parts, closing_reads, closing_whole, no_whole, no_part, name_reads, text_reads, word_reads, word_blank, blank}

-- ---- symbols

-- a symbol that stays as it is before each text
symbol_whole : (k : Symbol) → ((rest : Text) → grows k rest ≡ false) → Whole (symbol_text k) (t.Symbol k ∷ [])
symbol_whole k h = record { at = λ valid rest us more. with_symbol k rest us (h rest) more }

-- the same where its text isn't a name's
symbol_closing : (k : Symbol) → ((rest : Text) → grows k rest ≡ false) → ((rest : Text) → goes_on (symbol_text k ++ rest) ≡ false) → Closing (symbol_text k) (t.Symbol k ∷ [])
symbol_closing k h e = record { ends = e; whole = symbol_whole k h }

pub open_paren : Closing (codes "(") (t.Symbol s.OpenParen ∷ [])
open_paren = symbol_closing s.OpenParen (λ rest. refl) (λ rest. refl)

pub close_paren : Closing (codes ")") (t.Symbol s.CloseParen ∷ [])
close_paren = symbol_closing s.CloseParen (λ rest. refl) (λ rest. refl)

pub open_list : Closing (codes "[") (t.Symbol s.OpenList ∷ [])
open_list = symbol_closing s.OpenList (λ rest. refl) (λ rest. refl)

pub close_list : Closing (codes "]") (t.Symbol s.CloseList ∷ [])
close_list = symbol_closing s.CloseList (λ rest. refl) (λ rest. refl)

pub open_block : Closing (codes "{") (t.Symbol s.OpenBlock ∷ [])
open_block = symbol_closing s.OpenBlock (λ rest. refl) (λ rest. refl)

pub close_block : Closing (codes "}") (t.Symbol s.CloseBlock ∷ [])
close_block = symbol_closing s.CloseBlock (λ rest. refl) (λ rest. refl)

pub semicolon : Closing (codes ";") (t.Symbol s.Semicolon ∷ [])
semicolon = symbol_closing s.Semicolon (λ rest. refl) (λ rest. refl)

minus : Whole (codes "-") (t.Symbol s.Minus ∷ [])
minus = symbol_whole s.Minus (λ rest. refl)

-- a comma with the blank behind it
pub comma : Closing (codes ", ") (t.Symbol s.Comma ∷ [])
comma = closing_whole (symbol_closing s.Comma (λ rest. refl) (λ rest. refl)) blank.whole

-- a symbol between blanks
pub spaced : (k : Symbol) → ((rest : Text) → grows k (32 ∷ rest) ≡ false) → Closing (codes " " ++ (symbol_text k ++ codes " ")) (t.Symbol k ∷ [])
spaced k h = record {
  ends = λ rest. refl;
  whole = then_whole blank.whole (record { at = λ valid rest us more. behind rest us more });
}
  where
    behind : (rest : Text) (us : Tokens) → Lexes rest us → Lexes ((symbol_text k ++ codes " ") ++ rest) (t.Symbol k ∷ us)
    behind rest us more = subst (λ (z : Text). Lexes z (t.Symbol k ∷ us)) (sym (append_assoc (symbol_text k) (codes " ") rest)) (with_symbol k (32 ∷ rest) us (h rest) (behind_blank 32 rest us refl more))

sum_spaced : (op : SumOp) → Closing (canonical.sum_text op) (t.Symbol (spelling.sum_symbol op) ∷ [])
sum_spaced plus.Plus = spaced s.Plus (λ rest. refl)
sum_spaced plus.Minus = spaced s.Minus (λ rest. refl)

term_spaced : (op : TermOp) → Closing (canonical.term_text op) (t.Symbol (spelling.term_symbol op) ∷ [])
term_spaced times.Times = spaced s.Times (λ rest. refl)
term_spaced times.Over = spaced s.Over (λ rest. refl)
term_spaced times.Rest = spaced s.Rest (λ rest. refl)

compare_spaced : (op : CompareOp) → Closing (canonical.compare_text op) (t.Symbol (spelling.compare_symbol op) ∷ [])
compare_spaced by.Equal = spaced s.Equal (λ rest. refl)
compare_spaced by.Differ = spaced s.Differ (λ rest. refl)
compare_spaced by.Less = spaced s.Less (λ rest. refl)
compare_spaced by.AtMost = spaced s.AtMost (λ rest. refl)
compare_spaced by.Greater = spaced s.Greater (λ rest. refl)
compare_spaced by.AtLeast = spaced s.AtLeast (λ rest. refl)

-- ---- numbers, signs and lists

pub number_reads : (n : ℤ) → Reads (canonical.number_text n) (t.Number n ∷ [])
number_reads n = record { at = λ valid rest us ends more. read (All-head IsToken (t.Number n) [] valid) rest us ends more }
  where
    read : IsNumber n → (rest : Text) (us : Tokens) → goes_on rest ≡ false → Lexes rest us → Lexes (canonical.number_text n ++ rest) (t.Number n ∷ us)
    read r rest us ends more = subst (λ (z : ℤ). Lexes (canonical.number_text z ++ rest) (t.Number z ∷ us)) (sym r.is) (with_number r.value rest us r.small ends more)

sign_whole : (op : Option UnaryOp) → Whole (canonical.sign_part op) (spelling.sign_part op)
sign_whole None = no_whole
sign_whole (Some sign.Minus) = minus
sign_whole (Some sign.Not) = word_blank w.Not

-- items one after another, each of which ends what stands before it
pub flat_part : {A B C : Type 0} (P : A → Type 0) (v : A → B) (u : A → C) (f : B → Text) (g : C → Tokens) → ((a : A) → P a → Part (f (v a)) (g (u a)))
    → (xs : List ((a : A) × P a)) → Part (flat_map f (map v (map (λ y. y.0) xs))) (flat_map g (map u (map (λ y. y.0) xs)))
flat_part P v u f g h [] = no_part
flat_part P v u f g h (x ∷ xs) = parts (h x.0 x.1) (flat_part P v u f g h xs)

-- with commas between them
listed_reads : {A : Type 0} (P : A → Type 0) (v : A → Text) (u : A → Tokens) → ((a : A) → P a → Reads (v a) (u a))
    → (xs : List ((a : A) × P a)) → Reads (canonical.listed (map v (map (λ y. y.0) xs))) (spelling.listed (map u (map (λ y. y.0) xs)))
listed_reads P v u h [] = whole_reads no_whole
listed_reads P v u h (x ∷ xs) = then_part (h x.0 x.1) (flat_part P v u (λ f. codes ", " ++ f) (λ f. t.Symbol s.Comma ∷ f) (λ a p. closing_reads comma (h a p)) xs)

pub in_parens : {x : Text} {ts : Tokens} → Reads x ts → Closing (canonical.in_parens x) (spelling.in_parens ts)
in_parens a = closing_whole open_paren (then_closing a close_paren)

in_list : {x : Text} {ts : Tokens} → Reads x ts → Closing (codes "[" ++ (x ++ codes "]")) (t.Symbol s.OpenList ∷ ts ++ spelling.symbol s.CloseList)
in_list a = closing_whole open_list (then_closing a close_list)

-- ---- the classes

abbrev AtomReads : Atom → Type 0
AtomReads x = Reads (fold_atom expr_text x) (fold_atom expr_tokens x)

abbrev CallExprReads : CallExpr → Type 0
CallExprReads x = Reads (fold_call expr_text x) (fold_call expr_tokens x)

abbrev CompReads : Comp → Type 0
CompReads x = Reads (fold_comp expr_text x) (fold_comp expr_tokens x)

abbrev ConjReads : Conj → Type 0
ConjReads x = Reads (fold_conj expr_text x) (fold_conj expr_tokens x)

abbrev ExprReads : Expr → Type 0
ExprReads x = Reads (fold_expr expr_text x) (fold_expr expr_tokens x)

abbrev PostReads : Post → Type 0
PostReads x = Reads (fold_post expr_text x) (fold_post expr_tokens x)

abbrev SumReads : Sum → Type 0
SumReads x = Reads (fold_sum expr_text x) (fold_sum expr_tokens x)

abbrev TermReads : Term → Type 0
TermReads x = Reads (fold_term expr_text x) (fold_term expr_tokens x)

abbrev UnaryReads : Unary → Type 0
UnaryReads x = Reads (fold_unary expr_text x) (fold_unary expr_tokens x)

abbrev AddedReads : Added → Type 0
AddedReads x = Part (canonical.sum_text (fold_added expr_text x).0 ++ (fold_added expr_text x).1) (t.Symbol (spelling.sum_symbol (fold_added expr_tokens x).0) ∷ (fold_added expr_tokens x).1)

abbrev FactorReads : Factor → Type 0
FactorReads x = Part (canonical.term_text (fold_factor expr_text x).0 ++ (fold_factor expr_text x).1) (t.Symbol (spelling.term_symbol (fold_factor expr_tokens x).0) ∷ (fold_factor expr_tokens x).1)

abbrev ComparedReads : Compared → Type 0
ComparedReads x = Part (canonical.compare_text (fold_compared expr_text x).0 ++ (fold_compared expr_text x).1) (t.Symbol (spelling.compare_symbol (fold_compared expr_tokens x).0) ∷ (fold_compared expr_tokens x).1)

abbrev AtomLayer : Type 0
AtomLayer = Atom-F ((x : Atom) × AtomReads x) ((x : Added) × AddedReads x) ((x : CallExpr) × CallExprReads x) ((x : Comp) × CompReads x) ((x : Compared) × ComparedReads x) ((x : Conj) × ConjReads x) ((x : Expr) × ExprReads x) ((x : Factor) × FactorReads x) ((x : Post) × PostReads x) ((x : Sum) × SumReads x) ((x : Term) × TermReads x) ((x : Unary) × UnaryReads x)

abbrev AddedLayer : Type 0
AddedLayer = Added-F ((x : Atom) × AtomReads x) ((x : Added) × AddedReads x) ((x : CallExpr) × CallExprReads x) ((x : Comp) × CompReads x) ((x : Compared) × ComparedReads x) ((x : Conj) × ConjReads x) ((x : Expr) × ExprReads x) ((x : Factor) × FactorReads x) ((x : Post) × PostReads x) ((x : Sum) × SumReads x) ((x : Term) × TermReads x) ((x : Unary) × UnaryReads x)

abbrev CallExprLayer : Type 0
CallExprLayer = CallExpr-F ((x : Atom) × AtomReads x) ((x : Added) × AddedReads x) ((x : CallExpr) × CallExprReads x) ((x : Comp) × CompReads x) ((x : Compared) × ComparedReads x) ((x : Conj) × ConjReads x) ((x : Expr) × ExprReads x) ((x : Factor) × FactorReads x) ((x : Post) × PostReads x) ((x : Sum) × SumReads x) ((x : Term) × TermReads x) ((x : Unary) × UnaryReads x)

abbrev CompLayer : Type 0
CompLayer = Comp-F ((x : Atom) × AtomReads x) ((x : Added) × AddedReads x) ((x : CallExpr) × CallExprReads x) ((x : Comp) × CompReads x) ((x : Compared) × ComparedReads x) ((x : Conj) × ConjReads x) ((x : Expr) × ExprReads x) ((x : Factor) × FactorReads x) ((x : Post) × PostReads x) ((x : Sum) × SumReads x) ((x : Term) × TermReads x) ((x : Unary) × UnaryReads x)

abbrev ComparedLayer : Type 0
ComparedLayer = Compared-F ((x : Atom) × AtomReads x) ((x : Added) × AddedReads x) ((x : CallExpr) × CallExprReads x) ((x : Comp) × CompReads x) ((x : Compared) × ComparedReads x) ((x : Conj) × ConjReads x) ((x : Expr) × ExprReads x) ((x : Factor) × FactorReads x) ((x : Post) × PostReads x) ((x : Sum) × SumReads x) ((x : Term) × TermReads x) ((x : Unary) × UnaryReads x)

abbrev ConjLayer : Type 0
ConjLayer = Conj-F ((x : Atom) × AtomReads x) ((x : Added) × AddedReads x) ((x : CallExpr) × CallExprReads x) ((x : Comp) × CompReads x) ((x : Compared) × ComparedReads x) ((x : Conj) × ConjReads x) ((x : Expr) × ExprReads x) ((x : Factor) × FactorReads x) ((x : Post) × PostReads x) ((x : Sum) × SumReads x) ((x : Term) × TermReads x) ((x : Unary) × UnaryReads x)

abbrev ExprLayer : Type 0
ExprLayer = Expr-F ((x : Atom) × AtomReads x) ((x : Added) × AddedReads x) ((x : CallExpr) × CallExprReads x) ((x : Comp) × CompReads x) ((x : Compared) × ComparedReads x) ((x : Conj) × ConjReads x) ((x : Expr) × ExprReads x) ((x : Factor) × FactorReads x) ((x : Post) × PostReads x) ((x : Sum) × SumReads x) ((x : Term) × TermReads x) ((x : Unary) × UnaryReads x)

abbrev FactorLayer : Type 0
FactorLayer = Factor-F ((x : Atom) × AtomReads x) ((x : Added) × AddedReads x) ((x : CallExpr) × CallExprReads x) ((x : Comp) × CompReads x) ((x : Compared) × ComparedReads x) ((x : Conj) × ConjReads x) ((x : Expr) × ExprReads x) ((x : Factor) × FactorReads x) ((x : Post) × PostReads x) ((x : Sum) × SumReads x) ((x : Term) × TermReads x) ((x : Unary) × UnaryReads x)

abbrev PostLayer : Type 0
PostLayer = Post-F ((x : Atom) × AtomReads x) ((x : Added) × AddedReads x) ((x : CallExpr) × CallExprReads x) ((x : Comp) × CompReads x) ((x : Compared) × ComparedReads x) ((x : Conj) × ConjReads x) ((x : Expr) × ExprReads x) ((x : Factor) × FactorReads x) ((x : Post) × PostReads x) ((x : Sum) × SumReads x) ((x : Term) × TermReads x) ((x : Unary) × UnaryReads x)

abbrev SumLayer : Type 0
SumLayer = Sum-F ((x : Atom) × AtomReads x) ((x : Added) × AddedReads x) ((x : CallExpr) × CallExprReads x) ((x : Comp) × CompReads x) ((x : Compared) × ComparedReads x) ((x : Conj) × ConjReads x) ((x : Expr) × ExprReads x) ((x : Factor) × FactorReads x) ((x : Post) × PostReads x) ((x : Sum) × SumReads x) ((x : Term) × TermReads x) ((x : Unary) × UnaryReads x)

abbrev TermLayer : Type 0
TermLayer = Term-F ((x : Atom) × AtomReads x) ((x : Added) × AddedReads x) ((x : CallExpr) × CallExprReads x) ((x : Comp) × CompReads x) ((x : Compared) × ComparedReads x) ((x : Conj) × ConjReads x) ((x : Expr) × ExprReads x) ((x : Factor) × FactorReads x) ((x : Post) × PostReads x) ((x : Sum) × SumReads x) ((x : Term) × TermReads x) ((x : Unary) × UnaryReads x)

abbrev UnaryLayer : Type 0
UnaryLayer = Unary-F ((x : Atom) × AtomReads x) ((x : Added) × AddedReads x) ((x : CallExpr) × CallExprReads x) ((x : Comp) × CompReads x) ((x : Compared) × ComparedReads x) ((x : Conj) × ConjReads x) ((x : Expr) × ExprReads x) ((x : Factor) × FactorReads x) ((x : Post) × PostReads x) ((x : Sum) × SumReads x) ((x : Term) × TermReads x) ((x : Unary) × UnaryReads x)

abbrev first_of_atom : AtomLayer → Atom-F Atom Added CallExpr Comp Compared Conj Expr Factor Post Sum Term Unary
first_of_atom = map-Atom ((x : Atom) × AtomReads x) ((x : Added) × AddedReads x) ((x : CallExpr) × CallExprReads x) ((x : Comp) × CompReads x) ((x : Compared) × ComparedReads x) ((x : Conj) × ConjReads x) ((x : Expr) × ExprReads x) ((x : Factor) × FactorReads x) ((x : Post) × PostReads x) ((x : Sum) × SumReads x) ((x : Term) × TermReads x) ((x : Unary) × UnaryReads x) Atom Added CallExpr Comp Compared Conj Expr Factor Post Sum Term Unary (λ e. e.0) (λ e. e.0) (λ e. e.0) (λ e. e.0) (λ e. e.0) (λ e. e.0) (λ e. e.0) (λ e. e.0) (λ e. e.0) (λ e. e.0) (λ e. e.0) (λ e. e.0)

abbrev first_of_comp : CompLayer → Comp-F Atom Added CallExpr Comp Compared Conj Expr Factor Post Sum Term Unary
first_of_comp = map-Comp ((x : Atom) × AtomReads x) ((x : Added) × AddedReads x) ((x : CallExpr) × CallExprReads x) ((x : Comp) × CompReads x) ((x : Compared) × ComparedReads x) ((x : Conj) × ConjReads x) ((x : Expr) × ExprReads x) ((x : Factor) × FactorReads x) ((x : Post) × PostReads x) ((x : Sum) × SumReads x) ((x : Term) × TermReads x) ((x : Unary) × UnaryReads x) Atom Added CallExpr Comp Compared Conj Expr Factor Post Sum Term Unary (λ e. e.0) (λ e. e.0) (λ e. e.0) (λ e. e.0) (λ e. e.0) (λ e. e.0) (λ e. e.0) (λ e. e.0) (λ e. e.0) (λ e. e.0) (λ e. e.0) (λ e. e.0)

moved : (x y : Text) (ts us : Tokens) → x ≡ y → ts ≡ us → Reads y us → Reads x ts
moved x y ts us e h a = subst (λ (z : Text). Reads z ts) (sym e) (subst (λ (z : Tokens). Reads y z) (sym h) a)

moved_part : (x y : Text) (ts us : Tokens) → x ≡ y → ts ≡ us → Part y us → Part x ts
moved_part x y ts us e h a = subst (λ (z : Text). Part z ts) (sym e) (subst (λ (z : Tokens). Part y z) (sym h) a)

exprs_listed : (xs : List ((x : Expr) × ExprReads x)) → Reads (canonical.listed (map (fold_expr expr_text) (map (λ y. y.0) xs))) (spelling.listed (map (fold_expr expr_tokens) (map (λ y. y.0) xs)))
exprs_listed xs = listed_reads ExprReads (fold_expr expr_text) (fold_expr expr_tokens) (λ e r. r) xs

-- atoms by what their parts are read as
atom_of : (y : AtomLayer) → Reads (canonical.atom_text (in_atom expr_text (first_of_atom y))) (spelling.atom_tokens (in_atom expr_tokens (first_of_atom y)))
atom_of (Atom-F.Number n) = number_reads n
atom_of (Atom-F.Text x) = text_reads x
atom_of Atom-F.Nothing = word_reads w.Nothing
atom_of (Atom-F.Variable x) = name_reads x
atom_of (Atom-F.BuiltIn x es) = then_part (name_reads x) (closing_part (in_parens (exprs_listed es)))
atom_of (Atom-F.Call c) = c.1
atom_of (Atom-F.Paren e) = whole_reads (in_parens e.1).whole
atom_of (Atom-F.List es) = whole_reads (in_list (exprs_listed es)).whole

atom_step : (y : AtomLayer) → AtomReads (roll-Atom (first_of_atom y))
atom_step y = moved _ _ _ _ (atom-rolled expr_text _) (atom-rolled expr_tokens _) (atom_of y)

names_part : (xs : List ((x : Expr) × ExprReads x)) → Part (canonical.names_part (map (fold_expr expr_text) (map (λ y. y.0) xs))) (spelling.names_part (map (fold_expr expr_tokens) (map (λ y. y.0) xs)))
names_part [] = no_part
names_part (x ∷ xs) = closing_part (closing_whole (closing_whole blank (word_blank w.To)) (in_parens (exprs_listed (x ∷ xs))).whole)

call_step : (y : CallExprLayer) → CallExprReads (roll-CallExpr (record { app = y.app; arguments = map (λ e. e.0) y.arguments; names = map (λ e. e.0) y.names }))
call_step y = moved _ _ _ _ (call-rolled expr_text _) (call-rolled expr_tokens _)
    (then_reads (word_blank w.Call) (then_part (name_reads y.app) (parts (closing_part (in_parens (exprs_listed y.arguments))) (names_part y.names))))

comp_of : (left : (x : Sum) × SumReads x) (test : Option ((x : Compared) × ComparedReads x)) → CompReads (roll-Comp (first_of_comp (record { left = left; test = test })))
comp_of left None = moved _ _ _ _ (comp-rolled expr_text _) (comp-rolled expr_tokens _) (then_part left.1 no_part)
comp_of left (Some y) = moved _ _ _ _ (comp-rolled expr_text _) (comp-rolled expr_tokens _) (then_part left.1 y.1)

conj_step : (y : ConjLayer) → ConjReads (roll-Conj (record { first = y.first.0; others = map (λ e. e.0) y.others }))
conj_step y = moved _ _ _ _ (conj-rolled expr_text _) (conj-rolled expr_tokens _)
    (then_part y.first.1 (flat_part CompReads (fold_comp expr_text) (fold_comp expr_tokens) (λ f. codes " and " ++ f) (λ f. t.Keyword w.And ∷ f) (λ e r. closing_reads (closing_whole blank (word_blank w.And)) r) y.others))

expr_step : (y : ExprLayer) → ExprReads (roll-Expr (record { first = y.first.0; others = map (λ e. e.0) y.others }))
expr_step y = moved _ _ _ _ (expr-rolled expr_text _) (expr-rolled expr_tokens _)
    (then_part y.first.1 (flat_part ConjReads (fold_conj expr_text) (fold_conj expr_tokens) (λ f. codes " or " ++ f) (λ f. t.Keyword w.Or ∷ f) (λ e r. closing_reads (closing_whole blank (word_blank w.Or)) r) y.others))

post_step : (y : PostLayer) → PostReads (roll-Post (record { atom = y.atom.0; indices = map (λ e. e.0) y.indices }))
post_step y = moved _ _ _ _ (post-rolled expr_text _) (post-rolled expr_tokens _)
    (then_part y.atom.1 (flat_part ExprReads (fold_expr expr_text) (fold_expr expr_tokens) (λ f. codes "[" ++ (f ++ codes "]")) (λ f. t.Symbol s.OpenList ∷ f ++ spelling.symbol s.CloseList) (λ e r. closing_part (in_list r)) y.indices))

sum_step : (y : SumLayer) → SumReads (roll-Sum (record { first = y.first.0; others = map (λ e. e.0) y.others }))
sum_step y = moved _ _ _ _ (sum-rolled expr_text _) (sum-rolled expr_tokens _)
    (then_part y.first.1 (flat_part AddedReads (fold_added expr_text) (fold_added expr_tokens) (λ f. canonical.sum_text f.0 ++ f.1) (λ f. t.Symbol (spelling.sum_symbol f.0) ∷ f.1) (λ e r. r) y.others))

term_step : (y : TermLayer) → TermReads (roll-Term (record { first = y.first.0; others = map (λ e. e.0) y.others }))
term_step y = moved _ _ _ _ (term-rolled expr_text _) (term-rolled expr_tokens _)
    (then_part y.first.1 (flat_part FactorReads (fold_factor expr_text) (fold_factor expr_tokens) (λ f. canonical.term_text f.0 ++ f.1) (λ f. t.Symbol (spelling.term_symbol f.0) ∷ f.1) (λ e r. r) y.others))

unary_step : (y : UnaryLayer) → UnaryReads (roll-Unary (record { op = y.op; post = y.post.0 }))
unary_step y = moved _ _ _ _ (unary-rolled expr_text _) (unary-rolled expr_tokens _) (then_reads (sign_whole y.op) y.post.1)

added_step : (y : AddedLayer) → AddedReads (roll-Added (record { op = y.op; term = y.term.0 }))
added_step y = moved_part _ _ _ _ (ap (λ (z : SumOp × Text). canonical.sum_text z.0 ++ z.1) (added-rolled expr_text _)) (ap (λ (z : SumOp × Tokens). t.Symbol (spelling.sum_symbol z.0) ∷ z.1) (added-rolled expr_tokens _))
    (closing_reads (sum_spaced y.op) y.term.1)

factor_step : (y : FactorLayer) → FactorReads (roll-Factor (record { op = y.op; unary = y.unary.0 }))
factor_step y = moved_part _ _ _ _ (ap (λ (z : TermOp × Text). canonical.term_text z.0 ++ z.1) (factor-rolled expr_text _)) (ap (λ (z : TermOp × Tokens). t.Symbol (spelling.term_symbol z.0) ∷ z.1) (factor-rolled expr_tokens _))
    (closing_reads (term_spaced y.op) y.unary.1)

compared_step : (y : ComparedLayer) → ComparedReads (roll-Compared (record { op = y.op; right = y.right.0 }))
compared_step y = moved_part _ _ _ _ (ap (λ (z : CompareOp × Text). canonical.compare_text z.0 ++ z.1) (compared-rolled expr_text _)) (ap (λ (z : CompareOp × Tokens). t.Symbol (spelling.compare_symbol z.0) ∷ z.1) (compared-rolled expr_tokens _))
    (closing_reads (compare_spaced y.op) y.right.1)

-- ---- every tree

pub expr_reads : (x : Expr) → ExprReads x
expr_reads x = ind-Expr AtomReads AddedReads CallExprReads CompReads ComparedReads ConjReads ExprReads FactorReads PostReads SumReads TermReads UnaryReads
    (λ x y is. subst (λ z. AtomReads (roll-Atom z)) is (atom_step y))
    (λ x y is. subst (λ z. AddedReads (roll-Added z)) is (added_step y))
    (λ x y is. subst (λ z. CallExprReads (roll-CallExpr z)) is (call_step y))
    (λ x y is. subst (λ z. CompReads (roll-Comp z)) is (comp_of y.left y.test))
    (λ x y is. subst (λ z. ComparedReads (roll-Compared z)) is (compared_step y))
    (λ x y is. subst (λ z. ConjReads (roll-Conj z)) is (conj_step y))
    (λ x y is. subst (λ z. ExprReads (roll-Expr z)) is (expr_step y))
    (λ x y is. subst (λ z. FactorReads (roll-Factor z)) is (factor_step y))
    (λ x y is. subst (λ z. PostReads (roll-Post z)) is (post_step y))
    (λ x y is. subst (λ z. SumReads (roll-Sum z)) is (sum_step y))
    (λ x y is. subst (λ z. TermReads (roll-Term z)) is (term_step y))
    (λ x y is. subst (λ z. UnaryReads (roll-Unary z)) is (unary_step y)) x

pub call_reads : (x : CallExpr) → CallExprReads x
call_reads x = ind-CallExpr AtomReads AddedReads CallExprReads CompReads ComparedReads ConjReads ExprReads FactorReads PostReads SumReads TermReads UnaryReads
    (λ x y is. subst (λ z. AtomReads (roll-Atom z)) is (atom_step y))
    (λ x y is. subst (λ z. AddedReads (roll-Added z)) is (added_step y))
    (λ x y is. subst (λ z. CallExprReads (roll-CallExpr z)) is (call_step y))
    (λ x y is. subst (λ z. CompReads (roll-Comp z)) is (comp_of y.left y.test))
    (λ x y is. subst (λ z. ComparedReads (roll-Compared z)) is (compared_step y))
    (λ x y is. subst (λ z. ConjReads (roll-Conj z)) is (conj_step y))
    (λ x y is. subst (λ z. ExprReads (roll-Expr z)) is (expr_step y))
    (λ x y is. subst (λ z. FactorReads (roll-Factor z)) is (factor_step y))
    (λ x y is. subst (λ z. PostReads (roll-Post z)) is (post_step y))
    (λ x y is. subst (λ z. SumReads (roll-Sum z)) is (sum_step y))
    (λ x y is. subst (λ z. TermReads (roll-Term z)) is (term_step y))
    (λ x y is. subst (λ z. UnaryReads (roll-Unary z)) is (unary_step y)) x

pub with_expr : (e : Expr) (rest : Text) (ts : Tokens) → AreTokens (spelling.expr e) → goes_on rest ≡ false → Lexes rest ts → Lexes (canonical.expr e ++ rest) (spelling.expr e ++ ts)
with_expr e rest ts valid ends more = (expr_reads e).at valid rest ts ends more

pub with_call : (e : CallExpr) (rest : Text) (ts : Tokens) → AreTokens (spelling.call e) → goes_on rest ≡ false → Lexes rest ts → Lexes (canonical.call e ++ rest) (spelling.call e ++ ts)
with_call e rest ts valid ends more = (call_reads e).at valid rest ts ends more
