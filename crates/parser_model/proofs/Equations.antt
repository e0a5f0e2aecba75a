-- The tokens of each class of expressions, by its parts.
use Rattle.std.proofs.Common.{◌≡◌, ℕ, List, [], ◌∷◌, ◌++◌, map, refl, ap, ◌∙◌, sym, Option, Some, None, append-nil}
use Rattle.std.specs.Prelude.{ℤ}
use Rattle.std.specs.List.{flat_map}
use Rattle.std.proofs.lemmas.List.Folds.{flat_map-map}
use Rattle.script_tree.specs.declared.token.Token.TheVariants as t
use Rattle.script_tree.specs.declared.token.Keyword.TheVariants as w
use Rattle.script_tree.specs.declared.token.Symbol.TheVariants as s
use Rattle.script_tree.specs.declared.tree.SumOp.{SumOp}
use Rattle.script_tree.specs.declared.tree.TermOp.{TermOp}
use Rattle.script_tree.specs.declared.tree.CompareOp.{CompareOp}
use Rattle.script_tree.specs.declared.tree.Atom.TheOpen.{Added-F, CallExpr-F, Compared-F, Conj-F, Expr-F, Factor-F, Post-F, Sum-F, Term-F, Unary-F}
use Rattle.script_tree.specs.declared.tree.Atom.{Atom, fold-roll-Atom}
use Rattle.script_tree.specs.declared.tree.Atom.TheVariants as a
use Rattle.script_tree.specs.declared.tree.Added.{Added, roll-Added, fold-roll-Added}
use Rattle.script_tree.specs.declared.tree.CallExpr.{CallExpr, roll-CallExpr, fold-roll-CallExpr}
use Rattle.script_tree.specs.declared.tree.Comp.{Comp, roll-Comp, fold-roll-Comp}
use Rattle.script_tree.specs.declared.tree.Compared.{Compared, roll-Compared, fold-roll-Compared}
use Rattle.script_tree.specs.declared.tree.Conj.{Conj, roll-Conj, fold-roll-Conj}
use Rattle.script_tree.specs.declared.tree.Expr.{Expr, roll-Expr, fold-roll-Expr}
use Rattle.script_tree.specs.declared.tree.Factor.{Factor, roll-Factor, fold-roll-Factor}
use Rattle.script_tree.specs.declared.tree.Post.{Post, roll-Post, fold-roll-Post}
use Rattle.script_tree.specs.declared.tree.Sum.{Sum, roll-Sum, fold-roll-Sum}
use Rattle.script_tree.specs.declared.tree.Term.{Term, roll-Term, fold-roll-Term}
use Rattle.script_tree.specs.declared.tree.Unary.{Unary, roll-Unary, fold-roll-Unary}
use Rattle.script_tree.specs.Folds.{fold_atom, fold_added, fold_call, fold_comp, fold_compared, fold_conj, fold_expr, fold_factor, fold_post, fold_sum, fold_term, fold_unary}
use Rattle.script_tree.specs.Spelling.{Tokens, expr_tokens, symbol, word, listed, in_parens, names_part, sign_part, sum_symbol, term_symbol, compare_symbol}

unfoldable pub atom : Atom → Tokens
atom = fold_atom expr_tokens

-- sealed, so that proofs see them as they stand
unfoldable pub expr : Expr → Tokens
expr = fold_expr expr_tokens

unfoldable pub call : CallExpr → Tokens
call = fold_call expr_tokens

unfoldable pub comp : Comp → Tokens
comp = fold_comp expr_tokens

unfoldable pub conj : Conj → Tokens
conj = fold_conj expr_tokens

unfoldable pub sum : Sum → Tokens
sum = fold_sum expr_tokens

unfoldable pub term : Term → Tokens
term = fold_term expr_tokens

unfoldable pub unary : Unary → Tokens
unary = fold_unary expr_tokens

unfoldable pub post : Post → Tokens
post = fold_post expr_tokens

unfoldable pub added : Added → Tokens
added x = t.Symbol (sum_symbol (fold_added expr_tokens x).0) ∷ (fold_added expr_tokens x).1

unfoldable pub factor : Factor → Tokens
factor x = t.Symbol (term_symbol (fold_factor expr_tokens x).0) ∷ (fold_factor expr_tokens x).1

unfoldable pub compared : Compared → Tokens
compared x = t.Symbol (compare_symbol (fold_compared expr_tokens x).0) ∷ (fold_compared expr_tokens x).1

abbrev pub test : Option Compared → Tokens
test None = []
test (Some x) = compared x

pub expr-rolled : (x : Expr-F Atom Added CallExpr Comp Compared Conj Expr Factor Post Sum Term Unary) → expr (roll-Expr x) ≡ conj x.first ++ flat_map (λ c. t.Keyword w.Or ∷ conj c) x.others
unfolding expr call atom comp conj sum term unary post added factor compared fold_atom fold_added fold_call fold_comp fold_compared fold_conj fold_expr fold_factor fold_post fold_sum fold_term fold_unary
expr-rolled x = fold-roll-Expr _ _ _ _ _ _ _ _ _ _ _ _ _ _ _ _ _ _ _ _ _ _ _ _ x ∙ simp flat_map-map

pub conj-rolled : (x : Conj-F Atom Added CallExpr Comp Compared Conj Expr Factor Post Sum Term Unary) → conj (roll-Conj x) ≡ comp x.first ++ flat_map (λ c. t.Keyword w.And ∷ comp c) x.others
unfolding expr call atom comp conj sum term unary post added factor compared fold_atom fold_added fold_call fold_comp fold_compared fold_conj fold_expr fold_factor fold_post fold_sum fold_term fold_unary
conj-rolled x = fold-roll-Conj _ _ _ _ _ _ _ _ _ _ _ _ _ _ _ _ _ _ _ _ _ _ _ _ x ∙ simp flat_map-map

pub sum-rolled : (x : Sum-F Atom Added CallExpr Comp Compared Conj Expr Factor Post Sum Term Unary) → sum (roll-Sum x) ≡ term x.first ++ flat_map added x.others
unfolding expr call atom comp conj sum term unary post added factor compared fold_atom fold_added fold_call fold_comp fold_compared fold_conj fold_expr fold_factor fold_post fold_sum fold_term fold_unary
sum-rolled x = fold-roll-Sum _ _ _ _ _ _ _ _ _ _ _ _ _ _ _ _ _ _ _ _ _ _ _ _ x ∙ simp flat_map-map

pub term-rolled : (x : Term-F Atom Added CallExpr Comp Compared Conj Expr Factor Post Sum Term Unary) → term (roll-Term x) ≡ unary x.first ++ flat_map factor x.others
unfolding expr call atom comp conj sum term unary post added factor compared fold_atom fold_added fold_call fold_comp fold_compared fold_conj fold_expr fold_factor fold_post fold_sum fold_term fold_unary
term-rolled x = fold-roll-Term _ _ _ _ _ _ _ _ _ _ _ _ _ _ _ _ _ _ _ _ _ _ _ _ x ∙ simp flat_map-map

pub unary-rolled : (x : Unary-F Atom Added CallExpr Comp Compared Conj Expr Factor Post Sum Term Unary) → unary (roll-Unary x) ≡ sign_part x.op ++ post x.post
unfolding expr call atom comp conj sum term unary post added factor compared fold_atom fold_added fold_call fold_comp fold_compared fold_conj fold_expr fold_factor fold_post fold_sum fold_term fold_unary
unary-rolled x = fold-roll-Unary _ _ _ _ _ _ _ _ _ _ _ _ _ _ _ _ _ _ _ _ _ _ _ _ x ∙ refl

pub post-rolled : (x : Post-F Atom Added CallExpr Comp Compared Conj Expr Factor Post Sum Term Unary) → post (roll-Post x) ≡ atom x.atom ++ flat_map (λ e. t.Symbol s.OpenList ∷ expr e ++ symbol s.CloseList) x.indices
unfolding expr call atom comp conj sum term unary post added factor compared fold_atom fold_added fold_call fold_comp fold_compared fold_conj fold_expr fold_factor fold_post fold_sum fold_term fold_unary
post-rolled x = fold-roll-Post _ _ _ _ _ _ _ _ _ _ _ _ _ _ _ _ _ _ _ _ _ _ _ _ x ∙ simp flat_map-map

pub call-rolled : (x : CallExpr-F Atom Added CallExpr Comp Compared Conj Expr Factor Post Sum Term Unary) → call (roll-CallExpr x) ≡ t.Keyword w.Call ∷ t.Name x.app ∷ in_parens (listed (map expr x.arguments)) ++ names_part (map expr x.names)
unfolding expr call atom comp conj sum term unary post added factor compared fold_atom fold_added fold_call fold_comp fold_compared fold_conj fold_expr fold_factor fold_post fold_sum fold_term fold_unary
call-rolled x = fold-roll-CallExpr _ _ _ _ _ _ _ _ _ _ _ _ _ _ _ _ _ _ _ _ _ _ _ _ x ∙ refl

pub added-rolled : (x : Added-F Atom Added CallExpr Comp Compared Conj Expr Factor Post Sum Term Unary) → added (roll-Added x) ≡ t.Symbol (sum_symbol x.op) ∷ term x.term
unfolding expr call atom comp conj sum term unary post added factor compared fold_atom fold_added fold_call fold_comp fold_compared fold_conj fold_expr fold_factor fold_post fold_sum fold_term fold_unary
added-rolled x = ap (λ (r : SumOp × Tokens). t.Symbol (sum_symbol r.0) ∷ r.1) (fold-roll-Added _ _ _ _ _ _ _ _ _ _ _ _ _ _ _ _ _ _ _ _ _ _ _ _ x)

pub factor-rolled : (x : Factor-F Atom Added CallExpr Comp Compared Conj Expr Factor Post Sum Term Unary) → factor (roll-Factor x) ≡ t.Symbol (term_symbol x.op) ∷ unary x.unary
unfolding expr call atom comp conj sum term unary post added factor compared fold_atom fold_added fold_call fold_comp fold_compared fold_conj fold_expr fold_factor fold_post fold_sum fold_term fold_unary
factor-rolled x = ap (λ (r : TermOp × Tokens). t.Symbol (term_symbol r.0) ∷ r.1) (fold-roll-Factor _ _ _ _ _ _ _ _ _ _ _ _ _ _ _ _ _ _ _ _ _ _ _ _ x)

pub compared-rolled : (x : Compared-F Atom Added CallExpr Comp Compared Conj Expr Factor Post Sum Term Unary) → compared (roll-Compared x) ≡ t.Symbol (compare_symbol x.op) ∷ sum x.right
unfolding expr call atom comp conj sum term unary post added factor compared fold_atom fold_added fold_call fold_comp fold_compared fold_conj fold_expr fold_factor fold_post fold_sum fold_term fold_unary
compared-rolled x = ap (λ (r : CompareOp × Tokens). t.Symbol (compare_symbol r.0) ∷ r.1) (fold-roll-Compared _ _ _ _ _ _ _ _ _ _ _ _ _ _ _ _ _ _ _ _ _ _ _ _ x)

pub comp-none : (x : Sum) → comp (roll-Comp (record { left = x; test = None })) ≡ sum x
unfolding expr call atom comp conj sum term unary post added factor compared fold_atom fold_added fold_call fold_comp fold_compared fold_conj fold_expr fold_factor fold_post fold_sum fold_term fold_unary
comp-none x = fold-roll-Comp _ _ _ _ _ _ _ _ _ _ _ _ _ _ _ _ _ _ _ _ _ _ _ _ _ ∙ append-nil _

pub comp-some : (x : Sum) (c : Compared) → comp (roll-Comp (record { left = x; test = Some c })) ≡ sum x ++ compared c
unfolding expr call atom comp conj sum term unary post added factor compared fold_atom fold_added fold_call fold_comp fold_compared fold_conj fold_expr fold_factor fold_post fold_sum fold_term fold_unary
comp-some x c = fold-roll-Comp _ _ _ _ _ _ _ _ _ _ _ _ _ _ _ _ _ _ _ _ _ _ _ _ _ ∙ refl

pub atom-number : (n : ℤ) → atom (a.Number n) ≡ t.Number n ∷ []
unfolding expr call atom comp conj sum term unary post added factor compared fold_atom fold_added fold_call fold_comp fold_compared fold_conj fold_expr fold_factor fold_post fold_sum fold_term fold_unary
atom-number n = ap (fold_atom expr_tokens) (sym (a.rolls-Number n)) ∙ fold-roll-Atom _ _ _ _ _ _ _ _ _ _ _ _ _ _ _ _ _ _ _ _ _ _ _ _ _

pub atom-text : (x : List ℕ) → atom (a.Text x) ≡ t.Text x ∷ []
unfolding expr call atom comp conj sum term unary post added factor compared fold_atom fold_added fold_call fold_comp fold_compared fold_conj fold_expr fold_factor fold_post fold_sum fold_term fold_unary
atom-text x = ap (fold_atom expr_tokens) (sym (a.rolls-Text x)) ∙ fold-roll-Atom _ _ _ _ _ _ _ _ _ _ _ _ _ _ _ _ _ _ _ _ _ _ _ _ _

pub atom-nothing : atom a.Nothing ≡ word w.Nothing
unfolding expr call atom comp conj sum term unary post added factor compared fold_atom fold_added fold_call fold_comp fold_compared fold_conj fold_expr fold_factor fold_post fold_sum fold_term fold_unary
atom-nothing = ap (fold_atom expr_tokens) (sym (a.rolls-Nothing)) ∙ fold-roll-Atom _ _ _ _ _ _ _ _ _ _ _ _ _ _ _ _ _ _ _ _ _ _ _ _ _

pub atom-variable : (x : List ℕ) → atom (a.Variable x) ≡ t.Name x ∷ []
unfolding expr call atom comp conj sum term unary post added factor compared fold_atom fold_added fold_call fold_comp fold_compared fold_conj fold_expr fold_factor fold_post fold_sum fold_term fold_unary
atom-variable x = ap (fold_atom expr_tokens) (sym (a.rolls-Variable x)) ∙ fold-roll-Atom _ _ _ _ _ _ _ _ _ _ _ _ _ _ _ _ _ _ _ _ _ _ _ _ _

pub atom-built_in : (x : List ℕ) (es : List Expr) → atom (a.BuiltIn x es) ≡ t.Name x ∷ in_parens (listed (map expr es))
unfolding expr call atom comp conj sum term unary post added factor compared fold_atom fold_added fold_call fold_comp fold_compared fold_conj fold_expr fold_factor fold_post fold_sum fold_term fold_unary
atom-built_in x es = ap (fold_atom expr_tokens) (sym (a.rolls-BuiltIn x es)) ∙ fold-roll-Atom _ _ _ _ _ _ _ _ _ _ _ _ _ _ _ _ _ _ _ _ _ _ _ _ _

pub atom-call : (c : CallExpr) → atom (a.Call c) ≡ call c
unfolding expr call atom comp conj sum term unary post added factor compared fold_atom fold_added fold_call fold_comp fold_compared fold_conj fold_expr fold_factor fold_post fold_sum fold_term fold_unary
atom-call c = ap (fold_atom expr_tokens) (sym (a.rolls-Call c)) ∙ fold-roll-Atom _ _ _ _ _ _ _ _ _ _ _ _ _ _ _ _ _ _ _ _ _ _ _ _ _

pub atom-paren : (e : Expr) → atom (a.Paren e) ≡ in_parens (expr e)
unfolding expr call atom comp conj sum term unary post added factor compared fold_atom fold_added fold_call fold_comp fold_compared fold_conj fold_expr fold_factor fold_post fold_sum fold_term fold_unary
atom-paren e = ap (fold_atom expr_tokens) (sym (a.rolls-Paren e)) ∙ fold-roll-Atom _ _ _ _ _ _ _ _ _ _ _ _ _ _ _ _ _ _ _ _ _ _ _ _ _

pub atom-list : (es : List Expr) → atom (a.List es) ≡ t.Symbol s.OpenList ∷ listed (map expr es) ++ symbol s.CloseList
unfolding expr call atom comp conj sum term unary post added factor compared fold_atom fold_added fold_call fold_comp fold_compared fold_conj fold_expr fold_factor fold_post fold_sum fold_term fold_unary
atom-list es = ap (fold_atom expr_tokens) (sym (a.rolls-List es)) ∙ fold-roll-Atom _ _ _ _ _ _ _ _ _ _ _ _ _ _ _ _ _ _ _ _ _ _ _ _ _
