-- Texts that have the trees of the examples.
use Rattle.std.proofs.Common.{◌≡◌, ℕ, ◌+◌, ◌≤◌, [], ◌∷◌, length, fold, refl, ap, codes, None, arith, lit≤, length-append}
use Rattle.script_tree.specs.declared.token.Token.{Token}
use Rattle.script_tree.specs.declared.token.Token.TheVariants as t
use Rattle.script_tree.specs.declared.token.Symbol.TheVariants as s
use Rattle.script_tree.specs.Lexing.{Text, lex}
use Rattle.script_tree.specs.Grammar.{Tree, HasTree, IsNestedWithin, nesting_after, max_nesting, tokens_of}
use Rattle.script_tree.specs.Spelling.{Tokens, script}
use Rattle.meaning_examples.proofs.TreeFolds.{tree_folds}
use Rattle.meaning_examples.proofs.Trees.{block}
use Rattle.meaning_examples.proofs.CanonicalTexts.{prints_sum, square}
use Rattle.meaning_examples.proofs.StaticRules.{prints_variable, empty_main}
use Rattle.meaning_examples.proofs.FailedInputs.{depends_on_failed, list_of_failed}
use Rattle.meaning_examples.proofs.Joins.{joins}
use Rattle.meaning_examples.proofs.RaisedMain.{prints_failed}
use Rattle.meaning_examples.proofs.MissingOutputs.{unwritten}
use Rattle.meaning_examples.proofs.PrintedResults.{prints_sums}
use Rattle.meaning_examples.proofs.WrittenOutputs.{written}

-- ---- a script of few tokens isn't nested deep

one-deeper : (n : ℕ) (token : Token) → nesting_after n token ≤ n + 1
one-deeper n (t.Symbol s.OpenParen) = omega arith
one-deeper n (t.Symbol s.OpenList) = omega arith
one-deeper n (t.Symbol s.OpenBlock) = omega arith
one-deeper n (t.Symbol s.CloseParen) = omega arith
one-deeper n (t.Symbol s.CloseList) = omega arith
one-deeper n (t.Symbol s.CloseBlock) = omega arith
one-deeper n _ = omega arith

nested-from : (n : ℕ) (ts : Tokens) → fold nesting_after n ts ≤ n + length ts
nested-from n [] = omega arith
nested-from n (token ∷ ts) = omega (arith, one-deeper n token, nested-from (nesting_after n token) ts)

few-nested : (ts : Tokens) → length ts ≤ max_nesting → IsNestedWithin ts
few-nested ts few front rest is = omega (arith, nested-from 0 front, length-append front rest, ap length is)

-- ---- texts that have these trees, with their tokens at these places

pub has-prints_variable : HasTree (codes "main { print x; }") prints_variable (0 ∷ 5 ∷ 7 ∷ 13 ∷ 14 ∷ 16 ∷ [])
unfolding lex
has-prints_variable = record { size = lit≤ tt; whole = refl; tokens = simp tree_folds; places = refl; nested = few-nested _ (simp tree_folds (lit≤ tt)) }

pub has-empty_main : HasTree (codes "main { }") empty_main (0 ∷ 5 ∷ 7 ∷ [])
unfolding lex
has-empty_main = record { size = lit≤ tt; whole = refl; tokens = simp tree_folds; places = refl; nested = few-nested _ (simp tree_folds (lit≤ tt)) }

pub has-prints_sum : HasTree (codes "main{print 1+2;}") prints_sum (0 ∷ 4 ∷ 5 ∷ 11 ∷ 12 ∷ 13 ∷ 14 ∷ 15 ∷ [])
unfolding lex
has-prints_sum = record { size = lit≤ tt; whole = refl; tokens = simp tree_folds; places = refl; nested = few-nested _ (simp tree_folds (lit≤ tt)) }

-- ---- texts whose tokens are those of these trees

pub record Spells (text : Text) (tree : Tree) : Type 0 where
  pub whole : (lex text).fault ≡ None
  pub tokens : tokens_of (lex text).tokens ≡ script tree

pub spells-depends_on_failed : Spells (codes "app div(a, b) { return a / b; } app add(a, b) { return a + b; } main { let f = call div(1, 0); let g = call div(8, 2); let h = call add(f, g); let k = call add(f, 1); }") depends_on_failed
unfolding lex
spells-depends_on_failed = record { whole = refl; tokens = simp tree_folds }

pub spells-list_of_failed : Spells (codes "app div(a, b) { return a / b; } app total(vs) { return len(vs); } main { let f = call div(1, 0); let g = call div(2, 0); let t = call total([g, f, g]); }") list_of_failed
unfolding lex
spells-list_of_failed = record { whole = refl; tokens = simp tree_folds }

pub spells-joins : Spells (codes "app div(a, b) { return a / b; } join app five() { return 5; } join app bad() { return call div(1, 0); } main { let f = call div(8, 2); let g = call five(); let h = call bad(); }") joins
unfolding lex
spells-joins = record { whole = refl; tokens = simp tree_folds }

pub spells-prints_failed : Spells (codes "app div(a, b) { return a / b; } main { let f = call div(1, 0); print result(f); let g = call div(8, 2); }") prints_failed
unfolding lex
spells-prints_failed = record { whole = refl; tokens = simp tree_folds }

pub spells-unwritten : Spells (codes "app copy(n) outputs 1 { return n; } main { let f = call copy(1) to (\"a.txt\"); }") unwritten
unfolding lex
spells-unwritten = record { whole = refl; tokens = simp tree_folds }

pub spells-prints_sums : Spells (codes "app add(a, b) { return a + b; } main { let f = call add(2, 3); let g = call add(f, 4); print result(g); print result(f); }") prints_sums
unfolding lex
spells-prints_sums = record { whole = refl; tokens = simp tree_folds }

pub spells-written : Spells (codes "app save(text) outputs 1 { write 0, text; return len(text); } app same(file) { return content(file); } main { let f = call save(\"hello\") to (\"a.txt\"); let g = call same(output(f, 0)); }") written
unfolding lex
spells-written = record { whole = refl; tokens = simp tree_folds }

pub spells-square : Spells (codes "cached app sq(n){return n*n;} main{}") (square ∷ [], block [])
unfolding lex
spells-square = record { whole = refl; tokens = simp tree_folds }
