-- A script that has a text has fewer than 2^32 apps.
use Rattle.std.proofs.Common.{◌≡◌, ℕ, zero, suc, ◌+◌, ◌<◌, ◌≤◌, ◌^◌, Bool, true, false, List, [], ◌∷◌, ◌++◌, length, refl, sym, ◌∙◌, ap, arith, length-append}
use Rattle.std.specs.Prelude.{nat_eq, flat_map, Ok, Err, drop}
use Rattle.std.specs.List.{prefix_len}
use Rattle.std.proofs.lemmas.List.{length-map}
use Rattle.script_tree.specs.declared.tree.AppDef.{AppDef}
use Rattle.script_tree.specs.declared.token.Token.TheVariants as t
use Rattle.script_tree.specs.declared.token.Keyword.TheVariants as w
use Rattle.script_tree.specs.Grammar.{PlacedTree, HasTree, Tree, max_text}
use Rattle.script_tree.specs.Lexing.{Text, Lexed, Piece, lex, lex_from, after_piece, after_comment, piece, is_blank, is_in_comment}
use Rattle.script_tree.specs.Spelling.{Tokens, app, block, when, word, script}
use Rattle.parsl_engine.specs.Scripts.{IsOfText}

-- ---- few apps

-- a text has no more tokens than bytes
abbrev IsFew : (ℕ → Text → Lexed) → ℕ → Type 0
IsFew go n = (at : ℕ) (text : Text) → length (go at text).tokens ≤ n

comment_few : (go : ℕ → Text → Lexed) (n : ℕ) → IsFew go n → (at : ℕ) (text : Text) → length (after_comment go at text).tokens ≤ n
comment_few go n few at [] = few at []
comment_few go n few at (b ∷ bs) = by_test (nat_eq b 10) refl
  where
    by_test : (t : Bool) → nat_eq b 10 ≡ t → length (after_comment go at (b ∷ bs)).tokens ≤ n
    by_test true e = rw e (few (at + 1) bs)
    by_test false e = rw e (omega arith)

piece_few : (go : ℕ → Text → Lexed) (n : ℕ) → IsFew go n → (at : ℕ) (text : Text) (p : Piece) → length (after_piece go at text p).tokens ≤ suc n
piece_few go n few at text (Ok p) = let rest = few (at + p.1) (drop p.1 text) in omega (arith, rest)
piece_few go n few at text (Err kind) = omega arith

next_few : (n : ℕ) → IsFew (lex_from n) n → (at b : ℕ) (bs : Text) → length (lex_from (suc n) at (b ∷ bs)).tokens ≤ suc n
next_few n few at b bs = by_tests (is_blank b) (nat_eq b 35) refl refl
  where
    by_tests : (s t : Bool) → is_blank b ≡ s → nat_eq b 35 ≡ t → length (lex_from (suc n) at (b ∷ bs)).tokens ≤ suc n
    by_tests true t p q = let rest = few (at + 1) bs in rw p (omega (arith, rest))
    by_tests false true p q = let rest = comment_few (lex_from n) n few (at + 1 + prefix_len is_in_comment bs) (drop (prefix_len is_in_comment bs) bs) in rw (p, q) (omega (arith, rest))
    by_tests false false p q = rw (p, q) (piece_few (lex_from n) n few at (b ∷ bs) (piece (b ∷ bs)))

lex_few : (n : ℕ) → IsFew (lex_from n) n
lex_few n at [] = omega arith
lex_few zero at (b ∷ bs) = omega arith
lex_few (suc n) at (b ∷ bs) = next_few n (lex_few n) at b bs

tokens_few : (text : Text) → length (lex text).tokens ≤ length text
unfolding lex
tokens_few text = lex_few (length text) 0 text

longer : (xs ys : Tokens) → 1 ≤ length ys → 1 ≤ length (xs ++ ys)
longer xs ys h = omega (arith, length-append xs ys, h)

app_some : (a : AppDef) → 1 ≤ length (app a)
app_some a = longer (when a.cached (word w.Cached)) _ (longer (when a.join (word w.Join)) _ (omega arith))

apps_few : (apps : List AppDef) → length apps ≤ length (flat_map app apps)
apps_few [] = omega arith
apps_few (a ∷ apps) = let rest = apps_few apps in let one = app_some a in omega (arith, length-append (app a) (flat_map app apps), rest, one)

script_few : (tree : Tree) → length tree.0 ≤ length (script tree)
script_few tree = let apps = apps_few tree.0 in omega (arith, length-append (flat_map app tree.0) (t.Keyword w.Main ∷ block tree.1), apps)

short : (text : Text) (tree : Tree) (places : List ℕ) → HasTree text tree places → length tree.0 ≤ max_text
short text tree places has =
    let parts = script_few tree in
    let tokens = tokens_few text in
    let same : length (lex text).tokens ≡ length (script tree) = sym (length-map (lex text).tokens (λ p. p.1)) ∙ ap length has.tokens in
    omega (arith, parts, tokens, same, has.size)

pub few-apps : (script : PlacedTree) → IsOfText script → length script.tree.0 < 2 ^ 32
few-apps script of =
    let few = short of.bytes script.tree script.places of.is.text.has in
    omega (arith, few)
