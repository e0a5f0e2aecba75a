-- Short trees that some text has.
use Rattle.std.proofs.Common.{◌≡◌, ◌≤◌, ℕ, ◌+◌, List, [], ◌∷◌, ◌++◌, length, fold, ap, ◌∙◌, length-append, arith}
use Rattle.std.proofs.lemmas.List.Elements.{All-nil, All-cons, All-append}
use Rattle.script_tree.specs.declared.token.Token.{Token}
use Rattle.script_tree.specs.declared.token.Token.TheVariants as t
use Rattle.script_tree.specs.declared.token.Keyword.TheVariants as w
use Rattle.script_tree.specs.declared.token.Symbol.TheVariants as s
use Rattle.script_tree.specs.declared.tree.Block.{Block, roll-Block}
use Rattle.script_tree.specs.declared.tree.Statement.{Statement}
use Rattle.script_tree.proofs.Rolls.{block-rolled}
use Rattle.script_tree.specs.declared.tree.AppDef.{AppDef}
use Rattle.script_tree.specs.Lexing.{lex}
use Rattle.script_tree.specs.Canonical.{canonical}
use Rattle.script_tree.specs.Grammar.{Tree, nesting_after, max_nesting, IsNestedWithin, IsSpellable}
use Rattle.script_tree.specs.Spelling.{Tokens, script, block_tokens}
use Rattle.script_tree.specs.Spelling as spelling
use Rattle.print_parse_roundtrip.specs.Lexes.{IsToken, AreTokens}
use Rattle.print_parse_roundtrip.proofs.Reading.{script_lexes}

one_deeper : (n : ℕ) (k : Token) → nesting_after n k ≤ n + 1
one_deeper n (t.Symbol s.OpenParen) = omega arith
one_deeper n (t.Symbol s.OpenList) = omega arith
one_deeper n (t.Symbol s.OpenBlock) = omega arith
one_deeper n (t.Symbol s.CloseParen) = omega arith
one_deeper n (t.Symbol s.CloseList) = omega arith
one_deeper n (t.Symbol s.CloseBlock) = omega arith
one_deeper n _ = omega arith

depth_within : (n : ℕ) (ts : Tokens) → fold nesting_after n ts ≤ n + length ts
depth_within n [] = omega arith
depth_within n (k ∷ ts) = omega (arith, one_deeper n k, depth_within (nesting_after n k) ts)

short_nested : (ts : Tokens) → length ts ≤ max_nesting → IsNestedWithin ts
short_nested ts short front rest is = omega (arith, depth_within 0 front, ap length is, length-append front rest)

-- a tree of few tokens, each of which some text has
pub short_spellable : (tree : Tree) → AreTokens (script tree) → length (script tree) ≤ max_nesting → IsSpellable tree
unfolding lex
short_spellable tree valid short =
    let l = script_lexes tree valid in
    (canonical tree, l.whole (length (canonical tree)) 0 (omega arith), l.tokens (length (canonical tree)) 0 (omega arith), short_nested (script tree) short)

put : (k : Token) (ts : Tokens) → IsToken k → AreTokens ts → AreTokens (k ∷ ts)
put k ts h hs = All-cons IsToken k ts h hs

-- a block without statements
pub nothing_tokens : (xs : List Statement) → xs ≡ [] → spelling.block (roll-Block (record { statements = xs })) ≡ t.Symbol s.OpenBlock ∷ t.Symbol s.CloseBlock ∷ []
nothing_tokens xs is = ap (λ (z : List Statement). spelling.block (roll-Block (record { statements = z }))) is ∙ block-rolled block_tokens (record { statements = [] })

pub nothing_are : AreTokens (t.Symbol s.OpenBlock ∷ t.Symbol s.CloseBlock ∷ [])
nothing_are = put (t.Symbol s.OpenBlock) (t.Symbol s.CloseBlock ∷ []) tt (put (t.Symbol s.CloseBlock) [] tt (All-nil IsToken))

-- a script of two apps
pub two_spellable : (a b : AppDef) (main : Block) → AreTokens (spelling.app a) → AreTokens (spelling.app b) → AreTokens (spelling.block main)
    → length (spelling.app a) ≤ 10 → length (spelling.app b) ≤ 10 → length (spelling.block main) ≤ 10 → IsSpellable (a ∷ b ∷ [], main)
two_spellable a b main of_a of_b of_main short_a short_b short_main =
    let apps = spelling.app a ++ (spelling.app b ++ []) in
    let rest = t.Keyword w.Main ∷ spelling.block main in
    short_spellable (a ∷ b ∷ [], main)
    (All-append IsToken apps rest (All-append IsToken (spelling.app a) (spelling.app b ++ []) of_a (All-append IsToken (spelling.app b) [] of_b (All-nil IsToken))) (put (t.Keyword w.Main) (spelling.block main) tt of_main))
    (omega (arith, short_a, short_b, short_main, length-append apps rest, length-append (spelling.app a) (spelling.app b ++ []), length-append (spelling.app b) []))
