-- A canonical text is read as its tree.
use Rattle.std.proofs.Common.{◌≤◌, List, [], ◌∷◌, ◌++◌, arith, length, map, refl, subst, append-nil}
use Rattle.std.specs.List.{flat_map}
use Rattle.script_tree.specs.declared.tree.AppDef.{AppDef}
use Rattle.script_tree.specs.declared.token.Keyword.TheVariants as w
use Rattle.script_tree.specs.Lexing.{Text, lex}
use Rattle.script_tree.specs.Grammar.{Tree, max_text, IsSpellable, HasTree}
use Rattle.script_tree.specs.Canonical.{canonical}
use Rattle.script_tree.specs.Canonical as text
use Rattle.script_tree.specs.Spelling.{script}
use Rattle.script_tree.specs.Spelling as spelling
use Rattle.print_parse_roundtrip.specs.Lexes.{Lexes, AreTokens}
use Rattle.print_parse_roundtrip.proofs.Pieces.{no_text, lexed_tokens}
use Rattle.print_parse_roundtrip.proofs.Parts.{Whole, then_whole, no_whole, word_blank}
use Rattle.print_parse_roundtrip.proofs.Blocks.{with_newline, block_reads, app_whole}

apps_whole : (xs : List AppDef) → Whole (flat_map (λ a. text.app a ++ 10 ∷ []) xs) (flat_map spelling.app xs)
apps_whole [] = no_whole
apps_whole (a ∷ xs) = then_whole (with_newline _ _ (app_whole a)) (apps_whole xs)

script_whole : (tree : Tree) → Whole (canonical tree) (script tree)
unfolding canonical
script_whole tree = then_whole (apps_whole tree.0) (then_whole (word_blank w.Main) (with_newline _ _ (block_reads tree.1 0)))

pub script_lexes : (tree : Tree) → AreTokens (script tree) → Lexes (canonical tree) (script tree)
script_lexes tree valid = subst (λ (z : Text). Lexes z (script tree)) (append-nil (canonical tree))
    (subst (λ (z : spelling.Tokens). Lexes (canonical tree ++ []) z) (append-nil (script tree)) ((script_whole tree).at valid [] [] no_text))

-- a tree that some text has, but for its length, has its canonical text
pub has_canonical : (tree : Tree) → IsSpellable tree → length (canonical tree) ≤ max_text → HasTree (canonical tree) tree (map (λ p. p.0) (lex (canonical tree)).tokens)
unfolding lex
has_canonical tree spellable short =
    let l = script_lexes tree (subst AreTokens spellable.2 (lexed_tokens spellable.0)) in
    record {
      size = short;
      whole = l.whole (length (canonical tree)) 0 (omega arith);
      tokens = l.tokens (length (canonical tree)) 0 (omega arith);
      places = refl;
      nested = spellable.3;
    }
