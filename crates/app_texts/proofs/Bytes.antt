-- The canonical texts of a script's apps have text bytes alone.
use Rattle.std.proofs.Common.{◌≡◌, ℕ, zero, suc, List, [], ◌∷◌, Some, slice_get, subst, All}
use Rattle.std.specs.List.{flat_map}
use Rattle.script_tree.specs.declared.token.Keyword.TheVariants as w
use Rattle.script_tree.specs.declared.token.Token.TheVariants as t
use Rattle.script_tree.specs.declared.tree.AppDef.{AppDef}
use Rattle.script_tree.specs.Canonical as canonical
use Rattle.script_tree.specs.Grammar.{Tree, IsSpellable}
use Rattle.script_tree.specs.Spelling.{script}
use Rattle.script_tree.specs.Spelling as spelling
use Rattle.flow_base.specs.TextBytes.{IsTextByte}
use Rattle.print_parse_roundtrip.specs.Lexes.{AreTokens}
use Rattle.print_parse_roundtrip.proofs.Pieces.{lexed_tokens}
use Rattle.app_texts.proofs.Clean.{all_left, all_right}
use Rattle.app_texts.proofs.Blocks.{app_clean}

-- the text of an app whose tokens are those of texts
pub text_bytes : (a : AppDef) → AreTokens (spelling.app a) → All IsTextByte (canonical.app a)
text_bytes a valid = (app_clean a).at valid

app_tokens_in : (apps : List AppDef) (k : ℕ) (a : AppDef) → AreTokens (flat_map spelling.app apps) → slice_get apps k ≡ Some a → AreTokens (spelling.app a)
app_tokens_in [] k a valid at = absurd (cc)
app_tokens_in (e ∷ apps) zero a valid at =
    let same : e ≡ a = cc in
    subst (λ (z : AppDef). AreTokens (spelling.app z)) same (all_left (spelling.app e) (flat_map spelling.app apps) valid)
app_tokens_in (e ∷ apps) (suc k) a valid at = app_tokens_in apps k a (all_right (spelling.app e) (flat_map spelling.app apps) valid) at

-- the tokens of an app of a script that some text has
pub app_tokens : (tree : Tree) → IsSpellable tree → (k : ℕ) (a : AppDef) → slice_get tree.0 k ≡ Some a → AreTokens (spelling.app a)
app_tokens tree spellable k a at =
    app_tokens_in tree.0 k a (all_left (flat_map spelling.app tree.0) (t.Keyword w.Main ∷ spelling.block tree.1) (subst AreTokens spellable.2 (lexed_tokens spellable.0))) at

-- the text of an app of a script that some text has
pub script_text_bytes : (tree : Tree) → IsSpellable tree → (k : ℕ) (a : AppDef) → slice_get tree.0 k ≡ Some a → All IsTextByte (canonical.app a)
script_text_bytes tree spellable k a at = text_bytes a (app_tokens tree spellable k a at)
