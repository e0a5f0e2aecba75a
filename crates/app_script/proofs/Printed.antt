-- A canonical text is a text of its tree.
use Rattle.std.proofs.Common.{◌≡◌, ℕ, ◌≤◌, List, length, map, sym, subst}
use Rattle.script_tree.specs.declared.token.Token.{Token}
use Rattle.script_tree.specs.Canonical.{canonical}
use Rattle.script_tree.specs.Grammar.{Tree, IsSpellable, max_text}
use Rattle.script_tree.specs.Lexing.{Text, lex}
use Rattle.print_parse_roundtrip.proofs.Reading.{has_canonical}
use Rattle.app_script.specs.Parsing.{IsTextOf}
use Rattle.app_script.proofs.Reading.{one_script}

pub is_text : (tree : Tree) (text : Text) → IsSpellable tree → text ≡ canonical tree → length text ≤ max_text → IsTextOf tree text
is_text tree text spellable is short =
    let places : List ℕ = map (λ (p : ℕ × Token). p.0) (lex (canonical tree)).tokens in
    let fits : length (canonical tree) ≤ max_text = subst (λ (t : Text). length t ≤ max_text) is short in
    subst (λ (t : Text). IsTextOf tree t) (sym is) (record { places = places; reads = one_script (canonical tree) tree places (has_canonical tree spellable fits) })
