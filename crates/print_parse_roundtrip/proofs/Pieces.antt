-- One token in front of a text, and which tokens texts have.
use Rattle.std.proofs.Common.{ap, ◌≡◌, ℕ, ◌<◌, true, false, [], ◌∷◌, ◌++◌, refl}
use Rattle.std.specs.Prelude.{codes, decimal, pos, ◌^◌}
use Rattle.std.specs.List.{list_all}
use Rattle.script_tree.specs.declared.token.Token.TheVariants as t
use Rattle.script_tree.specs.declared.token.Keyword.{Keyword}
use Rattle.script_tree.specs.declared.token.Symbol.{Symbol}
use Rattle.script_tree.specs.declared.token.Symbol.TheVariants as s
use Rattle.script_tree.specs.Lexing.{Text, lex, is_blank}
use Rattle.script_tree.specs.Grammar.{tokens_of}
use Rattle.script_tree.specs.Canonical.{spelt}
use Rattle.script_tree.specs.Spelling.{Tokens}
use Rattle.print_parse_roundtrip.specs.Lexes.{Lexes, IsName, is_text_byte, AreTokens, word_text, symbol_text, goes_on, grows}
use Rattle.print_parse_roundtrip.proofs.Turns.{if_false, ended, with_blank, with_piece}
use Rattle.print_parse_roundtrip.proofs.Runs.{with_any_name, with_any_word, with_any_number}
use Rattle.print_parse_roundtrip.proofs.Quotes.{with_quotes}
use Rattle.print_parse_roundtrip.proofs.TokenKinds.{text_tokens}

pub no_text : Lexes [] []
no_text = record { tokens = λ n at enough. ap (λ l. tokens_of l.tokens) (ended n at); whole = λ n at enough. ap (λ l. l.fault) (ended n at) }

pub behind_blank : (b : ℕ) (rest : Text) (ts : Tokens) → is_blank b ≡ true → Lexes rest ts → Lexes (b ∷ rest) ts
behind_blank b rest ts blank more = with_blank b rest ts blank more

pub with_name : (x rest : Text) (ts : Tokens) → IsName x → goes_on rest ≡ false → Lexes rest ts → Lexes (x ++ rest) (t.Name x ∷ ts)
with_name x rest ts name ends more = with_any_name x rest ts name ends more

pub with_word : (k : Keyword) (rest : Text) (ts : Tokens) → goes_on rest ≡ false → Lexes rest ts → Lexes (word_text k ++ rest) (t.Keyword k ∷ ts)
with_word k rest ts ends more = with_any_word k rest ts ends more

pub with_number : (n : ℕ) (rest : Text) (ts : Tokens) → n < 2 ^ 63 → goes_on rest ≡ false → Lexes rest ts → Lexes (decimal n ++ rest) (t.Number (pos n) ∷ ts)
with_number n rest ts small ends more = with_any_number n rest ts small ends more

pub with_text : (x rest : Text) (ts : Tokens) → list_all is_text_byte x ≡ true → Lexes rest ts → Lexes (spelt x ++ rest) (t.Text x ∷ ts)
with_text x rest ts bytes more = with_quotes x rest ts bytes more

pub with_symbol : (k : Symbol) (rest : Text) (ts : Tokens) → grows k rest ≡ false → Lexes rest ts → Lexes (symbol_text k ++ rest) (t.Symbol k ∷ ts)
with_symbol s.OpenParen rest ts ends more = with_piece 40 (codes "") rest (t.Symbol s.OpenParen) ts (record { no_blank = refl; no_comment = refl; is = refl }) more
with_symbol s.CloseParen rest ts ends more = with_piece 41 (codes "") rest (t.Symbol s.CloseParen) ts (record { no_blank = refl; no_comment = refl; is = refl }) more
with_symbol s.OpenList rest ts ends more = with_piece 91 (codes "") rest (t.Symbol s.OpenList) ts (record { no_blank = refl; no_comment = refl; is = refl }) more
with_symbol s.CloseList rest ts ends more = with_piece 93 (codes "") rest (t.Symbol s.CloseList) ts (record { no_blank = refl; no_comment = refl; is = refl }) more
with_symbol s.OpenBlock rest ts ends more = with_piece 123 (codes "") rest (t.Symbol s.OpenBlock) ts (record { no_blank = refl; no_comment = refl; is = refl }) more
with_symbol s.CloseBlock rest ts ends more = with_piece 125 (codes "") rest (t.Symbol s.CloseBlock) ts (record { no_blank = refl; no_comment = refl; is = refl }) more
with_symbol s.Comma rest ts ends more = with_piece 44 (codes "") rest (t.Symbol s.Comma) ts (record { no_blank = refl; no_comment = refl; is = refl }) more
with_symbol s.Semicolon rest ts ends more = with_piece 59 (codes "") rest (t.Symbol s.Semicolon) ts (record { no_blank = refl; no_comment = refl; is = refl }) more
with_symbol s.Assign rest ts ends more = with_piece 61 (codes "") rest (t.Symbol s.Assign) ts (record { no_blank = refl; no_comment = refl; is = if_false _ _ ends }) more
with_symbol s.Equal rest ts ends more = with_piece 61 (codes "=") rest (t.Symbol s.Equal) ts (record { no_blank = refl; no_comment = refl; is = refl }) more
with_symbol s.Differ rest ts ends more = with_piece 33 (codes "=") rest (t.Symbol s.Differ) ts (record { no_blank = refl; no_comment = refl; is = refl }) more
with_symbol s.Less rest ts ends more = with_piece 60 (codes "") rest (t.Symbol s.Less) ts (record { no_blank = refl; no_comment = refl; is = if_false _ _ ends }) more
with_symbol s.AtMost rest ts ends more = with_piece 60 (codes "=") rest (t.Symbol s.AtMost) ts (record { no_blank = refl; no_comment = refl; is = refl }) more
with_symbol s.Greater rest ts ends more = with_piece 62 (codes "") rest (t.Symbol s.Greater) ts (record { no_blank = refl; no_comment = refl; is = if_false _ _ ends }) more
with_symbol s.AtLeast rest ts ends more = with_piece 62 (codes "=") rest (t.Symbol s.AtLeast) ts (record { no_blank = refl; no_comment = refl; is = refl }) more
with_symbol s.Plus rest ts ends more = with_piece 43 (codes "") rest (t.Symbol s.Plus) ts (record { no_blank = refl; no_comment = refl; is = refl }) more
with_symbol s.Minus rest ts ends more = with_piece 45 (codes "") rest (t.Symbol s.Minus) ts (record { no_blank = refl; no_comment = refl; is = refl }) more
with_symbol s.Times rest ts ends more = with_piece 42 (codes "") rest (t.Symbol s.Times) ts (record { no_blank = refl; no_comment = refl; is = refl }) more
with_symbol s.Over rest ts ends more = with_piece 47 (codes "") rest (t.Symbol s.Over) ts (record { no_blank = refl; no_comment = refl; is = refl }) more
with_symbol s.Rest rest ts ends more = with_piece 37 (codes "") rest (t.Symbol s.Rest) ts (record { no_blank = refl; no_comment = refl; is = refl }) more

-- each token that a text has is one
pub lexed_tokens : (text : Text) → AreTokens (tokens_of (lex text).tokens)
lexed_tokens text = text_tokens text
