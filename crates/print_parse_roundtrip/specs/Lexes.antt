-- Texts that are read as certain tokens, wherever they stand.
use Rattle.std.specs.Prelude.{◌≡◌, ℕ, ◌<◌, ◌≤◌, ◌^◌, Bool, true, false, ◌&&◌, ◌||◌, [], ◌∷◌, length, All, None, nat_eq, ℤ, pos, codes}
use Rattle.std.specs.List.{list_all}
use Rattle.script_tree.specs.declared.token.Token.{Token}
use Rattle.script_tree.specs.declared.token.Token.TheVariants as t
use Rattle.script_tree.specs.declared.token.Keyword.{Keyword}
use Rattle.script_tree.specs.declared.token.Keyword.TheVariants as w
use Rattle.script_tree.specs.declared.token.Symbol.{Symbol}
use Rattle.script_tree.specs.declared.token.Symbol.TheVariants as s
use Rattle.script_tree.specs.BuiltIns.{lookup}
use Rattle.script_tree.specs.Lexing.{Text, lex_from, max_name, keywords, begins_name, is_in_name, is_printable, begins_with}
use Rattle.script_tree.specs.Grammar.{tokens_of}
use Rattle.script_tree.specs.Spelling.{Tokens}

-- the text has these tokens and no fault, whatever its place
pub record Lexes (text : Text) (ts : Tokens) : Type 0 where
  pub tokens : (n at : ℕ) → length text ≤ n → tokens_of (lex_from n at text).tokens ≡ ts
  pub whole : (n at : ℕ) → length text ≤ n → (lex_from n at text).fault ≡ None

-- ---- tokens that some text has

pub record IsName (x : Text) : Type 0 where
  pub first : ℕ
  pub others : Text
  pub is : x ≡ first ∷ others
  pub begins : begins_name first ≡ true
  pub rest : list_all is_in_name others ≡ true
  pub short : length x ≤ max_name
  pub free : lookup keywords x ≡ None

pub record IsNumber (n : ℤ) : Type 0 where
  pub value : ℕ
  pub is : n ≡ pos value
  pub small : value < 2 ^ 63

abbrev pub is_text_byte : ℕ → Bool
is_text_byte b = is_printable b || nat_eq b 10

abbrev pub IsToken : Token → Type 0
IsToken (t.Name x) = IsName x
IsToken (t.Number n) = IsNumber n
IsToken (t.Text x) = list_all is_text_byte x ≡ true
IsToken (t.Keyword k) = Unit {0}
IsToken (t.Symbol k) = Unit {0}

abbrev pub AreTokens : Tokens → Type 0
AreTokens = All IsToken

-- ---- how words and symbols are written

abbrev pub word_text : Keyword → Text
word_text w.App = codes "app"
word_text w.Cached = codes "cached"
word_text w.Join = codes "join"
word_text w.Main = codes "main"
word_text w.Outputs = codes "outputs"
word_text w.Let = codes "let"
word_text w.While = codes "while"
word_text w.For = codes "for"
word_text w.In = codes "in"
word_text w.If = codes "if"
word_text w.Else = codes "else"
word_text w.Return = codes "return"
word_text w.Raise = codes "raise"
word_text w.Write = codes "write"
word_text w.Print = codes "print"
word_text w.Checkpoint = codes "checkpoint"
word_text w.Call = codes "call"
word_text w.To = codes "to"
word_text w.And = codes "and"
word_text w.Or = codes "or"
word_text w.Not = codes "not"
word_text w.Nothing = codes "nothing"

abbrev pub symbol_text : Symbol → Text
symbol_text s.OpenParen = codes "("
symbol_text s.CloseParen = codes ")"
symbol_text s.OpenList = codes "["
symbol_text s.CloseList = codes "]"
symbol_text s.OpenBlock = codes "{"
symbol_text s.CloseBlock = codes "}"
symbol_text s.Comma = codes ","
symbol_text s.Semicolon = codes ";"
symbol_text s.Assign = codes "="
symbol_text s.Equal = codes "=="
symbol_text s.Differ = codes "!="
symbol_text s.Less = codes "<"
symbol_text s.AtMost = codes "<="
symbol_text s.Greater = codes ">"
symbol_text s.AtLeast = codes ">="
symbol_text s.Plus = codes "+"
symbol_text s.Minus = codes "-"
symbol_text s.Times = codes "*"
symbol_text s.Over = codes "/"
symbol_text s.Rest = codes "%"

-- a name or a number goes on with this text
abbrev pub goes_on : Text → Bool
goes_on [] = false
goes_on (b ∷ bs) = is_in_name b

-- symbols that `=` makes longer
abbrev pub may_grow : Symbol → Bool
may_grow s.Assign = true
may_grow s.Less = true
may_grow s.Greater = true
may_grow _ = false

abbrev pub grows : Symbol → Text → Bool
grows k text = may_grow k && begins_with (codes "=") text
