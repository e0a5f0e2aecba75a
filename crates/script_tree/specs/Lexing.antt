-- The pieces of a text.
use Rattle.std.specs.Prelude.{ℕ, zero, suc, ◌+◌, ◌-◌, ◌*◌, ◌^◌, Bool, true, false, not, ◌&&◌, ◌||◌, if◌then◌else◌, List, [], ◌∷◌, length, take, drop, fold, Option, Some, None, nat_eq, nat_lt, nat_le, pos, codes, Result, Ok, Err}
use Rattle.std.specs.List.{prefix_len, list_all}
use Rattle.std.specs.Char.{is_ascii_digit, is_ascii_alphabetic}
use Rattle.script_tree.specs.declared.token.Token.{Token}
use Rattle.script_tree.specs.declared.token.Token.TheVariants as t
use Rattle.script_tree.specs.declared.token.Keyword.{Keyword}
use Rattle.script_tree.specs.declared.token.Keyword.TheVariants as w
use Rattle.script_tree.specs.declared.token.Symbol.{Symbol}
use Rattle.script_tree.specs.declared.token.Symbol.TheVariants as s
use Rattle.script_tree.specs.declared.fault.SyntaxFault.{SyntaxFault}
use Rattle.script_tree.specs.declared.fault.SyntaxFault.TheVariants.{WrongByte, WrongToken, WrongNumber}
use Rattle.script_tree.specs.BuiltIns.{lookup}

abbrev pub Text : Type 0
Text = List ℕ

abbrev pub is_blank : ℕ → Bool
is_blank b = nat_eq b 9 || nat_eq b 10 || nat_eq b 13 || nat_eq b 32

abbrev pub is_printable : ℕ → Bool
is_printable b = nat_le 32 b && nat_le b 126

abbrev pub is_in_comment : ℕ → Bool
is_in_comment b = nat_eq b 9 || nat_eq b 13 || is_printable b

abbrev pub begins_name : ℕ → Bool
begins_name b = is_ascii_alphabetic b || nat_eq b 95

abbrev pub is_in_name : ℕ → Bool
is_in_name b = begins_name b || is_ascii_digit b

-- ---- names, numbers and texts

abbrev pub keywords : List (Text × Keyword)
keywords =
    (codes "app", w.App) ∷ (codes "cached", w.Cached) ∷ (codes "join", w.Join) ∷ (codes "main", w.Main) ∷ (codes "outputs", w.Outputs) ∷
    (codes "let", w.Let) ∷ (codes "while", w.While) ∷ (codes "for", w.For) ∷ (codes "in", w.In) ∷ (codes "if", w.If) ∷ (codes "else", w.Else) ∷
    (codes "return", w.Return) ∷ (codes "raise", w.Raise) ∷ (codes "write", w.Write) ∷ (codes "print", w.Print) ∷ (codes "checkpoint", w.Checkpoint) ∷
    (codes "call", w.Call) ∷ (codes "to", w.To) ∷ (codes "and", w.And) ∷ (codes "or", w.Or) ∷ (codes "not", w.Not) ∷ (codes "nothing", w.Nothing) ∷ []

abbrev pub named : Option Keyword → Text → Token
named (Some word) run = t.Keyword word
named None run = t.Name run

-- a piece is a token and how many bytes it takes, or what is wrong there
abbrev pub Piece : Type 0
Piece = Result (Token × ℕ) SyntaxFault

-- the most bytes of a name
abbrev pub max_name : ℕ
max_name = 64

abbrev pub name_piece : Text → Piece
name_piece run = if nat_le (length run) max_name then Ok (named (lookup keywords run) run, length run) else Err WrongToken

abbrev pub digits_value : Text → ℕ
digits_value = fold (λ n d. 10 * n + (d - 48)) 0

-- `0`, or digits that don't begin with it, at most the greatest Int
abbrev pub is_number : Text → Bool
is_number [] = false
is_number (d ∷ ds) = list_all is_ascii_digit (d ∷ ds) && (nat_eq (length (d ∷ ds)) 1 || not (nat_eq d 48)) && nat_lt (digits_value (d ∷ ds)) (2 ^ 63)

abbrev pub number_piece : Text → Piece
number_piece run = if is_number run then Ok (t.Number (pos (digits_value run)), length run) else Err WrongNumber

-- what stands behind `\` for each escape
abbrev pub escaped : ℕ → Option ℕ
escaped b = if nat_eq b 110 then Some 10 else (if nat_eq b 34 then Some 34 else (if nat_eq b 92 then Some 92 else None))

-- one more byte of a text, that took n bytes
abbrev pub with_byte : ℕ → ℕ → Option (Text × ℕ) → Option (Text × ℕ)
with_byte b n (Some r) = Some (b ∷ r.0, n + r.1)
with_byte b n None = None

abbrev pub with_escape : Option ℕ → Option (Text × ℕ) → Option (Text × ℕ)
with_escape (Some b) rest = with_byte b 2 rest
with_escape None rest = None

abbrev mutual
  -- the bytes of a text up to its closing quote, and how many bytes spell them with the quote
  pub text_end : Text → Option (Text × ℕ)
  text_end [] = None
  text_end (b ∷ bs) = if nat_eq b 34 then Some ([], 1) else (if nat_eq b 92 then text_escape bs else (if is_printable b then with_byte b 1 (text_end bs) else None))

  pub text_escape : Text → Option (Text × ℕ)
  text_escape [] = None
  text_escape (b ∷ bs) = with_escape (escaped b) (text_end bs)

abbrev pub text_piece : Option (Text × ℕ) → Piece
text_piece (Some r) = Ok (t.Text r.0, 1 + r.1)
text_piece None = Err WrongToken

-- ---- symbols, the longest first

abbrev pub symbols : List (Text × Symbol)
symbols =
    (codes "==", s.Equal) ∷ (codes "!=", s.Differ) ∷ (codes "<=", s.AtMost) ∷ (codes ">=", s.AtLeast) ∷ (codes "(", s.OpenParen) ∷ (codes ")", s.CloseParen) ∷
    (codes "[", s.OpenList) ∷ (codes "]", s.CloseList) ∷ (codes "{", s.OpenBlock) ∷ (codes "}", s.CloseBlock) ∷ (codes ",", s.Comma) ∷ (codes ";", s.Semicolon) ∷
    (codes "=", s.Assign) ∷ (codes "<", s.Less) ∷ (codes ">", s.Greater) ∷ (codes "+", s.Plus) ∷ (codes "-", s.Minus) ∷ (codes "*", s.Times) ∷ (codes "/", s.Over) ∷ (codes "%", s.Rest) ∷ []

abbrev pub begins_with : Text → Text → Bool
begins_with [] text = true
begins_with (b ∷ bs) [] = false
begins_with (b ∷ bs) (c ∷ cs) = nat_eq b c && begins_with bs cs

abbrev pub symbol_piece : List (Text × Symbol) → Text → Piece
symbol_piece [] text = Err (if begins_with (codes "!") text then WrongToken else WrongByte)
symbol_piece (e ∷ es) text = if begins_with e.0 text then Ok (t.Symbol e.1, length e.0) else symbol_piece es text

-- the piece at the front of a text that begins with no blank and no comment
abbrev pub piece : Text → Piece
piece [] = Err WrongByte
piece (b ∷ bs) =
    if begins_name b then name_piece (take (prefix_len is_in_name (b ∷ bs)) (b ∷ bs))
    else (if is_ascii_digit b then number_piece (take (prefix_len is_in_name (b ∷ bs)) (b ∷ bs))
    else (if nat_eq b 34 then text_piece (text_end bs) else symbol_piece symbols (b ∷ bs)))

-- ---- the whole text

-- the tokens with their places, up to a fault with its place or the end
pub record Lexed : Type 0 where
  pub tokens : List (ℕ × Token)
  pub fault : Option (ℕ × SyntaxFault)

abbrev pub with_token : ℕ → Token → Lexed → Lexed
with_token at token l = record l { tokens = (at, token) ∷ l.tokens }

abbrev pub stops_at : ℕ → SyntaxFault → Lexed
stops_at at kind = record { tokens = []; fault = Some (at, kind) }

-- what is left after a piece, where go reads on from a place
abbrev pub after_piece : (ℕ → Text → Lexed) → ℕ → Text → Piece → Lexed
after_piece go at text (Ok p) = with_token at p.0 (go (at + p.1) (drop p.1 text))
after_piece go at text (Err kind) = stops_at at kind

-- the end of a comment's line, or the byte that a comment may not hold
abbrev pub after_comment : (ℕ → Text → Lexed) → ℕ → Text → Lexed
after_comment go at [] = go at []
after_comment go at (b ∷ bs) = if nat_eq b 10 then go (at + 1) bs else stops_at at WrongByte

-- Each turn takes a byte at least, so the length of the text is enough turns.
abbrev pub lex_from : ℕ → ℕ → Text → Lexed
lex_from n at [] = record { tokens = []; fault = None }
lex_from zero at (b ∷ bs) = record { tokens = []; fault = None }
lex_from (suc n) at (b ∷ bs) =
    if is_blank b then lex_from n (at + 1) bs
    else (if nat_eq b 35 then after_comment (lex_from n) (at + 1 + prefix_len is_in_comment bs) (drop (prefix_len is_in_comment bs) bs)
    else after_piece (lex_from n) at (b ∷ bs) (piece (b ∷ bs)))

unfoldable pub lex : Text → Lexed
lex text = lex_from (length text) 0 text
