-- What a lexer has left, and what it answers.
use Rattle.std.specs.Prelude.{◌≡◌, ℕ, ◌+◌, ◌≤◌, ◌<◌, Bool, true, false, nat_eq, [], ◌∷◌, length, drop, Option, Some, None, Result, Ok, Err}
use Rattle.script_tree.specs.declared.fault.SyntaxFault.TheVariants.{WrongByte}
use Rattle.script_tree.specs.Lexing.{Text, Lexed, lex_from, is_blank, with_token, stops_at}
use Rattle.app_script.specs.declared.lexer.PlacedToken.{PlacedToken}
use Rattle.app_script.specs.declared.lexer.LexFault.{LexFault}
use Rattle.app_script.specs.declared.lexer.LexFault.TheVariants.{Refused, NoMemory}
use Rattle.app_script.specs.Unread.{Unread}

-- the tokens of a text whose first byte stands at a place
unfoldable pub lexed : ℕ → Text → Lexed
lexed at text = lex_from (length text) at text

abbrev pub left : Unread → Lexed
left unread = lexed unread.place unread.text

abbrev pub nothing_left : Lexed
nothing_left = record { tokens = []; fault = None }

-- the answer is the first of the tokens that were left, and the others are left now
abbrev pub IsNext : Result (Option PlacedToken) LexFault → Unread → Unread → Type 0
IsNext (Ok (Some t)) old new = left old ≡ with_token t.place t.token (left new)
IsNext (Ok None) old new = left old ≡ nothing_left
IsNext (Err (Refused kind place)) old new = left old ≡ stops_at place kind
IsNext (Err NoMemory) old new = Unit {0}

abbrev pub IsShorter : Result (Option PlacedToken) LexFault → Unread → Unread → Type 0
IsShorter (Ok (Some t)) old new = length new.text < length old.text
IsShorter _ old new = Unit {0}

-- ---- blanks and comments

abbrev pub BeginsPiece : Text → Type 0
BeginsPiece [] = Unit {0}
BeginsPiece (b ∷ bs) = (is_blank b ≡ false) × (nat_eq b 35 ≡ false)

-- the tokens of the text are those behind so many bytes
abbrev pub PassesOver : ℕ → Text → Type 0
PassesOver n text = (at : ℕ) → lexed at text ≡ lexed (at + n) (drop n text)

-- the text has no token, and a fault at this byte of a comment
abbrev pub StopsIn : ℕ → Text → Type 0
StopsIn n text = (at : ℕ) → lexed at text ≡ stops_at (at + n) WrongByte

-- so many bytes are passed over, or there is the fault
abbrev pub IsGap : Result ℕ ℕ → Text → Type 0
IsGap (Ok n) text = (n ≤ length text) × PassesOver n text
IsGap (Err n) text = (n ≤ length text) × StopsIn n text

abbrev pub IsWholeGap : Result ℕ ℕ → Text → Type 0
IsWholeGap (Ok n) text = BeginsPiece (drop n text)
IsWholeGap (Err n) text = Unit {0}

-- with none passed over, a piece begins
abbrev pub IsGapPart : Result ℕ ℕ → Text → Type 0
IsGapPart (Ok n) text = n ≡ 0 → BeginsPiece text
IsGapPart (Err n) text = Unit {0}

-- the line of a comment ends here
abbrev pub ends_line : Text → Bool
ends_line [] = true
ends_line (b ∷ bs) = nat_eq b 10
