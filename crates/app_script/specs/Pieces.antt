-- What the functions of a piece answer.
use Rattle.std.specs.Prelude.{◌≡◌, ℕ, ◌+◌, ◌≤◌, ℤ, pos, nat_eq, nat_lt, ◌&&◌, [], ◌∷◌, ◌++◌, if◌then◌else◌, Option, Some, None, Result, Ok, Err}
use Rattle.std.specs.List.{list_all}
use Rattle.std.specs.Char.{is_ascii_digit}
use Rattle.flow_base.specs.TextBytes.{IsTextByte}
use Rattle.script_tree.specs.declared.token.Token.{Token}
use Rattle.script_tree.specs.declared.token.Token.TheVariants as t
use Rattle.script_tree.specs.declared.token.Symbol.{Symbol}
use Rattle.script_tree.specs.declared.fault.SyntaxFault.{SyntaxFault}
use Rattle.script_tree.specs.declared.fault.SyntaxFault.TheVariants.{WrongToken}
use Rattle.script_tree.specs.Lexing.{Text, Piece, digits_value, is_number, is_printable, escaped}
use Rattle.app_script.specs.declared.piece.Part.{Part}
use Rattle.app_script.specs.declared.piece.Part.TheVariants.{End, Byte}
use Rattle.app_script.specs.declared.piece.PieceFault.{PieceFault}
use Rattle.app_script.specs.declared.piece.PieceFault.TheVariants.{Refused, NoMemory}

-- the answer is this piece, or the memory ran out
abbrev pub IsPiece : Result (Token × ℕ) PieceFault → Piece → Type 0
IsPiece (Ok p) piece = piece ≡ Ok p
IsPiece (Err (Refused kind)) piece = piece ≡ Err kind
IsPiece (Err NoMemory) piece = Unit {0}

abbrev pub symbol_of : Result (Symbol × ℕ) SyntaxFault → Piece
symbol_of (Ok p) = Ok (t.Symbol p.0, p.1)
symbol_of (Err kind) = Err kind

-- the value of a run of digits, where it is below a limit
abbrev pub value_below : ℕ → Text → Option ℕ
value_below limit run = if list_all is_ascii_digit run && nat_lt (digits_value run) limit then Some (digits_value run) else None

abbrev pub number_of : Text → Option ℤ
number_of run = if is_number run then Some (pos (digits_value run)) else None

-- ---- texts

abbrev pub escape_part : Option ℕ → Option Part
escape_part (Some b) = Some (Byte b 2)
escape_part None = None

abbrev pub part_behind : Text → Option Part
part_behind [] = None
part_behind (b ∷ bs) = escape_part (escaped b)

-- what stands at the front of a text behind its quote
abbrev pub part : Text → Option Part
part [] = None
part (b ∷ bs) = if nat_eq b 34 then Some End else (if nat_eq b 92 then part_behind bs else (if is_printable b then Some (Byte b 1) else None))

abbrev pub IsPartWithin : ℕ → Part → Type 0
IsPartWithin n End = 1 ≤ n
IsPartWithin n (Byte b taken) = (1 ≤ taken) × (taken ≤ n) × IsTextByte b

-- bytes before those of an end, which took n bytes more
abbrev pub with_front : Text → ℕ → Option (Text × ℕ) → Option (Text × ℕ)
with_front bytes n (Some r) = Some (bytes ++ r.0, n + r.1)
with_front bytes n None = None

abbrev pub IsTextEnd : Result (Text × ℕ) PieceFault → Option (Text × ℕ) → Type 0
IsTextEnd (Ok p) end = end ≡ Some p
IsTextEnd (Err (Refused kind)) end = (end ≡ None) × (kind ≡ WrongToken)
IsTextEnd (Err NoMemory) end = Unit {0}
