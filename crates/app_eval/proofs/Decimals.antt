-- The decimal text of a number has text bytes alone.
use Rattle.std.proofs.Common.{ℕ, suc, ◌+◌, ◌<◌, ◌≤◌, ◌^◌, ◌%◌, List, [], ◌∷◌, ◌++◌, ℤ, pos, negsuc, arith}
use Rattle.std.proofs.lemmas.Grind.{common_steps}
use Rattle.std.proofs.lemmas.List.Elements.{All-append}
use Rattle.std.proofs.lemmas.Fmt.{decimal_by_steps}
use Rattle.std.specs.List.{All}
use Rattle.std.specs.Fmt.{decimal}
use Rattle.std.specs.Int.Signed.{mag}
use Rattle.flow_base.specs.TextBytes.{IsTextByte}
use Rattle.flow_meaning.specs.Operators.{int_text}

one_byte : (b : ℕ) → IsTextByte b → All IsTextByte (b ∷ [])
one_byte b h = grind (arith, common_steps)

digit : (n : ℕ) → n < 10 → All IsTextByte ((48 + n) ∷ [])
digit n h = one_byte (48 + n) (grind arith)

more : (n : ℕ) (ds : List ℕ) → 10 ≤ n → All IsTextByte ds → All IsTextByte (ds ++ ((48 + n % 10) ∷ []))
more n ds h all = All-append IsTextByte ds ((48 + n % 10) ∷ []) all (digit (n % 10) (omega arith))

decimal_text : (n : ℕ) → n < 2 ^ 64 → All IsTextByte (decimal n)
decimal_text = decimal_by_steps (λ n ds. All IsTextByte ds) digit more

pub int_text_bytes : (n : ℤ) → mag n < 2 ^ 63 → All IsTextByte (int_text n)
int_text_bytes (pos n) h = decimal_text n (omega arith)
int_text_bytes (negsuc n) h = All-append IsTextByte (45 ∷ []) (decimal (suc n)) (one_byte 45 (grind arith)) (decimal_text (suc n) (omega arith))
