-- One turn of reading a text in pieces.
use Rattle.std.specs.Prelude.{◌&&◌, if◌then◌else◌, nat_eq, Ok}
use Rattle.std.proofs.Common.{◌≡◌, ℕ, zero, suc, ◌+◌, ◌≤◌, Bool, true, false, [], ◌∷◌, ◌++◌, length, refl, None, ap, ◌∙◌, arith}
use Rattle.std.proofs.Math.Seq.{drop-append_seam}
use Rattle.std.proofs.lemmas.List.{length-append}
use Rattle.script_tree.specs.declared.token.Token.{Token}
use Rattle.script_tree.specs.Lexing.{Text, is_blank, piece, after_piece, with_token, lex_from}
use Rattle.script_tree.specs.Grammar.{tokens_of}
use Rattle.script_tree.specs.Spelling.{Tokens}
use Rattle.print_parse_roundtrip.specs.Lexes.{Lexes}

pub if_true : {A : Type 0} {t : Bool} (x y : A) → t ≡ true → (if t then x else y) ≡ x
if_true x y e = ap (λ t. if t then x else y) e

pub if_false : {A : Type 0} {t : Bool} (x y : A) → t ≡ false → (if t then x else y) ≡ y
if_false x y e = ap (λ t. if t then x else y) e

pub if_case : {A : Type 0} (P : A → Type 0) (c : Bool) (x y : A) → (c ≡ true → P x) → (c ≡ false → P y) → P (if c then x else y)
if_case P true x y hit miss = hit refl
if_case P false x y hit miss = miss refl

pub by_cases : {P : Type 0} (c : Bool) → (c ≡ true → P) → (c ≡ false → P) → P
by_cases true hit miss = hit refl
by_cases false hit miss = miss refl

pub both : (a b : Bool) → (a && b) ≡ true → (a ≡ true) × (b ≡ true)
both true b e = (refl, e)
both false b e = absurd (cc)

pub join : (a b : Bool) → a ≡ true → b ≡ true → (a && b) ≡ true
join true b e f = f
join false b e f = absurd (cc)

-- ---- the end, and a blank

pub ended : (n at : ℕ) → lex_from n at [] ≡ record { tokens = []; fault = None }
ended zero at = refl
ended (suc n) at = refl

blank_turn : (n at b : ℕ) (rest : Text) → is_blank b ≡ true → lex_from (suc n) at (b ∷ rest) ≡ lex_from n (at + 1) rest
blank_turn n at b rest blank = if_true _ _ blank

blank_tokens : (n at b : ℕ) (rest : Text) (ts : Tokens) → is_blank b ≡ true → Lexes rest ts → length (b ∷ rest) ≤ n → tokens_of (lex_from n at (b ∷ rest)).tokens ≡ ts
blank_tokens zero at b rest ts blank more enough = absurd (omega arith)
blank_tokens (suc n) at b rest ts blank more enough = ap (λ l. tokens_of l.tokens) (blank_turn n at b rest blank) ∙ more.tokens n (at + 1) (omega arith)

blank_whole : (n at b : ℕ) (rest : Text) (ts : Tokens) → is_blank b ≡ true → Lexes rest ts → length (b ∷ rest) ≤ n → (lex_from n at (b ∷ rest)).fault ≡ None
blank_whole zero at b rest ts blank more enough = absurd (omega arith)
blank_whole (suc n) at b rest ts blank more enough = ap (λ l. l.fault) (blank_turn n at b rest blank) ∙ more.whole n (at + 1) (omega arith)

pub with_blank : (b : ℕ) (rest : Text) (ts : Tokens) → is_blank b ≡ true → Lexes rest ts → Lexes (b ∷ rest) ts
with_blank b rest ts blank more = record {
  tokens = λ n at enough. blank_tokens n at b rest ts blank more enough;
  whole = λ n at enough. blank_whole n at b rest ts blank more enough;
}

-- ---- a piece

-- a piece of these bytes stands in front of the rest
pub record Begins (b : ℕ) (bs rest : Text) (token : Token) : Type 0 where
  pub no_blank : is_blank b ≡ false
  pub no_comment : nat_eq b 35 ≡ false
  pub is : piece (b ∷ (bs ++ rest)) ≡ Ok (token, length (b ∷ bs))

piece_turn : (n at b : ℕ) (bs rest : Text) (token : Token) → Begins b bs rest token → lex_from (suc n) at (b ∷ (bs ++ rest)) ≡ with_token at token (lex_from n (at + length (b ∷ bs)) rest)
piece_turn n at b bs rest token front =
    if_false _ _ front.no_blank ∙ if_false _ _ front.no_comment ∙ ap (after_piece (lex_from n) at (b ∷ (bs ++ rest))) front.is
    ∙ ap (λ r. with_token at token (lex_from n (at + length (b ∷ bs)) r)) (drop-append_seam (b ∷ bs) rest)

enough_left : (n b : ℕ) (bs rest : Text) → length (b ∷ (bs ++ rest)) ≤ suc n → length rest ≤ n
enough_left n b bs rest enough = omega (arith, length-append bs rest)

piece_tokens : (n at b : ℕ) (bs rest : Text) (token : Token) (ts : Tokens) → Begins b bs rest token → Lexes rest ts → length (b ∷ (bs ++ rest)) ≤ n → tokens_of (lex_from n at (b ∷ (bs ++ rest))).tokens ≡ token ∷ ts
piece_tokens zero at b bs rest token ts front more enough = absurd (omega arith)
piece_tokens (suc n) at b bs rest token ts front more enough =
    ap (λ l. tokens_of l.tokens) (piece_turn n at b bs rest token front) ∙ ap (λ us. token ∷ us) (more.tokens n (at + length (b ∷ bs)) (enough_left n b bs rest enough))

piece_whole : (n at b : ℕ) (bs rest : Text) (token : Token) (ts : Tokens) → Begins b bs rest token → Lexes rest ts → length (b ∷ (bs ++ rest)) ≤ n → (lex_from n at (b ∷ (bs ++ rest))).fault ≡ None
piece_whole zero at b bs rest token ts front more enough = absurd (omega arith)
piece_whole (suc n) at b bs rest token ts front more enough =
    ap (λ l. l.fault) (piece_turn n at b bs rest token front) ∙ more.whole n (at + length (b ∷ bs)) (enough_left n b bs rest enough)

pub with_piece : (b : ℕ) (bs rest : Text) (token : Token) (ts : Tokens) → Begins b bs rest token → Lexes rest ts → Lexes ((b ∷ bs) ++ rest) (token ∷ ts)
with_piece b bs rest token ts front more = record {
  tokens = λ n at enough. piece_tokens n at b bs rest token ts front more enough;
  whole = λ n at enough. piece_whole n at b bs rest token ts front more enough;
}
