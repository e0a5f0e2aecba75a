-- Each token of a text is one that texts have.
use Rattle.std.specs.Prelude.{◌&&◌, ◌||◌, not, nat_eq, nat_le, nat_lt, take, drop, Ok, Err, ◌^◌}
use Rattle.std.specs.List.{prefix_len, list_all}
use Rattle.std.specs.Char.{is_ascii_digit}
use Rattle.std.proofs.Common.{◌≡◌, ℕ, zero, suc, ◌+◌, ◌<◌, ◌≤◌, true, List, [], ◌∷◌, length, refl, Option, Some, None, ap, sym, subst, ◌∙◌, arith}
use Rattle.std.proofs.lemmas.Bool.Decides.{nat_tests}
use Rattle.std.proofs.lemmas.List.Elements.{All-cons, All-nil}
use Rattle.script_tree.specs.declared.token.Keyword.{Keyword}
use Rattle.script_tree.specs.declared.token.Symbol.{Symbol}
use Rattle.script_tree.specs.BuiltIns.{lookup}
use Rattle.script_tree.specs.Lexing.{Text, Lexed, Piece, is_blank, is_in_comment, is_printable, begins_name, is_in_name, max_name, keywords, named, name_piece, number_piece, is_number, digits_value, escaped, with_byte, with_escape, text_end, text_escape, text_piece, symbols, begins_with, symbol_piece, piece, after_piece, after_comment, lex_from, lex}
use Rattle.script_tree.specs.Grammar.{tokens_of}
use Rattle.print_parse_roundtrip.specs.Lexes.{is_text_byte, IsToken, AreTokens}
use Rattle.print_parse_roundtrip.proofs.Turns.{if_true, if_false, if_case, by_cases, both, join}

abbrev IsPiece : Piece → Type 0
IsPiece (Ok p) = IsToken p.0
IsPiece (Err kind) = Unit {0}

-- ---- names and numbers

abbrev run : Text → Text
run text = take (prefix_len is_in_name text) text

run_cons : (b : ℕ) (bs : Text) → is_in_name b ≡ true → run (b ∷ bs) ≡ b ∷ run bs
run_cons b bs e =
    let size : prefix_len is_in_name (b ∷ bs) ≡ suc (prefix_len is_in_name bs) = if_true _ _ e ∙ omega arith in
    ap (λ n. take n (b ∷ bs)) size

run_all : (text : Text) → list_all is_in_name (run text) ≡ true
run_all [] = refl
run_all (b ∷ bs) = by_cases (is_in_name b)
    (λ e. ap (list_all is_in_name) (run_cons b bs e) ∙ join (is_in_name b) (list_all is_in_name (run bs)) e (run_all bs))
    (λ e. let none : prefix_len is_in_name (b ∷ bs) ≡ 0 = if_false _ _ e in ap (λ n. list_all is_in_name (take n (b ∷ bs))) none)

named_is : (found : Option Keyword) (b : ℕ) (bs : Text) → lookup keywords (b ∷ bs) ≡ found → begins_name b ≡ true → list_all is_in_name bs ≡ true → length (b ∷ bs) ≤ max_name → IsToken (named found (b ∷ bs))
named_is (Some k) b bs is begins rest short = tt
named_is None b bs is begins rest short = record { first = b; others = bs; is = refl; begins = begins; rest = rest; short = short; free = is }

few : (n : ℕ) → nat_le n max_name ≡ true → n ≤ max_name
few n e = grind (arith, nat_tests)

name_is : (b : ℕ) (bs : Text) → begins_name b ≡ true → list_all is_in_name bs ≡ true → IsPiece (name_piece (b ∷ bs))
name_is b bs begins rest = if_case IsPiece (nat_le (length (b ∷ bs)) max_name) _ _
    (λ e. named_is (lookup keywords (b ∷ bs)) b bs refl begins rest (few (length (b ∷ bs)) e)) (λ e. tt)

name_byte : (b : ℕ) → begins_name b ≡ true → is_in_name b ≡ true
name_byte b e = grind (arith, nat_tests)

run_name_is : (b : ℕ) (bs : Text) → begins_name b ≡ true → IsPiece (name_piece (run (b ∷ bs)))
run_name_is b bs e = subst (λ x. IsPiece (name_piece x)) (sym (run_cons b bs (name_byte b e))) (name_is b (run bs) e (run_all bs))

below : (m n : ℕ) → nat_lt m n ≡ true → m < n
below m n e = grind (arith, nat_tests)

number_small : (x : Text) → is_number x ≡ true → digits_value x < 2 ^ 63
number_small [] e = absurd (cc)
number_small (d ∷ ds) e =
    let digits = list_all is_ascii_digit (d ∷ ds) && (nat_eq (length (d ∷ ds)) 1 || not (nat_eq d 48)) in
    below (digits_value (d ∷ ds)) (2 ^ 63) (both digits (nat_lt (digits_value (d ∷ ds)) (2 ^ 63)) e).1

number_is : (x : Text) → IsPiece (number_piece x)
number_is x = if_case IsPiece (is_number x) _ _ (λ e. record { value = digits_value x; is = refl; small = number_small x e }) (λ e. tt)

-- ---- texts

abbrev IsEnd : Option (Text × ℕ) → Type 0
IsEnd (Some r) = list_all is_text_byte r.0 ≡ true
IsEnd None = Unit {0}

abbrev IsEscape : Option ℕ → Type 0
IsEscape (Some b) = is_text_byte b ≡ true
IsEscape None = Unit {0}

byte_is : (b n : ℕ) (end : Option (Text × ℕ)) → is_text_byte b ≡ true → IsEnd end → IsEnd (with_byte b n end)
byte_is b n None e h = tt
byte_is b n (Some r) e h = join (is_text_byte b) (list_all is_text_byte r.0) e h

escape_is : (byte : Option ℕ) (end : Option (Text × ℕ)) → IsEscape byte → IsEnd end → IsEnd (with_escape byte end)
escape_is None end e h = tt
escape_is (Some b) end e h = byte_is b 2 end e h

escaped_is : (b : ℕ) → IsEscape (escaped b)
escaped_is b = if_case IsEscape (nat_eq b 110) _ _ (λ e. refl) (λ e. if_case IsEscape (nat_eq b 34) _ _ (λ f. refl) (λ f. if_case IsEscape (nat_eq b 92) _ _ (λ g. refl) (λ g. tt)))

printable_is : (b : ℕ) → is_printable b ≡ true → is_text_byte b ≡ true
printable_is b e = grind (arith, nat_tests)

record IsQuoted (text : Text) : Type 0 where
  ends : IsEnd (text_end text)
  escapes : IsEnd (text_escape text)

quoted : (text : Text) → IsQuoted text
quoted [] = record { ends = tt; escapes = tt }
quoted (b ∷ bs) =
    let h = quoted bs in
    record {
      ends = if_case IsEnd (nat_eq b 34) _ _ (λ e. refl)
          (λ e. if_case IsEnd (nat_eq b 92) _ _ (λ f. h.escapes)
          (λ f. if_case IsEnd (is_printable b) _ _ (λ g. byte_is b 1 (text_end bs) (printable_is b g) h.ends) (λ g. tt)));
      escapes = escape_is (escaped b) (text_end bs) (escaped_is b) h.ends;
    }

text_is : (end : Option (Text × ℕ)) → IsEnd end → IsPiece (text_piece end)
text_is None h = tt
text_is (Some r) h = h

-- ---- all pieces

symbol_is : (es : List (Text × Symbol)) (text : Text) → IsPiece (symbol_piece es text)
symbol_is [] text = tt
symbol_is (e ∷ es) text = if_case IsPiece (begins_with e.0 text) _ _ (λ h. tt) (λ h. symbol_is es text)

piece_is : (b : ℕ) (bs : Text) → IsPiece (piece (b ∷ bs))
piece_is b bs = if_case IsPiece (begins_name b) _ _ (λ e. run_name_is b bs e)
    (λ e. if_case IsPiece (is_ascii_digit b) _ _ (λ f. number_is (run (b ∷ bs)))
    (λ f. if_case IsPiece (nat_eq b 34) _ _ (λ g. text_is (text_end bs) (quoted bs).ends) (λ g. symbol_is symbols (b ∷ bs))))

-- ---- all turns

abbrev HasTokens : Lexed → Type 0
HasTokens l = AreTokens (tokens_of l.tokens)

after_piece_is : (go : ℕ → Text → Lexed) (at : ℕ) (text : Text) (p : Piece) → ((to : ℕ) (rest : Text) → HasTokens (go to rest)) → IsPiece p → HasTokens (after_piece go at text p)
after_piece_is go at text (Err kind) h is = All-nil IsToken
after_piece_is go at text (Ok p) h is = All-cons IsToken p.0 (tokens_of (go (at + p.1) (drop p.1 text)).tokens) is (h (at + p.1) (drop p.1 text))

after_comment_is : (go : ℕ → Text → Lexed) (at : ℕ) (text : Text) → ((to : ℕ) (rest : Text) → HasTokens (go to rest)) → HasTokens (after_comment go at text)
after_comment_is go at [] h = h at []
after_comment_is go at (b ∷ bs) h = if_case HasTokens (nat_eq b 10) _ _ (λ e. h (at + 1) bs) (λ e. All-nil IsToken)

turns_are : (n at : ℕ) (text : Text) → HasTokens (lex_from n at text)
turns_are zero at [] = All-nil IsToken
turns_are (suc n) at [] = All-nil IsToken
turns_are zero at (b ∷ bs) = All-nil IsToken
turns_are (suc n) at (b ∷ bs) = if_case HasTokens (is_blank b) _ _ (λ e. turns_are n (at + 1) bs)
    (λ e. if_case HasTokens (nat_eq b 35) _ _
    (λ f. after_comment_is (lex_from n) (at + 1 + prefix_len is_in_comment bs) (drop (prefix_len is_in_comment bs) bs) (turns_are n))
    (λ f. after_piece_is (lex_from n) at (b ∷ bs) (piece (b ∷ bs)) (turns_are n) (piece_is b bs)))

pub text_tokens : (text : Text) → AreTokens (tokens_of (lex text).tokens)
unfolding lex
text_tokens text = turns_are (length text) 0 text
