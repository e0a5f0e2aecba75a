-- A name is one piece of a script.
use Rattle.std.specs.Prelude.{◌&&◌, not, nat_eq, nat_le, bytes_eq, map, take, Ok, Err}
use Rattle.std.specs.List.{prefix_len, list_all}
use Rattle.std.specs.Char.{is_ascii_digit}
use Rattle.std.proofs.Common.{◌≡◌, ℕ, suc, ◌+◌, Bool, true, false, List, [], ◌∷◌, length, Option, Some, None, refl, ap, sym, subst, ◌∙◌, arith}
use Rattle.std.proofs.lemmas.List.{take_all}
use Rattle.script_tree.specs.declared.token.Keyword.{Keyword}
use Rattle.script_tree.specs.declared.token.Symbol.{Symbol}
use Rattle.script_tree.specs.declared.token.Token.{Token}
use Rattle.script_tree.specs.declared.token.Token.TheVariants as t
use Rattle.script_tree.specs.declared.fault.SyntaxFault.{SyntaxFault}
use Rattle.script_tree.specs.declared.fault.SyntaxFault.TheVariants.{WrongToken, WrongNumber}
use Rattle.script_tree.specs.BuiltIns.{lookup}
use Rattle.script_tree.specs.Lexing.{Piece, begins_name, is_in_name, max_name, keywords, named, name_piece, is_number, number_piece, text_end, text_piece, symbols, symbol_piece, piece}
use Rattle.event_log.specs.LogWords.{is_one_of, is_keyword}
use Rattle.event_log.specs.Logs.{IsName}
use Rattle.event_log.specs.Reading.{is_run, is_name, if_passes, name_of, end_word_of}
use Rattle.event_log.specs.LogWords.{is_end_word}
use Rattle.event_log.proofs.Branches.{if_true, if_false, if_case, by_cases, parts_of, join}
use Rattle.event_log.proofs.Readers.{IsWord}
use Rattle.event_log.proofs.Names.{run_in_name, name_plain, end_word_plain}

-- ---- the run of bytes of names

whole_run : (p : ℕ → Bool) (w : List ℕ) → list_all p w ≡ true → prefix_len p w ≡ length w
whole_run p [] all = refl
whole_run p (b ∷ bs) all =
    let parts = parts_of (p b) (list_all p bs) all in
    if_true _ _ parts.0 ∙ ap (λ n. 1 + n) (whole_run p bs parts.1) ∙ omega arith

run_passes : (p : ℕ → Bool) (w : List ℕ) → list_all p (take (prefix_len p w) w) ≡ true
run_passes p [] = refl
run_passes p (b ∷ bs) = by_cases (p b)
    (λ e.
    let n : prefix_len p (b ∷ bs) ≡ suc (prefix_len p bs) = if_true _ _ e ∙ omega arith in
    ap (λ k. list_all p (take k (b ∷ bs))) n ∙ join (p b) (list_all p (take (prefix_len p bs) bs)) e (run_passes p bs))
    (λ e. ap (λ k. list_all p (take k (b ∷ bs))) (if_false _ _ e))

abbrev run_at : List ℕ → List ℕ
run_at w = take (prefix_len is_in_name w) w

-- ---- keywords

none_found : (es : List (List ℕ × Keyword)) (w : List ℕ) → is_one_of (map (λ e. e.0) es) w ≡ false → lookup es w ≡ None
none_found [] w e = refl
none_found (x ∷ xs) w e = by_cases (bytes_eq x.0 w)
    (λ same. let yes : true ≡ false = sym (if_true true (is_one_of (map (λ e. e.0) xs) w) same) ∙ e in absurd (cc))
    (λ differ. if_false _ _ differ ∙ none_found xs w (sym (if_false true (is_one_of (map (λ e. e.0) xs) w) differ) ∙ e))

is_none_of : (es : List (List ℕ × Keyword)) (w : List ℕ) → lookup es w ≡ None → is_one_of (map (λ e. e.0) es) w ≡ false
is_none_of [] w e = refl
is_none_of (x ∷ xs) w e = by_cases (bytes_eq x.0 w)
    (λ same. let yes : Some x.1 ≡ None = sym (if_true (Some x.1) (lookup xs w) same) ∙ e in absurd (cc))
    (λ differ. if_false _ _ differ ∙ is_none_of xs w (sym (if_false (Some x.1) (lookup xs w) differ) ∙ e))

-- ---- a name is a piece

not_true : (b : Bool) → not b ≡ true → b ≡ false
not_true true e = absurd (cc)
not_true false e = refl

run_piece : (b : ℕ) (bs : List ℕ) → is_name (b ∷ bs) ≡ true → piece (b ∷ bs) ≡ Ok (t.Name (b ∷ bs), length (b ∷ bs))
run_piece b bs h =
    let w = b ∷ bs in
    let parts = parts_of (is_run w) (nat_le (length w) max_name && not (is_keyword w)) h in
    let others = parts_of (nat_le (length w) max_name) (not (is_keyword w)) parts.1 in
    let begins = (parts_of (begins_name b) (list_all is_in_name bs) parts.0).0 in
    let run : run_at w ≡ w = take_all (prefix_len is_in_name w) w (omega (arith, whole_run is_in_name w (run_in_name w parts.0))) in
    if_true _ _ begins ∙ ap name_piece run ∙ if_true _ _ others.0 ∙ ap (λ o. Ok (named o w, length w)) (none_found keywords w (not_true (is_keyword w) others.1))

pub name_is_piece : (w : List ℕ) → is_name w ≡ true → IsName w
name_is_piece [] h = absurd (cc)
name_is_piece (b ∷ bs) h = run_piece b bs h

-- ---- a piece that is a name

abbrev piece_of : Token → ℕ → Piece
piece_of token n = Ok (token, n)

same_token : (a b : Token) (m n : ℕ) → piece_of a m ≡ piece_of b n → a ≡ b
same_token a b m n e = let same : ◌≡◌ {A = Token × ℕ} (a, m) (b, n) = cc in ap (λ p. p.0) same

named_name : (o : Option Keyword) (run w : List ℕ) → named o run ≡ t.Name w → (o ≡ None) × (run ≡ w)
named_name (Some k) run w e = absurd (cc)
named_name None run w e = (refl, cc)

-- a piece is no name
abbrev NoName : Piece → Type 0
NoName p = (w : List ℕ) (n : ℕ) → p ≡ piece_of (t.Name w) n → ⊥

token_no_name : (a : Token) (n : ℕ) → ((w : List ℕ) → a ≡ t.Name w → ⊥) → NoName (piece_of a n)
token_no_name a n other w m e = other w (same_token a (t.Name w) n m e)

fault_no_name : (f : SyntaxFault) → NoName (Err f)
fault_no_name f w n e = cc

number_no_name : (run : List ℕ) → NoName (number_piece run)
number_no_name run = if_case NoName (is_number run) _ _ (λ _. token_no_name _ _ (λ w e. cc)) (λ _. fault_no_name WrongNumber)

text_no_name : (o : Option (List ℕ × ℕ)) → NoName (text_piece o)
text_no_name (Some r) = token_no_name _ _ (λ w e. cc)
text_no_name None = fault_no_name WrongToken

symbol_no_name : (es : List (List ℕ × Symbol)) (text : List ℕ) → NoName (symbol_piece es text)
symbol_no_name [] text = fault_no_name _
symbol_no_name (x ∷ xs) text = if_case NoName _ _ _ (λ _. token_no_name _ _ (λ w e. cc)) (λ _. symbol_no_name xs text)

module _ (b : ℕ) (bs : List ℕ) where
  abbrev Named : Piece → Type 0
  Named p = p ≡ piece_of (t.Name (b ∷ bs)) (length (b ∷ bs)) → is_name (b ∷ bs) ≡ true

  name_named : begins_name b ≡ true → Named (name_piece (run_at (b ∷ bs)))
  name_named begins = if_case Named (nat_le (length (run_at (b ∷ bs))) max_name) _ _
      (λ short e.
      let w = b ∷ bs in
      let parts = named_name (lookup keywords (run_at w)) (run_at w) w (same_token _ _ _ _ e) in
      let all : list_all is_in_name w ≡ true = subst (λ r. list_all is_in_name r ≡ true) parts.1 (run_passes is_in_name w) in
      let few : nat_le (length w) max_name ≡ true = subst (λ r. nat_le (length r) max_name ≡ true) parts.1 short in
      let free : is_keyword w ≡ false = is_none_of keywords w (subst (λ r. lookup keywords r ≡ None) parts.1 parts.0) in
      let run : is_run w ≡ true = join (begins_name b) (list_all is_in_name bs) begins (parts_of (is_in_name b) (list_all is_in_name bs) all).1 in
      join (is_run w) (nat_le (length w) max_name && not (is_keyword w)) run (join (nat_le (length w) max_name) (not (is_keyword w)) few (ap not free)))
      (λ _ e. absurd (cc))

  none_named : (p : Piece) → NoName p → Named p
  none_named p other e = absurd (other (b ∷ bs) (length (b ∷ bs)) e)

  piece_named : Named (piece (b ∷ bs))
  piece_named = if_case Named (begins_name b) _ _ name_named
      (λ _. if_case Named (is_ascii_digit b) _ _ (λ _. none_named _ (number_no_name (run_at (b ∷ bs))))
      (λ _. if_case Named (nat_eq b 34) _ _ (λ _. none_named _ (text_no_name (text_end bs))) (λ _. none_named _ (symbol_no_name symbols (b ∷ bs)))))

pub piece_is_name : (w : List ℕ) → IsName w → is_name w ≡ true
piece_is_name [] h = absurd (cc)
piece_is_name (b ∷ bs) h = piece_named b bs h

-- ---- words that pass a test

if_passes_some : (test : List ℕ → Bool) (w v : List ℕ) → if_passes test w ≡ Some v → (test w ≡ true) × (w ≡ v)
if_passes_some test w v = if_case (λ o. o ≡ Some v → (test w ≡ true) × (w ≡ v)) (test w) (Some w) None (λ yes e. (yes, cc)) (λ no e. absurd (cc))

pub word_of_name : IsWord name_of (λ w. w) IsName
word_of_name = record {
  takes = λ w v e. let p = if_passes_some is_name w v e in (subst IsName p.1 (name_is_piece w p.0), p.1);
  again = λ w is. if_true _ _ (piece_is_name w is);
  plain = λ w is. name_plain w (piece_is_name w is);
}

pub word_of_end : IsWord end_word_of (λ w. w) (λ w. is_end_word w ≡ true)
word_of_end = record {
  takes = λ w v e. let p = if_passes_some is_end_word w v e in (subst (λ x. is_end_word x ≡ true) p.1 p.0, p.1);
  again = λ w is. if_true _ _ is;
  plain = λ w is. end_word_plain w is;
}
