-- The apps of a tree that has a text have names.
use Rattle.std.proofs.Common.{◌≡◌, ℕ, zero, suc, ◌+◌, Bool, true, List, [], ◌∷◌, length, Option, Some, None, refl, sym, ◌∙◌, ap, subst, arith, slice_get}
use Rattle.std.specs.Prelude.{nat_eq, nat_le, pos, flat_map, Ok, Err, take, drop}
use Rattle.std.specs.List.{prefix_len}
use Rattle.std.specs.Char.{is_ascii_digit}
use Rattle.script_tree.specs.declared.tree.AppDef.{AppDef}
use Rattle.script_tree.specs.declared.token.Keyword.{Keyword}
use Rattle.script_tree.specs.declared.token.Keyword.TheVariants as w
use Rattle.script_tree.specs.declared.token.Symbol.{Symbol}
use Rattle.script_tree.specs.declared.token.Token.{Token}
use Rattle.script_tree.specs.declared.token.Token.TheVariants as t
use Rattle.script_tree.specs.declared.fault.SyntaxFault.TheVariants.{WrongNumber}
use Rattle.script_tree.specs.BuiltIns.{lookup}
use Rattle.script_tree.specs.Grammar.{tokens_of}
use Rattle.script_tree.specs.Lexing.{Text, Lexed, Piece, begins_name, is_in_name, max_name, keywords, named, name_piece, digits_value, is_number, number_piece, text_end, text_piece, symbols, begins_with, symbol_piece, piece, lex, lex_from, after_piece, after_comment, is_blank, is_in_comment}
use Rattle.script_tree.specs.Spelling.{app, when, word, script}
use Rattle.event_log.specs.Logs.{IsName}
use Rattle.event_log.proofs.Branches.{if_true, if_false, if_case, by_cases}
use Rattle.body_requests.specs.Asks.{Each}
use Rattle.body_requests.proofs.Acts.{each_parts}
use Rattle.log_lines.specs.Lines.{TextsHaveNames}

-- ---- the bytes of a name

module _ (p : ℕ → Bool) where
  abbrev front : Text → Text
  front text = take (prefix_len p text) text

  front_passes : (b : ℕ) (bs : Text) → p b ≡ true → front (b ∷ bs) ≡ b ∷ front bs
  front_passes b bs e =
      let count : prefix_len p (b ∷ bs) ≡ suc (prefix_len p bs) = if_true _ _ e ∙ omega arith in
      ap (λ n. take n (b ∷ bs)) count

  -- a front of bytes that pass is its own
  front_again : (text : Text) → front (front text) ≡ front text
  front_again [] = refl
  front_again (b ∷ bs) = by_cases (p b)
      (λ e. ap front (front_passes b bs e) ∙ front_passes b (front bs) e ∙ ap (λ (x : Text). b ∷ x) (front_again bs) ∙ sym (front_passes b bs e))
      (λ e.
      let none : front (b ∷ bs) ≡ [] = ap (λ n. take n (b ∷ bs)) (if_false (1 + prefix_len p bs) 0 e) in
      ap front none ∙ sym none)

begins_in : (b : ℕ) → begins_name b ≡ true → is_in_name b ≡ true
begins_in b h = rw h refl

-- ---- the pieces of a text

-- a name by the grammar, where it is one
abbrev IsGoodToken : Token → Type 0
IsGoodToken (t.Name name) = IsName name
IsGoodToken _ = Unit {0}

abbrev IsGoodPiece : Piece → Type 0
IsGoodPiece (Ok p) = IsGoodToken p.0
IsGoodPiece (Err kind) = Unit {0}

name_again : (b : ℕ) (bs : Text) → begins_name b ≡ true → piece (front is_in_name (b ∷ bs)) ≡ name_piece (front is_in_name (b ∷ bs))
name_again b bs begins =
    let one = front_passes is_in_name b bs (begins_in b begins) in
    ap piece one ∙ if_true _ _ begins ∙ ap (λ (x : Text). name_piece (front is_in_name x)) (sym one) ∙ ap name_piece (front_again is_in_name (b ∷ bs))

good_named : (run : Text) (word : Option Keyword) → lookup keywords run ≡ word → piece run ≡ Ok (named (lookup keywords run) run, length run) → IsGoodToken (named word run)
good_named run (Some k) e is = tt
good_named run None e is = is ∙ ap (λ (o : Option Keyword). Ok (named o run, length run)) e

good_name : (b : ℕ) (bs : Text) → begins_name b ≡ true → IsGoodPiece (name_piece (front is_in_name (b ∷ bs)))
good_name b bs begins =
    let run = front is_in_name (b ∷ bs) in
    if_case IsGoodPiece (nat_le (length run) max_name) _ _
    (λ short. good_named run (lookup keywords run) refl (name_again b bs begins ∙ if_true _ _ short))
    (λ _. tt)

good_number : (run : Text) → IsGoodPiece (number_piece run)
good_number run = if_case IsGoodPiece (is_number run) (Ok (t.Number (pos (digits_value run)), length run)) (Err WrongNumber) (λ _. tt) (λ _. tt)

good_text : (o : Option (Text × ℕ)) → IsGoodPiece (text_piece o)
good_text (Some r) = tt
good_text None = tt

good_symbol : (es : List (Text × Symbol)) (text : Text) → IsGoodPiece (symbol_piece es text)
good_symbol [] text = tt
good_symbol (e ∷ es) text = if_case IsGoodPiece (begins_with e.0 text) (Ok (t.Symbol e.1, length e.0)) (symbol_piece es text) (λ _. tt) (λ _. good_symbol es text)

good_piece : (b : ℕ) (bs : Text) → IsGoodPiece (piece (b ∷ bs))
good_piece b bs = if_case IsGoodPiece (begins_name b) _ _ (good_name b bs)
    (λ _. if_case IsGoodPiece (is_ascii_digit b) _ _ (λ _. good_number (front is_in_name (b ∷ bs)))
    (λ _. if_case IsGoodPiece (nat_eq b 34) _ _ (λ _. good_text (text_end bs)) (λ _. good_symbol symbols (b ∷ bs))))

-- ---- the tokens of a text

abbrev IsGood : Lexed → Type 0
IsGood l = Each IsGoodToken (tokens_of l.tokens)

abbrev ReadsGood : (ℕ → Text → Lexed) → Type 0
ReadsGood go = (at : ℕ) (text : Text) → IsGood (go at text)

good_comment : (go : ℕ → Text → Lexed) → ReadsGood go → (at : ℕ) (text : Text) → IsGood (after_comment go at text)
good_comment go good at [] = good at []
good_comment go good at (b ∷ bs) = if_case IsGood (nat_eq b 10) _ _ (λ _. good (at + 1) bs) (λ _. tt)

good_after : (go : ℕ → Text → Lexed) → ReadsGood go → (at : ℕ) (text : Text) (p : Piece) → IsGoodPiece p → IsGood (after_piece go at text p)
good_after go good at text (Ok p) h = (h, good (at + p.1) (drop p.1 text))
good_after go good at text (Err kind) h = tt

good_lex : (n : ℕ) → ReadsGood (lex_from n)
good_lex n at [] = tt
good_lex zero at (b ∷ bs) = tt
good_lex (suc n) at (b ∷ bs) =
    if_case IsGood (is_blank b) _ _ (λ _. good_lex n (at + 1) bs)
    (λ _. if_case IsGood (nat_eq b 35) _ _ (λ _. good_comment (lex_from n) (good_lex n) (at + 1 + prefix_len is_in_comment bs) (drop (prefix_len is_in_comment bs) bs))
    (λ _. good_after (lex_from n) (good_lex n) at (b ∷ bs) (piece (b ∷ bs)) (good_piece b bs)))

good_tokens : (text : Text) → IsGood (lex text)
unfolding lex
good_tokens text = good_lex (length text) 0 text

-- ---- the apps of a tree

app_name : (a : AppDef) → Each IsGoodToken (app a) → IsName a.name
app_name a each =
    let behind_cached = (each_parts IsGoodToken (when a.cached (word w.Cached)) _ each).1 in
    (each_parts IsGoodToken (when a.join (word w.Join)) _ behind_cached).1.1.0

app_names : (apps : List AppDef) → Each IsGoodToken (flat_map app apps) → (k : ℕ) (a : AppDef) → slice_get apps k ≡ Some a → IsName a.name
app_names [] each k a at = absurd (cc)
app_names (x ∷ xs) each zero a at =
    let same : x ≡ a = cc in
    subst (λ (y : AppDef). IsName y.name) same (app_name x (each_parts IsGoodToken (app x) (flat_map app xs) each).0)
app_names (x ∷ xs) each (suc k) a at = app_names xs (each_parts IsGoodToken (app x) (flat_map app xs) each).1 k a at

pub texts-names : TextsHaveNames
texts-names text tree places has =
    let each : Each IsGoodToken (script tree) = subst (Each IsGoodToken) has.tokens (good_tokens text) in
    app_names tree.0 (each_parts IsGoodToken (flat_map app tree.0) _ each).0
