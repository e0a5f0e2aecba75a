-- Texts that are read as tokens, put together.
use Rattle.std.proofs.Common.{◌≡◌, ℕ, zero, suc, false, [], ◌∷◌, ◌++◌, refl, sym, subst, append_assoc, replicate, codes}
use Rattle.std.proofs.lemmas.List.Elements.{All-nil, All-cons, All-head, All-tail}
use Rattle.script_tree.specs.declared.token.Token.TheVariants as t
use Rattle.script_tree.specs.declared.token.Keyword.{Keyword}
use Rattle.script_tree.specs.Lexing.{Text}
use Rattle.script_tree.specs.Canonical as canonical
use Rattle.script_tree.specs.Spelling.{Tokens}
use Rattle.print_parse_roundtrip.specs.Lexes.{Lexes, IsToken, AreTokens, word_text, goes_on}
use Rattle.print_parse_roundtrip.proofs.Pieces.{behind_blank, with_name, with_word, with_text}

all_left : (ts us : Tokens) → AreTokens (ts ++ us) → AreTokens ts
all_left [] us h = All-nil IsToken
all_left (k ∷ ts) us h = All-cons IsToken k ts (All-head IsToken k (ts ++ us) h) (all_left ts us (All-tail IsToken k (ts ++ us) h))

all_right : (ts us : Tokens) → AreTokens (ts ++ us) → AreTokens us
all_right [] us h = h
all_right (k ∷ ts) us h = all_right ts us (All-tail IsToken k (ts ++ us) h)

-- the text is read as these tokens, before any text
pub record Whole (x : Text) (ts : Tokens) : Type 0 where
  pub at : AreTokens ts → (rest : Text) (us : Tokens) → Lexes rest us → Lexes (x ++ rest) (ts ++ us)

-- the same before a text that no name goes on with
pub record Reads (x : Text) (ts : Tokens) : Type 0 where
  pub at : AreTokens ts → (rest : Text) (us : Tokens) → goes_on rest ≡ false → Lexes rest us → Lexes (x ++ rest) (ts ++ us)

-- no name goes on with the text itself
pub record Part (x : Text) (ts : Tokens) : Type 0 where
  pub ends : (rest : Text) → goes_on rest ≡ false → goes_on (x ++ rest) ≡ false
  pub reads : Reads x ts

-- the same before any text
pub record Closing (x : Text) (ts : Tokens) : Type 0 where
  pub ends : (rest : Text) → goes_on (x ++ rest) ≡ false
  pub whole : Whole x ts

pub same : (x : Text) (ts us : Tokens) → ts ≡ us → Whole x ts → Whole x us
same x ts us e a = subst (λ (z : Tokens). Whole x z) e a

joined : (x y rest : Text) (ts us vs : Tokens) → Lexes (x ++ (y ++ rest)) (ts ++ (us ++ vs)) → Lexes ((x ++ y) ++ rest) ((ts ++ us) ++ vs)
joined x y rest ts us vs h = subst (λ (z : Text). Lexes z ((ts ++ us) ++ vs)) (sym (append_assoc x y rest)) (subst (λ (z : Tokens). Lexes (x ++ (y ++ rest)) z) (sym (append_assoc ts us vs)) h)

joined_ends : (x y rest : Text) → goes_on (x ++ (y ++ rest)) ≡ false → goes_on ((x ++ y) ++ rest) ≡ false
joined_ends x y rest h = subst (λ (z : Text). goes_on z ≡ false) (sym (append_assoc x y rest)) h

module _ {x : Text} {ts : Tokens} where
  pub whole_reads : Whole x ts → Reads x ts
  whole_reads a = record { at = λ valid rest us ends more. a.at valid rest us more }

  pub closing_part : Closing x ts → Part x ts
  closing_part a = record { ends = λ rest h. a.ends rest; reads = whole_reads a.whole }

module _ {x y : Text} {ts us : Tokens} where
  pub then_whole : Whole x ts → Whole y us → Whole (x ++ y) (ts ++ us)
  then_whole a b = record { at = λ valid rest vs more. joined x y rest ts us vs (a.at (all_left ts us valid) (y ++ rest) (us ++ vs) (b.at (all_right ts us valid) rest vs more)) }

  pub then_reads : Whole x ts → Reads y us → Reads (x ++ y) (ts ++ us)
  then_reads a b = record { at = λ valid rest vs ends more. joined x y rest ts us vs (a.at (all_left ts us valid) (y ++ rest) (us ++ vs) (b.at (all_right ts us valid) rest vs ends more)) }

  pub then_part : Reads x ts → Part y us → Reads (x ++ y) (ts ++ us)
  then_part a b = record { at = λ valid rest vs ends more. joined x y rest ts us vs (a.at (all_left ts us valid) (y ++ rest) (us ++ vs) (b.ends rest ends) (b.reads.at (all_right ts us valid) rest vs ends more)) }

  pub then_closing : Reads x ts → Closing y us → Whole (x ++ y) (ts ++ us)
  then_closing a b = record { at = λ valid rest vs more. joined x y rest ts us vs (a.at (all_left ts us valid) (y ++ rest) (us ++ vs) (b.ends rest) (b.whole.at (all_right ts us valid) rest vs more)) }

module _ {x y : Text} {ts us : Tokens} where
  pub parts : Part x ts → Part y us → Part (x ++ y) (ts ++ us)
  parts a b = record { ends = λ rest h. joined_ends x y rest (a.ends (y ++ rest) (b.ends rest h)); reads = then_part a.reads b }

  pub closing_reads : Closing x ts → Reads y us → Part (x ++ y) (ts ++ us)
  closing_reads a b = record { ends = λ rest h. joined_ends x y rest (a.ends (y ++ rest)); reads = then_reads a.whole b }

  pub closing_whole : Closing x ts → Whole y us → Closing (x ++ y) (ts ++ us)
  closing_whole a b = record { ends = λ rest. joined_ends x y rest (a.ends (y ++ rest)); whole = then_whole a.whole b }

  pub part_closing : Part x ts → Closing y us → Closing (x ++ y) (ts ++ us)
  part_closing a b = record { ends = λ rest. joined_ends x y rest (a.ends (y ++ rest) (b.ends rest)); whole = then_closing a.reads b }

pub no_whole : Whole [] []
no_whole = record { at = λ valid rest us more. more }

pub no_part : Part [] []
no_part = record { ends = λ rest h. h; reads = whole_reads no_whole }

-- ---- single tokens

pub name_reads : (x : Text) → Reads x (t.Name x ∷ [])
name_reads x = record { at = λ valid rest us ends more. with_name x rest us (All-head IsToken (t.Name x) [] valid) ends more }

pub text_reads : (x : Text) → Reads (canonical.spelt x) (t.Text x ∷ [])
text_reads x = record { at = λ valid rest us ends more. with_text x rest us (All-head IsToken (t.Text x) [] valid) more }

pub word_reads : (k : Keyword) → Reads (word_text k) (t.Keyword k ∷ [])
word_reads k = record { at = λ valid rest us ends more. with_word k rest us ends more }

pub blank : Closing (codes " ") []
blank = record { ends = λ rest. refl; whole = record { at = λ valid rest us more. behind_blank 32 rest us refl more } }

pub newline : Closing (10 ∷ []) []
newline = record { ends = λ rest. refl; whole = record { at = λ valid rest us more. behind_blank 10 rest us refl more } }

pub blanks : (n : ℕ) → Whole (replicate n 32) []
blanks zero = no_whole
blanks (suc n) = then_whole blank.whole (blanks n)

-- a word and the blank behind it
pub word_blank : (k : Keyword) → Whole (word_text k ++ codes " ") (t.Keyword k ∷ [])
word_blank k = then_closing (word_reads k) blank
