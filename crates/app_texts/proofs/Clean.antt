-- Texts of text bytes alone, put together with their tokens.
use Rattle.std.specs.Prelude.{◌<◌, ◌≤◌, ◌^◌, ◌%◌, nat_eq, ℤ, codes, decimal, flat_map, replicate}
use Rattle.std.specs.List.{list_all}
use Rattle.std.proofs.Common.{◌≡◌, ℕ, zero, suc, ◌+◌, true, List, [], ◌∷◌, ◌++◌, map, refl, sym, subst, All, arith}
use Rattle.std.proofs.lemmas.Bool.Decides.{nat_tests}
use Rattle.std.proofs.lemmas.Fmt.{decimal_by_steps}
use Rattle.std.proofs.lemmas.List.Elements.{All-nil, All-cons, All-head, All-tail, All-append}
use Rattle.script_tree.specs.declared.token.Token.{Token}
use Rattle.script_tree.specs.declared.token.Token.TheVariants as t
use Rattle.script_tree.specs.Lexing.{Text, is_in_name, begins_name}
use Rattle.script_tree.specs.Canonical.{spelt, spelt_byte}
use Rattle.script_tree.specs.Canonical as canonical
use Rattle.script_tree.specs.Spelling.{Tokens}
use Rattle.flow_base.specs.TextBytes.{IsTextByte}
use Rattle.print_parse_roundtrip.specs.Lexes.{IsToken, IsName, IsNumber, AreTokens, is_text_byte}
use Rattle.print_parse_roundtrip.proofs.Turns.{if_case, both}

pub all_left : (ts us : Tokens) → AreTokens (ts ++ us) → AreTokens ts
all_left [] us h = All-nil IsToken
all_left (k ∷ ts) us h = All-cons IsToken k ts (All-head IsToken k (ts ++ us) h) (all_left ts us (All-tail IsToken k (ts ++ us) h))

pub all_right : (ts us : Tokens) → AreTokens (ts ++ us) → AreTokens us
all_right [] us h = h
all_right (k ∷ ts) us h = all_right ts us (All-tail IsToken k (ts ++ us) h)

-- ---- bytes

text_byte : (b : ℕ) → is_text_byte b ≡ true → IsTextByte b
text_byte b h = grind (arith, nat_tests)

text_bytes : (x : Text) → list_all is_text_byte x ≡ true → All IsTextByte x
text_bytes [] h = All-nil IsTextByte
text_bytes (b ∷ bs) h =
    let parts = both (is_text_byte b) (list_all is_text_byte bs) h in
    All-cons IsTextByte b bs (text_byte b parts.0) (text_bytes bs parts.1)

first_byte : (b : ℕ) → begins_name b ≡ true → IsTextByte b
first_byte b h = grind (arith, nat_tests)

name_byte : (b : ℕ) → is_in_name b ≡ true → IsTextByte b
name_byte b h = grind (arith, nat_tests)

name_bytes : (x : Text) → list_all is_in_name x ≡ true → All IsTextByte x
name_bytes [] h = All-nil IsTextByte
name_bytes (b ∷ bs) h =
    let parts = both (is_in_name b) (list_all is_in_name bs) h in
    All-cons IsTextByte b bs (name_byte b parts.0) (name_bytes bs parts.1)

pub whole_name : (x : Text) → IsName x → All IsTextByte x
whole_name x h = subst (All IsTextByte) (sym h.is) (All-cons IsTextByte h.first h.others (first_byte h.first h.begins) (name_bytes h.others h.rest))

one_byte : (b : ℕ) → IsTextByte b → All IsTextByte (b ∷ [])
one_byte b h = All-cons IsTextByte b [] h (All-nil IsTextByte)

digit_byte : (n : ℕ) → n < 10 → IsTextByte (48 + n)
digit_byte n h = grind arith

digit : (n : ℕ) → n < 10 → All IsTextByte ((48 + n) ∷ [])
digit n h = one_byte (48 + n) (digit_byte n h)

more_digits : (n : ℕ) (ds : List ℕ) → 10 ≤ n → All IsTextByte ds → All IsTextByte (ds ++ ((48 + n % 10) ∷ []))
more_digits n ds h all = All-append IsTextByte ds ((48 + n % 10) ∷ []) all (digit (n % 10) (omega arith))

decimal_bytes : (n : ℕ) → n < 2 ^ 64 → All IsTextByte (decimal n)
decimal_bytes = decimal_by_steps (λ n ds. All IsTextByte ds) digit more_digits

number_bytes : (n : ℤ) → IsNumber n → All IsTextByte (canonical.number_text n)
number_bytes n h = subst (λ (z : ℤ). All IsTextByte (canonical.number_text z)) (sym h.is) (decimal_bytes h.value (omega (arith, h.small)))

spelt_one : (b : ℕ) → IsTextByte b → All IsTextByte (spelt_byte b)
spelt_one b h = if_case (All IsTextByte) (nat_eq b 10) _ _ (λ e. text_bytes (codes "\\n") refl)
    (λ e. if_case (All IsTextByte) (nat_eq b 34) _ _ (λ f. text_bytes (92 ∷ 34 ∷ []) refl)
    (λ f. if_case (All IsTextByte) (nat_eq b 92) _ _ (λ g. text_bytes (92 ∷ 92 ∷ []) refl) (λ g. one_byte b h)))

spelt_inner : (x : Text) → All IsTextByte x → All IsTextByte (flat_map spelt_byte x)
spelt_inner [] h = All-nil IsTextByte
spelt_inner (b ∷ bs) h = All-append IsTextByte (spelt_byte b) (flat_map spelt_byte bs) (spelt_one b (All-head IsTextByte b bs h)) (spelt_inner bs (All-tail IsTextByte b bs h))

spelt_bytes : (x : Text) → All IsTextByte x → All IsTextByte (spelt x)
spelt_bytes x h = All-append IsTextByte (34 ∷ flat_map spelt_byte x) (34 ∷ [])
    (All-cons IsTextByte 34 (flat_map spelt_byte x) (text_byte 34 refl) (spelt_inner x h)) (text_bytes (34 ∷ []) refl)

blank_bytes : (n : ℕ) → All IsTextByte (replicate n 32)
blank_bytes zero = All-nil IsTextByte
blank_bytes (suc n) = All-cons IsTextByte 32 (replicate n 32) (text_byte 32 refl) (blank_bytes n)

-- ---- texts with tokens

-- where these are tokens that texts have, the text has text bytes alone
pub record Clean (x : Text) (ts : Tokens) : Type 0 where
  pub at : AreTokens ts → All IsTextByte x

pub clean_same : (x : Text) (ts us : Tokens) → ts ≡ us → Clean x ts → Clean x us
clean_same x ts us e a = subst (λ (z : Tokens). Clean x z) e a

pub clean_moved : (x y : Text) (ts us : Tokens) → x ≡ y → ts ≡ us → Clean y us → Clean x ts
clean_moved x y ts us e h a = subst (λ (z : Text). Clean z ts) (sym e) (subst (λ (z : Tokens). Clean y z) (sym h) a)

module _ {x y : Text} {ts us : Tokens} where
  -- one behind another
  pub clean_both : Clean x ts → Clean y us → Clean (x ++ y) (ts ++ us)
  clean_both a b = record { at = λ valid. All-append IsTextByte x y (a.at (all_left ts us valid)) (b.at (all_right ts us valid)) }

pub clean_none : Clean [] []
clean_none = record { at = λ valid. All-nil IsTextByte }

-- a text that is written out, of one token
pub clean_word : (x : Text) (k : Token) → list_all is_text_byte x ≡ true → Clean x (k ∷ [])
clean_word x k h = record { at = λ valid. text_bytes x h }

-- and of none
pub clean_space : (x : Text) → list_all is_text_byte x ≡ true → Clean x []
clean_space x h = record { at = λ valid. text_bytes x h }

pub clean_blanks : (n : ℕ) → Clean (replicate n 32) []
clean_blanks n = record { at = λ valid. blank_bytes n }

pub clean_name : (x : Text) → Clean x (t.Name x ∷ [])
clean_name x = record { at = λ valid. whole_name x (All-head IsToken (t.Name x) [] valid) }

pub clean_text : (x : Text) → Clean (spelt x) (t.Text x ∷ [])
clean_text x = record { at = λ valid. spelt_bytes x (text_bytes x (All-head IsToken (t.Text x) [] valid)) }

pub clean_number : (n : ℤ) → Clean (canonical.number_text n) (t.Number n ∷ [])
clean_number n = record { at = λ valid. number_bytes n (All-head IsToken (t.Number n) [] valid) }

-- items one after another
pub clean_flat : {A B C : Type 0} (P : A → Type 0) (v : A → B) (u : A → C) (f : B → Text) (g : C → Tokens) → ((a : A) → P a → Clean (f (v a)) (g (u a)))
    → (xs : List ((a : A) × P a)) → Clean (flat_map f (map v (map (λ y. y.0) xs))) (flat_map g (map u (map (λ y. y.0) xs)))
clean_flat P v u f g h [] = clean_none
clean_flat P v u f g h (x ∷ xs) = clean_both (h x.0 x.1) (clean_flat P v u f g h xs)
