-- Texts in quotes in front of a text.
use Rattle.std.specs.Prelude.{nat_eq, Ok, codes, flat_map}
use Rattle.std.specs.List.{list_all}
use Rattle.std.proofs.Common.{◌≡◌, ℕ, ◌+◌, true, false, [], ◌∷◌, ◌++◌, length, refl, Some, ap, sym, subst, ◌∙◌, arith}
use Rattle.std.proofs.lemmas.Bool.{eqb-true}
use Rattle.std.proofs.lemmas.Bool.Decides.{nat_tests}
use Rattle.std.proofs.lemmas.List.{append_assoc, length-append}
use Rattle.script_tree.specs.declared.token.Token.TheVariants as t
use Rattle.script_tree.specs.Lexing.{Text, is_printable, with_byte, text_end, text_piece}
use Rattle.script_tree.specs.Canonical.{spelt, spelt_byte}
use Rattle.script_tree.specs.Spelling.{Tokens}
use Rattle.print_parse_roundtrip.specs.Lexes.{Lexes, is_text_byte}
use Rattle.print_parse_roundtrip.proofs.Turns.{if_true, if_false, if_case, both, Begins, with_piece}

abbrev Spells : ℕ → Text → ℕ → Text → Text → Type 0
Spells b bs n tail bytes = text_end (bytes ++ tail) ≡ Some (b ∷ bs, length bytes + n)

escape_spells : (b c n : ℕ) (bs tail : Text) → text_end (92 ∷ (c ∷ tail)) ≡ with_byte b 2 (text_end tail) → text_end tail ≡ Some (bs, n) → Spells b bs n tail (92 ∷ (c ∷ []))
escape_spells b c n bs tail is more = is ∙ ap (with_byte b 2) more

plain_spells : (b n : ℕ) (bs tail : Text) → nat_eq b 34 ≡ false → nat_eq b 92 ≡ false → is_printable b ≡ true → text_end tail ≡ Some (bs, n) → Spells b bs n tail (b ∷ [])
plain_spells b n bs tail no_quote no_escape printable more = if_false _ _ no_quote ∙ if_false _ _ no_escape ∙ if_true _ _ printable ∙ ap (with_byte b 1) more

printable_else : (b : ℕ) → is_text_byte b ≡ true → nat_eq b 10 ≡ false → is_printable b ≡ true
printable_else b h e = grind (arith, nat_tests)

byte_spells : (b n : ℕ) (bs tail : Text) → is_text_byte b ≡ true → text_end tail ≡ Some (bs, n) → Spells b bs n tail (spelt_byte b)
byte_spells b n bs tail byte more = if_case (Spells b bs n tail) (nat_eq b 10) _ _
    (λ e. subst (λ a. Spells a bs n tail (codes "\\n")) (sym (eqb-true b 10 e)) (escape_spells 10 110 n bs tail refl more))
    (λ e. if_case (Spells b bs n tail) (nat_eq b 34) _ _
    (λ f. subst (λ a. Spells a bs n tail (92 ∷ 34 ∷ [])) (sym (eqb-true b 34 f)) (escape_spells 34 34 n bs tail refl more))
    (λ f. if_case (Spells b bs n tail) (nat_eq b 92) _ _
    (λ g. subst (λ a. Spells a bs n tail (92 ∷ 92 ∷ [])) (sym (eqb-true b 92 g)) (escape_spells 92 92 n bs tail refl more))
    (λ g. plain_spells b n bs tail f g (printable_else b byte e) more)))

text_ends : (x rest : Text) → list_all is_text_byte x ≡ true → text_end (flat_map spelt_byte x ++ (34 ∷ rest)) ≡ Some (x, length (flat_map spelt_byte x) + 1)
text_ends [] rest all = refl
text_ends (b ∷ bs) rest all =
    let parts = both (is_text_byte b) (list_all is_text_byte bs) all in
    let tail = flat_map spelt_byte bs ++ (34 ∷ rest) in
    let more : text_end tail ≡ Some (bs, length (flat_map spelt_byte bs) + 1) = text_ends bs rest parts.1 in
    let sizes : length (spelt_byte b) + (length (flat_map spelt_byte bs) + 1) ≡ length (spelt_byte b ++ flat_map spelt_byte bs) + 1 = omega (arith, length-append (spelt_byte b) (flat_map spelt_byte bs)) in
    ap text_end (append_assoc (spelt_byte b) (flat_map spelt_byte bs) (34 ∷ rest)) ∙ byte_spells b (length (flat_map spelt_byte bs) + 1) bs tail parts.0 more ∙ ap (λ m. Some (b ∷ bs, m)) sizes

text_begins : (x rest : Text) → list_all is_text_byte x ≡ true → Begins 34 (flat_map spelt_byte x ++ (34 ∷ [])) rest (t.Text x)
text_begins x rest all =
    let bytes = flat_map spelt_byte x in
    let sizes : 1 + (length bytes + 1) ≡ length (34 ∷ (bytes ++ (34 ∷ []))) = omega (arith, length-append bytes (34 ∷ [])) in
    record {
      no_blank = refl;
      no_comment = refl;
      is = ap (λ r. text_piece (text_end r)) (append_assoc bytes (34 ∷ []) rest) ∙ ap text_piece (text_ends x rest all) ∙ ap (λ m. Ok (t.Text x, m)) sizes;
    }

pub with_quotes : (x rest : Text) (ts : Tokens) → list_all is_text_byte x ≡ true → Lexes rest ts → Lexes (spelt x ++ rest) (t.Text x ∷ ts)
with_quotes x rest ts all more = with_piece 34 (flat_map spelt_byte x ++ (34 ∷ [])) rest (t.Text x) ts (text_begins x rest all) more
