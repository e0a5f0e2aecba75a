-- Texts in quotes.
use Rattle.std.specs.Prelude.{nat_eq, flat_map}
use Rattle.std.specs.List.{AllByRecursion}
use Rattle.std.proofs.Common.{◌≡◌, ℕ, true, false, List, [], ◌∷◌, ◌++◌, All, Some, None, refl, ap, sym, subst, ◌∙◌, append_assoc, arith, inl, inr}
use Rattle.std.proofs.lemmas.Bool.{eqb-true}
use Rattle.std.proofs.lemmas.Bool.Decides.{nat_tests}
use Rattle.std.proofs.lemmas.List.Elements.{All-from_recursion, recursion_from_All}
use Rattle.flow_base.specs.TextBytes.{IsTextByte}
use Rattle.script_tree.specs.Lexing as lexing
use Rattle.text_writer.specs.Written.{escaped, quoted}
use Rattle.event_log.specs.Reading.{Read, giving, with_byte, text_end, text_escape, text}
use Rattle.event_log.proofs.Branches.{if_true, if_false, if_case}
use Rattle.event_log.proofs.Readers.{Reads, giving_some, reads_after}

-- bytes before those of a text that was read
abbrev pub with_front : List ℕ → Read (List ℕ) → Read (List ℕ)
with_front bytes (Some r) = Some (bytes ++ r.0, r.1)
with_front bytes None = None

-- ---- what is read

abbrev AreText : List ℕ → Type 0
AreText = AllByRecursion IsTextByte

-- these bytes spell a text, with the quote, and the rest follows
abbrev Spells : List ℕ → List ℕ → List ℕ → Type 0
Spells bytes v rest = AreText v × (bytes ≡ flat_map escaped v ++ (34 ∷ rest))

abbrev Takes : List ℕ → List ℕ → List ℕ → Read (List ℕ) → Type 0
Takes bytes v rest read = read ≡ Some (v, rest) → Spells bytes v rest

spells_more : (b : ℕ) (front bytes v rest : List ℕ) → IsTextByte b → escaped b ≡ front → Spells bytes v rest → Spells (front ++ bytes) (b ∷ v) rest
spells_more b front bytes v rest byte is more =
    ((byte, more.0), ap (λ t. t ++ bytes) (sym is) ∙ ap (λ t. escaped b ++ t) more.1 ∙ sym (append_assoc (escaped b) (flat_map escaped v) (34 ∷ rest)))

takes_more : (b : ℕ) (front bytes v rest : List ℕ) → IsTextByte b → escaped b ≡ front → ((u : List ℕ) → Takes bytes u rest (text_end bytes)) → Takes (front ++ bytes) v rest (giving (λ t. b ∷ t) (text_end bytes))
takes_more b front bytes v rest byte is more e =
    let p = giving_some (λ t. b ∷ t) (text_end bytes) v rest e in
    subst (λ w. Spells (front ++ bytes) w rest) p.2 (spells_more b front bytes p.0 rest byte is (more p.0 p.1))

takes_quote : (b : ℕ) (bs v rest : List ℕ) → nat_eq b 34 ≡ true → Takes (b ∷ bs) v rest (Some ([], bs))
takes_quote b bs v rest quote e =
    let same : ◌≡◌ {A = List ℕ × List ℕ} ([], bs) (v, rest) = cc in
    let byte : b ≡ 34 = eqb-true b 34 quote in
    subst (λ p. Spells (b ∷ bs) p.0 p.1) same (tt, ap (λ c. c ∷ bs) byte)

escape_takes : (c : ℕ) (cs v rest : List ℕ) → ((u : List ℕ) → Takes cs u rest (text_end cs)) → Takes (92 ∷ (c ∷ cs)) v rest (with_byte (lexing.escaped c) (text_end cs))
escape_takes c cs v rest more =
    if_case (λ o. Takes (92 ∷ (c ∷ cs)) v rest (with_byte o (text_end cs))) (nat_eq c 110) _ _
    (λ e. subst (λ d. Takes (92 ∷ (d ∷ cs)) v rest (giving (λ t. 10 ∷ t) (text_end cs))) (sym (eqb-true c 110 e)) (takes_more 10 (92 ∷ 110 ∷ []) cs v rest (inl refl) refl more))
    (λ _. if_case (λ o. Takes (92 ∷ (c ∷ cs)) v rest (with_byte o (text_end cs))) (nat_eq c 34) _ _
    (λ e. subst (λ d. Takes (92 ∷ (d ∷ cs)) v rest (giving (λ t. 34 ∷ t) (text_end cs))) (sym (eqb-true c 34 e)) (takes_more 34 (92 ∷ 34 ∷ []) cs v rest (inr (omega arith, omega arith)) refl more))
    (λ _. if_case (λ o. Takes (92 ∷ (c ∷ cs)) v rest (with_byte o (text_end cs))) (nat_eq c 92) _ _
    (λ e. subst (λ d. Takes (92 ∷ (d ∷ cs)) v rest (giving (λ t. 92 ∷ t) (text_end cs))) (sym (eqb-true c 92 e)) (takes_more 92 (92 ∷ 92 ∷ []) cs v rest (inr (omega arith, omega arith)) refl more))
    (λ _ h. absurd (cc))))

printable_byte : (b : ℕ) → lexing.is_printable b ≡ true → IsTextByte b
printable_byte b h = inr (grind (arith, nat_tests))

not_newline : (b : ℕ) → lexing.is_printable b ≡ true → nat_eq b 10 ≡ false
not_newline b h = grind (arith, nat_tests)

plain_byte : (b : ℕ) → nat_eq b 34 ≡ false → nat_eq b 92 ≡ false → nat_eq b 10 ≡ false → escaped b ≡ b ∷ []
plain_byte b no_quote no_escape no_line = if_false _ _ no_line ∙ if_false _ _ no_quote ∙ if_false _ _ no_escape

module _ (b : ℕ) (bs v rest : List ℕ) (more : (u : List ℕ) → Takes bs u rest (text_end bs)) where
  byte_takes : (escape : nat_eq b 92 ≡ true → Takes (b ∷ bs) v rest (text_escape bs)) → Takes (b ∷ bs) v rest (text_end (b ∷ bs))
  byte_takes escape =
      if_case (Takes (b ∷ bs) v rest) (nat_eq b 34) _ _
      (takes_quote b bs v rest)
      (λ no_quote. if_case (Takes (b ∷ bs) v rest) (nat_eq b 92) _ _ escape
      (λ no_escape. if_case (Takes (b ∷ bs) v rest) (lexing.is_printable b) _ _
      (λ printable. takes_more b (b ∷ []) bs v rest (printable_byte b printable) (plain_byte b no_quote no_escape (not_newline b printable)) more)
      (λ _ h. absurd (cc))))

text_end_takes : (bytes v rest : List ℕ) → Takes bytes v rest (text_end bytes)
text_end_takes [] v rest h = absurd (cc)
text_end_takes (b ∷ []) v rest h = byte_takes b [] v rest (λ u. text_end_takes [] u rest) (λ _ e. absurd (cc)) h
text_end_takes (b ∷ c ∷ cs) v rest h =
    byte_takes b (c ∷ cs) v rest (λ u. text_end_takes (c ∷ cs) u rest)
    (λ is. subst (λ d. Takes (d ∷ (c ∷ cs)) v rest (text_escape (c ∷ cs))) (sym (eqb-true b 92 is)) (escape_takes c cs v rest (λ u. text_end_takes cs u rest)))
    h

-- ---- what is spelled

abbrev Again : ℕ → List ℕ → List ℕ → List ℕ → List ℕ → Type 0
Again b v tail rest bytes = text_end (bytes ++ tail) ≡ Some (b ∷ v, rest)

plain_again : (b : ℕ) (v tail rest : List ℕ) → nat_eq b 34 ≡ false → nat_eq b 92 ≡ false → lexing.is_printable b ≡ true → text_end tail ≡ Some (v, rest) → Again b v tail rest (b ∷ [])
plain_again b v tail rest no_quote no_escape printable more = if_false _ _ no_quote ∙ if_false _ _ no_escape ∙ if_true _ _ printable ∙ ap (giving (λ t. b ∷ t)) more

printable_else : (b : ℕ) → IsTextByte b → nat_eq b 10 ≡ false → lexing.is_printable b ≡ true
printable_else b h e = grind (arith, nat_tests)

byte_again : (b : ℕ) (v tail rest : List ℕ) → IsTextByte b → text_end tail ≡ Some (v, rest) → Again b v tail rest (escaped b)
byte_again b v tail rest byte more = if_case (Again b v tail rest) (nat_eq b 10) _ _
    (λ e. subst (λ a. Again a v tail rest (92 ∷ 110 ∷ [])) (sym (eqb-true b 10 e)) (ap (giving (λ t. 10 ∷ t)) more))
    (λ e. if_case (Again b v tail rest) (nat_eq b 34) _ _
    (λ f. subst (λ a. Again a v tail rest (92 ∷ 34 ∷ [])) (sym (eqb-true b 34 f)) (ap (giving (λ t. 34 ∷ t)) more))
    (λ f. if_case (Again b v tail rest) (nat_eq b 92) _ _
    (λ g. subst (λ a. Again a v tail rest (92 ∷ 92 ∷ [])) (sym (eqb-true b 92 g)) (ap (giving (λ t. 92 ∷ t)) more))
    (λ g. plain_again b v tail rest f g (printable_else b byte e) more)))

text_end_again : (v rest : List ℕ) → AreText v → text_end (flat_map escaped v ++ (34 ∷ rest)) ≡ Some (v, rest)
text_end_again [] rest all = refl
text_end_again (b ∷ bs) rest all =
    ap text_end (append_assoc (escaped b) (flat_map escaped bs) (34 ∷ rest))
    ∙ byte_again b bs (flat_map escaped bs ++ (34 ∷ rest)) rest all.0 (text_end_again bs rest all.1)

reads_text_end : Reads text_end (λ v. flat_map escaped v ++ (34 ∷ [])) (All IsTextByte)
reads_text_end = record {
  takes = λ bytes v rest e.
      let taken = text_end_takes bytes v rest e in
      (All-from_recursion IsTextByte v taken.0, taken.1 ∙ sym (append_assoc (flat_map escaped v) (34 ∷ []) rest));
  again = λ v rest all ends. ap text_end (append_assoc (flat_map escaped v) (34 ∷ []) rest) ∙ text_end_again v rest (recursion_from_All IsTextByte v all);
}

pub reads_text : Reads text (λ v. 32 ∷ quoted v) (All IsTextByte)
reads_text = reads_after (32 ∷ 34 ∷ []) text_end (λ v. flat_map escaped v ++ (34 ∷ [])) (All IsTextByte) reads_text_end
