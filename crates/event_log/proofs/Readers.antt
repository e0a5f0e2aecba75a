-- What a reader takes is the text of a value, and the text of a value is read again.
use Rattle.std.specs.Prelude.{nat_eq, take, drop}
use Rattle.std.specs.List.{prefix_len, list_all}
use Rattle.std.proofs.Common.{◌≡◌, ℕ, ◌+◌, Bool, true, false, List, [], ◌∷◌, ◌++◌, length, Option, Some, None, refl, sym, ap, subst, ◌∙◌, append_assoc, arith}
use Rattle.std.proofs.Math.Seq.{take-append_seam, drop-append_seam}
use Rattle.std.proofs.lemmas.Bool.{eqb-true}
use Rattle.std.proofs.lemmas.Bool.Decides.{nat_tests}
use Rattle.std.proofs.lemmas.List.{take-append-drop}
use Rattle.event_log.specs.Reading.{Read, and_then, giving, behind, past, after, both, is_in_word, word, behind_word, with_rest, field_of}
use Rattle.event_log.proofs.Branches.{if_true, if_false, if_case, parts_of}

-- ---- what was read, by the parts of a reader

abbrev found : {A : Type 0} → A → List ℕ → Read A
found a rest = Some (a, rest)

found_parts : {A : Type 0} (a b : A) (r s : List ℕ) → found a r ≡ found b s → (a ≡ b) × (r ≡ s)
found_parts {A = A} a b r s e = let same : ◌≡◌ {A = A × List ℕ} (a, r) (b, s) = cc in (ap (λ p. p.0) same, ap (λ p. p.1) same)

pub and_then_some : {A B : Type 0} (r : Read A) (next : A → List ℕ → Read B) (y : B) (rest : List ℕ) → and_then r next ≡ found y rest → (a : A) × (mid : List ℕ) × (r ≡ found a mid) × (next a mid ≡ found y rest)
and_then_some (Some p) next y rest e = (p.0, p.1, refl, e)
and_then_some None next y rest e = absurd (cc)

pub giving_some : {A B : Type 0} (f : A → B) (r : Read A) (y : B) (rest : List ℕ) → giving f r ≡ found y rest → (a : A) × (r ≡ found a rest) × (f a ≡ y)
giving_some f (Some p) y rest e =
    let parts = found_parts (f p.0) y p.1 rest e in
    (p.0, ap (λ s. found p.0 s) parts.1, parts.0)
giving_some f None y rest e = absurd (cc)

pub past_some : {A : Type 0} (o : Option (List ℕ)) (next : List ℕ → Read A) (y : A) (rest : List ℕ) → past o next ≡ found y rest → (mid : List ℕ) × (o ≡ Some mid) × (next mid ≡ found y rest)
past_some (Some mid) next y rest e = (mid, refl, e)
past_some None next y rest e = absurd (cc)

with_rest_some : {A : Type 0} (o : Option A) (mid : List ℕ) (y : A) (rest : List ℕ) → with_rest o mid ≡ found y rest → (o ≡ Some y) × (mid ≡ rest)
with_rest_some (Some a) mid y rest e =
    let parts = found_parts a y mid rest e in
    (ap (λ x. Some x) parts.0, parts.1)
with_rest_some None mid y rest e = absurd (cc)

-- ---- fronts that are given

pub behind_takes : (front bytes rest : List ℕ) → behind front bytes ≡ Some rest → bytes ≡ front ++ rest
behind_takes [] bytes rest e = cc
behind_takes (b ∷ bs) [] rest e = absurd (cc)
behind_takes (b ∷ bs) (c ∷ cs) rest e =
    if_case (λ o. o ≡ Some rest → (c ∷ cs) ≡ b ∷ (bs ++ rest)) (nat_eq c b) (behind bs cs) None
    (λ same h. let head : c ≡ b = eqb-true c b same in let tail : cs ≡ bs ++ rest = behind_takes bs cs rest h in cc)
    (λ differ h. absurd (cc))
    e

same_byte : (b : ℕ) → nat_eq b b ≡ true
same_byte b = grind (arith, nat_tests)

behind_again : (front rest : List ℕ) → behind front (front ++ rest) ≡ Some rest
behind_again [] rest = refl
behind_again (b ∷ bs) rest = if_true _ _ (same_byte b) ∙ behind_again bs rest

-- ---- readers and texts

-- whether a word may go on
abbrev pub goes_on : List ℕ → Bool
goes_on [] = false
goes_on (b ∷ bs) = is_in_word b

pub record Reads {A : Type 0} (reader : List ℕ → Read A) (text : A → List ℕ) (Fits : A → Type 0) : Type 0 where
  pub takes : (bytes : List ℕ) (a : A) (rest : List ℕ) → reader bytes ≡ Some (a, rest) → Fits a × (bytes ≡ text a ++ rest)
  pub again : (a : A) (rest : List ℕ) → Fits a → goes_on rest ≡ false → reader (text a ++ rest) ≡ Some (a, rest)

module _ {A : Type 0} (front : List ℕ) (reader : List ℕ → Read A) (text : A → List ℕ) (Fits : A → Type 0) (r : Reads reader text Fits) where
  after_takes : (bytes : List ℕ) (a : A) (rest : List ℕ) → after front reader bytes ≡ Some (a, rest) → Fits a × (bytes ≡ (front ++ text a) ++ rest)
  after_takes bytes a rest e =
      let p = past_some (behind front bytes) reader a rest e in
      let taken = r.takes p.0 a rest p.2 in
      (taken.0, behind_takes front bytes p.0 p.1 ∙ ap (λ t. front ++ t) taken.1 ∙ sym (append_assoc front (text a) rest))

  after_again : (a : A) (rest : List ℕ) → Fits a → goes_on rest ≡ false → after front reader ((front ++ text a) ++ rest) ≡ Some (a, rest)
  after_again a rest fits ends =
      ap (after front reader) (append_assoc front (text a) rest)
      ∙ ap (λ o. past o reader) (behind_again front (text a ++ rest)) ∙ r.again a rest fits ends

  pub reads_after : Reads (after front reader) (λ a. front ++ text a) Fits
  reads_after = record { takes = after_takes; again = after_again }

-- a text in front of which no word goes on
abbrev pub Breaks : {B : Type 0} → (B → List ℕ) → Type 0
Breaks {B} text = (b : B) (rest : List ℕ) → goes_on (text b ++ rest) ≡ false

module _ {A B : Type 0} (first : List ℕ → Read A) (text : A → List ℕ) (Fits : A → Type 0) (r : Reads first text Fits)
    (second : List ℕ → Read B) (text2 : B → List ℕ) (Fits2 : B → Type 0) (s : Reads second text2 Fits2) (breaks : Breaks text2) where
  both_takes : (bytes : List ℕ) (a : A × B) (rest : List ℕ) → both first second bytes ≡ Some (a, rest) → (Fits a.0 × Fits2 a.1) × (bytes ≡ (text a.0 ++ text2 a.1) ++ rest)
  both_takes bytes a rest e =
      let p = and_then_some (first bytes) (λ x mid. giving (λ b. (x, b)) (second mid)) a rest e in
      let q = giving_some (λ b. (p.0, b)) (second p.1) a rest p.3 in
      let one = r.takes bytes p.0 p.1 p.2 in
      let two = s.takes p.1 q.0 rest q.1 in
      let whole : bytes ≡ (text p.0 ++ text2 q.0) ++ rest = one.1 ∙ ap (λ t. text p.0 ++ t) two.1 ∙ sym (append_assoc (text p.0) (text2 q.0) rest) in
      subst (λ c. (Fits c.0 × Fits2 c.1) × (bytes ≡ (text c.0 ++ text2 c.1) ++ rest)) q.2 ((one.0, two.0), whole)

  both_again : (a : A × B) (rest : List ℕ) → Fits a.0 × Fits2 a.1 → goes_on rest ≡ false → both first second ((text a.0 ++ text2 a.1) ++ rest) ≡ Some (a, rest)
  both_again a rest fits ends =
      ap (both first second) (append_assoc (text a.0) (text2 a.1) rest)
      ∙ ap (λ x. and_then x (λ y mid. giving (λ b. (y, b)) (second mid))) (r.again a.0 (text2 a.1 ++ rest) fits.0 (breaks a.1 rest))
      ∙ ap (giving (λ b. (a.0, b))) (s.again a.1 rest fits.1 ends)

  pub reads_both : Reads (both first second) (λ a. text a.0 ++ text2 a.1) (λ a. Fits a.0 × Fits2 a.1)
  reads_both = record { takes = both_takes; again = both_again }

-- ---- words

word_length : (w rest : List ℕ) → list_all is_in_word w ≡ true → goes_on rest ≡ false → prefix_len is_in_word (w ++ rest) ≡ length w
word_length [] [] all ends = refl
word_length [] (b ∷ bs) all ends = if_false _ _ ends
word_length (b ∷ bs) rest all ends =
    let parts = parts_of (is_in_word b) (list_all is_in_word bs) all in
    if_true _ _ parts.0 ∙ ap (λ n. 1 + n) (word_length bs rest parts.1 ends) ∙ omega arith

pub word_is : (w rest : List ℕ) → list_all is_in_word w ≡ true → goes_on rest ≡ false → word (w ++ rest) ≡ w
word_is w rest all ends = ap (λ n. take n (w ++ rest)) (word_length w rest all ends) ∙ take-append_seam w rest

pub behind_word_is : (w rest : List ℕ) → list_all is_in_word w ≡ true → goes_on rest ≡ false → behind_word (w ++ rest) ≡ rest
behind_word_is w rest all ends = ap (λ n. drop n (w ++ rest)) (word_length w rest all ends) ∙ drop-append_seam w rest

-- a value of a word
pub record IsWord {A : Type 0} (value : List ℕ → Option A) (text : A → List ℕ) (Fits : A → Type 0) : Type 0 where
  pub takes : (w : List ℕ) (a : A) → value w ≡ Some a → Fits a × (w ≡ text a)
  pub again : (a : A) → Fits a → value (text a) ≡ Some a
  pub plain : (a : A) → Fits a → list_all is_in_word (text a) ≡ true

module _ {A : Type 0} (value : List ℕ → Option A) (text : A → List ℕ) (Fits : A → Type 0) (r : IsWord value text Fits) where
  at_word_takes : (bytes : List ℕ) (a : A) (rest : List ℕ) → with_rest (value (word bytes)) (behind_word bytes) ≡ Some (a, rest) → Fits a × (bytes ≡ text a ++ rest)
  at_word_takes bytes a rest e =
      let parts = with_rest_some (value (word bytes)) (behind_word bytes) a rest e in
      let taken = r.takes (word bytes) a parts.0 in
      let n = prefix_len is_in_word bytes in
      (taken.0, sym (take-append-drop n bytes) ∙ ap (λ w. w ++ behind_word bytes) taken.1 ∙ ap (λ t. text a ++ t) parts.1)

  at_word_again : (a : A) (rest : List ℕ) → Fits a → goes_on rest ≡ false → with_rest (value (word (text a ++ rest))) (behind_word (text a ++ rest)) ≡ Some (a, rest)
  at_word_again a rest fits ends =
      ap (λ w. with_rest (value w) (behind_word (text a ++ rest))) (word_is (text a) rest (r.plain a fits) ends)
      ∙ ap (λ o. with_rest o (behind_word (text a ++ rest))) (r.again a fits)
      ∙ ap (λ t. Some (a, t)) (behind_word_is (text a) rest (r.plain a fits) ends)

  pub reads_word : Reads (λ bytes. with_rest (value (word bytes)) (behind_word bytes)) text Fits
  reads_word = record { takes = at_word_takes; again = at_word_again }

  field_is : (bytes : List ℕ) → field_of value bytes ≡ after (32 ∷ []) (λ bs. with_rest (value (word bs)) (behind_word bs)) bytes
  field_is bytes = by_front (behind (32 ∷ []) bytes)
    where
      by_front : (o : Option (List ℕ)) → and_then (past o (λ bs. Some (word bs, behind_word bs))) (λ w rest. with_rest (value w) rest) ≡ past o (λ bs. with_rest (value (word bs)) (behind_word bs))
      by_front (Some bs) = refl
      by_front None = refl

  pub reads_field : Reads (field_of value) (λ a. 32 ∷ text a) Fits
  reads_field =
      let it = reads_after (32 ∷ []) (λ bs. with_rest (value (word bs)) (behind_word bs)) text Fits reads_word in
      record {
        takes = λ bytes a rest e. it.takes bytes a rest (sym (field_is bytes) ∙ e);
        again = λ a rest fits ends. field_is (32 ∷ (text a ++ rest)) ∙ it.again a rest fits ends;
      }
