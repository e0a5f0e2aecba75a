-- A whole log, entry by entry.
use Rattle.std.specs.List.{AllByRecursion}
use Rattle.std.proofs.Common.{◌≡◌, ℕ, ◌<◌, ◌≤◌, ◌⊎◌, true, false, List, [], ◌∷◌, ◌++◌, length, Option, Some, None, refl, ap, sym, ◌∙◌, append_assoc, arith, inl, inr}
use Rattle.std.proofs.lemmas.List.{append-nil, length-append}
use Rattle.std.proofs.lemmas.List.Concat.{flat_map-append}
use Rattle.std.proofs.lemmas.List.Elements.{All-nil, All-push, recursion_from_All}
use Rattle.event_log.specs.declared.entry.Entry.{Entry}
use Rattle.event_log.specs.LogText.{entry_text, entry_line, log_text}
use Rattle.event_log.specs.Logs.{HasLine, InRange, max_entries, AreLines, IsLogOf, BeginsWithEntry, IsFirstBad, LogsAreRead}
use Rattle.event_log.specs.Reading as reading
use Rattle.event_log.proofs.Entries.{entry_takes, entry_again}

-- ---- reading entry by entry

pub none_read : (bytes : List ℕ) → AreLines bytes [] bytes
none_read bytes = record { whole = refl; each = All-nil HasLine; ranges = All-nil InRange; within = omega arith }

log_more : (es : List Entry) (e : Entry) → log_text (es ++ e ∷ []) ≡ log_text es ++ entry_line e
log_more es e = flat_map-append entry_line es (e ∷ []) ∙ ap (λ t. log_text es ++ t) (append-nil (entry_line e))

pub one_more_read : (bytes : List ℕ) (es : List Entry) (rest : List ℕ) (e : Entry) (behind : List ℕ) → AreLines bytes es rest → (length es ≡ max_entries → ⊥) → reading.entry rest ≡ Some (e, behind) → AreLines bytes (es ++ e ∷ []) behind
one_more_read bytes es rest e behind lines few h =
    let taken = entry_takes rest e behind h in
    record {
      whole = lines.whole ∙ ap (λ t. log_text es ++ t) taken.2 ∙ sym (append_assoc (log_text es) (entry_line e) behind) ∙ ap (λ t. t ++ behind) (sym (log_more es e));
      each = All-push HasLine es e lines.each taken.0;
      ranges = All-push InRange es e lines.ranges taken.1;
      within = let w = lines.within in omega (arith, length-append es (e ∷ []));
    }

pub fewer_left : (rest : List ℕ) (e : Entry) (behind : List ℕ) → reading.entry rest ≡ Some (e, behind) → length behind < length rest
fewer_left rest e behind h =
    let taken = entry_takes rest e behind h in
    omega (arith, ap length taken.2, length-append (entry_line e) behind, length-append (entry_text e) (10 ∷ []))

pub no_entry : (rest : List ℕ) → reading.entry rest ≡ None → BeginsWithEntry rest → ⊥
no_entry rest none begins =
    let again = entry_again begins.0 begins.1 begins.2 begins.3 in
    let some : reading.entry rest ≡ Some (begins.0, begins.1) = ap reading.entry begins.4 ∙ again in
    cc

pub not_empty : (rest : List ℕ) → reading.is_empty rest ≡ false → 1 ≤ length rest
not_empty [] e = absurd (cc)
not_empty (b ∷ bs) e = omega arith

pub empty_is : (rest : List ℕ) → reading.is_empty rest ≡ true → rest ≡ []
empty_is [] e = refl
empty_is (b ∷ bs) e = absurd (cc)

-- ---- one log of each text

abbrev Good : Entry → Type 0
Good e = HasLine e × InRange e

good_entries : (es : List Entry) → AllByRecursion HasLine es → AllByRecursion InRange es → AllByRecursion Good es
good_entries [] h s = tt
good_entries (e ∷ es) h s = ((h.0, s.0), good_entries es h.1 s.1)

all_good : (bytes : List ℕ) (es : List Entry) (rest : List ℕ) → AreLines bytes es rest → AllByRecursion Good es
all_good bytes es rest lines = good_entries es (recursion_from_All HasLine es lines.each) (recursion_from_All InRange es lines.ranges)

same_first : (e f : Entry) (xs ys : List ℕ) → Good e → Good f → entry_line e ++ xs ≡ entry_line f ++ ys → (e ≡ f) × (xs ≡ ys)
same_first e f xs ys he hf is =
    let both : ◌≡◌ {A = Option (Entry × List ℕ)} (Some (e, xs)) (Some (f, ys)) = sym (entry_again e xs he.0 he.1) ∙ ap reading.entry is ∙ entry_again f ys hf.0 hf.1 in
    let same : ◌≡◌ {A = Entry × List ℕ} (e, xs) (f, ys) = cc in
    (ap (λ p. p.0) same, ap (λ p. p.1) same)

-- these entries begin with others, and the text of what follows is the rest
record Begins (es front : List Entry) (rest : List ℕ) : Type 0 where
  more : List Entry
  is : es ≡ front ++ more
  text : log_text more ≡ rest
  good : AllByRecursion Good more

begins : (es front : List Entry) (rest : List ℕ) → AllByRecursion Good es → AllByRecursion Good front → log_text es ≡ log_text front ++ rest → Begins es front rest
begins es [] rest h g is = record { more = es; is = refl; text = is; good = h }
begins [] (f ∷ fs) rest h g is =
    let none : 0 ≡ length ((entry_line f ++ log_text fs) ++ rest) = ap length is in
    absurd (omega (arith, none, length-append (entry_line f ++ log_text fs) rest, length-append (entry_line f) (log_text fs), length-append (entry_text f) (10 ∷ [])))
begins (e ∷ es) (f ∷ fs) rest h g is =
    let same = same_first e f (log_text es) (log_text fs ++ rest) h.0 g.0 (is ∙ append_assoc (entry_line f) (log_text fs) rest) in
    let b = begins es fs rest h.1 g.1 same.1 in
    record { more = b.more; is = ap (λ x. x ∷ es) same.0 ∙ ap (λ xs. f ∷ xs) b.is; text = b.text; good = b.good }

same_text : (bytes : List ℕ) (es front : List Entry) (rest : List ℕ) → IsLogOf bytes es → AreLines bytes front rest → log_text es ≡ log_text front ++ rest
same_text bytes es front rest log lines = sym (append-nil (log_text es)) ∙ sym log.whole ∙ lines.whole

begins_with : (bytes : List ℕ) (es front : List Entry) (rest : List ℕ) → IsLogOf bytes es → AreLines bytes front rest → Begins es front rest
begins_with bytes es front rest log lines = begins es front rest (all_good bytes es [] log) (all_good bytes front rest lines) (same_text bytes es front rest log lines)

no_more : (more : List Entry) → log_text more ≡ [] → more ≡ []
no_more [] e = refl
no_more (m ∷ ms) e =
    let none : length (entry_line m ++ log_text ms) ≡ 0 = ap length e in
    absurd (omega (arith, none, length-append (entry_line m) (log_text ms), length-append (entry_text m) (10 ∷ [])))

one_log : (bytes : List ℕ) (es others : List Entry) → IsLogOf bytes es → IsLogOf bytes others → es ≡ others
one_log bytes es others log other =
    let b = begins_with bytes es others [] log other in
    b.is ∙ ap (λ m. others ++ m) (no_more b.more b.text) ∙ append-nil others

bad_rest : (es front more : List Entry) (rest : List ℕ) → es ≡ front ++ more → log_text more ≡ rest → AllByRecursion Good more → length es ≤ max_entries → 1 ≤ length rest → (length front ≡ max_entries) ⊎ (BeginsWithEntry rest → ⊥) → ⊥
bad_rest es front [] rest is text good within long why = absurd (omega (arith, ap length text))
bad_rest es front (m ∷ ms) rest is text good within long (inl full) = absurd (omega (arith, ap length is, length-append front (m ∷ ms)))
bad_rest es front (m ∷ ms) rest is text good within long (inr none) = none (m, log_text ms, good.0.0, good.0.1, sym text)

no_bad_line : (bytes : List ℕ) (es : List Entry) (line : ℕ) → IsLogOf bytes es → IsFirstBad bytes line → ⊥
no_bad_line bytes es line log bad =
    let b = begins_with bytes es bad.0 bad.1 log bad.2 in
    bad_rest es bad.0 b.more bad.1 b.is b.text b.good log.within bad.4 bad.5

pub are_read : LogsAreRead
are_read = record { one = one_log; bad = no_bad_line }
