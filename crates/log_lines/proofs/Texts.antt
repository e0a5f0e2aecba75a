-- A text is of one list of entries at most.
use Rattle.std.proofs.Common.{◌≡◌, ℕ, List, [], ◌∷◌, ◌++◌, length, Option, Some, refl, ap, sym, ◌∙◌, arith}
use Rattle.std.specs.List.{AllByRecursion}
use Rattle.std.proofs.lemmas.List.{length-append}
use Rattle.std.proofs.lemmas.List.Elements.{recursion_from_All}
use Rattle.event_log.specs.declared.entry.Entry.{Entry}
use Rattle.event_log.specs.LogText.{entry_text, entry_line, log_text}
use Rattle.event_log.specs.Logs.{HasLine, InRange}
use Rattle.event_log.specs.Reading as reading
use Rattle.event_log.proofs.Entries.{entry_again}
use Rattle.log_lines.specs.ReadBack.{IsTextOf}

abbrev Good : Entry → Type 0
Good e = HasLine e × InRange e

good_entries : (es : List Entry) → AllByRecursion HasLine es → AllByRecursion InRange es → AllByRecursion Good es
good_entries [] h s = tt
good_entries (e ∷ es) h s = ((h.0, s.0), good_entries es h.1 s.1)

all_good : (bytes : List ℕ) (es : List Entry) → IsTextOf bytes es → AllByRecursion Good es
all_good bytes es is = good_entries es (recursion_from_All HasLine es is.each) (recursion_from_All InRange es is.ranges)

same_first : (e f : Entry) (xs ys : List ℕ) → Good e → Good f → entry_line e ++ xs ≡ entry_line f ++ ys → (e ≡ f) × (xs ≡ ys)
same_first e f xs ys h g is =
    let both : ◌≡◌ {A = Option (Entry × List ℕ)} (Some (e, xs)) (Some (f, ys)) = sym (entry_again e xs h.0 h.1) ∙ ap reading.entry is ∙ entry_again f ys g.0 g.1 in
    let same : ◌≡◌ {A = Entry × List ℕ} (e, xs) (f, ys) = cc in
    (ap (λ p. p.0) same, ap (λ p. p.1) same)

-- the text of an entry and others isn't empty
not_empty : (e : Entry) (es : List Entry) → [] ≡ log_text (e ∷ es) → ⊥
not_empty e es is =
    let none : 0 ≡ length (entry_line e ++ log_text es) = ap length is in
    omega (arith, none, length-append (entry_line e) (log_text es), length-append (entry_text e) (10 ∷ []))

same_entries : (es fs : List Entry) → AllByRecursion Good es → AllByRecursion Good fs → log_text es ≡ log_text fs → es ≡ fs
same_entries [] [] h g is = refl
same_entries [] (f ∷ fs) h g is = absurd (not_empty f fs is)
same_entries (e ∷ es) [] h g is = absurd (not_empty e es (sym is))
same_entries (e ∷ es) (f ∷ fs) h g is =
    let same = same_first e f (log_text es) (log_text fs) h.0 g.0 is in
    ap (λ x. x ∷ es) same.0 ∙ ap (λ xs. f ∷ xs) (same_entries es fs h.1 g.1 same.1)

pub one-text : (bytes : List ℕ) (es others : List Entry) → IsTextOf bytes es → IsTextOf bytes others → others ≡ es
one-text bytes es others is other = same_entries others es (all_good bytes others other) (all_good bytes es is) (sym other.text ∙ is.text)
