-- The first break of a law.
use Rattle.std.proofs.Common.{◌≡◌, ℕ, ◌+◌, ◌<◌, List, [], ◌∷◌, ◌++◌, length, reverse, take, drop, get_or, sym, ◌∙◌, ap, arith}
use Rattle.std.proofs.lemmas.List.{take_more, reverse-append, take-append-drop, length-reverse, length-take-le}
use Rattle.event_log.specs.declared.entry.Entry.{Entry}
use Rattle.history_laws.specs.Reads.{History}
use Rattle.history_laws.specs.Legal.{Holds}
use Rattle.history_laws.specs.Verdict.{IsFirstBreak}

reverse_more : (es : List Entry) (i : ℕ) (e : Entry) → i < length es → e ≡ get_or es i e → reverse (take (i + 1) es) ≡ e ∷ reverse (take i es)
reverse_more es i e short is = ap reverse (take_more es i e short) ∙ reverse-append (take i es) (get_or es i e ∷ []) ∙ ap (λ y. y ∷ reverse (take i es)) (sym is)

pub goes_on : (law : History → Entry → Type 0) (es : List Entry) (i : ℕ) (e : Entry) → i < length es → e ≡ get_or es i e → Holds law (reverse (take i es)) → law (reverse (take i es)) e → Holds law (reverse (take (i + 1) es))
goes_on law es i e short is holds stands = rw (reverse_more es i e short is) (stands, holds)

pub breaks_at : (law : History → Entry → Type 0) (es : List Entry) (i : ℕ) (e : Entry) → i < length es → e ≡ get_or es i e → Holds law (reverse (take i es)) → (law (reverse (take i es)) e → ⊥) → IsFirstBreak law (reverse es) (i + 1)
breaks_at law es i e short is holds broken = record {
  behind = reverse (drop (i + 1) es);
  breaking = e;
  before = reverse (take i es);
  stands = ap reverse (sym (take-append-drop (i + 1) es)) ∙ reverse-append (take (i + 1) es) (drop (i + 1) es) ∙ ap (λ l. reverse (drop (i + 1) es) ++ l) (reverse_more es i e short is);
  place = ap (λ n. n + 1) (sym (length-reverse (take i es) ∙ length-take-le i es (omega arith)));
  kept = holds;
  broken = broken;
}
