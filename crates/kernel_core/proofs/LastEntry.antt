-- Whether a run has ended, by the last entry of its log.
use Rattle.std.proofs.Common.{◌≡◌, ◌+◌, ◌-◌, Bool, true, false, List, [], ◌∷◌, ◌++◌, length, reverse, Some, is_some, refl, sym, ◌∙◌, ap, arith}
use Rattle.std.specs.Prelude.{slice_get}
use Rattle.std.proofs.lemmas.List.{reverse-append, reverse-reverse, length-append}
use Rattle.event_log.specs.declared.entry.Entry.{Entry}
use Rattle.event_log.specs.declared.entry.Entry.TheVariants as entry
use Rattle.history_laws.specs.Reads.{History, has_end}
use Rattle.history_laws.specs.Legal.{IsComplete}
use Rattle.kernel_model.specs.Known.{Known, has_ended}
use Rattle.kernel_model.specs.Invariants.{Inv}
use Rattle.kernel_model.proofs.Facts.{complete-now}

at_end : {X : Type 0} (xs : List X) (x : X) → slice_get (xs ++ x ∷ []) (length xs) ≡ Some x
at_end [] x = refl
at_end (y ∷ xs) x = at_end xs x

-- the newest entry is the last of the log
record Newest (e : Entry) (b : History) : Type 0 where
  before : History
  is : b ≡ e ∷ before

newest_in : (log b : List Entry) (e : Entry) → reverse log ≡ b → slice_get log (length log - 1) ≡ Some e → Newest e b
newest_in log [] e is has =
    let none : log ≡ [] = sym (reverse-reverse log) ∙ ap reverse is in
    absurd (let h = rw none at has in cc)
newest_in log (x ∷ b) e is has =
    let all : log ≡ reverse b ++ x ∷ [] = sym (reverse-reverse log) ∙ ap reverse is ∙ reverse-append (x ∷ []) b in
    let count : length log ≡ length (reverse b) + 1 = ap length all ∙ length-append (reverse b) (x ∷ []) in
    let less : length log - 1 ≡ length (reverse b) = omega (arith, count) in
    let last : slice_get log (length log - 1) ≡ Some x = rw less (ap (λ xs. slice_get xs (length (reverse b))) all ∙ at_end (reverse b) x) in
    let same : Some x ≡ Some e = sym last ∙ has in
    let one : x ≡ e = cc same in
    record { before = b; is = ap (λ (f : Entry). f ∷ b) one }

end_of : (w : Known) → Inv w → (e : Entry) (b : History) → w.past ≡ e ∷ b → has_end (e ∷ []) ≡ has_end w.past
end_of w inv e b is = by_test (has_end w.past) refl
  where
    by_entry : (f : Entry) → w.past ≡ f ∷ b → (has_end w.past ≡ true → IsComplete w.past) → (t : Bool) → has_end w.past ≡ t → has_end (f ∷ []) ≡ t
    by_entry entry.End at complete true h = refl
    by_entry entry.End at complete false h = rw at at h
    by_entry (entry.Submit p app) at complete false h = refl
    by_entry (entry.JoinRun p) at complete false h = refl
    by_entry (entry.Launch p n) at complete false h = refl
    by_entry (entry.Start p n manager) at complete false h = refl
    by_entry (entry.Ended p n manager kind) at complete false h = refl
    by_entry (entry.Settled p s) at complete false h = refl
    by_entry (entry.MemoHit q) at complete false h = refl
    by_entry (entry.Dispatch q n manager) at complete false h = refl
    by_entry (entry.Held q n manager) at complete false h = refl
    by_entry (entry.LostTry q n manager) at complete false h = refl
    by_entry (entry.Stored q) at complete false h = refl
    by_entry (entry.Block block state) at complete false h = refl
    by_entry (entry.Register manager block slots) at complete false h = refl
    by_entry (entry.Refused block version) at complete false h = refl
    by_entry (entry.Tick moment) at complete false h = refl
    by_entry (entry.Beat manager) at complete false h = refl
    by_entry (entry.Silent manager) at complete false h = refl
    by_entry (entry.Lost manager) at complete false h = refl
    by_entry (entry.Drain manager) at complete false h = refl
    by_entry (entry.Drained manager) at complete false h = refl
    by_entry (entry.Hold manager) at complete false h = refl
    by_entry (entry.Scale decided) at complete false h = refl
    by_entry (entry.Checkpoint count) at complete false h = refl
    by_entry f at complete true h = absurd (let ends = (complete h).ends in let same = sym at ∙ ends in cc)

    by_test : (t : Bool) → has_end w.past ≡ t → has_end (e ∷ []) ≡ t
    by_test t h = by_entry e is (complete-now w inv) t h

-- whether the end stands, by the last entry of the log
pub ended-last : (w : Known) (log : List Entry) (e : Entry) → Inv w → reverse log ≡ w.past → is_some w.refusal ≡ false → slice_get log (length log - 1) ≡ Some e → has_end (e ∷ []) ≡ has_ended w
ended-last w log e inv past going has =
    let newest = newest_in log w.past e past has in
    rw going (end_of w inv e newest.before newest.is)
