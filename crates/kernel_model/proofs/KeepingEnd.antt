-- The end keeps what a kernel keeps.
use Rattle.std.proofs.Common.{◌≡◌, ℕ, zero, suc, ◌<◌, true, List, [], ◌∷◌, length, Option, Some, None, IsSome, refl, sym, ◌∙◌, ap, subst, arith}
use Rattle.std.specs.Prelude.{slice_get, Result, option_map}
use Rattle.flow_base.specs.declared.outcome.Ending.{Ending}
use Rattle.flow_base.specs.declared.outcome.Exception.{Exception}
use Rattle.flow_base.specs.declared.outcome.Outcome.{Outcome}
use Rattle.event_log.specs.declared.entry.Entry.TheVariants as entry
use Rattle.flow_meaning.specs.Act.{Act, Give, Throw, Ask}
use Rattle.flow_meaning.specs.Inputs.{Path}
use Rattle.flow_meaning.specs.Meaning.{Done}
use Rattle.flow_meaning.specs.Sequential.{Task, Tasks, Main, Rule, perform, main_answer}
use Rattle.call_rules.specs.Calls.{Losses, Call, child, found, task_of, call_in, Begin, Fails, Attempts, Joins, calls_below, calls_with, join_dry}
use Rattle.history_laws.specs.Reads.{submits, settled, lost}
use Rattle.history_laws.specs.Tables.{task_at, acts_of, is_join, table, expected}
use Rattle.history_laws.specs.Laws.{stands}
use Rattle.call_rules.specs.Groups.{IsPlaced, first, below}
use Rattle.kernel_model.specs.Known.{Known, no_life, no_retries, call_at, path_at, life_at, settled_outcome, inputs_at, known, begin_at, main_rule, main_left, printed_in, apps_in, IsDone}
use Rattle.kernel_model.specs.Invariants.{FitsLosses, FollowsEvaluation, EndsSo, Tracks, IsConsistent, Inv, GrowsInto}
use Rattle.kernel_model.specs.Acts.{over}
use Rattle.kernel_model.specs.Conditions.{CanEnd}
use Rattle.call_rules.proofs.Tasks.{length-child, same-some, some-of}
use Rattle.call_rules.proofs.Agreeing.{calls-agree}
use Rattle.call_rules.proofs.Evaluating.{whole-ruled}
use Rattle.kernel_model.proofs.Places.{known-at, known-settled, settled-within, run-within, ran-within, IsAt}
use Rattle.kernel_model.proofs.Reading.{end-life, waits-stay}
use Rattle.kernel_model.proofs.Growing.{fits-on, fits-back}
use Rattle.kernel_model.proofs.Memos.{memo-stays}
use Rattle.kernel_model.proofs.Knowing.{task-is, calls-path, whole-agrees}
use Rattle.kernel_model.proofs.KeepingPut.{joined-on, open-yet, free-yet, attempted-on, family-on}
use Rattle.call_rules.specs.Told.{whole_ran, whole}

-- main that is over does nothing more
pub ended-same : (r : Rule) (e : Ending) (a : Act Done) (m : Main) → EndsSo e a → (perform (main_answer r) a m).1 ≡ m
ended-same r e (Give d) m h = refl
ended-same r e (Throw exception) m h = refl
ended-same r e (Ask wanted go) m h = absurd h

pub some-value : {A : Type 0} → (r : Option A) → IsSome r → (a : A) × (r ≡ Some a)
some-value (Some a) h = (a, refl)
some-value None h = absurd (cc)

-- a begin with calls is that of a join
has_calls : (w : Known) (p : Path) (b : Begin) (i : ℕ) → i < length (calls_with (apps_in w) p b) → is_join b ≡ true
has_calls w p (Fails exception) i lt = absurd (omega arith)
has_calls w p (Attempts app values) i lt = absurd (omega arith)
has_calls w p (Joins app values) i lt = refl

pub slice-there : {A : Type 0} → (xs : List A) (i : ℕ) → i < length xs → (x : A) × (slice_get xs i ≡ Some x)
slice-there [] i lt = absurd (omega arith)
slice-there (x ∷ xs) zero lt = (x, refl)
slice-there (x ∷ xs) (suc i) lt = slice-there xs i (omega arith)

-- the whole has made no more calls of main
whole_count : (w : Known) (losses : Losses) → IsConsistent w → IsDone w → (e : FollowsEvaluation losses w) → (whole_ran w.tree losses).1.made.calls ≡ submits w.past
whole_count w losses h done e =
    let last = some-value w.ending done.over in
    let same = ended-same (main_rule w losses) last.0 (main_left w) (record { made = e.made; acts = w.acts; printed = printed_in w.acts }) (h.main.ended last.0 last.1) in
    ap (λ (r : Result Done Exception × Main). r.1.made.calls) e.goes_on ∙ ap (λ (m : Main). m.made.calls) same ∙ e.count

-- where main is over and all is settled, each task of the evaluation is that of a call
pub all-there : (w : Known) (losses : Losses) → Inv w → IsDone w → (e : FollowsEvaluation losses w) → (n : ℕ) (p : Path) (t : Task) → length p < n → found (whole w.tree losses) p ≡ Some t → IsAt w p
all-there w losses inv done e zero p t short h = absurd (omega arith)
all-there w losses inv done e (suc n) p t short h = by_place ((whole-ruled w.tree inv.holds.told losses).placed p t h) (λ s q lt at. all-there w losses inv done e n q s lt at)
  where
    all : Tasks
    all = whole w.tree losses

    by_place : IsPlaced (apps_in w) all [] (whole_ran w.tree losses).1.made.calls p → ((s : Task) (q : Path) → length q < n → found all q ≡ Some s → IsAt w q) → IsAt w p
    by_place (first i lt is) further =
        let count = whole_count w losses inv.holds done e in
        let at = inv.holds.main.mains i (omega arith) in
        record { place = at.0; within = at.1; is = at.2 ∙ sym is }
    by_place (below s i at lt is) further =
        let long = length-child s.path i in
        let same_length = ap length is in
        let caller = further s s.path (omega arith) at in
        let k = caller.place in
        let hw = inv.holds in
        let so = some-value (settled_outcome w k) (done.settled k caller.within) in
        let fits = hw.right.fits k so.0 so.1 in
        let there = e.placed k caller.within in
        let task : s ≡ task_of (call_at w k) there.outcome = same-some s _ (sym at ∙ ap (found all) (sym caller.is) ∙ there.at) in
        let calls : calls_below (apps_in w) all (call_in s) ≡ calls_below (apps_in w) (known w) (call_at w k)
        = ap (λ (x : Task). calls_below (apps_in w) all (call_in x)) task ∙ calls-agree (apps_in w) all (known w) (call_at w k) (whole-agrees w losses hw.tracks e (inputs_at w k) fits.inputs) in
        let within : i < length (calls_below (apps_in w) (known w) (call_at w k)) = omega (arith, ap length calls, lt) in
        let join = has_calls w (path_at w k) (begin_at w k) i within in
        let ran = some-value (life_at w k).ran (hw.joins.settled k so.0 so.1 join) in
        let joined = hw.joins.ran k ran.0 ran.1 in
        let c = slice-there (calls_below (apps_in w) (known w) (call_at w k)) i within in
        let dried : calls_below (apps_in w) (known w) (call_at w k) ≡ (join_dry (apps_in w) (path_at w k) joined.app joined.values).1 = ap (calls_with (apps_in w) (path_at w k)) joined.begins in
        let called = joined.children i c.0 (ap (λ (cs : List Call). slice_get cs i) (sym dried) ∙ c.1) (λ m d. (let few = inv.quiet k m caller.within d in omega arith)) in
        let path = calls-path (apps_in w) (known w) (call_at w k) i c.0 c.1 in
        record { place = called.place; within = called.within; is = ap (λ (b : Call). b.path) called.is ∙ path ∙ ap (λ (q : Path). child q i) caller.is ∙ sym is }

pub call-there : (w : Known) (losses : Losses) → Inv w → IsDone w → (e : FollowsEvaluation losses w) → (p : Path) → IsSome (task_at (table w.tree losses) p) → IsAt w p
call-there w losses inv done e p h = by_found (found (whole w.tree losses) p) refl
  where
    by_found : (r : Option Task) → found (whole w.tree losses) p ≡ r → IsAt w p
    by_found (Some t) is = all-there w losses inv done e (suc (length p)) p t (omega arith) is
    by_found None is = absurd (let none : task_at (table w.tree losses) p ≡ None = task-is w.tree losses p ∙ ap (option_map (expected (apps_in w) (whole w.tree losses))) is in let bad = rw none at h in cc)

over_grows : (w : Known) → GrowsInto w (over w)
over_grows w = record { tree = refl; outcome = λ k outcome h. h; calls = omega arith; call = λ k h. refl }

over_tracks : (w : Known) → Inv w → Tracks (over w)
over_tracks w inv =
    let tw = inv.holds.tracks in
    record {
      lives = tw.lives;
      distinct = tw.distinct;
      there = tw.there;
      lived = λ k h. end-life no_retries (path_at w k) w.past (life_at w k) (tw.lived k h);
      none = λ p ne. end-life no_retries p w.past no_life (tw.none p ne);
      begun = tw.begun;
      family = λ k h. family-on w (over w) (over_grows w) (λ j ran. ran) (omega arith) k h (tw.family k h);
    }

pub keep-over : (w : Known) → Inv w → CanEnd w → Inv (over w)
keep-over w inv can =
    let h = inv.holds in
    let v : Known = over w in
    let tw = h.tracks in
    let tv = over_tracks w inv in
    let grows = over_grows w in
    let done = can.done in
    let back : (losses : Losses) → FitsLosses losses v → FitsLosses losses w = fits-back w v tw tv grows (lost w.past) h.right.fits in
    let settled_at : (k : ℕ) → k < length w.calls → IsSome (settled (path_at w k) w.past) = λ k lt. (known-settled w tw (path_at w k ∷ []) (subst (λ (r : Option Outcome). IsSome r) (sym (known-at w tw k lt)) (done.settled k lt), tt)).0 in
    record {
      holds = record {
        told = h.told;
        texts = h.texts;
        tracks = tv;
        runs = record { attempted = λ k r. attempted-on w v tw tv grows k (run-within w tw.lives k r) (h.runs.attempted k r); ended = h.runs.ended };
        joins = record {
          ran = λ k result g. joined-on w v inv tv grows k result (ran-within w tw.lives k (some-of (life_at w k).ran result g)) (h.joins.ran k result g);
          settled = h.joins.settled;
          is_due = λ p n g. absurd (cc);
        };
        memo = memo-stays w v h tv grows refl (λ keys key. refl) (λ k outcome g. g);
        main = record { asks = h.main.asks; mains = h.main.mains; called = h.main.called; waits = waits-stay entry.End (acts_of w.acts) w.past h.main.waits; ended = h.main.ended };
        right = record {
          fits = λ k outcome g. fits-on w v tw tv grows (lost w.past) k outcome (settled-within w tw.lives k outcome g) (h.right.fits k outcome g);
          evaluates = λ losses f. let e = h.right.evaluates losses (back losses f) in record { made = e.made; count = e.count; group = e.group; goes_on = e.goes_on; placed = e.placed; agrees = e.agrees };
          legal = λ losses f.
              let e = h.right.evaluates losses (back losses f) in
              let b = h.right.legal losses (back losses f) in
              record {
                settling = (
                  record {
                    open_yet = open-yet w can.not_ended;
                    stands = stands (free-yet w inv losses e) (record {
                      submitted = λ p there. let at = call-there w losses inv done e p there in rw (sym at.is) (tw.there at.place at.within);
                      settled = λ p there. let at = call-there w losses inv done e p there in subst (λ (q : Path). IsSome (settled q w.past)) at.is (settled_at at.place at.within);
                    });
                  },
                  b.settling,
                );
                launching = (tt, b.launching);
                attempts = (tt, b.attempts);
                managers = (refl, b.managers);
              };
          ends = λ g. record { over = done.over; settled = done.settled };
        };
      };
      quiet = λ k n lt at. absurd (cc);
    }
