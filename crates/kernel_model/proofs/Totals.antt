-- A kernel has no more calls than its evaluation and, the memo aside, stores no more units, and in the end as many.
use Rattle.std.proofs.Common.{◌≡◌, ℕ, ◌+◌, ◌≤◌, List, [], ◌∷◌, length, map, sum, refl, sym, ◌∙◌, ap, arith}
use Rattle.std.specs.Prelude.{Result}
use Rattle.flow_base.specs.declared.value.Value.{Value, out-Value}
use Rattle.flow_base.specs.declared.outcome.Exception.{Exception}
use Rattle.flow_base.specs.Values.{units}
use Rattle.flow_meaning.specs.declared.walk.Request.{Request}
use Rattle.flow_meaning.specs.declared.walk.Request.TheVariants as request
use Rattle.flow_meaning.specs.Act.{Act, Give, Throw, Ask}
use Rattle.flow_meaning.specs.Inputs.{Path, path_in}
use Rattle.flow_meaning.specs.Meaning.{Done}
use Rattle.flow_meaning.specs.Sequential.{Tasks, Main, Rule, Sequential, perform, main_answer, waits, seq}
use Rattle.stored_units.specs.Totals.{units_of_task, total_units}
use Rattle.call_rules.specs.Calls.{Losses}
use Rattle.call_rules.specs.Orders.{in_order}
use Rattle.call_rules.specs.Told.{whole_ran, whole}
use Rattle.history_laws.specs.Reads.{lost}
use Rattle.kernel_model.specs.Known.{Known, path_at, known, main_rule, main_left, printed_in, IsDone}
use Rattle.kernel_model.specs.Invariants.{FollowsEvaluation, Inv}
use Rattle.kernel_model.specs.Limits.{units_of_call, units_of_life}
use Rattle.call_rules.proofs.Tasks.{outcome-found, same-some}
use Rattle.kernel_model.proofs.Counting.{sum-push}
use Rattle.kernel_model.proofs.Pairing.{ArePaired, AreWithin, within-tasks, known-no_more, order-count, order-total}
use Rattle.kernel_model.proofs.KeepingEnd.{ended-same, some-value}
use Rattle.kernel_model.proofs.Whole.{tasks-same}

-- ---- printed values

-- an act only prints more
waits_prints : (m : Main) (ps : List Path) → (waits m ps).1.printed ≡ m.printed
waits_prints m [] = refl
waits_prints m (p ∷ ps) = refl

performs_prints : (r : Rule) (act : Act Done) (m : Main) → sum (map units m.printed) ≤ sum (map units (perform (main_answer r) act m).1.printed)
performs_prints r (Give d) m = omega arith
performs_prints r (Throw exception) m = omega arith
performs_prints r (Ask w go) m = let more = answers_print w in let rest = performs_prints r (go (main_answer r w m).0) (main_answer r w m).1 in omega arith
  where
    answers_print : (wanted : Request) → sum (map units m.printed) ≤ sum (map units (main_answer r wanted m).1.printed)
    answers_print (request.Call app arguments names) = omega arith
    answers_print (request.WaitValue f) = omega (arith, ap (λ (l : List Value). sum (map units l)) (waits_prints m (path_in (out-Value f))))
    answers_print (request.WaitName f) = omega (arith, ap (λ (l : List Value). sum (map units l)) (waits_prints m (path_in (out-Value f))))
    answers_print (request.Print value) = omega (arith, sum-push units m.printed value)
    answers_print request.Checkpoint = omega arith

-- ---- at any time

abbrev pub evaluation_of : Known → Sequential
evaluation_of w = seq w.tree.0 w.tree.1 (lost w.past)

-- what is stored beside the memo
abbrev pub seen_units : Known → ℕ
seen_units w = sum (map units_of_call w.calls) + sum (map units_of_life w.lives) + sum (map units (printed_in w.acts))

paired : (w : Known) (losses : Losses) → FollowsEvaluation losses w → ArePaired (whole w.tree losses) w.calls w.lives
paired w losses e k lt =
    let there = e.placed k lt in
    record {
      there = there;
      agrees = λ outcome h. same-some there.outcome outcome (sym (outcome-found (whole w.tree losses) (path_at w k) _ there.at) ∙ e.agrees k outcome h);
    }

tasks_within : (w : Known) → Inv w → AreWithin w.calls w.lives (whole w.tree (lost w.past))
tasks_within w inv =
    let e = inv.holds.right.evaluates (lost w.past) inv.holds.right.fits in
    within-tasks w.calls w.lives (whole w.tree (lost w.past)) inv.holds.tracks.lives inv.holds.tracks.distinct (paired w (lost w.past) e)

printed_within : (w : Known) → Inv w → sum (map units (printed_in w.acts)) ≤ sum (map units (whole_ran w.tree (lost w.past)).1.printed)
printed_within w inv =
    let losses : Losses = lost w.past in
    let e = inv.holds.right.evaluates losses inv.holds.right.fits in
    let m : Main = record { made = e.made; acts = w.acts; printed = printed_in w.acts } in
    omega (arith, performs_prints (main_rule w losses) (main_left w) m, ap (λ (x : Result Done Exception × Main). sum (map units x.1.printed)) e.goes_on)

pub calls-within : (w : Known) → Inv w → length w.calls ≤ length (evaluation_of w).tasks
unfolding seq
calls-within w inv = (tasks_within w inv).count

pub units-within : (w : Known) → Inv w → seen_units w ≤ total_units (evaluation_of w)
unfolding seq
units-within w inv = omega (arith, (tasks_within w inv).total, printed_within w inv)

-- ---- at the end

tasks_done : (w : Known) → Inv w → IsDone w → in_order (known w) ≡ whole w.tree (lost w.past)
tasks_done w inv done = tasks-same w (lost w.past) inv done (inv.holds.right.evaluates (lost w.past) inv.holds.right.fits)

printed_done : (w : Known) → Inv w → IsDone w → (whole_ran w.tree (lost w.past)).1.printed ≡ printed_in w.acts
printed_done w inv done =
    let losses : Losses = lost w.past in
    let e = inv.holds.right.evaluates losses inv.holds.right.fits in
    let last = some-value w.ending done.over in
    let m : Main = record { made = e.made; acts = w.acts; printed = printed_in w.acts } in
    ap (λ (x : Result Done Exception × Main). x.1.printed) e.goes_on ∙ ap (λ (n : Main). n.printed) (ended-same (main_rule w losses) last.0 (main_left w) m (inv.holds.main.ended last.0 last.1))

pub calls-done : (w : Known) → Inv w → IsDone w → length (evaluation_of w).tasks ≤ length w.calls
unfolding seq
calls-done w inv done = omega (arith, ap length (tasks_done w inv done), order-count (known w), (known-no_more w.calls w.lives).count)

units_done : (w : Known) → Inv w → IsDone w → total_units (evaluation_of w) ≤ seen_units w
unfolding seq
units_done w inv done =
    omega (
      arith,
      ap (λ (ts : Tasks). sum (map units_of_task ts)) (tasks_done w inv done),
      order-total (known w),
      (known-no_more w.calls w.lives).total,
      ap (λ (l : List Value). sum (map units l)) (printed_done w inv done),
    )

-- both sums are then those of the evaluation
pub calls-equal : (w : Known) → Inv w → IsDone w → length w.calls ≡ length (evaluation_of w).tasks
calls-equal w inv done = let less = calls-within w inv in let more = calls-done w inv done in omega arith

pub units-done : (w : Known) → Inv w → IsDone w → seen_units w ≡ total_units (evaluation_of w)
units-done w inv done = let less = units-within w inv in let more = units_done w inv done in omega arith
