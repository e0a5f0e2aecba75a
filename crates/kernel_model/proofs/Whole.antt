-- Where all is done, a kernel gives the sequential evaluation.
use Rattle.std.proofs.Common.{◌≡◌, ◌≢◌, ℕ, zero, suc, ◌<◌, List, [], ◌∷◌, ◌++◌, length, map, Option, Some, None, get_or, refl, sym, ◌∙◌, ap, subst, arith}
use Rattle.std.specs.Prelude.{Result, option_map}
use Rattle.flow_base.specs.declared.value.Value.{Value}
use Rattle.flow_base.specs.declared.outcome.Ending.{Ending}
use Rattle.flow_base.specs.declared.outcome.Evaluation.{Evaluation}
use Rattle.flow_base.specs.declared.outcome.TaskEnd.{TaskEnd}
use Rattle.flow_base.specs.declared.outcome.Exception.{Exception}
use Rattle.flow_base.specs.declared.outcome.Outcome.{Outcome}
use Rattle.flow_meaning.specs.Act.{Act, Give, Throw, Ask}
use Rattle.flow_meaning.specs.Evaluations.{task_end, evaluation_in}
use Rattle.flow_meaning.specs.Inputs.{Path}
use Rattle.flow_meaning.specs.Meaning.{Done}
use Rattle.flow_meaning.specs.Sequential.{Task, Tasks, Main, Rule, perform, main_answer, ending_of, seq}
use Rattle.call_rules.specs.Calls.{Losses, Call, task_of, found}
use Rattle.history_laws.specs.Reads.{lost}
use Rattle.call_rules.specs.Orders.{in_order}
use Rattle.kernel_model.specs.Evaluated.{ending_or, evaluated}
use Rattle.kernel_model.specs.Known.{Known, Life, no_call, no_life, call_at, path_at, outcome_in, settled_outcome, known, known_in, tasks_where, main_rule, main_left, printed_in, apps_in, IsDone}
use Rattle.kernel_model.specs.Invariants.{FollowsEvaluation, EndsSo, Tracks, Inv}
use Rattle.call_rules.proofs.Tasks.{found-first, found-other, found-known, outcome-found, same-some}
use Rattle.call_rules.proofs.Evaluating.{whole-ruled}
use Rattle.kernel_model.proofs.Knowing.{known-whole}
use Rattle.kernel_model.proofs.KeepingEnd.{all-there, ended-same, some-value}
use Rattle.call_rules.proofs.Ordering.{NoneTwice, order-all, order-unique}
use Rattle.call_rules.specs.Told.{whole_ran, whole}

abbrev Distinct : List Call → Type 0
Distinct cs = (j k : ℕ) → j < length cs → k < length cs → (get_or cs j no_call).path ≡ (get_or cs k no_call).path → j ≡ k

distinct_rest : (c : Call) (cs : List Call) → Distinct (c ∷ cs) → Distinct cs
distinct_rest c cs h j k lj lk e = let same = h (suc j) (suc k) (omega arith) (omega arith) e in omega arith

where_other : (c : Call) (f : Option Outcome) (ts : Tasks) (p : Path) → c.path ≢ p → found (tasks_where c f ++ ts) p ≡ found ts p
where_other c None ts p ne = refl
where_other c (Some outcome) ts p ne = found-other (task_of c outcome) ts p ne

absent : (cs : List Call) (lives : List Life) (p : Path) → ((k : ℕ) → k < length cs → (get_or cs k no_call).path ≢ p) → found (known_in cs lives) p ≡ None
absent [] lives p ne = refl
absent (c ∷ cs) [] p ne = refl
absent (c ∷ cs) (life ∷ lives) p ne = where_other c (outcome_in life) (known_in cs lives) p (ne 0 (omega arith)) ∙ absent cs lives p (λ k lt. ne (suc k) (omega arith))

absent_rest : (c : Call) (cs : List Call) (lives : List Life) → Distinct (c ∷ cs) → found (known_in cs lives) c.path ≡ None
absent_rest c cs lives distinct = absent cs lives c.path (λ k lt e. let same = distinct 0 (suc k) (omega arith) (omega arith) (sym e) in omega arith)

where_same : (c : Call) (f : Option Outcome) (ts : Tasks) → found ts c.path ≡ None → found (tasks_where c f ++ ts) c.path ≡ option_map (task_of c) f
where_same c None ts none = none
where_same c (Some outcome) ts none = found-first (task_of c outcome) ts

found_at : (cs : List Call) (lives : List Life) → length lives ≡ length cs → Distinct cs → (k : ℕ) → k < length cs → found (known_in cs lives) (get_or cs k no_call).path ≡ option_map (task_of (get_or cs k no_call)) (outcome_in (get_or lives k no_life))
found_at [] lives same distinct k lt = absurd (omega arith)
found_at (c ∷ cs) [] same distinct k lt = absurd (omega arith)
found_at (c ∷ cs) (life ∷ lives) same distinct zero lt = where_same c (outcome_in life) (known_in cs lives) (absent_rest c cs lives distinct)
found_at (c ∷ cs) (life ∷ lives) same distinct (suc k) lt =
    where_other c (outcome_in life) (known_in cs lives) (get_or cs k no_call).path (λ e. let eq = distinct 0 (suc k) (omega arith) (omega arith) e in omega arith)
    ∙ found_at cs lives (omega arith) (distinct_rest c cs distinct) k (omega arith)

-- no path is known twice
twice_where : (c : Call) (f : Option Outcome) (ts : Tasks) → found ts c.path ≡ None → NoneTwice ts → NoneTwice (tasks_where c f ++ ts)
twice_where c None ts none h = h
twice_where c (Some outcome) ts none h = (none, h)

none_twice : (cs : List Call) (lives : List Life) → Distinct cs → NoneTwice (known_in cs lives)
none_twice [] lives distinct = tt
none_twice (c ∷ cs) [] distinct = tt
none_twice (c ∷ cs) (life ∷ lives) distinct = twice_where c (outcome_in life) (known_in cs lives) (absent_rest c cs lives distinct) (none_twice cs lives (distinct_rest c cs distinct))

-- the tasks that are known are those of the evaluation
same_found : (w : Known) (losses : Losses) → Inv w → IsDone w → (e : FollowsEvaluation losses w) → (p : Path) → found (known w) p ≡ found (whole w.tree losses) p
same_found w losses inv done e p = by_whole (found (whole w.tree losses) p) refl
  where
    tw : Tracks w
    tw = inv.holds.tracks

    by_known : (r : Option Task) → found (known w) p ≡ r → found (whole w.tree losses) p ≡ None → found (known w) p ≡ None
    by_known None f g = f
    by_known (Some t) f g =
        let there = known-whole w losses tw e p t.outcome (outcome-found (known w) p t f) in
        let some = found-known (whole w.tree losses) p t.outcome there in
        absurd (let at = some.1.0 in cc)

    by_whole : (r : Option Task) → found (whole w.tree losses) p ≡ r → found (known w) p ≡ found (whole w.tree losses) p
    by_whole None g = by_known (found (known w) p) refl g ∙ sym g
    by_whole (Some t) g =
        let at = all-there w losses inv done e (suc (length p)) p t (omega arith) g in
        let k = at.place in
        let so = some-value (settled_outcome w k) (done.settled k at.within) in
        let there = e.placed k at.within in
        let known_at : found (known w) (path_at w k) ≡ Some (task_of (call_at w k) so.0) = found_at w.calls w.lives tw.lives tw.distinct k at.within ∙ ap (option_map (task_of (call_at w k))) so.1 in
        let outcome : there.outcome ≡ so.0 = same-some there.outcome so.0 (sym (outcome-found (whole w.tree losses) (path_at w k) (task_of (call_at w k) there.outcome) there.at) ∙ e.agrees k so.0 so.1) in
        let same : found (known w) (path_at w k) ≡ found (whole w.tree losses) (path_at w k) = known_at ∙ ap (λ (x : Outcome). Some (task_of (call_at w k) x)) (sym outcome) ∙ sym there.at in
        subst (λ (q : Path). found (known w) q ≡ found (whole w.tree losses) q) at.is same

-- and in the order of their paths, they are its tasks
pub tasks-same : (w : Known) (losses : Losses) → Inv w → IsDone w → FollowsEvaluation losses w → in_order (known w) ≡ whole w.tree losses
tasks-same w losses inv done e =
    let order = order-all (known w) (none_twice w.calls w.lives inv.holds.tracks.distinct) in
    order-unique (in_order (known w)) (whole w.tree losses) order.0 (whole-ruled w.tree inv.holds.told losses).ascending (λ p. order.1 p ∙ same_found w losses inv done e p)

ending_same : (r : Rule) (x : Ending) (a : Act Done) (m : Main) → EndsSo x a → x ≡ ending_of (perform (main_answer r) a m).0
ending_same r x (Give d) m h = h
ending_same r x (Throw exception) m h = h
ending_same r x (Ask wanted go) m h = absurd h

abbrev given : List Value → List TaskEnd → Ending → Evaluation
given printed tasks x = record { printed = printed; tasks = tasks; main = x }

pub evaluation-now : (w : Known) → Inv w → IsDone w → evaluated w ≡ evaluation_in (apps_in w) (seq w.tree.0 w.tree.1 (lost w.past))
unfolding seq
evaluation-now w inv done =
    let losses : Losses = lost w.past in
    let e = inv.holds.right.evaluates losses inv.holds.right.fits in
    let last = some-value w.ending done.over in
    let ends = inv.holds.main.ended last.0 last.1 in
    let r : Rule = main_rule w losses in
    let m : Main = record { made = e.made; acts = w.acts; printed = printed_in w.acts } in
    let tasks = ap (map (task_end (apps_in w))) (tasks-same w losses inv done e) in
    let printed : printed_in w.acts ≡ (whole_ran w.tree losses).1.printed = sym (ap (λ (x : Result Done Exception × Main). x.1.printed) e.goes_on ∙ ap (λ (n : Main). n.printed) (ended-same r last.0 (main_left w) m ends)) in
    let ending_is : ending_or w.ending ≡ ending_of (whole_ran w.tree losses).0 = ap ending_or last.1 ∙ ending_same r last.0 (main_left w) m ends ∙ ap (λ (x : Result Done Exception × Main). ending_of x.0) (sym e.goes_on) in
    ap (λ (l : List TaskEnd). given (printed_in w.acts) l (ending_or w.ending)) tasks
    ∙ ap (λ (l : List Value). given l (map (task_end (apps_in w)) (whole w.tree losses)) (ending_or w.ending)) printed
    ∙ ap (given (whole_ran w.tree losses).1.printed (map (task_end (apps_in w)) (whole w.tree losses))) ending_is
