-- Sums over calls and over the tasks of an evaluation in which each of them is.
use Rattle.std.proofs.Common.{◌≡◌, ◌≢◌, ℕ, suc, ◌+◌, ◌<◌, ◌≤◌, Bool, true, false, List, [], ◌∷◌, ◌++◌, length, map, sum, Option, Some, None, get_or, refl, sym, ◌∙◌, ap, arith, bytes_eq}
use Rattle.std.specs.Prelude.{if◌then◌else◌}
use Rattle.std.proofs.lemmas.Slice.Eq.{bytes_eq-Decides}
use Rattle.flow_base.specs.declared.outcome.Outcome.{Outcome}
use Rattle.flow_meaning.specs.Inputs.{Path}
use Rattle.flow_meaning.specs.Sequential.{Task, Tasks}
use Rattle.stored_units.specs.Stored.{outcome_units}
use Rattle.stored_units.specs.Totals.{units_of_task}
use Rattle.call_rules.specs.Calls.{Call, found, task_of}
use Rattle.call_rules.specs.Groups.{HasTask}
use Rattle.call_rules.specs.Orders.{path_less, placed, in_order}
use Rattle.call_rules.proofs.Tasks.{found-other, same-some}
use Rattle.kernel_model.specs.Known.{Life, no_call, no_life, outcome_in, known_in, tasks_where}
use Rattle.kernel_model.specs.Limits.{units_of_call, units_where, units_of_life}
use Rattle.kernel_model.proofs.Counting.{sum-cons}

-- ---- a task taken out

abbrev without : Tasks → Path → Tasks
without [] p = []
without (t ∷ ts) p = if bytes_eq t.path p then ts else t ∷ without ts p

record IsTaken (ts : Tasks) (p : Path) (t : Task) : Type 0 where
  count : length ts ≡ suc (length (without ts p))
  total : sum (map units_of_task ts) ≡ units_of_task t + sum (map units_of_task (without ts p))
  others : (q : Path) → q ≢ p → found (without ts p) q ≡ found ts q

taken : (ts : Tasks) (p : Path) (t : Task) → found ts p ≡ Some t → IsTaken ts p t
taken [] p t h = absurd (cc)
taken (s ∷ ts) p t h = by_test (bytes_eq s.path p) refl (taken ts p t)
  where
    by_test : (b : Bool) → bytes_eq s.path p ≡ b → (found ts p ≡ Some t → IsTaken ts p t) → IsTaken (s ∷ ts) p t
    by_test true e further =
        let same : s ≡ t = same-some s t (rw e at h) in
        let rest : without (s ∷ ts) p ≡ ts = rw e refl in
        let path : s.path ≡ p = (bytes_eq-Decides s.path p).0 e in
        record {
          count = ap (λ (l : Tasks). suc (length l)) (sym rest);
          total = sum-cons units_of_task s ts ∙ ap (λ (x : Task). units_of_task x + sum (map units_of_task ts)) same ∙ ap (λ (l : Tasks). units_of_task t + sum (map units_of_task l)) (sym rest);
          others = λ q ne. ap (λ (l : Tasks). found l q) rest ∙ sym (found-other s ts q (λ g. ne (sym g ∙ path)));
        }
    by_test false e further =
        let t_rest = further (rw e at h) in
        let rest : without (s ∷ ts) p ≡ s ∷ without ts p = rw e refl in
        record {
          count = ap suc t_rest.count ∙ ap (λ (l : Tasks). suc (length l)) (sym rest);
          total = omega (arith, sum-cons units_of_task s ts, t_rest.total, ap (λ (l : Tasks). sum (map units_of_task l)) rest, sum-cons units_of_task s (without ts p));
          others = λ q ne. ap (λ (l : Tasks). found l q) rest ∙ ap (λ (r : Option Task). if bytes_eq s.path q then Some s else r) (t_rest.others q ne);
        }

-- ---- calls with their tasks

abbrev pub Distinct : List Call → Type 0
Distinct cs = (j k : ℕ) → j < length cs → k < length cs → (get_or cs j no_call).path ≡ (get_or cs k no_call).path → j ≡ k

-- a call has its task there, and where its outcome is known it is the task's
pub record IsPaired (ts : Tasks) (c : Call) (life : Life) : Type 0 where
  pub there : HasTask ts c
  pub agrees : (outcome : Outcome) → outcome_in life ≡ Some outcome → there.outcome ≡ outcome

abbrev pub ArePaired : Tasks → List Call → List Life → Type 0
ArePaired ts cs lives = (k : ℕ) → k < length cs → IsPaired ts (get_or cs k no_call) (get_or lives k no_life)

units_below : (life : Life) (outcome : Outcome) → ((o : Outcome) → outcome_in life ≡ Some o → outcome ≡ o) → units_of_life life ≤ outcome_units outcome
units_below life outcome h = by_known (outcome_in life) refl
  where
    by_known : (r : Option Outcome) → outcome_in life ≡ r → units_where r ≤ outcome_units outcome
    by_known None e = omega arith
    by_known (Some o) e = let same = ap outcome_units (h o e) in omega arith

pub record AreWithin (cs : List Call) (lives : List Life) (ts : Tasks) : Type 0 where
  pub count : length cs ≤ length ts
  pub total : sum (map units_of_call cs) + sum (map units_of_life lives) ≤ sum (map units_of_task ts)

pub within-tasks : (cs : List Call) (lives : List Life) (ts : Tasks) → length lives ≡ length cs → Distinct cs → ArePaired ts cs lives → AreWithin cs lives ts
within-tasks [] [] ts same distinct paired = record { count = omega arith; total = omega arith }
within-tasks [] (life ∷ lives) ts same distinct paired = absurd (omega arith)
within-tasks (c ∷ cs) [] ts same distinct paired = absurd (omega arith)
within-tasks (c ∷ cs) (life ∷ lives) ts same distinct paired =
    let one = paired 0 (omega arith) in
    let out = taken ts c.path (task_of c one.there.outcome) one.there.at in
    let rest_paired : ArePaired (without ts c.path) cs lives = λ k lt.
    let p = paired (suc k) (omega arith) in
    let other : (get_or cs k no_call).path ≢ c.path = λ e. (let eq = distinct 0 (suc k) (omega arith) (omega arith) (sym e) in omega arith) in
    record { there = record { outcome = p.there.outcome; at = out.others (get_or cs k no_call).path other ∙ p.there.at }; agrees = p.agrees } in
    let rest = within-tasks cs lives (without ts c.path) (omega arith) (λ j k lj lk e. (let eq = distinct (suc j) (suc k) (omega arith) (omega arith) e in omega arith)) rest_paired in
    record {
      count = omega (arith, rest.count, out.count);
      total = omega (arith, rest.total, out.total, sum-cons units_of_call c cs, sum-cons units_of_life life lives, units_below life one.there.outcome one.agrees);
    }

-- ---- the settled tasks

pub record AreNoMore (ts : Tasks) (cs : List Call) (lives : List Life) : Type 0 where
  pub count : length ts ≤ length cs
  pub total : sum (map units_of_task ts) ≤ sum (map units_of_call cs) + sum (map units_of_life lives)

pub known-no_more : (cs : List Call) (lives : List Life) → AreNoMore (known_in cs lives) cs lives
known-no_more [] lives = record { count = omega arith; total = omega arith }
known-no_more (c ∷ cs) [] = record { count = omega arith; total = omega arith }
known-no_more (c ∷ cs) (life ∷ lives) = by_known (outcome_in life) refl (known-no_more cs lives)
  where
    by_known : (r : Option Outcome) → outcome_in life ≡ r → AreNoMore (known_in cs lives) cs lives → AreNoMore (tasks_where c r ++ known_in cs lives) (c ∷ cs) (life ∷ lives)
    by_known None e rest = record {
      count = omega (arith, rest.count);
      total = omega (arith, rest.total, sum-cons units_of_call c cs, sum-cons units_of_life life lives);
    }
    by_known (Some outcome) e rest = record {
      count = omega (arith, rest.count);
      total = omega (arith, rest.total, sum-cons units_of_call c cs, sum-cons units_of_life life lives, ap units_where e, sum-cons units_of_task (task_of c outcome) (known_in cs lives));
    }

-- ---- in order

record IsSame (ts us : Tasks) : Type 0 where
  count : length us ≡ length ts
  total : sum (map units_of_task us) ≡ sum (map units_of_task ts)

placed_same : (t : Task) (ts : Tasks) → IsSame (t ∷ ts) (placed t ts)
placed_same t [] = record { count = refl; total = refl }
placed_same t (s ∷ ts) = by_test (path_less t.path s.path) refl (placed_same t ts)
  where
    by_test : (b : Bool) → path_less t.path s.path ≡ b → IsSame (t ∷ ts) (placed t ts) → IsSame (t ∷ s ∷ ts) (if b then t ∷ s ∷ ts else s ∷ placed t ts)
    by_test true e rest = record { count = refl; total = refl }
    by_test false e rest = record {
      count = omega (arith, rest.count);
      total = omega (arith, rest.total, sum-cons units_of_task s (placed t ts), sum-cons units_of_task t ts, sum-cons units_of_task t (s ∷ ts), sum-cons units_of_task s ts);
    }

order_same : (ts : Tasks) → IsSame ts (in_order ts)
order_same [] = record { count = refl; total = refl }
order_same (t ∷ ts) =
    let rest = order_same ts in
    let one = placed_same t (in_order ts) in
    record { count = omega (arith, one.count, rest.count); total = omega (arith, one.total, rest.total, sum-cons units_of_task t (in_order ts), sum-cons units_of_task t ts) }

pub order-count : (ts : Tasks) → length (in_order ts) ≡ length ts
order-count ts = (order_same ts).count

pub order-total : (ts : Tasks) → sum (map units_of_task (in_order ts)) ≡ sum (map units_of_task ts)
order-total ts = (order_same ts).total
