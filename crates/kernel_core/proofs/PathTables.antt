-- What the table of paths says of a run.
use Rattle.std.proofs.Common.{◌≡◌, ◌≢◌, ℕ, zero, suc, ◌+◌, ◌<◌, ◌≤◌, List, [], ◌∷◌, ◌++◌, length, map, Option, Some, None, get_or, refl, sym, ◌∙◌, ap, subst, arith}
use Rattle.std.specs.Prelude.{if◌then◌else◌, slice_get, option_map, MatchOption}
use Rattle.std.proofs.lemmas.List.{length-append, map-append}
use Rattle.flow_base.specs.declared.outcome.Outcome.{Outcome}
use Rattle.flow_meaning.specs.Inputs.{Path}
use Rattle.flow_meaning.specs.Sequential.{Task as TaskOf, Tasks}
use Rattle.call_rules.specs.Calls.{Call, task_of}
use Rattle.call_rules.proofs.Tasks.{child-same, parent-same}
use Rattle.dependency_graph.specs.Places.{place_in, settled_by}
use Rattle.dependency_graph.proofs.Places.{place-within, place-none, absent}
use Rattle.history_laws.specs.Reads.{is_of_main, submits}
use Rattle.kernel_model.specs.Known.{Known, Life, no_call, path_at, outcome_in, known, known_in, tasks_where, next_path}
use Rattle.kernel_model.specs.Acts.{called}
use Rattle.kernel_model.specs.Invariants.{IsOf, of_main, of_join, Tracks}
use Rattle.kernel_model.proofs.KeepingTasks.{path-long}
use Rattle.kernel_core.specs.declared.task.Task.{Task}
use Rattle.kernel_core.specs.Tasks.{call_of, life_of, settled_task, tasks_by}
use Rattle.kernel_core.specs.Turned.{IsPlaceOf, IsNowhere}
use Rattle.kernel_core.specs.Views.{IsIndexed}

abbrev pub paths_of : List Call → List Path
paths_of = map (λ (c : Call). c.path)

path_there : (cs : List Call) (k : ℕ) → k < length cs → slice_get (paths_of cs) k ≡ Some (get_or cs k no_call).path
path_there [] k within = absurd (omega arith)
path_there (c ∷ cs) zero within = refl
path_there (c ∷ cs) (suc k) within = path_there cs k (omega arith)

-- the path that a place of the table has
record IsPathAt (cs : List Call) (k : ℕ) (p : Path) : Type 0 where
  within : k < length cs
  is : (get_or cs k no_call).path ≡ p

path_read : (cs : List Call) (k : ℕ) (p : Path) → slice_get (paths_of cs) k ≡ Some p → IsPathAt cs k p
path_read [] k p is = absurd (cc)
path_read (c ∷ cs) zero p is = record { within = omega arith; is = cc }
path_read (c ∷ cs) (suc k) p is = let h = path_read cs k p is in record { within = (let less = h.within in omega arith); is = h.is }

-- ---- the task of a path

pub placed-at : (w : Known) (places : List Path) (mains : ℕ) (p : Path) (found : Option ℕ) → IsIndexed w places mains → found ≡ place_in places p → MatchOption found (IsNowhere w p) (IsPlaceOf w p)
placed-at w places mains p None h is =
    λ k at. place-none places p (sym is) k (path_at w k) (ap (λ (ps : List Path). slice_get ps k) h.placed ∙ path_there w.calls k at.within) at.is
placed-at w places mains p (Some k) h is =
    let there = place-within places p k (sym is) in
    let read = path_read w.calls k p (ap (λ (ps : List Path). slice_get ps k) (sym h.placed) ∙ there.1) in
    record { within = read.within; is = read.is }

-- ---- the settled tasks

settled_first : (c : Call) (found : Option Outcome) (ps : List Path) (ts : List (Option TaskOf)) (us : Tasks) → settled_by ps ts ≡ us → settled_by (c.path ∷ ps) (option_map (task_of c) found ∷ ts) ≡ tasks_where c found ++ us
settled_first c None ps ts us same = same
settled_first c (Some outcome) ps ts us same = ap (λ (vs : Tasks). task_of c outcome ∷ vs) same

known_by : (ts : List Task) → tasks_by (paths_of (map call_of ts)) ts ≡ known_in (map call_of ts) (map life_of ts)
known_by [] = refl
known_by (t ∷ ts) = settled_first (call_of t) (outcome_in (life_of t)) (paths_of (map call_of ts)) (map settled_task ts) (known_in (map call_of ts) (map life_of ts)) (known_by ts)

-- the settled ones of these tasks are those that a run knows
pub known-by : (w : Known) (places : List Path) (mains : ℕ) (ts us : List Task) → IsIndexed w places mains → w.calls ≡ map call_of ts → w.lives ≡ map life_of ts → us ≡ ts → tasks_by places us ≡ known w
known-by w places mains ts us h calls lives same =
    ap (tasks_by places) same
    ∙ ap (λ (ps : List Path). tasks_by ps ts) (h.placed ∙ ap paths_of calls)
    ∙ known_by ts
    ∙ rw (calls, lives) refl

-- ---- main's next call

-- no call has its path
next_new : (w : Known) → Tracks w → (k : ℕ) → k < length w.calls → path_at w k ≢ next_path w
next_new w tracks k within e = by_kind (tracks.family k within)
  where
    by_kind : IsOf w k → ⊥
    by_kind (of_main i less at) = let same = child-same [] i (submits w.past) (sym at ∙ e) in absurd (omega arith)
    by_kind (of_join j i less ran at) =
        let callers = parent-same (path_at w j) [] i (submits w.past) (sym at ∙ e) in
        let short = ap length callers in
        let long = path-long w j (tracks.family j less) in
        absurd (omega arith)

pub next-nowhere : (w : Known) (places : List Path) (mains : ℕ) → Tracks w → IsIndexed w places mains → place_in places (next_path w) ≡ None
next-nowhere w places mains tracks h =
    absent places (next_path w)
    (λ k q at same. (let read = path_read w.calls k q (ap (λ (ps : List Path). slice_get ps k) (sym h.placed) ∙ at) in next_new w tracks k read.within (read.is ∙ same)))

-- the table behind it
pub indexed-called : (w : Known) (places : List Path) (mains : ℕ) (c : Call) → IsIndexed w places mains → c.path ≡ next_path w → IsIndexed (called w c) (places ++ c.path ∷ []) (mains + 1)
indexed-called w places mains c h next = record {
  placed = ap (λ (ps : List Path). ps ++ c.path ∷ []) h.placed ∙ sym (map-append (λ (d : Call). d.path) w.calls (c ∷ []));
  mains_are = ap (λ (n : ℕ). n + 1) h.mains_are ∙ sym (one_more c.path next);
  few = (let longer = length-append w.calls (c ∷ []) in let few = h.few in omega arith);
}
  where
    one_more : (p : Path) → p ≡ next_path w → (if is_of_main p then submits w.past + 1 else submits w.past) ≡ submits w.past + 1
    one_more p at = ap (λ (q : Path). if is_of_main q then submits w.past + 1 else submits w.past) at
