-- What a kernel gives back is the evaluation.
use Rattle.std.specs.Prelude.{◌||◌, if◌then◌else◌, slice_get, flat_map}
use Rattle.std.proofs.Common.{◌≡◌, ◌≢◌, ℕ, suc, ◌<◌, Bool, true, false, List, [], ◌∷◌, ◌++◌, length, map, get_or, bytes_eq, Option, Some, None, refl, sym, ◌∙◌, ap, ap₂, arith}
use Rattle.std.specs.List.{list_any}
use Rattle.std.proofs.lemmas.Bool.{or_parts}
use Rattle.std.proofs.lemmas.Slice.Eq.{bytes_eq-Decides}
use Rattle.flow_base.specs.declared.value.Value.{Value}
use Rattle.flow_base.specs.declared.outcome.Outcome.{Outcome}
use Rattle.flow_base.specs.declared.outcome.TaskEnd.{TaskEnd}
use Rattle.script_tree.specs.declared.tree.AppDef.{AppDef}
use Rattle.flow_meaning.specs.Evaluations.{task_end, name_in}
use Rattle.flow_meaning.specs.Inputs.{Path}
use Rattle.flow_meaning.specs.Sequential.{Task as Ended, Tasks}
use Rattle.dependency_graph.specs.Places.{AreDistinct}
use Rattle.call_rules.specs.Calls.{Call}
use Rattle.call_rules.specs.Orders.{path_less, placed as placed_task, in_order}
use Rattle.kernel_model.specs.Known.{Known, no_call, outcome_in, known, known_in, tasks_where, apps_in, printed_in as printed_by_acts}
use Rattle.kernel_model.specs.Evaluated.{evaluated, ending_or}
use Rattle.kernel_core.specs.declared.task.Task.{Task}
use Rattle.kernel_core.specs.declared.run_state.MainStep.{MainStep}
use Rattle.kernel_core.specs.declared.run_state.MainStep.TheVariants as step
use Rattle.kernel_core.specs.Joins.{task_paths}
use Rattle.kernel_core.specs.Tasks.{call_of, life_of, acts_of}
use Rattle.kernel_core.specs.Parts.{ended_with, with_end, ends_in, ends_paths, placed, ordered, printed_in, parts_of}

-- ---- tasks and their ends are in one order

placed_ends : (apps : List AppDef) (t : Ended) (ts : Tasks) → map (task_end apps) (placed_task t ts) ≡ placed (task_end apps t) (map (task_end apps) ts)
placed_ends apps t [] = refl
placed_ends apps t (s ∷ ts) = by_test (path_less t.path s.path) (placed_ends apps t ts)
  where
    by_test : (b : Bool) → map (task_end apps) (placed_task t ts) ≡ placed (task_end apps t) (map (task_end apps) ts)
        → map (task_end apps) (if b then t ∷ s ∷ ts else s ∷ placed_task t ts)
        ≡ (if b then task_end apps t ∷ task_end apps s ∷ map (task_end apps) ts else task_end apps s ∷ placed (task_end apps t) (map (task_end apps) ts))
    by_test true further = refl
    by_test false further = ap (λ (es : List TaskEnd). task_end apps s ∷ es) further

ordered_ends : (apps : List AppDef) (ts : Tasks) → map (task_end apps) (in_order ts) ≡ ordered (map (task_end apps) ts)
ordered_ends apps [] = refl
ordered_ends apps (t ∷ ts) = placed_ends apps t (in_order ts) ∙ ap (placed (task_end apps t)) (ordered_ends apps ts)

-- ---- distinct paths

not_named : (p : Path) (ts : List Task) → ((k : ℕ) → k < length (map call_of ts) → (get_or (map call_of ts) k no_call).path ≢ p) → list_any (bytes_eq p) (task_paths ts) ≡ false
not_named p [] ne = refl
not_named p (t ∷ ts) ne = ap₂ ◌||◌ (by_test (bytes_eq p t.record.path) refl) (not_named p ts (λ k lt. ne (suc k) (omega arith)))
  where
    by_test : (b : Bool) → bytes_eq p t.record.path ≡ b → bytes_eq p t.record.path ≡ false
    by_test true is = absurd (ne 0 (omega arith) (sym ((bytes_eq-Decides p t.record.path).0 is)))
    by_test false is = is

pub tasks-distinct : (ts : List Task) → ((j k : ℕ) → j < length (map call_of ts) → k < length (map call_of ts) → (get_or (map call_of ts) j no_call).path ≡ (get_or (map call_of ts) k no_call).path → j ≡ k)
    → AreDistinct (task_paths ts)
tasks-distinct [] once = tt
tasks-distinct (t ∷ ts) once = (
  not_named t.record.path ts (λ k lt same. (let is = once (suc k) 0 (omega arith) (omega arith) same in omega arith)),
  tasks-distinct ts (λ j k lj lk same. (let is = once (suc j) (suc k) (omega arith) (omega arith) same in omega arith)),
)

none_ended : (apps : List AppDef) (t : Task) (outcome : Option Outcome) (p : Path) (ends : List TaskEnd) → bytes_eq p t.record.path ≡ false → list_any (bytes_eq p) (ends_paths ends) ≡ false
    → list_any (bytes_eq p) (ends_paths (with_end (ended_with apps t outcome) ends)) ≡ false
none_ended apps t None p ends other none = none
none_ended apps t (Some outcome) p ends other none = ap₂ ◌||◌ other none

none_in : (apps : List AppDef) (ts : List Task) (p : Path) → list_any (bytes_eq p) (task_paths ts) ≡ false → list_any (bytes_eq p) (ends_paths (ends_in apps ts)) ≡ false
none_in apps [] p none = refl
none_in apps (t ∷ ts) p none =
    let both = or_parts (bytes_eq p t.record.path) (list_any (bytes_eq p) (task_paths ts)) none in
    none_ended apps t (outcome_in (life_of t)) p (ends_in apps ts) both.0 (none_in apps ts p both.1)

distinct_with : (apps : List AppDef) (t : Task) (outcome : Option Outcome) (ends : List TaskEnd) → list_any (bytes_eq t.record.path) (ends_paths ends) ≡ false → AreDistinct (ends_paths ends)
    → AreDistinct (ends_paths (with_end (ended_with apps t outcome) ends))
distinct_with apps t None ends none rest = rest
distinct_with apps t (Some outcome) ends none rest = (none, rest)

pub ends-distinct : (apps : List AppDef) (ts : List Task) → AreDistinct (task_paths ts) → AreDistinct (ends_paths (ends_in apps ts))
ends-distinct apps [] distinct = tt
ends-distinct apps (t ∷ ts) distinct = distinct_with apps t (outcome_in (life_of t)) (ends_in apps ts) (none_in apps ts t.record.path distinct.0) (ends-distinct apps ts distinct.1)

-- ---- the parts

end_of_known : (apps : List AppDef) (t : Task) (outcome : Option Outcome) (ends : List TaskEnd) (ts : Tasks) → ends ≡ map (task_end apps) ts → with_end (ended_with apps t outcome) ends ≡ map (task_end apps) (tasks_where (call_of t) outcome ++ ts)
end_of_known apps t None ends ts same = same
end_of_known apps t (Some outcome) ends ts same = ap (λ (es : List TaskEnd). record { path = t.record.path; app = name_in (slice_get apps t.record.app); outcome = outcome } ∷ es) same

ends_known : (apps : List AppDef) (ts : List Task) → ends_in apps ts ≡ map (task_end apps) (known_in (map call_of ts) (map life_of ts))
ends_known apps [] = refl
ends_known apps (t ∷ ts) = end_of_known apps t (outcome_in (life_of t)) (ends_in apps ts) (known_in (map call_of ts) (map life_of ts)) (ends_known apps ts)

printed_same : (cs : List Call) (steps : List MainStep) → printed_in steps ≡ printed_by_acts (flat_map (acts_of cs) steps)
printed_same cs [] = refl
printed_same cs (step.Call k ∷ steps) = printed_same cs steps
printed_same cs (step.Wait k ∷ steps) = printed_same cs steps
printed_same cs (step.Print value ∷ steps) = ap (λ (vs : List Value). value ∷ vs) (printed_same cs steps)
printed_same cs (step.Checkpoint ∷ steps) = printed_same cs steps

-- what is given back is the evaluation
pub parts-are : (v w : Known) (tasks : List Task) (steps : List MainStep) → v ≡ w → v.calls ≡ map call_of tasks → v.lives ≡ map life_of tasks → v.acts ≡ flat_map (acts_of (map call_of tasks)) steps
    → parts_of (apps_in v) tasks steps v.ending ≡ evaluated w
parts-are v w tasks steps same calls lives acts =
    let apps = apps_in v in
    let tasks_are : known_in v.calls v.lives ≡ known_in (map call_of tasks) (map life_of tasks) = rw (calls, lives) refl in
    let ends : ordered (ends_in apps tasks) ≡ map (task_end apps) (in_order (known v)) =
    ap ordered (ends_known apps tasks ∙ ap (map (task_end apps)) (sym tasks_are)) ∙ sym (ordered_ends apps (known v)) in
    let printed : printed_in steps ≡ printed_by_acts v.acts = printed_same (map call_of tasks) steps ∙ ap printed_by_acts (sym acts) in
    ap (λ (values : List Value). record { printed = values; tasks = ordered (ends_in apps tasks); main = ending_or v.ending }) printed
    ∙ ap (λ (es : List TaskEnd). record { printed = printed_by_acts v.acts; tasks = es; main = ending_or v.ending }) ends
    ∙ ap evaluated same
