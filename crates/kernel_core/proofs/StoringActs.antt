-- What storing a value does to a state.
use Rattle.std.proofs.Common.{◌≡◌, ℕ, ◌+◌, ◌-◌, ◌^◌, ◌<◌, ◌≤◌, List, [], ◌∷◌, ◌++◌, reverse, Some, None, get_or, refl, sym, ◌∙◌, ap, subst, arith}
use Rattle.std.specs.Prelude.{min}
use Rattle.flow_base.specs.declared.outcome.Outcome.{Outcome}
use Rattle.flow_base.specs.declared.outcome.Outcome.TheVariants as o
use Rattle.task_record.specs.declared.status.Status.TheVariants as status
use Rattle.event_log.specs.declared.entry.Entry.{Entry}
use Rattle.event_log.specs.declared.entry.Entry.TheVariants as entry
use Rattle.flow_meaning.specs.Inputs.{Path}
use Rattle.stored_units.specs.declared.units.Limit.TheVariants as limit
use Rattle.stored_units.specs.Stored.{outcome_units, max_stored}
use Rattle.memo_table.specs.Keys.{KeyView}
use Rattle.memo_table.specs.Table.{MemoView, with_saved}
use Rattle.memo_table.specs.declared.saved.Saved.{Saved}
use Rattle.kernel_model.specs.declared.answers.Refusal.TheVariants.{StoreLimit}
use Rattle.kernel_model.specs.Known.{Known, Life, life_at, status_at, path_at, value_of}
use Rattle.kernel_model.specs.Acts.{stored_by}
use Rattle.kernel_model.specs.Invariants.{Inv}
use Rattle.call_rules.specs.Calls.{Call}
use Rattle.kernel_core.proofs.Recalling.{over-within}
use Rattle.kernel_model.specs.Limits.{passed, stored, units_of_key, IsRefusedFor}
use Rattle.kernel_model.specs.Turns.{IsStore, Stores}
use Rattle.kernel_model.proofs.Counting.{stored-stored_by}
use Rattle.kernel_model.proofs.KeepingMemo.{keep-stored}
use Rattle.kernel_model.proofs.Passing.{passed-none, passed-stored}
use Rattle.kernel_core.specs.Memo.{MayStore}
use Rattle.kernel_core.specs.Views.{IsSound, IsFact}
use Rattle.kernel_core.specs.declared.task.Task.{Task}
use Rattle.kernel_core.specs.declared.run_state.MainStep.{MainStep}
use Rattle.kernel_core.proofs.StateViews.{log-pushed}
use Rattle.kernel_core.proofs.RunReadings.{Shows, life-is, call-is, call-within}

abbrev saved_in : Outcome → Saved → Saved
saved_in (o.Value value files) d = record { value = value; files = files }
saved_in (o.Failed exception) d = d

-- what is stored is the value with which the attempt ended
pub saved-same : (w : Known) (k : ℕ) (key : KeyView) (kept saved : Saved) (outcome : Outcome) → (life_at w k).end ≡ Some outcome → value_of kept ≡ outcome → IsStore w k key saved → kept ≡ saved
saved-same w k key kept saved outcome ends is store =
    let same : Some outcome ≡ Some (value_of saved) = sym ends ∙ store.is in
    let values : value_of kept ≡ value_of saved = is ∙ (cc) in
    ap (λ (r : Outcome). saved_in r kept) values

sums : (a b u v : ℕ) (add : ℕ) → a ≡ min u (2 ^ 64 - 1) → b ≡ min v (2 ^ 64 - 1) → add ≡ min (a + b) (2 ^ 64 - 1) → add ≡ min (u + v) (2 ^ 64 - 1)
sums a b u v add is_a is_b is = omega (arith, is_a, is_b, is)

fits-sum : (most add u units : ℕ) → add ≡ min u (2 ^ 64 - 1) → most < 2 ^ 64 - 1 → add ≤ most - units → units ≤ most → (add ≡ u) × (units + u ≤ most)
fits-sum most add u units is small le within = (omega (arith, is, small, le, within), omega (arith, is, small, le, within))

past-sum : (most add u units : ℕ) → add ≡ min u (2 ^ 64 - 1) → most - units < add → units ≤ most → most < units + u
past-sum most add u units is lt within = omega (arith, is, lt, within)

pub store-view : (v w : Known) (k : ℕ) (key : KeyView) (kept saved : Saved) (memo : MemoView) (log same_log log_after : List Entry) (path : Path) → v ≡ w → v.past ≡ reverse log → kept ≡ saved → memo ≡ with_saved v.memo key kept → path ≡ path_at w k → same_log ≡ log → log_after ≡ same_log ++ entry.Stored path ∷ []
    → record v { memo = memo; past = reverse log_after } ≡ stored_by w k key saved
store-view v w k key kept saved memo log same_log log_after path view pasts same is here logs after =
    let memos : memo ≡ with_saved v.memo key saved = is ∙ ap (with_saved v.memo key) same in
    let past : reverse log_after ≡ entry.Stored (path_at w k) ∷ v.past = ap reverse (after ∙ ap (λ (l : List Entry). l ++ entry.Stored path ∷ []) logs) ∙ log-pushed log (entry.Stored path) ∙ ap (λ (p : Path). entry.Stored p ∷ reverse log) here ∙ ap (λ (l : List Entry). entry.Stored (path_at w k) ∷ l) (sym pasts) in
    ap (λ (m : MemoView). record v { memo = m; past = reverse log_after }) memos ∙ ap (λ (l : List Entry). record v { memo = with_saved v.memo key saved; past = l }) past
    ∙ ap (λ (u : Known). record u { memo = with_saved u.memo key saved; past = entry.Stored (path_at w k) ∷ u.past }) view

-- past the limit it is refused
pub store-refused : (v w : Known) (tasks : List Task) (steps : List MainStep) (running units a b add k : ℕ) (key : KeyView) (outcome : Outcome) → v ≡ w → IsSound v tasks steps running units → (may : MayStore w k key) → (life_at w k).end ≡ Some outcome
    → a ≡ min (units_of_key key) (2 ^ 64 - 1) → b ≡ min (outcome_units outcome) (2 ^ 64 - 1) → add ≡ min (a + b) (2 ^ 64 - 1) → max_stored - units < add
    → IsRefusedFor (Stores w) StoreLimit
store-refused v w tasks steps running units a b add k key outcome view sound may ends is_a is_b is_add large =
    let saved = may.unstored.saved in
    let store = may.unstored.store in
    let are : units ≡ stored w = sound.units_are ∙ ap stored view in
    let none : passed w ≡ None = ap passed (sym view) ∙ sound.fact.within in
    let limits = (passed-none w).0 none in
    let few = limits.0 in
    let small = limits.1 in
    let one : Some outcome ≡ Some (value_of saved) = sym ends ∙ store.is in
    let same : outcome ≡ value_of saved = cc in
    let size = ap outcome_units same in
    let total = sums a b (units_of_key key) (outcome_units outcome) add is_a is_b is_add in
    let past = past-sum max_stored add (units_of_key key + outcome_units outcome) units total large (omega (arith, are, small)) in
    let sum = stored-stored_by w k key saved store.fresh in
    (stored_by w k key saved, record { task = k; key = key; saved = saved; store = store; after = refl }, (passed-stored (stored_by w k key saved)).1 (few, omega (arith, sum, are, past, size)))

-- the counters stay right
pub store-sound : (v w x : Known) (tasks : List Task) (steps : List MainStep) (running units a b add k : ℕ) (key : KeyView) (saved : Saved) (outcome : Outcome) → v ≡ w → IsSound v tasks steps running units → MayStore w k key → IsStore w k key saved → (life_at w k).end ≡ Some outcome
    → a ≡ min (units_of_key key) (2 ^ 64 - 1) → b ≡ min (outcome_units outcome) (2 ^ 64 - 1) → add ≡ min (a + b) (2 ^ 64 - 1) → add ≤ max_stored - units
    → x ≡ stored_by w k key saved → IsSound x tasks steps running (units + add)
store-sound v w x tasks steps running units a b add k key saved outcome view sound may store ends is_a is_b is_add le is =
    let fact : IsFact w = subst IsFact view sound.fact in
    let are : units ≡ stored w = sound.units_are ∙ ap stored view in
    let limits = (passed-none w).0 fact.within in
    let few = limits.0 in
    let small = limits.1 in
    let one : Some outcome ≡ Some (value_of saved) = sym ends ∙ store.is in
    let same : outcome ≡ value_of saved = cc in
    let size = ap outcome_units same in
    let total = sums a b (units_of_key key) (outcome_units outcome) add is_a is_b is_add in
    let fits = fits-sum max_stored add (units_of_key key + outcome_units outcome) units total (omega arith) le (omega (arith, are, small)) in
    let exact = fits.0 in
    let below = fits.1 in
    let sum = stored-stored_by w k key saved store.fresh in
    subst (λ (u : Known). IsSound u tasks steps running (units + add)) (sym is) (record {
      fact = record {
        inv = keep-stored w k key saved fact.inv (record { not_ended = may.not_ended; store = store });
        few_apps = fact.few_apps;
        within = (passed-none (stored_by w k key saved)).1 (few, omega (arith, sum, are, below, size));
      };
      over = sound.over;
      running = sound.running;
      units_are = omega (arith, sum, are, exact, size);
    })

-- the end and the path of the task
pub store-ends : (v w : Known) (tasks : List Task) (steps : List MainStep) (running units k : ℕ) (t : Task) (outcome : Outcome) → v ≡ w → Shows w tasks → IsSound v tasks steps running units → status_at w k ≡ status.RunningEnded → t ≡ get_or tasks k t → t.end ≡ Some outcome → (life_at w k).end ≡ Some outcome
store-ends v w tasks steps running units k t outcome view s sound over at ends =
    ap (λ (l : Life). l.end) (life-is w tasks k t s (call-within w tasks k s (over-within w k (subst Inv view sound.fact.inv) over)) at) ∙ ends

pub store-path : (v w : Known) (tasks : List Task) (steps : List MainStep) (running units k : ℕ) (t : Task) (path : Path) → v ≡ w → Shows w tasks → IsSound v tasks steps running units → status_at w k ≡ status.RunningEnded → t ≡ get_or tasks k t → path ≡ t.record.path → path ≡ path_at w k
store-path v w tasks steps running units k t path view s sound over at is =
    is ∙ ap (λ (c : Call). c.path) (sym (call-is w tasks k t s (call-within w tasks k s (over-within w k (subst Inv view sound.fact.inv) over)) at))
