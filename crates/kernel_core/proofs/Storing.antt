-- What a run stores in its memo.
use Rattle.std.proofs.Common.{◌≡◌, ℕ, ◌<◌, Bool, true, false, List, length, Option, Some, None, slice_get, get_or, refl, sym, ◌∙◌, ap, subst, Bor}
use Rattle.std.specs.Prelude.{is_some, if◌then◌else◌}
use Rattle.std.specs.Option.{option_copied}
use Rattle.flow_base.specs.declared.outcome.Outcome.{Outcome}
use Rattle.flow_base.specs.declared.outcome.Outcome.TheVariants as o
use Rattle.flow_base.specs.declared.value.Value.{Value}
use Rattle.script_tree.specs.declared.tree.AppDef.{AppDef}
use Rattle.script_tree.specs.Canonical as canonical
use Rattle.task_record.specs.declared.status.Status.TheVariants as status
use Rattle.flow_meaning.specs.Sequential.{Tasks, resolved}
use Rattle.call_rules.specs.Calls.{Call}
use Rattle.call_rules.proofs.Agreeing.{begin-attempts, runs-on}
use Rattle.history_laws.specs.Tables.{key_with}
use Rattle.memo_table.specs.Keys.{KeyView}
use Rattle.memo_table.specs.Table.{MemoView, found}
use Rattle.memo_table.specs.declared.saved.Saved.{Saved}
use Rattle.kernel_model.specs.Known.{Known, apps_in, call_at, life_at, status_at, known, key_at, is_kept, value_of}
use Rattle.kernel_model.specs.Invariants.{Inv, HasRun}
use Rattle.kernel_core.specs.Memo.{IsKeptTask, IsUnstored, is_cached_app, is_valued}
use Rattle.kernel_core.specs.declared.task.Task.{Task}
use Rattle.kernel_core.proofs.RunReadings.{Shows, call-is, call-within}

-- the values on which the task was launched
pub over-values : (w : Known) (ts : List Task) (among : Tasks) (k : ℕ) (t : Task) (arguments values : List Value) → Shows w ts → among ≡ known w → k < length w.calls → t ≡ get_or ts k t → arguments ≡ t.record.arguments → values ≡ resolved among arguments → values ≡ resolved (known w) (call_at w k).arguments
over-values w ts among k t arguments values s all within at given are =
    let call = call-is w ts k t s (call-within w ts k s within) at in
    are ∙ ap (λ (tasks : Tasks). resolved tasks arguments) all ∙ ap (resolved (known w)) (given ∙ ap (λ (c : Call). c.arguments) (sym call))

-- its key
pub over-key : (w : Known) (k : ℕ) (key : KeyView) (values : List Value) → Inv w → status_at w k ≡ status.RunningEnded → is_cached_app (slice_get (apps_in w) (call_at w k).app) ≡ true → values ≡ resolved (known w) (call_at w k).arguments
    → ((app : AppDef) → slice_get (apps_in w) (call_at w k).app ≡ Some app → key ≡ record { app = canonical.app app; arguments = values; names = (call_at w k).names })
    → key_at w k ≡ Some key
over-key w k key values inv over cached are made =
    let a = inv.holds.runs.attempted k (subst HasRun (sym over) tt) in
    let b = begin-attempts (apps_in w) (known w) (call_at w k) a.app a.values a.begins in
    let on = runs-on (known w) (call_at w k).arguments a.values b.0 in
    let is : a.app.cached ≡ true = ap is_cached_app (sym b.1) ∙ cached in
    let same : a.values ≡ values = on.are ∙ sym are in
    let whole : record { app = canonical.app a.app; arguments = a.values; names = (call_at w k).names } ≡ key = ap (λ (vs : List Value). record { app = canonical.app a.app; arguments = vs; names = (call_at w k).names }) same ∙ sym (made a.app b.1) in
    ap (key_with (call_at w k).names) a.begins
    ∙ ap (λ (t : Bool). if t then Some (record { app = canonical.app a.app; arguments = a.values; names = (call_at w k).names }) else None) is
    ∙ ap Some whole

copied-some : (r : Option (Bor Saved)) → is_some (option_copied r) ≡ is_some r
copied-some (Some b) = refl
copied-some None = refl

-- whether the key is stored
pub looked : (r : Option (Bor Saved)) (b : Bool) (memo : MemoView) (w : Known) (key : KeyView) → memo ≡ w.memo → option_copied r ≡ found memo key → b ≡ is_some r → is_some (found w.memo key) ≡ b
looked r b memo w key same is looks = ap (λ (m : MemoView). is_some (found m key)) (sym same) ∙ ap is_some (sym is) ∙ copied-some r ∙ sym looks

-- a key that is stored needs no storing
pub kept-found : (w : Known) (k : ℕ) (key : KeyView) → key_at w k ≡ Some key → is_some (found w.memo key) ≡ true → IsKeptTask w k
kept-found w k key is there outcome ends = ap (λ (r : Option KeyView). is_kept w.memo r outcome) is ∙ by_outcome outcome
  where
    by_outcome : (r : Outcome) → is_kept w.memo (Some key) r ≡ true
    by_outcome (o.Value value files) = there
    by_outcome (o.Failed exception) = refl

valued : (end : Option Outcome) → is_valued end ≡ true → (saved : Saved) × (end ≡ Some (value_of saved))
valued (Some (o.Value value files)) h = (record { value = value; files = files }, refl)
valued (Some (o.Failed exception)) h = absurd (cc)
valued None h = absurd (cc)

none-of : (r : Option Saved) → is_some r ≡ false → r ≡ None
none-of (Some saved) h = absurd (cc)
none-of None h = refl

-- one that isn't is to be stored
pub unstored-is : (w : Known) (k : ℕ) (key : KeyView) → status_at w k ≡ status.RunningEnded → key_at w k ≡ Some key → is_valued (life_at w k).end ≡ true → is_some (found w.memo key) ≡ false → IsUnstored w k key
unstored-is w k key over is ends absent =
    let v = valued (life_at w k).end ends in
    record { saved = v.0; store = record { over = over; key_is = is; is = v.1; fresh = none-of (found w.memo key) absent } }
