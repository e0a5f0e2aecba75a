-- What a run reads of its memo.
use Rattle.std.proofs.Common.{◌≡◌, ℕ, zero, suc, ◌<◌, Bool, true, false, List, [], ◌∷◌, length, map, Option, Some, None, Result, Ok, Err, IfOk, slice_get, get_or, refl, sym, ◌∙◌, ap, subst}
use Rattle.flow_base.specs.declared.value.Value.{Value}
use Rattle.script_tree.specs.declared.tree.AppDef.{AppDef}
use Rattle.script_tree.specs.Canonical as canonical
use Rattle.task_record.specs.declared.status.Status.TheVariants as status
use Rattle.flow_meaning.specs.Operators.{Text}
use Rattle.call_rules.specs.Calls.{Call, Attempts}
use Rattle.call_rules.proofs.Agreeing.{begin-attempts}
use Rattle.call_rules.proofs.Tasks.{slice-within}
use Rattle.memo_table.specs.Keys.{KeyView}
use Rattle.kernel_model.specs.Known.{Known, apps_in, call_at, status_at, begin_at, known}
use Rattle.kernel_model.specs.Invariants.{Inv, HasRun}
use Rattle.kernel_model.proofs.States.{at-state}
use Rattle.kernel_core.specs.Memo.{MayAttempt}
use Rattle.kernel_core.specs.Tasks.{call_of}
use Rattle.kernel_core.specs.declared.task.Task.{Task}
use Rattle.kernel_core.proofs.RunReadings.{Shows, call-is, call-within}

slice-map : {A B : Type 0} (f : A → B) (xs : List A) (k : ℕ) (x : A) → slice_get xs k ≡ Some x → slice_get (map f xs) k ≡ Some (f x)
slice-map f [] k x h = absurd (cc)
slice-map f (y ∷ ys) zero x h = let same : y ≡ x = cc in ap (λ z. Some (f z)) same
slice-map f (y ∷ ys) (suc k) x h = slice-map f ys k x h

-- the key of a task's call on these values
pub key-made : {E : Type 0} (r : Result KeyView E) (v w : Known) (ts : List Task) (texts : List Text) (k : ℕ) (t : Task) (text got : Text) (app : ℕ) (values : List Value) (names : List Text) → v ≡ w → Shows w ts → k < length w.calls
    → texts ≡ map canonical.app v.tree.0 → t ≡ get_or ts k t → Some got ≡ slice_get texts app → app ≡ t.record.app → text ≡ got → names ≡ t.record.names
    → IfOk r (λ key. key ≡ record { app = text; arguments = values; names = names })
    → IfOk r (λ key. (found : AppDef) → slice_get (apps_in w) (call_at w k).app ≡ Some found → key ≡ record { app = canonical.app found; arguments = values; names = (call_at w k).names })
key-made (Err e) v w ts texts k t text got app values names view s within are at found is_app cloned is_names made = tt
key-made (Ok key) v w ts texts k t text got app values names view s within are at found is_app cloned is_names made = λ a there.
    let call = call-is w ts k t s (call-within w ts k s within) at in
    let number : app ≡ (call_at w k).app = is_app ∙ ap (λ (c : Call). c.app) (sym call) in
    let all : texts ≡ map canonical.app (apps_in w) = are ∙ ap (λ (u : Known). map canonical.app (apps_in u)) view in
    let some : Some got ≡ Some (canonical.app a) = found ∙ ap (slice_get texts) number ∙ ap (λ (xs : List Text). slice_get xs (call_at w k).app) all ∙ slice-map canonical.app (apps_in w) (call_at w k).app a there in
    let is_text : text ≡ canonical.app a = cloned ∙ (cc) in
    let are_names : names ≡ (call_at w k).names = is_names ∙ ap (λ (c : Call). c.names) (sym call) in
    made ∙ ap (λ (x : Text). record { app = x; arguments = values; names = names }) is_text ∙ ap (λ (ns : List Text). record { app = canonical.app a; arguments = values; names = ns }) are_names

-- a task that is attempted is there, and so is its app
pub attempt-within : (w : Known) (k : ℕ) (values : List Value) → Inv w → MayAttempt w k values → k < length w.calls
attempt-within w k values inv may = (at-state w inv k status.Pending may.callback.pending (λ e. absurd (cc)) refl).within

pub attempt-app : (w : Known) (k : ℕ) (values : List Value) → MayAttempt w k values → (call_at w k).app < length (apps_in w)
attempt-app w k values may = slice-within (apps_in w) (call_at w k).app may.attempt.app (begin-attempts (apps_in w) (known w) (call_at w k) may.attempt.app values may.attempt.begins).1

-- one whose attempt is over too
pub over-within : (w : Known) (k : ℕ) → Inv w → status_at w k ≡ status.RunningEnded → k < length w.calls
over-within w k inv over = (at-state w inv k status.RunningEnded over (λ e. absurd (cc)) refl).within

pub over-app : (w : Known) (k : ℕ) → Inv w → status_at w k ≡ status.RunningEnded → (call_at w k).app < length (apps_in w)
over-app w k inv over =
    let a = inv.holds.runs.attempted k (subst HasRun (sym over) tt) in
    slice-within (apps_in w) (call_at w k).app a.app (begin-attempts (apps_in w) (known w) (call_at w k) a.app a.values a.begins).1
