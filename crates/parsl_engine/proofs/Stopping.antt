-- What a refused turn says.
use Rattle.std.proofs.Common.{◌≡◌, ◌≤◌, true, false, length, Some, sym, ◌∙◌, ap, subst, arith}
use Rattle.script_tree.specs.Grammar.{Tree}
use Rattle.stored_units.specs.declared.units.Limit.TheVariants as limit
use Rattle.history_laws.specs.Reads.{has_end}
use Rattle.kernel_model.specs.declared.answers.Refusal.{Refusal}
use Rattle.kernel_model.specs.declared.answers.Refusal.TheVariants.{NoMemory, TaskLimit, StoreLimit}
use Rattle.kernel_model.specs.Known.{Known, has_ended}
use Rattle.kernel_model.specs.Invariants.{Inv}
use Rattle.kernel_model.specs.Limits.{stored, passed, IsRefusedFor}
use Rattle.kernel_model.specs.Turns.{script_step, CarriesOut, Stores, Settles}
use Rattle.kernel_model.proofs.Facts.{keep-script-step, keep-carried-out}
use Rattle.kernel_model.proofs.KeepingTasks.{keep-settled}
use Rattle.kernel_model.proofs.KeepingMemo.{keep-stored}
use Rattle.kernel_model.proofs.Passing.{passed-tasks, passed-stored}
use Rattle.kernel_model.proofs.Totals.{calls-within}
use Rattle.kernel_model.proofs.RunTotals.{stored-within-run}
use Rattle.kernel_model.specs.RunTotals.{run_units}
use Rattle.kernel_model.specs.Telling.{HasToldBy}
use Rattle.kernel_core.specs.Refused.{IsRefused}
use Rattle.kernel_core.proofs.TurnsTold.{cut-tells}
use Rattle.parsl_engine.specs.Runs.{without_losses, PassesLimit, RefusesFor}
use Rattle.parsl_engine.proofs.RunsTold.{told-err}
use Rattle.parsl_engine.proofs.Turning.{going-accepts, going-open, script-stays, callback-stays}

-- ---- a kernel past a limit is that of a run past it

tasks_pass : (u : Known) → Inv u → passed u ≡ Some limit.Tasks → PassesLimit u.tree limit.Tasks
tasks_pass u inv past =
    let many = (passed-tasks u).0 past in
    let within : length u.calls ≤ length (without_losses u.tree).tasks = calls-within u inv in
    omega (arith, many, within)

units_pass : (u : Known) → Inv u → passed u ≡ Some limit.Stored → PassesLimit u.tree limit.Stored
units_pass u inv past =
    let many = ((passed-stored u).0 past).1 in
    let within : stored u ≤ run_units u.tree.0 (without_losses u.tree) = stored-within-run u inv in
    omega (arith, many, within)

-- the kernels that would stand are kernels of this script
abbrev AreOf : Tree → (Known → Type 0) → Type 0
AreOf tree Leaves = (u : Known) → Leaves u → Inv u × (u.tree ≡ tree)

cause : (tree : Tree) (Leaves : Known → Type 0) (refusal : Refusal) → AreOf tree Leaves → IsRefusedFor Leaves refusal → RefusesFor tree refusal
cause tree Leaves NoMemory are h = tt
cause tree Leaves TaskLimit are h = let u = are h.0 h.1 in subst (λ (t : Tree). PassesLimit t limit.Tasks) u.1 (tasks_pass h.0 u.0 h.2)
cause tree Leaves StoreLimit are h = let u = are h.0 h.1 in subst (λ (t : Tree). PassesLimit t limit.Stored) u.1 (units_pass h.0 u.0 h.2)

script_leaves : (w : Known) → Inv w → has_ended w ≡ false → AreOf w.tree (λ v. v ≡ (script_step w).1)
script_leaves w inv going u is = (subst Inv (sym is) (keep-script-step w inv going), ap (λ (x : Known). x.tree) is ∙ (script-stays w).tree)

callback_leaves : (w : Known) → Inv w → has_ended w ≡ false → AreOf w.tree (CarriesOut w)
callback_leaves w inv going u s = (keep-carried-out w u inv going s, (callback-stays w u true s).tree)

store_leaves : (w : Known) → Inv w → has_ended w ≡ false → AreOf w.tree (Stores w)
store_leaves w inv going u s =
    (subst Inv (sym s.after) (keep-stored w s.task s.key s.saved inv (record { not_ended = going; store = s.store })), ap (λ (x : Known). x.tree) s.after)

settle_leaves : (w : Known) → Inv w → has_ended w ≡ false → AreOf w.tree (Settles w)
settle_leaves w inv going u s =
    (subst Inv (sym s.after) (keep-settled w s.task s.outcome inv (record { not_ended = going; ready = s.ready })), ap (λ (x : Known). x.tree) s.after)

-- ---- a round that was refused

pub record IsStopped (w v : Known) (refusal : Refusal) : Type 0 where
  pub tree : v.tree ≡ w.tree
  pub unended : has_end v.past ≡ false
  pub cause : RefusesFor w.tree refusal
  pub told : HasToldBy (Some refusal) w v

stopped : (w v : Known) (Leaves : Known → Type 0) (refusal : Refusal) → has_ended w ≡ false → IsRefused w v Leaves refusal → RefusesFor w.tree refusal → IsStopped w v refusal
stopped w v Leaves refusal going h why = record {
  tree = ap (λ (u : Known). u.tree) h.after;
  unended = ap (λ (u : Known). has_end u.past) h.after ∙ going-open w going;
  cause = why;
  told = told-err w v refusal (cut-tells w v Leaves refusal (going-accepts w going) h) (ap (λ (u : Known). u.refusal) h.after);
}

pub script-stopped : (w v : Known) (refusal : Refusal) → has_ended w ≡ false → Inv w → IsRefused w v (λ u. u ≡ (script_step w).1) refusal → IsStopped w v refusal
script-stopped w v refusal going inv h = stopped w v (λ u. u ≡ (script_step w).1) refusal going h (cause w.tree (λ u. u ≡ (script_step w).1) refusal (script_leaves w inv going) h.cause)

pub callback-stopped : (w u v : Known) (refusal : Refusal) → u ≡ w → has_ended w ≡ false → Inv w → IsRefused u v (CarriesOut u) refusal → IsStopped w v refusal
callback-stopped w u v refusal same going inv h =
    let here : IsRefused w v (CarriesOut w) refusal = subst (λ (x : Known). IsRefused x v (CarriesOut x) refusal) same h in
    stopped w v (CarriesOut w) refusal going here (cause w.tree (CarriesOut w) refusal (callback_leaves w inv going) here.cause)

pub store-stopped : (w u v : Known) (refusal : Refusal) → u ≡ w → has_ended w ≡ false → Inv w → IsRefused u v (Stores u) refusal → IsStopped w v refusal
store-stopped w u v refusal same going inv h =
    let here : IsRefused w v (Stores w) refusal = subst (λ (x : Known). IsRefused x v (Stores x) refusal) same h in
    stopped w v (Stores w) refusal going here (cause w.tree (Stores w) refusal (store_leaves w inv going) here.cause)

pub settle-stopped : (w u v : Known) (refusal : Refusal) → u ≡ w → has_ended w ≡ false → Inv w → IsRefused u v (Settles u) refusal → IsStopped w v refusal
settle-stopped w u v refusal same going inv h =
    let here : IsRefused w v (Settles w) refusal = subst (λ (x : Known). IsRefused x v (Settles x) refusal) same h in
    stopped w v (Settles w) refusal going here (cause w.tree (Settles w) refusal (settle_leaves w inv going) here.cause)
