-- What monitors are told by each turn, whether it is taken or refused.
use Rattle.std.proofs.Common.{◌≡◌, inl, inr, Bool, true, false, List, [], Option, Some, None, refl, sym, ap, subst}
use Rattle.dependency_graph.specs.declared.monitor.Settlement.{Settlement}
use Rattle.kernel_model.specs.declared.answers.Delivered.{Delivered}
use Rattle.kernel_model.specs.declared.answers.Delivered.TheVariants.{Taken, Stale}
use Rattle.kernel_model.specs.declared.answers.Refusal.{Refusal}
use Rattle.kernel_model.specs.declared.answers.Refusal.TheVariants.{NoMemory}
use Rattle.kernel_model.specs.Acts.{refused, retold}
use Rattle.kernel_model.specs.Invariants.{Inv}
use Rattle.kernel_model.specs.Jobs.{JobView, DoneView}
use Rattle.kernel_model.specs.Known.{Known}
use Rattle.kernel_model.specs.Telling.{HasToldBy, HasTold}
use Rattle.kernel_model.specs.Turns.{script_step, CallbackTurn, FetchTurn, DeliverTurn, StoreTurn, SettleTurn, EndTurn, Extends}
use Rattle.kernel_model.proofs.Telling.{script-told, callback-told, fetch-told, deliver-told, store-told, settle-told, end-told, nothing-told, refused-told, some-told}
use Rattle.kernel_core.specs.Refused.{IsToldAtRefusal, IsRefused}

-- ---- turns that are taken

pub script-tells : (w v : Known) → Inv w → w.refusal ≡ None → v ≡ (script_step w).1 → HasTold w v
script-tells w v inv none after = subst (HasTold w) (sym after) (script-told w inv none)

pub callback-tells : (w v : Known) (did : Bool) → Inv w → w.refusal ≡ None → CallbackTurn w did v → HasTold w v
callback-tells w v true inv none did = callback-told w v inv none did
callback-tells w v false inv none did = nothing-told w v none did.2

pub fetch-tells : (w v : Known) (job : Option JobView) → w.refusal ≡ None → FetchTurn w job v → HasTold w v
fetch-tells w v (Some job) none did = fetch-told w job v none did
fetch-tells w v None none did = nothing-told w v none did.1

pub deliver-tells : (w v : Known) (done : DoneView) (answer : Delivered) → w.refusal ≡ None → DeliverTurn w done answer v → HasTold w v
deliver-tells w v done Taken none did = deliver-told w done v none did
deliver-tells w v done Stale none did = nothing-told w v none did.1

pub store-tells : (w v : Known) (did : Bool) → w.refusal ≡ None → StoreTurn w did v → HasTold w v
store-tells w v true none did = store-told w v none did
store-tells w v false none did = nothing-told w v none did.1

pub settle-tells : (w v : Known) (did : Bool) → Inv w → w.refusal ≡ None → SettleTurn w did v → HasTold w v
settle-tells w v true inv none did = settle-told w v inv none did
settle-tells w v false inv none did = nothing-told w v none did.1

pub end-tells : (w v : Known) (did : Bool) → w.refusal ≡ None → EndTurn w did v → HasTold w v
end-tells w v true none did = subst (HasTold w) (sym did.1) (end-told w none)
end-tells w v false none did = nothing-told w v none did.1

-- ---- turns that are refused

-- the turn told no monitor, or memory was wanting while it told them
pub cut-tells : (w v : Known) (Leaves : Known → Type 0) (r : Refusal) → w.refusal ≡ None → IsRefused w v Leaves r → HasTold w v
cut-tells w v Leaves r none h = subst (HasTold w) (sym h.after) (by_told h.told)
  where
    by_told : IsToldAtRefusal w v.told Leaves r → HasTold w (refused (retold v.told w) r)
    by_told (inl same) = subst (λ (t : List (List Settlement)). HasTold w (refused (retold t w) r)) (sym same) (refused-told w r none)
    by_told (inr some) = subst (λ (s : Refusal). HasTold w (refused (retold v.told w) s)) (sym some.0) (some-told w some.1.settlement v.told some.1.first)

pub memory-tells : (w v : Known) (r : Refusal) → w.refusal ≡ None → (r ≡ NoMemory) × (v ≡ refused w NoMemory) → HasTold w v
memory-tells w v r none h = subst (HasTold w) (sym h.1) (refused-told w NoMemory none)

pub cut-extends : (w v : Known) (Leaves : Known → Type 0) (r : Refusal) → IsRefused w v Leaves r → Extends w v
cut-extends w v Leaves r h = record { added = []; past = ap (λ (u : Known). u.past) h.after; tree = ap (λ (u : Known). u.tree) h.after }

pub memory-extends : (w v : Known) (r : Refusal) → (r ≡ NoMemory) × (v ≡ refused w NoMemory) → Extends w v
memory-extends w v r h = record { added = []; past = ap (λ (u : Known). u.past) h.1; tree = ap (λ (u : Known). u.tree) h.1 }

-- ---- no turn

-- whether an earlier turn was refused or not
pub no-turn-tells : (w : Known) → HasTold w w
no-turn-tells w = by_refusal w.refusal
  where
    going : Known
    going = record w { refusal = None }

    by_refusal : (r : Option Refusal) → HasToldBy r w w
    by_refusal None = let h = nothing-told going going refl refl in record { new = h.new; since = h.since; told = h.told }
    by_refusal (Some r) = let h = refused-told going r refl in record { new = h.new; since = h.since; told = h.told }
