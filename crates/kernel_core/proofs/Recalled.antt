-- An agenda behind a callback that takes its value from the memo.
use Rattle.std.proofs.Common.{◌≡◌, ℕ, ◌+◌, ◌≤◌, ◌⊎◌, inl, inr, List, Option, Some, None, refl, sym, ◌∙◌, ap, subst}
use Rattle.std.specs.Prelude.{option_map}
use Rattle.flow_base.specs.declared.value.Value.{Value}
use Rattle.flow_base.specs.declared.outcome.Outcome.{Outcome}
use Rattle.task_record.specs.declared.status.Status.TheVariants as status
use Rattle.dependency_graph.specs.declared.monitor.Settlement.{Settlement}
use Rattle.dependency_graph.specs.Graphs.{with_settlement}
use Rattle.dependency_graph.specs.Monitors.{tell, ToldFirst}
use Rattle.memo_table.specs.declared.saved.Saved.{Saved}
use Rattle.kernel_model.specs.declared.answers.Refusal.{Refusal}
use Rattle.kernel_model.specs.declared.answers.Refusal.TheVariants.{NoMemory}
use Rattle.kernel_model.specs.Acts.{hit, settled_in, settlement_as, retold}
use Rattle.kernel_model.specs.Conditions.{CanRecall}
use Rattle.kernel_model.specs.Known.{Known, saved_at, value_of}
use Rattle.kernel_model.specs.Limits.{IsRefusedFor}
use Rattle.kernel_model.proofs.KeepingMemo.{keep-recalled}
use Rattle.agenda_model.specs.AgendaViews.{AgendaView}
use Rattle.agenda_model.specs.Agendas.{Serves}
use Rattle.agenda_model.proofs.Carrying.{serves-recalled}
use Rattle.agenda_model.proofs.Fronts.{front-recalled}
use Rattle.kernel_core.specs.Memo.{MayAttempt, MayRecall, recalled_outcome}
use Rattle.kernel_core.specs.Refused.{IsToldAtRefusal, IsUndone}
use Rattle.kernel_core.specs.Views.{IsFact}
use Rattle.kernel_core.proofs.Serving.{refused-as}

-- ---- what the memo has of a task

one_value : (r : Option Saved) (outcome : Outcome) → Some outcome ≡ option_map value_of r → (saved : Saved) × (r ≡ Some saved) × (outcome ≡ value_of saved)
one_value None outcome e = absurd (cc)
one_value (Some saved) outcome e = (saved, refl, same_value outcome (value_of saved) e)
  where
    same_value : (x y : Outcome) → Some x ≡ Some y → x ≡ y
    same_value x y h = cc

-- the memo has this outcome of a task that may be attempted
pub may-recall : (w : Known) (k : ℕ) (values : List Value) (outcome : Outcome) → MayAttempt w k values → Some outcome ≡ recalled_outcome w k → MayRecall w k outcome
may-recall w k values outcome may has =
    let found = one_value (saved_at w k) outcome has in
    record { not_ended = may.not_ended; callback = may.callback; saved = found.0; there = found.1; is = found.2 }

-- ---- a recall

recalled_seen : (w : Known) (g : List (List Settlement)) (k : ℕ) (outcome : Outcome) → retold (tell (settlement_as w k status.MemoDone outcome) g) (settled_in (hit w k) k status.MemoDone outcome) ≡ settled_in (hit (retold g w) k) k status.MemoDone outcome
recalled_seen w g k outcome = refl

-- a recall that was refused
pub recall-undone : (a0 a : AgendaView) (w v : Known) (k : ℕ) (outcome : Outcome) (h : List (List Settlement)) (r : Refusal) → a0 ≡ a → v ≡ w
    → (h ≡ a0.graph.told) ⊎ ((r ≡ NoMemory) × ToldFirst (settlement_as w k status.MemoDone outcome) a0.graph.told h)
    → IsRefusedFor (λ u. u ≡ settled_in (hit w k) k status.MemoDone outcome) r
    → IsUndone (retold a.graph.told w) (retold h v) (λ u. u ≡ settled_in (hit (retold a.graph.told w) k) k status.MemoDone outcome) r
recall-undone a0 a w v k outcome h r is same told cause =
    subst (λ (x : AgendaView). IsUndone (retold x.graph.told w) (retold h v) (λ u. u ≡ settled_in (hit (retold x.graph.told w) k) k status.MemoDone outcome) r) is
    (record { same = ap (retold h) same; told = by_told told; cause = by_cause })
  where
    g : List (List Settlement)
    g = a0.graph.told

    by_told : (h ≡ g) ⊎ ((r ≡ NoMemory) × ToldFirst (settlement_as w k status.MemoDone outcome) g h) → IsToldAtRefusal (retold g w) h (λ u. u ≡ settled_in (hit (retold g w) k) k status.MemoDone outcome) r
    by_told (inl none) = inl none
    by_told (inr some) = inr (some.0, record { after = settled_in (hit (retold g w) k) k status.MemoDone outcome; leaves = refl; settlement = settlement_as w k status.MemoDone outcome; would = refl; first = some.1 })

    by_cause : IsRefusedFor (λ u. u ≡ settled_in (hit (retold g w) k) k status.MemoDone outcome) r
    by_cause = refused-as (λ u. u ≡ settled_in (hit w k) k status.MemoDone outcome) (λ u. u ≡ settled_in (hit (retold g w) k) k status.MemoDone outcome)
        (λ u after. (tell (settlement_as w k status.MemoDone outcome) g, ap (retold (tell (settlement_as w k status.MemoDone outcome) g)) after ∙ recalled_seen w g k outcome)) r cause

pub recalled-serves : (a0 a b : AgendaView) (w v : Known) (k : ℕ) (outcome : Outcome) → a0 ≡ a → IsFact w → MayRecall w k outcome → Serves a w (Some k) → v ≡ settled_in (hit w k) k status.MemoDone outcome
    → b.graph ≡ with_settlement (settlement_as w k status.MemoDone outcome) a0.graph → b.launched ≡ a0.launched → b.over ≡ a0.over → b.kept ≡ a0.kept → a0.spare ≤ b.spare → b.unsettled + 1 ≡ a0.unsettled → Serves b v None
recalled-serves a0 a b w v k outcome is fact may serves after graph launches over kept spare unsettled =
    let here : Serves a0 w (Some k) = subst (λ (x : AgendaView). Serves x w (Some k)) (sym is) serves in
    let can : CanRecall w k may.saved = record { not_ended = may.not_ended; callback = may.callback; is = may.there } in
    let settles = graph ∙ ap (λ (e : Outcome). with_settlement (settlement_as w k status.MemoDone e) a0.graph) may.is in
    subst (λ (u : Known). Serves b u None) (sym (after ∙ ap (settled_in (hit w k) k status.MemoDone) may.is))
    (record {
      tasks = serves-recalled a0 b w k may.saved fact.inv can here.tasks settles launches over spare unsettled;
      front = front-recalled a0 b w k may.saved fact.inv (keep-recalled w k may.saved fact.inv can) can here.tasks over kept here.front;
    })
