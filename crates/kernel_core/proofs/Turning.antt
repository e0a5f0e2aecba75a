-- A kernel behind each turn: its agenda and main's walk still follow its state.
use Rattle.std.proofs.Common.{◌≡◌, Bool, true, false, List, Option, Some, None, refl, sym, ◌∙◌, ap, subst}
use Rattle.dependency_graph.specs.declared.monitor.Settlement.{Settlement}
use Rattle.kernel_model.specs.declared.answers.Refusal.{Refusal}
use Rattle.kernel_model.specs.Acts.{refused, retold}
use Rattle.kernel_model.specs.Known.{Known}
use Rattle.kernel_model.specs.Limits.{IsRefusedFor}
use Rattle.kernel_model.specs.Turns.{Step, CarriesOut, Stores, Settles, EndTurn, script_step}
use Rattle.kernel_model.proofs.Retelling.{script-retold, done-retold}
use Rattle.agenda_model.specs.AgendaViews.{AgendaView}
use Rattle.agenda_model.specs.Agendas.{Serves}
use Rattle.kernel_core.specs.declared.main_walk.MainWalk.{MainWalk}
use Rattle.kernel_core.specs.MainWalks.{Stands}
use Rattle.kernel_core.specs.Refused.{IsUndone, IsRefused}
use Rattle.kernel_core.proofs.MainKept.{KeepsMain, keeps-stands}
use Rattle.kernel_core.proofs.Serving.{undone-quiet, refused-as}

-- where nothing was refused
abbrev pub FollowsState : AgendaView → MainWalk → Known → Type 0
FollowsState a m s = s.refusal ≡ None → Serves a s None × (s.ending ≡ None → Stands m s)

-- a turn that left main as it was
pub turn-follows : (a b : AgendaView) (m : MainWalk) (s v : Known) → KeepsMain (retold a.graph.told s) (retold b.graph.told v) → FollowsState a m s → Serves b v None → FollowsState b m v
turn-follows a b m s v kept follows serves accepted =
    (serves, keeps-stands m s v (record { tree = kept.tree; answers = kept.answers; ending = kept.ending; refusal = kept.refusal }) (λ same. (follows same).1) accepted)

pub turn-refused : (w u v : Known) (Leaves : Known → Type 0) (r : Refusal) → IsUndone w u Leaves r → v ≡ refused u r → IsRefused w v Leaves r
turn-refused w u v Leaves r undone after =
    subst (λ (x : Known). IsRefused w x Leaves r) (sym after)
    (record { after = ap (λ (x : Known). refused x r) undone.same; told = undone.told; cause = undone.cause })

-- ---- a turn of main

pub script-after : (g h : List (List Settlement)) (s v : Known) → v ≡ (script_step s).1 → h ≡ g → retold h v ≡ (script_step (retold g s)).1
script-after g h s v after told =
    ap (retold h) after ∙ ap (λ (t : List (List Settlement)). retold t (script_step s).1) told ∙ sym (ap (λ (step : Step). step.1) (script-retold s g))

pub script-undone : (g h : List (List Settlement)) (s v : Known) (r : Refusal) → v ≡ s → h ≡ g → IsRefusedFor (λ u. u ≡ (script_step s).1) r → IsUndone (retold g s) (retold h v) (λ u. u ≡ (script_step (retold g s)).1) r
script-undone g h s v r same told cause =
    undone-quiet s v g h (λ u. u ≡ (script_step (retold g s)).1) r same told
    (refused-as (λ u. u ≡ (script_step s).1) (λ u. u ≡ (script_step (retold g s)).1) (λ u after. (g, script-after g g s u after refl)) r cause)

pub callback-refused-so : (w x u v : Known) (r : Refusal) → w ≡ x → IsUndone w u (CarriesOut w) r → v ≡ refused u r → IsRefused x v (CarriesOut x) r
callback-refused-so w x u v r is undone after = subst (λ (y : Known). IsRefused y v (CarriesOut y) r) is (turn-refused w u v (CarriesOut w) r undone after)

pub store-refused-so : (w x u v : Known) (r : Refusal) → w ≡ x → IsUndone w u (Stores w) r → v ≡ refused u r → IsRefused x v (Stores x) r
store-refused-so w x u v r is undone after = subst (λ (y : Known). IsRefused y v (Stores y) r) is (turn-refused w u v (Stores w) r undone after)

pub settle-refused-so : (w x u v : Known) (r : Refusal) → w ≡ x → IsUndone w u (Settles w) r → v ≡ refused u r → IsRefused x v (Settles x) r
settle-refused-so w x u v r is undone after = subst (λ (y : Known). IsRefused y v (Settles y) r) is (turn-refused w u v (Settles w) r undone after)

pub end-turn-so : (s v : Known) (t : List (List Settlement)) (x : Known) (did : Bool) → retold t s ≡ x → EndTurn s did v → EndTurn x did (retold t v)
end-turn-so s v t x true is turn = subst (λ (y : Known). EndTurn y true (retold t v)) is (done-retold s t turn.0, ap (retold t) turn.1)
end-turn-so s v t x false is turn = subst (λ (y : Known). EndTurn y false (retold t v)) is ((λ done. turn.0 (done-retold (retold t s) s.told done)), ap (retold t) turn.1)

pub script-refused-so : (g h : List (List Settlement)) (s v u x : Known) (r : Refusal) → retold g s ≡ x → v ≡ s → h ≡ g → IsRefusedFor (λ y. y ≡ (script_step s).1) r → u ≡ refused v r → IsRefused x (retold h u) (λ y. y ≡ (script_step x).1) r
script-refused-so g h s v u x r is same told cause after =
    subst (λ (z : Known). IsRefused z (retold h u) (λ y. y ≡ (script_step z).1) r) is
    (turn-refused (retold g s) (retold h v) (retold h u) (λ y. y ≡ (script_step (retold g s)).1) r (script-undone g h s v r same told cause) (ap (retold h) after))
