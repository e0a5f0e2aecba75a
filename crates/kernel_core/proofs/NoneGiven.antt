-- Where no callback is ready, giving the next one changes nothing.
use Rattle.std.proofs.Common.{◌≡◌, ℕ, zero, suc, ◌<◌, Bool, true, false, ◌||◌, nat_eq, List, [], ◌∷◌, length, Option, Some, None, slice_get, refl, sym, ◌∙◌, ap, subst, arith, eq-eqb}
use Rattle.dependency_graph.specs.CallbackViews.{CallbackView}
use Rattle.dependency_graph.specs.Callbacks.{Callbacks, IsExact, has_number, next_of, next_in, to_do_of, with_given, with_given_by}
use Rattle.dependency_graph.specs.Graphs.{Graph, with_next}
use Rattle.kernel_model.specs.Known.{Known}
use Rattle.agenda_model.specs.AgendaViews.{AgendaView}
use Rattle.agenda_model.specs.Agendas.{Serves}
use Rattle.agenda_model.proofs.Carrying.{with_graph}

or_right : (a b : Bool) → b ≡ true → (a || b) ≡ true
or_right true b h = refl
or_right false b h = h

has_at : (xs : List ℕ) (i c : ℕ) → slice_get xs i ≡ Some c → has_number c xs ≡ true
has_at [] i c h = absurd (cc)
has_at (x ∷ xs) zero c h = let same : c ≡ x = cc in ap (λ (b : Bool). b || has_number c xs) (eq-eqb c x same)
has_at (x ∷ xs) (suc i) c h = or_right (nat_eq c x) (has_number c xs) (has_at xs i c h)

there_at : (ws : List CallbackView) (c : ℕ) → c < length ws → slice_get ws c ≡ None → ⊥
there_at [] c lt h = omega (arith, lt)
there_at (v ∷ ws) zero lt h = cc
there_at (v ∷ ws) (suc c) lt h = there_at ws c (omega (arith, lt)) h

none_given : (g : Callbacks) → IsExact g → None ≡ next_of g → with_given g ≡ g
none_given g exact none = by_slot (slice_get g.made g.given) refl
  where
    by_view : (c : ℕ) (r : Option CallbackView) → slice_get g.made g.given ≡ Some c → slice_get g.waits c ≡ r → with_given g ≡ g
    by_view c None at e = absurd (there_at g.waits c (exact.only c (has_at g.made g.given c at)).there e)
    by_view c (Some view) at e =
        let some = none ∙ ap (next_in g) at ∙ ap (to_do_of g.states) e in
        absurd (cc)

    by_slot : (r : Option ℕ) → slice_get g.made g.given ≡ r → with_given g ≡ g
    by_slot None at = ap (with_given_by g) at
    by_slot (Some c) at = by_view c (slice_get g.waits c) at refl

pub none-serves : (a0 a : AgendaView) (w : Known) (g : Graph) → a0 ≡ a → IsExact a0.graph.callbacks → None ≡ next_of a0.graph.callbacks → g ≡ with_next a0.graph → Serves a w None → Serves (with_graph g a0) w None
none-serves a0 a w g is exact none after serves =
    let same : g ≡ a0.graph = after ∙ ap (λ (c : Callbacks). record a0.graph { callbacks = c }) (none_given a0.graph.callbacks exact none) in
    subst (λ (x : Graph). Serves (with_graph x a0) w None) (sym same) (subst (λ (x : AgendaView). Serves x w None) (sym is) serves)
