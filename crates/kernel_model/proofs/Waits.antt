-- What main waits for is a call that is there.
use Rattle.std.proofs.Common.{◌≡◌, ℕ, ◌<◌, [], ◌∷◌, List, length, refl, sym, ◌∙◌, ap, subst}
use Rattle.flow_base.specs.declared.value.Value.{Value, out-Value}
use Rattle.flow_base.specs.declared.value.Value.TheOpen.{Value-F}
use Rattle.flow_meaning.specs.declared.walk.Request.TheVariants as request
use Rattle.flow_meaning.specs.declared.walk.Answer.{Answer}
use Rattle.flow_meaning.specs.Act.{Act, Ask}
use Rattle.flow_meaning.specs.Inputs.{Path, path_in}
use Rattle.flow_meaning.specs.Operators.{Layer}
use Rattle.flow_meaning.specs.Meaning.{Done}
use Rattle.flow_meaning.specs.Sequential.{outcome_at}
use Rattle.body_requests.specs.Asks.{Each}
use Rattle.call_rules.specs.Told.{IsChild, Asks}
use Rattle.history_laws.specs.Reads.{submits}
use Rattle.kernel_model.specs.Known.{Known, path_at, settled_outcome, known, main_left}
use Rattle.kernel_model.specs.Invariants.{Inv}
use Rattle.call_rules.proofs.Asking.{asks-wait}
use Rattle.kernel_model.proofs.Places.{known-at}

-- the path of a task that is there, with what is known of it
pub record WaitsFor (w : Known) (p : Path) : Type 0 where
  pub place : ℕ
  pub within : place < length w.calls
  pub is : p ≡ path_at w place
  pub outcome : outcome_at (known w) p ≡ settled_outcome w place

of_child : (w : Known) → Inv w → (p : Path) → IsChild [] (submits w.past) p → WaitsFor w p
of_child w inv p c =
    let at = inv.holds.main.mains c.number c.below in
    let is : p ≡ path_at w at.0 = c.is ∙ sym at.2 in
    record { place = at.0; within = at.1; is = is; outcome = ap (outcome_at (known w)) is ∙ known-at w inv.holds.tracks at.0 at.1 }

-- a value has one path at most
each_path : (P : Path → Type 0) (layer : Layer) → ((p : Path) (qs : List Path) → path_in layer ≡ p ∷ qs → P p) → Each P (path_in layer)
each_path P (Value-F.Future path outputs) h = (h path [] refl, tt)
each_path P (Value-F.Output path index) h = (h path [] refl, tt)
each_path P (Value-F.Int n) h = tt
each_path P (Value-F.Text t) h = tt
each_path P (Value-F.List vs) h = tt
each_path P (Value-F.File name content) h = tt
each_path P Value-F.Nothing h = tt

-- ---- at any wait of main

pub value-waits_for : (w : Known) → Inv w → (f : Value) (go : Answer → Act Done) → main_left w ≡ Ask (request.WaitValue f) go → (p : Path) (qs : List Path) → path_in (out-Value f) ≡ p ∷ qs → WaitsFor w p
value-waits_for w inv f go left p qs at =
    let a = subst (Asks [] (submits w.past)) left inv.holds.main.asks in
    of_child w inv p (asks-wait [] (submits w.past) (Ask (request.WaitValue f) go) f p qs a a.told.0 at)

pub name-waits_for : (w : Known) → Inv w → (f : Value) (go : Answer → Act Done) → main_left w ≡ Ask (request.WaitName f) go → (p : Path) (qs : List Path) → path_in (out-Value f) ≡ p ∷ qs → WaitsFor w p
name-waits_for w inv f go left p qs at =
    let a = subst (Asks [] (submits w.past)) left inv.holds.main.asks in
    of_child w inv p (asks-wait [] (submits w.past) (Ask (request.WaitName f) go) f p qs a a.told.0 at)

-- ---- whichever path it is

pub each-value-waits_for : (w : Known) → Inv w → (f : Value) (go : Answer → Act Done) → main_left w ≡ Ask (request.WaitValue f) go → Each (WaitsFor w) (path_in (out-Value f))
each-value-waits_for w inv f go left = each_path (WaitsFor w) (out-Value f) (value-waits_for w inv f go left)

pub each-name-waits_for : (w : Known) → Inv w → (f : Value) (go : Answer → Act Done) → main_left w ≡ Ask (request.WaitName f) go → Each (WaitsFor w) (path_in (out-Value f))
each-name-waits_for w inv f go left = each_path (WaitsFor w) (out-Value f) (name-waits_for w inv f go left)
