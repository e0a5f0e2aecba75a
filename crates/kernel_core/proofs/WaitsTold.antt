-- Main waits only for futures and outputs of calls that it made.
use Rattle.std.proofs.Common.{◌≡◌, ℕ, ◌<◌, List, [], ◌∷◌, length, Option, Some, None, refl, sym, ◌∙◌, ap, subst}
use Rattle.std.specs.Prelude.{MatchOption}
use Rattle.flow_base.specs.declared.value.Value.{Value, out-Value}
use Rattle.flow_base.specs.declared.value.Value.TheOpen.{Value-F}
use Rattle.flow_meaning.specs.declared.walk.Request.TheVariants as request
use Rattle.flow_meaning.specs.Inputs.{Path, path_in}
use Rattle.flow_meaning.specs.Operators.{Layer}
use Rattle.body_requests.specs.Asks.{IsTold}
use Rattle.call_rules.specs.Told.{Asks}
use Rattle.history_laws.specs.Reads.{submits}
use Rattle.kernel_model.specs.Known.{Known, path_at}
use Rattle.kernel_model.specs.Conditions.{MainAsks}
use Rattle.kernel_model.proofs.Waits.{WaitsFor, value-waits_for, name-waits_for}
use Rattle.kernel_core.specs.MainTurns.{IsOfCall, IsOfNoCall}
use Rattle.kernel_core.specs.Turned.{IsPlaceOf, IsNowhere}
use Rattle.kernel_core.specs.Views.{IsFact}

-- the one path of a value
record OnePath (layer : Layer) : Type 0 where
  path : Path
  is : path_in layer ≡ path ∷ []

one_path : (ps : List Path) (layer : Layer) → IsTold ps layer → OnePath layer
one_path ps (Value-F.Future path outputs) h = record { path = path; is = refl }
one_path ps (Value-F.Output path index) h = record { path = path; is = refl }
one_path ps (Value-F.Int n) h = absurd h
one_path ps (Value-F.Text t) h = absurd h
one_path ps (Value-F.List vs) h = absurd h
one_path ps (Value-F.File name content) h = absurd h
one_path ps Value-F.Nothing h = absurd h

-- the call that a value is of
pub record IsOfSome (w : Known) (f : Value) : Type 0 where
  pub number : ℕ
  pub is : IsOfCall w f number

of_path : (w : Known) (f : Value) (p : Path) → path_in (out-Value f) ≡ p ∷ [] → WaitsFor w p → IsOfSome w f
of_path w f p at h = record { number = h.place; is = record { path = at ∙ ap (λ (q : Path). q ∷ []) h.is; within = h.within } }

pub value-of_some : (w : Known) (f : Value) → IsFact w → MainAsks w (request.WaitValue f) → IsOfSome w f
value-of_some w f fact asks =
    let a = subst (Asks [] (submits w.past)) asks.left fact.inv.holds.main.asks in
    let one = one_path a.paths (out-Value f) a.told.0 in
    of_path w f one.path one.is (value-waits_for w fact.inv f asks.go asks.left one.path [] one.is)

pub name-of_some : (w : Known) (f : Value) → IsFact w → MainAsks w (request.WaitName f) → IsOfSome w f
name-of_some w f fact asks =
    let a = subst (Asks [] (submits w.past)) asks.left fact.inv.holds.main.asks in
    let one = one_path a.paths (out-Value f) a.told.0 in
    of_path w f one.path one.is (name-waits_for w fact.inv f asks.go asks.left one.path [] one.is)

-- so it is of no other kind
pub of_some-not_none : (w : Known) (f : Value) → IsOfSome w f → IsOfNoCall w f → ⊥
of_some-not_none w f some none = none some.number some.is

pub of_some-not_empty : (w : Known) (f : Value) → IsOfSome w f → path_in (out-Value f) ≡ [] → ⊥
of_some-not_empty w f some empty = let is = some.is.path in absurd (cc)

-- ---- the task of a value, by the place of its path

pub place-of_call : (w : Known) (f : Value) (path : Path) (k : ℕ) → path_in (out-Value f) ≡ path ∷ [] → IsPlaceOf w path k → IsOfCall w f k
place-of_call w f path k one at = record { path = one ∙ ap (λ (p : Path). p ∷ []) (sym at.is); within = at.within }

pub nowhere-of_call : (w : Known) (f : Value) (path : Path) → path_in (out-Value f) ≡ path ∷ [] → IsNowhere w path → IsOfNoCall w f
nowhere-of_call w f path one none k is =
    let at = is.path in
    let same : path_at w k ≡ path = cc in
    none k (record { within = is.within; is = same })

pub call-of_place : (w : Known) (f : Value) (path : Path) (found : Option ℕ) → path_in (out-Value f) ≡ path ∷ [] → MatchOption found (IsNowhere w path) (IsPlaceOf w path) → MatchOption found (IsOfNoCall w f) (IsOfCall w f)
call-of_place w f path None one none = nowhere-of_call w f path one none
call-of_place w f path (Some k) one at = place-of_call w f path k one at
