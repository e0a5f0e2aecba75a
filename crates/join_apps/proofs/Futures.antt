-- The futures of a list, as the inputs of a call and their values.
use Rattle.std.proofs.Common.{◌≡◌, ◌&&◌, Bool, true, false, List, [], ◌∷◌, map, Option, Some, None, refl, ◌∙◌, ap}
use Rattle.std.specs.Prelude.{is_some}
use Rattle.std.specs.List.{list_all, flat_map}
use Rattle.flow_base.specs.declared.value.Value.{Value, out-Value}
use Rattle.flow_base.specs.declared.value.Value.TheOpen.{Value-F}
use Rattle.flow_base.specs.declared.value.Value.TheVariants as v
use Rattle.flow_base.specs.declared.outcome.Exception.TheVariants as x
use Rattle.flow_base.specs.declared.outcome.Outcome.TheVariants as o
use Rattle.flow_meaning.specs.Inputs.{Path, distinct, paths_in, inputs}
use Rattle.flow_meaning.specs.Operators.{Layer}
use Rattle.flow_meaning.specs.Sequential.{Tasks, outcome_at, value_in, replaced_in, resolved, future_in, with_front, futures_in, failed_among, unless_failed, limited_outcome, all_values}
use Rattle.call_rules.specs.Calls.{paths_or_none}
use Rattle.join_apps.specs.Futures.{is_future}

module _ (ts : Tasks) where
  -- a future, as an input and by its value
  record One (whole : Value) (l : Layer) : Type 0 where
    pub path : Path
    pub is : future_in l ≡ Some path
    pub input : paths_in l ≡ path ∷ []
    pub value : replaced_in ts whole l ≡ value_in (outcome_at ts path)

  one : (whole : Value) (l : Layer) → is_some (future_in l) ≡ true → One whole l
  one whole (Value-F.Future path outputs) h = record { path = path; is = refl; input = refl; value = refl }
  one whole (Value-F.Int n) h = absurd (cc)
  one whole (Value-F.Text text) h = absurd (cc)
  one whole (Value-F.List vs) h = absurd (cc)
  one whole (Value-F.File name content) h = absurd (cc)
  one whole (Value-F.Output path index) h = absurd (cc)
  one whole Value-F.Nothing h = absurd (cc)

  record Every (vs : List Value) : Type 0 where
    pub paths : List Path
    pub are : futures_in vs ≡ Some paths
    pub inputs_are : flat_map (λ v. paths_in (out-Value v)) vs ≡ paths
    pub values_are : map (λ a. replaced_in ts a (out-Value a)) vs ≡ map (λ p. value_in (outcome_at ts p)) paths

  both : (a b : Bool) → (a && b) ≡ true → (a ≡ true) × (b ≡ true)
  both true true h = (refl, refl)
  both true false h = absurd (cc)
  both false b h = absurd (cc)

  one_more : (v : Value) (vs : List Value) → One v (out-Value v) → Every vs → Every (v ∷ vs)
  one_more v vs first rest = record {
    paths = first.path ∷ rest.paths;
    are = rw (first.is, rest.are) refl;
    inputs_are = rw (first.input, rest.inputs_are) refl;
    values_are = rw (first.value, rest.values_are) refl;
  }

  every : (vs : List Value) → list_all is_future vs ≡ true → Every vs
  every [] h = record { paths = []; are = refl; inputs_are = refl; values_are = refl }
  every (v ∷ vs) h =
      let halves = both (is_future v) (list_all is_future vs) h in
      one_more v vs (one v (out-Value v) halves.0) (every vs halves.1)

  pub all_joined : (vs : List Value) → list_all is_future vs ≡ true
      → unless_failed (failed_among ts (inputs vs)) (limited_outcome (v.List (resolved ts vs))) ≡ all_values ts (futures_in vs)
  unfolding inputs resolved
  all_joined vs h =
      let e = every vs h in
      rw (e.are, e.inputs_are, e.values_are) refl

  counted : (first : Option Path) (rest : Option (List Path)) → is_some (with_front first rest) ≡ (is_some first && is_some rest)
  counted None rest = refl
  counted (Some p) None = refl
  counted (Some p) (Some ps) = refl

  some_all : (vs : List Value) → is_some (futures_in vs) ≡ list_all is_future vs
  some_all [] = refl
  some_all (v ∷ vs) = counted (future_in (out-Value v)) (futures_in vs) ∙ ap (λ (b : Bool). is_future v && b) (some_all vs)

  none_of : (given : Option (List Path)) → is_some given ≡ false → all_values ts given ≡ o.Failed x.TypeError
  none_of None h = refl
  none_of (Some ps) h = absurd (cc)

  pub not_all : (vs : List Value) → list_all is_future vs ≡ false → all_values ts (futures_in vs) ≡ o.Failed x.TypeError
  not_all vs h = none_of (futures_in vs) (some_all vs ∙ h)

  -- ---- what is waited for

  pub all_awaited : (vs : List Value) → list_all is_future vs ≡ true → inputs vs ≡ distinct (paths_or_none (futures_in vs))
  unfolding inputs
  all_awaited vs h = let e = every vs h in rw (e.are, e.inputs_are) refl

  no_paths : (given : Option (List Path)) → is_some given ≡ false → distinct (paths_or_none given) ≡ []
  no_paths None h = refl
  no_paths (Some ps) h = absurd (cc)

  pub none_awaited : (vs : List Value) → list_all is_future vs ≡ false → distinct (paths_or_none (futures_in vs)) ≡ []
  none_awaited vs h = no_paths (futures_in vs) (some_all vs ∙ h)
