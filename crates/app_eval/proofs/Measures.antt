-- The measure of a list with one more item.
use Rattle.std.proofs.Common.{◌≡◌, ℕ, ◌+◌, ◌-◌, ◌^◌, ◌<◌, min, max, List, [], ◌∷◌, ◌++◌, map, sum, Bool, true, false, if◌then◌else◌, Some, refl, sym, subst, ap, ◌∙◌, arith}
use Rattle.std.proofs.lemmas.List.{map-append}
use Rattle.std.proofs.lemmas.List.Sums.{fold-append}
use Rattle.std.proofs.lemmas.Bool.Decides.{nat_tests}
use Rattle.std.specs.Prelude.{nat_le}
use Rattle.flow_base.specs.declared.value.Value.{Value, fold-roll-Value, out-roll-Value}
use Rattle.flow_base.specs.declared.value.Value.TheVariants as v
use Rattle.flow_base.specs.declared.value.Value.TheVariants.{rolls-List}
use Rattle.flow_base.specs.declared.outcome.Exception.TheVariants as x
use Rattle.script_tree.specs.declared.tree.BuiltIn.TheVariants as b
use Rattle.flow_meaning.specs.Act.{Give, Throw}
use Rattle.flow_meaning.specs.Operators.{limited, list_of}
use Rattle.flow_meaning.specs.Meaning.{applied_to}
use Rattle.flow_base.specs.Values.{units, levels, fits, greatest, max_units, max_levels}
use Rattle.app_eval.specs.declared.limits.Measure.{Measure}
use Rattle.app_eval.specs.Gives.{IsGiven}
use Rattle.app_eval.specs.Measures.{IsMeasureOf, with_item, measure_fits}
use Rattle.app_eval.proofs.Sizes.{units-List}

pub levels-List : (vs : List Value) → levels (v.List vs) ≡ 1 + greatest (map levels vs)
unfolding levels
levels-List vs = rw (← rolls-List vs, fold-roll-Value) refl

-- the sum and the greatest of one number more
sum_more : (f : Value → ℕ) (vs : List Value) (item : Value) → sum (map f (vs ++ item ∷ [])) ≡ sum (map f vs) + f item
sum_more f vs item = ap sum (map-append f vs (item ∷ [])) ∙ fold-append ◌+◌ 0 (map f vs) (f item ∷ [])

greatest_more : (f : Value → ℕ) (vs : List Value) (item : Value) → greatest (map f (vs ++ item ∷ [])) ≡ max (greatest (map f vs)) (f item)
greatest_more f vs item = ap greatest (map-append f vs (item ∷ [])) ∙ fold-append max 0 (map f vs) (f item ∷ [])

units_more : (vs : List Value) (item : Value) → units (v.List (vs ++ item ∷ [])) ≡ units (v.List vs) + units item
units_more vs item = omega (arith, units-List vs, units-List (vs ++ item ∷ []), sum_more units vs item)

levels_more : (vs : List Value) (item : Value) → levels (v.List (vs ++ item ∷ [])) ≡ max (levels (v.List vs)) (1 + levels item)
levels_more vs item = omega (arith, levels-List vs, levels-List (vs ++ item ∷ []), greatest_more levels vs item)

kept_units : (m u n w : ℕ) → m ≡ min u (2 ^ 64 - 1) → w ≡ u + n → min (m + min n (2 ^ 64 - 1)) (2 ^ 64 - 1) ≡ min w (2 ^ 64 - 1)
kept_units m u n w h k = omega arith

kept_levels : (m u n w : ℕ) → m ≡ min u (2 ^ 32 - 1) → w ≡ max u (1 + n) → max m (min (min n (2 ^ 32 - 1) + 1) (2 ^ 32 - 1)) ≡ min w (2 ^ 32 - 1)
kept_levels m u n w h k = omega arith

pub measure_more : (m : Measure) (vs : List Value) (item : Value) → IsMeasureOf (Some m) (v.List vs) → IsMeasureOf (Some (with_item m item)) (v.List (vs ++ item ∷ []))
measure_more m vs item is = (
  kept_units m.units (units (v.List vs)) (units item) (units (v.List (vs ++ item ∷ []))) is.0 (units_more vs item),
  kept_levels m.levels (levels (v.List vs)) (levels item) (levels (v.List (vs ++ item ∷ []))) is.1 (levels_more vs item),
)

kept_test : (m u most : ℕ) (top : ℕ) → m ≡ min u top → most < top → nat_le m most ≡ nat_le u most
kept_test m u most top h k = grind (arith, nat_tests)

pub measure_tells : (m : Measure) (w : Value) → IsMeasureOf (Some m) w → measure_fits m ≡ fits w
measure_tells m w is = rw (kept_test m.units (units w) max_units (2 ^ 64 - 1) is.0 (omega arith), kept_test m.levels (levels w) max_levels (2 ^ 32 - 1) is.1 (omega arith)) refl

-- the same with the list as it stands in the code
pub grown_is : (measure grown : Measure) (value : Value) (vs items : List Value) (item : Value) → IsMeasureOf (Some measure) value → value ≡ v.List vs → grown ≡ with_item measure item → items ≡ vs ++ item ∷ [] → IsMeasureOf (Some grown) (v.List items)
grown_is measure grown value vs items item is list with more =
    rw (with, more) (measure_more measure vs item (subst (IsMeasureOf (Some measure)) list is))

pub list_of-List : (vs : List Value) → list_of (v.List vs) ≡ Give vs
unfolding list_of
list_of-List vs = rw (← rolls-List vs, out-roll-Value) refl

appended : (value : Value) (vs items : List Value) (item : Value) → value ≡ v.List vs → items ≡ vs ++ item ∷ [] → applied_to b.Append (value ∷ item ∷ []) ≡ limited (v.List items)
appended value vs items item list more = rw (list, more, list_of-List vs) refl

grows_to : (value : Value) (vs : List Value) (item : Value) → value ≡ v.List vs → applied_to b.Append (value ∷ item ∷ []) ≡ limited (v.List (vs ++ item ∷ []))
grows_to value vs item list = appended value vs (vs ++ item ∷ []) item list refl

grown_measure : (m : Measure) (value : Value) (vs : List Value) (item : Value) → value ≡ v.List vs → IsMeasureOf (Some m) value → measure_fits (with_item m item) ≡ fits (v.List (vs ++ item ∷ []))
grown_measure m value vs item list is = measure_tells (with_item m item) (v.List (vs ++ item ∷ [])) (measure_more m vs item (subst (IsMeasureOf (Some m)) list is))

given_if : (within : Bool) (w : Value) → within ≡ true → IsGiven (if within then Give w else Throw x.SizeError)
given_if true w h = tt
given_if false w h = absurd (cc)

-- a list may get one more item, or not
pub grows_within : (m : Measure) (value : Value) (vs : List Value) (item : Value) → value ≡ v.List vs → IsMeasureOf (Some m) value → measure_fits (with_item m item) ≡ true → IsGiven (applied_to b.Append (value ∷ item ∷ []))
grows_within m value vs item list is within = rw (grows_to value vs item list) (given_if (fits (v.List (vs ++ item ∷ []))) (v.List (vs ++ item ∷ [])) (sym (grown_measure m value vs item list is) ∙ within))

pub grows_past : (m : Measure) (value : Value) (vs : List Value) (item : Value) → value ≡ v.List vs → IsMeasureOf (Some m) value → measure_fits (with_item m item) ≡ false → applied_to b.Append (value ∷ item ∷ []) ≡ Throw x.SizeError
grows_past m value vs item list is past = let e : fits (v.List (vs ++ item ∷ [])) ≡ false = sym (grown_measure m value vs item list is) ∙ past in grows_to value vs item list ∙ simp e

pub grows_no_list : (value : Value) (item : Value) → list_of value ≡ Throw x.TypeError → applied_to b.Append (value ∷ item ∷ []) ≡ Throw x.TypeError
grows_no_list value item h = rw h refl

pub ruleset grow_rules = (grows_within, grows_past)

pub appends_within : (grown : Measure) (value : Value) (vs items : List Value) (item : Value) → value ≡ v.List vs → items ≡ vs ++ item ∷ [] → IsMeasureOf (Some grown) (v.List items) → measure_fits grown ≡ true → applied_to b.Append (value ∷ item ∷ []) ≡ Give (v.List items)
appends_within grown value vs items item list more is within =
    let e : fits (v.List items) ≡ true = sym (measure_tells grown (v.List items) is) ∙ within in
    appended value vs items item list more ∙ simp e

pub appends_past : (grown : Measure) (value : Value) (vs items : List Value) (item : Value) → value ≡ v.List vs → items ≡ vs ++ item ∷ [] → IsMeasureOf (Some grown) (v.List items) → measure_fits grown ≡ false → applied_to b.Append (value ∷ item ∷ []) ≡ Throw x.SizeError
appends_past grown value vs items item list more is past =
    let e : fits (v.List items) ≡ false = sym (measure_tells grown (v.List items) is) ∙ past in
    appended value vs items item list more ∙ simp e
