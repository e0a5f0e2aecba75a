-- How long the texts of a list are when they are joined.
use Rattle.std.proofs.Common.{◌≡◌, ℕ, zero, suc, ◌+◌, ◌-◌, ◌*◌, ◌^◌, ◌<◌, min, List, [], ◌∷◌, ◌++◌, map, sum, length, length-append, true, false, refl, sym, ap, ◌∙◌, arith}
use Rattle.std.proofs.lemmas.Bool.Decides.{nat_tests}
use Rattle.std.specs.Prelude.{nat_le}
use Rattle.flow_base.specs.declared.value.Value.{Value, out-Value, out-roll-Value, fold_out-Value}
use Rattle.flow_base.specs.declared.value.Value.TheOpen.{Value-F}
use Rattle.flow_base.specs.declared.value.Value.TheVariants as v
use Rattle.flow_base.specs.declared.value.Value.TheVariants.{rolls-Text, rolls-List}
use Rattle.flow_base.specs.declared.outcome.Exception.{Exception}
use Rattle.flow_base.specs.declared.outcome.Exception.TheVariants as x
use Rattle.flow_base.specs.Values.{units, fits, max_units}
use Rattle.script_tree.specs.declared.tree.BuiltIn.TheVariants as b
use Rattle.flow_meaning.specs.Act.{Act, Give, Throw, Ask, ◌>>=◌}
use Rattle.flow_meaning.specs.Operators.{Layer, Text, a_text, text_of, texts_of, texts_from, list_of, joined, limited}
use Rattle.flow_meaning.specs.Meaning.{applied_to}
use Rattle.app_eval.specs.Gives.{IsGiven}
use Rattle.app_eval.specs.Joins.{joined_bytes}
use Rattle.app_eval.proofs.Fitting.{fits_Text, is_given, past_limits, sum_from}
use Rattle.app_eval.proofs.Measures.{list_of-List}
use Rattle.app_eval.proofs.Sizes.{units-List}
use Rattle.app_eval.proofs.TextLists.{text_of-Text}

abbrev total : List Text → ℕ
total [] = 0
total (t ∷ ts) = length t + total ts

total_more : (ts : List Text) (t : Text) → total (ts ++ t ∷ []) ≡ total ts + length t
total_more [] t = omega arith
total_more (u ∷ us) t = omega (arith, total_more us t)

is_text : (l : Layer) (t : Text) → a_text l ≡ Give t → l ≡ Value-F.Text t
is_text (Value-F.Int n) t e = absurd (cc)
is_text (Value-F.Text s) t e = cc
is_text (Value-F.List vs) t e = absurd (cc)
is_text (Value-F.File name content) t e = absurd (cc)
is_text (Value-F.Future path outputs) t e = absurd (cc)
is_text (Value-F.Output path index) t e = absurd (cc)
is_text Value-F.Nothing t e = absurd (cc)

layer_units : (w : Value) (t : Text) → out-Value w ≡ Value-F.Text t → units w ≡ 1 + length t
unfolding units
layer_units w t e = rw (fold_out-Value, e) refl

text_units : (w : Value) (t : Text) → text_of w ≡ Give t → units w ≡ 1 + length t
unfolding text_of
text_units w t e = layer_units w t (is_text (out-Value w) t e)

units_more : (w : Value) (ws : List Value) → sum (map units (w ∷ ws)) ≡ units w + sum (map units ws)
units_more w ws = omega (arith, sum_from (0 + units w) (map units ws))

-- the texts of values, by the units of these
abbrev Sized : List Value → List Text → List Text → Type 0
Sized vs given ts = (sum (map units vs) + (length given + total given) ≡ length ts + total ts) × (length given + length vs ≡ length ts)

sized_next : (w : Value) (ws : List Value) (given ts : List Text) (t : Text) → text_of w ≡ Give t → Sized ws (given ++ t ∷ []) ts → Sized (w ∷ ws) given ts
sized_next w ws given ts t e was = (
  omega (arith, units_more w ws, text_units w t e, length-append given (t ∷ []), total_more given t, was.0),
  omega (arith, length-append given (t ∷ []), was.1),
)

sized_act : (w : Value) (ws : List Value) (given ts : List Text) (act : Act Text) → text_of w ≡ act → ((t : Text) → texts_from (given ++ t ∷ []) ws ≡ Give ts → Sized ws (given ++ t ∷ []) ts) → (act >>= λ t. texts_from (given ++ t ∷ []) ws) ≡ Give ts → Sized (w ∷ ws) given ts
sized_act w ws given ts (Give t) e step is = sized_next w ws given ts t e (step t is)
sized_act w ws given ts (Throw exception) e step is = absurd (cc)
sized_act w ws given ts (Ask request go) e step is = absurd (cc)

sized : (vs : List Value) (given ts : List Text) → texts_from given vs ≡ Give ts → Sized vs given ts
sized [] given ts is = let e : given ≡ ts = cc in rw e (omega arith, omega arith)
sized (w ∷ ws) given ts is = sized_act w ws given ts (text_of w) refl (λ t. sized ws (given ++ t ∷ []) ts) is

times_none : (b : ℕ) → 0 * b ≡ 0
times_none b = grind arith

times_more : (n b : ℕ) → suc n * b ≡ b + n * b
times_more n b = grind arith

joined_length : (by : Text) (ts : List Text) → length (joined by ts) ≡ total ts + (length ts - 1) * length by
joined_length by [] = omega (arith, times_none (length by))
joined_length by (t ∷ []) = omega (arith, times_none (length by))
joined_length by (t ∷ u ∷ us) =
    let m : length (t ∷ u ∷ us) - 1 ≡ suc (length us) = omega arith in
    let n : length (u ∷ us) - 1 ≡ length us = omega arith in
    let more : (length (t ∷ u ∷ us) - 1) * length by ≡ length by + (length (u ∷ us) - 1) * length by = rw (m, n) (times_more (length us) (length by)) in
    omega (arith, more, length-append t (by ++ joined by (u ∷ us)), length-append by (joined by (u ∷ us)), joined_length by (u ∷ us))

bytes_test : (n bytes between u : ℕ) → n < 2 ^ 63 → u ≡ 1 + (n + bytes) → nat_le (1 + min ((min u (2 ^ 64 - 1) - (1 + n)) + min between (2 ^ 64 - 1)) (2 ^ 64 - 1)) max_units ≡ nat_le (1 + (bytes + between)) max_units
bytes_test n bytes between u h e = grind (arith, nat_tests)

joined_test : (vs : List Value) (ts : List Text) (by : Text) → length vs < 2 ^ 63 → texts_of vs ≡ Give ts → nat_le (1 + joined_bytes (v.List vs) (length vs) (length by)) max_units ≡ fits (v.Text (joined by ts))
joined_test vs ts by h is =
    let size = sized vs [] ts is in
    let count : length vs ≡ length ts = omega (arith, size.1) in
    let all : units (v.List vs) ≡ 1 + (length vs + total ts) = omega (arith, units-List vs, size.0, size.1) in
    let whole : length (joined by ts) ≡ total ts + (length vs - 1) * length by = rw count (joined_length by ts) in
    bytes_test (length vs) (total ts) ((length vs - 1) * length by) (units (v.List vs)) h all ∙ ap (λ n. nat_le (1 + n) max_units) (sym whole) ∙ sym (fits_Text (joined by ts))

-- what is given
given_is : {A : Type 0} (act : Act A) → IsGiven act → (a : A) × (act ≡ Give a)
given_is (Give a) is = (a, refl)
given_is (Throw exception) is = absurd is
given_is (Ask request go) is = absurd is

concat_is : (list by : Value) (vs : List Value) (ts : List Text) (t : Text) → list ≡ v.List vs → by ≡ v.Text t → texts_of vs ≡ Give ts → applied_to b.Concat (list ∷ by ∷ []) ≡ limited (v.Text (joined t ts))
concat_is list by vs ts t h j is = rw (h, j, list_of-List vs, is, text_of-Text t) refl

pub concat_within : (list by : Value) (vs : List Value) (t : Text) → list ≡ v.List vs → by ≡ v.Text t → length vs < 2 ^ 63 → IsGiven (texts_of vs) → nat_le (1 + joined_bytes list (length vs) (length t)) max_units ≡ true → IsGiven (applied_to b.Concat (list ∷ by ∷ []))
concat_within list by vs t h j short given test =
    let texts = given_is (texts_of vs) given in
    let within : nat_le (1 + joined_bytes (v.List vs) (length vs) (length t)) max_units ≡ true = rw (sym h) test in
    rw (concat_is list by vs texts.0 t h j texts.1) (is_given (v.Text (joined t texts.0)) (sym (joined_test vs texts.0 t short texts.1) ∙ within))

pub concat_past : (list by : Value) (vs : List Value) (t : Text) → list ≡ v.List vs → by ≡ v.Text t → length vs < 2 ^ 63 → IsGiven (texts_of vs) → nat_le (1 + joined_bytes list (length vs) (length t)) max_units ≡ false → applied_to b.Concat (list ∷ by ∷ []) ≡ Throw x.SizeError
concat_past list by vs t h j short given test =
    let texts = given_is (texts_of vs) given in
    let past : nat_le (1 + joined_bytes (v.List vs) (length vs) (length t)) max_units ≡ false = rw (sym h) test in
    concat_is list by vs texts.0 t h j texts.1 ∙ past_limits (v.Text (joined t texts.0)) (sym (joined_test vs texts.0 t short texts.1) ∙ past)

concat_stops : (list by : Value) (vs : List Value) (act : Act (List Text)) (exception : Exception) → list ≡ v.List vs → texts_of vs ≡ act → act ≡ Throw exception → applied_to b.Concat (list ∷ by ∷ []) ≡ Throw exception
concat_stops list by vs act exception h is stops = rw (h, list_of-List vs, is, stops) refl

pub concat_no_texts : (list by : Value) (vs : List Value) (exception : Exception) → list ≡ v.List vs → texts_of vs ≡ Throw exception → applied_to b.Concat (list ∷ by ∷ []) ≡ Throw exception
concat_no_texts list by vs exception h is = concat_stops list by vs (Throw exception) exception h is refl

pub concat_no_separator : (list by : Value) (vs : List Value) → list ≡ v.List vs → IsGiven (texts_of vs) → text_of by ≡ Throw x.TypeError → applied_to b.Concat (list ∷ by ∷ []) ≡ Throw x.TypeError
concat_no_separator list by vs h given is =
    let texts = given_is (texts_of vs) given in
    rw (h, list_of-List vs, texts.1, is) refl

pub ruleset concat_rules = (concat_within, concat_past, concat_no_texts, concat_no_separator)
