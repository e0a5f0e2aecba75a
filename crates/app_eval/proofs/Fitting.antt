-- Values within the limits, by tests that come before.
use Rattle.std.proofs.Common.{◌≡◌, ℕ, ◌+◌, ◌-◌, ◌^◌, ◌<◌, ◌≤◌, min, max, List, [], ◌∷◌, ◌++◌, map, sum, fold, length, true, false, if◌then◌else◌, refl, sym, ap, ◌∙◌, length-append, arith}
use Rattle.std.proofs.lemmas.List.{map-append}
use Rattle.std.proofs.lemmas.List.Sums.{fold-append}
use Rattle.std.proofs.lemmas.Bool.Decides.{nat_tests}
use Rattle.std.specs.Prelude.{Bool, ◌&&◌, nat_le}
use Rattle.flow_base.specs.declared.value.Value.{Value, fold-roll-Value, out-Value, out-roll-Value}
use Rattle.flow_base.specs.declared.value.Value.TheOpen.{Value-F}
use Rattle.flow_base.specs.declared.value.Value.TheVariants as v
use Rattle.flow_base.specs.declared.value.Value.TheVariants.{rolls-Text, rolls-List, rolls-File}
use Rattle.flow_base.specs.declared.outcome.Exception.TheVariants as x
use Rattle.flow_base.specs.Values.{units, levels, fits, greatest, max_units, max_levels}
use Rattle.flow_meaning.specs.Act.{Act, Give, Throw, Ask}
use Rattle.flow_meaning.specs.Operators.{Text, limited}
use Rattle.flow_meaning.specs.Meaning.{file_fits}
use Rattle.app_eval.specs.Gives.{IsGiven}
use Rattle.app_eval.specs.Joins.{joins}
use Rattle.app_eval.specs.Measures.{joined_fits}
use Rattle.app_eval.proofs.Sizes.{units-Text, units-List}
use Rattle.app_eval.proofs.Measures.{levels-List}

pub levels-Text : (t : Text) → levels (v.Text t) ≡ 1
unfolding levels
levels-Text t = rw (← rolls-Text t, fold-roll-Value) refl

units-File : (name content : Text) → units (v.File name content) ≡ 1 + length name + length content
unfolding units
units-File name content = rw (← rolls-File name content, fold-roll-Value) refl

levels-File : (name content : Text) → levels (v.File name content) ≡ 1
unfolding levels
levels-File name content = rw (← rolls-File name content, fold-roll-Value) refl

-- what is within the limits is given
given_by : (within : Bool) (w : Value) → IsGiven (if within then Give w else Throw x.SizeError) → (if within then Give w else Throw x.SizeError) ≡ Give w
given_by true w h = refl
given_by false w h = absurd h

pub given_limited : (w : Value) → IsGiven (limited w) → limited w ≡ Give w
given_limited w h = given_by (fits w) w h

given_if : (within : Bool) (w : Value) → within ≡ true → IsGiven (if within then Give w else Throw x.SizeError)
given_if true w h = tt
given_if false w h = absurd (cc)

pub is_given : (w : Value) → fits w ≡ true → IsGiven (limited w)
is_given w h = given_if (fits w) w h

pub past_limits : (w : Value) → fits w ≡ false → limited w ≡ Throw x.SizeError
past_limits w h = simp h

one_level : (b : Bool) (l : ℕ) → l ≡ 1 → (b && nat_le l max_levels) ≡ b
one_level true l h = grind (arith, nat_tests)
one_level false l h = refl

pub fits_Text : (t : Text) → fits (v.Text t) ≡ nat_le (1 + length t) max_units
fits_Text t = one_level (nat_le (units (v.Text t)) max_units) (levels (v.Text t)) (levels-Text t) ∙ ap (λ n. nat_le n max_units) (units-Text t)

pub fits_File : (name content : Text) → fits (v.File name content) ≡ file_fits name content
fits_File name content = one_level (nat_le (units (v.File name content)) max_units) (levels (v.File name content)) (levels-File name content) ∙ ap (λ n. nat_le n max_units) (units-File name content)

-- two texts
kept_sum : (a n : ℕ) → a ≡ min n (2 ^ 64 - 1) → nat_le (1 + a) max_units ≡ nat_le (1 + n) max_units
kept_sum a n h = grind (arith, nat_tests)

texts_test : (a b : Text) (n : ℕ) → n ≡ min (length a + length b) (2 ^ 64 - 1) → nat_le (1 + n) max_units ≡ fits (v.Text (a ++ b))
texts_test a b n h = kept_sum n (length a + length b) h ∙ ap (λ k. nat_le (1 + k) max_units) (sym (length-append a b)) ∙ sym (fits_Text (a ++ b))

texts_within : (a b : Text) (n : ℕ) → n ≡ min (length a + length b) (2 ^ 64 - 1) → nat_le (1 + n) max_units ≡ true → IsGiven (limited (v.Text (a ++ b)))
texts_within a b n h t = is_given (v.Text (a ++ b)) (sym (texts_test a b n h) ∙ t)

texts_past : (a b : Text) (n : ℕ) → n ≡ min (length a + length b) (2 ^ 64 - 1) → nat_le (1 + n) max_units ≡ false → limited (v.Text (a ++ b)) ≡ Throw x.SizeError
texts_past a b n h t = past_limits (v.Text (a ++ b)) (sym (texts_test a b n h) ∙ t)

-- two lists
pub sum_from : (m : ℕ) (ns : List ℕ) → fold ◌+◌ m ns ≡ m + sum ns
sum_from m [] = omega arith
sum_from m (n ∷ ns) = omega (arith, sum_from (m + n) ns, sum_from (0 + n) ns)

greatest_from : (m : ℕ) (ns : List ℕ) → fold max m ns ≡ max m (greatest ns)
greatest_from m [] = omega arith
greatest_from m (n ∷ ns) = omega (arith, greatest_from (max m n) ns, greatest_from (max 0 n) ns)

sum_both : (f : Value → ℕ) (us ws : List Value) → sum (map f (us ++ ws)) ≡ sum (map f us) + sum (map f ws)
sum_both f us ws = ap sum (map-append f us ws) ∙ fold-append ◌+◌ 0 (map f us) (map f ws) ∙ sum_from (sum (map f us)) (map f ws)

greatest_both : (f : Value → ℕ) (us ws : List Value) → greatest (map f (us ++ ws)) ≡ max (greatest (map f us)) (greatest (map f ws))
greatest_both f us ws = ap greatest (map-append f us ws) ∙ fold-append max 0 (map f us) (map f ws) ∙ greatest_from (greatest (map f us)) (map f ws)

both_test : (u w n l m k : ℕ) → u + w ≡ 1 + n → k ≡ max l m → (nat_le (u + w) (1 + max_units) && (nat_le l max_levels && nat_le m max_levels)) ≡ (nat_le n max_units && nat_le k max_levels)
both_test u w n l m k h j = grind (arith, nat_tests)

lists_units : (us ws : List Value) → units (v.List us) + units (v.List ws) ≡ 1 + units (v.List (us ++ ws))
lists_units us ws = omega (arith, units-List us, units-List ws, units-List (us ++ ws), sum_both units us ws)

lists_levels : (us ws : List Value) → levels (v.List (us ++ ws)) ≡ max (levels (v.List us)) (levels (v.List ws))
lists_levels us ws = omega (arith, levels-List us, levels-List ws, levels-List (us ++ ws), greatest_both levels us ws)

lists_test : (left right : Value) (us ws : List Value) → left ≡ v.List us → right ≡ v.List ws → joined_fits left right ≡ fits (v.List (us ++ ws))
lists_test left right us ws h j = rw (h, j) (both_test (units (v.List us)) (units (v.List ws)) (units (v.List (us ++ ws))) (levels (v.List us)) (levels (v.List ws)) (levels (v.List (us ++ ws))) (lists_units us ws) (lists_levels us ws))

lists_within : (left right : Value) (us ws : List Value) → left ≡ v.List us → right ≡ v.List ws → joined_fits left right ≡ true → IsGiven (limited (v.List (us ++ ws)))
lists_within left right us ws h j t = is_given (v.List (us ++ ws)) (sym (lists_test left right us ws h j) ∙ t)

lists_past : (left right : Value) (us ws : List Value) → left ≡ v.List us → right ≡ v.List ws → joined_fits left right ≡ false → limited (v.List (us ++ ws)) ≡ Throw x.SizeError
lists_past left right us ws h j t = past_limits (v.List (us ++ ws)) (sym (lists_test left right us ws h j) ∙ t)

-- what two values joined give
out-Text : (t : Text) → out-Value (v.Text t) ≡ Value-F.Text t
out-Text t = ap out-Value (sym (rolls-Text t)) ∙ out-roll-Value _

out-List : (vs : List Value) → out-Value (v.List vs) ≡ Value-F.List vs
out-List vs = ap out-Value (sym (rolls-List vs)) ∙ out-roll-Value _

joins-Text : (left right : Value) (a b : Text) → left ≡ v.Text a → right ≡ v.Text b → joins (out-Value left) (out-Value right) ≡ limited (v.Text (a ++ b))
joins-Text left right a b h j = rw (h, j, out-Text a, out-Text b) refl

joins-List : (left right : Value) (us ws : List Value) → left ≡ v.List us → right ≡ v.List ws → joins (out-Value left) (out-Value right) ≡ limited (v.List (us ++ ws))
joins-List left right us ws h j = rw (h, j, out-List us, out-List ws) refl

pub join_texts_within : (left right : Value) (a b : Text) (n : ℕ) → left ≡ v.Text a → right ≡ v.Text b → n ≡ min (length a + length b) (2 ^ 64 - 1) → nat_le (1 + n) max_units ≡ true → IsGiven (joins (out-Value left) (out-Value right))
join_texts_within left right a b n h j k t = rw (joins-Text left right a b h j) (texts_within a b n k t)

pub join_texts_past : (left right : Value) (a b : Text) (n : ℕ) → left ≡ v.Text a → right ≡ v.Text b → n ≡ min (length a + length b) (2 ^ 64 - 1) → nat_le (1 + n) max_units ≡ false → joins (out-Value left) (out-Value right) ≡ Throw x.SizeError
join_texts_past left right a b n h j k t = joins-Text left right a b h j ∙ texts_past a b n k t

pub join_lists_within : (left right : Value) (us ws : List Value) → left ≡ v.List us → right ≡ v.List ws → joined_fits left right ≡ true → IsGiven (joins (out-Value left) (out-Value right))
join_lists_within left right us ws h j t = rw (joins-List left right us ws h j) (lists_within left right us ws h j t)

pub join_lists_past : (left right : Value) (us ws : List Value) → left ≡ v.List us → right ≡ v.List ws → joined_fits left right ≡ false → joins (out-Value left) (out-Value right) ≡ Throw x.SizeError
join_lists_past left right us ws h j t = joins-List left right us ws h j ∙ lists_past left right us ws h j t

-- a file
pub file_within : (name content : Text) → nat_le (1 + length name + length content) max_units ≡ true → limited (v.File name content) ≡ Give (v.File name content)
file_within name content h = given_limited (v.File name content) (is_given (v.File name content) (fits_File name content ∙ h))

pub file_given : (name content : Text) → nat_le (1 + length name + length content) max_units ≡ true → IsGiven (limited (v.File name content))
file_given name content h = is_given (v.File name content) (fits_File name content ∙ h)

pub file_past : (name content : Text) → nat_le (1 + length name + length content) max_units ≡ false → limited (v.File name content) ≡ Throw x.SizeError
file_past name content h = past_limits (v.File name content) (fits_File name content ∙ h)

pub ruleset given_rules = (given_limited)

pub ruleset file_rules = (file_within, file_given, file_past)
