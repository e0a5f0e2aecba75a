-- The pieces of a text, one more byte at a time.
use Rattle.std.proofs.Common.{◌≡◌, ℕ, zero, suc, ◌+◌, ◌-◌, ◌^◌, ◌<◌, ◌≤◌, min, max, fold, nat_eq, length, drop, get_or, List, [], ◌∷◌, ◌++◌, Bool, true, false, cond, map, refl, sym, ap, ◌∙◌, append_assoc, arith}
use Rattle.std.proofs.lemmas.Grind.{common_steps}
use Rattle.std.proofs.lemmas.Bool.Decides.{nat_tests}
use Rattle.std.specs.Prelude.{◌&&◌, nat_le}
use Rattle.std.specs.List.{slice_split, onto_first}
use Rattle.flow_base.specs.declared.value.Value.{Value}
use Rattle.flow_base.specs.declared.value.Value.TheVariants as v
use Rattle.flow_base.specs.declared.outcome.Exception.TheVariants as x
use Rattle.flow_base.specs.Values.{units, levels, fits, max_units, max_levels}
use Rattle.flow_meaning.specs.Act.{Give, Throw}
use Rattle.flow_meaning.specs.Operators.{Text, limited}
use Rattle.app_eval.specs.Gives.{IsGiven}
use Rattle.app_eval.specs.Splits.{onto_piece}
use Rattle.app_eval.proofs.Fitting.{given_limited, is_given, levels-Text, past_limits}
use Rattle.app_eval.proofs.Measures.{levels-List}
use Rattle.app_eval.proofs.Sizes.{units-Text, units-List}

piece_grows : (piece : Text) (b : ℕ) (pieces : List Text) → onto_piece (piece ++ b ∷ []) pieces ≡ onto_piece piece (onto_first b pieces)
piece_grows piece b [] = refl
piece_grows piece b (first ∷ pieces) = ap (λ t. t ∷ pieces) (append_assoc piece (b ∷ []) first)

append-nil : (t : Text) → t ++ [] ≡ t
append-nil t = grind (arith, common_steps)

no_piece : (pieces : List Text) → ([] ≡ pieces → ⊥) → onto_piece [] pieces ≡ pieces
no_piece [] h = absurd (h refl)
no_piece (first ∷ pieces) h = refl

onto_first_some : (b : ℕ) (pieces : List Text) → [] ≡ onto_first b pieces → ⊥
onto_first_some b [] e = cc
onto_first_some b (first ∷ pieces) e = cc

some_at : (cut : Bool) (b : ℕ) (pieces : List Text) → [] ≡ cond cut ([] ∷ pieces) (onto_first b pieces) → ⊥
some_at true b pieces e = cc
some_at false b pieces e = onto_first_some b pieces e

some_pieces : (p : ℕ → Bool) (t : Text) → [] ≡ slice_split p t → ⊥
some_pieces p [] e = cc
some_pieces p (b ∷ t) e = some_at (p b) b (slice_split p t) e

pub pieces_start : (p : ℕ → Bool) (t : Text) → onto_piece [] (slice_split p t) ≡ slice_split p t
pieces_start p t = no_piece (slice_split p t) (some_pieces p t)

-- a separator ends the piece
cut_next : (p : ℕ → Bool) (t : Text) (i : ℕ) (b : ℕ) (piece : Text) → i < length t → b ≡ get_or t i 0 → p b ≡ true → onto_piece piece (slice_split p (drop i t)) ≡ piece ∷ slice_split p (drop (suc i) t)
cut_next p [] i b piece short e h = absurd (omega arith)
cut_next p (c ∷ t) zero b piece short e h = let k : p c ≡ true = rw (sym e) h in rw k (ap (λ l. l ∷ slice_split p t) (append-nil piece))
cut_next p (c ∷ t) (suc i) b piece short e h = cut_next p t i b piece (omega arith) e h

-- another byte is put on the piece
grow_next : (p : ℕ → Bool) (t : Text) (i : ℕ) (b : ℕ) (piece : Text) → i < length t → b ≡ get_or t i 0 → p b ≡ false → onto_piece piece (slice_split p (drop i t)) ≡ onto_piece (piece ++ b ∷ []) (slice_split p (drop (suc i) t))
grow_next p [] i b piece short e h = absurd (omega arith)
grow_next p (c ∷ t) zero b piece short e h = let k : p c ≡ false = rw (sym e) h in rw (k, e) (sym (piece_grows piece c (slice_split p t)))
grow_next p (c ∷ t) (suc i) b piece short e h = grow_next p t i b piece (omega arith) e h

pub cut_preserved : (p : ℕ → Bool) (t : Text) (i : ℕ) (b : ℕ) (piece : Text) (pieces more : List Value) (all : List Value) → i < length t → b ≡ get_or t i 0 → p b ≡ true → more ≡ pieces ++ v.Text piece ∷ [] → pieces ++ map v.Text (onto_piece piece (slice_split p (drop i t))) ≡ all → more ++ map v.Text (onto_piece [] (slice_split p (drop (i + 1) t))) ≡ all
cut_preserved p t i b piece pieces more all short e h pushed same =
    let next : i + 1 ≡ suc i = omega arith in
    let k : map v.Text (onto_piece piece (slice_split p (drop i t))) ≡ v.Text piece ∷ map v.Text (slice_split p (drop (suc i) t)) = ap (map v.Text) (cut_next p t i b piece short e h) in
    rw (pushed, next, pieces_start p (drop (suc i) t)) (append_assoc pieces (v.Text piece ∷ []) (map v.Text (slice_split p (drop (suc i) t))) ∙ ap (λ l. pieces ++ l) (sym k) ∙ same)

pub grow_preserved : (p : ℕ → Bool) (t : Text) (i : ℕ) (b : ℕ) (piece longer : Text) (pieces : List Value) (all : List Value) → i < length t → b ≡ get_or t i 0 → p b ≡ false → longer ≡ piece ++ b ∷ [] → pieces ++ map v.Text (onto_piece piece (slice_split p (drop i t))) ≡ all → pieces ++ map v.Text (onto_piece longer (slice_split p (drop (i + 1) t))) ≡ all
grow_preserved p t i b piece longer pieces all short e h pushed same =
    let next : i + 1 ≡ suc i = omega arith in
    rw (pushed, next) (ap (λ l. pieces ++ map v.Text l) (sym (grow_next p t i b piece short e h)) ∙ same)

pub ruleset split_rules = (pieces_start)

-- The pieces and the separators between them have the text's bytes.
abbrev pieces_units : List Text → ℕ
pieces_units [] = 0
pieces_units (t ∷ ts) = (1 + length t) + pieces_units ts

first_units : (b : ℕ) (pieces : List Text) → ([] ≡ pieces → ⊥) → pieces_units (onto_first b pieces) ≡ 1 + pieces_units pieces
first_units b [] h = absurd (h refl)
first_units b (first ∷ pieces) h = omega arith

units_at : (cut : Bool) (b : ℕ) (pieces : List Text) → ([] ≡ pieces → ⊥) → pieces_units (cond cut ([] ∷ pieces) (onto_first b pieces)) ≡ 1 + pieces_units pieces
units_at true b pieces h = omega arith
units_at false b pieces h = first_units b pieces h

split_units : (p : ℕ → Bool) (t : Text) → pieces_units (slice_split p t) ≡ 1 + length t
split_units p [] = refl
split_units p (b ∷ t) = omega (arith, units_at (p b) b (slice_split p t) (some_pieces p t), split_units p t)

texts_units : (m : ℕ) (ts : List Text) → fold ◌+◌ m (map units (map v.Text ts)) ≡ m + pieces_units ts
texts_units m [] = omega arith
texts_units m (t ∷ ts) = omega (arith, texts_units (m + units (v.Text t)) ts, units-Text t)

texts_levels : (m : ℕ) (ts : List Text) → m ≤ 1 → fold max m (map levels (map v.Text ts)) ≤ 1
texts_levels m [] h = h
texts_levels m (t ∷ ts) h = texts_levels (max m (levels (v.Text t))) ts (omega (arith, levels-Text t))

split_test : (u l n m : ℕ) → u ≡ 2 + n → l ≤ 2 → m ≡ min (n + 1) (2 ^ 64 - 1) → (nat_le u max_units && nat_le l max_levels) ≡ nat_le (1 + m) max_units
split_test u l n m h k e = grind (arith, nat_tests)

abbrev pieces_of : (by : ℕ) (t : Text) → List Value
pieces_of by t = map v.Text (slice_split (λ c. nat_eq c by) t)

fits_split : (by : ℕ) (t : Text) (m : ℕ) → m ≡ min (length t + 1) (2 ^ 64 - 1) → fits (v.List (pieces_of by t)) ≡ nat_le (1 + m) max_units
fits_split by t m e =
    let ts = slice_split (λ c. nat_eq c by) t in
    split_test (units (v.List (map v.Text ts))) (levels (v.List (map v.Text ts))) (length t) m (omega (arith, units-List (map v.Text ts), texts_units 0 ts, split_units (λ c. nat_eq c by) t)) (omega (arith, levels-List (map v.Text ts), texts_levels 0 ts (omega arith))) e

pub split_past : (by : ℕ) (t : Text) (m : ℕ) → m ≡ min (length t + 1) (2 ^ 64 - 1) → nat_le (1 + m) max_units ≡ false → limited (v.List (map v.Text (slice_split (λ c. nat_eq c by) t))) ≡ Throw x.SizeError
split_past by t m e h = past_limits (v.List (pieces_of by t)) (fits_split by t m e ∙ h)

pub split_given : (by : ℕ) (t : Text) (m : ℕ) → m ≡ min (length t + 1) (2 ^ 64 - 1) → nat_le (1 + m) max_units ≡ true → IsGiven (limited (v.List (map v.Text (slice_split (λ c. nat_eq c by) t))))
split_given by t m e h = is_given (v.List (pieces_of by t)) (fits_split by t m e ∙ h)

pub split_within : (by : ℕ) (t : Text) (m : ℕ) → m ≡ min (length t + 1) (2 ^ 64 - 1) → nat_le (1 + m) max_units ≡ true → limited (v.List (map v.Text (slice_split (λ c. nat_eq c by) t))) ≡ Give (v.List (map v.Text (slice_split (λ c. nat_eq c by) t)))
split_within by t m e h = given_limited (v.List (pieces_of by t)) (split_given by t m e h)

pub ruleset limit_rules = (split_past, split_given, split_within)
