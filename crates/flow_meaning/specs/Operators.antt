-- The operators and the built-ins, on values.
use Rattle.std.specs.Prelude.{ℕ, zero, suc, ◌+◌, ◌-◌, ◌*◌, ◌^◌, Bool, true, false, not, ◌&&◌, ◌||◌, if◌then◌else◌, List, [], ◌∷◌, ◌++◌, length, take, drop, map, fold, Option, Some, None, nat_eq, nat_lt, nat_le, slice_get, ℤ, pos, negsuc, ◌+ℤ◌, ◌-ℤ◌, ◌*ℤ◌, neg_ℤ, int_lt, int_le, int_div, int_rem, decimal}
use Rattle.std.specs.List.{slice_split, list_all}
use Rattle.std.specs.Char.{is_ascii_digit}
use Rattle.flow_base.specs.declared.value.Value.{Value, out-Value}
use Rattle.flow_base.specs.declared.value.Value.TheOpen.{Value-F}
use Rattle.flow_base.specs.declared.value.Value.TheVariants as v
use Rattle.flow_base.specs.declared.outcome.Exception.TheVariants as x
use Rattle.flow_base.specs.Values.{fits, same}
use Rattle.script_tree.specs.declared.tree.CompareOp.{CompareOp}
use Rattle.script_tree.specs.declared.tree.CompareOp.TheVariants as by
use Rattle.script_tree.specs.declared.tree.SumOp.{SumOp}
use Rattle.script_tree.specs.declared.tree.SumOp.TheVariants.{Plus, Minus}
use Rattle.script_tree.specs.declared.tree.TermOp.{TermOp}
use Rattle.script_tree.specs.declared.tree.TermOp.TheVariants.{Times, Over, Rest}
use Rattle.flow_meaning.specs.Act.{Act, Give, Throw, ◌>>=◌}

-- One level of a value, as `out-Value` opens it.
abbrev pub Layer : Type 0
Layer = Value-F Value

abbrev pub Text : Type 0
Text = List ℕ

-- a value, unless it is past the limits
abbrev pub limited : Value → Act Value
limited v = if fits v then Give v else Throw x.SizeError

-- an Int, unless it leaves 64 bits
abbrev pub fits_int : ℤ → Bool
fits_int n = int_le (negsuc (2 ^ 63 - 1)) n && int_le n (pos (2 ^ 63 - 1))

abbrev pub int : ℤ → Act Value
int n = if fits_int n then Give (v.Int n) else Throw x.OverflowError

abbrev pub truth : Bool → Value
truth true = v.Int (pos 1)
truth false = v.Int (pos 0)

abbrev pub is_zero : ℤ → Bool
is_zero (pos zero) = true
is_zero _ = false

-- ---- the parts of a value, or TypeError

abbrev pub an_int : Layer → Act ℤ
an_int (Value-F.Int n) = Give n
an_int _ = Throw x.TypeError

abbrev pub a_text : Layer → Act Text
a_text (Value-F.Text t) = Give t
a_text _ = Throw x.TypeError

abbrev pub a_list : Layer → Act (List Value)
a_list (Value-F.List vs) = Give vs
a_list _ = Throw x.TypeError

unfoldable pub int_of : Value → Act ℤ
int_of v = an_int (out-Value v)

unfoldable pub text_of : Value → Act Text
text_of v = a_text (out-Value v)

unfoldable pub list_of : Value → Act (List Value)
list_of v = a_list (out-Value v)

-- whether a condition holds
unfoldable pub truth_of : Value → Act Bool
truth_of v = int_of v >>= λ n. Give (not (is_zero n))

-- ---- operators

-- the sum of two Ints, and two texts or lists joined
abbrev pub plus : Layer → Layer → Act Value
plus (Value-F.Int a) (Value-F.Int b) = int (a +ℤ b)
plus (Value-F.Text a) (Value-F.Text b) = limited (v.Text (a ++ b))
plus (Value-F.List us) (Value-F.List ws) = limited (v.List (us ++ ws))
plus _ _ = Throw x.TypeError

abbrev pub minus : Layer → Layer → Act Value
minus (Value-F.Int a) (Value-F.Int b) = int (a -ℤ b)
minus _ _ = Throw x.TypeError

unfoldable pub added : SumOp → Value → Value → Act Value
added Plus a b = plus (out-Value a) (out-Value b)
added Minus a b = minus (out-Value a) (out-Value b)

-- division goes toward zero
abbrev pub int_term : TermOp → ℤ → ℤ → Act Value
int_term Times a b = int (a *ℤ b)
int_term Over a b = if is_zero b then Throw x.ZeroDivisionError else int (int_div a b)
int_term Rest a b = if is_zero b then Throw x.ZeroDivisionError else int (int_rem a b)

unfoldable pub multiplied : TermOp → Value → Value → Act Value
multiplied op a b = do
  m ← int_of a
  n ← int_of b
  int_term op m n

unfoldable pub negated : Value → Act Value
negated a = int_of a >>= λ n. int (neg_ℤ n)

-- the first byte in which they differ decides, and else the shorter is less
abbrev pub text_lt : Text → Text → Bool
text_lt _ [] = false
text_lt [] (b ∷ t) = true
text_lt (a ∷ s) (b ∷ t) = nat_lt a b || (nat_eq a b && text_lt s t)

abbrev pub less : Layer → Layer → Act Bool
less (Value-F.Int a) (Value-F.Int b) = Give (int_lt a b)
less (Value-F.Text a) (Value-F.Text b) = Give (text_lt a b)
less _ _ = Throw x.TypeError

abbrev pub by_order : Value → Value → (Bool → Bool) → Act Value
by_order a b f = less (out-Value a) (out-Value b) >>= λ is_less. Give (truth (f is_less))

unfoldable pub compared : CompareOp → Value → Value → Act Value
compared by.Equal a b = Give (truth (same a b))
compared by.Differ a b = Give (truth (not (same a b)))
compared by.Less a b = by_order a b (λ l. l)
compared by.AtLeast a b = by_order a b not
compared by.Greater a b = by_order b a (λ l. l)
compared by.AtMost a b = by_order b a not

-- the place that an Int names among n, counted from 0
abbrev pub place_in : ℤ → ℕ → Act ℕ
place_in (pos i) n = if nat_lt i n then Give i else Throw x.IndexError
place_in (negsuc i) n = Throw x.IndexError

abbrev pub got : Option Value → Act Value
got (Some v) = Give v
got None = Throw x.IndexError

abbrev pub text_item : Option ℕ → Act Value
text_item (Some b) = Give (v.Text (b ∷ []))
text_item None = Throw x.IndexError

abbrev pub item_at : Layer → Layer → Act Value
item_at (Value-F.List vs) (Value-F.Int i) = place_in i (length vs) >>= λ k. got (slice_get vs k)
item_at (Value-F.Text t) (Value-F.Int i) = place_in i (length t) >>= λ k. text_item (slice_get t k)
item_at _ _ = Throw x.TypeError

unfoldable pub indexed : Value → Value → Act Value
indexed a i = item_at (out-Value a) (out-Value i)

-- ---- built-ins

-- the two ends of a part of n things
abbrev pub ends_in : ℤ → ℤ → ℕ → Act (ℕ × ℕ)
ends_in (pos a) (pos b) n = if nat_le a b && nat_le b n then Give (a, b) else Throw x.IndexError
ends_in _ _ n = Throw x.IndexError

abbrev pub part : {A : Type 0} → List A → ℕ × ℕ → List A
part xs ends = take (ends.1 - ends.0) (drop ends.0 xs)

abbrev pub len : Layer → Act Value
len (Value-F.Text t) = Give (v.Int (pos (length t)))
len (Value-F.List vs) = Give (v.Int (pos (length vs)))
len _ = Throw x.TypeError

abbrev pub sliced : Layer → Layer → Layer → Act Value
sliced (Value-F.Text t) (Value-F.Int a) (Value-F.Int b) = ends_in a b (length t) >>= λ e. Give (v.Text (part t e))
sliced (Value-F.List vs) (Value-F.Int a) (Value-F.Int b) = ends_in a b (length vs) >>= λ e. Give (v.List (part vs e))
sliced _ _ _ = Throw x.TypeError

-- the decimal text of an Int
abbrev pub int_text : ℤ → Text
int_text (pos n) = decimal n
int_text (negsuc n) = 45 ∷ decimal (suc n)

-- the number that digits spell
abbrev pub digits_value : Text → ℕ
digits_value = fold (λ n d. 10 * n + (d - 48)) 0

abbrev pub natural : Text → Option ℕ
natural [] = None
natural (d ∷ ds) = if list_all is_ascii_digit (d ∷ ds) then Some (digits_value (d ∷ ds)) else None

abbrev pub negative : Option ℕ → Option ℤ
negative (Some n) = Some (neg_ℤ (pos n))
negative None = None

abbrev pub positive : Option ℕ → Option ℤ
positive (Some n) = Some (pos n)
positive None = None

abbrev pub number_in : Text → Option ℤ
number_in [] = None
number_in (b ∷ bs) = if nat_eq b 45 then negative (natural bs) else positive (natural (b ∷ bs))

abbrev pub the_number : Option ℤ → Act Value
the_number (Some n) = int n
the_number None = Throw x.ValueError

-- the Ints from a on, as many as n
abbrev pub ints_from : ℤ → ℕ → List Value
ints_from a zero = []
ints_from a (suc n) = v.Int a ∷ ints_from (a +ℤ pos 1) n

abbrev pub count_between : ℤ → ℕ
count_between (pos n) = n
count_between (negsuc n) = 0

abbrev pub split_at : Text → Text → Act Value
split_at t (b ∷ []) = limited (v.List (map v.Text (slice_split (λ c. nat_eq c b) t)))
split_at t _ = Throw x.ValueError

-- the texts with s between them
abbrev pub joined : Text → List Text → Text
joined s [] = []
joined s (t ∷ []) = t
joined s (t ∷ u ∷ ts) = t ++ (s ++ joined s (u ∷ ts))

-- the texts of a list, behind those that are read
abbrev pub texts_from : List Text → List Value → Act (List Text)
texts_from given [] = Give given
texts_from given (v ∷ vs) = text_of v >>= λ t. texts_from (given ++ t ∷ []) vs

abbrev pub texts_of : List Value → Act (List Text)
texts_of = texts_from []

abbrev pub file_name : Layer → Act Value
file_name (Value-F.File name content) = Give (v.Text name)
file_name _ = Throw x.TypeError

abbrev pub file_content : Layer → Act Value
file_content (Value-F.File name content) = Give (v.Text content)
file_content _ = Throw x.TypeError

abbrev pub output_of : Layer → Layer → Act Value
output_of (Value-F.Future path outputs) (Value-F.Int i) = place_in i outputs >>= λ k. Give (v.Output path k)
output_of _ _ = Throw x.TypeError
