-- What operators and built-ins give, of values with a fact that stays.
use Rattle.std.proofs.Common.{◌≡◌, ℕ, zero, suc, ◌+◌, ◌<◌, Bool, true, false, not, if◌then◌else◌, List, [], ◌∷◌, ◌++◌, length, map, Option, Some, None, slice_get, sym, subst, arith, ℤ, pos, negsuc}
use Rattle.std.proofs.Common.{length-append}
use Rattle.std.proofs.lemmas.Bool.{leb-true}
use Rattle.std.specs.Prelude.{nat_eq, nat_lt, nat_le, ◌&&◌, int_div, int_rem, ◌+ℤ◌, ◌-ℤ◌, ◌*ℤ◌, neg_ℤ}
use Rattle.std.specs.List.{slice_split}
use Rattle.flow_base.specs.declared.value.Value.{Value, out-Value, roll-Value, roll-out-Value}
use Rattle.flow_base.specs.declared.value.Value.TheOpen.{Value-F}
use Rattle.flow_base.specs.declared.value.Value.TheVariants as v
use Rattle.flow_base.specs.declared.outcome.Exception.TheVariants as x
use Rattle.flow_base.specs.Values.{fits, same}
use Rattle.script_tree.specs.declared.tree.CompareOp.{CompareOp}
use Rattle.script_tree.specs.declared.tree.CompareOp.TheVariants as by
use Rattle.script_tree.specs.declared.tree.SumOp.{SumOp}
use Rattle.script_tree.specs.declared.tree.SumOp.TheVariants.{Plus, Minus}
use Rattle.script_tree.specs.declared.tree.TermOp.{TermOp}
use Rattle.script_tree.specs.declared.tree.TermOp.TheVariants.{Times, Over, Rest}
use Rattle.flow_meaning.specs.Act.{Throw}
use Rattle.flow_meaning.specs.Operators.{Layer, Text, limited, fits_int, int, truth, is_zero, an_int, a_text, a_list, int_of, text_of, list_of, truth_of, plus, minus, added, int_term, multiplied, negated, less, by_order, compared, place_in, got, text_item, item_at, indexed, ends_in, part, len, sliced, int_text, the_number, ints_from, split_at, texts_from, texts_of, file_name, file_content, output_of}
use Rattle.body_requests.specs.Asks.{Each}
use Rattle.body_requests.proofs.Acts.{each_append, Gives, gives_then, gives_if, gives_more}

-- A fact of values that the operators keep: it holds of one level where it holds of what stands in it.
pub record Closed (G : Value → Type 0) : Type 0 where
  pub int : (n : ℤ) → G (v.Int n)
  pub nothing : G v.Nothing
  pub text : (t : Text) → fits (v.Text t) ≡ true → G (v.Text t)
  pub byte : (b : ℕ) → G (v.Text (b ∷ []))
  pub text_part : (t : Text) (e : ℕ × ℕ) → G (v.Text t) → G (v.Text (part t e))
  pub digits : (n : ℤ) → G (v.Int n) → G (v.Text (int_text n))
  pub file : (name content : Text) → fits (v.File name content) ≡ true → G (v.File name content)
  pub name : (name content : Text) → G (v.File name content) → G (v.Text name)
  pub content : (name content : Text) → G (v.File name content) → G (v.Text content)
  pub list : (vs : List Value) → Each G vs → fits (v.List vs) ≡ true → G (v.List vs)
  pub items : (vs : List Value) → G (v.List vs) → Each G vs
  pub list_part : (vs : List Value) (e : ℕ × ℕ) → G (v.List vs) → G (v.List (part vs e))
  pub texts : (ts : List Text) → fits (v.List (map v.Text ts)) ≡ true → G (v.List (map v.Text ts))
  pub output : (path : List ℕ) (outputs k : ℕ) → k < outputs → G (v.Future path outputs) → G (v.Output path k)

module _ (G : Value → Type 0) (closed : Closed G) where
  -- of a level
  abbrev pub Has : Layer → Type 0
  Has l = G (roll-Value l)

  pub has : (value : Value) → G value → Has (out-Value value)
  has value h = subst G (sym (roll-out-Value value)) h

  text_has : (t : Text) → Has (Value-F.Text t) → G (v.Text t)
  text_has t h = subst G (v.rolls-Text t) h

  list_has : (vs : List Value) → Has (Value-F.List vs) → G (v.List vs)
  list_has vs h = subst G (v.rolls-List vs) h

  int_has : (n : ℤ) → Has (Value-F.Int n) → G (v.Int n)
  int_has n h = subst G (v.rolls-Int n) h

  file_has : (name content : Text) → Has (Value-F.File name content) → G (v.File name content)
  file_has name content h = subst G (v.rolls-File name content) h

  future_has : (path : List ℕ) (outputs : ℕ) → Has (Value-F.Future path outputs) → G (v.Future path outputs)
  future_has path outputs h = subst G (v.rolls-Future path outputs) h

  -- ---- parts

  pub limited_gives : (value : Value) → (fits value ≡ true → G value) → Gives G (limited value)
  limited_gives value h = gives_if G (fits value) value x.SizeError h

  pub int_gives : (n : ℤ) → Gives G (int n)
  int_gives n = gives_if G (fits_int n) (v.Int n) x.OverflowError (λ _. closed.int n)

  pub truth_has : (b : Bool) → G (truth b)
  truth_has true = closed.int (pos 1)
  truth_has false = closed.int (pos 0)

  an_int_gives : (l : Layer) → Has l → Gives (λ n. G (v.Int n)) (an_int l)
  an_int_gives (Value-F.Int n) h = int_has n h
  an_int_gives (Value-F.Text t) h = tt
  an_int_gives (Value-F.List vs) h = tt
  an_int_gives (Value-F.File name content) h = tt
  an_int_gives (Value-F.Future path outputs) h = tt
  an_int_gives (Value-F.Output path index) h = tt
  an_int_gives Value-F.Nothing h = tt

  a_text_gives : (l : Layer) → Has l → Gives (λ t. G (v.Text t)) (a_text l)
  a_text_gives (Value-F.Int n) h = tt
  a_text_gives (Value-F.Text t) h = text_has t h
  a_text_gives (Value-F.List vs) h = tt
  a_text_gives (Value-F.File name content) h = tt
  a_text_gives (Value-F.Future path outputs) h = tt
  a_text_gives (Value-F.Output path index) h = tt
  a_text_gives Value-F.Nothing h = tt

  a_list_gives : (l : Layer) → Has l → Gives (λ vs. G (v.List vs)) (a_list l)
  a_list_gives (Value-F.Int n) h = tt
  a_list_gives (Value-F.Text t) h = tt
  a_list_gives (Value-F.List vs) h = list_has vs h
  a_list_gives (Value-F.File name content) h = tt
  a_list_gives (Value-F.Future path outputs) h = tt
  a_list_gives (Value-F.Output path index) h = tt
  a_list_gives Value-F.Nothing h = tt

  pub int_of_gives : (value : Value) → G value → Gives (λ n. G (v.Int n)) (int_of value)
  unfolding int_of
  int_of_gives value h = an_int_gives (out-Value value) (has value h)

  pub text_of_gives : (value : Value) → G value → Gives (λ t. G (v.Text t)) (text_of value)
  unfolding text_of
  text_of_gives value h = a_text_gives (out-Value value) (has value h)

  pub list_of_gives : (value : Value) → G value → Gives (λ vs. G (v.List vs)) (list_of value)
  unfolding list_of
  list_of_gives value h = a_list_gives (out-Value value) (has value h)

  pub truth_of_gives : (value : Value) → G value → Gives (λ b. Unit {0}) (truth_of value)
  unfolding truth_of
  truth_of_gives value h = gives_then (λ n. G (v.Int n)) _ (int_of value) _ (int_of_gives value h) (λ n k. tt)

  -- ---- operators

  plus_gives : (l m : Layer) → Has l → Has m → Gives G (plus l m)
  plus_gives (Value-F.Int a) (Value-F.Int b) h k = int_gives (a +ℤ b)
  plus_gives (Value-F.Text a) (Value-F.Text b) h k = limited_gives (v.Text (a ++ b)) (closed.text (a ++ b))
  plus_gives (Value-F.List us) (Value-F.List ws) h k = limited_gives (v.List (us ++ ws)) (closed.list (us ++ ws) (each_append G us ws (closed.items us (list_has us h)) (closed.items ws (list_has ws k))))
  plus_gives _ _ h k = tt

  minus_gives : (l m : Layer) → Gives G (minus l m)
  minus_gives (Value-F.Int a) (Value-F.Int b) = int_gives (a -ℤ b)
  minus_gives _ _ = tt

  pub added_gives : (op : SumOp) (a b : Value) → G a → G b → Gives G (added op a b)
  unfolding added
  added_gives Plus a b h k = plus_gives (out-Value a) (out-Value b) (has a h) (has b k)
  added_gives Minus a b h k = minus_gives (out-Value a) (out-Value b)

  if_zero_gives : (b : Bool) (n : ℤ) → Gives G (if b then Throw x.ZeroDivisionError else int n)
  if_zero_gives true n = tt
  if_zero_gives false n = int_gives n

  int_term_gives : (op : TermOp) (a b : ℤ) → Gives G (int_term op a b)
  int_term_gives Times a b = int_gives (a *ℤ b)
  int_term_gives Over a b = if_zero_gives (is_zero b) (int_div a b)
  int_term_gives Rest a b = if_zero_gives (is_zero b) (int_rem a b)

  pub multiplied_gives : (op : TermOp) (a b : Value) → G a → G b → Gives G (multiplied op a b)
  unfolding multiplied
  multiplied_gives op a b h k = gives_then (λ n. G (v.Int n)) G (int_of a) _ (int_of_gives a h) (λ m _. gives_then (λ n. G (v.Int n)) G (int_of b) _ (int_of_gives b k) (λ n _. int_term_gives op m n))

  pub negated_gives : (a : Value) → G a → Gives G (negated a)
  unfolding negated
  negated_gives a h = gives_then (λ n. G (v.Int n)) G (int_of a) _ (int_of_gives a h) (λ n _. int_gives (neg_ℤ n))

  less_gives : (l m : Layer) → Gives (λ b. Unit {0}) (less l m)
  less_gives (Value-F.Int a) (Value-F.Int b) = tt
  less_gives (Value-F.Text a) (Value-F.Text b) = tt
  less_gives _ _ = tt

  by_order_gives : (a b : Value) (f : Bool → Bool) → Gives G (by_order a b f)
  by_order_gives a b f = gives_then (λ b. Unit {0}) G (less (out-Value a) (out-Value b)) _ (less_gives (out-Value a) (out-Value b)) (λ l _. truth_has (f l))

  pub compared_gives : (op : CompareOp) (a b : Value) → Gives G (compared op a b)
  unfolding compared
  compared_gives by.Equal a b = truth_has (same a b)
  compared_gives by.Differ a b = truth_has (not (same a b))
  compared_gives by.Less a b = by_order_gives a b (λ l. l)
  compared_gives by.AtLeast a b = by_order_gives a b not
  compared_gives by.Greater a b = by_order_gives b a (λ l. l)
  compared_gives by.AtMost a b = by_order_gives b a not

  place_gives : (i : ℤ) (n : ℕ) → Gives (λ k. k < n) (place_in i n)
  place_gives (pos i) n = gives_if (λ k. k < n) (nat_lt i n) i x.IndexError (λ is. leb-true (suc i) n is)
  place_gives (negsuc i) n = tt

  got_gives : (vs : List Value) (k : ℕ) → Each G vs → Gives G (got (slice_get vs k))
  got_gives [] k h = tt
  got_gives (w ∷ vs) zero h = h.0
  got_gives (w ∷ vs) (suc k) h = got_gives vs k h.1

  text_item_gives : (o : Option ℕ) → Gives G (text_item o)
  text_item_gives (Some b) = closed.byte b
  text_item_gives None = tt

  item_gives : (l m : Layer) → Has l → Gives G (item_at l m)
  item_gives (Value-F.List vs) (Value-F.Int i) h = gives_then (λ k. k < length vs) G (place_in i (length vs)) _ (place_gives i (length vs)) (λ k _. got_gives vs k (closed.items vs (list_has vs h)))
  item_gives (Value-F.Text t) (Value-F.Int i) h = gives_then (λ k. k < length t) G (place_in i (length t)) _ (place_gives i (length t)) (λ k _. text_item_gives (slice_get t k))
  item_gives _ _ h = tt

  pub indexed_gives : (a i : Value) → G a → Gives G (indexed a i)
  unfolding indexed
  indexed_gives a i h = item_gives (out-Value a) (out-Value i) (has a h)

  -- ---- built-ins

  ends_gives : (a b : ℤ) (n : ℕ) → Gives (λ e. Unit {0}) (ends_in a b n)
  ends_gives (pos a) (pos b) n = gives_if (λ e. Unit {0}) (nat_le a b && nat_le b n) (a, b) x.IndexError (λ _. tt)
  ends_gives (pos a) (negsuc b) n = tt
  ends_gives (negsuc a) b n = tt

  pub len_gives : (l : Layer) → Gives G (len l)
  len_gives (Value-F.Text t) = closed.int (pos (length t))
  len_gives (Value-F.List vs) = closed.int (pos (length vs))
  len_gives _ = tt

  pub sliced_gives : (l a b : Layer) → Has l → Gives G (sliced l a b)
  sliced_gives (Value-F.Text t) (Value-F.Int a) (Value-F.Int b) h = gives_then (λ e. Unit {0}) G (ends_in a b (length t)) _ (ends_gives a b (length t)) (λ e _. closed.text_part t e (text_has t h))
  sliced_gives (Value-F.List vs) (Value-F.Int a) (Value-F.Int b) h = gives_then (λ e. Unit {0}) G (ends_in a b (length vs)) _ (ends_gives a b (length vs)) (λ e _. closed.list_part vs e (list_has vs h))
  sliced_gives _ _ _ h = tt

  pub number_gives : (n : Option ℤ) → Gives G (the_number n)
  number_gives (Some n) = int_gives n
  number_gives None = tt

  pub ints_have : (a : ℤ) (n : ℕ) → Each G (ints_from a n)
  ints_have a zero = tt
  ints_have a (suc n) = (closed.int a, ints_have (a +ℤ pos 1) n)

  -- texts that stand in a list within the limits: the list is what is limited
  abbrev pub TextHas : Text → Type 0
  TextHas t = G (v.Text t)

  -- so many texts, each with the fact
  abbrev pub TextsHave : ℕ → List Text → Type 0
  TextsHave n ts = Each TextHas ts × (length ts ≡ n)

  texts_gives : (given : List Text) → Each TextHas given → (vs : List Value) → Each G vs → Gives (TextsHave (length given + length vs)) (texts_from given vs)
  texts_gives given g [] h = (g, omega arith)
  texts_gives given g (w ∷ vs) h = gives_then TextHas _ (text_of w) _ (text_of_gives w h.0) (λ t p.
      gives_more (TextsHave (length (given ++ t ∷ []) + length vs)) (TextsHave (length given + suc (length vs))) (texts_from (given ++ t ∷ []) vs) (λ ts k. (k.0, let is = k.1 in omega (arith, is, length-append given (t ∷ []))))
      (texts_gives (given ++ t ∷ []) (each_append TextHas given (t ∷ []) g (p, tt)) vs h.1))

  pub texts_of_gives : (vs : List Value) → Each G vs → Gives (TextsHave (length vs)) (texts_of vs)
  texts_of_gives vs h = gives_more (TextsHave (0 + length vs)) (TextsHave (length vs)) (texts_of vs) (λ ts k. (k.0, let is = k.1 in omega (arith, is))) (texts_gives [] tt vs h)

  pub file_name_gives : (l : Layer) → Has l → Gives G (file_name l)
  file_name_gives (Value-F.File name content) h = closed.name name content (file_has name content h)
  file_name_gives _ h = tt

  pub file_content_gives : (l : Layer) → Has l → Gives G (file_content l)
  file_content_gives (Value-F.File name content) h = closed.content name content (file_has name content h)
  file_content_gives _ h = tt

  pub output_gives : (l m : Layer) → Has l → Gives G (output_of l m)
  output_gives (Value-F.Future path outputs) (Value-F.Int i) h = gives_then (λ k. k < outputs) G (place_in i outputs) _ (place_gives i outputs) (λ k less. closed.output path outputs k less (future_has path outputs h))
  output_gives _ _ h = tt

  pub split_gives : (t s : Text) → Gives G (split_at t s)
  split_gives t [] = tt
  split_gives t (b ∷ []) = limited_gives (v.List (map v.Text (slice_split (λ c. nat_eq c b) t))) (closed.texts (slice_split (λ c. nat_eq c b) t))
  split_gives t (b ∷ c ∷ s) = tt
