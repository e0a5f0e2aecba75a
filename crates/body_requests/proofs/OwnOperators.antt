-- What operators and built-ins throw is of the body's own.
use Rattle.std.proofs.Common.{ℕ, Bool, true, false, not, if◌then◌else◌, List, [], ◌∷◌, ◌++◌, length, Option, Some, None, slice_get, ℤ, pos, negsuc}
use Rattle.std.specs.Prelude.{nat_lt, nat_le, ◌&&◌, int_div, int_rem, ◌+ℤ◌, ◌-ℤ◌, ◌*ℤ◌, neg_ℤ}
use Rattle.flow_base.specs.declared.value.Value.{Value, out-Value}
use Rattle.flow_base.specs.declared.value.Value.TheOpen.{Value-F}
use Rattle.flow_base.specs.declared.value.Value.TheVariants as v
use Rattle.flow_base.specs.declared.outcome.Exception.TheVariants as x
use Rattle.flow_base.specs.Values.{fits}
use Rattle.script_tree.specs.declared.tree.CompareOp.{CompareOp}
use Rattle.script_tree.specs.declared.tree.CompareOp.TheVariants as by
use Rattle.script_tree.specs.declared.tree.SumOp.{SumOp}
use Rattle.script_tree.specs.declared.tree.SumOp.TheVariants.{Plus, Minus}
use Rattle.script_tree.specs.declared.tree.TermOp.{TermOp}
use Rattle.script_tree.specs.declared.tree.TermOp.TheVariants.{Times, Over, Rest}
use Rattle.script_tree.specs.declared.tree.BuiltIn.{BuiltIn}
use Rattle.script_tree.specs.declared.tree.BuiltIn.TheVariants as b
use Rattle.flow_meaning.specs.declared.walk.Answer.{Answer}
use Rattle.flow_meaning.specs.declared.walk.Answer.TheVariants as answer
use Rattle.flow_meaning.specs.Act.{Act, Throw}
use Rattle.flow_meaning.specs.Operators.{Layer, Text, limited, fits_int, int, is_zero, an_int, a_text, a_list, int_of, text_of, list_of, truth_of, plus, minus, added, int_term, multiplied, negated, less, by_order, compared, place_in, text_item, item_at, indexed, ends_in, len, sliced, the_number, number_in, split_at, texts_from, texts_of, file_name, file_content, output_of}
use Rattle.flow_meaning.specs.Operators as operators
use Rattle.flow_meaning.specs.Told.{result_of, exception_of, called_value, awaited_value, awaited_name, awaits}
use Rattle.flow_meaning.specs.Meaning.{applied_to, applied}
use Rattle.body_requests.proofs.OwnExceptions.{IsDry, Own, own_then, own_if}

-- ---- operators

pub own_limited : (value : Value) → Own (limited value)
own_limited value = own_if (fits value) value x.SizeError tt

own_int : (n : ℤ) → Own (int n)
own_int n = own_if (fits_int n) (v.Int n) x.OverflowError tt

own_an_int : (l : Layer) → Own (an_int l)
own_an_int (Value-F.Int n) = tt
own_an_int _ = tt

own_a_text : (l : Layer) → Own (a_text l)
own_a_text (Value-F.Text t) = tt
own_a_text _ = tt

own_a_list : (l : Layer) → Own (a_list l)
own_a_list (Value-F.List vs) = tt
own_a_list _ = tt

pub own_int_of : (value : Value) → Own (int_of value)
unfolding int_of
own_int_of value = own_an_int (out-Value value)

pub own_text_of : (value : Value) → Own (text_of value)
unfolding text_of
own_text_of value = own_a_text (out-Value value)

pub own_list_of : (value : Value) → Own (list_of value)
unfolding list_of
own_list_of value = own_a_list (out-Value value)

pub own_truth_of : (value : Value) → Own (truth_of value)
unfolding truth_of
own_truth_of value = own_then (int_of value) _ (own_int_of value) (λ n. tt)

own_plus : (l m : Layer) → Own (plus l m)
own_plus (Value-F.Int a) (Value-F.Int c) = own_int (a +ℤ c)
own_plus (Value-F.Text a) (Value-F.Text c) = own_limited (v.Text (a ++ c))
own_plus (Value-F.List us) (Value-F.List ws) = own_limited (v.List (us ++ ws))
own_plus _ _ = tt

own_minus : (l m : Layer) → Own (minus l m)
own_minus (Value-F.Int a) (Value-F.Int c) = own_int (a -ℤ c)
own_minus _ _ = tt

pub own_added : (op : SumOp) (a c : Value) → Own (added op a c)
unfolding added
own_added Plus a c = own_plus (out-Value a) (out-Value c)
own_added Minus a c = own_minus (out-Value a) (out-Value c)

own_unless_zero : (t : Bool) (n : ℤ) → Own (if t then Throw x.ZeroDivisionError else int n)
own_unless_zero true n = tt
own_unless_zero false n = own_int n

own_int_term : (op : TermOp) (a c : ℤ) → Own (int_term op a c)
own_int_term Times a c = own_int (a *ℤ c)
own_int_term Over a c = own_unless_zero (is_zero c) (int_div a c)
own_int_term Rest a c = own_unless_zero (is_zero c) (int_rem a c)

pub own_multiplied : (op : TermOp) (a c : Value) → Own (multiplied op a c)
unfolding multiplied
own_multiplied op a c = own_then (int_of a) _ (own_int_of a) (λ m. own_then (int_of c) _ (own_int_of c) (λ n. own_int_term op m n))

pub own_negated : (a : Value) → Own (negated a)
unfolding negated
own_negated a = own_then (int_of a) _ (own_int_of a) (λ n. own_int (neg_ℤ n))

own_less : (l m : Layer) → Own (less l m)
own_less (Value-F.Int a) (Value-F.Int c) = tt
own_less (Value-F.Text a) (Value-F.Text c) = tt
own_less _ _ = tt

own_by_order : (a c : Value) (f : Bool → Bool) → Own (by_order a c f)
own_by_order a c f = own_then (less (out-Value a) (out-Value c)) _ (own_less (out-Value a) (out-Value c)) (λ l. tt)

pub own_compared : (op : CompareOp) (a c : Value) → Own (compared op a c)
unfolding compared
own_compared by.Equal a c = tt
own_compared by.Differ a c = tt
own_compared by.Less a c = own_by_order a c (λ l. l)
own_compared by.AtLeast a c = own_by_order a c not
own_compared by.Greater a c = own_by_order c a (λ l. l)
own_compared by.AtMost a c = own_by_order c a not

own_place : (i : ℤ) (n : ℕ) → Own (place_in i n)
own_place (pos i) n = own_if (nat_lt i n) i x.IndexError tt
own_place (negsuc i) n = tt

own_item : (o : Option Value) → Own (operators.got o)
own_item (Some value) = tt
own_item None = tt

own_text_item : (o : Option ℕ) → Own (text_item o)
own_text_item (Some c) = tt
own_text_item None = tt

own_item_at : (l m : Layer) → Own (item_at l m)
own_item_at (Value-F.List vs) (Value-F.Int i) = own_then (place_in i (length vs)) _ (own_place i (length vs)) (λ k. own_item (slice_get vs k))
own_item_at (Value-F.Text t) (Value-F.Int i) = own_then (place_in i (length t)) _ (own_place i (length t)) (λ k. own_text_item (slice_get t k))
own_item_at _ _ = tt

pub own_indexed : (a i : Value) → Own (indexed a i)
unfolding indexed
own_indexed a i = own_item_at (out-Value a) (out-Value i)

own_ends : (a c : ℤ) (n : ℕ) → Own (ends_in a c n)
own_ends (pos a) (pos c) n = own_if (nat_le a c && nat_le c n) (a, c) x.IndexError tt
own_ends (pos a) (negsuc c) n = tt
own_ends (negsuc a) c n = tt

own_len : (l : Layer) → Own (len l)
own_len (Value-F.Text t) = tt
own_len (Value-F.List vs) = tt
own_len _ = tt

own_sliced : (l a c : Layer) → Own (sliced l a c)
own_sliced (Value-F.Text t) (Value-F.Int a) (Value-F.Int c) = own_then (ends_in a c (length t)) _ (own_ends a c (length t)) (λ e. tt)
own_sliced (Value-F.List vs) (Value-F.Int a) (Value-F.Int c) = own_then (ends_in a c (length vs)) _ (own_ends a c (length vs)) (λ e. tt)
own_sliced _ _ _ = tt

own_number : (n : Option ℤ) → Own (the_number n)
own_number (Some n) = own_int n
own_number None = tt

own_split : (t s : Text) → Own (split_at t s)
own_split t [] = tt
own_split t (c ∷ []) = own_limited _
own_split t (c ∷ d ∷ s) = tt

own_texts_from : (given : List Text) (vs : List Value) → Own (texts_from given vs)
own_texts_from given [] = tt
own_texts_from given (w ∷ vs) = own_then (text_of w) _ (own_text_of w) (λ t. own_texts_from (given ++ t ∷ []) vs)

pub own_texts_of : (vs : List Value) → Own (texts_of vs)
own_texts_of vs = own_texts_from [] vs

own_file_name : (l : Layer) → Own (file_name l)
own_file_name (Value-F.File name content) = tt
own_file_name _ = tt

own_file_content : (l : Layer) → Own (file_content l)
own_file_content (Value-F.File name content) = tt
own_file_content _ = tt

own_output_of : (l m : Layer) → Own (output_of l m)
own_output_of (Value-F.Future path outputs) (Value-F.Int i) = own_then (place_in i outputs) _ (own_place i outputs) (λ k. tt)
own_output_of _ _ = tt

own_awaits : (l : Layer) (a : Act Value) → Own a → Own (awaits l a)
own_awaits (Value-F.Future path outputs) a h = h
own_awaits (Value-F.Output path index) a h = h
own_awaits _ a h = tt

own_awaited_value : (l : Layer) (a : Answer) → IsDry a → Own (awaited_value l a)
own_awaited_value l (answer.Outcome outcome) dry = absurd dry
own_awaited_value l (answer.Called future) dry = tt
own_awaited_value l answer.Go dry = tt

own_awaited_name : (a : Answer) → IsDry a → Own (awaited_name a)
own_awaited_name (answer.Outcome outcome) dry = tt
own_awaited_name (answer.Called future) dry = tt
own_awaited_name answer.Go dry = tt

pub own_called_value : (a : Answer) → IsDry a → Own (called_value a)
own_called_value (answer.Outcome outcome) dry = tt
own_called_value (answer.Called future) dry = tt
own_called_value answer.Go dry = tt

own_result_of : (f : Value) → Own (result_of f)
unfolding result_of
own_result_of f = own_awaits (out-Value f) _ (own_awaited_value (out-Value f))

own_exception_of : (f : Value) → Own (exception_of f)
unfolding exception_of
own_exception_of f = own_awaits (out-Value f) _ own_awaited_name

-- ---- built-ins

own_applied_to : (built_in : BuiltIn) (vs : List Value) → Own (applied_to built_in vs)
own_applied_to b.Len (a ∷ []) = own_len (out-Value a)
own_applied_to b.Text (a ∷ []) = own_then (int_of a) _ (own_int_of a) (λ n. tt)
own_applied_to b.Number (a ∷ []) = own_then (text_of a) _ (own_text_of a) (λ t. own_number (number_in t))
own_applied_to b.Slice (a ∷ from ∷ to ∷ []) = own_sliced (out-Value a) (out-Value from) (out-Value to)
own_applied_to b.Range (a ∷ to ∷ []) = own_then (int_of a) _ (own_int_of a) (λ from. own_then (int_of to) _ (own_int_of to) (λ below. own_limited _))
own_applied_to b.Append (a ∷ item ∷ []) = own_then (list_of a) _ (own_list_of a) (λ vs. own_limited _)
own_applied_to b.Split (a ∷ with ∷ []) = own_then (text_of a) _ (own_text_of a) (λ t. own_then (text_of with) _ (own_text_of with) (λ s. own_split t s))
own_applied_to b.Concat (a ∷ with ∷ []) = own_then (list_of a) _ (own_list_of a) (λ vs. own_then (texts_of vs) _ (own_texts_of vs) (λ ts. own_then (text_of with) _ (own_text_of with) (λ s. own_limited _)))
own_applied_to b.File (a ∷ with ∷ []) = own_then (text_of a) _ (own_text_of a) (λ name. own_then (text_of with) _ (own_text_of with) (λ content. own_limited _))
own_applied_to b.Name (f ∷ []) = own_file_name (out-Value f)
own_applied_to b.Content (f ∷ []) = own_file_content (out-Value f)
own_applied_to b.Output (f ∷ i ∷ []) = own_output_of (out-Value f) (out-Value i)
own_applied_to b.Result (f ∷ []) = own_result_of f
own_applied_to b.Exception (f ∷ []) = own_exception_of f
own_applied_to _ _ = tt

pub own_applied : (o : Option BuiltIn) (vs : List Value) → Own (applied o vs)
own_applied (Some built_in) vs = own_applied_to built_in vs
own_applied None vs = tt
