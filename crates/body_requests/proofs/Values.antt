-- The paths that stand in values.
use Rattle.std.proofs.Common.{◌≡◌, ℕ, zero, suc, Bool, true, false, not, List, [], ◌∷◌, ◌++◌, map, take, drop, flat_map, refl, sym, ap, ◌∙◌, subst, arith}
use Rattle.std.specs.Prelude.{Contains, bytes_eq, filter, ◌&&◌, if◌then◌else◌}
use Rattle.std.specs.List.{list_all}
use Rattle.std.proofs.lemmas.Bool.{false≢true}
use Rattle.flow_base.specs.declared.value.Value.{Value, out-Value, roll-Value, map-Value, fold-roll-Value, roll-out-Value, ind-Value}
use Rattle.flow_base.specs.declared.value.Value.TheOpen.{Value-F}
use Rattle.flow_base.specs.declared.value.Value.TheVariants as v
use Rattle.flow_base.specs.Values.{is_plain, plain_step}
use Rattle.flow_meaning.specs.Operators.{Layer, Text, part, int_text}
use Rattle.flow_meaning.specs.Inputs.{Path, path_in, paths_in, distinct, inputs}
use Rattle.body_requests.specs.Asks.{Each, paths_step, all_paths, NamesOnly, IsPlain, IsTold, IsFuture}
use Rattle.body_requests.proofs.Acts.{each_map, each_append, each_parts}
use Rattle.body_requests.proofs.Operators.{Closed}
use Rattle.body_requests.proofs.Expressions.{IsAwaited}

abbrev paths_of : Layer → List Path
paths_of l = paths_step (map-Value Value (List Path) all_paths l)

pub all-paths-layer : (l : Layer) → all_paths (roll-Value l) ≡ paths_of l
unfolding all_paths
all-paths-layer l = fold-roll-Value (List Path) paths_step l

pub paths-out : (value : Value) → all_paths value ≡ paths_of (out-Value value)
paths-out value = ap all_paths (sym (roll-out-Value value)) ∙ all-paths-layer (out-Value value)

pub contains_front : (p : Path) (ps : List Path) → Contains (p ∷ ps) p
contains_front p ps = (0, omega arith, refl)

-- ---- parts of lists

pub each_take : {A : Type 0} (P : A → Type 0) (n : ℕ) (xs : List A) → Each P xs → Each P (take n xs)
each_take P zero xs h = tt
each_take P (suc n) [] h = tt
each_take P (suc n) (x ∷ xs) h = (h.0, each_take P n xs h.1)

pub each_drop : {A : Type 0} (P : A → Type 0) (n : ℕ) (xs : List A) → Each P xs → Each P (drop n xs)
each_drop P zero xs h = h
each_drop P (suc n) [] h = tt
each_drop P (suc n) (x ∷ xs) h = each_drop P n xs h.1

abbrev all_in : List Value → List Path
all_in vs = flat_map (λ ps. ps) (map all_paths vs)

items_name : (ps : List Path) (vs : List Value) → Each (Contains ps) (all_in vs) → Each (NamesOnly ps) vs
items_name ps [] h = tt
items_name ps (w ∷ vs) h = let both = each_parts (Contains ps) (all_paths w) (all_in vs) h in (both.0, items_name ps vs both.1)

list_names : (ps : List Path) (vs : List Value) → Each (NamesOnly ps) vs → Each (Contains ps) (all_in vs)
list_names ps [] h = tt
list_names ps (w ∷ vs) h = each_append (Contains ps) (all_paths w) (all_in vs) h.0 (list_names ps vs h.1)

module _ (ps : List Path) where
  -- by one level
  rolled : (value : Value) (l : Layer) → roll-Value l ≡ value → Each (Contains ps) (paths_of l) → NamesOnly ps value
  rolled value l is h = subst (NamesOnly ps) is (subst (Each (Contains ps)) (sym (all-paths-layer l)) h)

  opened : (value : Value) (l : Layer) → roll-Value l ≡ value → NamesOnly ps value → Each (Contains ps) (paths_of l)
  opened value l is h = subst (Each (Contains ps)) (all-paths-layer l) (subst (NamesOnly ps) (sym is) h)

  pub text_names : (t : Text) → NamesOnly ps (v.Text t)
  text_names t = rolled (v.Text t) (Value-F.Text t) (v.rolls-Text t) tt

  pub file_names : (name content : Text) → NamesOnly ps (v.File name content)
  file_names name content = rolled (v.File name content) (Value-F.File name content) (v.rolls-File name content) tt

  many_texts : (ts : List Text) → Each (NamesOnly ps) (map v.Text ts)
  many_texts [] = tt
  many_texts (t ∷ ts) = (text_names t, many_texts ts)

  pub of_list : (vs : List Value) → Each (NamesOnly ps) vs → NamesOnly ps (v.List vs)
  of_list vs h = rolled (v.List vs) (Value-F.List vs) (v.rolls-List vs) (list_names ps vs h)

  to_items : (vs : List Value) → NamesOnly ps (v.List vs) → Each (NamesOnly ps) vs
  to_items vs h = items_name ps vs (opened (v.List vs) (Value-F.List vs) (v.rolls-List vs) h)

  pub names_closed : Closed (NamesOnly ps)
  names_closed = record {
    int = λ n. rolled (v.Int n) (Value-F.Int n) (v.rolls-Int n) tt;
    nothing = rolled v.Nothing Value-F.Nothing v.rolls-Nothing tt;
    text = λ t fits. text_names t;
    byte = λ b. text_names (b ∷ []);
    text_part = λ t e h. text_names (part t e);
    digits = λ n h. text_names (int_text n);
    file = λ name content fits. file_names name content;
    name = λ name content h. text_names name;
    content = λ name content h. text_names content;
    list = λ vs h fits. of_list vs h;
    items = to_items;
    list_part = λ vs e h. of_list (part vs e) (each_take (NamesOnly ps) _ _ (each_drop (NamesOnly ps) _ _ (to_items vs h)));
    texts = λ ts fits. of_list (map v.Text ts) (many_texts ts);
    output = λ path outputs k less h. rolled (v.Output path k) (Value-F.Output path k) (v.rolls-Output path k) (opened (v.Future path outputs) (Value-F.Future path outputs) (v.rolls-Future path outputs) h);
  }

-- ---- plain values

abbrev is_nil : List Path → Bool
is_nil [] = true
is_nil (p ∷ ps) = false

abbrev PlainPaths : Value → Type 0
PlainPaths value = is_plain value ≡ is_nil (all_paths value)

abbrev KnownValue : Type 0
KnownValue = (value : Value) × PlainPaths value

abbrev values_of : List KnownValue → List Value
values_of = map (λ e. e.0)

abbrev layer_of : Value-F KnownValue → Layer
layer_of = map-Value KnownValue Value (λ e. e.0)

nil-append : (ps qs : List Path) → is_nil (ps ++ qs) ≡ (is_nil ps && is_nil qs)
nil-append [] qs = refl
nil-append (p ∷ ps) qs = refl

plain-items : (es : List KnownValue) → list_all (λ p. p) (map is_plain (values_of es)) ≡ is_nil (all_in (values_of es))
plain-items [] = refl
plain-items (e ∷ es) = (λ i. e.1 i && plain-items es i) ∙ sym (nil-append (all_paths e.0) (all_in (values_of es)))

plain-layer : (y : Value-F KnownValue) → plain_step (map-Value Value Bool is_plain (layer_of y)) ≡ is_nil (paths_of (layer_of y))
plain-layer (Value-F.Int n) = refl
plain-layer (Value-F.Text t) = refl
plain-layer (Value-F.List es) = plain-items es
plain-layer (Value-F.File name content) = refl
plain-layer (Value-F.Future path outputs) = refl
plain-layer (Value-F.Output path index) = refl
plain-layer Value-F.Nothing = refl

plain-rolled : (y : Value-F KnownValue) → PlainPaths (roll-Value (layer_of y))
unfolding is_plain
plain-rolled y = fold-roll-Value Bool plain_step (layer_of y) ∙ plain-layer y ∙ ap is_nil (sym (all-paths-layer (layer_of y)))

plain-paths : (value : Value) → PlainPaths value
plain-paths = ind-Value PlainPaths (λ x y is. subst (λ (z : Layer). PlainPaths (roll-Value z)) is (plain-rolled y))

none_of_nil : (ps qs : List Path) → is_nil qs ≡ true → Each (Contains ps) qs
none_of_nil ps [] h = tt
none_of_nil ps (q ∷ qs) h = absurd (false≢true h)

nil_of_none : (qs : List Path) → Each (Contains []) qs → is_nil qs ≡ true
nil_of_none [] h = refl
nil_of_none (q ∷ qs) h = let less = h.0.1 in absurd (omega (arith, less))

-- a plain value names nothing
pub plain_names : (ps : List Path) (value : Value) → IsPlain value → NamesOnly ps value
plain_names ps value h = none_of_nil ps (all_paths value) (sym (plain-paths value) ∙ h)

pub names_plain : (value : Value) → NamesOnly [] value → IsPlain value
names_plain value h = plain-paths value ∙ nil_of_none (all_paths value) h

pub all_plain_name : (ps : List Path) (vs : List Value) → Each IsPlain vs → Each (NamesOnly ps) vs
all_plain_name ps vs h = each_map IsPlain (NamesOnly ps) (plain_names ps) vs h

-- ---- futures and outputs

future_layer : (l : Layer) (ps : List Path) → IsFuture l → Each (Contains (path_in l ++ ps)) (paths_of l)
future_layer (Value-F.Future path outputs) ps h = (contains_front path ps, tt)
future_layer (Value-F.Int n) ps h = absurd h
future_layer (Value-F.Text t) ps h = absurd h
future_layer (Value-F.List vs) ps h = absurd h
future_layer (Value-F.File name content) ps h = absurd h
future_layer (Value-F.Output path index) ps h = absurd h
future_layer Value-F.Nothing ps h = absurd h

-- a future names itself
pub future_names : (f : Value) (ps : List Path) → IsFuture (out-Value f) → NamesOnly (path_in (out-Value f) ++ ps) f
future_names f ps h = subst (Each (Contains (path_in (out-Value f) ++ ps))) (sym (paths-out f)) (future_layer (out-Value f) ps h)

told_layer : (l : Layer) (ps : List Path) → IsAwaited l → Each (Contains ps) (paths_of l) → IsTold ps l
told_layer (Value-F.Future path outputs) ps w h = h.0
told_layer (Value-F.Output path index) ps w h = h.0
told_layer (Value-F.Int n) ps w h = absurd w
told_layer (Value-F.Text t) ps w h = absurd w
told_layer (Value-F.List vs) ps w h = absurd w
told_layer (Value-F.File name content) ps w h = absurd w
told_layer Value-F.Nothing ps w h = absurd w

pub awaited_told : (f : Value) (ps : List Path) → IsAwaited (out-Value f) → NamesOnly ps f → IsTold ps (out-Value f)
awaited_told f ps w h = told_layer (out-Value f) ps w (subst (Each (Contains ps)) (paths-out f) h)

-- ---- inputs

passed : {A : Type 0} (P : A → Type 0) (b : Bool) (x : A) (xs : List A) → P x → Each P xs → Each P (if b then x ∷ xs else xs)
passed P true x xs h k = (h, k)
passed P false x xs h k = k

filter_each : {A : Type 0} (P : A → Type 0) (test : A → Bool) (xs : List A) → Each P xs → Each P (filter test xs)
filter_each P test [] h = tt
filter_each P test (x ∷ xs) h = passed P (test x) x (filter test xs) h.0 (filter_each P test xs h.1)

distinct_each : (P : Path → Type 0) (ps : List Path) → Each P ps → Each P (distinct ps)
distinct_each P [] h = tt
distinct_each P (p ∷ ps) h = (h.0, filter_each P (λ q. not (bytes_eq p q)) (distinct ps) (distinct_each P ps h.1))

path_layer : (l : Layer) (ps : List Path) → Each (Contains ps) (paths_of l) → Each (Contains ps) (path_in l)
path_layer (Value-F.Future path outputs) ps h = h
path_layer (Value-F.Output path index) ps h = h
path_layer _ ps h = tt

items_paths : (vs : List Value) (ps : List Path) → Each (NamesOnly ps) vs → Each (Contains ps) (flat_map (λ w. path_in (out-Value w)) vs)
items_paths [] ps h = tt
items_paths (w ∷ vs) ps h = each_append (Contains ps) (path_in (out-Value w)) _ (path_layer (out-Value w) ps (subst (Each (Contains ps)) (paths-out w) h.0)) (items_paths vs ps h.1)

argument_layer : (l : Layer) (ps : List Path) → Each (Contains ps) (paths_of l) → Each (Contains ps) (paths_in l)
argument_layer (Value-F.List vs) ps h = items_paths vs ps (items_name ps vs h)
argument_layer (Value-F.Future path outputs) ps h = h
argument_layer (Value-F.Output path index) ps h = h
argument_layer _ ps h = tt

arguments_paths : (vs : List Value) (ps : List Path) → Each (NamesOnly ps) vs → Each (Contains ps) (flat_map (λ w. paths_in (out-Value w)) vs)
arguments_paths [] ps h = tt
arguments_paths (w ∷ vs) ps h = each_append (Contains ps) (paths_in (out-Value w)) _ (argument_layer (out-Value w) ps (subst (Each (Contains ps)) (paths-out w) h.0)) (arguments_paths vs ps h.1)

-- what a call waits for stands in its arguments
pub inputs_told : (ps : List Path) (arguments : List Value) → Each (NamesOnly ps) arguments → Each (Contains ps) (inputs arguments)
unfolding inputs
inputs_told ps arguments h = distinct_each (Contains ps) _ (arguments_paths arguments ps h)
