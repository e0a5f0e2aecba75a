-- Which paths stand in values, and which values are plain.
use Rattle.std.proofs.Common.{◌≡◌, ℕ, Bool, true, false, not, List, [], ◌∷◌, ◌++◌, map, Option, Some, None, refl, sym, ap, ◌∙◌, subst}
use Rattle.std.specs.Prelude.{Contains, bytes_eq, filter, flat_map, ◌&&◌, ◌||◌, if◌then◌else◌, slice_get, Result, Ok, Err}
use Rattle.std.specs.List.{list_all, list_any}
use Rattle.std.proofs.lemmas.Slice.Eq.{bytes_eq-Decides}
use Rattle.flow_base.specs.declared.value.Value.{Value, out-Value, roll-Value, map-Value, fold-roll-Value, roll-out-Value}
use Rattle.flow_base.specs.declared.value.Value.TheOpen.{Value-F}
use Rattle.flow_base.specs.declared.value.Value.TheVariants as v
use Rattle.flow_base.specs.declared.outcome.FileOut.{FileOut}
use Rattle.flow_base.specs.declared.outcome.Exception.{Exception}
use Rattle.flow_base.specs.declared.outcome.Exception.TheVariants as x
use Rattle.flow_base.specs.declared.outcome.Outcome.{Outcome}
use Rattle.flow_base.specs.declared.outcome.Outcome.TheVariants as o
use Rattle.flow_base.specs.Values.{is_plain, plain_step, fits}
use Rattle.flow_meaning.specs.Inputs.{Path, path_in, paths_in, distinct, inputs, is_list, deep_in, are_deep}
use Rattle.flow_meaning.specs.Meaning.{Done}
use Rattle.flow_meaning.specs.Operators.{Layer, Text}
use Rattle.flow_meaning.specs.Sequential.{Tasks, outcome_at, failed, value_in, file_value, file_in, replaced, replaced_in, resolved, future_in, futures_in, with_front, all_values, unless_failed, limited_outcome, join_value, join_outcome}
use Rattle.body_requests.specs.Asks.{Each, paths_step, all_paths, NamesOnly, IsPlain}
use Rattle.call_rules.specs.Calls.{awaited, awaited_in, paths_or_none}
use Rattle.call_rules.specs.Groups.{IsPlainOutcome}

pub each-map : {A : Type 0} (P Q : A → Type 0) → ((x : A) → P x → Q x) → (xs : List A) → Each P xs → Each Q xs
each-map P Q f [] h = tt
each-map P Q f (x ∷ xs) h = (f x h.0, each-map P Q f xs h.1)

each_append : {A : Type 0} (P : A → Type 0) (xs ys : List A) → Each P xs → Each P ys → Each P (xs ++ ys)
each_append P [] ys h k = k
each_append P (x ∷ xs) ys h k = (h.0, each_append P xs ys h.1 k)

each_parts : {A : Type 0} (P : A → Type 0) (xs ys : List A) → Each P (xs ++ ys) → Each P xs × Each P ys
each_parts P [] ys h = (tt, h)
each_parts P (x ∷ xs) ys h = let r = each_parts P xs ys h.1 in ((h.0, r.0), r.1)

-- ---- the paths in a value

abbrev paths_of : Layer → List Path
paths_of l = paths_step (map-Value Value (List Path) all_paths l)

all_paths_layer : (l : Layer) → all_paths (roll-Value l) ≡ paths_of l
unfolding all_paths
all_paths_layer l = fold-roll-Value (List Path) paths_step l

paths_out : (value : Value) → all_paths value ≡ paths_of (out-Value value)
paths_out value = ap all_paths (sym (roll-out-Value value)) ∙ all_paths_layer (out-Value value)

abbrev all_in : List Value → List Path
all_in vs = flat_map (λ ps. ps) (map all_paths vs)

items_name : (ps : List Path) (vs : List Value) → Each (Contains ps) (all_in vs) → Each (NamesOnly ps) vs
items_name ps [] h = tt
items_name ps (w ∷ vs) h = let both = each_parts (Contains ps) (all_paths w) (all_in vs) h in (both.0, items_name ps vs both.1)

filter_each : {A : Type 0} (P : A → Type 0) (test : A → Bool) (xs : List A) → Each P xs → Each P (filter test xs)
filter_each P test [] h = tt
filter_each P test (x ∷ xs) h = by_test (test x) refl (filter_each P test xs h.1)
  where
    by_test : (t : Bool) → test x ≡ t → Each P (filter test xs) → Each P (filter test (x ∷ xs))
    by_test true e rest = rw e (h.0, rest)
    by_test false e rest = rw e rest

distinct_each : (P : Path → Type 0) (ps : List Path) → Each P ps → Each P (distinct ps)
distinct_each P [] h = tt
distinct_each P (p ∷ ps) h = (h.0, filter_each P (λ q. not (bytes_eq p q)) (distinct ps) (distinct_each P ps h.1))

path_layer : (l : Layer) (ps : List Path) → Each (Contains ps) (paths_of l) → Each (Contains ps) (path_in l)
path_layer (Value-F.Future path outputs) ps h = h
path_layer (Value-F.Output path index) ps h = h
path_layer _ ps h = tt

items_paths : (vs : List Value) (ps : List Path) → Each (NamesOnly ps) vs → Each (Contains ps) (flat_map (λ w. path_in (out-Value w)) vs)
items_paths [] ps h = tt
items_paths (w ∷ vs) ps h = each_append (Contains ps) (path_in (out-Value w)) _ (path_layer (out-Value w) ps (subst (Each (Contains ps)) (paths_out w) h.0)) (items_paths vs ps h.1)

argument_layer : (l : Layer) (ps : List Path) → Each (Contains ps) (paths_of l) → Each (Contains ps) (paths_in l)
argument_layer (Value-F.List vs) ps h = items_paths vs ps (items_name ps vs h)
argument_layer (Value-F.Future path outputs) ps h = h
argument_layer (Value-F.Output path index) ps h = h
argument_layer _ ps h = tt

arguments_paths : (vs : List Value) (ps : List Path) → Each (NamesOnly ps) vs → Each (Contains ps) (flat_map (λ w. paths_in (out-Value w)) vs)
arguments_paths [] ps h = tt
arguments_paths (w ∷ vs) ps h = each_append (Contains ps) (paths_in (out-Value w)) _ (argument_layer (out-Value w) ps (subst (Each (Contains ps)) (paths_out w) h.0)) (arguments_paths vs ps h.1)

-- futures that a value names, directly or in a list, are among all that it names
pub inputs-told : (ps : List Path) (arguments : List Value) → Each (NamesOnly ps) arguments → Each (Contains ps) (inputs arguments)
unfolding inputs
inputs-told ps arguments h = distinct_each (Contains ps) _ (arguments_paths arguments ps h)

fronted : (P : Path → Type 0) (p : Option Path) (ps : Option (List Path)) → ((q : Path) → p ≡ Some q → P q) → Each P (paths_or_none ps) → Each P (paths_or_none (with_front p ps))
fronted P (Some p) (Some ps) h rest = (h p refl, rest)
fronted P None ps h rest = tt
fronted P (Some p) None h rest = tt

future_layer : (l : Layer) (ps : List Path) → Each (Contains ps) (paths_of l) → (q : Path) → future_in l ≡ Some q → Contains ps q
future_layer (Value-F.Future path outputs) ps h q e = let same : path ≡ q = cc in subst (Contains ps) same h.0
future_layer (Value-F.Int n) ps h q e = absurd (cc)
future_layer (Value-F.Text t) ps h q e = absurd (cc)
future_layer (Value-F.List vs) ps h q e = absurd (cc)
future_layer (Value-F.File name content) ps h q e = absurd (cc)
future_layer (Value-F.Output path index) ps h q e = absurd (cc)
future_layer Value-F.Nothing ps h q e = absurd (cc)

futures_told : (vs : List Value) (ps : List Path) → Each (NamesOnly ps) vs → Each (Contains ps) (paths_or_none (futures_in vs))
futures_told [] ps h = tt
futures_told (w ∷ vs) ps h = fronted (Contains ps) (future_in (out-Value w)) (futures_in vs) (future_layer (out-Value w) ps (subst (Each (Contains ps)) (paths_out w) h.0)) (futures_told vs ps h.1)

awaited_layer : (l : Layer) (ps : List Path) → Each (Contains ps) (paths_of l) → Each (Contains ps) (awaited_in l)
awaited_layer (Value-F.Future path outputs) ps h = h
awaited_layer (Value-F.List vs) ps h = futures_told vs ps (items_name ps vs h)
awaited_layer _ ps h = tt

pub awaited-told : (ps : List Path) (d : Done) → NamesOnly ps d.0 → Each (Contains ps) (awaited (Ok d))
awaited-told ps d h = awaited_layer (out-Value d.0) ps (subst (Each (Contains ps)) (paths_out d.0) h)

-- ---- plain values

abbrev pub IsPlainKnown : Option Outcome → Type 0
IsPlainKnown (Some outcome) = IsPlainOutcome outcome
IsPlainKnown None = ⊥

-- the outcomes are known, and their values are plain
abbrev pub ArePlain : Tasks → List Path → Type 0
ArePlain ts ps = Each (λ p. IsPlainKnown (outcome_at ts p)) ps

plain_rolled : (l : Layer) → is_plain (roll-Value l) ≡ plain_step (map-Value Value Bool is_plain l)
unfolding is_plain
plain_rolled l = fold-roll-Value Bool plain_step l

plain_out : (value : Value) (l : Layer) → out-Value value ≡ l → plain_step (map-Value Value Bool is_plain l) ≡ true → IsPlain value
plain_out value l at h = ap is_plain (sym (roll-out-Value value)) ∙ plain_rolled (out-Value value) ∙ ap (λ (m : Layer). plain_step (map-Value Value Bool is_plain m)) at ∙ h

nothing_plain : IsPlain v.Nothing
nothing_plain = ap is_plain (sym v.rolls-Nothing) ∙ plain_rolled Value-F.Nothing

file_plain : (name content : Text) → IsPlain (v.File name content)
file_plain name content = ap is_plain (sym (v.rolls-File name content)) ∙ plain_rolled (Value-F.File name content)

all_plain : (vs : List Value) → Each IsPlain vs → list_all (λ b. b) (map is_plain vs) ≡ true
all_plain [] h = refl
all_plain (w ∷ vs) h = rw (h.0, all_plain vs h.1) refl

list_plain : (vs : List Value) → Each IsPlain vs → IsPlain (v.List vs)
list_plain vs h = ap is_plain (sym (v.rolls-List vs)) ∙ plain_rolled (Value-F.List vs) ∙ all_plain vs h

value_plain : (r : Option Outcome) → IsPlainKnown r → IsPlain (value_in r)
value_plain (Some (o.Value value files)) h = h
value_plain (Some (o.Failed exception)) h = nothing_plain
value_plain None h = absurd h

file_in_plain : (r : Option Outcome) (i : ℕ) → IsPlain (file_in r i)
file_in_plain (Some (o.Value value files)) i = by_file (slice_get files i)
  where
    by_file : (f : Option FileOut) → IsPlain (file_value f)
    by_file (Some f) = file_plain f.name f.content
    by_file None = nothing_plain
file_in_plain (Some (o.Failed exception)) i = nothing_plain
file_in_plain None i = nothing_plain

is_not : (b : Bool) → not b ≡ false → b ≡ true
is_not true h = refl
is_not false h = absurd (cc)

neither : (a b : Bool) → (a || b) ≡ false → (a ≡ false) × (b ≡ false)
neither true b h = absurd (cc)
neither false b h = (refl, h)

item_plain : (ts : Tasks) (item : Value) (l : Layer) → out-Value item ≡ l → ArePlain ts (path_in l) → (is_list l && not (is_plain item)) ≡ false → IsPlain (replaced ts item l)
item_plain ts item (Value-F.Int n) at good h = plain_out item (Value-F.Int n) at refl
item_plain ts item (Value-F.Text t) at good h = plain_out item (Value-F.Text t) at refl
item_plain ts item (Value-F.List vs) at good h = is_not (is_plain item) h
item_plain ts item (Value-F.File name content) at good h = plain_out item (Value-F.File name content) at refl
item_plain ts item (Value-F.Future path outputs) at good h = value_plain (outcome_at ts path) good.0
item_plain ts item (Value-F.Output path index) at good h = file_in_plain (outcome_at ts path) index
item_plain ts item Value-F.Nothing at good h = plain_out item Value-F.Nothing at refl

items_plain : (ts : Tasks) (vs : List Value) → ArePlain ts (flat_map (λ w. path_in (out-Value w)) vs) → list_any (λ w. is_list (out-Value w) && not (is_plain w)) vs ≡ false → Each IsPlain (map (λ item. replaced ts item (out-Value item)) vs)
items_plain ts [] good h = tt
items_plain ts (w ∷ vs) good h =
    let parts = neither (is_list (out-Value w) && not (is_plain w)) (list_any (λ w. is_list (out-Value w) && not (is_plain w)) vs) h in
    let both = each_parts (λ p. IsPlainKnown (outcome_at ts p)) (path_in (out-Value w)) _ good in
    (item_plain ts w (out-Value w) refl both.0 parts.0, items_plain ts vs both.1 parts.1)

argument_plain : (ts : Tasks) (a : Value) (l : Layer) → out-Value a ≡ l → ArePlain ts (paths_in l) → deep_in l ≡ false → IsPlain (replaced_in ts a l)
argument_plain ts a (Value-F.Int n) at good h = plain_out a (Value-F.Int n) at refl
argument_plain ts a (Value-F.Text t) at good h = plain_out a (Value-F.Text t) at refl
argument_plain ts a (Value-F.List vs) at good h = list_plain _ (items_plain ts vs good h)
argument_plain ts a (Value-F.File name content) at good h = plain_out a (Value-F.File name content) at refl
argument_plain ts a (Value-F.Future path outputs) at good h = value_plain (outcome_at ts path) good.0
argument_plain ts a (Value-F.Output path index) at good h = file_in_plain (outcome_at ts path) index
argument_plain ts a Value-F.Nothing at good h = plain_out a Value-F.Nothing at refl

arguments_plain : (ts : Tasks) (arguments : List Value) → ArePlain ts (flat_map (λ w. paths_in (out-Value w)) arguments) → list_any (λ w. deep_in (out-Value w)) arguments ≡ false → Each IsPlain (map (λ a. replaced_in ts a (out-Value a)) arguments)
arguments_plain ts [] good h = tt
arguments_plain ts (a ∷ arguments) good h =
    let parts = neither (deep_in (out-Value a)) (list_any (λ w. deep_in (out-Value w)) arguments) h in
    let both = each_parts (λ p. IsPlainKnown (outcome_at ts p)) (paths_in (out-Value a)) _ good in
    (argument_plain ts a (out-Value a) refl both.0 parts.0, arguments_plain ts arguments both.1 parts.1)

each_but : (P : Path → Type 0) (p : Path) → P p → (ps : List Path) → Each P (filter (λ q. not (bytes_eq p q)) ps) → Each P ps
each_but P p holds [] each = tt
each_but P p holds (q ∷ ps) each = by_test (bytes_eq p q) refl (each_but P p holds ps)
  where
    by_test : (t : Bool) → bytes_eq p q ≡ t → (Each P (filter (λ q. not (bytes_eq p q)) ps) → Each P ps) → Each P (q ∷ ps)
    by_test true e further = (subst P ((bytes_eq-Decides p q).0 e) holds, further (rw e at each))
    by_test false e further = let both : P q × Each P (filter (λ q. not (bytes_eq p q)) ps) = rw e at each in (both.0, further both.1)

each_all : (P : Path → Type 0) (ps : List Path) → Each P (distinct ps) → Each P ps
each_all P [] each = tt
each_all P (p ∷ ps) each = (each.0, each_all P ps (each_but P p each.0 (distinct ps) each.1))

pub resolved-plain : (ts : Tasks) (arguments : List Value) → are_deep arguments ≡ false → ArePlain ts (inputs arguments) → Each IsPlain (resolved ts arguments)
unfolding are_deep resolved inputs
resolved-plain ts arguments shallow plain = arguments_plain ts arguments (each_all (λ p. IsPlainKnown (outcome_at ts p)) _ plain) shallow

-- ---- what a join gives is made of plain values

limited_plain : (value : Value) → IsPlain value → IsPlainOutcome (limited_outcome value)
limited_plain value h = by_test (fits value)
  where
    by_test : (t : Bool) → IsPlainOutcome (if t then o.Value value [] else o.Failed x.SizeError)
    by_test true = h
    by_test false = tt

unless_plain : (failures : List Path) (outcome : Outcome) → IsPlainOutcome outcome → IsPlainOutcome (unless_failed failures outcome)
unless_plain [] outcome h = h
unless_plain (p ∷ ps) outcome h = tt

values_plain : (ts : Tasks) (ps : List Path) → ArePlain ts ps → Each IsPlain (map (λ p. value_in (outcome_at ts p)) ps)
values_plain ts [] h = tt
values_plain ts (p ∷ ps) h = (value_plain (outcome_at ts p) h.0, values_plain ts ps h.1)

one_plain : (r : Option Outcome) (p : Path) → IsPlainKnown r → IsPlainOutcome (if failed r then o.Failed (x.JoinError (p ∷ [])) else o.Value (value_in r) [])
one_plain (Some (o.Value value files)) p h = h
one_plain (Some (o.Failed exception)) p h = tt
one_plain None p h = absurd h

all_values_plain : (ts : Tasks) (ps : Option (List Path)) → ArePlain ts (paths_or_none ps) → IsPlainOutcome (all_values ts ps)
all_values_plain ts (Some ps) h = unless_plain _ _ (limited_plain _ (list_plain _ (values_plain ts ps h)))
all_values_plain ts None h = tt

join_plain : (ts : Tasks) (l : Layer) → ArePlain ts (awaited_in l) → IsPlainOutcome (join_value ts l)
join_plain ts (Value-F.Future path outputs) h = one_plain (outcome_at ts path) path h.0
join_plain ts (Value-F.List vs) h = all_values_plain ts (futures_in vs) h
join_plain ts (Value-F.Int n) h = tt
join_plain ts (Value-F.Text t) h = tt
join_plain ts (Value-F.File name content) h = tt
join_plain ts (Value-F.Output path index) h = tt
join_plain ts Value-F.Nothing h = tt

pub joined-plain : (ts : Tasks) (result : Result Done Exception) → ArePlain ts (awaited result) → IsPlainOutcome (join_outcome ts result)
unfolding join_outcome
joined-plain ts (Ok d) h = join_plain ts (out-Value d.0) h
joined-plain ts (Err exception) h = tt
