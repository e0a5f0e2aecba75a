-- The sizes of values and of their parts.
use Rattle.std.proofs.Common.{◌≡◌, ℕ, zero, suc, ◌+◌, ◌-◌, ◌≤◌, max, ◌/◌, ◌%◌, Bool, true, false, if◌then◌else◌, List, [], ◌∷◌, length, map, take, drop, sum, fold, ℤ, pos, negsuc, sym, subst, arith}
use Rattle.std.specs.Prelude.{◌==◌, nat_le, decimal}
use Rattle.std.specs.Fmt.{digits_onto, digits, digit_glyph}
use Rattle.std.proofs.lemmas.Bool.{and_parts, and_from, leb-true, le-leb}
use Rattle.flow_base.specs.declared.value.Value.{Value, roll-Value, map-Value, fold-roll-Value}
use Rattle.flow_base.specs.declared.value.Value.TheOpen.{Value-F}
use Rattle.flow_base.specs.declared.value.Value.TheVariants as v
use Rattle.flow_base.specs.Values.{units, units_step, levels, levels_step, greatest, max_units, max_levels}
use Rattle.flow_meaning.specs.Operators.{Layer, Text, part, int_text}
use Rattle.flow_meaning.specs.Meaning.{file_fits}
use Rattle.body_requests.specs.Asks.{Each}
use Rattle.body_requests.specs.Within.{IsWithin}
use Rattle.body_requests.proofs.Acts.{each_map}

-- ---- one level

abbrev units_of : Layer → ℕ
units_of l = units_step (map-Value Value ℕ units l)

abbrev levels_of : Layer → ℕ
levels_of l = levels_step (map-Value Value ℕ levels l)

pub units-layer : (l : Layer) → units (roll-Value l) ≡ units_of l
unfolding units
units-layer l = fold-roll-Value ℕ units_step l

pub levels-layer : (l : Layer) → levels (roll-Value l) ≡ levels_of l
unfolding levels
levels-layer l = fold-roll-Value ℕ levels_step l

pub record Size (n m : ℕ) : Type 0 where
  pub least : n ≤ 65536
  pub most : m ≤ 64

abbrev Sized : Value → Type 0
Sized value = Size (units value) (levels value)

pub sized : (value : Value) → IsWithin value → Sized value
sized value h = let both = and_parts (nat_le (units value) max_units) (nat_le (levels value) max_levels) h in record { least = leb-true (units value) 65536 both.0; most = leb-true (levels value) 64 both.1 }

pub within : (value : Value) → Sized value → IsWithin value
within value h = and_from (nat_le (units value) max_units) (nat_le (levels value) max_levels) (le-leb (units value) 65536 h.least) (le-leb (levels value) 64 h.most)

pub opened : (value : Value) (l : Layer) → roll-Value l ≡ value → IsWithin value → Size (units_of l) (levels_of l)
opened value l is h = let s = sized (roll-Value l) (subst IsWithin (sym is) h) in record { least = subst (λ n. n ≤ 65536) (units-layer l) s.least; most = subst (λ n. n ≤ 64) (levels-layer l) s.most }

pub rolled : (value : Value) (l : Layer) → roll-Value l ≡ value → Size (units_of l) (levels_of l) → IsWithin value
rolled value l is h = subst IsWithin is (within (roll-Value l) (record { least = subst (λ n. n ≤ 65536) (sym (units-layer l)) h.least; most = subst (λ n. n ≤ 64) (sym (levels-layer l)) h.most }))

-- ---- texts

pub text_within : (t : Text) → length t ≤ 65535 → IsWithin (v.Text t)
text_within t h = rolled (v.Text t) (Value-F.Text t) (v.rolls-Text t) (record { least = omega (arith, h); most = omega arith })

pub text_length : (t : Text) → IsWithin (v.Text t) → length t ≤ 65535
text_length t h = let s = (opened (v.Text t) (Value-F.Text t) (v.rolls-Text t) h).least in omega (arith, s)

take_le : (n : ℕ) (t : Text) → length (take n t) ≤ length t
take_le zero t = omega arith
take_le (suc n) [] = omega arith
take_le (suc n) (b ∷ t) = let h = take_le n t in omega (arith, h)

drop_le : (n : ℕ) (t : Text) → length (drop n t) ≤ length t
drop_le zero t = omega arith
drop_le (suc n) [] = omega arith
drop_le (suc n) (b ∷ t) = let h = drop_le n t in omega (arith, h)

pub part_within : (t : Text) (e : ℕ × ℕ) → IsWithin (v.Text t) → IsWithin (v.Text (part t e))
part_within t e h = text_within (part t e) (let a = take_le (e.1 - e.0) (drop e.0 t) in let b = drop_le e.0 t in let c = text_length t h in omega (arith, a, b, c))

if_le : (b : Bool) (xs ys : Text) (n : ℕ) → length xs ≤ n → length ys ≤ n → length (if b then xs else ys) ≤ n
if_le true xs ys n h k = h
if_le false xs ys n h k = k

-- the decimal text of a number has 64 digits at most
digits_le : (k base : ℕ) (upper : Bool) (n : ℕ) (acc : Text) → length (digits_onto k base upper n acc) ≤ k + length acc
digits_le zero base upper n acc = omega arith
digits_le (suc k) base upper n acc =
    let h = digits_le k base upper (n / base) (digit_glyph upper (n % base) ∷ acc) in
    if_le (n / base == 0) (digit_glyph upper (n % base) ∷ acc) (digits_onto k base upper (n / base) (digit_glyph upper (n % base) ∷ acc)) (suc k + length acc) (omega arith) (omega (arith, h))

decimal_le : (n : ℕ) → length (decimal n) ≤ 64
unfolding digits
decimal_le n = let h = digits_le 64 10 false n [] in omega (arith, h)

int_text_le : (n : ℤ) → length (int_text n) ≤ 65
int_text_le (pos n) = let h = decimal_le n in omega (arith, h)
int_text_le (negsuc n) = let h = decimal_le (suc n) in omega (arith, h)

pub int_text_within : (n : ℤ) → IsWithin (v.Text (int_text n))
int_text_within n = text_within (int_text n) (let h = int_text_le n in omega (arith, h))

-- ---- files

pub file_within : (name content : Text) → file_fits name content ≡ true → IsWithin (v.File name content)
file_within name content h = rolled (v.File name content) (Value-F.File name content) (v.rolls-File name content) (record { least = leb-true (1 + length name + length content) 65536 h; most = omega arith })

pub name_within : (name content : Text) → IsWithin (v.File name content) → IsWithin (v.Text name)
name_within name content h = text_within name (let s = (opened (v.File name content) (Value-F.File name content) (v.rolls-File name content) h).least in omega (arith, s))

pub content_within : (name content : Text) → IsWithin (v.File name content) → IsWithin (v.Text content)
content_within name content h = text_within content (let s = (opened (v.File name content) (Value-F.File name content) (v.rolls-File name content) h).least in omega (arith, s))

-- ---- lists

sum-from : (a : ℕ) (ns : List ℕ) → fold ◌+◌ a ns ≡ a + sum ns
sum-from a [] = omega arith
sum-from a (n ∷ ns) = let h = sum-from (a + n) ns in let k = sum-from (0 + n) ns in omega (arith, h, k)

sum-first : (n : ℕ) (ns : List ℕ) → sum (n ∷ ns) ≡ n + sum ns
sum-first n ns = let k = sum-from (0 + n) ns in omega (arith, k)

max_from : (a : ℕ) (ns : List ℕ) → a ≤ fold max a ns
max_from a [] = omega arith
max_from a (n ∷ ns) = let h = max_from (max a n) ns in omega (arith, h)

max_more : (a b : ℕ) (ns : List ℕ) → a ≤ b → fold max a ns ≤ fold max b ns
max_more a b [] h = h
max_more a b (n ∷ ns) h = max_more (max a n) (max b n) ns (omega (arith, h))

greatest_first : (n : ℕ) (ns : List ℕ) → n ≤ greatest (n ∷ ns)
greatest_first n ns = let h = max_from (max 0 n) ns in omega (arith, h)

greatest_rest : (n : ℕ) (ns : List ℕ) → greatest ns ≤ greatest (n ∷ ns)
greatest_rest n ns = max_more 0 (max 0 n) ns (omega arith)

abbrev Items : List Value → ℕ → ℕ → Type 0
Items vs n m = (sum (map units vs) ≤ n) × (greatest (map levels vs) ≤ m)

items_sized : (vs : List Value) (n m : ℕ) → Items vs n m → Each (λ w. (units w ≤ n) × (levels w ≤ m)) vs
items_sized [] n m h = tt
items_sized (w ∷ vs) n m h =
    let total = h.0 in
    let deep = h.1 in
    let s = sum-first (units w) (map units vs) in
    let f = greatest_first (levels w) (map levels vs) in
    let r = greatest_rest (levels w) (map levels vs) in
    ((omega (arith, total, s), omega (arith, deep, f)), items_sized vs n m (omega (arith, total, s), omega (arith, deep, r)))

items_of : (vs : List Value) → IsWithin (v.List vs) → Items vs 65535 63
items_of vs h =
    let s = opened (v.List vs) (Value-F.List vs) (v.rolls-List vs) h in
    let least = s.least in
    let most = s.most in
    (omega (arith, least), omega (arith, most))

of_items : (vs : List Value) → Items vs 65535 63 → IsWithin (v.List vs)
of_items vs h =
    let total = h.0 in
    let deep = h.1 in
    rolled (v.List vs) (Value-F.List vs) (v.rolls-List vs) (record { least = omega (arith, total); most = omega (arith, deep) })

item_within : (w : Value) → (units w ≤ 65535) × (levels w ≤ 63) → IsWithin w
item_within w h = let a = h.0 in let b = h.1 in within w (record { least = omega (arith, a); most = omega (arith, b) })

pub items_within : (vs : List Value) → IsWithin (v.List vs) → Each IsWithin vs
items_within vs h = each_map _ IsWithin item_within vs (items_sized vs 65535 63 (items_of vs h))

take_sum : (k : ℕ) (vs : List Value) → sum (map units (take k vs)) ≤ sum (map units vs)
take_sum zero vs = omega arith
take_sum (suc k) [] = omega arith
take_sum (suc k) (w ∷ vs) =
    let h = take_sum k vs in
    let s = sum-first (units w) (map units (take k vs)) in
    let t = sum-first (units w) (map units vs) in
    omega (arith, h, s, t)

take_max : (a k : ℕ) (vs : List Value) → fold max a (map levels (take k vs)) ≤ fold max a (map levels vs)
take_max a zero vs = max_from a (map levels vs)
take_max a (suc k) [] = omega arith
take_max a (suc k) (w ∷ vs) = take_max (max a (levels w)) k vs

take_items : (k : ℕ) (vs : List Value) (n m : ℕ) → Items vs n m → Items (take k vs) n m
take_items k vs n m h =
    let total = h.0 in
    let deep = h.1 in
    let s = take_sum k vs in
    let t = take_max 0 k vs in
    (omega (arith, total, s), omega (arith, deep, t))

drop_items : (k : ℕ) (vs : List Value) (n m : ℕ) → Items vs n m → Items (drop k vs) n m
drop_items zero vs n m h = h
drop_items (suc k) [] n m h = h
drop_items (suc k) (w ∷ vs) n m h =
    let total = h.0 in
    let deep = h.1 in
    let s = sum-first (units w) (map units vs) in
    let r = greatest_rest (levels w) (map levels vs) in
    drop_items k vs n m (omega (arith, total, s), omega (arith, deep, r))

pub list_part_within : (vs : List Value) (e : ℕ × ℕ) → IsWithin (v.List vs) → IsWithin (v.List (part vs e))
list_part_within vs e h = of_items (part vs e) (take_items (e.1 - e.0) (drop e.0 vs) 65535 63 (drop_items e.0 vs 65535 63 (items_of vs h)))

-- ---- values of one unit

pub int_within : (n : ℤ) → IsWithin (v.Int n)
int_within n = rolled (v.Int n) (Value-F.Int n) (v.rolls-Int n) (record { least = omega arith; most = omega arith })

pub nothing_within : IsWithin v.Nothing
nothing_within = rolled v.Nothing Value-F.Nothing v.rolls-Nothing (record { least = omega arith; most = omega arith })

pub output_within : (path : List ℕ) (k : ℕ) → IsWithin (v.Output path k)
output_within path k = rolled (v.Output path k) (Value-F.Output path k) (v.rolls-Output path k) (record { least = omega arith; most = omega arith })

pub future_within : (path : List ℕ) (k : ℕ) → IsWithin (v.Future path k)
future_within path k = rolled (v.Future path k) (Value-F.Future path k) (v.rolls-Future path k) (record { least = omega arith; most = omega arith })
