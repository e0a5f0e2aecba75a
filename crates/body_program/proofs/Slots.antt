-- Variables by their names, and by their slots.
use Rattle.std.proofs.Common.{◌≡◌, ℕ, zero, suc, Bool, true, false, ◌||◌, [], ◌∷◌, ◌++◌, Option, Some, slice_get, slice_set, bytes_eq, refl, ap, sym, ◌∙◌, if◌then◌else◌}
use Rattle.std.proofs.lemmas.Slice.Eq.{bytes_eq-Decides}
use Rattle.std.specs.List.{list_any}
use Rattle.flow_base.specs.declared.value.Value.{Value}
use Rattle.flow_meaning.specs.Operators.{Text}
use Rattle.flow_meaning.specs.Meaning as m
use Rattle.body_program.specs.Resolved.{Table, Grows, IsDistinct, found, slots_of}

-- ---- tests of names

pub same_name : (x y : Text) → bytes_eq x y ≡ true → x ≡ y
same_name x y = (bytes_eq-Decides x y).0

pub itself : (x : Text) → bytes_eq x x ≡ true
itself x = (bytes_eq-Decides x x).1 refl

turned : (x y : Text) (b : Bool) → bytes_eq y x ≡ b → bytes_eq x y ≡ false → bytes_eq y x ≡ false
turned x y false h g = h
turned x y true h g = let e : y ≡ x = same_name y x h in let k : bytes_eq x y ≡ true = (bytes_eq-Decides x y).1 (sym e) in cc

-- the other way round
pub differ : (x y : Text) → bytes_eq x y ≡ false → bytes_eq y x ≡ false
differ x y h = turned x y (bytes_eq y x) refl h

-- ---- a variable that gets a value

abbrev first_or : Bool → Option Value → Option Value → Option Value
first_or b here there = if b then here else there

found_put_at : (e : Text × Value) (es : m.Vars) (name : Text) (v : Value) (other : Text) (same here is : Bool)
    → bytes_eq e.0 name ≡ same → bytes_eq e.0 other ≡ here → bytes_eq name other ≡ is
    → found (m.put es name v) other ≡ (if is then Some v else found es other)
    → found (if same then (e.0, v) ∷ es else e ∷ m.put es name v) other ≡ (if is then Some v else if here then Some e.1 else found es other)
found_put_at e es name v other true true true p q r h = rw (q) refl
found_put_at e es name v other true false false p q r h = rw (q) refl
found_put_at e es name v other true true false p q r h = let k : e.0 ≡ name = same_name _ _ p in let l : bytes_eq e.0 other ≡ bytes_eq name other = ap (λ x. bytes_eq x other) k in cc
found_put_at e es name v other true false true p q r h = let k : e.0 ≡ name = same_name _ _ p in let l : bytes_eq e.0 other ≡ bytes_eq name other = ap (λ x. bytes_eq x other) k in cc
found_put_at e es name v other false true true p q r h = let k : e.0 ≡ other = same_name _ _ q in let l : name ≡ other = same_name _ _ r in let g : bytes_eq e.0 name ≡ true = (bytes_eq-Decides e.0 name).1 (k ∙ sym l) in cc
found_put_at e es name v other false true false p q r h = rw (q) refl
found_put_at e es name v other false false true p q r h = rw (q) h
found_put_at e es name v other false false false p q r h = rw (q) h

pub found_put : (vars : m.Vars) (name : Text) (v : Value) (other : Text) → found (m.put vars name v) other ≡ (if bytes_eq name other then Some v else found vars other)
found_put [] name v other = refl
found_put (e ∷ es) name v other = found_put_at e es name v other _ _ _ refl refl refl (found_put es name v other)

-- ---- slots

none_at : (b : Bool) (bs : Bool) → (b || bs) ≡ false → b ≡ false
none_at false bs h = refl
none_at true bs h = h

none_later : (b : Bool) (bs : Bool) → (b || bs) ≡ false → bs ≡ false
none_later false bs h = h
none_later true false h = refl
none_later true true h = h

not_later : (name : Text) (table : Table) (k : ℕ) (other : Text) → list_any (bytes_eq name) table ≡ false → slice_get table k ≡ Some other → bytes_eq name other ≡ false
not_later name [] k other h at = absurd (cc)
not_later name (n ∷ ns) zero other h at = let e : n ≡ other = cc in ap (bytes_eq name) (sym e) ∙ none_at _ _ h
not_later name (n ∷ ns) (suc k) other h at = not_later name ns k other (none_later (bytes_eq name n) _ h) at

kept : (table : Table) (vars : m.Vars) (name : Text) (v : Value) → list_any (bytes_eq name) table ≡ false → slots_of table (m.put vars name v) ≡ slots_of table vars
kept [] vars name v h = refl
kept (n ∷ ns) vars name v h =
    let a : found (m.put vars name v) n ≡ found vars n = found_put vars name v n ∙ ap (λ b. first_or b (Some v) (found vars n)) (none_at _ _ h) in
    let b : slots_of ns (m.put vars name v) ≡ slots_of ns vars = kept ns vars name v (none_later (bytes_eq name n) _ h) in
    λ i. a i ∷ b i

-- a variable's slot gets what the variable gets
pub slots_put : (table : Table) (vars : m.Vars) (k : ℕ) (name : Text) (v : Value) → IsDistinct table → slice_get table k ≡ Some name → slots_of table (m.put vars name v) ≡ slice_set (slots_of table vars) k (Some v)
slots_put [] vars k name v d at = absurd (cc)
slots_put (n ∷ ns) vars zero name v d at =
    let e : n ≡ name = cc in
    let t : bytes_eq name n ≡ true = ap (bytes_eq name) e ∙ itself name in
    let a : found (m.put vars name v) n ≡ Some v = found_put vars name v n ∙ ap (λ b. first_or b (Some v) (found vars n)) t in
    let b : slots_of ns (m.put vars name v) ≡ slots_of ns vars = kept ns vars name v (ap (λ x. list_any (bytes_eq x) ns) (sym e) ∙ d.0) in
    λ i. a i ∷ b i
slots_put (n ∷ ns) vars (suc k) name v d at =
    let t : bytes_eq name n ≡ false = differ n name (not_later n ns k name d.0 at) in
    let a : found (m.put vars name v) n ≡ found vars n = found_put vars name v n ∙ ap (λ b. first_or b (Some v) (found vars n)) t in
    let b : slots_of ns (m.put vars name v) ≡ slice_set (slots_of ns vars) k (Some v) = slots_put ns vars k name v d.1 at in
    λ i. a i ∷ b i

-- ---- tables that grow

pub grown_at : (table more : Table) (k : ℕ) (name : Text) → slice_get table k ≡ Some name → slice_get (table ++ more) k ≡ Some name
grown_at [] more k name at = absurd (cc)
grown_at (n ∷ ns) more zero name at = at
grown_at (n ∷ ns) more (suc k) name at = grown_at ns more k name at

pub later_at : {table later : Table} (k : ℕ) (name : Text) → Grows table later → slice_get table k ≡ Some name → slice_get later k ≡ Some name
later_at k name g at = rw (g.is) (grown_at _ g.more k name at)
