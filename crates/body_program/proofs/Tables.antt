-- Tables that grow, and the slots of their names.
use Rattle.std.proofs.Common.{◌≡◌, ℕ, zero, suc, Bool, true, false, if◌then◌else◌, [], ◌∷◌, ◌++◌, map, Option, Some, slice_get, append_assoc, bytes_eq, refl, ap, ◌∙◌}
use Rattle.flow_base.specs.declared.value.Value.{Value}
use Rattle.flow_meaning.specs.Act.{Act, Give}
use Rattle.flow_meaning.specs.Operators.{Text}
use Rattle.flow_meaning.specs.Meaning as m
use Rattle.body_program.specs.Meaning.{held}
use Rattle.body_program.specs.Resolved.{Table, Grows, found, slots_of}

append_nil : (t : Table) → t ≡ t ++ []
append_nil [] = refl
append_nil (name ∷ t) = ap (λ l. name ∷ l) (append_nil t)

pub grows_itself : (t : Table) → Grows t t
grows_itself t = record { more = []; is = append_nil t }

pub grows_further : (t u w : Table) → Grows t u → Grows u w → Grows t w
grows_further t u w g h = record { more = g.more ++ h.more; is = h.is ∙ ap (λ l. l ++ h.more) g.is ∙ append_assoc t g.more h.more }

more_found : (t more : Table) (k : ℕ) (name : Text) → slice_get t k ≡ Some name → slice_get (t ++ more) k ≡ Some name
more_found [] more zero name h = absurd (cc)
more_found [] more (suc k) name h = absurd (cc)
more_found (n ∷ t) more zero name h = h
more_found (n ∷ t) more (suc k) name h = more_found t more k name h

slot_found : (vars : m.Vars) (t : Table) (k : ℕ) (name : Text) → slice_get t k ≡ Some name → slice_get (map (found vars) t) k ≡ Some (found vars name)
slot_found vars [] zero name h = absurd (cc)
slot_found vars [] (suc k) name h = absurd (cc)
slot_found vars (n ∷ t) zero name h = let e : n ≡ name = cc in ap (λ l. Some (found vars l)) e
slot_found vars (n ∷ t) (suc k) name h = slot_found vars t k name h

held_split : (b : Bool) (value : Value) (o : Option Value) (a : Act Value) → held (Some o) ≡ a → held (Some (if b then Some value else o)) ≡ (if b then Give value else a)
held_split true value o a h = refl
held_split false value o a h = h

held_found : (vars : m.Vars) (name : Text) → held (Some (found vars name)) ≡ m.got vars name
held_found [] name = refl
held_found (e ∷ es) name = held_split (bytes_eq e.0 name) e.1 (found es name) (m.got es name) (held_found es name)

pub slot_held : (t later : Table) (k : ℕ) (name : Text) → slice_get t k ≡ Some name → Grows t later → (vars : m.Vars) → held (slice_get (slots_of later vars) k) ≡ m.got vars name
slot_held t later k name h g vars =
    let there : slice_get later k ≡ Some name = ap (λ l. slice_get l k) g.is ∙ more_found t g.more k name h in
    ap held (slot_found vars later k name there) ∙ held_found vars name
