-- Files by their places.
use Rattle.std.proofs.Common.{◌≡◌, ℕ, zero, suc, ◌+◌, ◌<◌, ◌≤◌, ◌++◌, Bool, true, false, cond, List, [], ◌∷◌, length, get_or, drop, drop-cons, zero-add, bytes_eq, Option, None, Some, refl, sym, ◌∙◌, ap, subst, arith}
use Rattle.std.proofs.Math.ListN.{set}
use Rattle.std.proofs.lemmas.Grind.{common_steps}
use Rattle.std.proofs.lemmas.Slice.Eq.{bytes_eq-Decides}
use Rattle.flow_base.specs.Shelf.{Stand, Same, put}
use Rattle.flow_base.specs.MemShelf.{NamedFile, stand_of, stands_of, First}

chosen : (t : Bool) (a b : Option Stand) → t ≡ true → cond t a b ≡ a
chosen t a b h = ap (λ v. cond v a b) h

passed : (t : Bool) (a b : Option Stand) → t ≡ false → cond t a b ≡ b
passed t a b h = ap (λ v. cond v a b) h

pub first_stands : (es : List NamedFile) (name : List ℕ) (i : ℕ) (d : NamedFile) → First es name i → stands_of es name ≡ Some (stand_of (get_or es i d))
first_stands [] name i d h = absurd h
first_stands (e ∷ es) name zero d h = chosen (bytes_eq e.name name) (Some (stand_of e)) (stands_of es name) h
first_stands (e ∷ es) name (suc i) d h = passed (bytes_eq e.name name) (Some (stand_of e)) (stands_of es name) h.0 ∙ first_stands es name i d h.1

-- no file before a place has the name
pub record NoneBefore (es : List NamedFile) (name : List ℕ) (place : ℕ) : Type 0 where
  pub first : (k : ℕ) → First (drop place es) name k → First es name (place + k)
  pub stands : stands_of (drop place es) name ≡ stands_of es name

pub none_before_start : (es : List NamedFile) (name : List ℕ) → NoneBefore es name 0
none_before_start es name = record {
  first = λ k h. subst (First es name) (sym (zero-add k)) h;
  stands = refl;
}

opened : (es : List NamedFile) (place : ℕ) (e : NamedFile) → place < length es → e ≡ get_or es place e → drop place es ≡ e ∷ drop (suc place) es
opened es place e below is = drop-cons es place e below ∙ ap (λ (x : NamedFile). x ∷ drop (suc place) es) (sym is)

first_behind : (e : NamedFile) (es all : List NamedFile) (name : List ℕ) (k : ℕ) → all ≡ e ∷ es → bytes_eq e.name name ≡ false → First es name k → First all name (suc k)
first_behind e es all name k is other h = subst (λ (l : List NamedFile). First l name (suc k)) (sym is) (other, h)

none_before_suc : (es : List NamedFile) (name : List ℕ) (place : ℕ) (e : NamedFile) → place < length es → e ≡ get_or es place e → bytes_eq e.name name ≡ false → NoneBefore es name place → NoneBefore es name (suc place)
none_before_suc es name place e below is other before =
    let here = opened es place e below is in
    record {
      first = λ k h.
          let at : place + suc k ≡ suc place + k = omega arith in
          subst (First es name) at (before.first (suc k) (first_behind e (drop (suc place) es) (drop place es) name k here other h));
      stands =
          sym (passed (bytes_eq e.name name) (Some (stand_of e)) (stands_of (drop (suc place) es) name) other)
          ∙ ap (λ (l : List NamedFile). stands_of l name) (sym here)
          ∙ before.stands;
    }

pub none_before_more : (es : List NamedFile) (name : List ℕ) (place : ℕ) (e : NamedFile) → place < length es → e ≡ get_or es place e → bytes_eq e.name name ≡ false → NoneBefore es name place → NoneBefore es name (place + 1)
none_before_more es name place e below is other before =
    let one : suc place ≡ place + 1 = omega arith in
    subst (NoneBefore es name) one (none_before_suc es name place e below is other before)

pub first_here : (es : List NamedFile) (name : List ℕ) (place : ℕ) (e : NamedFile) → place < length es → e ≡ get_or es place e → bytes_eq e.name name ≡ true → NoneBefore es name place → First es name place
first_here es name place e below is named before =
    let at : place + 0 ≡ place = omega arith in
    subst (First es name) at (before.first 0 (subst (λ (l : List NamedFile). First l name 0) (sym (opened es place e below is)) named))

pub none_at_all : (es : List NamedFile) (name : List ℕ) (place : ℕ) → length es ≤ place → NoneBefore es name place → stands_of es name ≡ None
none_at_all es name place whole before =
    let nothing : drop place es ≡ [] = grind (arith, common_steps) in
    sym before.stands ∙ ap (λ (l : List NamedFile). stands_of l name) nothing

equal_names : (a b : List ℕ) → bytes_eq a b ≡ true → a ≡ b
equal_names a b h = (bytes_eq-Decides a b).0 h

twice : (t : Bool) (a b c : Option Stand) → cond t a c ≡ cond t a (cond t b c)
twice true a b c = refl
twice false a b c = refl

apart : (s t : Bool) (a b c : Option Stand) → (s ≡ true → t ≡ true → ⊥) → cond s a (cond t b c) ≡ cond t b (cond s a c)
apart true true a b c never = absurd (never refl refl)
apart true false a b c never = refl
apart false true a b c never = refl
apart false false a b c never = refl

not_both : (e name m : List ℕ) → bytes_eq e name ≡ false → bytes_eq e m ≡ true → bytes_eq name m ≡ true → ⊥
not_both e name m h p q =
    let eq : bytes_eq e name ≡ true = (bytes_eq-Decides e name).1 (equal_names e m p ∙ sym (equal_names name m q)) in
    let bad : true ≡ false = sym eq ∙ h in cc

-- a changed file of the same name
first_set : (es : List NamedFile) (name : List ℕ) (i : ℕ) (d new : NamedFile) → First es name i → new.name ≡ (get_or es i d).name → (m : List ℕ) → stands_of (set es i new) m ≡ put (stands_of es) name (stand_of new) m
first_set [] name i d new h is m = absurd h
first_set (e ∷ es) name zero d new h is m =
    let named : e.name ≡ name = equal_names e.name name h in
    let new_named : new.name ≡ name = is ∙ named in
    ap (λ (n : List ℕ). cond (bytes_eq n m) (Some (stand_of new)) (stands_of es m)) new_named
    ∙ twice (bytes_eq name m) (Some (stand_of new)) (Some (stand_of e)) (stands_of es m)
    ∙ ap (λ (n : List ℕ). cond (bytes_eq name m) (Some (stand_of new)) (cond (bytes_eq n m) (Some (stand_of e)) (stands_of es m))) (sym named)
first_set (e ∷ es) name (suc i) d new h is m =
    ap (λ (o : Option Stand). cond (bytes_eq e.name m) (Some (stand_of e)) o) (first_set es name i d new h.1 is m)
    ∙ apart (bytes_eq e.name m) (bytes_eq name m) (Some (stand_of e)) (Some (stand_of new)) (stands_of es m) (not_both e.name name m h.0)

pub replaced_told : (es : List NamedFile) (name : List ℕ) (i : ℕ) (e new : NamedFile) (bytes : List ℕ) → First es name i → e ≡ get_or es i e → new ≡ record { name = (get_or es i e).name; held = bytes; safe = length bytes } → Same (put (stands_of es) name (record { held = bytes; safe = length bytes })) (stands_of (set es i new))
replaced_told es name i e new bytes first is at m =
    first_set es name i e new first (ap (λ (x : NamedFile). x.name) at) m ∙ ap (λ (x : NamedFile). put (stands_of es) name (stand_of x) m) at

-- a further file of another name
none_behind : (t : Bool) (stand : Stand) (behind : Option Stand) → cond t (Some stand) behind ≡ None → (t ≡ false) × (behind ≡ None)
none_behind true stand behind h = absurd (let bad : Some stand ≡ None = h in cc)
none_behind false stand behind h = (refl, h)

added : (es : List NamedFile) (new : NamedFile) (m : List ℕ) → stands_of es new.name ≡ None → stands_of (es ++ new ∷ []) m ≡ put (stands_of es) new.name (stand_of new) m
added [] new m h = refl
added (e ∷ es) new m h =
    let none = none_behind (bytes_eq e.name new.name) (stand_of e) (stands_of es new.name) h in
    ap (λ (o : Option Stand). cond (bytes_eq e.name m) (Some (stand_of e)) o) (added es new m none.1)
    ∙ apart (bytes_eq e.name m) (bytes_eq new.name m) (Some (stand_of e)) (Some (stand_of new)) (stands_of es m) (not_both e.name new.name m none.0)

pub added_told : (es : List NamedFile) (name : List ℕ) (new : NamedFile) → stands_of es name ≡ None → new.name ≡ name → Same (put (stands_of es) name (stand_of new)) (stands_of (es ++ new ∷ []))
added_told es name new h named m =
    added es new m (ap (stands_of es) named ∙ h) ∙ ap (λ (n : List ℕ). put (stands_of es) n (stand_of new) m) named
