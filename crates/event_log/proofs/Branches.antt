-- Tests and their branches.
use Rattle.std.specs.Prelude.{◌&&◌, if◌then◌else◌}
use Rattle.std.proofs.Common.{◌≡◌, Bool, true, false, refl, ap}

pub if_true : {A : Type 0} {t : Bool} (x y : A) → t ≡ true → (if t then x else y) ≡ x
if_true x y e = ap (λ t. if t then x else y) e

pub if_false : {A : Type 0} {t : Bool} (x y : A) → t ≡ false → (if t then x else y) ≡ y
if_false x y e = ap (λ t. if t then x else y) e

pub by_cases : {P : Type 0} (c : Bool) → (c ≡ true → P) → (c ≡ false → P) → P
by_cases true hit miss = hit refl
by_cases false hit miss = miss refl

pub if_case : {A : Type 0} (P : A → Type 0) (c : Bool) (x y : A) → (c ≡ true → P x) → (c ≡ false → P y) → P (if c then x else y)
if_case P true x y hit miss = hit refl
if_case P false x y hit miss = miss refl

pub parts_of : (a b : Bool) → (a && b) ≡ true → (a ≡ true) × (b ≡ true)
parts_of true b e = (refl, e)
parts_of false b e = absurd (cc)

pub join : (a b : Bool) → a ≡ true → b ≡ true → (a && b) ≡ true
join true b e f = f
join false b e f = absurd (cc)
