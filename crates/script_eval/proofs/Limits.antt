-- What meets a limit, one act after another.
use Rattle.std.proofs.Common.{◌≡◌, ℕ, ◌+◌, ◌-◌, ◌^◌, ◌<◌, ◌≤◌, min, Bool, true, false, List, [], ◌∷◌, ◌++◌, length, map, sum, Option, Some, None, Result, Ok, Err, refl, sym, ◌∙◌, arith}
use Rattle.std.specs.Prelude.{nat_lt}
use Rattle.std.proofs.lemmas.Bool.Decides.{nat_tests}
use Rattle.std.proofs.lemmas.Grind.{common_steps}
use Rattle.flow_meaning.specs.Operators.{Text}
use Rattle.stored_units.specs.declared.units.Limit.{Limit}
use Rattle.stored_units.specs.declared.units.Limit.TheVariants as limit
use Rattle.stored_units.specs.Stored.{max_tasks, max_stored, name_units}
use Rattle.stored_units.specs.Totals.{Storing, Submits, Stores, first_limit}
use Rattle.script_eval.specs.declared.state.EvalState.{EvalState}
use Rattle.script_eval.specs.declared.evaluation.EvalFault.{EvalFault}
use Rattle.script_eval.specs.Faults.{Meets, fault_for}
use Rattle.script_eval.specs.Answering.{Takes, with_units}

lt_true : (x y : ℕ) → x < y → nat_lt x y ≡ true
lt_true x y lt = grind (arith, nat_tests)

lt_false : (x y : ℕ) → y ≤ x → nat_lt x y ≡ false
lt_false x y le = grind (arith, nat_tests)

lt_of : (x y : ℕ) → nat_lt x y ≡ true → x < y
lt_of x y t = grind (arith, nat_tests)

le_of : (x y : ℕ) → nat_lt x y ≡ false → y ≤ x
le_of x y t = grind (arith, nat_tests)

-- ---- a limit that is met stays the first

pub met-first : (c s : ℕ) (xs ys : List Storing) (l : Limit) → first_limit c s xs ≡ Some l → first_limit c s (xs ++ ys) ≡ Some l
met-first c s [] ys l h = absurd (cc)
met-first c s (Submits n ∷ xs) ys l h = by_tests (nat_lt c max_tasks) (nat_lt max_stored (s + n)) refl refl (met-first (c + 1) (s + n) xs ys l)
  where
    by_tests : (t u : Bool) → nat_lt c max_tasks ≡ t → nat_lt max_stored (s + n) ≡ u → (first_limit (c + 1) (s + n) xs ≡ Some l → first_limit (c + 1) (s + n) (xs ++ ys) ≡ Some l) → first_limit c s ((Submits n ∷ xs) ++ ys) ≡ Some l
    by_tests false u e f on = rw e (rw e at h)
    by_tests true true e f on = rw (e, f) (rw (e, f) at h)
    by_tests true false e f on = rw (e, f) (on (rw (e, f) at h))
met-first c s (Stores n ∷ xs) ys l h = by_test (nat_lt max_stored (s + n)) refl (met-first c (s + n) xs ys l)
  where
    by_test : (u : Bool) → nat_lt max_stored (s + n) ≡ u → (first_limit c (s + n) xs ≡ Some l → first_limit c (s + n) (xs ++ ys) ≡ Some l) → first_limit c s ((Stores n ∷ xs) ++ ys) ≡ Some l
    by_test true f on = rw f (rw f at h)
    by_test false f on = rw f (on (rw f at h))

-- ---- where no limit is met

pub record HasRoom (c s n : ℕ) : Type 0 where
  pub call : c < max_tasks
  pub small : s + n ≤ max_stored

pub submits-room : (c s n : ℕ) (xs : List Storing) → first_limit c s (Submits n ∷ xs) ≡ None → HasRoom c s n
submits-room c s n xs h = by_tests (nat_lt c max_tasks) (nat_lt max_stored (s + n)) refl refl
  where
    by_tests : (t u : Bool) → nat_lt c max_tasks ≡ t → nat_lt max_stored (s + n) ≡ u → HasRoom c s n
    by_tests false u e f = absurd (let bad = rw e at h in cc)
    by_tests true true e f = absurd (let bad = rw (e, f) at h in cc)
    by_tests true false e f = record { call = lt_of c max_tasks e; small = le_of max_stored (s + n) f }

pub stores-room : (c s n : ℕ) (xs : List Storing) → first_limit c s (Stores n ∷ xs) ≡ None → s + n ≤ max_stored
stores-room c s n xs h = by_test (nat_lt max_stored (s + n)) refl
  where
    by_test : (u : Bool) → nat_lt max_stored (s + n) ≡ u → s + n ≤ max_stored
    by_test true f = absurd (let bad = rw f at h in cc)
    by_test false f = le_of max_stored (s + n) f

pub submits-on : (c s n : ℕ) → HasRoom c s n → (xs : List Storing) → first_limit c s (Submits n ∷ xs) ≡ first_limit (c + 1) (s + n) xs
submits-on c s n room xs = rw (lt_true c max_tasks room.call, lt_false max_stored (s + n) room.small) refl

pub stores-on : (c s n : ℕ) → s + n ≤ max_stored → (xs : List Storing) → first_limit c s (Stores n ∷ xs) ≡ first_limit c (s + n) xs
stores-on c s n small xs = rw (lt_false max_stored (s + n) small) refl

-- ---- what is counted up to 2^64 - 1

capped : (s n u : ℕ) → u ≡ min n (2 ^ 64 - 1) → nat_lt max_stored (s + n) ≡ nat_lt max_stored (s + u)
capped s n u is = by_test (nat_lt max_stored (s + u)) refl
  where
    by_test : (t : Bool) → nat_lt max_stored (s + u) ≡ t → nat_lt max_stored (s + n) ≡ nat_lt max_stored (s + u)
    by_test true e = let above = lt_of max_stored (s + u) e in lt_true max_stored (s + n) (omega arith) ∙ sym e
    by_test false e = let below = le_of max_stored (s + u) e in lt_false max_stored (s + n) (omega arith) ∙ sym e

uncapped : (s n u : ℕ) → u ≡ min n (2 ^ 64 - 1) → s + u ≤ max_stored → u ≡ n
uncapped s n u is small = omega arith

pub stores-capped : {A : Type 0} → (n u : ℕ) (before now : EvalState) (r : Result A Limit) → u ≡ min n (2 ^ 64 - 1) → Takes (Stores u ∷ []) before (with_units u before) now r → Takes (Stores n ∷ []) before (with_units n before) now r
stores-capped n u before now (Ok a) is h =
    let same : u ≡ n = uncapped before.stored n u is (stores-room (length before.tasks.items) before.stored u [] h.0) in
    (rw (← same) h.0, rw (← same) h.1)
stores-capped n u before now (Err l) is h = rw (capped before.stored n u is) h

pub submits-capped : {A : Type 0} → (n u : ℕ) (before now : EvalState) (r : Result A Limit) → u ≡ min n (2 ^ 64 - 1) → length before.tasks.items < max_tasks → Takes (Stores u ∷ []) before (with_units u before) now r → Takes (Submits n ∷ []) before (with_units n before) now r
submits-capped n u before now r is below h = by_result r (stores-capped n u before now r is h)
  where
    by_result : {A : Type 0} → (r : Result A Limit) → Takes (Stores n ∷ []) before (with_units n before) now r → Takes (Submits n ∷ []) before (with_units n before) now r
    by_result (Ok a) g = (rw (lt_true (length before.tasks.items) max_tasks below) g.0, g.1)
    by_result (Err l) g = rw (lt_true (length before.tasks.items) max_tasks below) g

pub no-call : (n c s : ℕ) → max_tasks ≤ c → first_limit c s (Submits n ∷ []) ≡ Some limit.Tasks
no-call n c s above = rw (lt_false c max_tasks above) refl

-- ---- faults

pub meets : (l : Limit) (fault : EvalFault) (met : Option Limit) → fault ≡ fault_for l → met ≡ Some l → Meets fault met
meets limit.Tasks fault met is h = rw is h
meets limit.Stored fault met is h = rw is h

-- ---- names

pub few-names : (names : List Text) → length names ≤ sum (map name_units names)
few-names [] = omega arith
few-names (n ∷ names) = let few = few-names names in grind (arith, common_steps, few)
