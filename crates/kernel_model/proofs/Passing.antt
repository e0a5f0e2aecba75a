-- The limits that a kernel is past.
use Rattle.std.proofs.Common.{◌≡◌, ℕ, ◌<◌, ◌≤◌, Bool, true, false, length, Option, Some, None, refl, ◌∙◌, ap, arith}
use Rattle.std.specs.Prelude.{if◌then◌else◌, nat_lt, ◌↔◌}
use Rattle.std.proofs.lemmas.Bool.Decides.{nat_tests}
use Rattle.stored_units.specs.declared.units.Limit.{Limit}
use Rattle.stored_units.specs.declared.units.Limit.TheVariants as limit
use Rattle.stored_units.specs.Stored.{max_tasks, max_stored}
use Rattle.kernel_model.specs.Known.{Known}
use Rattle.kernel_model.specs.Limits.{stored, passed_by, passed}

-- ---- by numbers, for any two limits

-- the same with the limits left open
abbrev passed_with : ℕ → ℕ → ℕ → ℕ → Option Limit
passed_with most large calls units = if nat_lt most calls then Some limit.Tasks else (if nat_lt large units then Some limit.Stored else None)

data Passes (most large calls units : ℕ) (r : Option Limit) : Type 0 where
  many : most < calls → r ≡ Some limit.Tasks → Passes most large calls units r
  large_one : calls ≤ most → large < units → r ≡ Some limit.Stored → Passes most large calls units r
  within : calls ≤ most → units ≤ large → r ≡ None → Passes most large calls units r

lt_of : (a b : ℕ) → nat_lt a b ≡ true → a < b
lt_of a b t = grind (arith, nat_tests)

le_of : (a b : ℕ) → nat_lt a b ≡ false → b ≤ a
le_of a b t = grind (arith, nat_tests)

passes : (most large calls units : ℕ) → Passes most large calls units (passed_with most large calls units)
passes most large calls units = by_tests (nat_lt most calls) (nat_lt large units) refl refl
  where
    by_tests : (s t : Bool) → nat_lt most calls ≡ s → nat_lt large units ≡ t → Passes most large calls units (passed_with most large calls units)
    by_tests true t p q = many (lt_of most calls p) (rw p refl)
    by_tests false true p q = large_one (le_of most calls p) (lt_of large units q) (rw (p, q) refl)
    by_tests false false p q = within (le_of most calls p) (le_of large units q) (rw (p, q) refl)

none_with : (most large calls units : ℕ) → (passed_with most large calls units ≡ None) ↔ ((calls ≤ most) × (units ≤ large))
none_with most large calls units = by_case (passes most large calls units)
  where
    by_case : Passes most large calls units (passed_with most large calls units) → (passed_with most large calls units ≡ None) ↔ ((calls ≤ most) × (units ≤ large))
    by_case (many lt e) = (λ h. absurd (cc), λ g. absurd (let le = g.0 in omega arith))
    by_case (large_one le lt e) = (λ h. absurd (cc), λ g. absurd (let small = g.1 in omega arith))
    by_case (within le small e) = (λ h. (le, small), λ g. e)

tasks_with : (most large calls units : ℕ) → (passed_with most large calls units ≡ Some limit.Tasks) ↔ (most < calls)
tasks_with most large calls units = by_case (passes most large calls units)
  where
    by_case : Passes most large calls units (passed_with most large calls units) → (passed_with most large calls units ≡ Some limit.Tasks) ↔ (most < calls)
    by_case (many lt e) = (λ h. lt, λ g. e)
    by_case (large_one le lt e) = (λ h. absurd (cc), λ g. absurd (omega arith))
    by_case (within le small e) = (λ h. absurd (cc), λ g. absurd (omega arith))

stored_with : (most large calls units : ℕ) → (passed_with most large calls units ≡ Some limit.Stored) ↔ ((calls ≤ most) × (large < units))
stored_with most large calls units = by_case (passes most large calls units)
  where
    by_case : Passes most large calls units (passed_with most large calls units) → (passed_with most large calls units ≡ Some limit.Stored) ↔ ((calls ≤ most) × (large < units))
    by_case (many lt e) = (λ h. absurd (cc), λ g. absurd (let le = g.0 in omega arith))
    by_case (large_one le lt e) = (λ h. (le, lt), λ g. e)
    by_case (within le small e) = (λ h. absurd (cc), λ g. absurd (let large_units = g.1 in omega arith))

-- ---- the limits of a run

pub passed_by-none : (calls units : ℕ) → (passed_by calls units ≡ None) ↔ ((calls ≤ max_tasks) × (units ≤ max_stored))
passed_by-none calls units = none_with max_tasks max_stored calls units

pub passed_by-tasks : (calls units : ℕ) → (passed_by calls units ≡ Some limit.Tasks) ↔ (max_tasks < calls)
passed_by-tasks calls units = tasks_with max_tasks max_stored calls units

pub passed_by-stored : (calls units : ℕ) → (passed_by calls units ≡ Some limit.Stored) ↔ ((calls ≤ max_tasks) × (max_stored < units))
passed_by-stored calls units = stored_with max_tasks max_stored calls units

pub passed-none : (w : Known) → (passed w ≡ None) ↔ ((length w.calls ≤ max_tasks) × (stored w ≤ max_stored))
passed-none w = passed_by-none (length w.calls) (stored w)

pub passed-tasks : (w : Known) → (passed w ≡ Some limit.Tasks) ↔ (max_tasks < length w.calls)
passed-tasks w = passed_by-tasks (length w.calls) (stored w)

pub passed-stored : (w : Known) → (passed w ≡ Some limit.Stored) ↔ ((length w.calls ≤ max_tasks) × (max_stored < stored w))
passed-stored w = passed_by-stored (length w.calls) (stored w)

-- where as many calls and units are there, so are the limits
pub passed-same : (w v : Known) → length v.calls ≡ length w.calls → stored v ≡ stored w → passed v ≡ passed w
passed-same w v calls units = ap (λ (n : ℕ). passed_by n (stored v)) calls ∙ ap (passed_by (length w.calls)) units

pub passed-stays : (w v : Known) → length v.calls ≡ length w.calls → stored v ≡ stored w → passed w ≡ None → passed v ≡ None
passed-stays w v calls units none = passed-same w v calls units ∙ none
