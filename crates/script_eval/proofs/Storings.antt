-- What is stored for a call with all below it, and for one call after another.
use Rattle.std.proofs.Common.{◌≡◌, ℕ, ◌<◌, ◌≤◌, Bool, true, false, List, [], ◌∷◌, ◌++◌, length, if◌then◌else◌, refl, sym, ◌∙◌, ap, arith, append_assoc}
use Rattle.std.specs.Prelude.{nat_lt}
use Rattle.std.proofs.lemmas.Bool.Decides.{nat_tests}
use Rattle.flow_meaning.specs.Sequential.{Task, Tasks}
use Rattle.body_requests.specs.Asks.{Each}
use Rattle.stored_units.specs.Stored.{call_units, outcome_units}
use Rattle.stored_units.specs.Totals.{Storing, Submits, Stores, Open, over_at, open_at, storings_in}

lt_true : (x y : ℕ) → x < y → nat_lt x y ≡ true
lt_true x y lt = grind (arith, nat_tests)

lt_false : (x y : ℕ) → y ≤ x → nat_lt x y ≡ false
lt_false x y le = grind (arith, nat_tests)

-- each path has more numbers than so many, or no fewer
abbrev pub Deeper : ℕ → Tasks → Type 0
Deeper n ts = Each (λ (t : Task). n < length t.path) ts

abbrev pub AsDeep : ℕ → Tasks → Type 0
AsDeep n ts = Each (λ (t : Task). n ≤ length t.path) ts

abbrev open_of : Task → Open
open_of t = record { depth = length t.path; units = outcome_units t.outcome }

-- ---- below a task

over_ends : (x : Open) (opened : List Open) → over_at 0 (opened ++ x ∷ []) ≡ over_at 0 opened ++ Stores x.units ∷ []
over_ends x [] = rw (lt_false x.depth 0 (omega arith)) refl
over_ends x (o ∷ opened) = rw (lt_false o.depth 0 (omega arith), over_ends x opened) refl

over_stays : (n : ℕ) (x : Open) (opened : List Open) → x.depth < n → over_at n (opened ++ x ∷ []) ≡ over_at n opened
over_stays n x [] lt = rw (lt_true x.depth n lt) refl
over_stays n x (o ∷ opened) lt = ap (λ (more : List Storing). if nat_lt o.depth n then [] else Stores o.units ∷ more) (over_stays n x opened lt)

open_stays : (n : ℕ) (x : Open) (opened : List Open) → x.depth < n → open_at n (opened ++ x ∷ []) ≡ open_at n opened ++ x ∷ []
open_stays n x [] lt = rw (lt_true x.depth n lt) refl
open_stays n x (o ∷ opened) lt = by_test (nat_lt o.depth n) (open_stays n x opened lt)
  where
    by_test : (t : Bool) → open_at n (opened ++ x ∷ []) ≡ open_at n opened ++ x ∷ [] → (if t then o ∷ (opened ++ x ∷ []) else open_at n (opened ++ x ∷ [])) ≡ (if t then o ∷ opened else open_at n opened) ++ x ∷ []
    by_test true h = refl
    by_test false h = h

-- what is opened below all of them is over at the end
below_open : (x : Open) (opened : List Open) (ts : Tasks) → Deeper x.depth ts → storings_in (opened ++ x ∷ []) ts ≡ storings_in opened ts ++ Stores x.units ∷ []
below_open x opened [] deeper = over_ends x opened
below_open x opened (t ∷ ts) deeper =
    let n = length t.path in
    let submit = Submits (call_units t.arguments t.names) in
    let more = storings_in (open_of t ∷ open_at n opened) ts in
    ap (λ (ys : List Storing). ys ++ submit ∷ storings_in (open_of t ∷ open_at n (opened ++ x ∷ [])) ts) (over_stays n x opened deeper.0)
    ∙ ap (λ (os : List Open). over_at n opened ++ submit ∷ storings_in (open_of t ∷ os) ts) (open_stays n x opened deeper.0)
    ∙ ap (λ (ys : List Storing). over_at n opened ++ submit ∷ ys) (below_open x (open_of t ∷ open_at n opened) ts deeper.1)
    ∙ sym (append_assoc (over_at n opened) (submit ∷ more) (Stores x.units ∷ []))

-- a call is submitted, then all below it is evaluated, then its outcome is stored
pub storings-call : (t : Task) (below : Tasks) → Deeper (length t.path) below → storings_in [] (t ∷ below) ≡ Submits (call_units t.arguments t.names) ∷ (storings_in [] below ++ Stores (outcome_units t.outcome) ∷ [])
storings-call t below deeper = ap (λ (ys : List Storing). Submits (call_units t.arguments t.names) ∷ ys) (below_open (open_of t) [] below deeper)

-- ---- one call after another

abbrev AllOver : ℕ → List Open → Type 0
AllOver n opened = Each (λ (o : Open). n ≤ o.depth) opened

over_all : (n : ℕ) (opened : List Open) → AllOver n opened → over_at n opened ≡ over_at 0 opened
over_all n [] all = refl
over_all n (o ∷ opened) all = rw (lt_false o.depth n all.0, lt_false o.depth 0 (omega arith), over_all n opened all.1) refl

open_none : (n : ℕ) (opened : List Open) → AllOver n opened → open_at n opened ≡ []
open_none n [] all = refl
open_none n (o ∷ opened) all = rw (lt_false o.depth n all.0) (open_none n opened all.1)

open_over : (n m : ℕ) (opened : List Open) → AllOver n opened → AllOver n (open_at m opened)
open_over n m [] all = tt
open_over n m (o ∷ opened) all = by_test (nat_lt o.depth m) (open_over n m opened all.1)
  where
    by_test : (t : Bool) → AllOver n (open_at m opened) → AllOver n (if t then o ∷ opened else open_at m opened)
    by_test true h = all
    by_test false h = h

after_open : (opened : List Open) (ts : Tasks) (t : Task) (below : Tasks) → AllOver (length t.path) opened → AsDeep (length t.path) ts → storings_in opened (ts ++ t ∷ below) ≡ storings_in opened ts ++ storings_in [] (t ∷ below)
after_open opened [] t below over deep =
    let n = length t.path in
    let submit = Submits (call_units t.arguments t.names) in
    ap (λ (ys : List Storing). ys ++ submit ∷ storings_in (open_of t ∷ open_at n opened) below) (over_all n opened over)
    ∙ ap (λ (os : List Open). over_at 0 opened ++ submit ∷ storings_in (open_of t ∷ os) below) (open_none n opened over)
after_open opened (s ∷ ts) t below over deep =
    let m = length s.path in
    let submit = Submits (call_units s.arguments s.names) in
    let more = storings_in (open_of s ∷ open_at m opened) ts in
    ap (λ (ys : List Storing). over_at m opened ++ submit ∷ ys) (after_open (open_of s ∷ open_at m opened) ts t below (deep.0, open_over (length t.path) m opened over) deep.1)
    ∙ sym (append_assoc (over_at m opened) (submit ∷ more) (storings_in [] (t ∷ below)))

pub storings-after : (ts : Tasks) (t : Task) (below : Tasks) → AsDeep (length t.path) ts → storings_in [] (ts ++ t ∷ below) ≡ storings_in [] ts ++ storings_in [] (t ∷ below)
storings-after ts t below deep = after_open [] ts t below tt deep
