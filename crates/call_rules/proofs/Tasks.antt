-- Lists of tasks, looked up by paths.
use Rattle.std.proofs.Common.{◌≡◌, ◌≢◌, ℕ, zero, suc, ◌+◌, ◌<◌, Bool, true, false, List, [], ◌∷◌, ◌++◌, length, map, Option, Some, None, IsSome, refl, sym, ◌∙◌, ap, arith, bytes_eq, length-append}
use Rattle.std.specs.Prelude.{option_map, slice_get}
use Rattle.std.proofs.lemmas.Slice.Eq.{bytes_eq-Decides}
use Rattle.std.proofs.lemmas.List.{append_cancel_left}
use Rattle.flow_base.specs.declared.outcome.Outcome.{Outcome}
use Rattle.script_tree.specs.declared.tree.AppDef.{AppDef}
use Rattle.flow_meaning.specs.Inputs.{Path}
use Rattle.flow_meaning.specs.Sequential.{Task, Tasks, outcome_at}
use Rattle.call_rules.specs.Calls.{child, found, Call, task_of}
use Rattle.call_rules.specs.Groups.{AllKnown, HasTask}

pub found-front : (ts us : Tasks) (p : Path) (t : Task) → found ts p ≡ Some t → found (ts ++ us) p ≡ Some t
found-front [] us p t h = absurd (cc)
found-front (s ∷ ts) us p t h = by_test (bytes_eq s.path p) refl (found-front ts us p t)
  where
    by_test : (b : Bool) → bytes_eq s.path p ≡ b → (found ts p ≡ Some t → found (ts ++ us) p ≡ Some t) → found ((s ∷ ts) ++ us) p ≡ Some t
    by_test true e further = rw e (rw e at h)
    by_test false e further = rw e (further (rw e at h))

pub found-behind : (ts us : Tasks) (p : Path) → found ts p ≡ None → found (ts ++ us) p ≡ found us p
found-behind [] us p h = refl
found-behind (s ∷ ts) us p h = by_test (bytes_eq s.path p) refl (found-behind ts us p)
  where
    by_test : (b : Bool) → bytes_eq s.path p ≡ b → (found ts p ≡ None → found (ts ++ us) p ≡ found us p) → found ((s ∷ ts) ++ us) p ≡ found us p
    by_test true e further = absurd (let bad = rw e at h in cc)
    by_test false e further = rw e (further (rw e at h))

pub found-outcome : (ts : Tasks) (p : Path) → outcome_at ts p ≡ option_map (λ (t : Task). t.outcome) (found ts p)
found-outcome [] p = refl
found-outcome (s ∷ ts) p = by_test (bytes_eq s.path p) refl (found-outcome ts p)
  where
    by_test : (b : Bool) → bytes_eq s.path p ≡ b → outcome_at ts p ≡ option_map (λ (t : Task). t.outcome) (found ts p) → outcome_at (s ∷ ts) p ≡ option_map (λ (t : Task). t.outcome) (found (s ∷ ts) p)
    by_test true e further = rw e refl
    by_test false e further = rw e further

-- what is found has the path
pub found-path : (ts : Tasks) (p : Path) (t : Task) → found ts p ≡ Some t → t.path ≡ p
found-path [] p t h = absurd (cc)
found-path (s ∷ ts) p t h = by_test (bytes_eq s.path p) refl (found-path ts p t)
  where
    by_test : (b : Bool) → bytes_eq s.path p ≡ b → (found ts p ≡ Some t → t.path ≡ p) → t.path ≡ p
    by_test true e further = let same : s ≡ t = (let g = rw e at h in cc) in ap (λ (x : Task). x.path) (sym same) ∙ (bytes_eq-Decides s.path p).0 e
    by_test false e further = further (rw e at h)

pub found-first : (t : Task) (ts : Tasks) → found (t ∷ ts) t.path ≡ Some t
found-first t ts = rw ((bytes_eq-Decides t.path t.path).1 refl) refl

pub found-other : (t : Task) (ts : Tasks) (p : Path) → t.path ≢ p → found (t ∷ ts) p ≡ found ts p
found-other t ts p ne = by_test (bytes_eq t.path p) refl
  where
    by_test : (b : Bool) → bytes_eq t.path p ≡ b → found (t ∷ ts) p ≡ found ts p
    by_test true e = absurd (ne ((bytes_eq-Decides t.path p).0 e))
    by_test false e = rw e refl

pub outcome-found : (ts : Tasks) (p : Path) (t : Task) → found ts p ≡ Some t → outcome_at ts p ≡ Some t.outcome
outcome-found ts p t h = found-outcome ts p ∙ ap (option_map (λ (x : Task). x.outcome)) h

pub some-of : {A : Type 0} → (r : Option A) (a : A) → r ≡ Some a → IsSome r
some-of r a e = rw e refl

pub found-some : (ts : Tasks) (p : Path) → IsSome (found ts p) → (t : Task) × (found ts p ≡ Some t)
found-some ts p h = by_found (found ts p) refl h
  where
    by_found : (r : Option Task) → found ts p ≡ r → IsSome r → (t : Task) × (found ts p ≡ Some t)
    by_found (Some t) e there = (t, e)
    by_found None e there = absurd (cc)

pub known-found : (ts : Tasks) (p : Path) → IsSome (found ts p) → IsSome (outcome_at ts p)
known-found ts p h = let f = found-some ts p h in some-of (outcome_at ts p) _ (outcome-found ts p f.0 f.1)

pub found-known : (ts : Tasks) (p : Path) (outcome : Outcome) → outcome_at ts p ≡ Some outcome → (t : Task) × ((found ts p ≡ Some t) × (t.outcome ≡ outcome))
found-known ts p outcome h = by_found (found ts p) refl
  where
    by_found : (r : Option Task) → found ts p ≡ r → (t : Task) × ((found ts p ≡ Some t) × (t.outcome ≡ outcome))
    by_found (Some t) e = (t, (e, let g = outcome-found ts p t e in cc))
    by_found None e = absurd (let g : outcome_at ts p ≡ None = found-outcome ts p ∙ ap (option_map (λ (x : Task). x.outcome)) e in cc)

-- ---- all that one has, the other has

abbrev pub Keeps : Tasks → Tasks → Type 0
Keeps ts us = (p : Path) (t : Task) → found ts p ≡ Some t → found us p ≡ Some t

pub keeps-front : (ts us : Tasks) → Keeps ts (ts ++ us)
keeps-front ts us p t h = found-front ts us p t h

pub keeps-outcome : (ts us : Tasks) → Keeps ts us → (p : Path) (outcome : Outcome) → outcome_at ts p ≡ Some outcome → outcome_at us p ≡ Some outcome
keeps-outcome ts us keeps p outcome h =
    let f = found-known ts p outcome h in
    outcome-found us p f.0 (keeps p f.0 f.1.0) ∙ ap Some f.1.1

pub keeps-known : (ts us : Tasks) → Keeps ts us → (ps : List Path) → AllKnown ts ps → AllKnown us ps
keeps-known ts us keeps [] h = tt
keeps-known ts us keeps (p ∷ ps) h = (by_outcome (outcome_at ts p) refl h.0, keeps-known ts us keeps ps h.1)
  where
    by_outcome : (r : Option Outcome) → outcome_at ts p ≡ r → IsSome r → IsSome (outcome_at us p)
    by_outcome (Some outcome) e there = some-of (outcome_at us p) outcome (keeps-outcome ts us keeps p outcome e)
    by_outcome None e there = absurd (cc)

pub keeps-task : (ts us : Tasks) → Keeps ts us → (c : Call) → HasTask ts c → HasTask us c
keeps-task ts us keeps c h = record { outcome = h.outcome; at = keeps c.path (task_of c h.outcome) h.at }

-- ---- paths of calls, and those below

head-same : (x y : ℕ) (xs ys : List ℕ) → x ∷ xs ≡ y ∷ ys → x ≡ y
head-same x y xs ys e = cc

-- calls of one caller are told apart by their numbers
pub number-same : (caller : Path) (i j : ℕ) (ps qs : Path) → caller ++ suc i ∷ ps ≡ caller ++ suc j ∷ qs → i ≡ j
number-same caller i j ps qs e =
    let rest = append_cancel_left caller (suc i ∷ ps) (suc j ∷ qs) e in
    let heads : suc i ≡ suc j = head-same (suc i) (suc j) ps qs rest in
    omega arith

pub child-same : (caller : Path) (i j : ℕ) → child caller i ≡ child caller j → i ≡ j
child-same caller i j e = number-same caller i j [] [] e

pub length-child : (caller : Path) (i : ℕ) → length (child caller i) ≡ length caller + 1
length-child caller i = length-append caller (suc i ∷ [])

-- what is below a call is longer
pub below-longer : (path : Path) (i : ℕ) (rest : Path) → path ≡ path ++ suc i ∷ rest → ⊥
below-longer path i rest e = let long = length-append path (suc i ∷ rest) in let same = ap length e in absurd (omega arith)

-- the caller of a call
pub parent-same : (xs ys : Path) (i j : ℕ) → child xs i ≡ child ys j → xs ≡ ys
parent-same [] [] i j e = refl
parent-same [] (y ∷ ys) i j e = let short = ap length e in let long = length-append ys (suc j ∷ []) in absurd (omega arith)
parent-same (x ∷ xs) [] i j e = let short = ap length e in let long = length-append xs (suc i ∷ []) in absurd (omega arith)
parent-same (x ∷ xs) (y ∷ ys) i j e =
    let first = head-same x y (child xs i) (child ys j) e in
    let rest : child xs i ≡ child ys j = tail_same x y (child xs i) (child ys j) e in
    rw (first, parent-same xs ys i j rest) refl
  where
    tail_same : (a b : ℕ) (cs ds : List ℕ) → a ∷ cs ≡ b ∷ ds → cs ≡ ds
    tail_same a b cs ds e = cc

pub slice-within : {A : Type 0} → (xs : List A) (i : ℕ) (x : A) → slice_get xs i ≡ Some x → i < length xs
slice-within [] i x e = absurd (cc)
slice-within (y ∷ xs) zero x e = omega arith
slice-within (y ∷ xs) (suc i) x e = let lt = slice-within xs i x e in omega arith

pub same-some : {A : Type 0} → (a b : A) → Some a ≡ Some b → a ≡ b
same-some a b e = cc
