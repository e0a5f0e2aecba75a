-- Paths in a table: which have a place there, and which are distinct.
use Rattle.std.proofs.Common.{◌≡◌, ℕ, zero, suc, ◌<◌, Bool, true, false, not, cond, List, [], ◌∷◌, ◌++◌, length, map, Option, Some, None, IsSome, get_or, bytes_eq, refl, sym, ◌∙◌, ap, subst, arith, true≢false, slice_get}
use Rattle.std.specs.List.{filter, list_any}
use Rattle.std.specs.Prelude.{option_map}
use Rattle.std.proofs.lemmas.Bool.{or_parts}
use Rattle.std.proofs.lemmas.Cmp.{nat_list_eq_equiv}
use Rattle.std.proofs.lemmas.Slice.Eq.{bytes_eq-Decides}
use Rattle.flow_meaning.specs.Inputs.{Path, distinct}
use Rattle.dependency_graph.specs.Graphs.{AreThere, places_in, with_place}
use Rattle.dependency_graph.specs.Places.{place_in, AreDistinct}
use Rattle.dependency_graph.proofs.Places.{place-within, place-of, distinct-places}
use Rattle.body_requests.specs.Asks.{Each}
use Rattle.call_rules.specs.Calls.{Call}
use Rattle.kernel_model.specs.Known.{no_call}
use Rattle.kernel_model.proofs.Places.{Distinct}
use Rattle.agenda_model.specs.Agendas.{paths_at}

abbrev pub paths_of : List Call → List Path
paths_of = map (λ (c : Call). c.path)

-- ---- the first of each path

front_lacks : (p q : Path) (rest : List Path) (b : Bool) → bytes_eq p q ≡ b → list_any (bytes_eq p) rest ≡ false → list_any (bytes_eq p) (cond (not b) (q ∷ rest) rest) ≡ false
front_lacks p q rest true e h = h
front_lacks p q rest false e h = rw e h

filter_lacks : (p : Path) (qs : List Path) → list_any (bytes_eq p) (filter (λ q. not (bytes_eq p q)) qs) ≡ false
filter_lacks p [] = refl
filter_lacks p (q ∷ qs) = front_lacks p q (filter (λ r. not (bytes_eq p r)) qs) (bytes_eq p q) refl (filter_lacks p qs)

filter_still : (f : Path → Bool) (p : Path) (qs : List Path) → list_any (bytes_eq p) qs ≡ false → list_any (bytes_eq p) (filter f qs) ≡ false
filter_still f p [] h = refl
filter_still f p (q ∷ qs) h =
    let parts = or_parts (bytes_eq p q) (list_any (bytes_eq p) qs) h in
    by (f q) parts.0 (filter_still f p qs parts.1)
  where
    by : (b : Bool) → bytes_eq p q ≡ false → list_any (bytes_eq p) (filter f qs) ≡ false → list_any (bytes_eq p) (cond b (q ∷ filter f qs) (filter f qs)) ≡ false
    by true e h = rw e h
    by false e h = h

filter_distinct : (f : Path → Bool) (qs : List Path) → AreDistinct qs → AreDistinct (filter f qs)
filter_distinct f [] h = tt
filter_distinct f (q ∷ qs) h = by (f q) (filter_still f q qs h.0) (filter_distinct f qs h.1)
  where
    by : (b : Bool) → list_any (bytes_eq q) (filter f qs) ≡ false → AreDistinct (filter f qs) → AreDistinct (cond b (q ∷ filter f qs) (filter f qs))
    by true lacks rest = (lacks, rest)
    by false lacks rest = rest

pub distinct-apart : (ps : List Path) → AreDistinct (distinct ps)
distinct-apart [] = tt
distinct-apart (p ∷ ps) = (filter_lacks p (distinct ps), filter_distinct (λ q. not (bytes_eq p q)) (distinct ps) (distinct-apart ps))

filter_each : (P : Path → Type 0) (f : Path → Bool) (qs : List Path) → Each P qs → Each P (filter f qs)
filter_each P f [] h = tt
filter_each P f (q ∷ qs) h = by (f q) (filter_each P f qs h.1)
  where
    by : (b : Bool) → Each P (filter f qs) → Each P (cond b (q ∷ filter f qs) (filter f qs))
    by true rest = (h.0, rest)
    by false rest = rest

pub distinct-each : (P : Path → Type 0) (ps : List Path) → Each P ps → Each P (distinct ps)
distinct-each P [] h = tt
distinct-each P (p ∷ ps) h = (h.0, filter_each P (λ q. not (bytes_eq p q)) (distinct ps) (distinct-each P ps h.1))

-- ---- paths that are there

pub are-there : (paths ps : List Path) → Each (λ (p : Path). IsSome (place_in paths p)) ps → AreThere paths ps
are-there paths [] h = tt
are-there paths (p ∷ ps) h = (h.0, are-there paths ps h.1)

abbrev behind : Bool → Option ℕ → Option ℕ
behind first place = cond first (Some 0) (option_map suc place)

behind_some : (first : Bool) (a b : Option ℕ) → (IsSome a → IsSome b) → IsSome (behind first a) → IsSome (behind first b)
behind_some true a b f h = h
behind_some false None b f h = absurd (true≢false (sym h))
behind_some false (Some n) None f h = f h
behind_some false (Some n) (Some m) f h = refl

-- one more path leaves those that are there
pub place-more : (ps : List Path) (p q : Path) → IsSome (place_in ps p) → IsSome (place_in (ps ++ q ∷ []) p)
place-more [] p q h = absurd (true≢false (sym h))
place-more (r ∷ ps) p q h = behind_some (bytes_eq p r) (place_in ps p) (place_in (ps ++ q ∷ []) p) (place-more ps p q) h

behind_here : (first : Bool) (b : Option ℕ) → IsSome b → IsSome (behind first b)
behind_here true b h = refl
behind_here false (Some n) h = refl
behind_here false None h = absurd (true≢false (sym h))

pub place-here : (ps : List Path) (q : Path) → IsSome (place_in (ps ++ q ∷ []) q)
place-here [] q = rw ((bytes_eq-Decides q q).1 refl) refl
place-here (r ∷ ps) q = behind_here (bytes_eq q r) (place_in (ps ++ q ∷ []) q) (place-here ps q)

none_at : {A : Type 0} → (f : A → Bool) (qs : List A) (p : A) (rest : List A) → list_any f (qs ++ p ∷ rest) ≡ false → f p ≡ false
none_at f [] p rest h = (or_parts (f p) (list_any f rest) h).0
none_at f (q ∷ qs) p rest h = none_at f qs p rest (or_parts (f q) (list_any f (qs ++ p ∷ rest)) h).1

-- the next of distinct paths isn't there yet
pub place-new : (ps : List Path) (p : Path) (rest : List Path) → AreDistinct (ps ++ p ∷ rest) → place_in ps p ≡ None
place-new [] p rest h = refl
place-new (q ∷ qs) p rest h =
    let other : bytes_eq p q ≡ false = nat_list_eq_equiv.symm p q ∙ none_at (bytes_eq q) qs p rest h.0 in
    rw (other, place-new qs p rest h.1) refl

-- ---- paths of calls

path_there : (cs : List Call) (k : ℕ) → k < length cs → slice_get (paths_of cs) k ≡ Some (get_or cs k no_call).path
path_there [] k within = absurd (omega arith)
path_there (c ∷ cs) zero within = refl
path_there (c ∷ cs) (suc k) within = path_there cs k (omega arith)

-- the path that a place of the table has
pub record IsPathAt (cs : List Call) (k : ℕ) (p : Path) : Type 0 where
  pub within : k < length cs
  pub is : (get_or cs k no_call).path ≡ p

pub path-read : (cs : List Call) (k : ℕ) (p : Path) → slice_get (paths_of cs) k ≡ Some p → IsPathAt cs k p
path-read [] k p is = absurd (cc)
path-read (c ∷ cs) zero p is = record { within = omega arith; is = cc }
path-read (c ∷ cs) (suc k) p is = let h = path-read cs k p is in record { within = (let less = h.within in omega arith); is = h.is }

pub calls-distinct : (cs : List Call) → Distinct cs → AreDistinct (paths_of cs)
calls-distinct cs once = distinct-places (paths_of cs) (λ i j p at also.
    let first = path-read cs i p at in
    let second = path-read cs j p also in
    once i j first.within second.within (first.is ∙ sym second.is))

-- a call's path has the call's place
pub place-call : (cs : List Call) (k : ℕ) → Distinct cs → k < length cs → place_in (paths_of cs) (get_or cs k no_call).path ≡ Some k
place-call cs k once within = place-of (paths_of cs) k (get_or cs k no_call).path (calls-distinct cs once) (path_there cs k within)

some_place : (found : Option ℕ) (k : ℕ) → found ≡ Some k → IsSome found
some_place found k is = rw is refl

pub call-there : (cs : List Call) (k : ℕ) (p : Path) → Distinct cs → k < length cs → (get_or cs k no_call).path ≡ p → IsSome (place_in (paths_of cs) p)
call-there cs k p once within is = subst (λ (q : Path). IsSome (place_in (paths_of cs) q)) is (some_place (place_in (paths_of cs) (get_or cs k no_call).path) k (place-call cs k once within))

-- the places of paths lead back to them
pub places-back : (cs : List Call) (ps : List Path) → AreThere (paths_of cs) ps → paths_at cs (places_in (paths_of cs) ps) ≡ ps
places-back cs [] h = refl
places-back cs (p ∷ ps) h = by (place_in (paths_of cs) p) refl h.0 (places-back cs ps h.1)
  where
    by : (place : Option ℕ) → place_in (paths_of cs) p ≡ place → IsSome place → paths_at cs (places_in (paths_of cs) ps) ≡ ps → paths_at cs (with_place place (places_in (paths_of cs) ps)) ≡ p ∷ ps
    by None e some rest = absurd (true≢false (sym some))
    by (Some n) e some rest =
        let here = path-read cs n p (place-within (paths_of cs) p n e).1 in
        ap (λ (q : Path). q ∷ paths_at cs (places_in (paths_of cs) ps)) here.is ∙ ap (λ (qs : List Path). p ∷ qs) rest
