-- What a callback waits for has a path that isn't empty, so it is a task that is there.
use Rattle.std.proofs.Common.{◌≡◌, ◌≢◌, ℕ, ◌<◌, Bool, true, false, not, List, [], ◌∷◌, length, Option, Some, None, IsSome, bytes_eq, refl, sym, ◌∙◌, ap, subst, arith}
use Rattle.std.specs.Prelude.{Result}
use Rattle.std.specs.List.{filter}
use Rattle.std.proofs.lemmas.Slice.Eq.{bytes_eq-Decides}
use Rattle.flow_base.specs.declared.outcome.Exception.{Exception}
use Rattle.flow_base.specs.declared.outcome.Outcome.{Outcome}
use Rattle.flow_meaning.specs.Inputs.{Path, distinct}
use Rattle.flow_meaning.specs.Meaning.{Done}
use Rattle.flow_meaning.specs.Sequential.{Tasks, outcome_at}
use Rattle.body_requests.specs.Asks.{Each}
use Rattle.history_laws.specs.Reads.{lost}
use Rattle.call_rules.specs.Calls.{child, awaited, join_dry}
use Rattle.call_rules.specs.Groups.{IsEarlier, IsPlainOutcome, AllKnown}
use Rattle.call_rules.specs.Told.{whole, IsChild}
use Rattle.call_rules.proofs.Tasks.{length-child, found-known}
use Rattle.call_rules.proofs.Plain.{IsPlainKnown, ArePlain}
use Rattle.call_rules.proofs.Evaluating.{whole-ruled, join-waits}
use Rattle.kernel_model.specs.Known.{Known, call_at, path_at, life_at, inputs_at, known, apps_in}
use Rattle.kernel_model.specs.Invariants.{FollowsEvaluation, Inv}
use Rattle.kernel_model.proofs.Knowing.{known-whole, ruled-at}

-- ---- lists of paths

abbrev pub IsNamed : Path → Type 0
IsNamed p = p ≢ []

each_filter : (P : Path → Type 0) (test : Path → Bool) (ps : List Path) → Each P ps → Each P (filter test ps)
each_filter P test [] each = tt
each_filter P test (p ∷ ps) each = by_test (test p) refl (each_filter P test ps each.1)
  where
    by_test : (t : Bool) → test p ≡ t → Each P (filter test ps) → Each P (filter test (p ∷ ps))
    by_test true e rest = rw e (each.0, rest)
    by_test false e rest = rw e rest

each_distinct : (P : Path → Type 0) (ps : List Path) → Each P ps → Each P (distinct ps)
each_distinct P [] each = tt
each_distinct P (p ∷ ps) each = (each.0, each_filter P (λ q. not (bytes_eq p q)) (distinct ps) (each_distinct P ps each.1))

each_map : (P Q : Path → Type 0) → ((p : Path) → P p → Q p) → (ps : List Path) → Each P ps → Each Q ps
each_map P Q f [] each = tt
each_map P Q f (p ∷ ps) each = (f p each.0, each_map P Q f ps each.1)

known_filter : (ts : Tasks) (test : Path → Bool) (ps : List Path) → AllKnown ts ps → AllKnown ts (filter test ps)
known_filter ts test [] h = tt
known_filter ts test (p ∷ ps) h = by_test (test p) refl (known_filter ts test ps h.1)
  where
    by_test : (t : Bool) → test p ≡ t → AllKnown ts (filter test ps) → AllKnown ts (filter test (p ∷ ps))
    by_test true e rest = rw e (h.0, rest)
    by_test false e rest = rw e rest

pub known-distinct : (ts : Tasks) (ps : List Path) → AllKnown ts ps → AllKnown ts (distinct ps)
known-distinct ts [] h = tt
known-distinct ts (p ∷ ps) h = (h.0, known_filter ts (λ q. not (bytes_eq p q)) (distinct ps) (known-distinct ts ps h.1))

known_but : (ts : Tasks) (p : Path) → IsSome (outcome_at ts p) → (ps : List Path) → AllKnown ts (filter (λ q. not (bytes_eq p q)) ps) → AllKnown ts ps
known_but ts p holds [] h = tt
known_but ts p holds (q ∷ ps) h = by_test (bytes_eq p q) refl (known_but ts p holds ps)
  where
    by_test : (t : Bool) → bytes_eq p q ≡ t → (AllKnown ts (filter (λ r. not (bytes_eq p r)) ps) → AllKnown ts ps) → AllKnown ts (q ∷ ps)
    by_test true e further = (subst (λ (r : Path). IsSome (outcome_at ts r)) ((bytes_eq-Decides p q).0 e) holds, further (rw e at h))
    by_test false e further = let both : IsSome (outcome_at ts q) × AllKnown ts (filter (λ r. not (bytes_eq p r)) ps) = rw e at h in (both.0, further both.1)

pub distinct-known : (ts : Tasks) (ps : List Path) → AllKnown ts (distinct ps) → AllKnown ts ps
distinct-known ts [] h = tt
distinct-known ts (p ∷ ps) h = (h.0, distinct-known ts ps (known_but ts p h.0 (distinct ps) h.1))

-- ---- the paths of calls

child_named : (p caller : Path) (i : ℕ) → p ≡ child caller i → IsNamed p
child_named p caller i is empty = let long = length-child caller i in let short : length (child caller i) ≡ 0 = ap length (sym is ∙ empty) in omega (arith, long, short)

module _ (w : Known) (inv : Inv w) where
  now_is : FollowsEvaluation (lost w.past) w
  now_is = inv.holds.right.evaluates (lost w.past) inv.holds.right.fits

  -- values that are known are plain
  known_plain : (ps : List Path) → AllKnown (known w) ps → ArePlain (known w) ps
  known_plain [] h = tt
  known_plain (p ∷ ps) h = (by_outcome (outcome_at (known w) p) refl h.0, known_plain ps h.1)
    where
      by_outcome : (r : Option Outcome) → outcome_at (known w) p ≡ r → IsSome r → IsPlainKnown (outcome_at (known w) p)
      by_outcome None e there = absurd (cc)
      by_outcome (Some outcome) e there =
          let f = found-known (whole w.tree (lost w.past)) p outcome (known-whole w (lost w.past) inv.holds.tracks now_is p outcome e) in
          rw e (subst IsPlainOutcome f.1.1 ((whole-ruled w.tree inv.holds.told (lost w.past)).ruled p f.0 f.1.0).plain)

  -- the inputs of a call are earlier calls
  pub inputs-named : (k : ℕ) → k < length w.calls → Each IsNamed (inputs_at w k)
  inputs-named k within =
      let ruled = ruled-at w (lost w.past) inv.holds.told now_is k within (now_is.placed k within) in
      each_map (IsEarlier (path_at w k)) IsNamed (λ q h. child_named q h.caller h.before h.other) (inputs_at w k) ruled.earlier

  -- what a join returned are its own calls
  pub awaited-named : (k : ℕ) (result : Result Done Exception) → (life_at w k).ran ≡ Some result → Each IsNamed (distinct (awaited result))
  awaited-named k result ran =
      let j = inv.holds.joins.ran k result ran in
      let waits = join-waits w.tree inv.holds.told (lost w.past) (call_at w k) (known w) j.app j.values j.begins (known_plain (inputs_at w k) j.inputs) in
      let those = each_map (IsChild (path_at w k) (length (join_dry (apps_in w) (path_at w k) j.app j.values).1)) IsNamed (λ q h. child_named q (path_at w k) h.number h.is) (awaited (join_dry (apps_in w) (path_at w k) j.app j.values).0) waits in
      each_distinct IsNamed (awaited result) (subst (λ (r : Result Done Exception). Each IsNamed (awaited r)) (sym j.gave) those)
