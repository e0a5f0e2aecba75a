-- The least fault that is kept is that of the rules.
use Rattle.std.proofs.Common.{◌≡◌, ℕ, suc, ◌+◌, not, ◌&&◌, List, [], ◌∷◌, ◌++◌, map, get_or, drop, fold, Option, Some, None, nat_eq, refl, sym, ap, ◌∙◌, subst, get_or-drop, drop-drop, arith}
use Rattle.std.proofs.Math.Bool.{or-false}
use Rattle.std.proofs.lemmas.List.Sums.{fold-append}
use Rattle.script_tree.specs.declared.tree.AppDef.{AppDef}
use Rattle.script_tree.specs.declared.tree.BuiltIn.{BuiltIn}
use Rattle.script_tree.specs.BuiltIns.{built_in_named, arity}
use Rattle.script_tree.specs.Grammar.{Tree, PlacedTree}
use Rattle.script_tree.specs.Marks.{Mark, Uses, Applies, Calls, MainOnly, Writes, Declares, Takes, HasOutputs, Main, Marks, script}
use Rattle.script_tree.specs.declared.body_kind.BodyKind.{BodyKind}
use Rattle.script_tree.specs.declared.body_kind.BodyKind.TheVariants.{OfMain}
use Rattle.script_tree.specs.declared.fault.Rule.{Rule}
use Rattle.script_tree.specs.declared.fault.Rule.TheVariants as rule
use Rattle.script_tree.specs.Rules.{State, faults, faults_at, faults_from, broken_if, is_visible, is_plain, is_main, is_join, waits, built_in_faults, max_count}
use Rattle.script_tree.specs.Rules as rules
use Rattle.app_check.specs.Seeing.{Seen, all_noted, behind, lesser, nothing_seen, notes, passes, place_of, see, seen, state_of}
use Rattle.app_check.specs.Checking.{Finds, least_of}
use Rattle.app_check.proofs.Faults.{LeastOf, least_of_all}
use Rattle.app_check.proofs.Names.{Fits, agree, fits_behind, body_behind}
use Rattle.app_check.proofs.Seeing.{seen_none, seen_one}

-- ---- the same faults, where the same names are visible

built_in_same : (s t : State) → s.body ≡ t.body → (b : Option BuiltIn) (n : ℕ) → built_in_faults s b n ≡ built_in_faults t b n
built_in_same s t e None n = refl
built_in_same s t e (Some b) n = ap (λ (body : BodyKind). broken_if (not (nat_eq (arity b) n)) rule.Arity ++ broken_if (waits b && not (is_main body)) rule.WaitOutsideMain) e

module _ (apps : List AppDef) where
  same_faults : (s t : State) → ((x : List ℕ) → is_visible x s ≡ is_visible x t) → s.body ≡ t.body → (m : Mark) → faults_at apps s m ≡ faults_at apps t m
  same_faults s t h e (Uses name) = ap (λ b. broken_if (not b) rule.UnknownName) (h name)
  same_faults s t h e (Applies name n) = built_in_same s t e (built_in_named name) n
  same_faults s t h e Calls = ap (λ body. broken_if (is_plain body) rule.CallInApp) e
  same_faults s t h e MainOnly = ap (λ body. broken_if (not (is_main body)) rule.WaitOutsideMain) e
  same_faults s t h e Writes = ap (λ body. broken_if (not (is_plain body)) rule.Outputs) e
  same_faults s t h e (Declares name) = ap (λ b. broken_if b rule.Repeated) (h name)
  same_faults s t h e (Takes k name) = ap (λ b. broken_if (nat_eq k max_count) rule.Arity ++ broken_if b rule.Repeated) (h name)
  same_faults s t h e HasOutputs = ap (λ body. broken_if (is_join body) rule.Outputs) e
  same_faults s t h e _ = refl

  -- ---- the kept faults

  abbrev placed : ℕ → List Rule → List (ℕ × Rule)
  placed at = map (λ broken. (at, broken))

  noted : (z : Seen) (broken : List Rule) → all_noted z broken ≡ record z { least = fold lesser z.least (placed (place_of z) broken) }
  noted z [] = refl
  noted z (k ∷ ks) = noted (notes k z) ks

  abbrev after : Mark → Seen → Option (ℕ × Rule) → Seen
  after m z least = passes (behind m (record z { least = least }))

  apps_after : (m : Mark) (z : Seen) (least : Option (ℕ × Rule)) → (after m z least).apps ≡ z.apps
  apps_after Main z least = refl
  apps_after _ z least = refl

  places_after : (m : Mark) (z : Seen) (least : Option (ℕ × Rule)) → (after m z least).places ≡ drop 1 z.places
  places_after Main z least = refl
  places_after _ z least = refl

  least_after : (m : Mark) (z : Seen) (least : Option (ℕ × Rule)) → (after m z least).least ≡ least
  least_after Main z least = refl
  least_after _ z least = refl

  -- what is kept of the marks before the k-th, against the rules' state there
  record Follows (places : List ℕ) (k : ℕ) (s : State) (z : Seen) : Type 0 where
    pub apps_are : z.apps ≡ apps
    pub places_are : z.places ≡ drop k places
    pub fits : Fits s.scopes z.visible z.outer
    pub body_is : s.body ≡ z.body

  follows_after : (places : List ℕ) (k : ℕ) (s : State) (z : Seen) (m : Mark) (least : Option (ℕ × Rule)) → Follows places k s z → Follows places (suc k) (rules.behind m s) (after m z least)
  follows_after places k s z m least h = let next : k + 1 ≡ suc k = omega arith in record {
    apps_are = apps_after m z least ∙ h.apps_are;
    places_are = places_after m z least ∙ (ap (drop 1) h.places_are ∙ (drop-drop 1 k places ∙ ap (λ n. drop n places) next));
    fits = fits_behind m s (record z { least = least }) h.fits;
    body_is = body_behind m s (record z { least = least }) h.body_is;
  }

  -- the faults of one mark
  abbrev faults_here : List ℕ → ℕ → State → Mark → List (ℕ × Rule)
  faults_here places k s m = placed (get_or places k 0) (faults_at apps s m)

  place_is : (places : List ℕ) (k : ℕ) (s : State) (z : Seen) → Follows places k s z → place_of z ≡ get_or places k 0
  place_is places k s z h =
      let same : k + 0 ≡ k = omega arith in
      ap (λ (l : List ℕ). get_or l 0 0) h.places_are ∙ (get_or-drop k places 0 0 ∙ ap (λ n. get_or places n 0) same)

  rules_are : (places : List ℕ) (k : ℕ) (s : State) (z : Seen) (m : Mark) → Follows places k s z → faults_at z.apps (state_of z) m ≡ faults_at apps s m
  rules_are places k s z m h =
      ap (λ l. faults_at l (state_of z) m) h.apps_are
      ∙ sym (same_faults s (state_of z) (λ x. agree s.scopes z.visible z.outer h.fits x ∙ sym (or-false _)) h.body_is m)

  seen_mark : (places : List ℕ) (k : ℕ) (s : State) (z : Seen) (m : Mark) → Follows places k s z → see z m ≡ after m z (fold lesser z.least (faults_here places k s m))
  unfolding see
  seen_mark places k s z m h =
      ap (λ y. passes (behind m y)) (noted z (faults_at z.apps (state_of z) m))
      ∙ (ap (λ broken. after m z (fold lesser z.least (placed (place_of z) broken))) (rules_are places k s z m h)
      ∙ ap (λ at. after m z (fold lesser z.least (placed at (faults_at apps s m)))) (place_is places k s z h))

  least_seen : (places : List ℕ) (k : ℕ) (s : State) (z : Seen) (ms : Marks) → Follows places k s z → (seen z ms).least ≡ fold lesser z.least (faults_from apps places k s ms)
  least_seen places k s z [] h = ap (λ (y : Seen). y.least) (seen_none z)
  least_seen places k s z (m ∷ ms) h =
      let next : Option (ℕ × Rule) = fold lesser z.least (faults_here places k s m) in
      ap (λ (y : Seen). y.least) (seen_one z m ms ∙ ap (λ y. seen y ms) (seen_mark places k s z m h))
      ∙ (least_seen places (suc k) (rules.behind m s) (after m z next) ms (follows_after places k s z m next h)
      ∙ (ap (λ least. fold lesser least (faults_from apps places (suc k) (rules.behind m s) ms)) (least_after m z next)
      ∙ sym (fold-append lesser z.least (faults_here places k s m) (faults_from apps places (suc k) (rules.behind m s) ms))))

  -- ---- a rule is broken at some places, or at none

  none_here : (at to : ℕ) (broken : List Rule) (fs gs : List (ℕ × Rule)) → placed at broken ++ fs ≡ [] → (fs ≡ [] → gs ≡ []) → placed to broken ++ gs ≡ []
  none_here at to [] fs gs e h = h e
  none_here at to (one ∷ broken) fs gs e h = absurd (cc)

  none_anywhere : (places others : List ℕ) (k n : ℕ) (s : State) (ms : Marks) → faults_from apps places k s ms ≡ [] → faults_from apps others n s ms ≡ []
  none_anywhere places others k n s [] e = refl
  none_anywhere places others k n s (m ∷ ms) e = none_here (get_or places k 0) (get_or others n 0) (faults_at apps s m) _ _ e (none_anywhere places others (suc k) (suc n) (rules.behind m s) ms)

-- ---- the whole script

abbrev at_first : State
at_first = record { scopes = []; body = OfMain }

faults_are : (tree : Tree) (places : List ℕ) → faults tree places ≡ faults_from tree.0 places 0 at_first (script tree)
unfolding faults
faults_are tree places = refl

follows_first : (apps : List AppDef) (places : List ℕ) → Follows apps places 0 at_first (nothing_seen apps places)
follows_first apps places = record { apps_are = refl; places_are = refl; fits = refl; body_is = refl }

least_is : (s : PlacedTree) → least_of s ≡ fold lesser None (faults s.tree s.places)
least_is s =
    least_seen s.tree.0 s.places 0 at_first (nothing_seen s.tree.0 s.places) (script s.tree) (follows_first s.tree.0 s.places)
    ∙ ap (fold lesser None) (sym (faults_are s.tree s.places))

well_formed : (tree : Tree) (places : List ℕ) → faults tree places ≡ [] → faults tree [] ≡ []
well_formed tree places e = faults_are tree [] ∙ none_anywhere tree.0 places [] 0 0 at_first (script tree) (sym (faults_are tree places) ∙ e)

finds_by : (s : PlacedTree) (least : Option (ℕ × Rule)) → LeastOf (faults s.tree s.places) least → Finds s least
finds_by s None h = well_formed s.tree s.places h
finds_by s (Some f) h = h

pub finds : (s : PlacedTree) → Finds s (least_of s)
finds s = subst (Finds s) (sym (least_is s)) (finds_by s (fold lesser None (faults s.tree s.places)) (least_of_all (faults s.tree s.places)))
