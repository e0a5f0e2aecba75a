-- What is known of each mark of a well-formed script.
use Rattle.std.proofs.Common.{◌≡◌, ℕ, zero, suc, List, [], ◌∷◌, ◌++◌, map, Some, slice_get, refl, ◌∙◌, subst}
use Rattle.std.specs.Prelude.{get_or}
use Rattle.script_tree.specs.declared.tree.AppDef.{AppDef}
use Rattle.script_tree.specs.Grammar.{Tree}
use Rattle.script_tree.specs.Marks.{Name, Mark, Marks, Other, Opens, Closes, Declares, MakesVisible, Uses, Applies, Calls, NamesApp, MainOnly, Writes, Joins, Defines, Takes, HasOutputs, Outputs, Main, when, in_parens, listed, parameters_from, outputs_part, apps_from, script}
use Rattle.script_tree.specs.Marks as marks
use Rattle.script_tree.specs.declared.body_kind.BodyKind.{BodyKind}
use Rattle.script_tree.specs.declared.body_kind.BodyKind.TheVariants.{OfMain}
use Rattle.script_tree.specs.Rules.{State, behind, body_of, faults_at, faults_from, faults, IsWellFormed}
use Rattle.body_requests.specs.Asks.{Each}
use Rattle.body_requests.proofs.Inner.{IsInner, Inner, block_inner, parameters_inner, outputs_inner}

nil_parts : {A : Type 0} (xs ys : List A) → xs ++ ys ≡ [] → (xs ≡ []) × (ys ≡ [])
nil_parts [] ys h = (refl, h)
nil_parts (x ∷ xs) ys h = absurd (cc)

nil_map : {A B : Type 0} (f : A → B) (xs : List A) → map f xs ≡ [] → xs ≡ []
nil_map f [] h = refl
nil_map f (x ∷ xs) h = absurd (cc)

module _ (apps : List AppDef) where
  -- a mark that breaks no rule in this body
  abbrev pub InBody : BodyKind → Mark → Type 0
  InBody b m = (s : State) × (s.body ≡ b) × (faults_at apps s m ≡ [])

  -- marks that break no rule, from this state on
  abbrev pub Clean : State → Marks → Type 0
  Clean s [] = Unit {0}
  Clean s (m ∷ ms) = (faults_at apps s m ≡ []) × Clean (behind m s) ms

  abbrev pub behind_all : Marks → State → State
  behind_all [] s = s
  behind_all (m ∷ ms) s = behind_all ms (behind m s)

  pub clean_from : (places : List ℕ) (k : ℕ) (s : State) (ms : Marks) → faults_from apps places k s ms ≡ [] → Clean s ms
  clean_from places k s [] h = tt
  clean_from places k s (m ∷ ms) h =
      let both = nil_parts (map (λ kind. (get_or places k 0, kind)) (faults_at apps s m)) (faults_from apps places (suc k) (behind m s) ms) h in
      (nil_map _ (faults_at apps s m) both.0, clean_from places (suc k) (behind m s) ms both.1)

  pub clean_parts : (ms ns : Marks) (s : State) → Clean s (ms ++ ns) → Clean s ms × Clean (behind_all ms s) ns
  clean_parts [] ns s c = (tt, c)
  clean_parts (m ∷ ms) ns s c = let more = clean_parts ms ns (behind m s) c.1 in ((c.0, more.0), more.1)

  body_behind : (m : Mark) (s : State) → IsInner m → (behind m s).body ≡ s.body
  body_behind (Opens names) s h = refl
  body_behind Closes s h = refl
  body_behind (MakesVisible name) s h = refl
  body_behind (Takes k name) s h = refl
  body_behind (Defines k a) s h = absurd h
  body_behind Main s h = absurd h
  body_behind _ s h = refl

  pub body_behind_all : (ms : Marks) (s : State) → Inner ms → (behind_all ms s).body ≡ s.body
  body_behind_all [] s h = refl
  body_behind_all (m ∷ ms) s h = body_behind_all ms (behind m s) h.1 ∙ body_behind m s h.0

  -- each mark of a part of a body
  pub clean_each : (b : BodyKind) (ms : Marks) (s : State) → s.body ≡ b → Inner ms → Clean s ms → Each (InBody b) ms
  clean_each b [] s is h c = tt
  clean_each b (m ∷ ms) s is h c = ((s, is, c.0), clean_each b ms (behind m s) (body_behind m s h.0 ∙ is) h.1 c.1)

  -- ---- the parts of a script

  app_clean : (k : ℕ) (a : AppDef) (s : State) → Clean s (marks.app k a) → Each (InBody (body_of a)) (marks.block a.body)
  app_clean k a s c =
      let first = clean_parts (when a.cached Other) _ s c in
      let second = clean_parts (when a.join (Joins a.cached)) _ _ first.1 in
      let fifth = clean_parts (in_parens (listed (parameters_from 0 a.parameters))) _ _ second.1.1.1 in
      let sixth = clean_parts (outputs_part a.outputs) (marks.block a.body) _ fifth.1 in
      clean_each (body_of a) (marks.block a.body) _
      (body_behind_all (outputs_part a.outputs) _ (outputs_inner a.outputs) ∙ body_behind_all (in_parens (listed (parameters_from 0 a.parameters))) _ (parameters_inner a.parameters))
      (block_inner a.body) sixth.1

  apps_clean : (j : ℕ) (rest : List AppDef) (s : State) (k : ℕ) (a : AppDef) → Clean s (apps_from j rest) → slice_get rest k ≡ Some a → Each (InBody (body_of a)) (marks.block a.body)
  apps_clean j [] s k a c at = absurd (cc)
  apps_clean j (e ∷ rest) s zero a c at =
      let same : e ≡ a = cc in
      let first = clean_parts (marks.app j e) (apps_from (suc j) rest) s c in
      subst (λ (z : AppDef). Each (InBody (body_of z)) (marks.block z.body)) same (app_clean j e s first.0)
  apps_clean j (e ∷ rest) s (suc k) a c at = apps_clean (suc j) rest _ k a (clean_parts (marks.app j e) (apps_from (suc j) rest) s c).1 at

script_clean : (s : Tree) → IsWellFormed s → Clean s.0 (record { scopes = []; body = OfMain }) (script s)
unfolding faults
script_clean s h = clean_from s.0 [] 0 (record { scopes = []; body = OfMain }) (script s) h

-- each mark of main
pub main_clean : (s : Tree) → IsWellFormed s → Each (InBody s.0 OfMain) (marks.block s.1)
main_clean s h =
    let parts = clean_parts s.0 (apps_from 0 s.0) (Main ∷ marks.block s.1) _ (script_clean s h) in
    clean_each s.0 OfMain (marks.block s.1) _ refl (block_inner s.1) parts.1.1

-- each mark of an app's body
pub body_clean : (s : Tree) (k : ℕ) (a : AppDef) → IsWellFormed s → slice_get s.0 k ≡ Some a → Each (InBody s.0 (body_of a)) (marks.block a.body)
body_clean s k a h at = apps_clean s.0 0 s.0 _ k a (clean_parts s.0 (apps_from 0 s.0) (Main ∷ marks.block s.1) _ (script_clean s h)).0 at
