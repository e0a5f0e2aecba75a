-- The apps of a well-formed script have few outputs.
use Rattle.std.proofs.Common.{◌≡◌, ◌<◌, ◌^◌, ℕ, zero, suc, Bool, true, false, not, List, [], ◌∷◌, ◌++◌, map, Option, Some, None, ℤ, pos, negsuc, refl, subst, arith}
use Rattle.std.specs.Prelude.{get_or, slice_get, nat_le, ◌&&◌}
use Rattle.std.proofs.lemmas.Bool.{leb-true}
use Rattle.script_tree.specs.declared.tree.AppDef.{AppDef}
use Rattle.script_tree.specs.Grammar.{Tree}
use Rattle.script_tree.specs.Marks.{Marks, Other, Joins, Defines, Main, HasOutputs, Outputs, when, in_parens, listed, parameters_from, outputs_part, apps_from, script}
use Rattle.script_tree.specs.Marks as marks
use Rattle.script_tree.specs.declared.body_kind.BodyKind.TheVariants.{OfMain}
use Rattle.script_tree.specs.declared.fault.Rule.TheVariants as rule
use Rattle.script_tree.specs.Rules.{State, behind, broken_if, faults_at, faults_from, faults, is_count, outputs_of, IsWellFormed}

nil_parts : {A : Type 0} (xs ys : List A) → xs ++ ys ≡ [] → (xs ≡ []) × (ys ≡ [])
nil_parts [] ys h = (refl, h)
nil_parts (x ∷ xs) ys h = absurd (cc)

nil_map : {A B : Type 0} (f : A → B) (xs : List A) → map f xs ≡ [] → xs ≡ []
nil_map f [] h = refl
nil_map f (x ∷ xs) h = absurd (cc)

abbrev FewOutputs : Option ℤ → Type 0
FewOutputs outputs = outputs_of outputs < 2 ^ 32

counted : (n : ℤ) → broken_if (not (is_count n)) rule.Outputs ≡ [] → FewOutputs (Some n)
counted (pos n) h = small n (nat_le 1 n) (nat_le n 16) refl refl h
  where
    small : (n : ℕ) (a b : Bool) → nat_le 1 n ≡ a → nat_le n 16 ≡ b → broken_if (not (a && b)) rule.Outputs ≡ [] → n < 2 ^ 32
    small n true true low high g = let most = leb-true n 16 high in omega (arith, most)
    small n true false low high g = absurd (cc)
    small n false b low high g = absurd (cc)
counted (negsuc n) h = absurd (cc)

module _ (apps : List AppDef) where
  -- marks that break no rule, from this state on
  abbrev Clean : State → Marks → Type 0
  Clean s [] = Unit {0}
  Clean s (m ∷ ms) = (faults_at apps s m ≡ []) × Clean (behind m s) ms

  abbrev behind_all : Marks → State → State
  behind_all [] s = s
  behind_all (m ∷ ms) s = behind_all ms (behind m s)

  clean_from : (places : List ℕ) (k : ℕ) (s : State) (ms : Marks) → faults_from apps places k s ms ≡ [] → Clean s ms
  clean_from places k s [] h = tt
  clean_from places k s (m ∷ ms) h =
      let both = nil_parts (map (λ kind. (get_or places k 0, kind)) (faults_at apps s m)) (faults_from apps places (suc k) (behind m s) ms) h in
      (nil_map _ (faults_at apps s m) both.0, clean_from places (suc k) (behind m s) ms both.1)

  clean_parts : (ms ns : Marks) (s : State) → Clean s (ms ++ ns) → Clean s ms × Clean (behind_all ms s) ns
  clean_parts [] ns s c = (tt, c)
  clean_parts (m ∷ ms) ns s c = let more = clean_parts ms ns (behind m s) c.1 in ((c.0, more.0), more.1)

  part_few : (outputs : Option ℤ) (s : State) → Clean s (outputs_part outputs) → FewOutputs outputs
  part_few None s c = omega arith
  part_few (Some n) s c = counted n c.1.0

  app_few : (k : ℕ) (a : AppDef) (s : State) → Clean s (marks.app k a) → FewOutputs a.outputs
  app_few k a s c =
      let first = clean_parts (when a.cached Other) _ s c in
      let second = clean_parts (when a.join (Joins a.cached)) _ _ first.1 in
      let fifth = clean_parts (in_parens (listed (parameters_from 0 a.parameters))) _ _ second.1.1.1 in
      part_few a.outputs _ (clean_parts (outputs_part a.outputs) (marks.block a.body) _ fifth.1).0

  apps_few : (j : ℕ) (rest : List AppDef) (s : State) (k : ℕ) (a : AppDef) → Clean s (apps_from j rest) → slice_get rest k ≡ Some a → FewOutputs a.outputs
  apps_few j [] s k a c at = absurd (cc)
  apps_few j (e ∷ rest) s zero a c at =
      let same : e ≡ a = cc in
      subst (λ (z : AppDef). FewOutputs z.outputs) same (app_few j e s (clean_parts (marks.app j e) (apps_from (suc j) rest) s c).0)
  apps_few j (e ∷ rest) s (suc k) a c at = apps_few (suc j) rest _ k a (clean_parts (marks.app j e) (apps_from (suc j) rest) s c).1 at

script_clean : (s : Tree) → IsWellFormed s → Clean s.0 (record { scopes = []; body = OfMain }) (script s)
unfolding faults
script_clean s h = clean_from s.0 [] 0 (record { scopes = []; body = OfMain }) (script s) h

pub few_outputs : (s : Tree) (k : ℕ) (a : AppDef) → IsWellFormed s → slice_get s.0 k ≡ Some a → outputs_of a.outputs < 2 ^ 32
few_outputs s k a h at = apps_few s.0 0 s.0 _ k a (clean_parts s.0 (apps_from 0 s.0) (Main ∷ marks.block s.1) _ (script_clean s h)).0 at
