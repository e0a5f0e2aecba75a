-- Two apps of a well-formed script have different texts.
use Rattle.std.proofs.Common.{◌≡◌, ℕ, zero, suc, ◌+◌, ◌<◌, Bool, true, false, List, [], ◌∷◌, ◌++◌, length, map, take, Some, slice_get, bytes_eq, refl, sym, ap, ◌∙◌, subst, append-nil, arith}
use Rattle.std.specs.Prelude.{get_or, nat_lt, ◌&&◌, ◌||◌}
use Rattle.std.specs.List.{list_any}
use Rattle.std.proofs.lemmas.Bool.Decides.{nat_tests}
use Rattle.std.proofs.lemmas.Slice.Eq.{bytes_eq-Decides}
use Rattle.script_tree.specs.declared.token.Token.TheVariants as t
use Rattle.script_tree.specs.declared.token.Keyword.TheVariants as w
use Rattle.script_tree.specs.declared.tree.AppDef.{AppDef}
use Rattle.script_tree.specs.declared.body_kind.BodyKind.TheVariants.{OfMain}
use Rattle.script_tree.specs.declared.fault.Rule.TheVariants as rule
use Rattle.script_tree.specs.Lexing.{Text}
use Rattle.script_tree.specs.Canonical as canonical
use Rattle.script_tree.specs.Grammar.{Tree, IsSpellable}
use Rattle.script_tree.specs.Spelling.{Tokens}
use Rattle.script_tree.specs.Spelling as spelling
use Rattle.script_tree.specs.Marks.{Marks, Other, Joins, Main, when, apps_from, script}
use Rattle.script_tree.specs.Marks as marks
use Rattle.script_tree.specs.Rules.{State, behind, broken_if, faults_at, faults_from, faults, max_key_text, IsWellFormed}
use Rattle.print_parse_roundtrip.specs.Lexes.{Lexes, AreTokens}
use Rattle.print_parse_roundtrip.proofs.Turns.{by_cases}
use Rattle.print_parse_roundtrip.proofs.Pieces.{no_text}
use Rattle.print_parse_roundtrip.proofs.Blocks.{with_app}
use Rattle.app_texts.proofs.Bytes.{app_tokens}

-- ---- the name in a text

app_lexes : (a : AppDef) → AreTokens (spelling.app a) → Lexes (canonical.app a) (spelling.app a)
app_lexes a valid = subst (λ (z : Text). Lexes z (spelling.app a)) (append-nil (canonical.app a))
    (subst (λ (z : Tokens). Lexes (canonical.app a ++ []) z) (append-nil (spelling.app a)) (with_app a [] [] valid no_text))

one_reading : (x : Text) (ts us : Tokens) → Lexes x ts → Lexes x us → ts ≡ us
one_reading x ts us h k = sym (h.tokens (length x) 0 (omega arith)) ∙ k.tokens (length x) 0 (omega arith)

-- the first name of tokens
abbrev name_in : Tokens → Text
name_in [] = []
name_in (t.Name x ∷ ts) = x
name_in (_ ∷ ts) = name_in ts

named : (cached join : Bool) (name : Text) (rest : Tokens) → name_in (spelling.when cached (spelling.word w.Cached) ++ (spelling.when join (spelling.word w.Join) ++ (t.Keyword w.App ∷ t.Name name ∷ rest))) ≡ name
named true true name rest = refl
named true false name rest = refl
named false true name rest = refl
named false false name rest = refl

app_named : (a : AppDef) → name_in (spelling.app a) ≡ a.name
app_named a = named a.cached a.join a.name _

same_names : (a b : AppDef) → AreTokens (spelling.app a) → AreTokens (spelling.app b) → canonical.app a ≡ canonical.app b → a.name ≡ b.name
same_names a b of_a of_b same =
    let tokens = one_reading (canonical.app a) (spelling.app a) (spelling.app b) (app_lexes a of_a) (subst (λ (z : Text). Lexes z (spelling.app b)) (sym same) (app_lexes b of_b)) in
    sym (app_named a) ∙ (ap name_in tokens ∙ app_named b)

-- ---- the names of a script

nil_parts : {A : Type 0} (xs ys : List A) → xs ++ ys ≡ [] → (xs ≡ []) × (ys ≡ [])
nil_parts [] ys h = (refl, h)
nil_parts (x ∷ xs) ys h = absurd (cc)

nil_map : {A B : Type 0} (f : A → B) (xs : List A) → map f xs ≡ [] → xs ≡ []
nil_map f [] h = refl
nil_map f (x ∷ xs) h = absurd (cc)

not_broken : (b : Bool) → broken_if b rule.Repeated ≡ [] → b ≡ false
not_broken false h = refl
not_broken true h = absurd (cc)

module _ (apps : List AppDef) where
  -- marks that break no rule, from this state on
  abbrev Sound : State → Marks → Type 0
  Sound s [] = Unit {0}
  Sound s (m ∷ ms) = (faults_at apps s m ≡ []) × Sound (behind m s) ms

  abbrev behind_all : Marks → State → State
  behind_all [] s = s
  behind_all (m ∷ ms) s = behind_all ms (behind m s)

  sound_from : (places : List ℕ) (k : ℕ) (s : State) (ms : Marks) → faults_from apps places k s ms ≡ [] → Sound s ms
  sound_from places k s [] h = tt
  sound_from places k s (m ∷ ms) h =
      let both = nil_parts (map (λ kind. (get_or places k 0, kind)) (faults_at apps s m)) (faults_from apps places (suc k) (behind m s) ms) h in
      (nil_map _ (faults_at apps s m) both.0, sound_from places (suc k) (behind m s) ms both.1)

  sound_parts : (ms ns : Marks) (s : State) → Sound s (ms ++ ns) → Sound s ms × Sound (behind_all ms s) ns
  sound_parts [] ns s c = (tt, c)
  sound_parts (m ∷ ms) ns s c = let more = sound_parts ms ns (behind m s) c.1 in ((c.0, more.0), more.1)

  -- none of the first k apps has the app's name
  abbrev IsNew : ℕ → AppDef → Type 0
  IsNew k a = list_any (λ b. bytes_eq b.name a.name) (take k apps) ≡ false

  app_new : (k : ℕ) (a : AppDef) (s : State) → Sound s (marks.app k a) → IsNew k a
  app_new k a s c =
      let first = sound_parts (when a.cached Other) _ s c in
      let second = sound_parts (when a.join (Joins a.cached)) _ _ first.1 in
      let repeated = list_any (λ b. bytes_eq b.name a.name) (take k apps) in
      not_broken repeated (nil_parts (broken_if repeated rule.Repeated) (broken_if (a.cached && nat_lt max_key_text (length (canonical.app a))) rule.CachedTooLong) second.1.1.0).0

  apps_new : (j : ℕ) (rest : List AppDef) (s : State) (k : ℕ) (a : AppDef) → Sound s (apps_from j rest) → slice_get rest k ≡ Some a → IsNew (j + k) a
  apps_new j [] s k a c at = absurd (cc)
  apps_new j (e ∷ rest) s zero a c at =
      let same : e ≡ a = cc in
      let here : j ≡ j + zero = omega arith in
      subst (λ (n : ℕ). IsNew n a) here (subst (λ (z : AppDef). IsNew j z) same (app_new j e s (sound_parts (marks.app j e) (apps_from (suc j) rest) s c).0))
  apps_new j (e ∷ rest) s (suc k) a c at =
      let there : suc j + k ≡ j + suc k = omega arith in
      subst (λ (n : ℕ). IsNew n a) there (apps_new (suc j) rest _ k a (sound_parts (marks.app j e) (apps_from (suc j) rest) s c).1 at)

script_sound : (s : Tree) → IsWellFormed s → Sound s.0 (record { scopes = []; body = OfMain }) (script s)
unfolding faults
script_sound s h = sound_from s.0 [] 0 (record { scopes = []; body = OfMain }) (script s) h

new_name : (s : Tree) → IsWellFormed s → (k : ℕ) (a : AppDef) → slice_get s.0 k ≡ Some a → IsNew s.0 k a
new_name s h k a at =
    let place : 0 + k ≡ k = omega arith in
    subst (λ (n : ℕ). IsNew s.0 n a) place (apps_new s.0 0 s.0 _ k a (sound_parts s.0 (apps_from 0 s.0) (Main ∷ marks.block s.1) _ (script_sound s h)).0 at)

-- ---- both

or_true : (a b : Bool) → b ≡ true → (a || b) ≡ true
or_true true b h = refl
or_true false b h = h

-- an element that passes the test is among the first
passes_before : {A : Type 0} (p : A → Bool) (xs : List A) (i j : ℕ) (x : A) → slice_get xs i ≡ Some x → i < j → p x ≡ true → list_any p (take j xs) ≡ true
passes_before p [] i j x at le h = absurd (cc)
passes_before p (y ∷ ys) i zero x at le h = absurd (omega arith)
passes_before p (y ∷ ys) zero (suc j) x at le h =
    let same : y ≡ x = cc in
    ap (λ b. b || list_any p (take j ys)) (ap p same ∙ h)
passes_before p (y ∷ ys) (suc i) (suc j) x at le h = or_true (p y) (list_any p (take j ys)) (passes_before p ys i j x at (omega arith) h)

no_earlier : (tree : Tree) → IsWellFormed tree → (i j : ℕ) (a b : AppDef) → slice_get tree.0 i ≡ Some a → slice_get tree.0 j ≡ Some b → a.name ≡ b.name → i < j → ⊥
no_earlier tree sound i j a b at_i at_j same before =
    let hit : list_any (λ (c : AppDef). bytes_eq c.name b.name) (take j tree.0) ≡ true = passes_before (λ (c : AppDef). bytes_eq c.name b.name) tree.0 i j a at_i before ((bytes_eq-Decides a.name b.name).1 same) in
    let miss : list_any (λ (c : AppDef). bytes_eq c.name b.name) (take j tree.0) ≡ false = new_name tree sound j b at_j in
    absurd (cc)

below : (i j : ℕ) → nat_lt i j ≡ true → i < j
below i j e = grind (arith, nat_tests)

no_other : (i j : ℕ) → nat_lt i j ≡ false → nat_lt j i ≡ false → i ≡ j
no_other i j e f = grind (arith, nat_tests)

-- an app of a well-formed script is told by its name
pub name_once : (tree : Tree) → IsWellFormed tree → (i j : ℕ) (a b : AppDef) → slice_get tree.0 i ≡ Some a → slice_get tree.0 j ≡ Some b → a.name ≡ b.name → i ≡ j
name_once tree sound i j a b at_i at_j same = by_cases (nat_lt i j) (λ e. absurd (no_earlier tree sound i j a b at_i at_j same (below i j e)))
    (λ e. by_cases (nat_lt j i) (λ f. absurd (no_earlier tree sound j i b a at_j at_i (sym same) (below j i f))) (λ f. no_other i j e f))

-- and by its text
pub text_once : (tree : Tree) → IsSpellable tree → IsWellFormed tree → (i j : ℕ) (a b : AppDef) → slice_get tree.0 i ≡ Some a → slice_get tree.0 j ≡ Some b → canonical.app a ≡ canonical.app b → i ≡ j
text_once tree spellable sound i j a b at_i at_j same =
    name_once tree sound i j a b at_i at_j (same_names a b (app_tokens tree spellable i a at_i) (app_tokens tree spellable j b at_j) same)

pub texts_differ : (tree : Tree) → IsSpellable tree → IsWellFormed tree → (i j : ℕ) (a b : AppDef) → slice_get tree.0 i ≡ Some a → slice_get tree.0 j ≡ Some b → canonical.app a ≡ canonical.app b → a ≡ b
texts_differ tree spellable sound i j a b at_i at_j same =
    let place : i ≡ j = text_once tree spellable sound i j a b at_i at_j same in
    let both : Some a ≡ Some b = sym at_i ∙ (ap (slice_get tree.0) place ∙ at_j) in
    cc
