-- The static rules, each on one mark. A fault is a place and the rule that is broken there.
use Rattle.std.specs.Prelude.{◌≡◌, ℕ, suc, ◌<◌, ◌≤◌, ◌⊎◌, Bool, true, false, not, ◌&&◌, if◌then◌else◌, List, [], ◌∷◌, ◌++◌, length, map, take, find, Contains, Option, Some, None, nat_eq, nat_lt, nat_le, bytes_eq, get_or, ℤ, pos, negsuc}
use Rattle.std.specs.List.{list_any}
use Rattle.script_tree.specs.declared.tree.BuiltIn.{BuiltIn}
use Rattle.script_tree.specs.declared.tree.BuiltIn.TheVariants.{Result, Exception}
use Rattle.script_tree.specs.declared.tree.AppDef.{AppDef}
use Rattle.script_tree.specs.declared.body_kind.BodyKind.{BodyKind}
use Rattle.script_tree.specs.declared.body_kind.BodyKind.TheVariants.{Plain, Join, OfMain}
use Rattle.script_tree.specs.declared.fault.Rule.{Rule}
use Rattle.script_tree.specs.declared.fault.Rule.TheVariants as rule
use Rattle.script_tree.specs.BuiltIns.{built_in_named, arity}
use Rattle.script_tree.specs.Canonical as canonical
use Rattle.script_tree.specs.Faults.{rule_number}
use Rattle.script_tree.specs.Grammar.{Tree}
use Rattle.script_tree.specs.Marks.{Name, Mark, Opens, Closes, Declares, MakesVisible, Uses, Applies, Calls, NamesApp, MainOnly, Writes, Joins, Defines, Takes, HasOutputs, Outputs, Main, Marks, script}

-- the names that are visible, a list for each open block, and the body
pub record State : Type 0 where
  pub scopes : List (List Name)
  pub body : BodyKind

abbrev pub is_visible : Name → State → Bool
is_visible name s = list_any (list_any (bytes_eq name)) s.scopes

abbrev pub is_main : BodyKind → Bool
is_main OfMain = true
is_main _ = false

abbrev pub is_plain : BodyKind → Bool
is_plain Plain = true
is_plain _ = false

-- ---- what comes behind a mark

abbrev pub shown : Name → List (List Name) → List (List Name)
shown name [] = (name ∷ []) ∷ []
shown name (names ∷ outer) = (name ∷ names) ∷ outer

abbrev pub inner_closed : List (List Name) → List (List Name)
inner_closed [] = []
inner_closed (names ∷ outer) = outer

abbrev pub body_of : AppDef → BodyKind
body_of a = if a.join then Join else Plain

abbrev pub behind : Mark → State → State
behind (Opens names) s = record s { scopes = names ∷ s.scopes }
behind Closes s = record s { scopes = inner_closed s.scopes }
behind (MakesVisible name) s = record s { scopes = shown name s.scopes }
behind (Takes k name) s = record s { scopes = shown name s.scopes }
behind (Defines k a) s = record { scopes = [] ∷ []; body = body_of a }
behind Main s = record { scopes = []; body = OfMain }
behind _ s = s

-- ---- the rules that a mark breaks

abbrev pub broken_if : Bool → Rule → List Rule
broken_if true broken = broken ∷ []
broken_if false broken = []

abbrev pub waits : BuiltIn → Bool
waits Result = true
waits Exception = true
waits _ = false

abbrev pub built_in_faults : State → Option BuiltIn → ℕ → List Rule
built_in_faults s None n = rule.UnknownName ∷ []
built_in_faults s (Some b) n = broken_if (not (nat_eq (arity b) n)) rule.Arity ++ broken_if (waits b && not (is_main s.body)) rule.WaitOutsideMain

abbrev pub outputs_of : Option ℤ → ℕ
outputs_of (Some (pos n)) = n
outputs_of _ = 0

abbrev pub call_faults : Option AppDef → ℕ → ℕ → List Rule
call_faults None n names = rule.UnknownApp ∷ []
call_faults (Some a) n names = broken_if (not (nat_eq (length a.parameters) n)) rule.Arity ++ broken_if (not (nat_eq (outputs_of a.outputs) names)) rule.Outputs

abbrev pub max_count : ℕ
max_count = 16

abbrev pub is_count : ℤ → Bool
is_count (pos n) = nat_le 1 n && nat_le n max_count
is_count (negsuc n) = false

abbrev pub max_key_text : ℕ
max_key_text = 16384

abbrev pub is_join : BodyKind → Bool
is_join Join = true
is_join _ = false

module _ (apps : List AppDef) where
  abbrev pub app_named : Name → Option AppDef
  app_named name = find (λ a. bytes_eq a.name name) apps

  abbrev pub faults_at : State → Mark → List Rule
  faults_at s (Uses name) = broken_if (not (is_visible name s)) rule.UnknownName
  faults_at s (Applies name n) = built_in_faults s (built_in_named name) n
  faults_at s Calls = broken_if (is_plain s.body) rule.CallInApp
  faults_at s (NamesApp name n names) = call_faults (app_named name) n names
  faults_at s MainOnly = broken_if (not (is_main s.body)) rule.WaitOutsideMain
  faults_at s Writes = broken_if (not (is_plain s.body)) rule.Outputs
  faults_at s (Declares name) = broken_if (is_visible name s) rule.Repeated
  faults_at s (Takes k name) = broken_if (nat_eq k max_count) rule.Arity ++ broken_if (is_visible name s) rule.Repeated
  faults_at s (Joins cached) = broken_if cached rule.CachedJoin
  faults_at s (Defines k a) = broken_if (list_any (λ b. bytes_eq b.name a.name) (take k apps)) rule.Repeated ++ broken_if (a.cached && nat_lt max_key_text (length (canonical.app a))) rule.CachedTooLong
  faults_at s HasOutputs = broken_if (is_join s.body) rule.Outputs
  faults_at s (Outputs n) = broken_if (not (is_count n)) rule.Outputs
  faults_at s _ = []

  -- the faults of the marks from the k-th token on, each with its token's place
  abbrev pub faults_from : List ℕ → ℕ → State → Marks → List (ℕ × Rule)
  faults_from places k s [] = []
  faults_from places k s (m ∷ ms) = map (λ broken. (get_or places k 0, broken)) (faults_at s m) ++ faults_from places (suc k) (behind m s) ms

-- every fault of a script whose tokens stand at these places; a place that isn't there is 0
unfoldable pub faults : Tree → List ℕ → List (ℕ × Rule)
faults tree places = faults_from tree.0 places 0 (record { scopes = []; body = OfMain }) (script tree)

abbrev pub IsWellFormed : Tree → Type 0
IsWellFormed tree = faults tree [] ≡ []

-- the least place, and there the rule of the least number
abbrev pub IsCheckFault : Tree → List ℕ → Rule → ℕ → Type 0
IsCheckFault tree places broken place =
    Contains (faults tree places) (place, broken)
    × ((other : Rule) (at : ℕ) → Contains (faults tree places) (at, other) → (place < at) ⊎ ((place ≡ at) × (rule_number broken ≤ rule_number other)))
