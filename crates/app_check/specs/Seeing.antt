-- What a check keeps of the marks that it has seen: the visible names in one list, and the least fault so far.
use Rattle.std.specs.Prelude.{ℕ, Bool, ◌&&◌, ◌||◌, if◌then◌else◌, List, [], ◌∷◌, ◌++◌, length, take, drop, fold, Option, Some, None, nat_eq, nat_lt, bytes_eq, get_or}
use Rattle.std.specs.List.{list_any}
use Rattle.script_tree.specs.declared.tree.AppDef.{AppDef}
use Rattle.script_tree.specs.Marks.{Name, Mark, Opens, Closes, MakesVisible, Defines, Takes, Main, Marks}
use Rattle.script_tree.specs.declared.body_kind.BodyKind.{BodyKind}
use Rattle.script_tree.specs.declared.body_kind.BodyKind.TheVariants.{OfMain}
use Rattle.script_tree.specs.declared.fault.Rule.{Rule}
use Rattle.script_tree.specs.Faults.{rule_number}
use Rattle.script_tree.specs.Rules.{State, body_of, faults_at}
use Rattle.app_index.specs.Names.{with_name}

pub record Seen : Type 0 where
  -- the apps of the script
  pub apps : List AppDef
  -- the places of the tokens to come
  pub places : List ℕ
  -- the visible names, each once, in the order of their declarations
  pub visible : List Name
  -- for each open block, the innermost first, how many names were visible where it began
  pub outer : List ℕ
  pub body : BodyKind
  -- the place of the least fault and the rule that is broken there
  pub least : Option (ℕ × Rule)

-- ---- names

abbrev pub shows : Name → Seen → Seen
shows name z = record z { visible = with_name z.visible name }

-- a block begins, in which these names are visible
abbrev pub opens : List Name → Seen → Seen
opens names z = record z { outer = length z.visible ∷ z.outer; visible = fold with_name z.visible names }

abbrev pub innermost : List ℕ → ℕ
innermost [] = 0
innermost (n ∷ ns) = n

abbrev pub closes : Seen → Seen
closes z = record z { visible = take (innermost z.outer) z.visible; outer = drop 1 z.outer }

abbrev pub begins : BodyKind → Seen → Seen
begins body z = record z { visible = []; outer = []; body = body }

-- ---- faults

-- by place, and at one place by the number of the rule
abbrev pub is_less : ℕ × Rule → ℕ × Rule → Bool
is_less f g = nat_lt f.0 g.0 || (nat_eq f.0 g.0 && nat_lt (rule_number f.1) (rule_number g.1))

abbrev pub lesser : Option (ℕ × Rule) → ℕ × Rule → Option (ℕ × Rule)
lesser None f = Some f
lesser (Some g) f = if is_less f g then Some f else Some g

-- where the next token stands; a place that isn't there is 0
abbrev pub place_of : Seen → ℕ
place_of z = get_or z.places 0 0

abbrev pub notes : Rule → Seen → Seen
notes broken z = record z { least = lesser z.least (place_of z, broken) }

abbrev pub all_noted : Seen → List Rule → Seen
all_noted = fold (λ z broken. notes broken z)

-- the names and the body, as the rules see them
abbrev pub state_of : Seen → State
state_of z = record { scopes = z.visible ∷ []; body = z.body }

-- ---- one mark

abbrev pub passes : Seen → Seen
passes z = record z { places = drop 1 z.places }

abbrev pub behind : Mark → Seen → Seen
behind (Opens names) z = opens names z
behind Closes z = closes z
behind (MakesVisible name) z = shows name z
behind (Takes k name) z = shows name z
behind (Defines k a) z = begins (body_of a) z
behind Main z = begins OfMain z
behind _ z = z

unfoldable pub see : Seen → Mark → Seen
see z m = passes (behind m (all_noted z (faults_at z.apps (state_of z) m)))

unfoldable pub seen : Seen → Marks → Seen
seen = fold see

-- before the first token
abbrev pub nothing_seen : List AppDef → List ℕ → Seen
nothing_seen apps places = record { apps = apps; places = places; visible = []; outer = []; body = OfMain; least = None }
