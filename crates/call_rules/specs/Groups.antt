-- The tasks of an evaluation, call by call.
use Rattle.std.specs.Prelude.{◌≡◌, ℕ, suc, ◌<◌, List, [], ◌∷◌, ◌++◌, length, Option, Some, IsSome, slice_get}
use Rattle.flow_base.specs.declared.outcome.Outcome.{Outcome}
use Rattle.flow_base.specs.declared.outcome.Outcome.TheVariants as o
use Rattle.script_tree.specs.declared.tree.AppDef.{AppDef}
use Rattle.flow_meaning.specs.Inputs.{Path, inputs}
use Rattle.flow_meaning.specs.Sequential.{Task, Tasks, Made, outcome_at}
use Rattle.body_requests.specs.Asks.{Each, IsPlain}
use Rattle.call_rules.specs.Orders.{Ascending}
use Rattle.call_rules.specs.Calls.{Losses, Call, child, found, task_of, call_in, calls_below, awaits, call_outcome}

-- ---- paths of settled tasks

-- each of these tasks is settled
abbrev pub AllKnown : Tasks → List Path → Type 0
AllKnown ts [] = Unit {0}
AllKnown ts (p ∷ ps) = IsSome (outcome_at ts p) × AllKnown ts ps

abbrev pub IsValue : Option Outcome → Type 0
IsValue (Some (o.Value value files)) = Unit {0}
IsValue _ = ⊥

-- each of these tasks has a value
abbrev pub AllValues : Tasks → List Path → Type 0
AllValues ts [] = Unit {0}
AllValues ts (p ∷ ps) = IsValue (outcome_at ts p) × AllValues ts ps

-- the call is evaluated
pub record HasTask (ts : Tasks) (c : Call) : Type 0 where
  pub outcome : Outcome
  pub at : found ts c.path ≡ Some (task_of c outcome)

-- ---- paths of calls, and those below

pub record IsUnder (caller : Path) (n : ℕ) (p : Path) : Type 0 where
  pub number : ℕ
  pub rest : Path
  pub is : p ≡ caller ++ suc number ∷ rest
  pub below : number < n

-- its value is plain
abbrev pub IsPlainOutcome : Outcome → Type 0
IsPlainOutcome (o.Value value files) = IsPlain value
IsPlainOutcome (o.Failed exception) = Unit {0}

-- ---- what holds of each task of an evaluation

-- the path of an earlier call of the same caller
pub record IsEarlier (p q : Path) : Type 0 where
  pub caller : Path
  pub number : ℕ
  pub before : ℕ
  pub this : p ≡ child caller number
  pub other : q ≡ child caller before
  pub less : before < number

-- a task is what its rule gives by the outcomes among these, and so are the calls of its body there
pub record IsRuled (apps : List AppDef) (losses : Losses) (ts : Tasks) (t : Task) : Type 0 where
  pub same : t ≡ task_of (call_in t) t.outcome
  pub earlier : Each (IsEarlier t.path) (inputs t.arguments)
  pub inputs : AllKnown ts (inputs t.arguments)
  pub awaited : AllKnown ts (awaits apps ts (call_in t))
  pub outcome : t.outcome ≡ call_outcome apps losses ts (call_in t)
  pub calls : (i : ℕ) (c : Call) → slice_get (calls_below apps ts (call_in t)) i ≡ Some c → HasTask ts c
  pub plain : IsPlainOutcome t.outcome

-- a path is that of one of the first calls, or of a call of the body of a task
pub data IsPlaced (apps : List AppDef) (ts : Tasks) (caller : Path) (n : ℕ) (p : Path) : Type 0 where
  first : (i : ℕ) → i < n → p ≡ child caller i → IsPlaced apps ts caller n p
  below : (t : Task) (i : ℕ) → found ts t.path ≡ Some t → i < length (calls_below apps ts (call_in t)) → p ≡ child t.path i → IsPlaced apps ts caller n p

-- what a caller made
pub record IsGroup (apps : List AppDef) (losses : Losses) (caller : Path) (m : Made) : Type 0 where
  pub ascending : Ascending m.tasks
  pub has : (i : ℕ) → i < m.calls → IsSome (found m.tasks (child caller i))
  pub under : (p : Path) (t : Task) → found m.tasks p ≡ Some t → IsUnder caller m.calls p
  pub ruled : (p : Path) (t : Task) → found m.tasks p ≡ Some t → IsRuled apps losses m.tasks t
  pub placed : (p : Path) (t : Task) → found m.tasks p ≡ Some t → IsPlaced apps m.tasks caller m.calls p
