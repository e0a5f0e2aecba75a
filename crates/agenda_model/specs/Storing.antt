-- What acts store in a graph.
use Rattle.std.specs.Prelude.{◌≡◌, ℕ, List, [], ◌∷◌}
use Rattle.script_tree.specs.declared.tree.AppDef.{AppDef}
use Rattle.dependency_graph.specs.Graphs.{Graph, CanAdd, CanWaitJoin, with_task, with_join}
use Rattle.flow_base.specs.declared.value.Value.{Value}
use Rattle.flow_meaning.specs.Inputs.{Path, inputs, distinct}
use Rattle.call_rules.specs.Calls.{Call, Dry, Joins, join_dry, awaited}
use Rattle.kernel_model.specs.Known.{Known, path_at, begin_at, apps_in}

-- ---- the calls of a join

-- these calls are added
abbrev pub with_tasks : List Call → Graph → Graph
with_tasks [] g = g
with_tasks (c ∷ cs) g = with_tasks cs (with_task c.path (inputs c.arguments) g)

-- they may be added, one after another
abbrev pub CanAddAll : Graph → List Call → Type 0
CanAddAll g [] = Unit {0}
CanAddAll g (c ∷ cs) = CanAdd g c.path (inputs c.arguments) × CanAddAll (with_task c.path (inputs c.arguments) g) cs

-- the calls that a join's body made are added, and what ends the join
abbrev pub with_join_run : Path → Dry → Graph → Graph
with_join_run path ran g = with_join path (distinct (awaited ran.0)) (with_tasks ran.1 g)

pub record CanStoreJoin (g : Graph) (path : Path) (ran : Dry) : Type 0 where
  pub calls : CanAddAll g ran.1
  pub waits : CanWaitJoin (with_tasks ran.1 g) path (distinct (awaited ran.0))

-- what the body of a join does may be stored
abbrev pub CanStoreJoinOf : Graph → Known → ℕ → List Value → Type 0
CanStoreJoinOf g w k values = (app : AppDef) → begin_at w k ≡ Joins app values → CanStoreJoin g (path_at w k) (join_dry (apps_in w) (path_at w k) app values)

-- and is stored
abbrev pub IsJoinStored : Graph → Known → ℕ → List Value → Graph → Type 0
IsJoinStored g w k values g' = (app : AppDef) → begin_at w k ≡ Joins app values → g' ≡ with_join_run (path_at w k) (join_dry (apps_in w) (path_at w k) app values) g
