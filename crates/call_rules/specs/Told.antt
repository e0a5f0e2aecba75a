-- The futures that bodies name, and the whole evaluation.
use Rattle.std.specs.Prelude.{◌≡◌, ℕ, ◌<◌, List, [], Result, Some, slice_get}
use Rattle.flow_base.specs.declared.value.Value.{Value}
use Rattle.flow_base.specs.declared.outcome.Exception.{Exception}
use Rattle.script_tree.specs.declared.tree.AppDef.{AppDef}
use Rattle.script_tree.specs.Grammar.{Tree}
use Rattle.flow_meaning.specs.Act as walk
use Rattle.flow_meaning.specs.Inputs.{Path}
use Rattle.flow_meaning.specs.Meaning.{Done}
use Rattle.flow_meaning.specs.Operators.{Text}
use Rattle.flow_meaning.specs.Sequential.{Main, Tasks, apply, main_ran}
use Rattle.flow_meaning.specs.Walk.{main_act}
use Rattle.body_requests.specs.Asks.{Each, IsPlain, AsksTold, EndsPlain}
use Rattle.call_rules.specs.Calls.{Losses, child, join_act}

-- the path of one of the first calls of this caller
pub record IsChild (caller : Path) (n : ℕ) (p : Path) : Type 0 where
  pub number : ℕ
  pub is : p ≡ child caller number
  pub below : number < n

-- an act of this caller, which made so many calls, names no futures but theirs
pub record Asks (caller : Path) (n : ℕ) (act : walk.Act Done) : Type 0 where
  pub paths : List Path
  pub told : AsksTold paths act
  pub made : Each (IsChild caller n) paths

-- the bodies of a script name only futures that they were told of
pub record IsTold (tree : Tree) : Type 0 where
  pub main : AsksTold [] (main_act tree)
  pub joins : (k : ℕ) (app : AppDef) (values : List Value) → slice_get tree.0 k ≡ Some app → Each IsPlain values → AsksTold [] (join_act tree.0 app values)
  pub plain : (k : ℕ) (app : AppDef) (values : List Value) (names : List Text) → slice_get tree.0 k ≡ Some app → Each IsPlain values → EndsPlain (apply app values names)

-- the whole evaluation: how main ended, and what it made
abbrev pub whole_ran : Tree → Losses → Result Done Exception × Main
whole_ran tree losses = main_ran tree.0 tree.1 losses

-- its tasks
abbrev pub whole : Tree → Losses → Tasks
whole tree losses = (whole_ran tree losses).1.made.tasks
