-- What a script's bytes are read as.
use Rattle.std.specs.Prelude.{ℕ, List, Ok, Err}
use Rattle.std.specs.declared.result.Result.{Result}
use Rattle.script_tree.specs.declared.checked.Checked.{Checked}
use Rattle.script_tree.specs.declared.fault.Rule.{Rule}
use Rattle.script_tree.specs.Grammar.{PlacedTree}
use Rattle.script_tree.specs.Rules.{IsWellFormed, IsCheckFault}
use Rattle.app_script.specs.Parsing.{IsScriptOf, IsRefusal}
use Rattle.parsl_engine.specs.declared.script.ScriptRefusal.{ScriptRefusal}
use Rattle.parsl_engine.specs.declared.script.ScriptRefusal.TheVariants.{Parse, Check}
use Rattle.parsl_engine.specs.declared.script.ScriptFault.{ScriptFault}
use Rattle.parsl_engine.specs.declared.script.ScriptFault.TheVariants.{Refused, Limited, NoMemory}

-- the bytes are a text of this script alone, and it breaks no rule
pub record IsCheckedText (bytes : List ℕ) (script : PlacedTree) : Type 0 where
  pub text : IsScriptOf bytes script
  pub well_formed : IsWellFormed script.tree

-- some bytes are a text of this script alone, and it breaks no rule
pub record IsOfText (script : PlacedTree) : Type 0 where
  pub bytes : List ℕ
  pub is : IsCheckedText bytes script

-- the bytes are a text of a script that breaks a rule; this is the least of its faults
pub record BreaksRule (bytes : List ℕ) (kind : Rule) (place : ℕ) : Type 0 where
  pub script : PlacedTree
  pub text : IsScriptOf bytes script
  pub fault : IsCheckFault script.tree script.places kind place

-- why the bytes are no text of a script that breaks no rule
abbrev pub IsFaulty : List ℕ → ScriptRefusal → Type 0
IsFaulty bytes (Parse kind place) = IsRefusal bytes kind place
IsFaulty bytes (Check kind place) = BreaksRule bytes kind place

abbrev pub IsRead : List ℕ → Result Checked ScriptFault → Type 0
IsRead bytes (Ok script) = IsCheckedText bytes script
IsRead bytes (Err (Refused refusal)) = IsFaulty bytes refusal
IsRead bytes (Err (Limited limit)) = ⊥
IsRead bytes (Err NoMemory) = Unit {0}
