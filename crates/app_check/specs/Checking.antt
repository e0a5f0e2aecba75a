-- What a check says of a script.
use Rattle.std.specs.Prelude.{◌≡◌, ℕ, Option, Some, None, Result, Ok, Err}
use Rattle.script_tree.specs.Grammar.{PlacedTree}
use Rattle.script_tree.specs.Marks.{script}
use Rattle.script_tree.specs.declared.fault.Rule.{Rule}
use Rattle.script_tree.specs.Rules.{IsWellFormed, IsCheckFault}
use Rattle.app_check.specs.Seeing.{seen, nothing_seen}
use Rattle.app_check.specs.declared.checking.CheckFault.{CheckFault}
use Rattle.app_check.specs.declared.checking.CheckFault.TheVariants.{Refused, NoMemory}
use Rattle.script_tree.specs.declared.checked.Checked.{Checked}

-- no rule is broken, or this is the least fault
abbrev pub Finds : PlacedTree → Option (ℕ × Rule) → Type 0
Finds s None = IsWellFormed s.tree
Finds s (Some f) = IsCheckFault s.tree s.places f.1 f.0

abbrev pub least_of : PlacedTree → Option (ℕ × Rule)
least_of s = (seen (nothing_seen s.tree.0 s.places) (script s.tree)).least

-- the script is given back where it breaks no rule; else its least fault is told
abbrev pub Checks : PlacedTree → Result Checked CheckFault → Type 0
Checks s (Ok checked) = (checked ≡ s) × IsWellFormed s.tree
Checks s (Err (Refused kind place)) = IsCheckFault s.tree s.places kind place
Checks s (Err NoMemory) = Unit {0}
