-- What is true of every evaluation.
use Rattle.std.specs.Prelude.{[]}
use Rattle.script_tree.specs.Grammar.{Tree}
use Rattle.call_rules.specs.Calls.{Losses}
use Rattle.call_rules.specs.Groups.{IsGroup}
use Rattle.call_rules.specs.Told.{whole_ran}

-- Each task of the sequential evaluation has what the rule of its call gives by the outcomes of the others: its
-- inputs are earlier calls of the same caller, the calls of its body are there, its value is plain, and paths ascend.
abbrev pub TasksAreRuled : Type 0
TasksAreRuled = (tree : Tree) (losses : Losses) → IsGroup tree.0 losses [] (whole_ran tree losses).1.made
