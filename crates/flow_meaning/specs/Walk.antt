-- What main and the bodies of joins do.
use Rattle.std.specs.Prelude.{ℕ, List, [], map, Option, Some, None}
use Rattle.flow_base.specs.declared.value.Value.{Value}
use Rattle.script_tree.specs.declared.tree.AppDef.{AppDef}
use Rattle.script_tree.specs.Grammar.{Tree}
use Rattle.flow_meaning.specs.Act.{Act}
use Rattle.flow_meaning.specs.Meaning.{Done, body}

abbrev pub names_in : List AppDef → List (List ℕ)
names_in = map (λ a. a.name)

-- what main does, and what a join's body does
abbrev pub main_act : Tree → Act Done
main_act s = body (names_in s.0) s.1 [] [] []

abbrev pub body_act : Tree → Option AppDef → List Value → Act Done
body_act s (Some a) arguments = body (names_in s.0) a.body a.parameters arguments []
body_act s None arguments = main_act s
