-- What the functions return, in the machine's terms.
use Rattle.std.specs.Prelude.{Bool, true, false, List, Option, Some, None}
use Rattle.script_tree.specs.declared.token.Token.{Token}
use Rattle.script_tree.specs.declared.token.Token.TheVariants as t
use Rattle.script_tree.specs.declared.token.Keyword.TheVariants as word
use Rattle.script_tree.specs.declared.token.Symbol.TheVariants as symbol
use Rattle.script_tree.specs.declared.tree.Statement.{Statement}
use Rattle.parser_model.specs.declared.block_state.BlockState.{BlockState}
use Rattle.parser_model.specs.declared.block_state.Opened.{Opened}
use Rattle.parser_model.specs.declared.block_state.StatementState.{StatementState}
use Rattle.parser_model.specs.declared.script_state.AppHead.{AppHead}
use Rattle.parser_model.specs.declared.script_state.DefinitionState.{DefinitionState}
use Rattle.parser_model.specs.Stages as stages
use Rattle.parser_model.specs.Scripts.{Advance, Onward, Whole, Refused}
use Rattle.parser_step.specs.declared.blocks.End.{End}
use Rattle.parser_step.specs.declared.blocks.End.TheVariants as e
use Rattle.parser_step.specs.declared.blocks.Now.{Now}
use Rattle.parser_step.specs.declared.blocks.Now.TheVariants as w
use Rattle.parser_step.specs.declared.definitions.Reached.{Reached}
use Rattle.parser_step.specs.declared.definitions.Reached.TheVariants as r

-- with this head, to a place or to none
abbrev pub onward : AppHead → Option DefinitionState → Advance
onward h None = Refused
onward h (Some place) = Onward h place

abbrev pub ending : End → stages.End
ending e.Semicolon = stages.Semicolon
ending e.Comma = stages.Comma
ending e.Round = stages.Round
ending e.Brace = stages.Brace
ending e.Other = stages.Other

abbrev pub closes : Token → Bool
closes (t.Symbol symbol.CloseParen) = true
closes _ = false

abbrev pub is_else : Token → Bool
is_else (t.Keyword word.Else) = true
is_else _ = false

abbrev pub inside_of : List Opened → List Statement → StatementState → BlockState
inside_of os before last = record { opened = os; before = before; last = last }

-- with these open blocks
abbrev pub now_of : List Opened → Now → stages.Now
now_of os (w.In before last) = stages.In (record { opened = os; before = before; last = last })
now_of os (w.Out b) = stages.Out b
now_of os w.Stuck = stages.Stuck

abbrev pub turn_of : Reached → Advance
turn_of (r.DefinitionState h place) = Onward h place
turn_of (r.App x) = Whole x
turn_of r.Nothing = Refused
