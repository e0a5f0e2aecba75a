-- A machine that reads a script token by token. Its state is what has been read.
use Rattle.std.specs.Prelude.{ℕ, Bool, true, false, List, [], ◌∷◌, ◌++◌, Option, Some, None, ℤ}
use Rattle.script_tree.specs.declared.token.Token.{Token}
use Rattle.script_tree.specs.declared.token.Token.TheVariants as t
use Rattle.script_tree.specs.declared.token.Keyword.TheVariants as w
use Rattle.script_tree.specs.declared.token.Symbol.TheVariants as s
use Rattle.script_tree.specs.declared.tree.Block.{Block}
use Rattle.script_tree.specs.declared.tree.AppDef.{AppDef}
use Rattle.script_tree.specs.Grammar.{Tree}
use Rattle.parser_model.specs.declared.block_state.BlockState.{BlockState}
use Rattle.parser_model.specs.declared.block_state.StatementState.TheVariants as i
use Rattle.parser_model.specs.declared.script_state.AppHead.{AppHead}
use Rattle.parser_model.specs.declared.script_state.DefinitionState.{DefinitionState}
use Rattle.parser_model.specs.declared.script_state.DefinitionState.TheVariants as p
use Rattle.parser_model.specs.declared.script_state.ParserState.{ParserState}
use Rattle.parser_model.specs.Stages.{Now, In, Out, Stuck, inside_step}

-- what a token does behind the last whole app
pub data Advance : Type 0 where
  Onward : AppHead → DefinitionState → Advance
  Whole : AppDef → Advance
  Refused : Advance

abbrev pub flagged : Bool → Bool → AppHead
flagged cached join = record { cached = cached; join = join; name = []; parameters = []; outputs = None }

abbrev pub no_head : AppHead
no_head = flagged false false

abbrev pub with_name : AppHead → List ℕ → AppHead
with_name h x = record { cached = h.cached; join = h.join; name = x; parameters = []; outputs = None }

abbrev pub with_parameters : AppHead → List (List ℕ) → AppHead
with_parameters h xs = record { cached = h.cached; join = h.join; name = h.name; parameters = xs; outputs = None }

abbrev pub with_outputs : AppHead → Option ℤ → AppHead
with_outputs h n = record { cached = h.cached; join = h.join; name = h.name; parameters = h.parameters; outputs = n }

-- behind the `{` of an outermost block
abbrev pub block_begins : BlockState
block_begins = record { opened = []; before = []; last = i.Begin }

abbrev pub app_of : AppHead → Block → AppDef
app_of h b = record { cached = h.cached; join = h.join; name = h.name; parameters = h.parameters; outputs = h.outputs; body = b }

abbrev pub begin : AppHead → Token → Advance
begin h (t.Keyword w.Cached) = Onward h p.CachedWord
begin h (t.Keyword w.Join) = Onward (flagged false true) p.JoinWord
begin h (t.Keyword w.App) = Onward (flagged false false) p.AppWord
begin h (t.Keyword w.Main) = Onward h p.MainWord
begin h _ = Refused

abbrev pub behind_cached : Token → Advance
behind_cached (t.Keyword w.Join) = Onward (flagged true true) p.JoinWord
behind_cached (t.Keyword w.App) = Onward (flagged true false) p.AppWord
behind_cached _ = Refused

abbrev pub behind_join : AppHead → Token → Advance
behind_join h (t.Keyword w.App) = Onward (flagged h.cached true) p.AppWord
behind_join h _ = Refused

abbrev pub app_name : AppHead → Token → Advance
app_name h (t.Name x) = Onward (with_name h x) p.AppName
app_name h _ = Refused

abbrev pub parameters_open : AppHead → Token → Advance
parameters_open h (t.Symbol s.OpenParen) = Onward h p.FirstParameter
parameters_open h _ = Refused

abbrev pub first_parameter : AppHead → Token → Advance
first_parameter h (t.Name x) = Onward (with_parameters h []) (p.Parameter x)
first_parameter h (t.Symbol s.CloseParen) = Onward (with_parameters h []) p.Parameters
first_parameter h _ = Refused

abbrev pub next_parameter : AppHead → Token → Advance
next_parameter h (t.Name x) = Onward h (p.Parameter x)
next_parameter h _ = Refused

abbrev pub behind_parameter : AppHead → List ℕ → Token → Advance
behind_parameter h x (t.Symbol s.Comma) = Onward (with_parameters h (h.parameters ++ x ∷ [])) p.NextParameter
behind_parameter h x (t.Symbol s.CloseParen) = Onward (with_parameters h (h.parameters ++ x ∷ [])) p.Parameters
behind_parameter h x _ = Refused

abbrev pub behind_parameters : AppHead → Token → Advance
behind_parameters h (t.Keyword w.Outputs) = Onward h p.OutputsWord
behind_parameters h (t.Symbol s.OpenBlock) = Onward (with_outputs h None) (p.Body block_begins)
behind_parameters h _ = Refused

abbrev pub behind_outputs : AppHead → Token → Advance
behind_outputs h (t.Number n) = Onward (with_outputs h (Some n)) p.HeadEnd
behind_outputs h _ = Refused

abbrev pub block_opens : AppHead → DefinitionState → Token → Advance
block_opens h place (t.Symbol s.OpenBlock) = Onward h place
block_opens h place _ = Refused

abbrev pub in_body : AppHead → Now → Advance
in_body h (In z) = Onward h (p.Body z)
in_body h (Out b) = Whole (app_of h b)
in_body h Stuck = Refused

abbrev pub in_main : AppHead → Now → Advance
in_main h (In z) = Onward h (p.MainBody z)
in_main h (Out b) = Onward h (p.End b)
in_main h Stuck = Refused

unfoldable pub turn : AppHead → DefinitionState → Token → Advance
turn h p.Begin token = begin h token
turn h p.CachedWord token = behind_cached token
turn h p.JoinWord token = behind_join h token
turn h p.AppWord token = app_name h token
turn h p.AppName token = parameters_open h token
turn h p.FirstParameter token = first_parameter h token
turn h (p.Parameter x) token = behind_parameter h x token
turn h p.NextParameter token = next_parameter h token
turn h p.Parameters token = behind_parameters h token
turn h p.OutputsWord token = behind_outputs h token
turn h p.HeadEnd token = block_opens h (p.Body block_begins) token
turn h (p.Body z) token = in_body h (inside_step z token)
turn h p.MainWord token = block_opens h (p.MainBody block_begins) token
turn h (p.MainBody z) token = in_main h (inside_step z token)
turn h (p.End b) token = Refused

abbrev pub turned : List AppDef → Advance → Option ParserState
turned apps (Onward h place) = Some (record { apps = apps; head = h; place = place })
turned apps (Whole a) = Some (record { apps = apps ++ a ∷ []; head = no_head; place = p.Begin })
turned apps Refused = None

-- one more token of a script
unfoldable pub script_step : ParserState → Token → Option ParserState
script_step z token = turned z.apps (turn z.head z.place token)

abbrev pub nothing_read : ParserState
nothing_read = record { apps = []; head = no_head; place = p.Begin }

abbrev pub tree_at : List AppDef → DefinitionState → Option Tree
tree_at apps (p.End b) = Some (apps, b)
tree_at apps _ = None

-- the tree, where what has been read is a script
unfoldable pub script_ended : ParserState → Option Tree
script_ended z = tree_at z.apps z.place
