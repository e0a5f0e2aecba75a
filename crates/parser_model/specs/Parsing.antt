-- The verdict on a text: its tree, or its fault.
use Rattle.std.specs.Prelude.{ℕ, Bool, true, false, length, map, Option, nat_lt}
use Rattle.script_tree.specs.declared.fault.SyntaxFault.{SyntaxFault}
use Rattle.script_tree.specs.declared.fault.SyntaxFault.TheVariants.{TooLong}
use Rattle.script_tree.specs.Lexing.{Text, Lexed, lex}
use Rattle.script_tree.specs.Grammar.{Placed, max_text, HasTree, IsFault}
use Rattle.parser_model.specs.declared.script_state.ParserState.{ParserState}
use Rattle.parser_model.specs.Scripts.{script_step, script_ended, nothing_read}
use Rattle.parser_model.specs.Verdicts.{Verdict, Fine, Refused, judge}

-- the verdict on the tokens to come, in a state, with so many brackets open
abbrev pub script_judge : ℕ → Option (ℕ × SyntaxFault) → Placed → ℕ → ParserState → Verdict
script_judge = judge ParserState script_step script_ended

-- the same, of what is left of a text
abbrev pub rest_verdict : ℕ → Lexed → ℕ → ParserState → Verdict
rest_verdict len l depth z = script_judge len l.fault l.tokens depth z

-- the verdict on tokens and the fault behind them
unfoldable pub lexed_verdict : Lexed → ℕ → Verdict
lexed_verdict l len = rest_verdict len l 0 nothing_read

-- a text that is too long is faulty at the greatest length
abbrev pub sized_verdict : Bool → Verdict → Verdict
sized_verdict true v = Refused TooLong max_text
sized_verdict false v = v

unfoldable pub text_verdict : Text → Verdict
text_verdict text = sized_verdict (nat_lt max_text (length text)) (lexed_verdict (lex text) (length text))

-- what a verdict says of a text
abbrev pub Says : Text → Verdict → Type 0
Says text (Fine tree) = HasTree text tree (map (λ p. p.0) (lex text).tokens)
Says text (Refused kind place) = IsFault text kind place
