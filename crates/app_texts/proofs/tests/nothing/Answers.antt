use Rattle.std.proofs.Common.{length, sym, ap, subst}
use Rattle.script_tree.specs.Spelling.{Tokens}
use Rattle.print_parse_roundtrip.specs.Lexes.{AreTokens}
use Rattle.app_texts.proofs.Spellable.{nothing_tokens, nothing_are}
use Rattle.app_texts.proofs.tests.nothing.Goals as goal

pub returns-clause-tokens : goal.returns-clause-tokens
returns-clause-tokens c = subst AreTokens (sym (nothing_tokens c.new.result c.new.ensures)) nothing_are

pub returns-clause-short : goal.returns-clause-short
returns-clause-short c = ap (λ (ts : Tokens). length ts) (nothing_tokens c.new.result c.new.ensures)
