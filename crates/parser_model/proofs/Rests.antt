-- The verdict on what is left of a text, token by token.
use Rattle.std.specs.Prelude.{nat_lt}
use Rattle.std.proofs.Common.{◌≡◌, ℕ, ◌≤◌, [], length, ap, ◌∙◌, sym, subst, Bool, true, false, Some, None}
use Rattle.script_tree.specs.declared.token.Token.{Token}
use Rattle.script_tree.specs.declared.fault.SyntaxFault.{SyntaxFault}
use Rattle.script_tree.specs.declared.fault.SyntaxFault.TheVariants.{Unexpected, TooDeep, TooLong}
use Rattle.script_tree.specs.Lexing.{Text, Lexed, lex, with_token, stops_at}
use Rattle.script_tree.specs.Grammar.{Tree, IsSpellable, nesting_after, max_nesting, max_text}
use Rattle.parser_model.specs.declared.script_state.ParserState.{ParserState}
use Rattle.parser_model.specs.Scripts.{script_step, script_ended, nothing_read}
use Rattle.parser_model.specs.Verdicts.{Fine, Refused, at_end, judged, after_step}
use Rattle.parser_model.specs.Parsing.{rest_verdict, lexed_verdict, sized_verdict, text_verdict, Says}
use Rattle.parser_model.proofs.Parsing.{text_says}
use Rattle.std.proofs.Common.{arith, ◌<◌}
use Rattle.std.proofs.lemmas.Bool.Decides.{nat_tests}

not_long : (n : ℕ) → n ≤ max_text → nat_lt max_text n ≡ false
not_long n e = grind (arith, nat_tests)

long : (n : ℕ) → max_text < n → nat_lt max_text n ≡ true
long n e = grind (arith, nat_tests)

-- at the front of a text that isn't too long, all is left
pub rest_begins : (text : Text) → length text ≤ max_text → rest_verdict (length text) (lex text) 0 nothing_read ≡ text_verdict text
unfolding text_verdict lexed_verdict
rest_begins text size = ap (λ (b : Bool). sized_verdict b (lexed_verdict (lex text) (length text))) (sym (not_long (length text) size))

pub too_long : (text : Text) → max_text < length text → text_verdict text ≡ Refused TooLong max_text
unfolding text_verdict
too_long text size = ap (λ (b : Bool). sized_verdict b (lexed_verdict (lex text) (length text))) (long (length text) size)

module _ (len : ℕ) (l : Lexed) (depth : ℕ) (z : ParserState) where
  -- a token that doesn't go on
  pub rest_refuses : (place : ℕ) (token : Token) (rest : Lexed) → l ≡ with_token place token rest → script_step z token ≡ None → rest_verdict len l depth z ≡ Refused Unexpected place
  rest_refuses place token rest is goes = ap (λ (k : Lexed). rest_verdict len k depth z) is ∙ ap (after_step place _ (rest_verdict len rest (nesting_after depth token))) goes

  -- a token that goes on, but is nested too deep
  pub rest_deep : (place : ℕ) (token : Token) (rest : Lexed) (next : ParserState) → l ≡ with_token place token rest → script_step z token ≡ Some next → nat_lt max_nesting (nesting_after depth token) ≡ true
      → rest_verdict len l depth z ≡ Refused TooDeep place
  rest_deep place token rest next is goes deep = ap (λ (k : Lexed). rest_verdict len k depth z) is
      ∙ (ap (after_step place _ (rest_verdict len rest (nesting_after depth token))) goes ∙ ap (λ (b : Bool). judged place b (rest_verdict len rest (nesting_after depth token) next)) deep)

  -- a token that goes on
  pub rest_goes : (place : ℕ) (token : Token) (rest : Lexed) (next : ParserState) → l ≡ with_token place token rest → script_step z token ≡ Some next → nat_lt max_nesting (nesting_after depth token) ≡ false
      → rest_verdict len l depth z ≡ rest_verdict len rest (nesting_after depth token) next
  rest_goes place token rest next is goes deep = ap (λ (k : Lexed). rest_verdict len k depth z) is
      ∙ (ap (after_step place _ (rest_verdict len rest (nesting_after depth token))) goes ∙ ap (λ (b : Bool). judged place b (rest_verdict len rest (nesting_after depth token) next)) deep)

  -- a fault of a piece
  pub rest_stops : (place : ℕ) (kind : SyntaxFault) → l ≡ stops_at place kind → rest_verdict len l depth z ≡ Refused kind place
  rest_stops place kind is = ap (λ (k : Lexed). rest_verdict len k depth z) is

  -- nothing is left of a script
  pub rest_fine : (tree : Tree) → l ≡ record { tokens = []; fault = None } → script_ended z ≡ Some tree → rest_verdict len l depth z ≡ Fine tree
  rest_fine tree is ends = ap (λ (k : Lexed). rest_verdict len k depth z) is ∙ ap (at_end len None) ends

  -- nothing is left, and there is no script yet
  pub rest_short : l ≡ record { tokens = []; fault = None } → script_ended z ≡ None → rest_verdict len l depth z ≡ Refused Unexpected len
  rest_short is ends = ap (λ (k : Lexed). rest_verdict len k depth z) is ∙ ap (at_end len None) ends

-- ---- from the verdict to the grammar

pub fine_says : (text : Text) (tree : Tree) → text_verdict text ≡ Fine tree → Says text (Fine tree)
fine_says text tree e = subst (Says text) e (text_says text)

pub refused_says : (text : Text) (kind : SyntaxFault) (place : ℕ) → text_verdict text ≡ Refused kind place → Says text (Refused kind place)
refused_says text kind place e = subst (Says text) e (text_says text)

-- a tree that is read is one that a text may have
pub read_spellable : (text : Text) (tree : Tree) → text_verdict text ≡ Fine tree → IsSpellable tree
read_spellable text tree e = let h = fine_says text tree e in (text, h.whole, h.tokens, h.nested)
