-- From the verdict on what is left of a text to its script or its fault.
use Rattle.std.specs.Prelude.{nat_lt}
use Rattle.std.proofs.Common.{◌≡◌, ℕ, ◌<◌, ◌≤◌, true, false, List, [], ◌∷◌, ◌++◌, length, map, Some, None, Err, sym, ap, ◌∙◌, append-nil, append_assoc, arith}
use Rattle.std.proofs.lemmas.Bool.Decides.{nat_tests}
use Rattle.script_tree.specs.declared.token.Token.{Token}
use Rattle.script_tree.specs.declared.fault.SyntaxFault.{SyntaxFault}
use Rattle.script_tree.specs.declared.fault.SyntaxFault.TheVariants.{Unexpected, TooDeep, TooLong}
use Rattle.script_tree.specs.Grammar.{Tree, PlacedTree, HasTree, IsFault, IsSpellable, max_text, max_nesting, nesting_after}
use Rattle.script_tree.specs.Lexing.{Text, Lexed, lex, with_token, stops_at}
use Rattle.parser_model.specs.declared.script_state.ParserState.{ParserState}
use Rattle.parser_model.specs.Scripts.{script_step, script_ended, nothing_read}
use Rattle.parser_model.specs.Verdicts.{Verdict, Fine, Refused}
use Rattle.parser_model.specs.Parsing.{rest_verdict, text_verdict}
use Rattle.parser_model.proofs.Parsing.{no_fault, one_tree, one_fault}
use Rattle.parser_model.proofs.Rests.{rest_begins, rest_goes, rest_refuses, rest_deep, rest_stops, rest_fine, rest_short, fine_says, refused_says, read_spellable}
use Rattle.parser_model.proofs.Rests as rests
use Rattle.app_script.specs.declared.lexer.LexFault.{LexFault}
use Rattle.app_script.specs.declared.lexer.LexFault.TheVariants as lexer
use Rattle.app_script.specs.declared.parse.ParseFault.{ParseFault}
use Rattle.app_script.specs.declared.parse.ParseFault.TheVariants as parse
use Rattle.app_script.specs.Lexer.{left, nothing_left, IsNext}
use Rattle.app_script.specs.Parsing.{GoesOn, IsRefusal, IsScriptOf, Parses, Steps, fault_of}
use Rattle.app_script.specs.Unread.{Unread}
use Rattle.app_script.proofs.Turns.{lex_is}

abbrev places_of : Lexed → List ℕ
places_of l = map (λ (p : ℕ × Token). p.0) l.tokens

-- ---- from a verdict

refusal : (text : Text) (kind : SyntaxFault) (place : ℕ) → text_verdict text ≡ Refused kind place → IsRefusal text kind place
refusal text kind place is =
    let fault : IsFault text kind place = refused_says text kind place is in
    record {
      fault = fault;
      only = λ other at given. let same = one_fault text other kind at place given fault in (same.1, same.0);
      none = λ script has. no_fault text script.tree script.places kind place has fault;
    }

same_script : (text : Text) (a b : PlacedTree) → HasTree text a.tree a.places → HasTree text b.tree b.places → a ≡ b
same_script text a b has given =
    let trees : a.tree ≡ b.tree = one_tree text a.tree b.tree a.places b.places has given in
    let places : a.places ≡ b.places = sym has.places ∙ given.places in
    ap (λ (t : Tree). let s : PlacedTree = record { tree = t; places = a.places } in s) trees ∙ ap (λ (ps : List ℕ). let s : PlacedTree = record { tree = b.tree; places = ps } in s) places

-- a text with a tree is that of one script
pub one_script : (text : Text) (tree : Tree) (places : List ℕ) → HasTree text tree places → IsScriptOf text (record { tree = tree; places = places })
one_script text tree places has = record { has = has; only = λ other given. same_script text other (record { tree = tree; places = places }) given has }

script_of : (text : Text) (tree : Tree) (places : List ℕ) → text_verdict text ≡ Fine tree → places_of (lex text) ≡ places → IsScriptOf text (record { tree = tree; places = places })
script_of text tree places is at =
    let says = fine_says text tree is in
    let has : HasTree text tree places = record { size = says.size; whole = says.whole; tokens = says.tokens; places = at; nested = says.nested } in
    one_script text tree places has

pub too_long : (text : Text) → max_text < length text → IsRefusal text TooLong max_text
too_long text long = refusal text TooLong max_text (rests.too_long text long)

-- ---- turns

pub begins : (text : Text) → length text ≤ max_text → GoesOn text (record { place = 0; text = text }) [] 0 nothing_read
begins text size = record {
  verdict = ap (λ (l : Lexed). rest_verdict (length text) l 0 nothing_read) (sym (lex_is text)) ∙ rest_begins text size;
  places_are = ap places_of (lex_is text);
  shallow = omega arith;
}

module _ (text : Text) (old new : Unread) (places : List ℕ) (depth : ℕ) (state : ParserState) (on : GoesOn text old places depth state) where
  at_once : (v : Verdict) → rest_verdict (length text) (left old) depth state ≡ v → text_verdict text ≡ v
  at_once v is = sym on.verdict ∙ is

  pub stops : (kind : SyntaxFault) (place : ℕ) → left old ≡ stops_at place kind → IsRefusal text kind place
  stops kind place is = refusal text kind place (at_once (Refused kind place) (rest_stops (length text) (left old) depth state place kind is))

  pub ends_short : left old ≡ nothing_left → script_ended state ≡ None → IsRefusal text Unexpected (length text)
  ends_short is none = refusal text Unexpected (length text) (at_once (Refused Unexpected (length text)) (rest_short (length text) (left old) depth state is none))

  pub ends : (tree : Tree) → left old ≡ nothing_left → script_ended state ≡ Some tree → IsScriptOf text (record { tree = tree; places = places })
  ends tree is ended =
      script_of text tree places (at_once (Fine tree) (rest_fine (length text) (left old) depth state tree is ended))
      (on.places_are ∙ ap (λ (l : Lexed). places ++ places_of l) is ∙ append-nil places)

  pub spellable : (tree : Tree) → left old ≡ nothing_left → script_ended state ≡ Some tree → IsSpellable tree
  spellable tree is ended = read_spellable text tree (at_once (Fine tree) (rest_fine (length text) (left old) depth state tree is ended))

  module _ (place : ℕ) (token : Token) (is : left old ≡ with_token place token (left new)) where
    pub refuses : script_step state token ≡ None → IsRefusal text Unexpected place
    refuses none = refusal text Unexpected place (at_once (Refused Unexpected place) (rest_refuses (length text) (left old) depth state place token (left new) is none))

    is_deep : max_nesting < nesting_after depth token → nat_lt max_nesting (nesting_after depth token) ≡ true
    is_deep e = grind (arith, nat_tests)

    is_shallow : nesting_after depth token ≤ max_nesting → nat_lt max_nesting (nesting_after depth token) ≡ false
    is_shallow e = grind (arith, nat_tests)

    pub deep : (next : ParserState) → script_step state token ≡ Some next → max_nesting < nesting_after depth token → IsRefusal text TooDeep place
    deep next steps more = refusal text TooDeep place (at_once (Refused TooDeep place) (rest_deep (length text) (left old) depth state place token (left new) next is steps (is_deep more)))

    pub goes : (next : ParserState) → script_step state token ≡ Some next → nesting_after depth token ≤ max_nesting → GoesOn text new (places ++ place ∷ []) (nesting_after depth token) next
    goes next steps fits = record {
      verdict = sym (rest_goes (length text) (left old) depth state place token (left new) next is steps (is_shallow fits)) ∙ on.verdict;
      places_are = on.places_are ∙ ap (λ (l : Lexed). places ++ places_of l) is ∙ sym (append_assoc places (place ∷ []) (places_of (left new)));
      shallow = fits;
    }

-- ---- what functions answer

pub stops_with : (text : Text) (old new : Unread) (places : List ℕ) (depth : ℕ) (state : ParserState) → GoesOn text old places depth state → (fault : LexFault) → IsNext (Err fault) old new → Parses text (Err (fault_of fault))
stops_with text old new places depth state on (lexer.Refused kind place) is = stops text old new places depth state on kind place is
stops_with text old new places depth state on lexer.NoMemory is = tt

pub refuses_with : (text : Text) (old new : Unread) (places : List ℕ) (depth : ℕ) (state : ParserState) → GoesOn text old places depth state → (place : ℕ) (token : Token) → left old ≡ with_token place token (left new) → (fault : ParseFault) → Steps state place token (Err fault) → Parses text (Err fault)
refuses_with text old new places depth state on place token is (parse.Refused kind at) steps =
    rw (steps.0, steps.1) (refuses text old new places depth state on place token is steps.2)
refuses_with text old new places depth state on place token is parse.NoMemory steps = tt
