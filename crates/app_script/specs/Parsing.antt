-- What a text is parsed as.
use Rattle.std.specs.Prelude.{◌≡◌, ◌++◌, ◌≤◌, ℕ, List, length, map, Some, None, Result, Ok, Err}
use Rattle.script_tree.specs.declared.script.Script.{Script}
use Rattle.script_tree.specs.declared.token.Token.{Token}
use Rattle.script_tree.specs.declared.fault.SyntaxFault.{SyntaxFault}
use Rattle.script_tree.specs.declared.fault.SyntaxFault.TheVariants.{Unexpected}
use Rattle.script_tree.specs.Grammar.{Tree, PlacedTree, HasTree, IsFault, max_nesting}
use Rattle.script_tree.specs.Lexing.{Text, lex}
use Rattle.parser_model.specs.declared.script_state.ParserState.{ParserState}
use Rattle.parser_model.specs.Scripts.{script_step}
use Rattle.parser_model.specs.Parsing.{rest_verdict, text_verdict}
use Rattle.app_script.specs.declared.lexer.LexFault.{LexFault}
use Rattle.app_script.specs.declared.lexer.LexFault.TheVariants as lexer
use Rattle.app_script.specs.declared.parse.ParseFault.{ParseFault}
use Rattle.app_script.specs.declared.parse.ParseFault.TheVariants.{Refused, NoMemory}
use Rattle.app_script.specs.Lexer.{left}
use Rattle.app_script.specs.Unread.{Unread}

-- the text has this script, and no other
pub record IsScriptOf (text : Text) (script : PlacedTree) : Type 0 where
  pub has : HasTree text script.tree script.places
  pub only : (other : PlacedTree) → HasTree text other.tree other.places → other ≡ script

-- the text has this fault, no other, and no script
pub record IsRefusal (text : Text) (kind : SyntaxFault) (place : ℕ) : Type 0 where
  pub fault : IsFault text kind place
  pub only : (other : SyntaxFault) (at : ℕ) → IsFault text other at → (other ≡ kind) × (at ≡ place)
  pub none : (script : PlacedTree) → HasTree text script.tree script.places → ⊥

abbrev pub Parses : Text → Result Script ParseFault → Type 0
Parses text (Ok script) = IsScriptOf text script
Parses text (Err (Refused kind place)) = IsRefusal text kind place
Parses text (Err NoMemory) = Unit {0}

-- the text has this tree, and no other
pub record IsTextOf (tree : Tree) (text : Text) : Type 0 where
  pub places : List ℕ
  pub reads : IsScriptOf text (record { tree = tree; places = places })

-- the state behind one more token, or the fault at it
abbrev pub Steps : ParserState → ℕ → Token → Result ParserState ParseFault → Type 0
Steps state place token (Ok next) = script_step state token ≡ Some next
Steps state place token (Err (Refused kind at)) = (kind ≡ Unexpected) × (at ≡ place) × (script_step state token ≡ None)
Steps state place token (Err NoMemory) = Unit {0}

abbrev pub fault_of : LexFault → ParseFault
fault_of (lexer.Refused kind place) = Refused kind place
fault_of lexer.NoMemory = NoMemory

-- behind these tokens, the verdict on what is left is that on the text
pub record GoesOn (text : Text) (unread : Unread) (places : List ℕ) (depth : ℕ) (state : ParserState) : Type 0 where
  pub verdict : rest_verdict (length text) (left unread) depth state ≡ text_verdict text
  pub places_are : map (λ p. p.0) (lex text).tokens ≡ places ++ map (λ p. p.0) (left unread).tokens
  pub shallow : depth ≤ max_nesting
