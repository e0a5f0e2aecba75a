-- Which texts are scripts, and which fault a text has.
use Rattle.std.specs.Prelude.{◌≡◌, ℕ, ◌+◌, ◌-◌, ◌<◌, ◌≤◌, ◌⊎◌, List, [], ◌∷◌, ◌++◌, length, map, fold, Some, None}
use Rattle.script_tree.specs.declared.token.Token.{Token}
use Rattle.script_tree.specs.declared.token.Token.TheVariants as t
use Rattle.script_tree.specs.declared.token.Symbol.TheVariants as s
use Rattle.script_tree.specs.declared.tree.Block.{Block}
use Rattle.script_tree.specs.declared.tree.AppDef.{AppDef}
use Rattle.script_tree.specs.declared.fault.SyntaxFault.{SyntaxFault}
use Rattle.script_tree.specs.declared.fault.SyntaxFault.TheVariants.{Unexpected, TooDeep, TooLong}
use Rattle.script_tree.specs.Faults.{syntax_number}
use Rattle.script_tree.specs.Spelling.{Tokens, script}
use Rattle.script_tree.specs.Lexing.{Text, Lexed, lex}

abbrev pub Tree : Type 0
Tree = List AppDef × Block

abbrev pub max_text : ℕ
max_text = 1048576

abbrev pub max_nesting : ℕ
max_nesting = 64

-- how many brackets are open after one more token
abbrev pub nesting_after : ℕ → Token → ℕ
nesting_after n (t.Symbol s.OpenParen) = n + 1
nesting_after n (t.Symbol s.OpenList) = n + 1
nesting_after n (t.Symbol s.OpenBlock) = n + 1
nesting_after n (t.Symbol s.CloseParen) = n - 1
nesting_after n (t.Symbol s.CloseList) = n - 1
nesting_after n (t.Symbol s.CloseBlock) = n - 1
nesting_after n _ = n

abbrev pub nesting : Tokens → ℕ
nesting = fold nesting_after 0

abbrev pub Placed : Type 0
Placed = List (ℕ × Token)

abbrev pub tokens_of : Placed → Tokens
tokens_of = map (λ p. p.1)

-- some script goes on from these tokens, however deep it is
pub record GoesOn (ts : Tokens) : Type 0 where
  pub tree : Tree
  pub rest : Tokens
  pub is : script tree ≡ ts ++ rest

-- they are all the tokens of some script, however deep it is
pub record IsScript (ts : Tokens) : Type 0 where
  pub tree : Tree
  pub is : script tree ≡ ts

-- no part of the tokens from the front on is nested deeper
abbrev pub IsNestedWithin : Tokens → Type 0
IsNestedWithin ts = (front rest : Tokens) → ts ≡ front ++ rest → nesting front ≤ max_nesting

pub record PlacedTree : Type 0 where
  pub tree : Tree
  pub places : List ℕ

-- some text within the nesting has this tree, its length aside
abbrev pub IsSpellable : Tree → Type 0
IsSpellable tree = (text : Text) × ((lex text).fault ≡ None) × (tokens_of (lex text).tokens ≡ script tree) × IsNestedWithin (script tree)

-- the text has this tree, with its tokens at these places
pub record HasTree (text : Text) (tree : Tree) (at : List ℕ) : Type 0 where
  pub size : length text ≤ max_text
  pub whole : (lex text).fault ≡ None
  pub tokens : tokens_of (lex text).tokens ≡ script tree
  pub places : map (λ p. p.0) (lex text).tokens ≡ at
  pub nested : IsNestedWithin (script tree)

-- a token stands at a place, and the fact holds of the tokens before it and of it
pub record At (l : Lexed) (place : ℕ) (P : Tokens → Token → Type 0) : Type 0 where
  pub front : Placed
  pub token : Token
  pub rest : Placed
  pub is : l.tokens ≡ front ++ (place, token) ∷ rest
  pub fact : P (tokens_of front) token

-- a token with which no script goes on, or an end of the text where none ends
abbrev pub IsUnexpected : Text → ℕ → Type 0
IsUnexpected text place =
    At (lex text) place (λ front token. GoesOn front × (GoesOn (front ++ token ∷ []) → ⊥))
    ⊎ ((place ≡ length text) × ((lex text).fault ≡ None) × GoesOn (tokens_of (lex text).tokens) × (IsScript (tokens_of (lex text).tokens) → ⊥))

-- a bracket that would be one more than may be open
abbrev pub IsDeepFault : Text → ℕ → Type 0
IsDeepFault text place = At (lex text) place (λ front token. (nesting front ≡ max_nesting) × (nesting (front ++ token ∷ []) ≡ max_nesting + 1))

abbrev pub Faulty : Text → SyntaxFault → ℕ → Type 0
Faulty text kind place =
    ((lex text).fault ≡ Some (place, kind)) ⊎ ((kind ≡ Unexpected) × IsUnexpected text place) ⊎ ((kind ≡ TooDeep) × IsDeepFault text place)

-- TooLong comes first. Else the fault is the first from the left, and at one place the one of the smaller number.
abbrev pub IsFault : Text → SyntaxFault → ℕ → Type 0
IsFault text kind place =
    ((max_text < length text) × (kind ≡ TooLong) × (place ≡ max_text))
    ⊎ ((length text ≤ max_text) × Faulty text kind place
    × ((other : SyntaxFault) (at : ℕ) → Faulty text other at → (place < at) ⊎ ((place ≡ at) × (syntax_number kind ≤ syntax_number other))))
