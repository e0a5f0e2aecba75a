-- What the machine for scripts has read: its tokens, and a script that they go on to.
use Rattle.std.proofs.Common.{◌≡◌, ℕ, List, [], ◌∷◌, ◌++◌, refl, ap, ◌∙◌, sym, subst, Bool, true, false, Some, None, append-nil, append_assoc}
use Rattle.std.specs.Prelude.{pos}
use Rattle.std.specs.List.{flat_map}
use Rattle.std.proofs.lemmas.Grind.{flat_map-append}
use Rattle.script_tree.specs.declared.token.Token.{Token}
use Rattle.script_tree.specs.declared.token.Token.TheVariants as t
use Rattle.script_tree.specs.declared.token.Keyword.TheVariants as w
use Rattle.script_tree.specs.declared.token.Symbol.TheVariants as s
use Rattle.script_tree.specs.declared.tree.Block.{Block}
use Rattle.script_tree.specs.declared.tree.AppDef.{AppDef}
use Rattle.script_tree.specs.Spelling.{Tokens, symbol, word, listed, in_parens, when, outputs_part, name_tokens, names_of, app, script}
use Rattle.script_tree.specs.Grammar.{Tree, GoesOn}
use Rattle.parser_model.specs.declared.block_state.BlockState.{BlockState}
use Rattle.parser_model.specs.declared.script_state.AppHead.{AppHead}
use Rattle.parser_model.specs.declared.script_state.DefinitionState.{DefinitionState}
use Rattle.parser_model.specs.declared.script_state.DefinitionState.TheVariants as p
use Rattle.parser_model.specs.declared.script_state.ParserState.{ParserState}
use Rattle.parser_model.specs.Stages.{Now, In, Out, Stuck, block, inside_step}
use Rattle.parser_model.specs.Scripts.{Advance, Onward, Whole, Refused, flagged, no_head, with_name, with_parameters, with_outputs, block_begins, app_of, begin, behind_cached, behind_join, app_name, parameters_open, first_parameter, next_parameter, behind_parameter, behind_parameters, behind_outputs, block_opens, in_body, in_main, turn, turned, script_step, nothing_read, tree_at, script_ended}
use Rattle.parser_model.proofs.Blocks.{tokens_of_block, inside, within, Nows, inside_step-spells}
use Rattle.parser_model.proofs.BlockEnds.{inside_completes}

-- sealed, so that proofs see them as they stand
unfoldable pub app_tokens : AppDef → Tokens
app_tokens = app

unfoldable pub script_tokens : Tree → Tokens
script_tokens = script

pub script-spells : (tree : Tree) → script_tokens tree ≡ flat_map app_tokens tree.0 ++ (t.Keyword w.Main ∷ tokens_of_block tree.1)
unfolding script_tokens app_tokens tokens_of_block
script-spells tree = refl

-- ---- what has been read

abbrev pub flags : AppHead → Tokens → Tokens
flags h ts = when h.cached (word w.Cached) ++ (when h.join (word w.Join) ++ ts)

abbrev pub title : AppHead → Tokens
title h = flags h (t.Keyword w.App ∷ t.Name h.name ∷ [])

-- names, each with its comma
abbrev pub given : List (List ℕ) → Tokens
given xs = flat_map (λ x. t.Name x ∷ symbol s.Comma) xs

abbrev pub listing : AppHead → Tokens
listing h = title h ++ (t.Symbol s.OpenParen ∷ given h.parameters)

abbrev pub heading : AppHead → Tokens
heading h = title h ++ in_parens (listed (names_of h.parameters))

abbrev pub head_tokens : AppHead → Tokens
head_tokens h = heading h ++ outputs_part h.outputs

unfoldable pub place_tokens : AppHead → DefinitionState → Tokens
place_tokens h p.Begin = []
place_tokens h p.CachedWord = word w.Cached
place_tokens h p.JoinWord = when h.cached (word w.Cached) ++ word w.Join
place_tokens h p.AppWord = flags h (word w.App)
place_tokens h p.AppName = title h
place_tokens h p.FirstParameter = title h ++ symbol s.OpenParen
place_tokens h (p.Parameter x) = listing h ++ name_tokens x
place_tokens h p.NextParameter = listing h
place_tokens h p.Parameters = heading h
place_tokens h p.OutputsWord = heading h ++ word w.Outputs
place_tokens h p.HeadEnd = head_tokens h
place_tokens h (p.Body z) = head_tokens h ++ inside z
place_tokens h p.MainWord = word w.Main
place_tokens h (p.MainBody z) = t.Keyword w.Main ∷ inside z
place_tokens h (p.End b) = t.Keyword w.Main ∷ tokens_of_block b

unfoldable pub spelled : ParserState → Tokens
spelled z = flat_map app_tokens z.apps ++ place_tokens z.head z.place

pub app-spells : (h : AppHead) (b : Block) → app_tokens (app_of h b) ≡ head_tokens h ++ tokens_of_block b
unfolding app_tokens tokens_of_block
app-spells h b = simp append_assoc

more_names : (xs : List (List ℕ)) (x : List ℕ) → flat_map (λ f. t.Symbol s.Comma ∷ f) (names_of (xs ++ x ∷ [])) ≡ t.Symbol s.Comma ∷ given xs ++ name_tokens x
more_names [] x = refl
more_names (y ∷ xs) x = ap (λ z. (t.Symbol s.Comma ∷ name_tokens y) ++ z) (more_names xs x)

-- names with their commas, and one more
pub names-spell : (xs : List (List ℕ)) (x : List ℕ) → listed (names_of (xs ++ x ∷ [])) ≡ given xs ++ name_tokens x
names-spell [] x = refl
names-spell (y ∷ xs) x = ap (λ z. name_tokens y ++ z) (more_names xs x)

names-more : (xs : List (List ℕ)) (x : List ℕ) → given (xs ++ x ∷ []) ≡ given xs ++ (name_tokens x ++ symbol s.Comma)
names-more xs x = simp (flat_map-append, append-nil)

block_begins-spells : inside block_begins ≡ symbol s.OpenBlock
unfolding inside within
block_begins-spells = refl

-- ---- one token

abbrev pub Turns : Tokens → Token → Advance → Type 0
Turns ts token (Onward h place) = place_tokens h place ≡ ts ++ token ∷ []
Turns ts token (Whole a) = app_tokens a ≡ ts ++ token ∷ []
Turns ts token Refused = Unit {0}

begin-turns : (h : AppHead) (token : Token) → Turns [] token (begin h token)
unfolding place_tokens
begin-turns h (t.Keyword w.Cached) = refl
begin-turns h (t.Keyword w.Join) = refl
begin-turns h (t.Keyword w.App) = refl
begin-turns h (t.Keyword w.Main) = refl
begin-turns h _ = tt

cached-turns : (token : Token) → Turns (word w.Cached) token (behind_cached token)
unfolding place_tokens
cached-turns (t.Keyword w.Join) = refl
cached-turns (t.Keyword w.App) = refl
cached-turns _ = tt

join-turns : (h : AppHead) (token : Token) → Turns (when h.cached (word w.Cached) ++ word w.Join) token (behind_join h token)
unfolding place_tokens
join-turns h (t.Keyword w.App) = simp append_assoc
join-turns h _ = tt

name-turns : (h : AppHead) (token : Token) → Turns (flags h (word w.App)) token (app_name h token)
unfolding place_tokens
name-turns h (t.Name x) = simp append_assoc
name-turns h _ = tt

open-turns : (h : AppHead) (token : Token) → Turns (title h) token (parameters_open h token)
unfolding place_tokens
open-turns h (t.Symbol s.OpenParen) = refl
open-turns h _ = tt

first-turns : (h : AppHead) (token : Token) → Turns (title h ++ symbol s.OpenParen) token (first_parameter h token)
unfolding place_tokens
first-turns h (t.Name x) = simp append_assoc
first-turns h (t.Symbol s.CloseParen) = simp append_assoc
first-turns h _ = tt

next-turns : (h : AppHead) (token : Token) → Turns (listing h) token (next_parameter h token)
unfolding place_tokens
next-turns h (t.Name x) = refl
next-turns h _ = tt

parameter-turns : (h : AppHead) (x : List ℕ) (token : Token) → Turns (listing h ++ name_tokens x) token (behind_parameter h x token)
unfolding place_tokens
parameter-turns h x (t.Symbol s.Comma) = rw (names-more h.parameters x) (simp append_assoc)
parameter-turns h x (t.Symbol s.CloseParen) = rw (names-spell h.parameters x) (simp append_assoc)
parameter-turns h x _ = tt

parameters-turns : (h : AppHead) (token : Token) → Turns (heading h) token (behind_parameters h token)
unfolding place_tokens
parameters-turns h (t.Keyword w.Outputs) = refl
parameters-turns h (t.Symbol s.OpenBlock) = ap (λ x. head_tokens (with_outputs h None) ++ x) block_begins-spells ∙ ap (λ x. x ++ symbol s.OpenBlock) (append-nil (heading h))
parameters-turns h _ = tt

outputs-turns : (h : AppHead) (token : Token) → Turns (heading h ++ word w.Outputs) token (behind_outputs h token)
unfolding place_tokens
outputs-turns h (t.Number n) = simp append_assoc
outputs-turns h _ = tt

opens-turns : (h : AppHead) (place : DefinitionState) (ts : Tokens) (token : Token) → place_tokens h place ≡ ts ++ symbol s.OpenBlock → Turns ts token (block_opens h place token)
opens-turns h place ts (t.Symbol s.OpenBlock) e = e
opens-turns h place ts _ e = tt

body-turns : (h : AppHead) (ts : Tokens) (token : Token) (n : Now) → Nows ts token n → Turns (head_tokens h ++ ts) token (in_body h n)
unfolding place_tokens
body-turns h ts token (In z) e = ap (λ x. head_tokens h ++ x) e ∙ sym (append_assoc (head_tokens h) ts (token ∷ []))
body-turns h ts token (Out b) e = app-spells h b ∙ (ap (λ x. head_tokens h ++ x) e ∙ sym (append_assoc (head_tokens h) ts (token ∷ [])))
body-turns h ts token Stuck e = tt

main-turns : (h : AppHead) (ts : Tokens) (token : Token) (n : Now) → Nows ts token n → Turns (t.Keyword w.Main ∷ ts) token (in_main h n)
unfolding place_tokens
main-turns h ts token (In z) e = ap (λ x. t.Keyword w.Main ∷ x) e
main-turns h ts token (Out b) e = ap (λ x. t.Keyword w.Main ∷ x) e
main-turns h ts token Stuck e = tt

turn-turns : (h : AppHead) (place : DefinitionState) (token : Token) → Turns (place_tokens h place) token (turn h place token)
unfolding place_tokens turn
turn-turns h p.Begin token = begin-turns h token
turn-turns h p.CachedWord token = cached-turns token
turn-turns h p.JoinWord token = join-turns h token
turn-turns h p.AppWord token = name-turns h token
turn-turns h p.AppName token = open-turns h token
turn-turns h p.FirstParameter token = first-turns h token
turn-turns h (p.Parameter x) token = parameter-turns h x token
turn-turns h p.NextParameter token = next-turns h token
turn-turns h p.Parameters token = parameters-turns h token
turn-turns h p.OutputsWord token = outputs-turns h token
turn-turns h p.HeadEnd token = opens-turns h (p.Body block_begins) (head_tokens h) token (ap (λ x. head_tokens h ++ x) block_begins-spells)
turn-turns h (p.Body z) token = body-turns h (inside z) token (inside_step z token) (inside_step-spells z token)
turn-turns h p.MainWord token = opens-turns h (p.MainBody block_begins) (word w.Main) token (ap (λ x. t.Keyword w.Main ∷ x) block_begins-spells)
turn-turns h (p.MainBody z) token = main-turns h (inside z) token (inside_step z token) (inside_step-spells z token)
turn-turns h (p.End b) token = tt

turned-spells : (apps : List AppDef) (ts : Tokens) (token : Token) (r : Advance) (next : ParserState) → Turns ts token r → turned apps r ≡ Some next → spelled next ≡ (flat_map app_tokens apps ++ ts) ++ token ∷ []
unfolding spelled place_tokens
turned-spells apps ts token (Onward h place) next e is =
    let same : record { apps = apps; head = h; place = place } ≡ next = cc in
    ap spelled (sym same) ∙ (ap (λ x. flat_map app_tokens apps ++ x) e ∙ sym (append_assoc (flat_map app_tokens apps) ts (token ∷ [])))
turned-spells apps ts token (Whole a) next e is =
    let same : record { apps = apps ++ a ∷ []; head = no_head; place = p.Begin } ≡ next = cc in
    ap spelled (sym same) ∙ simp (flat_map-append, append-nil, append_assoc, e)
turned-spells apps ts token Refused next e is = absurd (cc)

pub script_step-spells : (z : ParserState) (token : Token) (next : ParserState) → script_step z token ≡ Some next → spelled next ≡ spelled z ++ token ∷ []
unfolding spelled script_step
script_step-spells z token next e = turned-spells z.apps (place_tokens z.head z.place) token (turn z.head z.place token) next (turn-turns z.head z.place token) e

-- ---- what has been read goes on to a script

record AppCompletes (ts : Tokens) : Type 0 where
  found : AppDef
  rest : Tokens
  is : app_tokens found ≡ ts ++ rest

shorter_app : (ts more : Tokens) → AppCompletes (ts ++ more) → AppCompletes ts
shorter_app ts more c = record { found = c.found; rest = more ++ c.rest; is = c.is ∙ append_assoc ts more c.rest }

body_completes : (h : AppHead) (z : BlockState) → AppCompletes (head_tokens h ++ inside z)
body_completes h z = let c = inside_completes z in
    record { found = app_of h c.found; rest = c.rest; is = app-spells h c.found ∙ (ap (λ x. head_tokens h ++ x) c.is ∙ sym (append_assoc (head_tokens h) (inside z) c.rest)) }

head_completes : (h : AppHead) (ts more : Tokens) → head_tokens h ≡ ts ++ more → AppCompletes ts
head_completes h ts more e = shorter_app ts more (subst AppCompletes e (shorter_app (head_tokens h) (inside block_begins) (body_completes h block_begins)))

pub script_is : (tree : Tree) → script tree ≡ script_tokens tree
unfolding script_tokens
script_is tree = refl

app_completes : (apps : List AppDef) (ts : Tokens) → AppCompletes ts → GoesOn (flat_map app_tokens apps ++ ts)
app_completes apps ts c = record {
  tree = (apps ++ c.found ∷ [], block []);
  rest = c.rest ++ (t.Keyword w.Main ∷ tokens_of_block (block []));
  is = script_is (apps ++ c.found ∷ [], block []) ∙ (script-spells (apps ++ c.found ∷ [], block []) ∙ simp (flat_map-append, append-nil, append_assoc, c.is));
}

main_completes : (apps : List AppDef) (ts : Tokens) (b : Block) (rest : Tokens) → t.Keyword w.Main ∷ tokens_of_block b ≡ ts ++ rest → GoesOn (flat_map app_tokens apps ++ ts)
main_completes apps ts b rest e = record {
  tree = (apps, b);
  rest = rest;
  is = script_is (apps, b) ∙ (script-spells (apps, b) ∙ (ap (λ x. flat_map app_tokens apps ++ x) e ∙ sym (append_assoc (flat_map app_tokens apps) ts rest)));
}

abbrev some_name : List ℕ
some_name = 102 ∷ []

abbrev head_with : Bool → Bool → AppHead
head_with cached join = with_name (flagged cached join) some_name

place_completes : (apps : List AppDef) (h : AppHead) (place : DefinitionState) → GoesOn (flat_map app_tokens apps ++ place_tokens h place)
unfolding place_tokens
place_completes apps h p.Begin = main_completes apps [] (block []) (t.Keyword w.Main ∷ tokens_of_block (block [])) refl
place_completes apps h p.CachedWord = app_completes apps _ (head_completes (head_with true false) _ (t.Keyword w.App ∷ t.Name some_name ∷ t.Symbol s.OpenParen ∷ symbol s.CloseParen) refl)
place_completes apps h p.JoinWord = app_completes apps _ (head_completes (head_with h.cached true) _ (t.Keyword w.App ∷ t.Name some_name ∷ t.Symbol s.OpenParen ∷ symbol s.CloseParen) (simp (append_assoc, append-nil)))
place_completes apps h p.AppWord = app_completes apps _ (head_completes (head_with h.cached h.join) _ (t.Name some_name ∷ t.Symbol s.OpenParen ∷ symbol s.CloseParen) (simp (append_assoc, append-nil)))
place_completes apps h p.AppName = app_completes apps _ (head_completes (with_parameters h []) _ (t.Symbol s.OpenParen ∷ symbol s.CloseParen) (simp (append_assoc, append-nil)))
place_completes apps h p.FirstParameter = app_completes apps _ (head_completes (with_parameters h []) _ (symbol s.CloseParen) (simp (append_assoc, append-nil)))
place_completes apps h (p.Parameter x) = app_completes apps _ (head_completes (with_parameters h (h.parameters ++ x ∷ [])) _ (symbol s.CloseParen) (rw (names-spell h.parameters x) (simp (append_assoc, append-nil))))
place_completes apps h p.NextParameter = app_completes apps _ (head_completes (with_parameters h (h.parameters ++ some_name ∷ [])) _ (t.Name some_name ∷ symbol s.CloseParen) (rw (names-spell h.parameters some_name) (simp (append_assoc, append-nil))))
place_completes apps h p.Parameters = app_completes apps _ (head_completes (with_outputs h None) _ [] refl)
place_completes apps h p.OutputsWord = app_completes apps _ (head_completes (with_outputs h (Some (pos 1))) _ (t.Number (pos 1) ∷ []) (simp append_assoc))
place_completes apps h p.HeadEnd = app_completes apps _ (head_completes h _ [] (sym (append-nil _)))
place_completes apps h (p.Body z) = app_completes apps _ (body_completes h z)
place_completes apps h p.MainWord = main_completes apps _ (block []) (tokens_of_block (block [])) refl
place_completes apps h (p.MainBody z) = let c = inside_completes z in main_completes apps _ c.found c.rest (ap (λ x. t.Keyword w.Main ∷ x) c.is)
place_completes apps h (p.End b) = main_completes apps _ b [] (sym (append-nil _))

pub script_completes : (z : ParserState) → GoesOn (spelled z)
unfolding spelled
script_completes z = place_completes z.apps z.head z.place

-- ---- what has been read is a script

tree_at-spells : (apps : List AppDef) (h : AppHead) (place : DefinitionState) (tree : Tree) → tree_at apps place ≡ Some tree → flat_map app_tokens apps ++ place_tokens h place ≡ script_tokens tree
unfolding place_tokens
tree_at-spells apps h (p.End b) tree e = let same : (apps, b) ≡ tree = some_is (apps, b) tree e in sym (script-spells (apps, b)) ∙ ap script_tokens same
  where
    some_is : (a c : Tree) → Some a ≡ Some c → a ≡ c
    some_is a c h = cc
tree_at-spells apps h _ tree e = absurd (cc)

pub script_ended-spells : (z : ParserState) (tree : Tree) → script_ended z ≡ Some tree → spelled z ≡ script tree
unfolding spelled script_ended
script_ended-spells z tree e = tree_at-spells z.apps z.head z.place tree e ∙ sym (script_is tree)

pub begins : spelled nothing_read ≡ []
unfolding spelled place_tokens
begins = refl
