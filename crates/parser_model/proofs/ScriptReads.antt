-- What is spelled as a script is read.
use Rattle.std.proofs.Common.{◌≡◌, ℕ, List, [], ◌∷◌, ◌++◌, refl, ap, ◌∙◌, sym, subst, Bool, true, false, Option, Some, None, append-nil, append_assoc}
use Rattle.std.specs.Prelude.{ℤ}
use Rattle.std.specs.List.{flat_map}
use Rattle.script_tree.specs.declared.token.Token.{Token}
use Rattle.script_tree.specs.declared.token.Token.TheVariants as t
use Rattle.script_tree.specs.declared.token.Keyword.TheVariants as w
use Rattle.script_tree.specs.declared.token.Symbol.TheVariants as s
use Rattle.script_tree.specs.declared.tree.Block.{Block, out-Block, roll-out-Block}
use Rattle.script_tree.specs.declared.tree.Statement.{Statement}
use Rattle.script_tree.specs.declared.tree.AppDef.{AppDef}
use Rattle.script_tree.specs.Spelling.{Tokens, symbol, listed, outputs_part, names_of, script}
use Rattle.script_tree.specs.Grammar.{Tree}
use Rattle.parser_model.specs.declared.block_state.Opened.{Opened}
use Rattle.parser_model.specs.declared.block_state.BlockState.{BlockState}
use Rattle.parser_model.specs.declared.block_state.StatementState.TheVariants as i
use Rattle.parser_model.specs.declared.script_state.AppHead.{AppHead}
use Rattle.parser_model.specs.declared.script_state.DefinitionState.{DefinitionState}
use Rattle.parser_model.specs.declared.script_state.DefinitionState.TheVariants as p
use Rattle.parser_model.specs.declared.script_state.ParserState.{ParserState}
use Rattle.parser_model.specs.Stages.{Now, In, Out, Stuck, act, block, inside_step}
use Rattle.parser_model.specs.Scripts.{flagged, no_head, with_name, with_parameters, with_outputs, block_begins, app_of, in_body, in_main, turn, turned, script_step, nothing_read, script_ended}
use Rattle.parser_model.proofs.Blocks.{statement, tokens_of_block, block-rolled}
use Rattle.parser_model.proofs.BlockReads.{then_go, run_in, runs_in, Ready, statements_all_read, not_else}
use Rattle.parser_model.proofs.Scripts.{app_tokens, script-spells, script_is, flags, head_tokens, app-spells, spelled, begins, script_step-spells, script_completes, script_ended-spells}
use Rattle.parser_model.proofs.Least.{Laws, walk, walk-append, then_walk}

-- ---- the statements of an outermost block

record StatementsRead (os : List Opened) (done xs : List Statement) (z : BlockState) : Type 0 where
  last : BlockState
  run : run_in (flat_map statement xs) z ≡ In last
  ready : Ready last os (done ++ xs)

statements_run : (os : List Opened) (done xs : List Statement) (z : BlockState) → Ready z os done → StatementsRead os done xs z
statements_run os done [] z ready = record { last = z; run = refl; ready = subst (Ready z os) (sym (append-nil done)) ready }
statements_run os done (x ∷ xs) z ready =
    let r = statements_all_read x os done in
    let here : run_in (r.first ∷ r.rest) z ≡ In r.last = ap (then_go (run_in r.rest)) (ready r.first (not_else r.first r.rest os done r.last r.run)) ∙ r.run in
    let more = statements_run os (done ++ x ∷ []) xs r.last r.ready in
    record {
      last = more.last;
      run = runs_in (statement x) (flat_map statement xs) z r.last _ (ap (λ (ts : Tokens). run_in ts z) r.is ∙ here) more.run;
      ready = subst (Ready more.last os) (append_assoc done (x ∷ []) xs) more.ready;
    }

-- the tokens of a block behind its `{`, without its `}`
abbrev body : Block → Tokens
body b = flat_map statement (out-Block b).statements

record BodyRead (b : Block) : Type 0 where
  last : BlockState
  run : run_in (body b) block_begins ≡ In last
  leaves : inside_step last (t.Symbol s.CloseBlock) ≡ Out b

begin_leaves : (ss : List Statement) → inside_step (record { opened = []; before = ss; last = i.Begin }) (t.Symbol s.CloseBlock) ≡ Out (block ss)
unfolding inside_step act
begin_leaves ss = refl

body_reads : (b : Block) → BodyRead b
body_reads b =
    let r = statements_run [] [] (out-Block b).statements block_begins (λ token h. refl) in
    record {
      last = r.last;
      run = r.run;
      leaves = r.ready (t.Symbol s.CloseBlock) refl ∙ (begin_leaves (out-Block b).statements ∙ ap (λ (z : Block). Out z) (roll-out-Block b));
    }

block-spells : (b : Block) → tokens_of_block b ≡ t.Symbol s.OpenBlock ∷ (body b ++ symbol s.CloseBlock)
block-spells b = ap tokens_of_block (sym (roll-out-Block b)) ∙ block-rolled (out-Block b).statements

-- ---- the tokens of a script

abbrev pub go : Tokens → ParserState → Option ParserState
go = walk ParserState script_step spelled nothing_read script_ended

abbrev then_go_on : (ParserState → Option ParserState) → Option ParserState → Option ParserState
then_go_on = then_walk ParserState script_step spelled nothing_read script_ended

goes : (ts us : Tokens) (x y : ParserState) (r : Option ParserState) → go ts x ≡ Some y → go us y ≡ r → go (ts ++ us) x ≡ r
goes ts us x y r e h = walk-append ParserState script_step spelled nothing_read script_ended ts us x ∙ (ap (then_go_on (go us)) e ∙ h)

abbrev at : List AppDef → AppHead → DefinitionState → ParserState
at apps h place = record { apps = apps; head = h; place = place }

-- a place inside of a block, where the block's steps are the script's
abbrev Carries : List AppDef → AppHead → (BlockState → DefinitionState) → Type 0
Carries apps h f = (z next : BlockState) (token : Token) → inside_step z token ≡ In next → script_step (at apps h (f z)) token ≡ Some (at apps h (f next))

same_place : (apps : List AppDef) (h : AppHead) (f : BlockState → DefinitionState) (z y : BlockState) → In z ≡ In y → Some (at apps h (f z)) ≡ Some (at apps h (f y))
same_place apps h f z y e = let same : z ≡ y = cc in ap (λ (x : BlockState). Some (at apps h (f x))) same

carried_by : (apps : List AppDef) (h : AppHead) (f : BlockState → DefinitionState) (token : Token) (ts : Tokens) (z y : BlockState) (n : Now) → Carries apps h f → inside_step z token ≡ n
    → ((x : BlockState) → run_in ts x ≡ In y → go ts (at apps h (f x)) ≡ Some (at apps h (f y))) → then_go (run_in ts) n ≡ In y → go (token ∷ ts) (at apps h (f z)) ≡ Some (at apps h (f y))
carried_by apps h f token ts z y (In x) c is k e = ap (then_go_on (go ts)) (c z x token is) ∙ k x e
carried_by apps h f token ts z y (Out b) c is k e = absurd (cc)
carried_by apps h f token ts z y Stuck c is k e = absurd (cc)

carried : (apps : List AppDef) (h : AppHead) (f : BlockState → DefinitionState) → Carries apps h f → (ts : Tokens) (z y : BlockState) → run_in ts z ≡ In y → go ts (at apps h (f z)) ≡ Some (at apps h (f y))
carried apps h f c [] z y e = same_place apps h f z y e
carried apps h f c (token ∷ ts) z y e = carried_by apps h f token ts z y (inside_step z token) c refl (λ x. carried apps h f c ts x y) e

body_carries : (apps : List AppDef) (h : AppHead) → Carries apps h (λ z. p.Body z)
unfolding script_step turn
body_carries apps h z next token e = ap (λ (n : Now). turned apps (in_body h n)) e

main_carries : (apps : List AppDef) (h : AppHead) → Carries apps h (λ z. p.MainBody z)
unfolding script_step turn
main_carries apps h z next token e = ap (λ (n : Now). turned apps (in_main h n)) e

body_ends : (apps : List AppDef) (h : AppHead) (b : Block) (z : BlockState) → inside_step z (t.Symbol s.CloseBlock) ≡ Out b
    → go (symbol s.CloseBlock) (at apps h (p.Body z)) ≡ Some (at (apps ++ app_of h b ∷ []) no_head p.Begin)
unfolding script_step turn
body_ends apps h b z e = ap (λ (n : Now). then_go_on (go []) (turned apps (in_body h n))) e

main_ends : (apps : List AppDef) (h : AppHead) (b : Block) (z : BlockState) → inside_step z (t.Symbol s.CloseBlock) ≡ Out b → go (symbol s.CloseBlock) (at apps h (p.MainBody z)) ≡ Some (at apps h (p.End b))
unfolding script_step turn
main_ends apps h b z e = ap (λ (n : Now). then_go_on (go []) (turned apps (in_main h n))) e

body_goes : (apps : List AppDef) (h : AppHead) (b : Block) → go (body b ++ symbol s.CloseBlock) (at apps h (p.Body block_begins)) ≡ Some (at (apps ++ app_of h b ∷ []) no_head p.Begin)
body_goes apps h b =
    let r = body_reads b in
    goes (body b) (symbol s.CloseBlock) _ (at apps h (p.Body r.last)) _ (carried apps h (λ z. p.Body z) (body_carries apps h) (body b) block_begins r.last r.run) (body_ends apps h b r.last r.leaves)

main_goes : (apps : List AppDef) (h : AppHead) (b : Block) → go (t.Keyword w.Main ∷ tokens_of_block b) (at apps h p.Begin) ≡ Some (at apps h (p.End b))
unfolding script_step turn
main_goes apps h b =
    let r = body_reads b in
    ap (λ (ts : Tokens). go (t.Keyword w.Main ∷ ts) (at apps h p.Begin)) (block-spells b)
    ∙ goes (body b) (symbol s.CloseBlock) _ (at apps h (p.MainBody r.last)) _ (carried apps h (λ z. p.MainBody z) (main_carries apps h) (body b) block_begins r.last r.run) (main_ends apps h b r.last r.leaves)

-- ---- the head of an app

flags_go : (apps : List AppDef) (c j : Bool) (x : List ℕ)
    → go (flags (flagged c j) (t.Keyword w.App ∷ t.Name x ∷ symbol s.OpenParen)) (at apps no_head p.Begin) ≡ Some (at apps (with_name (flagged c j) x) p.FirstParameter)
unfolding script_step turn
flags_go apps true true x = refl
flags_go apps true false x = refl
flags_go apps false true x = refl
flags_go apps false false x = refl

more_parameters : (apps : List AppDef) (h : AppHead) (ds : List (List ℕ)) (d : List ℕ) (xs : List (List ℕ))
    → go (flat_map (λ f. t.Symbol s.Comma ∷ f) (names_of xs) ++ symbol s.CloseParen) (at apps (with_parameters h ds) (p.Parameter d)) ≡ Some (at apps (with_parameters h (ds ++ d ∷ xs)) p.Parameters)
unfolding script_step turn
more_parameters apps h ds d [] = refl
more_parameters apps h ds d (x ∷ xs) = more_parameters apps h (ds ++ d ∷ []) x xs ∙ ap (λ (z : List (List ℕ)). Some (at apps (with_parameters h z) p.Parameters)) (append_assoc ds (d ∷ []) (x ∷ xs))

parameters_go : (apps : List AppDef) (h : AppHead) (xs : List (List ℕ)) → go (listed (names_of xs) ++ symbol s.CloseParen) (at apps h p.FirstParameter) ≡ Some (at apps (with_parameters h xs) p.Parameters)
unfolding script_step turn
parameters_go apps h [] = refl
parameters_go apps h (x ∷ xs) = more_parameters apps h [] x xs

outputs_go : (apps : List AppDef) (h : AppHead) (n : Option ℤ) → go (outputs_part n ++ symbol s.OpenBlock) (at apps h p.Parameters) ≡ Some (at apps (with_outputs h n) (p.Body block_begins))
unfolding script_step turn
outputs_go apps h None = refl
outputs_go apps h (Some n) = refl

-- ---- apps

abbrev head_of : AppDef → AppHead
head_of a = record { cached = a.cached; join = a.join; name = a.name; parameters = a.parameters; outputs = a.outputs }

app_pieces : (a : AppDef) → app_tokens a ≡ flags (flagged a.cached a.join) (t.Keyword w.App ∷ t.Name a.name ∷ symbol s.OpenParen)
    ++ ((listed (names_of a.parameters) ++ symbol s.CloseParen) ++ ((outputs_part a.outputs ++ symbol s.OpenBlock) ++ (body a.body ++ symbol s.CloseBlock)))
app_pieces a = app-spells (head_of a) a.body ∙ (ap (λ z. head_tokens (head_of a) ++ z) (block-spells a.body) ∙ simp append_assoc)

app_goes : (apps : List AppDef) (a : AppDef) → go (app_tokens a) (at apps no_head p.Begin) ≡ Some (at (apps ++ a ∷ []) no_head p.Begin)
app_goes apps a =
    let c : AppHead = flagged a.cached a.join in
    ap (λ (ts : Tokens). go ts (at apps no_head p.Begin)) (app_pieces a)
    ∙ goes (flags c (t.Keyword w.App ∷ t.Name a.name ∷ symbol s.OpenParen)) _ _ (at apps (with_name c a.name) p.FirstParameter) _ (flags_go apps a.cached a.join a.name)
    (goes (listed (names_of a.parameters) ++ symbol s.CloseParen) _ _ (at apps (with_parameters (with_name c a.name) a.parameters) p.Parameters) _ (parameters_go apps (with_name c a.name) a.parameters)
    (goes (outputs_part a.outputs ++ symbol s.OpenBlock) _ _ (at apps (head_of a) (p.Body block_begins)) _ (outputs_go apps (with_parameters (with_name c a.name) a.parameters) a.outputs)
    (body_goes apps (head_of a) a.body)))

apps_go : (done more : List AppDef) → go (flat_map app_tokens more) (at done no_head p.Begin) ≡ Some (at (done ++ more) no_head p.Begin)
apps_go done [] = ap (λ (z : List AppDef). Some (at z no_head p.Begin)) (sym (append-nil done))
apps_go done (a ∷ more) = goes (app_tokens a) (flat_map app_tokens more) _ (at (done ++ a ∷ []) no_head p.Begin) _ (app_goes done a)
    (apps_go (done ++ a ∷ []) more ∙ ap (λ (z : List AppDef). Some (at z no_head p.Begin)) (append_assoc done (a ∷ []) more))

script_goes : (tree : Tree) → go (script tree) nothing_read ≡ Some (at tree.0 no_head (p.End tree.1))
script_goes tree = ap (λ (ts : Tokens). go ts nothing_read) (script_is tree ∙ script-spells tree)
    ∙ goes (flat_map app_tokens tree.0) (t.Keyword w.Main ∷ tokens_of_block tree.1) _ (at tree.0 no_head p.Begin) _ (apps_go [] tree.0) (main_goes tree.0 no_head tree.1)

end_is : (tree : Tree) → script_ended (at tree.0 no_head (p.End tree.1)) ≡ Some tree
unfolding script_ended
end_is tree = refl

-- the laws hold of the machine that reads scripts
pub script_laws : Laws ParserState script_step spelled nothing_read script_ended
script_laws = record {
  begins = begins;
  spells = script_step-spells;
  completes = script_completes;
  ends = script_ended-spells;
  reads = λ tree. (at tree.0 no_head (p.End tree.1), script_goes tree, end_is tree);
}
