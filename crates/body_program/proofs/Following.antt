-- A step follows its statement.
use Rattle.std.proofs.Common.{◌≡◌, ℕ, Bool, true, false, if◌then◌else◌, List, [], ◌∷◌, ◌++◌, map, length, Some, None, slice_get, slice_set, get_or, take, ◌+◌, ◌<◌, refl, ap, sym, ◌∙◌, append_assoc}
use Rattle.std.proofs.lemmas.List.{append-nil, map-append, take_more}
use Rattle.flow_base.specs.declared.value.Value.{Value}
use Rattle.flow_base.specs.declared.outcome.Exception.TheVariants as x
use Rattle.script_tree.specs.declared.tree.Expr.{Expr}
use Rattle.script_tree.specs.declared.tree.CallExpr.{CallExpr}
use Rattle.script_tree.specs.declared.tree.Block.{Block, out-Block, fold_out-Block}
use Rattle.script_tree.specs.declared.tree.Statement.{Statement, roll-Statement, fold-roll-Statement}
use Rattle.script_tree.specs.declared.tree.Statement.TheOpen.{Statement-F}
use Rattle.script_tree.specs.declared.tree.Statement.TheFolds.{map-Statement}
use Rattle.script_tree.specs.declared.tree.Statement.TheVariants as s
use Rattle.script_tree.specs.Folds.{fold_block, fold_statement}
use Rattle.flow_meaning.specs.declared.walk.Request.TheVariants as request
use Rattle.flow_meaning.specs.Act.{Give, Throw, Ask, ◌>>=◌}
use Rattle.flow_meaning.specs.Operators.{Text, text_of, list_of, truth_of, int_of}
use Rattle.flow_meaning.specs.Meaning.{doing}
use Rattle.flow_meaning.specs.Meaning as m
use Rattle.body_program.specs.declared.code.Code.{Code}
use Rattle.body_program.specs.declared.code.Simple.TheVariants as simple
use Rattle.body_program.specs.declared.code.Step.{Step}
use Rattle.body_program.specs.declared.code.Step.TheVariants as t
use Rattle.body_program.specs.Classes.{expr_calc, call_calc, statement_part, block_parts, sets_by}
use Rattle.body_program.specs.Meaning as code
use Rattle.body_program.specs.Resolved.{Table, Grows, IsDistinct, slots_of, store_of, flow_of, Means, DoesBy, Follows, AllFollow, Sets}
use Rattle.body_program.proofs.Agreeing.{told, Agrees, alike, both_agree, one_agrees, sets_agree, each_turn_agrees, repeated_agrees}
use Rattle.body_program.proofs.Slots.{later_at}
use Rattle.body_program.proofs.Steps.{does-While, does-For, does-If, does-Return, does-Raise, does-Write, does-Print, does-Checkpoint, does-Do}

-- ---- tables that grow

pub grows_none : {table : Table} → Grows table table
grows_none {table = table} = record { more = []; is = sym (append-nil table) }

pub grows_then : {table later last : Table} → Grows table later → Grows later last → Grows table last
grows_then {table = table} g h = record { more = g.more ++ h.more; is = h.is ∙ (ap (λ ns. ns ++ h.more) g.is ∙ append_assoc table g.more h.more) }

pub means_later : {table later : Table} {c : Code} {calc : m.Calc} → Grows table later → Means table c calc → Means later c calc
means_later g h = record { same = λ last k vars. h.same last (grows_then g k) vars }

pub all_follow_later : {table later : Table} {steps : List Step} {parts : List DoesBy} → Grows table later → AllFollow table steps parts → AllFollow later steps parts
all_follow_later g h = record { same = λ last k d names s. h.same last (grows_then g k) d names s }

-- ---- lists of steps

pub no_steps : {table : Table} → AllFollow table [] []
no_steps = record { same = λ later g d names s. refl }

pub one_more : {table later : Table} {steps : List Step} {step : Step} {parts : List DoesBy} {part : DoesBy}
    → AllFollow table steps parts → Grows table later → Follows later step part → AllFollow later (steps ++ step ∷ []) (parts ++ part ∷ [])
one_more {steps = steps} {step = step} {parts = parts} {part = part} a g h = record {
  same = λ last k d names s.
      rw (map-append (code.step_does names) steps (step ∷ []), map-append (λ (p : DoesBy). p names) parts (part ∷ []))
      (both_agree last (map (code.step_does names) steps) (code.step_does names step ∷ []) (map (λ (p : DoesBy). p names) parts) (part names ∷ [])
      (λ at. a.same last (grows_then g k) d names at)
      (one_agrees last (code.step_does names step) (part names) (λ at. h.same last k d names at)) s);
}

-- ---- what a statement does, by names

map_of_map : {A B C : Type 0} (f : A → B) (g : B → C) (xs : List A) → map (λ x. g (f x)) xs ≡ map g (map f xs)
map_of_map f g [] = refl
map_of_map f g (x ∷ xs) = ap (λ ys. g (f x) ∷ ys) (map_of_map f g xs)

-- the steps of a block one after another
pub block_part : (apps names : List Text) (b : Block) → fold_block (doing apps names) b ≡ m.sequence (map (λ (d : DoesBy). d names) (block_parts apps b))
unfolding fold_block fold_statement
block_part apps names b = fold_out-Block _ _ _ _ b ∙ ap m.sequence (map_of_map (statement_part apps) (λ (d : DoesBy). d names) (out-Block b).statements)

module _ (apps : List Text) where
  rolled : (names : List Text) (y : Statement-F Statement Block) → statement_part apps (roll-Statement y) names ≡ m.statement_step apps names (map-Statement Statement Block m.Does m.Does (fold_statement (doing apps names)) (fold_block (doing apps names)) y)
  unfolding fold_block fold_statement
  rolled names y = fold-roll-Statement m.Does m.Does _ _ y

  -- a step does what the statement's part does
  by_part : {table : Table} (step : Step) (statement : Statement) (y : Statement-F Statement Block) → roll-Statement y ≡ statement
      → ((later : Table) → Grows table later → IsDistinct later → (names : List Text) → Agrees later (code.step_does names step) (m.statement_step apps names (map-Statement Statement Block m.Does m.Does (fold_statement (doing apps names)) (fold_block (doing apps names)) y)))
      → Follows table step (statement_part apps statement)
  by_part step statement y is h = record { same = λ later g d names s. h later g d names s ∙ ap (λ (f : m.Does). told later (f s)) (sym (rolled names y) ∙ ap (λ (z : Statement). statement_part apps z names) is) }

  -- the same by the equation of the step
  by_step : {table : Table} (step : Step) (does : List Text → code.Does) (statement : Statement) (y : Statement-F Statement Block) → ((names : List Text) → code.step_does names step ≡ does names) → roll-Statement y ≡ statement
      → ((later : Table) → Grows table later → IsDistinct later → (names : List Text) → Agrees later (does names) (m.statement_step apps names (map-Statement Statement Block m.Does m.Does (fold_statement (doing apps names)) (fold_block (doing apps names)) y)))
      → Follows table step (statement_part apps statement)
  by_step step does statement y is part h = by_part step statement y part (λ later g d names s. ap (λ (f : code.Does). f (store_of later s)) (is names) ∙ h later g d names s)

  sets_by_calc : {table : Table} (k : ℕ) (name : Text) (c : Code) (e : Expr) (step : Step) → Means table c (expr_calc apps e) → slice_get table k ≡ Some name → Sets step k c → Follows table step (sets_by apps name e)
  sets_by_calc k name c e step h at sets = record { same = λ later g d names s. sets names (store_of later s) ∙ alike (flow_of later) (expr_calc apps e s.vars) (code.code_value (slots_of later s.vars) c) _ (λ value. m.sets name value s) (h.same later g s.vars) (λ value. sets_agree later d k name value s (later_at k name g at)) }

  pub set_follows : {table later : Table} (k : ℕ) (name : Text) (c : Code) (e : Expr) {step : Step} → Means table c (expr_calc apps e) → Grows table later → slice_get later k ≡ Some name → Sets step k c → Follows later step (sets_by apps name e)
  set_follows k name c e {step = step} h g at sets = sets_by_calc k name c e step (means_later g h) at sets

  pub let_follows : {table : Table} {step : Step} (name : Text) (e : Expr) → Follows table step (sets_by apps name e) → Follows table step (statement_part apps (s.Let name e))
  let_follows {step = step} name e h = by_part step (s.Let name e) (Statement-F.Let name e) (s.rolls-Let name e) h.same

  pub assignment_follows : {table : Table} {step : Step} (name : Text) (e : Expr) → Follows table step (sets_by apps name e) → Follows table step (statement_part apps (s.Set name e))
  assignment_follows {step = step} name e h = by_part step (s.Set name e) (Statement-F.Set name e) (s.rolls-Set name e) h.same

  pub return_follows : {table : Table} {c : Code} (e : Expr) → Means table c (expr_calc apps e) → Follows table (t.Simple (simple.Return c)) (statement_part apps (s.Return e))
  return_follows {c = c} e h = by_step (t.Simple (simple.Return c)) _ (s.Return e) (Statement-F.Return e) (λ names. does-Return names c) (s.rolls-Return e)
      (λ later g d names s. alike (flow_of later) (expr_calc apps e s.vars) (code.code_value (slots_of later s.vars) c) (λ value. Give (code.Returns value (store_of later s))) (λ value. Give (m.Returns value s)) (h.same later g s.vars) (λ value. refl))

  pub raise_follows : {table : Table} {c : Code} (e : Expr) → Means table c (expr_calc apps e) → Follows table (t.Simple (simple.Raise c)) (statement_part apps (s.Raise e))
  raise_follows {c = c} e h = by_step (t.Simple (simple.Raise c)) _ (s.Raise e) (Statement-F.Raise e) (λ names. does-Raise names c) (s.rolls-Raise e)
      (λ later g d names s. alike (flow_of later) (expr_calc apps e s.vars >>= text_of) (code.code_value (slots_of later s.vars) c >>= text_of) (λ text. Throw (x.AppError text)) (λ text. Throw (x.AppError text)) (ap (λ a. a >>= text_of) (h.same later g s.vars)) (λ value. refl))

  pub print_follows : {table : Table} {c : Code} (e : Expr) → Means table c (expr_calc apps e) → Follows table (t.Simple (simple.Print c)) (statement_part apps (s.Print e))
  print_follows {c = c} e h = by_step (t.Simple (simple.Print c)) _ (s.Print e) (Statement-F.Print e) (λ names. does-Print names c) (s.rolls-Print e)
      (λ later g d names s. alike (flow_of later) (expr_calc apps e s.vars) (code.code_value (slots_of later s.vars) c) (λ value. Ask (request.Print value) (λ _. Give (code.Goes (store_of later s)))) (λ value. Ask (request.Print value) (λ _. Give (m.Goes s))) (h.same later g s.vars) (λ value. refl))

  pub checkpoint_follows : {table : Table} → Follows table (t.Simple simple.Checkpoint) (statement_part apps s.Checkpoint)
  checkpoint_follows = by_step (t.Simple simple.Checkpoint) _ s.Checkpoint Statement-F.Checkpoint (λ names. does-Checkpoint names) s.rolls-Checkpoint (λ later g d names s. refl)

  pub call_follows : {table : Table} {c : Code} (e : CallExpr) → Means table c (call_calc apps e) → Follows table (t.Simple (simple.Do c)) (statement_part apps (s.Call e))
  call_follows {c = c} e h = by_step (t.Simple (simple.Do c)) _ (s.Call e) (Statement-F.Call e) (λ names. does-Do names c) (s.rolls-Call e)
      (λ later g d names s. alike (flow_of later) (call_calc apps e s.vars) (code.code_value (slots_of later s.vars) c) (λ value. Give (code.Goes (store_of later s))) (λ value. Give (m.Goes s)) (h.same later g s.vars) (λ value. refl))

  written_agrees : (later : Table) (names : List Text) (s : m.State) (at with : Value) → code.writes names at with (store_of later s) ≡ told later (int_of at >>= λ i. text_of with >>= λ content. m.writes apps names i content s)
  written_agrees later names s at with = alike (flow_of later) (int_of at) (int_of at) _ _ refl (λ i. alike (flow_of later) (text_of with) (text_of with) _ _ refl (λ content.
      alike (flow_of later) (m.output_place i (length names)) (m.output_place i (length names)) _ _ refl (λ k. fits_or (m.file_fits (m.name_at names k) content) k content)))
    where
      fits_or : (fits : Bool) (k : ℕ) (content : Text)
          → (if fits then Give (code.Goes (record (store_of later s) { written = slice_set s.written k (Some content) })) else Throw x.SizeError) ≡ told later (if fits then Give (m.Goes (record s { written = slice_set s.written k (Some content) })) else Throw x.SizeError)
      fits_or true k content = refl
      fits_or false k content = refl

  pub write_follows : {table later : Table} {c d : Code} (e f : Expr) → Means table c (expr_calc apps e) → Grows table later → Means later d (expr_calc apps f) → Follows later (t.Simple (simple.Write c d)) (statement_part apps (s.Write e f))
  write_follows {c = c} {d = d} e f h grows k = by_step (t.Simple (simple.Write c d)) _ (s.Write e f) (Statement-F.Write e f) (λ names. does-Write names c d) (s.rolls-Write e f)
      (λ later g _ names s. alike (flow_of later) (expr_calc apps e s.vars) (code.code_value (slots_of later s.vars) c) _ _ (h.same later (grows_then grows g) s.vars)
      (λ at. alike (flow_of later) (expr_calc apps f s.vars) (code.code_value (slots_of later s.vars) d) _ _ (k.same later g s.vars) (λ with. written_agrees later names s at with)))

  block_agrees : {table : Table} (steps : List Step) (b : Block) (later : Table) (names : List Text) → AllFollow table steps (block_parts apps b) → Grows table later → IsDistinct later → Agrees later (code.steps_do names steps) (fold_block (doing apps names) b)
  block_agrees steps b later names a g d s = a.same later g d names s ∙ ap (λ (f : m.Does). told later (f s)) (sym (block_part apps names b))

  pub while_follows : {table later : Table} {c : Code} {steps : List Step} (e : Expr) (b : Block) → Means table c (expr_calc apps e) → Grows table later → AllFollow later steps (block_parts apps b) → Follows later (t.While c steps) (statement_part apps (s.While e b))
  while_follows {c = c} {steps = steps} e b h grows a = by_step (t.While c steps) _ (s.While e b) (Statement-F.While e b) (λ names. does-While names c steps) (s.rolls-While e b)
      (λ later g d names s. repeated_agrees later c (expr_calc apps e) (code.steps_do names steps) (fold_block (doing apps names) b) (h.same later (grows_then grows g)) (block_agrees steps b later names a g d) s)

  pub for_follows : {table middle later : Table} {k : ℕ} {c : Code} {steps : List Step} (name : Text) (e : Expr) (b : Block) → Means table c (expr_calc apps e) → Grows table middle → slice_get middle k ≡ Some name → Grows middle later → AllFollow later steps (block_parts apps b) → Follows later (t.For k c steps) (statement_part apps (s.For name e b))
  for_follows {k = k} {c = c} {steps = steps} name e b h first at second a = by_step (t.For k c steps) _ (s.For name e b) (Statement-F.For name e b) (λ names. does-For names k c steps) (s.rolls-For name e b)
      (λ later g d names s. alike (flow_of later) (expr_calc apps e s.vars >>= list_of) (code.code_value (slots_of later s.vars) c >>= list_of) _ _ (ap (λ v. v >>= list_of) (h.same later (grows_then first (grows_then second g)) s.vars))
      (λ items. each_turn_agrees later k name (code.steps_do names steps) (fold_block (doing apps names) b) d (later_at k name (grows_then second g) at) (block_agrees steps b later names a g d) items s))

  either_agrees : (later : Table) (x y : code.Does) (f g : m.Does) → Agrees later x f → Agrees later y g → (s : m.State) (holds : Bool) → (if holds then x else y) (store_of later s) ≡ told later ((if holds then f else g) s)
  either_agrees later x y f g h k s true = h s
  either_agrees later x y f g h k s false = k s

  pub if_follows : {table later : Table} {c : Code} {steps : List Step} (e : Expr) (b : Block) → Means table c (expr_calc apps e) → Grows table later → AllFollow later steps (block_parts apps b) → Follows later (t.If c steps []) (statement_part apps (s.If e b None))
  if_follows {c = c} {steps = steps} e b h grows a = by_step (t.If c steps []) _ (s.If e b None) (Statement-F.If e b None) (λ names. does-If names c steps []) (s.rolls-If e b None)
      (λ later g d names s. alike (flow_of later) (expr_calc apps e s.vars >>= truth_of) (code.code_value (slots_of later s.vars) c >>= truth_of) _ _ (ap (λ v. v >>= truth_of) (h.same later (grows_then grows g) s.vars))
      (either_agrees later (code.steps_do names steps) (code.sequence []) (fold_block (doing apps names) b) (λ s. Give (m.Goes s)) (block_agrees steps b later names a g d) (λ s. refl) s))

  pub if_else_follows : {table middle later : Table} {c : Code} {steps others : List Step} (e : Expr) (b other : Block) → Means table c (expr_calc apps e) → Grows table middle → AllFollow middle steps (block_parts apps b) → Grows middle later → AllFollow later others (block_parts apps other) → Follows later (t.If c steps others) (statement_part apps (s.If e b (Some other)))
  if_else_follows {c = c} {steps = steps} {others = others} e b other h first a second o = by_step (t.If c steps others) _ (s.If e b (Some other)) (Statement-F.If e b (Some other)) (λ names. does-If names c steps others) (s.rolls-If e b (Some other))
      (λ later g d names s. alike (flow_of later) (expr_calc apps e s.vars >>= truth_of) (code.code_value (slots_of later s.vars) c >>= truth_of) _ _ (ap (λ v. v >>= truth_of) (h.same later (grows_then first (grows_then second g)) s.vars))
      (either_agrees later (code.steps_do names steps) (code.steps_do names others) (fold_block (doing apps names) b) (fold_block (doing apps names) other) (block_agrees steps b later names a (grows_then second g) d) (block_agrees others other later names o g d) s))

-- ---- lists of statements

pub part_more : {A : Type 0} (f : A → DoesBy) (xs : List A) (i : ℕ) (x : A) → i < length xs → x ≡ get_or xs i x → map f (take (i + 1) xs) ≡ map f (take i xs) ++ f x ∷ []
part_more f xs i x h is = ap (map f) (take_more xs i x h) ∙ (map-append f (take i xs) (get_or xs i x ∷ []) ∙ ap (λ y. map f (take i xs) ++ f y ∷ []) (sym is))

pub next_follows : {A : Type 0} {table later : Table} (f : A → DoesBy) (xs : List A) (i : ℕ) (x : A) {steps : List Step} {step : Step} → i < length xs → x ≡ get_or xs i x → AllFollow table steps (map f (take i xs)) → Grows table later → Follows later step (f x) → AllFollow later (steps ++ step ∷ []) (map f (take (i + 1) xs))
next_follows f xs i x {steps = steps} {step = step} h is a g k = rw (part_more f xs i x h is) (one_more a g k)
