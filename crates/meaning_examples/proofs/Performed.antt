-- A main performed statement by statement.
use Rattle.std.proofs.Common.{◌≡◌, ℕ, suc, List, [], ◌∷◌, ◌++◌, length, map, refl, ap, ◌∙◌, sym, Some, Result, Ok, Err}
use Rattle.script_tree.specs.declared.tree.Block.{roll-Block}
use Rattle.script_tree.specs.declared.tree.Statement.{Statement}
use Rattle.script_tree.specs.declared.tree.AppDef.{AppDef}
use Rattle.script_tree.specs.Folds.{fold_statement}
use Rattle.flow_base.specs.declared.outcome.Exception.{Exception}
use Rattle.flow_meaning.specs.declared.walk.Request.{Request}
use Rattle.flow_meaning.specs.declared.walk.Answer.{Answer}
use Rattle.flow_meaning.specs.Act.{Act, Give, Throw, Ask, ◌>>=◌}
use Rattle.flow_meaning.specs.Operators.{Layer, Text}
use Rattle.flow_meaning.specs.Inputs.{Path, path_in, inputs}
use Rattle.flow_meaning.specs.declared.walk.Request.TheVariants as request
use Rattle.flow_meaning.specs.Told.{called_value, result_of, awaits, awaited_value, told_value}
use Rattle.flow_base.specs.declared.value.Value.TheOpen.{Value-F}
use Rattle.flow_base.specs.declared.outcome.FileOut.{FileOut}
use Rattle.flow_base.specs.declared.outcome.Outcome.{Outcome}
use Rattle.flow_base.specs.declared.outcome.Outcome.TheVariants as o
use Rattle.meaning_examples.proofs.ValueFolds.{out-future}
use Rattle.flow_base.specs.declared.value.Value.{Value}
use Rattle.flow_base.specs.declared.value.Value.TheVariants as v
use Rattle.script_tree.specs.declared.tree.Expr.{Expr}
use Rattle.script_tree.specs.declared.tree.Statement.TheVariants as statement
use Rattle.flow_meaning.specs.Meaning.{Vars, value_of, put, sets, State, Flow, Goes, Returns, Done, doing, sequence, and_then, done, body, max_turns}
use Rattle.flow_meaning.specs.Sequential.{Rule, Ran, Task, Calls, Waits, Prints, Main, acted, waits, outcome_at, outcome_answer, perform, main_answer, rule, main_ran, app_names, at_start}
use Rattle.flow_meaning.specs.Evaluations.{no_losses}
use Rattle.meaning_examples.proofs.TreeFolds.{block-applied, let-applied, print-applied, tree_folds}

abbrev pub Answers : Type 0 → Type 0
Answers S = Request → S → Answer × S

abbrev pub then_perform : {A B S : Type 0} → Answers S → (A → Act B) → Result A Exception × S → Result B Exception × S
then_perform answer f (Ok x, s) = perform answer (f x) s
then_perform answer f (Err e, s) = (Err e, s)

pub perform-bind : {A B S : Type 0} (answer : Answers S) (a : Act A) (f : A → Act B) (s : S) → perform answer (a >>= f) s ≡ then_perform answer f (perform answer a s)
perform-bind answer (Give x) f s = refl
perform-bind answer (Throw e) f s = refl
perform-bind answer (Ask w go) f s = perform-bind answer (go (answer w s).0) f (answer w s).1

pub bind-give : {A : Type 0} (a : Act A) → (a >>= (λ x. Give x)) ≡ a
bind-give (Give x) = refl
bind-give (Throw e) = refl
bind-give (Ask w go) = λ i. Ask w (λ r. bind-give (go r) i)

module _ {S : Type 0} (answer : Answers S) (apps names : List Text) where
  -- what is left of a body, behind what its last statement gave
  abbrev pub further : Result Flow Exception → S → List Statement → Result Done Exception × S
  further (Err e) at ss = (Err e, at)
  further (Ok (Returns value s)) at ss = perform answer (done names (Returns value s)) at
  further (Ok (Goes s)) at [] = perform answer (done names (Goes s)) at
  further (Ok (Goes s)) at (st ∷ ss) = let r = perform answer (fold_statement (doing apps names) st s) at in further r.0 r.1 ss

  further-is : (ss : List Statement)
      → ((s : State) (at : S) → perform answer (sequence (map (fold_statement (doing apps names)) ss) s >>= done names) at ≡ further (Ok (Goes s)) at ss)
      → (r : Result Flow Exception × S) → then_perform answer (done names) (then_perform answer (λ f. and_then f (sequence (map (fold_statement (doing apps names)) ss))) r) ≡ further r.0 r.1 ss
  further-is ss rest (Err e, at) = refl
  further-is ss rest (Ok (Returns value s), at) = refl
  further-is ss rest (Ok (Goes s), at) = sym (perform-bind answer (sequence (map (fold_statement (doing apps names)) ss) s) (done names) at) ∙ rest s at

  pub statements-performed : (ss : List Statement) (s : State) (at : S) → perform answer (sequence (map (fold_statement (doing apps names)) ss) s >>= done names) at ≡ further (Ok (Goes s)) at ss
  statements-performed [] s at = refl
  statements-performed (st ∷ ss) s at =
      perform-bind answer (fold_statement (doing apps names) st s >>= (λ f. and_then f (sequence (map (fold_statement (doing apps names)) ss)))) (done names) at
      ∙ (ap (then_perform answer (done names)) (perform-bind answer (fold_statement (doing apps names) st s) (λ f. and_then f (sequence (map (fold_statement (doing apps names)) ss))) at)
      ∙ further-is ss (statements-performed ss) (perform answer (fold_statement (doing apps names) st s) at))

-- ---- main, without losses

module _ (apps : List AppDef) where
  abbrev pub names_in : List Text
  names_in = app_names apps no_losses

  abbrev pub settled : Rule
  settled = rule apps no_losses 63

  -- what main gives from here on, with these variables
  pub main_from : List Statement → Vars → Main → Result Done Exception × Main
  main_from ss vars m = further (main_answer settled) names_in [] (Ok (Goes (record { vars = vars; written = []; left = max_turns }))) m ss

  pub main-performed : (ss : List Statement) (end : Result Done Exception × Main) → main_from ss [] at_start ≡ end → main_ran apps (roll-Block (record { statements = ss })) no_losses ≡ end
  unfolding main_ran body main_from
  main-performed ss end rest =
      let s : State = record { vars = []; written = []; left = max_turns } in
      ap (λ act. perform (main_answer settled) (act >>= done []) at_start) (block-applied (doing names_in []) ss s)
      ∙ (statements-performed (main_answer settled) names_in [] ss s at_start ∙ rest)

  -- a call of main that waits for these paths, with its outcome and the tasks below it
  abbrev pub with_call : Main → ℕ → List Value → List Text → List Path → Ran → Main
  with_call m app arguments names paths ran =
      let task : Task = record { path = suc m.made.calls ∷ []; app = app; arguments = arguments; names = names; inputs = paths; outcome = ran.outcome } in
      record m { made = record { calls = suc m.made.calls; tasks = m.made.tasks ++ task ∷ ran.below }; acts = m.acts ++ Calls (suc m.made.calls ∷ []) ∷ [] }

  call-performed : (name : Text) (e : Expr) (s : State) (m : Main) (app : ℕ) (arguments : List Value) (names : List Text)
      → value_of names_in e s.vars ≡ Ask (request.Call app arguments names) called_value
      → perform (main_answer settled) (fold_statement (doing names_in []) (statement.Let name e) s) m
      ≡ (Ok (Goes (record s { vars = put s.vars name (v.Future (suc m.made.calls ∷ []) (length names)) })), with_call m app arguments names (inputs arguments) (settled (suc m.made.calls ∷ []) app arguments names m.made.tasks))
  call-performed name e s m app arguments names asks =
      ap (λ act. perform (main_answer settled) act m) (let-applied (doing names_in []) name e s ∙ ap (λ (act : Act Value). act >>= (λ value. sets name value s)) asks)

  -- a call whose future is named, with the paths that it waits for and what the rule gives it
  pub let-performed : (name : Text) (e : Expr) (ss : List Statement) (vars : Vars) (m : Main) (end : Result Done Exception × Main)
      → (app : ℕ) (arguments : List Value) (names : List Text) (paths : List Path) (ran : Ran)
      → value_of names_in e vars ≡ Ask (request.Call app arguments names) called_value
      → inputs arguments ≡ paths
      → settled (suc m.made.calls ∷ []) app arguments names m.made.tasks ≡ ran
      → main_from ss (put vars name (v.Future (suc m.made.calls ∷ []) (length names))) (with_call m app arguments names paths ran) ≡ end
      → main_from (statement.Let name e ∷ ss) vars m ≡ end
  unfolding main_from
  let-performed name e ss vars m end app arguments names paths ran asks waits gives rest =
      let s : State = record { vars = vars; written = []; left = max_turns } in
      let next : List Path → Ran → Result Done Exception × Main = λ paths ran. main_from ss (put vars name (v.Future (suc m.made.calls ∷ []) (length names))) (with_call m app arguments names paths ran) in
      ap (λ (r : Result Flow Exception × Main). further (main_answer settled) names_in [] r.0 r.1 ss) (call-performed name e s m app arguments names asks)
      ∙ (ap (λ paths. next paths (settled (suc m.made.calls ∷ []) app arguments names m.made.tasks)) waits ∙ (ap (next paths) gives ∙ rest))

  -- what is printed is the result of a future, behind what main had done
  abbrev pub printing : Main → Vars → Act Value → Result Flow Exception × Main
  printing m vars act = perform (main_answer settled) (act >>= (λ value. Ask (request.Print value) (λ _. Give (Goes (record { vars = vars; written = []; left = max_turns }))))) m

  print-performed : (e : Expr) (ss : List Statement) (vars : Vars) (m : Main) (path : Path) (outputs : ℕ) (outcome : Outcome)
      → value_of names_in e vars ≡ result_of (v.Future path outputs)
      → outcome_at m.made.tasks path ≡ Some outcome
      → perform (main_answer settled) (fold_statement (doing names_in []) (statement.Print e) (record { vars = vars; written = []; left = max_turns })) m
      ≡ printing (acted m (Waits path)) vars (told_value (Value-F.Future path outputs) outcome)
  unfolding result_of
  print-performed e ss vars m path outputs outcome asks has =
      let behind : Answer × Main → Layer → Result Flow Exception × Main = λ r layer. printing r.1 vars (awaited_value layer r.0) in
      ap (λ act. perform (main_answer settled) act m) (print-applied (doing names_in []) e (record { vars = vars; written = []; left = max_turns }))
      ∙ (ap (printing m vars) asks
      ∙ (ap (λ layer. printing m vars (awaits layer (Ask (request.WaitValue (v.Future path outputs)) (awaited_value layer)))) (out-future path outputs)
      ∙ (ap (λ (layer : Layer). behind (waits m (path_in layer)) (Value-F.Future path outputs)) (out-future path outputs)
      ∙ ap (λ outcome. behind (outcome_answer outcome, acted m (Waits path)) (Value-F.Future path outputs)) has)))

  -- the result of a call that failed ends main with its exception
  pub failed-performed : (e : Expr) (ss : List Statement) (vars : Vars) (m : Main) (after : Main) (exception : Exception) (path : Path) (outputs : ℕ)
      → value_of names_in e vars ≡ result_of (v.Future path outputs)
      → outcome_at m.made.tasks path ≡ Some (o.Failed exception)
      → acted m (Waits path) ≡ after
      → main_from (statement.Print e ∷ ss) vars m ≡ (Err exception, after)
  unfolding main_from
  failed-performed e ss vars m after exception path outputs asks has is =
      ap (λ (r : Result Flow Exception × Main). further (main_answer settled) names_in [] r.0 r.1 ss) (print-performed e ss vars m path outputs (o.Failed exception) asks has)
      ∙ ap (λ m. (Err exception, m)) is

  -- the result of a call that has a value is printed
  pub value-performed : (e : Expr) (ss : List Statement) (vars : Vars) (m : Main) (end : Result Done Exception × Main) (path : Path) (outputs : ℕ) (value : Value) (files : List FileOut)
      → value_of names_in e vars ≡ result_of (v.Future path outputs)
      → outcome_at m.made.tasks path ≡ Some (o.Value value files)
      → main_from ss vars (record (acted (acted m (Waits path)) (Prints value)) { printed = m.printed ++ value ∷ [] }) ≡ end
      → main_from (statement.Print e ∷ ss) vars m ≡ end
  unfolding main_from
  value-performed e ss vars m end path outputs value files asks has rest =
      ap (λ (r : Result Flow Exception × Main). further (main_answer settled) names_in [] r.0 r.1 ss) (print-performed e ss vars m path outputs (o.Value value files) asks has)
      ∙ rest

  -- main ends
  pub end-performed : (vars : Vars) (m : Main) → main_from [] vars m ≡ (Ok (v.Nothing, []), m)
  unfolding main_from
  end-performed vars m = refl

-- what an expression asks for
pub ruleset asking = (tree_folds, bind-give)
