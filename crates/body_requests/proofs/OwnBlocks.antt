-- What a body throws is of its own, where no outcome of a task is answered; so is what a plain app raises.
use Rattle.std.proofs.Common.{ℕ, zero, suc, Bool, true, false, if◌then◌else◌, List, [], ◌∷◌, ◌++◌, length, map, Option, Some, None, ℤ, pos, negsuc, sym, subst}
use Rattle.std.specs.Prelude.{nat_lt}
use Rattle.flow_base.specs.declared.value.Value.{Value}
use Rattle.flow_base.specs.declared.outcome.FileOut.{FileOut}
use Rattle.flow_base.specs.declared.outcome.Exception.TheVariants as x
use Rattle.flow_base.specs.declared.outcome.Ended.{Ended}
use Rattle.flow_base.specs.declared.outcome.Ended.TheVariants as ended
use Rattle.script_tree.specs.declared.tree.AppDef.{AppDef}
use Rattle.script_tree.specs.declared.tree.Expr.{Expr}
use Rattle.script_tree.specs.declared.tree.Block.{Block, roll-Block, ind-Block}
use Rattle.script_tree.specs.declared.tree.Statement.{Statement, roll-Statement}
use Rattle.script_tree.specs.declared.tree.Statement.TheOpen.{Statement-F}
use Rattle.script_tree.specs.declared.tree.Statement.TheFolds.{map-Statement}
use Rattle.script_tree.specs.Folds.{fold_block, fold_statement}
use Rattle.script_tree.proofs.Rolls.{in_statement, statement-rolled, block-rolled}
use Rattle.flow_meaning.specs.Act.{Act, Give, Throw, Ask, ◌>>=◌}
use Rattle.flow_meaning.specs.Operators.{Text, int_of, text_of, list_of, truth_of}
use Rattle.flow_meaning.specs.Sequential.{end_of, apply}
use Rattle.flow_meaning.specs.Meaning.{Calc, State, Flow, Goes, Returns, Does, Done, value_of, call_value, and_then, sequence, turn_from, turn, item_turn, each_turn, one_turn, goes_on, while_turns, repeated, file_fits, name_at, output_place, writes, statement_step, doing, files_from, files_of, done, body}
use Rattle.body_requests.specs.Asks.{Each}
use Rattle.body_requests.proofs.OwnExceptions.{IsOwn, Own, own_then, own_if}
use Rattle.body_requests.proofs.OwnOperators.{own_int_of, own_text_of, own_list_of}
use Rattle.body_requests.proofs.OwnExpressions.{IsOwnCalc, own_condition, expression_own, call_expression_own}

-- ---- statements

abbrev IsOwnDoes : Does → Type 0
IsOwnDoes d = (s : State) → Own (d s)

own_and : (f : Flow) (d : Does) → IsOwnDoes d → Own (and_then f d)
own_and (Goes s) d h = h s
own_and (Returns value s) d h = tt

own_sequence : (ds : List Does) → Each IsOwnDoes ds → IsOwnDoes (sequence ds)
own_sequence [] h s = tt
own_sequence (d ∷ ds) h s = own_then (d s) _ (h.0 s) (λ f. own_and f (sequence ds) (own_sequence ds h.1))

own_turn : (left : ℕ) (s : State) → Own (turn_from left s)
own_turn zero s = tt
own_turn (suc left) s = tt

own_item_turn : (name : Text) (d : Does) (item : Value) → IsOwnDoes d → IsOwnDoes (item_turn name d item)
own_item_turn name d item h s = own_then (turn s) _ (own_turn s.left s) (λ at. h _)

own_each_turn : (name : Text) (d : Does) (items : List Value) → IsOwnDoes d → IsOwnDoes (each_turn name d items)
own_each_turn name d [] h s = tt
own_each_turn name d (item ∷ items) h s = own_then (item_turn name d item s) _ (own_item_turn name d item h s) (λ f. own_and f (each_turn name d items) (own_each_turn name d items h))

own_turn_if : (holds : Bool) (d : Does) (s : State) → IsOwnDoes d → Own (if holds then (turn s >>= d >>= λ f. Give (Some f)) else Give None)
own_turn_if true d s h = own_then (turn s >>= d) _ (own_then (turn s) d (own_turn s.left s) h) (λ f. tt)
own_turn_if false d s h = tt

own_one_turn : (condition : Calc) (d : Does) → IsOwnCalc condition → IsOwnDoes d → (s : State) → Own (one_turn condition d s)
own_one_turn condition d c h s = own_then (condition s.vars >>= truth_of) _ (own_condition condition c s.vars) (λ holds. own_turn_if holds d s h)

own_goes_on : (s : State) (next : Does) (t : Option Flow) → IsOwnDoes next → Own (goes_on s next t)
own_goes_on s next None h = tt
own_goes_on s next (Some f) h = own_and f next h

own_while : (n : ℕ) (condition : Calc) (d : Does) → IsOwnCalc condition → IsOwnDoes d → IsOwnDoes (while_turns n condition d)
own_while zero condition d c h s = tt
own_while (suc n) condition d c h s = own_then (one_turn condition d s) _ (own_one_turn condition d c h s) (λ t. own_goes_on s (while_turns n condition d) t (own_while n condition d c h))

own_repeated : (condition : Calc) (d : Does) → IsOwnCalc condition → IsOwnDoes d → IsOwnDoes (repeated condition d)
unfolding repeated
own_repeated condition d c h s = own_while (suc s.left) condition d c h s

own_output_place : (i : ℤ) (n : ℕ) → Own (output_place i n)
own_output_place (pos i) n = own_if (nat_lt i n) i x.IndexError tt
own_output_place (negsuc i) n = tt

module _ (apps : List Text) (names : List Text) where
  own_writes : (i : ℤ) (content : Text) (s : State) → Own (writes apps names i content s)
  own_writes i content s = own_then (output_place i (length names)) _ (own_output_place i (length names)) (λ k. own_if (file_fits (name_at names k) content) _ x.SizeError tt)

  abbrev StatementOwn : Statement → Type 0
  StatementOwn y = IsOwnDoes (fold_statement (doing apps names) y)

  abbrev BlockOwn : Block → Type 0
  BlockOwn y = IsOwnDoes (fold_block (doing apps names) y)

  abbrev OpenStatement : Type 0
  OpenStatement = Statement-F ((y : Statement) × StatementOwn y) ((y : Block) × BlockOwn y)

  abbrev first_of : OpenStatement → Statement-F Statement Block
  first_of = map-Statement ((y : Statement) × StatementOwn y) ((y : Block) × BlockOwn y) Statement Block (λ e. e.0) (λ e. e.0)

  behind_value : {A : Type 0} (e : Expr) (next : Value → Act A) (s : State) → ((value : Value) → Own (next value)) → Own (value_of apps e s.vars >>= next)
  behind_value e next s h = own_then (value_of apps e s.vars) next (expression_own apps e s.vars) h

  own_branch : (holds : Bool) (d other : Does) → IsOwnDoes d → IsOwnDoes other → IsOwnDoes (if holds then d else other)
  own_branch true d other h k = h
  own_branch false d other h k = k

  statement_of : (y : OpenStatement) → IsOwnDoes (statement_step apps names (in_statement (doing apps names) (first_of y)))
  statement_of (Statement-F.Let name e) s = behind_value e _ s (λ value. tt)
  statement_of (Statement-F.Set name e) s = behind_value e _ s (λ value. tt)
  statement_of (Statement-F.While e d) s = own_repeated (value_of apps e) (fold_block (doing apps names) d.0) (expression_own apps e) d.1 s
  statement_of (Statement-F.For name e d) s = own_then (value_of apps e s.vars >>= list_of) _ (behind_value e list_of s own_list_of) (λ vs. own_each_turn name (fold_block (doing apps names) d.0) vs d.1 s)
  statement_of (Statement-F.If e d None) s = own_then (value_of apps e s.vars >>= truth_of) _ (own_condition (value_of apps e) (expression_own apps e) s.vars) (λ holds. own_branch holds (fold_block (doing apps names) d.0) (λ s. Give (Goes s)) d.1 (λ s. tt) s)
  statement_of (Statement-F.If e d (Some other)) s = own_then (value_of apps e s.vars >>= truth_of) _ (own_condition (value_of apps e) (expression_own apps e) s.vars) (λ holds. own_branch holds (fold_block (doing apps names) d.0) (fold_block (doing apps names) other.0) d.1 other.1 s)
  statement_of (Statement-F.Return e) s = behind_value e _ s (λ value. tt)
  statement_of (Statement-F.Raise e) s = own_then (value_of apps e s.vars >>= text_of) _ (behind_value e text_of s own_text_of) (λ t. tt)
  statement_of (Statement-F.Write d e) s = behind_value d _ s (λ at. behind_value e _ s (λ with. own_then (int_of at) _ (own_int_of at) (λ i. own_then (text_of with) _ (own_text_of with) (λ content. own_writes i content s))))
  statement_of (Statement-F.Print e) s = behind_value e _ s (λ value a dry. tt)
  statement_of Statement-F.Checkpoint s = λ a dry. tt
  statement_of (Statement-F.Call c) s = own_then (call_value apps c s.vars) _ (call_expression_own apps c s.vars) (λ value. tt)

  statement_own : (y : OpenStatement) → StatementOwn (roll-Statement (first_of y))
  statement_own y = subst IsOwnDoes (sym (statement-rolled (doing apps names) _)) (statement_of y)

  statements_own : (ys : List ((y : Statement) × StatementOwn y)) → Each IsOwnDoes (map (fold_statement (doing apps names)) (map (λ e. e.0) ys))
  statements_own [] = tt
  statements_own (y ∷ ys) = (y.1, statements_own ys)

  block_own : (ys : List ((y : Statement) × StatementOwn y)) → BlockOwn (roll-Block (record { statements = map (λ e. e.0) ys }))
  block_own ys = subst IsOwnDoes (sym (block-rolled (doing apps names) _)) (own_sequence _ (statements_own ys))

  every_block_own : (y : Block) → BlockOwn y
  every_block_own y = ind-Block StatementOwn BlockOwn (λ a z is. subst (λ u. StatementOwn (roll-Statement u)) is (statement_own z)) (λ a z is. subst (λ u. BlockOwn (roll-Block u)) is (block_own z.statements)) y

  own_files : (given : List FileOut) (ns : List Text) (ws : List (Option Text)) → Own (files_from given ns ws)
  own_files given [] ws = tt
  own_files given (n ∷ ns) [] = tt
  own_files given (n ∷ ns) (None ∷ ws) = tt
  own_files given (n ∷ ns) (Some content ∷ ws) = own_files (given ++ record { name = n; content = content } ∷ []) ns ws

  own_done : (f : Flow) → Own (done names f)
  own_done (Goes s) = own_then (files_of names s.written) _ (own_files [] names s.written) (λ files. tt)
  own_done (Returns value s) = own_then (files_of names s.written) _ (own_files [] names s.written) (λ files. tt)

  pub own_body : (block : Block) (parameters : List Text) (arguments : List Value) → Own (body apps block parameters arguments names)
  unfolding body
  own_body block parameters arguments = own_then _ _ (every_block_own block _) own_done

-- ---- plain apps

-- what a plain app raises is its own
abbrev pub EndsOwn : Ended → Type 0
EndsOwn (ended.Value value files) = Unit {0}
EndsOwn (ended.Raised exception) = IsOwn exception

ends_own : (a : Act Done) → Own a → EndsOwn (end_of a)
ends_own (Give d) h = tt
ends_own (Throw exception) h = h
ends_own (Ask w go) h = tt

pub apply-own : (app : AppDef) (arguments : List Value) (names : List Text) → EndsOwn (apply app arguments names)
unfolding apply
apply-own app arguments names = ends_own _ (own_body [] names app.body app.parameters arguments)
