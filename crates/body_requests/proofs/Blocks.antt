-- What every statement, block and body asks and gives.
use Rattle.std.proofs.Common.{◌≡◌, ℕ, zero, suc, Bool, true, false, if◌then◌else◌, List, [], ◌∷◌, ◌++◌, length, map, flat_map, Option, Some, None, slice_set, ℤ, pos, negsuc, refl, sym, ap, subst}
use Rattle.std.specs.Prelude.{nat_lt}
use Rattle.flow_base.specs.declared.value.Value.{Value}
use Rattle.flow_base.specs.declared.value.Value.TheVariants as v
use Rattle.flow_base.specs.declared.outcome.FileOut.{FileOut}
use Rattle.flow_base.specs.declared.outcome.Exception.TheVariants as x
use Rattle.script_tree.specs.declared.tree.Block.{Block, roll-Block, ind-Block}
use Rattle.script_tree.specs.declared.tree.Statement.{Statement, roll-Statement}
use Rattle.script_tree.specs.declared.tree.Statement.TheOpen.{Statement-F}
use Rattle.script_tree.specs.declared.tree.Statement.TheFolds.{map-Statement}
use Rattle.script_tree.specs.declared.tree.Expr.{Expr}
use Rattle.script_tree.specs.Folds.{fold_block, fold_statement, fold_expr}
use Rattle.script_tree.specs.Marks.{Name, Mark, Marks, NamesApp, Other, Closes, Opens, MakesVisible, InBlock, expr_marks, statement_marks, block_marks, else_part}
use Rattle.script_tree.specs.Marks as marks
use Rattle.flow_meaning.specs.declared.walk.Request.{Request}
use Rattle.flow_meaning.specs.declared.walk.Answer.{Answer}
use Rattle.flow_meaning.specs.Act.{Act, Give, Throw, ◌>>=◌}
use Rattle.flow_meaning.specs.Inputs.{Path}
use Rattle.flow_meaning.specs.Operators.{Text, int_of, text_of, list_of, truth_of}
use Rattle.flow_meaning.specs.Meaning.{Vars, Calc, State, Flow, Goes, Returns, Does, Done, put, value_of, call_value, and_then, sequence, turn_from, turn, item_turn, each_turn, one_turn, goes_on, while_turns, repeated, file_fits, name_at, output_place, writes, statement_step, doing, files_from, files_of, done, unwritten, body}
use Rattle.body_requests.specs.Asks.{Each, told_by, Asks}
use Rattle.body_requests.proofs.Acts.{each_append, each_parts, Grown, grown_front, Gives, gives_then, gives_if, gives_more, asks_of_gives, gives_asks, asks_then}
use Rattle.body_requests.proofs.Operators.{int_of_gives, text_of_gives, list_of_gives}
use Rattle.body_requests.proofs.Expressions.{Laws, VarsHave, vars_grow, values_grow, put_has, zip_has, condition_asks}
use Rattle.body_requests.proofs.Trees.{MarksHave, K, expression_kept, call_expression_kept}
use Rattle.script_tree.proofs.Rolls.{in_statement, statement-rolled, block-rolled}

module _ (apps : List Text) (G : List Path → Value → Type 0) (R : List Path → Request → Type 0) (T : Answer → Type 0) (M : Mark → Type 0) (H : Text → Text → Type 0) (laws : Laws apps G R T M H) (names : List Text) where
  abbrev Have : List Path → Vars → Type 0
  Have = VarsHave apps G R T M H laws

  abbrev Marked : Marks → Type 0
  Marked = MarksHave apps G R T M H laws

  -- what was written to the outputs of these names
  abbrev pub Written : List Text → List (Option Text) → Type 0
  Written [] ws = Unit {0}
  Written (n ∷ ns) [] = Unit {0}
  Written (n ∷ ns) (None ∷ ws) = Written ns ws
  Written (n ∷ ns) (Some content ∷ ws) = H n content × Written ns ws

  abbrev pub StateHas : List Path → State → Type 0
  StateHas ps s = Have ps s.vars × Written names s.written

  state_grow : (ps qs : List Path) (s : State) → Grown ps qs → StateHas ps s → StateHas qs s
  state_grow ps qs s g h = (vars_grow apps G R T M H laws ps qs s.vars g h.0, h.1)

  abbrev pub FlowHas : List Path → Flow → Type 0
  FlowHas ps (Goes s) = StateHas ps s
  FlowHas ps (Returns value s) = G ps value × Written names s.written

  abbrev pub DoesKept : Does → Type 0
  DoesKept d = (ps : List Path) (s : State) → StateHas ps s → Asks R T FlowHas ps (d s)

  then_asks : (ps : List Path) (f : Flow) (d : Does) → DoesKept d → FlowHas ps f → Asks R T FlowHas ps (and_then f d)
  then_asks ps (Goes s) d h k = h ps s k
  then_asks ps (Returns value s) d h k = k

  sequence_kept : (ds : List Does) → Each DoesKept ds → DoesKept (sequence ds)
  sequence_kept [] h ps s k = k
  sequence_kept (d ∷ ds) h ps s k = asks_then R T FlowHas FlowHas ps (d s) _ (h.0 ps s k) (λ qs g f p. then_asks qs f (sequence ds) (sequence_kept ds h.1) p)

  -- ---- turns

  turn_kept : (left : ℕ) (s : State) (d : Does) (ps : List Path) → DoesKept d → StateHas ps s → Asks R T FlowHas ps (turn_from left s >>= d)
  turn_kept zero s d ps h k = tt
  turn_kept (suc left) s d ps h k = h ps (record s { left = left }) k

  item_kept : (name : Text) (d : Does) (item : Value) (ps : List Path) (s : State) → DoesKept d → G ps item → StateHas ps s → Asks R T FlowHas ps (item_turn name d item s)
  item_kept name d item ps s h p k = item_from s.left
    where
      item_from : (left : ℕ) → Asks R T FlowHas ps (turn_from left s >>= λ at. d (record at { vars = put at.vars name item }))
      item_from zero = tt
      item_from (suc left) = h ps _ (put_has apps G R T M H laws ps s.vars name item k.0 p, k.1)

  abbrev EachKept : Text → Does → List Value → Type 0
  EachKept name d items = (ps : List Path) (s : State) → Each (G ps) items → StateHas ps s → Asks R T FlowHas ps (each_turn name d items s)

  more_items : (name : Text) (d : Does) (items : List Value) → EachKept name d items → (ps : List Path) (f : Flow) → FlowHas ps f → Each (G ps) items → Asks R T FlowHas ps (and_then f (each_turn name d items))
  more_items name d items h ps (Goes s) k p = h ps s p k
  more_items name d items h ps (Returns value s) k p = k

  each_kept : (name : Text) (d : Does) (items : List Value) → DoesKept d → EachKept name d items
  each_kept name d [] h ps s p k = k
  each_kept name d (item ∷ items) h ps s p k = asks_then R T FlowHas FlowHas ps (item_turn name d item s) _ (item_kept name d item ps s h p.0 k) (λ qs g f q. more_items name d items (each_kept name d items h) qs f q (values_grow apps G R T M H laws ps qs items g p.1))

  abbrev TurnHas : List Path → Option Flow → Type 0
  TurnHas ps (Some f) = FlowHas ps f
  TurnHas ps None = Unit {0}

  turn_asks : (holds : Bool) (d : Does) (ps : List Path) (s : State) → DoesKept d → StateHas ps s → Asks R T TurnHas ps (if holds then (turn s >>= d >>= λ f. Give (Some f)) else Give None)
  turn_asks true d ps s h k = asks_then R T FlowHas TurnHas ps (turn s >>= d) _ (turn_kept s.left s d ps h k) (λ qs g f p. p)
  turn_asks false d ps s h k = tt

  one_kept : (condition : Calc) (d : Does) (ps : List Path) (s : State) → K apps G R T M H laws condition → DoesKept d → StateHas ps s → Asks R T TurnHas ps (one_turn condition d s)
  one_kept condition d ps s c h k = asks_then R T _ TurnHas ps (condition s.vars >>= truth_of) _ (condition_asks apps G R T M H laws condition c ps s.vars k.0) (λ qs g holds _. turn_asks holds d qs s h (state_grow ps qs s g k))

  goes_on_asks : (ps : List Path) (s : State) (next : Does) (t : Option Flow) → DoesKept next → StateHas ps s → TurnHas ps t → Asks R T FlowHas ps (goes_on s next t)
  goes_on_asks ps s next None h k p = k
  goes_on_asks ps s next (Some f) h k p = then_asks ps f next h p

  while_kept : (n : ℕ) (condition : Calc) (d : Does) → K apps G R T M H laws condition → DoesKept d → DoesKept (while_turns n condition d)
  while_kept zero condition d c h ps s k = tt
  while_kept (suc n) condition d c h ps s k = asks_then R T TurnHas FlowHas ps (one_turn condition d s) _ (one_kept condition d ps s c h k) (λ qs g t p.
      goes_on_asks qs s (while_turns n condition d) t (while_kept n condition d c h) (state_grow ps qs s g k) p)

  repeated_kept : (condition : Calc) (d : Does) → K apps G R T M H laws condition → DoesKept d → DoesKept (repeated condition d)
  unfolding repeated
  repeated_kept condition d c h ps s k = while_kept (suc s.left) condition d c h ps s k

  -- ---- statements

  abbrev StatementKept : Statement → Type 0
  StatementKept x = Marked (fold_statement block_marks x []) → DoesKept (fold_statement (doing apps names) x)

  abbrev pub BlockKept : Block → Type 0
  BlockKept x = (visible : List Name) → Marked (fold_block block_marks x visible) → DoesKept (fold_block (doing apps names) x)

  abbrev OpenStatement : Type 0
  OpenStatement = Statement-F ((x : Statement) × StatementKept x) ((x : Block) × BlockKept x)

  abbrev first_of : OpenStatement → Statement-F Statement Block
  first_of = map-Statement ((x : Statement) × StatementKept x) ((x : Block) × BlockKept x) Statement Block (λ e. e.0) (λ e. e.0)

  -- behind the value of an expression
  behind_value : {A : Type 0} (P : List Path → A → Type 0) (e : Expr) (next : Value → Act A) (ps : List Path) (s : State) → Marked (fold_expr expr_marks e) → StateHas ps s
      → ((qs : List Path) → Grown ps qs → StateHas qs s → (value : Value) → G qs value → Asks R T P qs (next value)) → Asks R T P ps (value_of apps e s.vars >>= next)
  behind_value P e next ps s m k h = asks_then R T G P ps (value_of apps e s.vars) next (expression_kept apps G R T M H laws e m ps s.vars k.0) (λ qs g value p. h qs g (state_grow ps qs s g k) value p)

  first : (ms ns : Marks) → Marked (ms ++ ns) → Marked ms
  first ms ns m = (each_parts M ms ns m).0

  rest : (ms ns : Marks) → Marked (ms ++ ns) → Marked ns
  rest ms ns m = (each_parts M ms ns m).1

  items_asks : (e : Expr) (ps : List Path) (s : State) → Marked (fold_expr expr_marks e) → StateHas ps s → Asks R T (λ qs vs. Each (G qs) vs) ps (value_of apps e s.vars >>= list_of)
  items_asks e ps s m h = behind_value (λ qs vs. Each (G qs) vs) e list_of ps s m h (λ qs g k value p.
      asks_of_gives R T (λ qs vs. Each (G qs) vs) qs (list_of value) (gives_more _ (λ vs. Each (G qs) vs) (list_of value) (λ vs q. (laws.closed qs).items vs q) (list_of_gives (G qs) (laws.closed qs) value p)))

  if_kept : (holds : Bool) (d e : Does) → DoesKept d → DoesKept e → DoesKept (if holds then d else e)
  if_kept true d e h k = h
  if_kept false d e h k = k

  place_gives : (i : ℤ) (n : ℕ) → Gives (λ k. Unit {0}) (output_place i n)
  place_gives (pos i) n = gives_if (λ k. Unit {0}) (nat_lt i n) i x.IndexError (λ _. tt)
  place_gives (negsuc i) n = tt

  written_behind : (n : Text) (ns : List Text) (w : Option Text) (ws : List (Option Text)) → Written (n ∷ ns) (w ∷ ws) → Written ns ws
  written_behind n ns None ws h = h
  written_behind n ns (Some content) ws h = h.1

  written_in : (n : Text) (ns : List Text) (w : Option Text) (ws us : List (Option Text)) → Written (n ∷ ns) (w ∷ ws) → Written ns us → Written (n ∷ ns) (w ∷ us)
  written_in n ns None ws us h k = k
  written_in n ns (Some content) ws us h k = (h.0, k)

  written_set : (ns : List Text) (ws : List (Option Text)) (k : ℕ) (content : Text) → Written ns ws → H (name_at ns k) content → Written ns (slice_set ws k (Some content))
  written_set [] ws k content h p = tt
  written_set (n ∷ ns) [] k content h p = tt
  written_set (n ∷ ns) (w ∷ ws) zero content h p = (p, written_behind n ns w ws h)
  written_set (n ∷ ns) (w ∷ ws) (suc k) content h p = written_in n ns w ws (slice_set ws k (Some content)) h (written_set ns ws k content (written_behind n ns w ws h) p)

  none_written : (ns : List Text) → Written ns (unwritten ns)
  none_written [] = tt
  none_written (n ∷ ns) = none_written ns

  written : (fits : Bool) (ps : List Path) (s : State) (k : ℕ) (content : Text) → (fits ≡ true → H (name_at names k) content) → StateHas ps s → Gives (FlowHas ps) (if fits then Give (Goes (record s { written = slice_set s.written k (Some content) })) else Throw x.SizeError)
  written true ps s k content p h = (h.0, written_set names s.written k content h.1 (p refl))
  written false ps s k content p h = tt

  writes_asks : (i : ℤ) (content : Text) (ps : List Path) (s : State) → StateHas ps s → Asks R T FlowHas ps (writes apps names i content s)
  writes_asks i content ps s h = gives_asks R T (λ k. Unit {0}) FlowHas ps (output_place i (length names)) _ (place_gives i (length names)) (λ k _. asks_of_gives R T FlowHas ps _ (written (file_fits (name_at names k) content) ps s k content (laws.written (name_at names k) content) h))

  statement_of : (y : OpenStatement) → Marked (statement_marks (in_statement block_marks (first_of y))) → DoesKept (statement_step apps names (in_statement (doing apps names) (first_of y)))
  statement_of (Statement-F.Let name e) m ps s h = behind_value FlowHas e _ ps s (first (marks.expr e) (MakesVisible name ∷ []) m.1.1.1) h (λ qs g k value p. (put_has apps G R T M H laws qs s.vars name value k.0 p, k.1))
  statement_of (Statement-F.Set name e) m ps s h = behind_value FlowHas e _ ps s (first (marks.expr e) (Other ∷ []) m.1.1) h (λ qs g k value p. (put_has apps G R T M H laws qs s.vars name value k.0 p, k.1))
  statement_of (Statement-F.While e b) m ps s h = repeated_kept (value_of apps e) (fold_block (doing apps names) b.0) (expression_kept apps G R T M H laws e (first (marks.expr e) (fold_block block_marks b.0 []) m.1)) (b.1 [] (rest (marks.expr e) (fold_block block_marks b.0 []) m.1)) ps s h
  statement_of (Statement-F.For name e b) m ps s h = asks_then R T (λ qs vs. Each (G qs) vs) FlowHas ps (value_of apps e s.vars >>= list_of) _ (items_asks e ps s (first (marks.expr e) (fold_block block_marks b.0 (name ∷ [])) m.1.1.1) h) (λ qs g vs p.
      each_kept name (fold_block (doing apps names) b.0) vs (b.1 (name ∷ []) (rest (marks.expr e) (fold_block block_marks b.0 (name ∷ [])) m.1.1.1)) qs s p (state_grow ps qs s g h))
  statement_of (Statement-F.If e b None) m ps s h =
      let blocks = rest (marks.expr e) (fold_block block_marks b.0 [] ++ []) m.1 in
      asks_then R T (λ qs holds. Unit {0}) FlowHas ps (value_of apps e s.vars >>= truth_of) _ (condition_asks apps G R T M H laws (value_of apps e) (expression_kept apps G R T M H laws e (first (marks.expr e) (fold_block block_marks b.0 [] ++ []) m.1)) ps s.vars h.0) (λ qs g holds _.
      if_kept holds (fold_block (doing apps names) b.0) (λ s. Give (Goes s)) (b.1 [] (first (fold_block block_marks b.0 []) [] blocks)) (λ qs s k. k) qs s (state_grow ps qs s g h))
  statement_of (Statement-F.If e b (Some d)) m ps s h =
      let blocks = rest (marks.expr e) (fold_block block_marks b.0 [] ++ Other ∷ fold_block block_marks d.0 []) m.1 in
      asks_then R T (λ qs holds. Unit {0}) FlowHas ps (value_of apps e s.vars >>= truth_of) _ (condition_asks apps G R T M H laws (value_of apps e) (expression_kept apps G R T M H laws e (first (marks.expr e) (fold_block block_marks b.0 [] ++ Other ∷ fold_block block_marks d.0 []) m.1)) ps s.vars h.0) (λ qs g holds _.
      if_kept holds (fold_block (doing apps names) b.0) (fold_block (doing apps names) d.0) (b.1 [] (first (fold_block block_marks b.0 []) (Other ∷ fold_block block_marks d.0 []) blocks)) (d.1 [] (rest (fold_block block_marks b.0 []) (Other ∷ fold_block block_marks d.0 []) blocks).1) qs s (state_grow ps qs s g h))
  statement_of (Statement-F.Return e) m ps s h = behind_value FlowHas e _ ps s (first (marks.expr e) (Other ∷ []) m.1) h (λ qs g k value p. (p, k.1))
  statement_of (Statement-F.Raise e) m ps s h = asks_then R T (λ qs t. Unit {0}) FlowHas ps (value_of apps e s.vars >>= text_of) _ (behind_value (λ qs t. Unit {0}) e text_of ps s (first (marks.expr e) (Other ∷ []) m.1) h (λ qs g k value p. asks_of_gives R T (λ qs t. Unit {0}) qs (text_of value) (gives_more _ (λ t. Unit {0}) (text_of value) (λ t _. tt) (text_of_gives (G qs) (laws.closed qs) value p)))) (λ qs g t _. tt)
  statement_of (Statement-F.Write d e) m ps s h = behind_value FlowHas d _ ps s (first (marks.expr d) (Other ∷ marks.expr e ++ Other ∷ []) m.1) h (λ qs g k at p.
      behind_value FlowHas e _ qs s (first (marks.expr e) (Other ∷ []) (rest (marks.expr d) (Other ∷ marks.expr e ++ Other ∷ []) m.1).1) k (λ rs g2 l with q.
      gives_asks R T (λ n. G rs (v.Int n)) FlowHas rs (int_of at) _ (int_of_gives (G rs) (laws.closed rs) at (laws.grows qs rs at g2 p)) (λ i _.
      gives_asks R T (λ t. G rs (v.Text t)) FlowHas rs (text_of with) _ (text_of_gives (G rs) (laws.closed rs) with q) (λ content _. writes_asks i content rs s l))))
  statement_of (Statement-F.Print e) m ps s h = behind_value FlowHas e _ ps s (first (marks.expr e) (Other ∷ []) m.1) h (λ qs g k value p. (laws.prints qs value m.0 p, λ r t. state_grow qs (told_by r ++ qs) s (grown_front (told_by r) qs) k))
  statement_of Statement-F.Checkpoint m ps s h = (laws.checkpoint ps m.0, λ r t. state_grow ps (told_by r ++ ps) s (grown_front (told_by r) ps) h)
  statement_of (Statement-F.Call c) m ps s h = asks_then R T G FlowHas ps (call_value apps c s.vars) _ (call_expression_kept apps G R T M H laws c (first (marks.call c) (Other ∷ []) m) ps s.vars h.0) (λ qs g value p. state_grow ps qs s g h)

  statement_kept : (y : OpenStatement) → StatementKept (roll-Statement (first_of y))
  statement_kept y m = subst DoesKept (sym (statement-rolled (doing apps names) _)) (statement_of y (subst Marked (ap (λ (z : InBlock). z []) (statement-rolled block_marks _)) m))

  statements_kept : (xs : List ((x : Statement) × StatementKept x)) → Marked (flat_map (λ (z : InBlock). z []) (map (fold_statement block_marks) (map (λ x. x.0) xs))) → Each DoesKept (map (fold_statement (doing apps names)) (map (λ x. x.0) xs))
  statements_kept [] m = tt
  statements_kept (x ∷ xs) m =
      let both = each_parts M (fold_statement block_marks x.0 []) (flat_map (λ (z : InBlock). z []) (map (fold_statement block_marks) (map (λ x. x.0) xs))) m in
      (x.1 both.0, statements_kept xs both.1)

  block_kept : (xs : List ((x : Statement) × StatementKept x)) → BlockKept (roll-Block (record { statements = map (λ x. x.0) xs }))
  block_kept xs visible m = subst DoesKept (sym (block-rolled (doing apps names) _)) (sequence_kept _ (statements_kept xs
      (each_parts M (flat_map (λ (z : InBlock). z []) (map (fold_statement block_marks) (map (λ x. x.0) xs))) (Closes ∷ []) (subst Marked (ap (λ (z : InBlock). z visible) (block-rolled block_marks _)) m).1).0))

  pub every_block_kept : (x : Block) → BlockKept x
  every_block_kept x = ind-Block StatementKept BlockKept (λ x y is. subst (λ z. StatementKept (roll-Statement z)) is (statement_kept y)) (λ x y is. subst (λ z. BlockKept (roll-Block z)) is (block_kept y.statements)) x

  -- ---- bodies

  abbrev pub FileHas : FileOut → Type 0
  FileHas f = H f.name f.content

  abbrev pub DoneHas : List Path → Done → Type 0
  DoneHas ps d = G ps d.0 × Each FileHas d.1

  files_give : (given : List FileOut) (ns : List Text) (ws : List (Option Text)) → Each FileHas given → Written ns ws → Gives (Each FileHas) (files_from given ns ws)
  files_give given [] ws g h = g
  files_give given (n ∷ ns) [] g h = tt
  files_give given (n ∷ ns) (None ∷ ws) g h = tt
  files_give given (n ∷ ns) (Some content ∷ ws) g h = files_give (given ++ record { name = n; content = content } ∷ []) ns ws (each_append FileHas given (record { name = n; content = content } ∷ []) g (h.0, tt)) h.1

  done_gives : (ps : List Path) (f : Flow) → FlowHas ps f → Gives (DoneHas ps) (done names f)
  done_gives ps (Goes s) h = gives_then (Each FileHas) (DoneHas ps) (files_of names s.written) _ (files_give [] names s.written tt h.1) (λ files k. ((laws.closed ps).nothing, k))
  done_gives ps (Returns value s) h = gives_then (Each FileHas) (DoneHas ps) (files_of names s.written) _ (files_give [] names s.written tt h.1) (λ files k. (h.0, k))

  pub body_asks : (block : Block) (parameters : List Text) (arguments : List Value) (ps : List Path) → Marked (marks.block block) → Each (G ps) arguments → Asks R T DoneHas ps (body apps block parameters arguments names)
  unfolding body
  body_asks block parameters arguments ps m h = asks_then R T FlowHas DoneHas ps _ _
      (every_block_kept block [] m ps _ (zip_has apps G R T M H laws ps parameters arguments h, none_written names))
      (λ qs g f p. asks_of_gives R T DoneHas qs (done names f) (done_gives qs f p))
