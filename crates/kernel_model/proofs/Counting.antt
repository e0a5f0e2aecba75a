-- What each act adds to the calls and to the stored units.
use Rattle.std.proofs.Common.{◌≡◌, ℕ, zero, suc, ◌+◌, ◌<◌, true, List, [], ◌∷◌, ◌++◌, length, map, sum, Some, None, get_or, set, refl, sym, ◌∙◌, ap, arith}
use Rattle.std.proofs.lemmas.List.Sums.{sum_by-cons}
use Rattle.flow_base.specs.declared.value.Value.{Value}
use Rattle.flow_base.specs.declared.outcome.Ending.{Ending}
use Rattle.flow_base.specs.declared.outcome.Exception.{Exception}
use Rattle.flow_base.specs.declared.outcome.Exception.TheVariants as x
use Rattle.flow_base.specs.declared.outcome.Outcome.{Outcome}
use Rattle.flow_base.specs.declared.outcome.Outcome.TheVariants as o
use Rattle.flow_base.specs.Values.{units}
use Rattle.script_tree.specs.Grammar.{Tree}
use Rattle.task_record.specs.declared.status.Status.{Status}
use Rattle.task_record.specs.declared.status.Status.TheVariants as status
use Rattle.task_record.specs.States.{is_settled}
use Rattle.event_log.specs.declared.entry.Entry.{Entry}
use Rattle.event_log.specs.declared.entry.Entry.TheVariants as entry
use Rattle.dependency_graph.specs.declared.monitor.Settlement.{Settlement}
use Rattle.flow_meaning.specs.declared.walk.Answer.{Answer}
use Rattle.flow_meaning.specs.declared.walk.Answer.TheVariants as answer
use Rattle.flow_meaning.specs.Inputs.{Path}
use Rattle.flow_meaning.specs.Sequential.{MainAct, Calls, Waits, Prints, Checkpoints}
use Rattle.call_rules.specs.Calls.{Call, Dry}
use Rattle.memo_table.specs.Keys.{KeyView}
use Rattle.memo_table.specs.Table.{MemoView, found, with_saved}
use Rattle.memo_table.specs.declared.saved.Saved.{Saved}
use Rattle.history_laws.specs.Tables.{status_of}
use Rattle.stored_units.specs.Stored.{outcome_units}
use Rattle.kernel_model.specs.declared.answers.Refusal.{Refusal}
use Rattle.kernel_model.specs.Known.{Known, Life, no_life, life_at, outcome_in, settled_outcome, printed_in, value_of}
use Rattle.kernel_model.specs.Acts.{started_with, pending, future_of, submitted, all_submitted, answered, called, waited, printed, checkpointed, arrived_at, main_ended, put, launched, started, finished, settled_in, settled_as, hit, recalled, stored_by, joining, joined, over, refused}
use Rattle.kernel_model.specs.Limits.{stored, units_of_call, units_where, units_of_life, units_of_saved, units_of_memo}
use Rattle.kernel_model.proofs.Places.{length-pushed}
use Rattle.kernel_model.proofs.Reading.{printed-append}

-- ---- sums

pub sum-cons : {A : Type 0} → (f : A → ℕ) (x : A) (xs : List A) → sum (map f (x ∷ xs)) ≡ f x + sum (map f xs)
sum-cons f x xs = sum_by-cons (λ n. n) (f x) (map f xs)

pub sum-append : {A : Type 0} → (f : A → ℕ) (xs ys : List A) → sum (map f (xs ++ ys)) ≡ sum (map f xs) + sum (map f ys)
sum-append f [] ys = omega arith
sum-append f (x ∷ xs) ys = omega (arith, sum-cons f x (xs ++ ys), sum-cons f x xs, sum-append f xs ys)

pub sum-push : {A : Type 0} → (f : A → ℕ) (xs : List A) (x : A) → sum (map f (xs ++ x ∷ [])) ≡ sum (map f xs) + f x
sum-push f xs x = omega (arith, sum-append f xs (x ∷ []), sum-cons f x [])

-- one term is changed
pub sum-set : {A : Type 0} → (f : A → ℕ) (xs : List A) (k : ℕ) (x d : A) → k < length xs → sum (map f (set xs k x)) + f (get_or xs k d) ≡ sum (map f xs) + f x
sum-set f [] k x d lt = absurd (omega arith)
sum-set f (y ∷ ys) zero x d lt = omega (arith, sum-cons f x ys, sum-cons f y ys)
sum-set f (y ∷ ys) (suc k) x d lt = omega (arith, sum-cons f y (set ys k x), sum-cons f y ys, sum-set f ys k x d (omega arith))

-- or none
pub sum-set_same : {A : Type 0} → (f : A → ℕ) (xs : List A) (k : ℕ) (x d : A) → f x ≡ f (get_or xs k d) → sum (map f (set xs k x)) ≡ sum (map f xs)
sum-set_same f [] k x d same = refl
sum-set_same f (y ∷ ys) zero x d same = omega (arith, sum-cons f x ys, sum-cons f y ys, same)
sum-set_same f (y ∷ ys) (suc k) x d same = omega (arith, sum-cons f y (set ys k x), sum-cons f y ys, sum-set_same f ys k x d same)

-- ---- units

pub stored-started_with : (tree : Tree) (told : List (List Settlement)) → stored (started_with tree told) ≡ 0
stored-started_with tree told = refl

pub stored-submitted : (w : Known) (c : Call) → stored (submitted w c) ≡ stored w + units_of_call c
stored-submitted w c = omega (arith, sum-push units_of_call w.calls c, sum-push units_of_life w.lives pending)

pub stored-all_submitted : (w : Known) (cs : List Call) → stored (all_submitted w cs) ≡ stored w + sum (map units_of_call cs)
stored-all_submitted w [] = omega arith
stored-all_submitted w (c ∷ cs) = omega (arith, stored-all_submitted (submitted w c) cs, stored-submitted w c, sum-cons units_of_call c cs)

-- what main's acts print is stored
pub stored-answered : (w : Known) (a : Answer) (acts : List MainAct) → stored (answered w a acts) ≡ stored w + sum (map units (printed_in acts))
stored-answered w a acts = omega (arith, ap (λ (l : List Value). sum (map units l)) (printed-append w.acts acts), sum-append units (printed_in w.acts) (printed_in acts))

pub stored-unprinted : (w : Known) (a : Answer) → stored (answered w a []) ≡ stored w
stored-unprinted w a = omega (arith, stored-answered w a [])

pub stored-called : (w : Known) (c : Call) → stored (called w c) ≡ stored w + units_of_call c
stored-called w c = stored-answered (submitted w c) (answer.Called (future_of c)) (Calls c.path ∷ []) ∙ omega (arith, stored-submitted w c)

pub stored-waited : (w : Known) (p : Path) (outcome : Outcome) → stored (waited w p outcome) ≡ stored w
stored-waited w p outcome = stored-answered w (answer.Outcome outcome) (Waits p ∷ []) ∙ omega arith

pub stored-printed : (w : Known) (value : Value) → stored (printed w value) ≡ stored w + units value
stored-printed w value = stored-answered w answer.Go (Prints value ∷ []) ∙ omega (arith, sum-cons units value [])

pub stored-checkpointed : (w : Known) → stored (checkpointed w) ≡ stored w
stored-checkpointed w = stored-answered w answer.Go (Checkpoints ∷ []) ∙ omega arith

pub stored-arrived_at : (w : Known) → stored (arrived_at w) ≡ stored w
stored-arrived_at w = refl

pub stored-main_ended : (w : Known) (ending : Ending) → stored (main_ended w ending) ≡ stored w
stored-main_ended w ending = refl

pub stored-over : (w : Known) → stored (over w) ≡ stored w
stored-over w = refl

pub stored-refused : (w : Known) (r : Refusal) → stored (refused w r) ≡ stored w
stored-refused w r = refl

settled-state : (outcome : Outcome) → is_settled (status_of outcome) ≡ true
settled-state (o.Value value files) = refl
settled-state (o.Failed exception) = by_kind exception
  where
    by_kind : (e : Exception) → is_settled (status_of (o.Failed e)) ≡ true
    by_kind (x.DependencyError paths) = refl
    by_kind e = refl

-- a write of a task that leaves its outcome
pub stored-put : (w : Known) (k : ℕ) (life : Life) (e : Entry) → outcome_in life ≡ settled_outcome w k → stored (put w k life e) ≡ stored w
stored-put w k life e same = omega (arith, sum-set_same units_of_life w.lives k life no_life (ap units_where same))

pub stored-launched : (w : Known) (k : ℕ) → settled_outcome w k ≡ None → stored (launched w k) ≡ stored w
stored-launched w k none = stored-put w k _ entry.End (sym none)

pub stored-started : (w : Known) (k : ℕ) → settled_outcome w k ≡ None → stored (started w k) ≡ stored w
stored-started w k none = stored-put w k _ entry.End (sym none)

pub stored-finished : (w : Known) (k : ℕ) (outcome : Outcome) → settled_outcome w k ≡ None → stored (finished w k outcome) ≡ stored w
stored-finished w k outcome none = stored-put w k _ entry.End (sym none)

pub stored-joining : (w : Known) (k : ℕ) (ran : Dry) → settled_outcome w k ≡ None → stored (joining w k ran) ≡ stored w
stored-joining w k ran none = stored-put w k _ entry.End (sym none)

pub stored-joined : (w : Known) (k : ℕ) (ran : Dry) → settled_outcome w k ≡ None → stored (joined w k ran) ≡ stored w + sum (map units_of_call ran.1)
stored-joined w k ran none = omega (arith, stored-all_submitted (joining w k ran) ran.1, stored-joining w k ran none)

-- a task that settles gets its outcome
pub stored-settled_in : (w : Known) (k : ℕ) (s : Status) (outcome : Outcome) → is_settled s ≡ true → k < length w.lives → settled_outcome w k ≡ None → stored (settled_in w k s outcome) ≡ stored w + outcome_units outcome
stored-settled_in w k s outcome is within none =
    let life : Life = record (life_at w k) { status = s; end = Some outcome } in
    let now : units_of_life life ≡ outcome_units outcome = rw is refl in
    let before : units_of_life (life_at w k) ≡ 0 = ap units_where none in
    omega (arith, sum-set units_of_life w.lives k life no_life within, now, before)

pub stored-settled_as : (w : Known) (k : ℕ) (outcome : Outcome) → k < length w.lives → settled_outcome w k ≡ None → stored (settled_as w k outcome) ≡ stored w + outcome_units outcome
stored-settled_as w k outcome = stored-settled_in w k (status_of outcome) outcome (settled-state outcome)

-- a value from the memo is an outcome too
pub stored-recalled : (w : Known) (k : ℕ) (saved : Saved) → k < length w.lives → settled_outcome w k ≡ None → stored (recalled w k saved) ≡ stored w + outcome_units (value_of saved)
stored-recalled w k saved = stored-settled_in (hit w k) k status.MemoDone (value_of saved) refl

-- a key that isn't there is added with its value
pub memo-stored : (memo : MemoView) (key : KeyView) (saved : Saved) → found memo key ≡ None → units_of_memo (with_saved memo key saved) ≡ units_of_memo memo + units_of_saved (key, saved)
memo-stored memo key saved none = ap units_of_memo new ∙ sum-push units_of_saved memo (key, saved)
  where
    new : with_saved memo key saved ≡ memo ++ (key, saved) ∷ []
    new = rw none refl

pub stored-stored_by : (w : Known) (k : ℕ) (key : KeyView) (saved : Saved) → found w.memo key ≡ None → stored (stored_by w k key saved) ≡ stored w + units_of_saved (key, saved)
stored-stored_by w k key saved none = omega (arith, memo-stored w.memo key saved none)

-- ---- calls

pub calls-started_with : (tree : Tree) (told : List (List Settlement)) → length (started_with tree told).calls ≡ 0
calls-started_with tree told = refl

pub calls-submitted : (w : Known) (c : Call) → length (submitted w c).calls ≡ length w.calls + 1
calls-submitted w c = length-pushed w.calls c

pub calls-all_submitted : (w : Known) (cs : List Call) → length (all_submitted w cs).calls ≡ length w.calls + length cs
calls-all_submitted w [] = omega arith
calls-all_submitted w (c ∷ cs) = omega (arith, calls-all_submitted (submitted w c) cs, calls-submitted w c)

pub calls-called : (w : Known) (c : Call) → length (called w c).calls ≡ length w.calls + 1
calls-called w c = length-pushed w.calls c

pub calls-answered : (w : Known) (a : Answer) (acts : List MainAct) → length (answered w a acts).calls ≡ length w.calls
calls-answered w a acts = refl

pub calls-waited : (w : Known) (p : Path) (outcome : Outcome) → length (waited w p outcome).calls ≡ length w.calls
calls-waited w p outcome = refl

pub calls-printed : (w : Known) (value : Value) → length (printed w value).calls ≡ length w.calls
calls-printed w value = refl

pub calls-checkpointed : (w : Known) → length (checkpointed w).calls ≡ length w.calls
calls-checkpointed w = refl

pub calls-arrived_at : (w : Known) → length (arrived_at w).calls ≡ length w.calls
calls-arrived_at w = refl

pub calls-main_ended : (w : Known) (ending : Ending) → length (main_ended w ending).calls ≡ length w.calls
calls-main_ended w ending = refl

pub calls-launched : (w : Known) (k : ℕ) → length (launched w k).calls ≡ length w.calls
calls-launched w k = refl

pub calls-started : (w : Known) (k : ℕ) → length (started w k).calls ≡ length w.calls
calls-started w k = refl

pub calls-finished : (w : Known) (k : ℕ) (outcome : Outcome) → length (finished w k outcome).calls ≡ length w.calls
calls-finished w k outcome = refl

pub calls-settled_as : (w : Known) (k : ℕ) (outcome : Outcome) → length (settled_as w k outcome).calls ≡ length w.calls
calls-settled_as w k outcome = refl

pub calls-recalled : (w : Known) (k : ℕ) (saved : Saved) → length (recalled w k saved).calls ≡ length w.calls
calls-recalled w k saved = refl

pub calls-stored_by : (w : Known) (k : ℕ) (key : KeyView) (saved : Saved) → length (stored_by w k key saved).calls ≡ length w.calls
calls-stored_by w k key saved = refl

pub calls-joined : (w : Known) (k : ℕ) (ran : Dry) → length (joined w k ran).calls ≡ length w.calls + length ran.1
calls-joined w k ran = calls-all_submitted (joining w k ran) ran.1

pub calls-over : (w : Known) → length (over w).calls ≡ length w.calls
calls-over w = refl

pub calls-refused : (w : Known) (r : Refusal) → length (refused w r).calls ≡ length w.calls
calls-refused w r = refl
