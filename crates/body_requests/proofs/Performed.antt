-- The sequential evaluation makes its tasks in the order of their inputs, and their outcomes are plain and within the
-- limits.
use Rattle.std.proofs.Common.{◌≡◌, ℕ, zero, suc, Bool, true, false, not, if◌then◌else◌, List, [], ◌∷◌, ◌++◌, length, map, Option, Some, None, Result, Ok, Err, slice_get, refl, sym, ap, ◌∙◌, subst, arith}
use Rattle.std.specs.Prelude.{Contains, bytes_eq, ◌&&◌, ◌||◌}
use Rattle.std.specs.List.{list_any, list_all}
use Rattle.std.proofs.lemmas.Bool.{false≢true, and_parts}
use Rattle.flow_base.specs.declared.value.Value.{Value, out-Value, roll-Value, map-Value, fold-roll-Value, out-roll-Value, roll-out-Value}
use Rattle.flow_base.specs.declared.value.Value.TheOpen.{Value-F}
use Rattle.flow_base.specs.declared.value.Value.TheVariants as v
use Rattle.flow_base.specs.declared.outcome.FileOut.{FileOut}
use Rattle.flow_base.specs.declared.outcome.Exception.{Exception}
use Rattle.flow_base.specs.declared.outcome.Exception.TheVariants as x
use Rattle.flow_base.specs.declared.outcome.Ended.{Ended}
use Rattle.flow_base.specs.declared.outcome.Ended.TheVariants as ended
use Rattle.flow_base.specs.declared.outcome.Outcome.{Outcome}
use Rattle.flow_base.specs.declared.outcome.Outcome.TheVariants as o
use Rattle.flow_base.specs.Values.{is_plain, plain_step, fits}
use Rattle.script_tree.specs.declared.tree.AppDef.{AppDef}
use Rattle.script_tree.specs.declared.tree.Block.{Block}
use Rattle.flow_meaning.specs.declared.walk.Request.{Request}
use Rattle.flow_meaning.specs.declared.walk.Request.TheVariants as request
use Rattle.flow_meaning.specs.declared.walk.Answer.{Answer}
use Rattle.flow_meaning.specs.declared.walk.Answer.TheVariants as answer
use Rattle.flow_meaning.specs.Act.{Act, Give, Throw, Ask}
use Rattle.flow_meaning.specs.Inputs.{Path, path_in, inputs, is_list, deep_in, are_deep, distinct}
use Rattle.flow_meaning.specs.Operators.{Layer, Text}
use Rattle.flow_meaning.specs.Meaning.{Done, body}
use Rattle.flow_meaning.specs.Sequential.{perform, apply, outcome_of, Task, Tasks, outcome_at, failed, failed_among, value_in, file_value, file_in, replaced, replaced_in, resolved, futures_in, unless_failed, all_values, join_value, join_outcome, Ran, settles, Made, no_calls, Rule, makes, join_answer, lost_or, unless_dependency, app_names, runs_join, runs, by_rules, rule, Main, Waits, acted, outcome_answer, waits, main_answer, at_start, main_ran, seq}
use Rattle.body_requests.specs.Asks.{Each, told_by, Asks, IsPlain, IsFuture, IsAnswer, RequestTold, DoneTold, AsksTold, EndsPlain}
use Rattle.body_requests.specs.Within.{IsWithin, FileWithin, AnswerWithin, RequestWithin, DoneWithin, EndsWithin}
use Rattle.body_requests.specs.Ordered.{InOrder, GoodValue, GoodOutcome, AllGood}
use Rattle.body_requests.proofs.Acts.{each_map, each_append, Grown, grown_itself, grown_further}
use Rattle.body_requests.proofs.Values.{names_closed, file_names, of_list, contains_front, inputs_told, names_plain, all_plain_name}
use Rattle.body_requests.proofs.Sizes.{nothing_within, file_within}
use Rattle.body_requests.proofs.Told.{body_told, apply_plain}
use Rattle.body_requests.proofs.Limits.{body_within, apply_within, each_got}

-- ---- order

grown_first : (p : Path) (ps qs : List Path) → Grown ps qs → Grown (p ∷ ps) (p ∷ qs)
grown_first p ps qs g q (zero, less, is) = (zero, omega arith, is)
grown_first p ps qs g q (suc k, less, is) = let h = g q (k, omega (arith, less), is) in let lt = h.1 in (suc h.0, omega (arith, lt), h.2)

grown_more : (p : Path) (ps : List Path) → Grown ps (p ∷ ps)
grown_more p ps q h = let lt = h.1 in (suc h.0, omega (arith, lt), h.2)

abbrev known_after : List Path → Tasks → List Path
known_after known [] = known
known_after known (t ∷ ts) = known_after (t.path ∷ known) ts

known_grows : (known : List Path) (ts : Tasks) → Grown known (known_after known ts)
known_grows known [] = grown_itself known
known_grows known (t ∷ ts) = grown_further known (t.path ∷ known) (known_after (t.path ∷ known) ts) (grown_more t.path known) (known_grows (t.path ∷ known) ts)

known-append : (known : List Path) (ts us : Tasks) → known_after known (ts ++ us) ≡ known_after (known_after known ts) us
known-append known [] us = refl
known-append known (t ∷ ts) us = known-append (t.path ∷ known) ts us

order_grows : (known more : List Path) (ts : Tasks) → Grown known more → InOrder known ts → InOrder more ts
order_grows known more [] g h = tt
order_grows known more (t ∷ ts) g h = (each_map (Contains known) (Contains more) g t.inputs h.0, order_grows (t.path ∷ known) (t.path ∷ more) ts (grown_first t.path known more g) h.1)

order_append : (known : List Path) (ts us : Tasks) → InOrder known ts → InOrder (known_after known ts) us → InOrder known (ts ++ us)
order_append known [] us h k = k
order_append known (t ∷ ts) us h k = (h.0, order_append (t.path ∷ known) ts us h.1 k)

-- ---- values

good_nothing : GoodValue v.Nothing
good_nothing = (names_plain v.Nothing (names_closed []).nothing, nothing_within)

good_file : (f : FileOut) → FileWithin f → GoodValue (v.File f.name f.content)
good_file f h = (names_plain (v.File f.name f.content) (file_names [] f.name f.content), file_within f.name f.content h)

abbrev GoodAt : Option Outcome → Type 0
GoodAt (Some outcome) = GoodOutcome outcome
GoodAt None = Unit {0}

good_if : (b : Bool) (outcome : Outcome) (rest : Option Outcome) → GoodOutcome outcome → GoodAt rest → GoodAt (if b then Some outcome else rest)
good_if true outcome rest h k = h
good_if false outcome rest h k = k

good_at : (ts : Tasks) (p : Path) → AllGood ts → GoodAt (outcome_at ts p)
good_at [] p h = tt
good_at (t ∷ ts) p h = good_if (bytes_eq t.path p) t.outcome (outcome_at ts p) h.0 (good_at ts p h.1)

good_value_in : (o : Option Outcome) → GoodAt o → GoodValue (value_in o)
good_value_in (Some (o.Value value files)) h = h.0
good_value_in (Some (o.Failed exception)) h = good_nothing
good_value_in None h = good_nothing

good_file_value : (files : List FileOut) (i : ℕ) (o : Option FileOut) → slice_get files i ≡ o → Each FileWithin files → GoodValue (file_value o)
good_file_value files i (Some f) at h = good_file f (each_got files i f h at)
good_file_value files i None at h = good_nothing

good_file_in : (o : Option Outcome) (i : ℕ) → GoodAt o → GoodValue (file_in o i)
good_file_in (Some (o.Value value files)) i h = good_file_value files i (slice_get files i) refl h.1
good_file_in (Some (o.Failed exception)) i h = good_nothing
good_file_in None i h = good_nothing

-- ---- arguments without futures

abbrev plain_layer : Layer → Bool
plain_layer (Value-F.List vs) = list_all is_plain vs
plain_layer (Value-F.Future path outputs) = false
plain_layer (Value-F.Output path index) = false
plain_layer _ = true

plain-items : (vs : List Value) → list_all (λ p. p) (map is_plain vs) ≡ list_all is_plain vs
plain-items [] = refl
plain-items (w ∷ vs) = λ i. is_plain w && plain-items vs i

plain-step : (l : Layer) → plain_step (map-Value Value Bool is_plain l) ≡ plain_layer l
plain-step (Value-F.Int n) = refl
plain-step (Value-F.Text t) = refl
plain-step (Value-F.List vs) = plain-items vs
plain-step (Value-F.File name content) = refl
plain-step (Value-F.Future path outputs) = refl
plain-step (Value-F.Output path index) = refl
plain-step Value-F.Nothing = refl

plain-rolled : (l : Layer) → is_plain (roll-Value l) ≡ plain_layer l
unfolding is_plain
plain-rolled l = fold-roll-Value Bool plain_step l ∙ plain-step l

plain-out : (value : Value) (l : Layer) → out-Value value ≡ l → is_plain value ≡ plain_layer l
plain-out value l at = ap is_plain (sym (roll-out-Value value)) ∙ plain-rolled (out-Value value) ∙ ap plain_layer at

is_not : (b : Bool) → not b ≡ false → b ≡ true
is_not true h = refl
is_not false h = absurd (false≢true (sym h))

-- an item of a list argument
item_plain : (ts : Tasks) (item : Value) (l : Layer) → out-Value item ≡ l → AllGood ts → (is_list l && not (is_plain item)) ≡ false → IsPlain (replaced ts item l)
item_plain ts item (Value-F.Int n) at good h = plain-out item (Value-F.Int n) at
item_plain ts item (Value-F.Text t) at good h = plain-out item (Value-F.Text t) at
item_plain ts item (Value-F.List vs) at good h = is_not (is_plain item) h
item_plain ts item (Value-F.File name content) at good h = plain-out item (Value-F.File name content) at
item_plain ts item (Value-F.Future path outputs) at good h = (good_value_in (outcome_at ts path) (good_at ts path good)).0
item_plain ts item (Value-F.Output path index) at good h = (good_file_in (outcome_at ts path) index (good_at ts path good)).0
item_plain ts item Value-F.Nothing at good h = plain-out item Value-F.Nothing at

neither : (a b : Bool) → (a || b) ≡ false → (a ≡ false) × (b ≡ false)
neither true b h = absurd (false≢true (sym h))
neither false b h = (refl, h)

items_plain : (ts : Tasks) (vs : List Value) → AllGood ts → list_any (λ w. is_list (out-Value w) && not (is_plain w)) vs ≡ false → Each IsPlain (map (λ item. replaced ts item (out-Value item)) vs)
items_plain ts [] good h = tt
items_plain ts (w ∷ vs) good h =
    let parts = neither (is_list (out-Value w) && not (is_plain w)) (list_any (λ w. is_list (out-Value w) && not (is_plain w)) vs) h in
    (item_plain ts w (out-Value w) refl good parts.0, items_plain ts vs good parts.1)

list_plain : (vs : List Value) → Each IsPlain vs → IsPlain (v.List vs)
list_plain vs h = names_plain (v.List vs) (of_list [] vs (all_plain_name [] vs h))

argument_plain : (ts : Tasks) (a : Value) (l : Layer) → out-Value a ≡ l → AllGood ts → deep_in l ≡ false → IsPlain (replaced_in ts a l)
argument_plain ts a (Value-F.Int n) at good h = plain-out a (Value-F.Int n) at
argument_plain ts a (Value-F.Text t) at good h = plain-out a (Value-F.Text t) at
argument_plain ts a (Value-F.List vs) at good h = list_plain _ (items_plain ts vs good h)
argument_plain ts a (Value-F.File name content) at good h = plain-out a (Value-F.File name content) at
argument_plain ts a (Value-F.Future path outputs) at good h = (good_value_in (outcome_at ts path) (good_at ts path good)).0
argument_plain ts a (Value-F.Output path index) at good h = (good_file_in (outcome_at ts path) index (good_at ts path good)).0
argument_plain ts a Value-F.Nothing at good h = plain-out a Value-F.Nothing at

arguments_plain : (ts : Tasks) (arguments : List Value) → AllGood ts → list_any (λ w. deep_in (out-Value w)) arguments ≡ false → Each IsPlain (map (λ a. replaced_in ts a (out-Value a)) arguments)
arguments_plain ts [] good h = tt
arguments_plain ts (a ∷ arguments) good h =
    let parts = neither (deep_in (out-Value a)) (list_any (λ w. deep_in (out-Value w)) arguments) h in
    (argument_plain ts a (out-Value a) refl good parts.0, arguments_plain ts arguments good parts.1)

pub resolved_plain : (ts : Tasks) (arguments : List Value) → AllGood ts → are_deep arguments ≡ false → Each IsPlain (resolved ts arguments)
unfolding are_deep resolved
resolved_plain ts arguments good h = arguments_plain ts arguments good h

all_fit : (vs : List Value) → list_all fits vs ≡ true → Each IsWithin vs
all_fit [] h = tt
all_fit (w ∷ vs) h = let both = and_parts (fits w) (list_all fits vs) h in (both.0, all_fit vs both.1)

-- ---- what a rule gives

pub record GoodRan (ran : Ran) : Type 0 where
  pub outcome : GoodOutcome ran.outcome
  pub order : InOrder [] ran.below
  pub good : AllGood ran.below

abbrev GoodRule : Rule → Type 0
GoodRule r = (path : Path) (app : ℕ) (arguments : List Value) (names : List Text) (ts : Tasks) → AllGood ts → GoodRan (r path app arguments names ts)

good_settles : (outcome : Outcome) → GoodOutcome outcome → GoodRan (settles outcome)
good_settles outcome h = record { outcome = h; order = tt; good = tt }

-- ---- acts that are performed

asks_both : (ps : List Path) (a : Act Done) → AsksTold ps a → Asks RequestWithin AnswerWithin DoneWithin ps a → Asks (λ qs w. RequestTold qs w × RequestWithin qs w) (λ r. IsAnswer r × AnswerWithin r) (λ qs d. DoneTold qs d × DoneWithin qs d) ps a
asks_both ps (Give d) h k = (h, k)
asks_both ps (Throw exception) h k = tt
asks_both ps (Ask w go) h k = ((h.0, k.0), λ r c. asks_both (told_by r ++ ps) (go r) (h.1 r c.0) (k.1 r c.1))

module _ {S : Type 0} (Fits : List Path → Request → Type 0) (Counts : Answer → Type 0) (P : List Path → Done → Type 0) (Keeps : List Path → S → Type 0) (respond : Request → S → Answer × S)
    (keeps : (ps : List Path) (w : Request) (s : S) → Fits ps w → Keeps ps s → Counts (respond w s).0 × Keeps (told_by (respond w s).0 ++ ps) (respond w s).1) where
  abbrev Gave : List Path → Result Done Exception → Type 0
  Gave ps (Ok d) = P ps d
  Gave ps (Err exception) = Unit {0}

  performed : (ps : List Path) (a : Act Done) (s : S) → Asks Fits Counts P ps a → Keeps ps s → (qs : List Path) × Gave qs (perform respond a s).0 × Keeps qs (perform respond a s).1
  performed ps (Give d) s h k = (ps, h, k)
  performed ps (Throw exception) s h k = (ps, tt, k)
  performed ps (Ask w go) s h k = let r = respond w s in let step = keeps ps w s h.0 k in performed (told_by r.0 ++ ps) (go r.0) r.1 (h.1 r.0 step.0) step.1

-- ---- calls

abbrev BothFit : List Path → Request → Type 0
BothFit qs w = RequestTold qs w × RequestWithin qs w

abbrev BothCount : Answer → Type 0
BothCount r = IsAnswer r × AnswerWithin r

abbrev BothDone : List Path → Done → Type 0
BothDone qs d = DoneTold qs d × DoneWithin qs d

pub record GoodMade (ps : List Path) (m : Made) : Type 0 where
  pub order : InOrder [] m.tasks
  pub good : AllGood m.tasks
  pub told : Grown ps (known_after [] m.tasks)

future-out : (path : Path) (n : ℕ) → out-Value (v.Future path n) ≡ Value-F.Future path n
future-out path n = ap out-Value (sym (v.rolls-Future path n)) ∙ out-roll-Value (Value-F.Future path n)

future_answer : (path : Path) (n : ℕ) → BothCount (answer.Called (v.Future path n))
future_answer path n = (subst IsFuture (sym (future-out path n)) tt, subst IsFuture (sym (future-out path n)) tt)

told_now : (path : Path) (n : ℕ) (ps : List Path) (m : Made) → GoodMade (path ∷ ps) m → GoodMade (told_by (answer.Called (v.Future path n)) ++ ps) m
told_now path n ps m h = subst (λ (qs : List Path). GoodMade (qs ++ ps) m) (sym (ap path_in (future-out path n))) h

grown_both : (p : Path) (ps qs : List Path) → Contains qs p → Grown ps qs → Grown (p ∷ ps) qs
grown_both p ps qs c g q (zero, less, is) = subst (Contains qs) is c
grown_both p ps qs c g q (suc k, less, is) = g q (k, omega (arith, less), is)

grown_none : (qs : List Path) → Grown [] qs
grown_none qs p c = let lt = c.1 in absurd (omega (arith, lt))

makes_good : (r : Rule) → GoodRule r → (ps : List Path) (caller : Path) (app : ℕ) (arguments : List Value) (names : List Text) (m : Made) → BothFit ps (request.Call app arguments names) → GoodMade ps m
    → BothCount (makes r caller app arguments names m).0 × GoodMade (told_by (makes r caller app arguments names m).0 ++ ps) (makes r caller app arguments names m).1
makes_good r rule_good ps caller app arguments names m fit h =
    let path = caller ++ suc m.calls ∷ [] in
    let ran = r path app arguments names m.tasks in
    let made = rule_good path app arguments names m.tasks h.good in
    let known = known_after [] m.tasks in
    let task : Task = record { path = path; app = app; arguments = arguments; names = names; inputs = inputs arguments; outcome = ran.outcome } in (
      future_answer _ _,
      told_now path (length names) ps _ (record {
        order = order_append [] m.tasks (task ∷ ran.below) h.order (each_map (Contains ps) (Contains known) h.told (inputs arguments) (inputs_told ps arguments fit.0), order_grows [] (path ∷ known) ran.below (grown_none (path ∷ known)) made.order);
        good = each_append (λ t. GoodOutcome t.outcome) m.tasks (task ∷ ran.below) h.good (made.outcome, made.good);
        told = subst (Grown (path ∷ ps)) (sym (known-append [] m.tasks (task ∷ ran.below)))
            (grown_both path ps (known_after (path ∷ known) ran.below) (known_grows (path ∷ known) ran.below path (contains_front path known))
            (grown_further ps known (known_after (path ∷ known) ran.below) h.told (grown_further known (path ∷ known) (known_after (path ∷ known) ran.below) (grown_more path known) (known_grows (path ∷ known) ran.below))));
      }),
    )

join_good : (r : Rule) → GoodRule r → (caller : Path) (ps : List Path) (w : Request) (m : Made) → BothFit ps w → GoodMade ps m → BothCount (join_answer r caller w m).0 × GoodMade (told_by (join_answer r caller w m).0 ++ ps) (join_answer r caller w m).1
join_good r rule_good caller ps (request.Call app arguments names) m fit h = makes_good r rule_good ps caller app arguments names m fit h
join_good r rule_good caller ps (request.WaitValue f) m fit h = ((tt, tt), h)
join_good r rule_good caller ps (request.WaitName f) m fit h = ((tt, tt), h)
join_good r rule_good caller ps (request.Print value) m fit h = ((tt, tt), h)
join_good r rule_good caller ps request.Checkpoint m fit h = ((tt, tt), h)

-- ---- outcomes

good_join_list : (b : Bool) (value : Value) → (b ≡ true → IsWithin value) → IsPlain value → GoodOutcome (if b then o.Value value [] else o.Failed x.SizeError)
good_join_list true value h p = ((p, h refl), tt)
good_join_list false value h p = tt

good_one : (b : Bool) (p : Path) (value : Value) → GoodValue value → GoodOutcome (if b then o.Failed (x.JoinError (p ∷ [])) else o.Value value [])
good_one true p value h = tt
good_one false p value h = (h, tt)

good_unless : (ps : List Path) (outcome : Outcome) → GoodOutcome outcome → GoodOutcome (unless_failed ps outcome)
good_unless [] outcome h = h
good_unless (p ∷ ps) outcome h = tt

joined_plain : (ts : Tasks) (ps : List Path) → AllGood ts → Each IsPlain (map (λ p. value_in (outcome_at ts p)) ps)
joined_plain ts [] h = tt
joined_plain ts (p ∷ ps) h = ((good_value_in (outcome_at ts p) (good_at ts p h)).0, joined_plain ts ps h)

good_all : (ts : Tasks) (o : Option (List Path)) → AllGood ts → GoodOutcome (all_values ts o)
good_all ts (Some ps) h = good_unless (failed_among ts (distinct ps)) _ (good_join_list (fits (v.List (map (λ p. value_in (outcome_at ts p)) ps))) (v.List (map (λ p. value_in (outcome_at ts p)) ps)) (λ is. is) (list_plain _ (joined_plain ts ps h)))
good_all ts None h = tt

good_join_value : (ts : Tasks) (l : Layer) → AllGood ts → GoodOutcome (join_value ts l)
good_join_value ts (Value-F.Future path outputs) h = good_one (failed (outcome_at ts path)) path (value_in (outcome_at ts path)) (good_value_in (outcome_at ts path) (good_at ts path h))
good_join_value ts (Value-F.List vs) h = good_all ts (futures_in vs) h
good_join_value ts (Value-F.Int n) h = tt
good_join_value ts (Value-F.Text t) h = tt
good_join_value ts (Value-F.File name content) h = tt
good_join_value ts (Value-F.Output path index) h = tt
good_join_value ts Value-F.Nothing h = tt

good_join : (ts : Tasks) (r : Result Done Exception) → AllGood ts → GoodOutcome (join_outcome ts r)
unfolding join_outcome
good_join ts (Ok d) h = good_join_value ts (out-Value d.0) h
good_join ts (Err exception) h = tt

good_end : (e : Ended) → EndsPlain e → EndsWithin e → GoodOutcome (outcome_of e)
good_end (ended.Value value files) p w = ((p, w.0), w.1)
good_end (ended.Raised exception) p w = tt

good_lost : (n : Option ℕ) (outcome : Outcome) → GoodOutcome outcome → GoodOutcome (lost_or n outcome)
good_lost (Some n) outcome h = tt
good_lost None outcome h = h

-- ---- rules

good_if_ran : (b : Bool) (x y : Ran) → (b ≡ true → GoodRan x) → (b ≡ false → GoodRan y) → GoodRan (if b then x else y)
good_if_ran true x y h k = h refl
good_if_ran false x y h k = k refl

good_dependency : (ps : List Path) (ran : Ran) → GoodRan ran → GoodRan (unless_dependency ps ran)
good_dependency [] ran h = h
good_dependency (p ∷ ps) ran h = good_settles _ tt

at_first : GoodMade [] no_calls
at_first = record { order = tt; good = tt; told = grown_none [] }

module _ (apps : List AppDef) (losses : Path → Option ℕ) where
  plain_good : (path : Path) (app : AppDef) (arguments : List Value) (names : List Text) → Each IsPlain arguments → Each IsWithin arguments → GoodRan (settles (lost_or (losses path) (outcome_of (apply app arguments names))))
  plain_good path app arguments names p w = good_settles _ (good_lost (losses path) _ (good_end (apply app arguments names) (apply_plain app arguments names p) (apply_within app arguments names w)))

  join_ran_good : (below : Rule) → GoodRule below → (path : Path) (app : AppDef) (arguments : List Value) → Each IsPlain arguments → Each IsWithin arguments → GoodRan (runs_join apps losses below path app arguments)
  join_ran_good below h path app arguments p w =
      let acts = body (app_names apps losses) app.body app.parameters arguments [] in
      let asks = asks_both [] acts (body_told (app_names apps losses) app.body app.parameters arguments [] [] (all_plain_name [] arguments p)) (body_within (app_names apps losses) app.body app.parameters arguments [] w) in
      let ran = performed BothFit BothCount BothDone GoodMade (join_answer below path) (λ ps w m. join_good below h path ps w m) [] acts no_calls asks at_first in
      record { outcome = good_join _ _ ran.2.good; order = ran.2.order; good = ran.2.good }

  runs_good : (room : ℕ) (below : Rule) → GoodRule below → (path : Path) (app : Option AppDef) (arguments : List Value) (names : List Text) → Each IsPlain arguments → Each IsWithin arguments → GoodRan (runs apps losses room below path app arguments names)
  runs_good room below h path None arguments names p w = good_settles _ tt
  runs_good zero below h path (Some app) arguments names p w = good_if_ran app.join _ _ (λ _. good_settles _ tt) (λ _. plain_good path app arguments names p w)
  runs_good (suc room) below h path (Some app) arguments names p w = good_if_ran app.join _ _ (λ _. join_ran_good below h path app arguments p w) (λ _. plain_good path app arguments names p w)

  by_rules_good : (room : ℕ) (below : Rule) → GoodRule below → GoodRule (by_rules apps losses room below)
  by_rules_good room below h path app arguments names ts good = good_if_ran (are_deep arguments) _ _ (λ _. good_settles _ tt) (λ not_deep.
      good_dependency (failed_among ts (inputs arguments)) _ (good_if_ran (list_all fits (resolved ts arguments)) _ _
      (λ fit. runs_good room below h path (slice_get apps app) (resolved ts arguments) names (resolved_plain ts arguments good not_deep) (all_fit (resolved ts arguments) fit))
      (λ _. good_settles _ tt)))

  rule_good : (room : ℕ) → GoodRule (rule apps losses room)
  rule_good zero = by_rules_good zero _ (λ path app arguments names ts good. good_settles (o.Failed x.DepthError) tt)
  rule_good (suc room) = by_rules_good (suc room) (rule apps losses room) (rule_good room)

-- ---- main

abbrev GoodMain : List Path → Main → Type 0
GoodMain ps m = GoodMade ps m.made

waited_good : (ps : List Path) (m : Main) (o : Option Outcome) → GoodAt o → GoodMain ps m → BothCount (outcome_answer o) × GoodMain (told_by (outcome_answer o) ++ ps) m
waited_good ps m (Some (o.Value value files)) h k = ((h.0.0, (h.0.1, h.1)), k)
waited_good ps m (Some (o.Failed exception)) h k = ((tt, tt), k)
waited_good ps m None h k = ((tt, tt), k)

waits_good : (ps : List Path) (m : Main) (paths : List Path) → GoodMain ps m → BothCount (waits m paths).0 × GoodMain (told_by (waits m paths).0 ++ ps) (waits m paths).1
waits_good ps m [] h = ((tt, tt), h)
waits_good ps m (path ∷ paths) h = waited_good ps (acted m (Waits path)) (outcome_at m.made.tasks path) (good_at m.made.tasks path h.good) h

main_good : (r : Rule) → GoodRule r → (ps : List Path) (w : Request) (m : Main) → BothFit ps w → GoodMain ps m → BothCount (main_answer r w m).0 × GoodMain (told_by (main_answer r w m).0 ++ ps) (main_answer r w m).1
main_good r h ps (request.Call app arguments names) m fit k = makes_good r h ps [] app arguments names m.made fit k
main_good r h ps (request.WaitValue f) m fit k = waits_good ps m (path_in (out-Value f)) k
main_good r h ps (request.WaitName f) m fit k = waits_good ps m (path_in (out-Value f)) k
main_good r h ps (request.Print value) m fit k = ((tt, tt), k)
main_good r h ps request.Checkpoint m fit k = ((tt, tt), k)

pub seq_good : (apps : List AppDef) (main : Block) (losses : Path → Option ℕ) → InOrder [] (seq apps main losses).tasks × AllGood (seq apps main losses).tasks
unfolding seq main_ran
seq_good apps main losses =
    let acts = body (app_names apps losses) main [] [] [] in
    let asks = asks_both [] acts (body_told (app_names apps losses) main [] [] [] [] tt) (body_within (app_names apps losses) main [] [] [] tt) in
    let ran = performed BothFit BothCount BothDone GoodMain (main_answer (rule apps losses 63)) (λ ps w m. main_good (rule apps losses 63) (rule_good apps losses 63) ps w m) [] acts at_start asks at_first in
    (ran.2.order, ran.2.good)
