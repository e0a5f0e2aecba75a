-- What becomes of a call takes from the tasks the outcomes of its inputs alone, and its outcome those that it waits for.
use Rattle.std.proofs.Common.{◌≡◌, Bool, true, false, List, [], ◌∷◌, ◌++◌, map, Option, Some, None, IsSome, refl, sym, ◌∙◌, ap, subst, bytes_eq}
use Rattle.std.specs.Prelude.{slice_get, not, filter, flat_map, Result, Ok, Err, if◌then◌else◌}
use Rattle.std.specs.List.{list_all}
use Rattle.std.proofs.lemmas.Slice.Eq.{bytes_eq-Decides}
use Rattle.flow_base.specs.declared.value.Value.{Value, out-Value}
use Rattle.flow_base.specs.declared.value.Value.TheOpen.{Value-F}
use Rattle.flow_base.specs.declared.value.Value.TheVariants as v
use Rattle.flow_base.specs.Values.{fits}
use Rattle.flow_base.specs.declared.outcome.Exception.{Exception}
use Rattle.flow_base.specs.declared.outcome.Exception.TheVariants as x
use Rattle.flow_base.specs.declared.outcome.Outcome.{Outcome}
use Rattle.flow_base.specs.declared.outcome.Outcome.TheVariants as o
use Rattle.script_tree.specs.declared.tree.AppDef.{AppDef}
use Rattle.flow_meaning.specs.Inputs.{Path, inputs, distinct, path_in, paths_in, are_deep}
use Rattle.flow_meaning.specs.Meaning.{Done}
use Rattle.flow_meaning.specs.Operators.{Layer}
use Rattle.flow_meaning.specs.Sequential.{Tasks, outcome_at, failed, failed_among, resolved, value_in, file_in, replaced, replaced_in, futures_in, all_values, join_value, join_outcome}
use Rattle.dependency_graph.specs.declared.readiness.Readiness.{Readiness}
use Rattle.dependency_graph.specs.declared.readiness.Readiness.TheVariants as readiness
use Rattle.dependency_graph.specs.Readiness.{ready}
use Rattle.call_rules.specs.Calls.{Losses, Call, Begin, Fails, Attempts, Joins, begin, begin_ready, begin_join, has_room, calls_below, calls_with, awaits, awaits_with, awaited, awaited_in, paths_or_none, join_dry, outcome_with, call_outcome}
use Rattle.call_rules.specs.Groups.{AllKnown, IsValue, AllValues}

-- both know the same of these paths
abbrev pub Agree : Tasks → Tasks → List Path → Type 0
Agree ts us [] = Unit {0}
Agree ts us (p ∷ ps) = (outcome_at ts p ≡ outcome_at us p) × Agree ts us ps

pub agree-back : (ts us : Tasks) (ps : List Path) → Agree ts us ps → Agree us ts ps
agree-back ts us [] agree = tt
agree-back ts us (p ∷ ps) agree = (sym agree.0, agree-back ts us ps agree.1)

pub agree-known : (ts us : Tasks) (ps : List Path) → Agree ts us ps → AllKnown ts ps → AllKnown us ps
agree-known ts us [] agree are = tt
agree-known ts us (p ∷ ps) agree are = (subst (λ (r : Option Outcome). IsSome r) agree.0 are.0, agree-known ts us ps agree.1 are.1)

pub agree-values : (ts us : Tasks) (ps : List Path) → Agree ts us ps → AllValues ts ps → AllValues us ps
agree-values ts us [] agree are = tt
agree-values ts us (p ∷ ps) agree are = (subst (λ (r : Option Outcome). IsValue r) agree.0 are.0, agree-values ts us ps agree.1 are.1)

known_one : (a b : Option Outcome) → ((outcome : Outcome) → a ≡ Some outcome → b ≡ Some outcome) → IsSome a → a ≡ b
known_one None b keeps is = absurd (cc)
known_one (Some outcome) b keeps is = sym (keeps outcome refl)

-- what one knows, the other knows too
pub known-agree : (ts us : Tasks) (ps : List Path) → ((p : Path) (outcome : Outcome) → outcome_at ts p ≡ Some outcome → outcome_at us p ≡ Some outcome) → AllKnown ts ps → Agree ts us ps
known-agree ts us [] keeps are = tt
known-agree ts us (p ∷ ps) keeps are = (known_one (outcome_at ts p) (outcome_at us p) (keeps p) are.0, known-agree ts us ps keeps are.1)

-- ---- what holds of the first of each path holds of all

abbrev Each : (Path → Type 0) → List Path → Type 0
Each P [] = Unit {0}
Each P (p ∷ ps) = P p × Each P ps

each_but : (P : Path → Type 0) (p : Path) → P p → (ps : List Path) → Each P (filter (λ q. not (bytes_eq p q)) ps) → Each P ps
each_but P p holds [] each = tt
each_but P p holds (q ∷ ps) each = by_test (bytes_eq p q) refl (each_but P p holds ps)
  where
    by_test : (t : Bool) → bytes_eq p q ≡ t → (Each P (filter (λ q. not (bytes_eq p q)) ps) → Each P ps) → Each P (q ∷ ps)
    by_test true e further = (subst P ((bytes_eq-Decides p q).0 e) holds, further (rw e at each))
    by_test false e further = let both : P q × Each P (filter (λ q. not (bytes_eq p q)) ps) = rw e at each in (both.0, further both.1)

each_all : (P : Path → Type 0) (ps : List Path) → Each P (distinct ps) → Each P ps
each_all P [] each = tt
each_all P (p ∷ ps) each = (each.0, each_all P ps (each_but P p each.0 (distinct ps) each.1))

each_filter : (P : Path → Type 0) (test : Path → Bool) (ps : List Path) → Each P ps → Each P (filter test ps)
each_filter P test [] each = tt
each_filter P test (p ∷ ps) each = by_test (test p) refl (each_filter P test ps each.1)
  where
    by_test : (t : Bool) → test p ≡ t → Each P (filter test ps) → Each P (filter test (p ∷ ps))
    by_test true e rest = rw e (each.0, rest)
    by_test false e rest = rw e rest

each_distinct : (P : Path → Type 0) (ps : List Path) → Each P ps → Each P (distinct ps)
each_distinct P [] each = tt
each_distinct P (p ∷ ps) each = (each.0, each_filter P _ (distinct ps) (each_distinct P ps each.1))

-- ---- arguments

agree_all : (ts us : Tasks) (ps : List Path) → Agree ts us (distinct ps) → Agree ts us ps
agree_all ts us ps agree = each_all (λ p. outcome_at ts p ≡ outcome_at us p) ps agree

agree_first : (ts us : Tasks) (ps qs : List Path) → Agree ts us (ps ++ qs) → Agree ts us ps
agree_first ts us [] qs agree = tt
agree_first ts us (p ∷ ps) qs agree = (agree.0, agree_first ts us ps qs agree.1)

agree_rest : (ts us : Tasks) (ps qs : List Path) → Agree ts us (ps ++ qs) → Agree ts us qs
agree_rest ts us [] qs agree = agree
agree_rest ts us (p ∷ ps) qs agree = agree_rest ts us ps qs agree.1

replaced_agrees : (ts us : Tasks) (whole : Value) (layer : Layer) → Agree ts us (path_in layer) → replaced ts whole layer ≡ replaced us whole layer
replaced_agrees ts us whole (Value-F.Future path outputs) agree = ap value_in agree.0
replaced_agrees ts us whole (Value-F.Output path index) agree = ap (λ (r : Option Outcome). file_in r index) agree.0
replaced_agrees ts us whole (Value-F.Int n) agree = refl
replaced_agrees ts us whole (Value-F.Text t) agree = refl
replaced_agrees ts us whole (Value-F.List vs) agree = refl
replaced_agrees ts us whole (Value-F.File name content) agree = refl
replaced_agrees ts us whole Value-F.Nothing agree = refl

items_agree : (ts us : Tasks) (vs : List Value) → Agree ts us (flat_map (λ v. path_in (out-Value v)) vs) → map (λ item. replaced ts item (out-Value item)) vs ≡ map (λ item. replaced us item (out-Value item)) vs
items_agree ts us [] agree = refl
items_agree ts us (v ∷ vs) agree =
    rw (replaced_agrees ts us v (out-Value v) (agree_first ts us (path_in (out-Value v)) _ agree), items_agree ts us vs (agree_rest ts us (path_in (out-Value v)) _ agree)) refl

argument_agrees : (ts us : Tasks) (whole : Value) (layer : Layer) → Agree ts us (paths_in layer) → replaced_in ts whole layer ≡ replaced_in us whole layer
argument_agrees ts us whole (Value-F.List vs) agree = ap (λ (items : List Value). v.List items) (items_agree ts us vs agree)
argument_agrees ts us whole (Value-F.Future path outputs) agree = replaced_agrees ts us whole (Value-F.Future path outputs) agree
argument_agrees ts us whole (Value-F.Output path index) agree = replaced_agrees ts us whole (Value-F.Output path index) agree
argument_agrees ts us whole (Value-F.Int n) agree = refl
argument_agrees ts us whole (Value-F.Text t) agree = refl
argument_agrees ts us whole (Value-F.File name content) agree = refl
argument_agrees ts us whole Value-F.Nothing agree = refl

arguments_agree : (ts us : Tasks) (arguments : List Value) → Agree ts us (flat_map (λ v. paths_in (out-Value v)) arguments) → resolved ts arguments ≡ resolved us arguments
unfolding resolved
arguments_agree ts us [] agree = refl
arguments_agree ts us (v ∷ vs) agree =
    rw (argument_agrees ts us v (out-Value v) (agree_first ts us (paths_in (out-Value v)) _ agree), arguments_agree ts us vs (agree_rest ts us (paths_in (out-Value v)) _ agree)) refl

pub resolved-agrees : (ts us : Tasks) (arguments : List Value) → Agree ts us (inputs arguments) → resolved ts arguments ≡ resolved us arguments
unfolding resolved inputs
resolved-agrees ts us arguments agree = arguments_agree ts us arguments (agree_all ts us _ agree)

pub failed-agrees : (ts us : Tasks) (ps : List Path) → Agree ts us ps → failed_among ts ps ≡ failed_among us ps
failed-agrees ts us [] agree = refl
failed-agrees ts us (p ∷ ps) agree = rw (agree.0, failed-agrees ts us ps agree.1) refl

pub ready-agrees : (ts us : Tasks) (arguments : List Value) → Agree ts us (inputs arguments) → ready ts arguments ≡ ready us arguments
unfolding ready
ready-agrees ts us arguments agree = rw (failed-agrees ts us (inputs arguments) agree, resolved-agrees ts us arguments agree) refl

-- ---- how a call begins

pub begin-agrees : (apps : List AppDef) (ts us : Tasks) (c : Call) → Agree ts us (inputs c.arguments) → begin apps ts c ≡ begin apps us c
begin-agrees apps ts us c agree = ap (begin_ready c.path (slice_get apps c.app)) (ready-agrees ts us c.arguments agree)

pub awaits-agree : (apps : List AppDef) (ts us : Tasks) (c : Call) → Agree ts us (inputs c.arguments) → awaits apps ts c ≡ awaits apps us c
awaits-agree apps ts us c agree = ap (awaits_with apps c.path) (begin-agrees apps ts us c agree)

pub calls-agree : (apps : List AppDef) (ts us : Tasks) (c : Call) → Agree ts us (inputs c.arguments) → calls_below apps ts c ≡ calls_below apps us c
calls-agree apps ts us c agree = ap (calls_with apps c.path) (begin-agrees apps ts us c agree)

-- ---- what a join gives

values_agree : (ts us : Tasks) (ps : List Path) → Agree ts us ps → map (λ p. value_in (outcome_at ts p)) ps ≡ map (λ p. value_in (outcome_at us p)) ps
values_agree ts us [] agree = refl
values_agree ts us (p ∷ ps) agree = rw (agree.0, values_agree ts us ps agree.1) refl

agree_filter : (ts us : Tasks) (test : Path → Bool) (ps : List Path) → Agree ts us ps → Agree ts us (filter test ps)
agree_filter ts us test [] agree = tt
agree_filter ts us test (p ∷ ps) agree = by_test (test p) refl (agree_filter ts us test ps agree.1)
  where
    by_test : (t : Bool) → test p ≡ t → Agree ts us (filter test ps) → Agree ts us (filter test (p ∷ ps))
    by_test true e rest = rw e (agree.0, rest)
    by_test false e rest = rw e rest

agree_distinct : (ts us : Tasks) (ps : List Path) → Agree ts us ps → Agree ts us (distinct ps)
agree_distinct ts us [] agree = tt
agree_distinct ts us (p ∷ ps) agree = (agree.0, agree_filter ts us (λ q. not (bytes_eq p q)) (distinct ps) (agree_distinct ts us ps agree.1))

all_agree : (ts us : Tasks) (found : Option (List Path)) → Agree ts us (paths_or_none found) → all_values ts found ≡ all_values us found
all_agree ts us None agree = refl
all_agree ts us (Some ps) agree = rw (failed-agrees ts us (distinct ps) (agree_distinct ts us ps agree), values_agree ts us ps agree) refl

join_agrees : (ts us : Tasks) (layer : Layer) → Agree ts us (awaited_in layer) → join_value ts layer ≡ join_value us layer
join_agrees ts us (Value-F.Future path outputs) agree = ap (λ (r : Option Outcome). if failed r then o.Failed (x.JoinError (path ∷ [])) else o.Value (value_in r) []) agree.0
join_agrees ts us (Value-F.List vs) agree = all_agree ts us (futures_in vs) agree
join_agrees ts us (Value-F.Output path index) agree = refl
join_agrees ts us (Value-F.Int n) agree = refl
join_agrees ts us (Value-F.Text t) agree = refl
join_agrees ts us (Value-F.File name content) agree = refl
join_agrees ts us Value-F.Nothing agree = refl

pub join-agrees : (ts us : Tasks) (result : Result Done Exception) → Agree ts us (awaited result) → join_outcome ts result ≡ join_outcome us result
unfolding join_outcome
join-agrees ts us (Ok d) agree = join_agrees ts us (out-Value d.0) agree
join-agrees ts us (Err exception) agree = refl

pub outcome_with-agrees : (apps : List AppDef) (losses : Losses) (ts us : Tasks) (c : Call) (b : Begin) → Agree ts us (awaits_with apps c.path b) → outcome_with apps losses ts c b ≡ outcome_with apps losses us c b
outcome_with-agrees apps losses ts us c (Fails exception) agree = refl
outcome_with-agrees apps losses ts us c (Attempts app values) agree = refl
outcome_with-agrees apps losses ts us c (Joins app values) agree = join-agrees ts us (join_dry apps c.path app values).0 agree

-- the outcome of a call
pub outcome-agrees : (apps : List AppDef) (losses : Losses) (ts us : Tasks) (c : Call) → Agree ts us (inputs c.arguments) → Agree ts us (awaits apps ts c) → call_outcome apps losses ts c ≡ call_outcome apps losses us c
outcome-agrees apps losses ts us c agree waits =
    outcome_with-agrees apps losses ts us c (begin apps ts c) waits
    ∙ ap (outcome_with apps losses us c) (begin-agrees apps ts us c agree)

-- a task that is launched, or whose body runs, is ready
pub begin-attempts : (apps : List AppDef) (ts : Tasks) (c : Call) (app : AppDef) (values : List Value) → begin apps ts c ≡ Attempts app values → (ready ts c.arguments ≡ readiness.Runs values) × (slice_get apps c.app ≡ Some app)
begin-attempts apps ts c app values is = by_ready (ready ts c.arguments) (slice_get apps c.app) refl refl is
  where
    by_app : (vs : List Value) (a : AppDef) (join room : Bool) → ready ts c.arguments ≡ readiness.Runs vs → slice_get apps c.app ≡ Some a → (if join then begin_join room a vs else Attempts a vs) ≡ Attempts app values → (ready ts c.arguments ≡ readiness.Runs values) × (slice_get apps c.app ≡ Some app)
    by_app vs a true true e f h = absurd (cc)
    by_app vs a true false e f h = absurd (cc)
    by_app vs a false room e f h = let same : vs ≡ values = cc in let too : a ≡ app = cc in (e ∙ ap readiness.Runs same, f ∙ ap Some too)

    by_ready : (r : Readiness) (a : Option AppDef) → ready ts c.arguments ≡ r → slice_get apps c.app ≡ a → begin_ready c.path a r ≡ Attempts app values → (ready ts c.arguments ≡ readiness.Runs values) × (slice_get apps c.app ≡ Some app)
    by_ready (readiness.Settles exception) a e f h = absurd (cc)
    by_ready (readiness.Runs vs) None e f h = absurd (cc)
    by_ready (readiness.Runs vs) (Some a) e f h = by_app vs a a.join (has_room c.path) e f h

pub begin-joins : (apps : List AppDef) (ts : Tasks) (c : Call) (app : AppDef) (values : List Value) → begin apps ts c ≡ Joins app values → (ready ts c.arguments ≡ readiness.Runs values) × (slice_get apps c.app ≡ Some app)
begin-joins apps ts c app values is = by_ready (ready ts c.arguments) (slice_get apps c.app) refl refl is
  where
    by_app : (vs : List Value) (a : AppDef) (join room : Bool) → ready ts c.arguments ≡ readiness.Runs vs → slice_get apps c.app ≡ Some a → (if join then begin_join room a vs else Attempts a vs) ≡ Joins app values → (ready ts c.arguments ≡ readiness.Runs values) × (slice_get apps c.app ≡ Some app)
    by_app vs a true true e f h = let same : vs ≡ values = cc in let too : a ≡ app = cc in (e ∙ ap readiness.Runs same, f ∙ ap Some too)
    by_app vs a true false e f h = absurd (cc)
    by_app vs a false room e f h = absurd (cc)

    by_ready : (r : Readiness) (a : Option AppDef) → ready ts c.arguments ≡ r → slice_get apps c.app ≡ a → begin_ready c.path a r ≡ Joins app values → (ready ts c.arguments ≡ readiness.Runs values) × (slice_get apps c.app ≡ Some app)
    by_ready (readiness.Settles exception) a e f h = absurd (cc)
    by_ready (readiness.Runs vs) None e f h = absurd (cc)
    by_ready (readiness.Runs vs) (Some a) e f h = by_app vs a a.join (has_room c.path) e f h

-- ready to run by all of the first three rules
pub record RunsOn (ts : Tasks) (arguments values : List Value) : Type 0 where
  pub shallow : are_deep arguments ≡ false
  pub unfailed : failed_among ts (inputs arguments) ≡ []
  pub fit : list_all fits (resolved ts arguments) ≡ true
  pub are : values ≡ resolved ts arguments

pub runs-on : (ts : Tasks) (arguments values : List Value) → ready ts arguments ≡ readiness.Runs values → RunsOn ts arguments values
unfolding ready
runs-on ts arguments values is = by_tests (are_deep arguments) (failed_among ts (inputs arguments)) (list_all fits (resolved ts arguments)) refl refl refl
  where
    by_tests : (deep : Bool) (failed : List Path) (fit : Bool) → are_deep arguments ≡ deep → failed_among ts (inputs arguments) ≡ failed → list_all fits (resolved ts arguments) ≡ fit → RunsOn ts arguments values
    by_tests true failed fit d f e = absurd (let bad = rw d at is in cc)
    by_tests false (p ∷ ps) fit d f e = absurd (let bad = rw (d, f) at is in cc)
    by_tests false [] false d f e = absurd (let bad = rw (d, f, e) at is in cc)
    by_tests false [] true d f e = record { shallow = d; unfailed = f; fit = e; are = let same = rw (d, f, e) at is in cc }

value_of_known : (r : Option Outcome) → IsSome r → failed r ≡ false → IsValue r
value_of_known None is unfailed = absurd (cc)
value_of_known (Some (o.Value value files)) is unfailed = tt
value_of_known (Some (o.Failed exception)) is unfailed = absurd (cc)

values_of_known : (ts : Tasks) (ps : List Path) → AllKnown ts ps → failed_among ts ps ≡ [] → AllValues ts ps
values_of_known ts [] are unfailed = tt
values_of_known ts (p ∷ ps) are unfailed = by_test (failed (outcome_at ts p)) refl (values_of_known ts ps are.1)
  where
    by_test : (t : Bool) → failed (outcome_at ts p) ≡ t → (failed_among ts ps ≡ [] → AllValues ts ps) → AllValues ts (p ∷ ps)
    by_test true e further = absurd (let bad = rw e at unfailed in cc)
    by_test false e further = (value_of_known (outcome_at ts p) are.0 e, further (rw e at unfailed))

pub runs-values : (ts : Tasks) (arguments values : List Value) → AllKnown ts (inputs arguments) → ready ts arguments ≡ readiness.Runs values → AllValues ts (inputs arguments)
runs-values ts arguments values are is = values_of_known ts (inputs arguments) are (runs-on ts arguments values is).unfailed

-- a join whose body runs has room for its calls
pub begin-room : (apps : List AppDef) (ts : Tasks) (c : Call) (app : AppDef) (values : List Value) → begin apps ts c ≡ Joins app values → has_room c.path ≡ true
begin-room apps ts c app values is = by_ready (ready ts c.arguments) (slice_get apps c.app) is
  where
    by_app : (vs : List Value) (a : AppDef) (join room : Bool) → has_room c.path ≡ room → (if join then begin_join room a vs else Attempts a vs) ≡ Joins app values → has_room c.path ≡ true
    by_app vs a true true e h = e
    by_app vs a true false e h = absurd (cc)
    by_app vs a false room e h = absurd (cc)

    by_ready : (r : Readiness) (a : Option AppDef) → begin_ready c.path a r ≡ Joins app values → has_room c.path ≡ true
    by_ready (readiness.Settles exception) a h = absurd (cc)
    by_ready (readiness.Runs vs) None h = absurd (cc)
    by_ready (readiness.Runs vs) (Some a) h = by_app vs a a.join (has_room c.path) refl h
