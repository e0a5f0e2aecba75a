-- The sequential evaluation, call by call: each of its tasks has the outcome that its rule gives by the outcomes of
-- the whole, and below a join there are the tasks of its body's calls.
use Rattle.std.proofs.Common.{◌≡◌, ℕ, zero, suc, ◌+◌, ◌<◌, Bool, true, false, List, [], ◌∷◌, ◌++◌, length, Option, Some, None, IsSome, refl, sym, ◌∙◌, ap, subst, arith, inl, inr, bytes_eq}
use Rattle.std.proofs.lemmas.Slice.Eq.{bytes_eq-Decides}
use Rattle.std.specs.Prelude.{slice_get, Result, Ok, if◌then◌else◌}
use Rattle.std.proofs.lemmas.Bool.{cases_lt}
use Rattle.std.proofs.lemmas.Bool.Decides.{nat_tests}
use Rattle.std.proofs.lemmas.List.{append_assoc}
use Rattle.std.proofs.Common.{length-append}
use Rattle.flow_base.specs.declared.value.Value.{Value, out-Value}
use Rattle.flow_base.specs.declared.value.Value.TheVariants as v
use Rattle.flow_base.specs.declared.outcome.Exception.{Exception}
use Rattle.flow_base.specs.declared.outcome.Exception.TheVariants as x
use Rattle.flow_base.specs.declared.outcome.Outcome.{Outcome}
use Rattle.flow_base.specs.declared.outcome.Outcome.TheVariants as o
use Rattle.flow_base.specs.Values.{fits}
use Rattle.script_tree.specs.declared.tree.AppDef.{AppDef}
use Rattle.script_tree.specs.Grammar.{Tree}
use Rattle.flow_meaning.specs.declared.walk.Request.{Request}
use Rattle.flow_meaning.specs.declared.walk.Request.TheVariants as request
use Rattle.flow_meaning.specs.declared.walk.Answer.{Answer}
use Rattle.flow_meaning.specs.declared.walk.Answer.TheVariants as answer
use Rattle.flow_meaning.specs.Act.{Act, Give, Throw, Ask}
use Rattle.flow_meaning.specs.Inputs.{Path, inputs, path_in}
use Rattle.flow_meaning.specs.Meaning.{Done}
use Rattle.flow_meaning.specs.Operators.{Text}
use Rattle.flow_meaning.specs.Walk.{main_act}
use Rattle.flow_base.specs.Paths.{max_path}
use Rattle.flow_meaning.specs.Sequential.{Task, Tasks, outcome_at, apply, outcome_of, Ran, Rule, settles, lost_or, Made, no_calls, makes, join_answer, join_outcome, runs_join, runs, by_rules, rule, perform, Main, main_answer, main_ran, at_start, waits, Waits, acted, outcome_answer, main_room}
use Rattle.dependency_graph.specs.declared.readiness.Readiness.{Readiness}
use Rattle.dependency_graph.specs.declared.readiness.Readiness.TheVariants as readiness
use Rattle.dependency_graph.specs.Readiness.{ready, rest_of_rule, by_rules-ready}
use Rattle.body_requests.specs.Asks.{Each, IsPlain}
use Rattle.call_rules.specs.Calls.{Losses, child, Call, task_of, call_in, found, Dry, dry_answer, join_act, join_dry, awaited, Begin, Fails, Attempts, Joins, has_room, begin, begin_ready, begin_app, begin_join, calls_with, calls_below, awaits_with, awaits, outcome_with}
use Rattle.call_rules.specs.Told.{whole_ran}
use Rattle.call_rules.specs.Groups.{IsUnder, IsEarlier, IsPlainOutcome, IsRuled, IsPlaced, first, below, IsGroup}
use Rattle.call_rules.specs.Groups.{AllKnown, HasTask}
use Rattle.call_rules.specs.Told.{IsChild, Asks, IsTold}
use Rattle.call_rules.proofs.Tasks.{found-behind, found-first, found-other, found-some, found-known, outcome-found, some-of, Keeps, keeps-front, keeps-outcome, keeps-known, keeps-task, number-same, length-child, below-longer}
use Rattle.call_rules.proofs.Agreeing.{Agree, known-agree, begin-agrees, awaits-agree, calls-agree, outcome-agrees, outcome_with-agrees, begin-attempts, begin-joins, runs-on}
use Rattle.call_rules.specs.Orders.{path_less, Ascending}
use Rattle.call_rules.proofs.Ordering.{After, less-number, less-below, ascending-append, each-found}
use Rattle.call_rules.proofs.Plain.{each-map, IsPlainKnown, ArePlain, resolved-plain, joined-plain}
use Rattle.call_rules.proofs.Asking.{ended-plain, lost-plain, asks-inputs, asks-call, asks-on, asks-awaited, is-answer}

-- where more is known
agree-keeps : (ts us : Tasks) → Keeps ts us → (ps : List Path) → AllKnown ts ps → Agree ts us ps
agree-keeps ts us keeps ps known = known-agree ts us ps (keeps-outcome ts us keeps) known

pub ruled-keeps : (apps : List AppDef) (losses : Losses) (ts us : Tasks) → Keeps ts us → (t : Task) → IsRuled apps losses ts t → IsRuled apps losses us t
ruled-keeps apps losses ts us keeps t h =
    let c : Call = call_in t in
    let agree = agree-keeps ts us keeps (inputs t.arguments) h.inputs in
    let waits = agree-keeps ts us keeps (awaits apps ts c) h.awaited in
    record {
      same = h.same;
      inputs = keeps-known ts us keeps (inputs t.arguments) h.inputs;
      earlier = h.earlier;
      awaited = subst (AllKnown us) (awaits-agree apps ts us c agree) (keeps-known ts us keeps (awaits apps ts c) h.awaited);
      outcome = h.outcome ∙ outcome-agrees apps losses ts us c agree waits;
      calls = λ i d e. keeps-task ts us keeps d (h.calls i d (ap (λ (cs : List Call). slice_get cs i) (calls-agree apps ts us c agree) ∙ e));
      plain = h.plain;
    }

pub placed-keeps : (apps : List AppDef) (losses : Losses) (ts us : Tasks) → Keeps ts us → ((p : Path) (t : Task) → found ts p ≡ Some t → IsRuled apps losses ts t) → (caller : Path) (n : ℕ) (p : Path) → IsPlaced apps ts caller n p → IsPlaced apps us caller n p
placed-keeps apps losses ts us keeps ruled caller n p (first i lt e) = first i lt e
placed-keeps apps losses ts us keeps ruled caller n p (below t i at lt e) =
    let agree = agree-keeps ts us keeps (inputs t.arguments) (ruled t.path t at).inputs in
    below t i (keeps t.path t at) (subst (λ (cs : List Call). i < length cs) (calls-agree apps ts us (call_in t) agree) lt) e

-- ---- one more call

-- what the rule of a call gives is what its begin says, with the tasks of its body's calls
pub record IsRan (apps : List AppDef) (losses : Losses) (ts : Tasks) (c : Call) (ran : Ran) : Type 0 where
  pub outcome : ran.outcome ≡ outcome_with apps losses ran.below c (begin apps ts c)
  pub awaited : AllKnown ran.below (awaits apps ts c)
  pub group : IsGroup apps losses c.path (record { calls = length (calls_below apps ts c); tasks = ran.below })
  pub calls : (i : ℕ) (d : Call) → slice_get (calls_below apps ts c) i ≡ Some d → HasTask ran.below d
  pub plain : IsPlainOutcome ran.outcome

-- a rule that does so for calls of paths of this length
abbrev pub IsRuling : List AppDef → Losses → ℕ → Rule → Type 0
IsRuling apps losses room r = (c : Call) (ts : Tasks) → room + length c.path ≡ max_path → ArePlain ts (inputs c.arguments) → IsRan apps losses ts c (r c.path c.app c.arguments c.names ts)

-- the outcomes of calls that were made are known and plain
pub children-known : (apps : List AppDef) (losses : Losses) (caller : Path) (m : Made) → IsGroup apps losses caller m → (ps : List Path) → Each (IsChild caller m.calls) ps → AllKnown m.tasks ps × ArePlain m.tasks ps
children-known apps losses caller m group [] h = (tt, tt)
children-known apps losses caller m group (p ∷ ps) h =
    let one = h.0 in
    let rest = children-known apps losses caller m group ps h.1 in
    let is : child caller one.number ≡ p = sym one.is in
    let there = found-some m.tasks (child caller one.number) (group.has one.number one.below) in
    let at : found m.tasks p ≡ Some there.0 = subst (λ (q : Path). found m.tasks q ≡ Some there.0) is there.1 in
    let known = outcome-found m.tasks p there.0 at in (
      (some-of (outcome_at m.tasks p) there.0.outcome known, rest.0),
      (subst (λ (r : Option Outcome). IsPlainKnown r) (sym known) (group.ruled p there.0 at).plain, rest.1),
    )

-- a caller with one more call
pub record IsMore (apps : List AppDef) (losses : Losses) (caller : Path) (m n : Made) (c : Call) : Type 0 where
  pub keeps : Keeps m.tasks n.tasks
  pub group : IsGroup apps losses caller n
  pub task : HasTask n.tasks c

-- the call is none of those before it or below them
not_yet : (apps : List AppDef) (losses : Losses) (caller : Path) (m : Made) → IsGroup apps losses caller m → (rest : Path) → found m.tasks (caller ++ suc m.calls ∷ rest) ≡ None
not_yet apps losses caller m group rest = by_found (found m.tasks p) refl
  where
    p : Path
    p = caller ++ suc m.calls ∷ rest

    by_found : (r : Option Task) → found m.tasks p ≡ r → found m.tasks p ≡ None
    by_found None e = e
    by_found (Some t) e =
        let b = group.under p t e in
        let lt = b.below in
        let same : m.calls ≡ b.number = number-same caller m.calls b.number rest b.rest b.is in
        absurd (omega arith)

child_append : (caller : Path) (i : ℕ) (rest : Path) → child caller i ++ rest ≡ caller ++ suc i ∷ rest
child_append caller i rest = append_assoc caller (suc i ∷ []) rest

pub one-more : (apps : List AppDef) (losses : Losses) (caller : Path) (m : Made) (r : Rule) (app : ℕ) (arguments : List Value) (names : List Text)
    → IsGroup apps losses caller m → Each (IsChild caller m.calls) (inputs arguments)
    → IsRan apps losses m.tasks (record { path = child caller m.calls; app = app; arguments = arguments; names = names }) (r (child caller m.calls) app arguments names m.tasks)
    → IsMore apps losses caller m (makes r caller app arguments names m).1 (record { path = child caller m.calls; app = app; arguments = arguments; names = names })
one-more apps losses caller m r app arguments names group told ran = record {
  keeps = keeps_first;
  group = record { ascending = ascending_all; has = has_all; under = under_all; ruled = ruled_all; placed = placed_all };
  task = record { outcome = outcome; at = at_new };
}
  where
    c : Call
    c = record { path = child caller m.calls; app = app; arguments = arguments; names = names }

    outcome : Outcome
    outcome = (r c.path app arguments names m.tasks).outcome

    task : Task
    task = task_of c outcome

    made : Tasks
    made = (r c.path app arguments names m.tasks).below

    all : Tasks
    all = m.tasks ++ task ∷ made

    keeps_first : Keeps m.tasks all
    keeps_first = keeps-front m.tasks (task ∷ made)

    at_new : found all c.path ≡ Some task
    at_new = found-behind m.tasks (task ∷ made) c.path (not_yet apps losses caller m group []) ∙ found-first task made

    -- what is below the call stands behind it
    keeps_below : Keeps made all
    keeps_below p t h =
        let b = ran.group.under p t h in
        let is : p ≡ caller ++ suc m.calls ∷ suc b.number ∷ b.rest = b.is ∙ child_append caller m.calls (suc b.number ∷ b.rest) in
        let first : found m.tasks p ≡ None = subst (λ (q : Path). found m.tasks q ≡ None) (sym is) (not_yet apps losses caller m group (suc b.number ∷ b.rest)) in
        found-behind m.tasks (task ∷ made) p first ∙ found-other task made p (λ e. below-longer c.path b.number b.rest (e ∙ b.is)) ∙ h

    both : AllKnown m.tasks (inputs arguments) × ArePlain m.tasks (inputs arguments)
    both = children-known apps losses caller m group (inputs arguments) told

    agree : Agree m.tasks all (inputs arguments)
    agree = agree-keeps m.tasks all keeps_first (inputs arguments) both.0

    begins : begin apps m.tasks c ≡ begin apps all c
    begins = begin-agrees apps m.tasks all c agree

    calls_same : calls_below apps m.tasks c ≡ calls_below apps all c
    calls_same = calls-agree apps m.tasks all c agree

    new_ruled : IsRuled apps losses all task
    new_ruled = record {
      same = refl;
      inputs = keeps-known m.tasks all keeps_first (inputs arguments) both.0;
      earlier = each-map (IsChild caller m.calls) (IsEarlier c.path) (λ q h. record { caller = caller; number = m.calls; before = h.number; this = refl; other = h.is; less = h.below }) (inputs arguments) told;
      awaited = subst (AllKnown all) (awaits-agree apps m.tasks all c agree) (keeps-known made all keeps_below (awaits apps m.tasks c) ran.awaited);
      outcome = ran.outcome ∙ outcome_with-agrees apps losses made all c (begin apps m.tasks c) (agree-keeps made all keeps_below (awaits apps m.tasks c) ran.awaited) ∙ ap (outcome_with apps losses all c) begins;
      calls = λ i d e. keeps-task made all keeps_below d (ran.calls i d (ap (λ (cs : List Call). slice_get cs i) calls_same ∙ e));
      plain = ran.plain;
    }

    has_all : (i : ℕ) → i < suc m.calls → IsSome (found all (child caller i))
    has_all i lt =
        elim (cases_lt i m.calls) [
          | inl less ↦ let f = found-some m.tasks (child caller i) (group.has i less) in some-of (found all (child caller i)) f.0 (keeps_first (child caller i) f.0 f.1)
          | inr past ↦ let last : m.calls ≡ i = omega arith in subst (λ (n : ℕ). IsSome (found all (child caller n))) last (some-of (found all c.path) task at_new)
        ]

    ascending_all : Ascending all
    ascending_all = ascending-append m.tasks (task ∷ made) group.ascending
        (each-found (λ (q : Path). path_less c.path q ≡ true) made (λ q t h. let b = ran.group.under q t h in subst (λ (x : Path). path_less c.path x ≡ true) (sym b.is) (less-below c.path b.number b.rest)), ran.group.ascending)
        (each-found (λ (p : Path). After p (task ∷ made)) m.tasks (λ p t h.
        let a = group.under p t h in
        subst (λ (x : Path). After x (task ∷ made)) (sym a.is) (
          less-number caller a.number m.calls a.rest [] a.below,
          each-found (λ (q : Path). path_less (caller ++ suc a.number ∷ a.rest) q ≡ true) made (λ q s g.
              let b = ran.group.under q s g in
              subst (λ (x : Path). path_less (caller ++ suc a.number ∷ a.rest) x ≡ true) (sym (b.is ∙ child_append caller m.calls (suc b.number ∷ b.rest))) (less-number caller a.number m.calls a.rest (suc b.number ∷ b.rest) a.below)),
        )))

    -- a task of the whole is an earlier one, that of the call, or one below it
    by_part : (P : Path → Task → Type 0) → ((p : Path) (t : Task) → found m.tasks p ≡ Some t → P p t) → P c.path task → ((p : Path) (t : Task) → found made p ≡ Some t → P p t) → (p : Path) (t : Task) → found all p ≡ Some t → P p t
    by_part P early here late p t h = by_found (found m.tasks p) refl
      where
        by_here : (b : Bool) → bytes_eq c.path p ≡ b → found (task ∷ made) p ≡ Some t → P p t
        by_here true e g = let same : task ≡ t = (let g2 = rw e at g in cc) in let is : c.path ≡ p = (bytes_eq-Decides c.path p).0 e in subst (λ (q : Path). P q t) is (subst (P c.path) same here)
        by_here false e g = late p t (rw e at g)

        by_found : (f : Option Task) → found m.tasks p ≡ f → P p t
        by_found (Some s) e = let same : s ≡ t = (let g = keeps_first p s e in cc) in subst (P p) same (early p s e)
        by_found None e = by_here (bytes_eq c.path p) refl (sym (found-behind m.tasks (task ∷ made) p e) ∙ h)

    under_all : (p : Path) (t : Task) → found all p ≡ Some t → IsUnder caller (suc m.calls) p
    under_all = by_part (λ p t. IsUnder caller (suc m.calls) p)
        (λ p t h. let b = group.under p t h in record { number = b.number; rest = b.rest; is = b.is; below = let lt = b.below in omega arith })
        (record { number = m.calls; rest = []; is = refl; below = omega arith })
        (λ p t h. let b = ran.group.under p t h in record { number = m.calls; rest = suc b.number ∷ b.rest; is = b.is ∙ child_append caller m.calls (suc b.number ∷ b.rest); below = omega arith })

    ruled_all : (p : Path) (t : Task) → found all p ≡ Some t → IsRuled apps losses all t
    ruled_all = by_part (λ p t. IsRuled apps losses all t)
        (λ p t h. ruled-keeps apps losses m.tasks all keeps_first t (group.ruled p t h))
        new_ruled
        (λ p t h. ruled-keeps apps losses made all keeps_below t (ran.group.ruled p t h))

    placed_below : (p : Path) → IsPlaced apps made c.path (length (calls_below apps m.tasks c)) p → IsPlaced apps all caller (suc m.calls) p
    placed_below p (first i lt e) = below task i at_new (subst (λ (cs : List Call). i < length cs) calls_same lt) e
    placed_below p (below t i at lt e) =
        let again = ran.group.ruled t.path t at in
        below t i (keeps_below t.path t at) (subst (λ (cs : List Call). i < length cs) (calls-agree apps made all (call_in t) (agree-keeps made all keeps_below (inputs t.arguments) again.inputs)) lt) e

    placed_first : (p : Path) → IsPlaced apps m.tasks caller m.calls p → IsPlaced apps all caller (suc m.calls) p
    placed_first p (first i lt e) = first i (omega arith) e
    placed_first p (below t i at lt e) =
        let again = group.ruled t.path t at in
        below t i (keeps_first t.path t at) (subst (λ (cs : List Call). i < length cs) (calls-agree apps m.tasks all (call_in t) (agree-keeps m.tasks all keeps_first (inputs t.arguments) again.inputs)) lt) e

    placed_all : (p : Path) (t : Task) → found all p ≡ Some t → IsPlaced apps all caller (suc m.calls) p
    placed_all = by_part (λ p t. IsPlaced apps all caller (suc m.calls) p)
        (λ p t h. placed_first p (group.placed p t h))
        (first m.calls (omega arith) refl)
        (λ p t h. placed_below p (ran.group.placed p t h))

-- ---- a join's body

-- what a join made, by its body alone
record IsPerformed (apps : List AppDef) (losses : Losses) (caller : Path) (before : Tasks) (r : Result Done Exception × Made) (d : Dry) : Type 0 where
  same : r.0 ≡ d.0
  keeps : Keeps before r.1.tasks
  group : IsGroup apps losses caller r.1
  count : length d.1 ≡ r.1.calls
  calls : (i : ℕ) (c : Call) → slice_get d.1 i ≡ Some c → HasTask r.1.tasks c
  awaited : AllKnown r.1.tasks (awaited r.0) × ArePlain r.1.tasks (awaited r.0)

-- the calls and one more
pushed : (P : Call → Type 0) (cs : List Call) (c : Call) → ((i : ℕ) (d : Call) → slice_get cs i ≡ Some d → P d) → P c → (i : ℕ) (d : Call) → slice_get (cs ++ c ∷ []) i ≡ Some d → P d
pushed P [] c early here zero d e = subst P (let g = e in cc) here
pushed P [] c early here (suc i) d e = absurd (cc)
pushed P (b ∷ cs) c early here zero d e = early zero d e
pushed P (b ∷ cs) c early here (suc i) d e = pushed P cs c (λ j f g. early (suc j) f g) here i d e

-- the caller may make calls whose paths have so many numbers left
performed : (apps : List AppDef) (losses : Losses) (caller : Path) (room : ℕ) (r : Rule) → IsRuling apps losses room r → room + (length caller + 1) ≡ max_path
    → (act : Act Done) (m : Made) (cs : List Call) → Asks caller m.calls act → IsGroup apps losses caller m → length cs ≡ m.calls → ((i : ℕ) (c : Call) → slice_get cs i ≡ Some c → HasTask m.tasks c)
    → IsPerformed apps losses caller m.tasks (perform (join_answer r caller) act m) (perform (dry_answer caller) act cs)
performed apps losses caller room r ruling fits (Give d) m cs asks group count placed = record {
  same = refl;
  keeps = λ p t h. h;
  group = group;
  count = count;
  calls = placed;
  awaited = children-known apps losses caller m group (awaited (Ok d)) (asks-awaited caller m.calls d asks);
}
performed apps losses caller room r ruling fits (Throw exception) m cs asks group count placed = record {
  same = refl;
  keeps = λ p t h. h;
  group = group;
  count = count;
  calls = placed;
  awaited = (tt, tt);
}
performed apps losses caller room r ruling fits (Ask (request.Call app arguments names) go) m cs asks group count placed =
    let c : Call = record { path = child caller m.calls; app = app; arguments = arguments; names = names } in
    let told = asks-inputs caller m.calls app arguments names go asks in
    let plain = (children-known apps losses caller m group (inputs arguments) told).1 in
    let more = one-more apps losses caller m r app arguments names group told (ruling c m.tasks (ap (λ (n : ℕ). room + n) (length-child caller m.calls) ∙ fits) plain) in
    let next : Made = (makes r caller app arguments names m).1 in
    let future : ℕ → Answer = λ n. answer.Called (v.Future (child caller n) (length names)) in
    let further = performed apps losses caller room r ruling fits (go (future m.calls)) next (cs ++ c ∷ [])
    (asks-call caller m.calls app arguments names go (length names) asks) more.group (omega (arith, length-append cs (c ∷ []), count))
    (pushed (HasTask next.tasks) cs c (λ i d e. keeps-task m.tasks next.tasks more.keeps d (placed i d e)) more.task) in
    let dried : perform (dry_answer caller) (Ask (request.Call app arguments names) go) cs ≡ perform (dry_answer caller) (go (future m.calls)) (cs ++ c ∷ []) = ap (λ (n : ℕ). perform (dry_answer caller) (go (future n)) (cs ++ (record c { path = child caller n }) ∷ [])) count in
    subst (λ (d : Dry). IsPerformed apps losses caller m.tasks (perform (join_answer r caller) (Ask (request.Call app arguments names) go) m) d) (sym dried)
    (record { same = further.same; keeps = λ p t h. further.keeps p t (more.keeps p t h); group = further.group; count = further.count; calls = further.calls; awaited = further.awaited })
performed apps losses caller room r ruling fits (Ask (request.WaitValue f) go) m cs asks group count placed =
    performed apps losses caller room r ruling fits (go answer.Go) m cs (asks-on caller m.calls (request.WaitValue f) go answer.Go tt refl asks) group count placed
performed apps losses caller room r ruling fits (Ask (request.WaitName f) go) m cs asks group count placed =
    performed apps losses caller room r ruling fits (go answer.Go) m cs (asks-on caller m.calls (request.WaitName f) go answer.Go tt refl asks) group count placed
performed apps losses caller room r ruling fits (Ask (request.Print value) go) m cs asks group count placed =
    performed apps losses caller room r ruling fits (go answer.Go) m cs (asks-on caller m.calls (request.Print value) go answer.Go tt refl asks) group count placed
performed apps losses caller room r ruling fits (Ask request.Checkpoint go) m cs asks group count placed =
    performed apps losses caller room r ruling fits (go answer.Go) m cs (asks-on caller m.calls request.Checkpoint go answer.Go tt refl asks) group count placed

pub none-made : (apps : List AppDef) (losses : Losses) (caller : Path) → IsGroup apps losses caller no_calls
none-made apps losses caller = record { ascending = tt; has = λ i lt. absurd (omega arith); under = λ p t h. absurd (cc); ruled = λ p t h. absurd (cc); placed = λ p t h. absurd (cc) }

-- what a join waits for are calls of its body
dry_waits : (caller : Path) (act : Act Done) (cs : List Call) → Asks caller (length cs) act → Each (IsChild caller (length (perform (dry_answer caller) act cs).1)) (awaited (perform (dry_answer caller) act cs).0)
dry_waits caller (Give d) cs asks = asks-awaited caller (length cs) d asks
dry_waits caller (Throw exception) cs asks = tt
dry_waits caller (Ask (request.Call app arguments names) go) cs asks =
    let c : Call = record { path = child caller (length cs); app = app; arguments = arguments; names = names } in
    let longer : suc (length cs) ≡ length (cs ++ c ∷ []) = (let long = length-append cs (c ∷ []) in omega arith) in
    dry_waits caller (go (answer.Called (v.Future (child caller (length cs)) (length names)))) (cs ++ c ∷ []) (subst (λ (n : ℕ). Asks caller n (go (answer.Called (v.Future (child caller (length cs)) (length names))))) longer (asks-call caller (length cs) app arguments names go (length names) asks))
dry_waits caller (Ask (request.WaitValue f) go) cs asks = dry_waits caller (go answer.Go) cs (asks-on caller (length cs) (request.WaitValue f) go answer.Go tt refl asks)
dry_waits caller (Ask (request.WaitName f) go) cs asks = dry_waits caller (go answer.Go) cs (asks-on caller (length cs) (request.WaitName f) go answer.Go tt refl asks)
dry_waits caller (Ask (request.Print value) go) cs asks = dry_waits caller (go answer.Go) cs (asks-on caller (length cs) (request.Print value) go answer.Go tt refl asks)
dry_waits caller (Ask request.Checkpoint go) cs asks = dry_waits caller (go answer.Go) cs (asks-on caller (length cs) request.Checkpoint go answer.Go tt refl asks)

-- ---- the rule of a call

-- a call without an attempt or a body
alone : (apps : List AppDef) (losses : Losses) (ts : Tasks) (c : Call) (outcome : Outcome) → IsPlainOutcome outcome → (b : Begin) → begin apps ts c ≡ b → awaits_with apps c.path b ≡ [] → calls_with apps c.path b ≡ [] → outcome ≡ outcome_with apps losses [] c b → IsRan apps losses ts c (settles outcome)
alone apps losses ts c outcome plain b is no_waits no_calls_below gives = record {
  outcome = gives ∙ ap (outcome_with apps losses [] c) (sym is);
  awaited = subst (AllKnown []) (sym (ap (awaits_with apps c.path) is ∙ no_waits)) tt;
  group = subst (λ (cs : List Call). IsGroup apps losses c.path (record { calls = length cs; tasks = [] })) (sym (ap (calls_with apps c.path) is ∙ no_calls_below)) (none-made apps losses c.path);
  calls = λ i d e. absurd (let none : slice_get (calls_below apps ts c) i ≡ None = ap (λ (cs : List Call). slice_get cs i) (ap (calls_with apps c.path) is ∙ no_calls_below) in cc);
  plain = plain;
}

module _ (tree : Tree) (told : IsTold tree) (losses : Losses) where
  abbrev pub apps : List AppDef
  apps = tree.0

  plain_values : (c : Call) (ts : Tasks) (values : List Value) → ready ts c.arguments ≡ readiness.Runs values → ArePlain ts (inputs c.arguments) → Each IsPlain values
  plain_values c ts values is plain =
      let on = runs-on ts c.arguments values is in
      subst (Each IsPlain) (sym on.are) (resolved-plain ts c.arguments on.shallow plain)

  -- a plain app
  attempted : (c : Call) (ts : Tasks) (app : AppDef) (values : List Value) → begin apps ts c ≡ Attempts app values → ArePlain ts (inputs c.arguments) → IsRan apps losses ts c (settles (lost_or (losses c.path) (outcome_of (apply app values c.names))))
  attempted c ts app values is plain =
      let both = begin-attempts apps ts c app values is in
      alone apps losses ts c _ (lost-plain (losses c.path) _ (ended-plain _ (told.plain c.app app values c.names both.1 (plain_values c ts values both.0 plain)))) (Attempts app values) is refl refl refl

  -- a join whose calls the rule evaluates
  joined : (c : Call) (ts : Tasks) (app : AppDef) (values : List Value) (room : ℕ) (r : Rule) → IsRuling apps losses room r → room + (length c.path + 1) ≡ max_path → begin apps ts c ≡ Joins app values → ArePlain ts (inputs c.arguments) → IsRan apps losses ts c (runs_join apps losses r c.path app values)
  joined c ts app values room r ruling long is plain =
      let both = begin-joins apps ts c app values is in
      let act : Act Done = join_act apps app values in
      let asks : Asks c.path 0 act = record { paths = []; told = told.joins c.app app values both.1 (plain_values c ts values both.0 plain); made = tt } in
      let run = performed apps losses c.path room r ruling long act no_calls [] asks (none-made apps losses c.path) refl (λ i d e. absurd (cc)) in
      let made : Result Done Exception × Made = perform (join_answer r c.path) act no_calls in
      let waits : awaits apps ts c ≡ awaited made.0 = ap (awaits_with apps c.path) is ∙ ap awaited (sym run.same) in
      let calls_are : calls_below apps ts c ≡ (join_dry apps c.path app values).1 = ap (calls_with apps c.path) is in
      record {
        outcome = ap (join_outcome made.1.tasks) run.same ∙ ap (outcome_with apps losses made.1.tasks c) (sym is);
        awaited = subst (AllKnown made.1.tasks) (sym waits) run.awaited.0;
        group = subst (λ (n : ℕ). IsGroup apps losses c.path (record { calls = n; tasks = made.1.tasks })) (sym run.count ∙ ap length (sym calls_are)) run.group;
        calls = λ i d e. run.calls i d (ap (λ (cs : List Call). slice_get cs i) (sym calls_are) ∙ e);
        plain = joined-plain made.1.tasks made.0 run.awaited.1;
      }

  pub join-waits : (c : Call) (ts : Tasks) (app : AppDef) (values : List Value) → begin apps ts c ≡ Joins app values → ArePlain ts (inputs c.arguments) → Each (IsChild c.path (length (join_dry apps c.path app values).1)) (awaited (join_dry apps c.path app values).0)
  join-waits c ts app values is plain =
      let both = begin-joins apps ts c app values is in
      dry_waits c.path (join_act apps app values) [] (record { paths = []; told = told.joins c.app app values both.1 (plain_values c ts values both.0 plain); made = tt })

  -- rules 4 to 7
  begins_as : (c : Call) (ts : Tasks) (values : List Value) → ready ts c.arguments ≡ readiness.Runs values → (a : Option AppDef) → slice_get apps c.app ≡ a → begin apps ts c ≡ begin_app c.path a values
  begins_as c ts values is a at = ap (begin_ready c.path (slice_get apps c.app)) is ∙ ap (λ (b : Option AppDef). begin_app c.path b values) at

  no_room : (path : Path) → 0 + length path ≡ max_path → has_room path ≡ false
  no_room path e = let same : length path ≡ 64 = omega arith in rw same refl

  some_room : (path : Path) (room : ℕ) → suc room + length path ≡ max_path → has_room path ≡ true
  some_room path room e = let lt : length path < 64 = omega arith in grind (arith, nat_tests)

  by_run : (c : Call) (ts : Tasks) (room : ℕ) (r : Rule) → room + length c.path ≡ max_path → ((less : ℕ) → room ≡ suc less → IsRuling apps losses less r)
      → (values : List Value) → ready ts c.arguments ≡ readiness.Runs values → ArePlain ts (inputs c.arguments) → (a : Option AppDef) → slice_get apps c.app ≡ a → IsRan apps losses ts c (runs apps losses room r c.path a values c.names)
  by_run c ts zero r long ruling values is plain None at = alone apps losses ts c (o.Failed x.TypeError) tt (Fails x.TypeError) (begins_as c ts values is None at) refl refl refl
  by_run c ts (suc room) r long ruling values is plain None at = alone apps losses ts c (o.Failed x.TypeError) tt (Fails x.TypeError) (begins_as c ts values is None at) refl refl refl
  by_run c ts zero r long ruling values is plain (Some app) at = by_join app.join refl
    where
      begins : (join : Bool) → app.join ≡ join → begin apps ts c ≡ (if join then begin_join (has_room c.path) app values else Attempts app values)
      begins join e = begins_as c ts values is (Some app) at ∙ ap (λ (j : Bool). if j then begin_join (has_room c.path) app values else Attempts app values) e

      by_join : (join : Bool) → app.join ≡ join → IsRan apps losses ts c (if join then settles (o.Failed x.DepthError) else settles (lost_or (losses c.path) (outcome_of (apply app values c.names))))
      by_join true e = alone apps losses ts c (o.Failed x.DepthError) tt (Fails x.DepthError) (begins true e ∙ ap (λ (room : Bool). begin_join room app values) (no_room c.path long)) refl refl refl
      by_join false e = attempted c ts app values (begins false e) plain
  by_run c ts (suc room) r long ruling values is plain (Some app) at = by_join app.join refl
    where
      begins : (join : Bool) → app.join ≡ join → begin apps ts c ≡ (if join then begin_join (has_room c.path) app values else Attempts app values)
      begins join e = begins_as c ts values is (Some app) at ∙ ap (λ (j : Bool). if j then begin_join (has_room c.path) app values else Attempts app values) e

      by_join : (join : Bool) → app.join ≡ join → IsRan apps losses ts c (if join then runs_join apps losses r c.path app values else settles (lost_or (losses c.path) (outcome_of (apply app values c.names))))
      by_join true e = joined c ts app values room r (ruling room refl) (omega arith) (begins true e ∙ ap (λ (left : Bool). begin_join left app values) (some_room c.path room long)) plain
      by_join false e = attempted c ts app values (begins false e) plain

  -- all rules
  by_rule : (c : Call) (ts : Tasks) (room : ℕ) (r : Rule) → room + length c.path ≡ max_path → ((less : ℕ) → room ≡ suc less → IsRuling apps losses less r) → ArePlain ts (inputs c.arguments) → IsRan apps losses ts c (by_rules apps losses room r c.path c.app c.arguments c.names ts)
  by_rule c ts room r long ruling plain = subst (IsRan apps losses ts c) (sym (by_rules-ready apps losses room r c.path c.app c.names ts c.arguments)) (by_ready (ready ts c.arguments) refl)
    where
      by_ready : (what : Readiness) → ready ts c.arguments ≡ what → IsRan apps losses ts c (rest_of_rule apps losses room r c.path c.app c.names what)
      by_ready (readiness.Settles exception) e = alone apps losses ts c (o.Failed exception) tt (Fails exception) (ap (begin_ready c.path (slice_get apps c.app)) e) refl refl refl
      by_ready (readiness.Runs values) e = by_run c ts room r long ruling values e plain (slice_get apps c.app) refl

  -- below the deepest calls
  abbrev pub deepest : Rule
  deepest path app arguments names ts = settles (o.Failed x.DepthError)

  pub rule-rules : (room : ℕ) → IsRuling apps losses room (rule apps losses room)
  rule-rules zero c ts long plain = by_rule c ts zero deepest long none plain
    where
      none : (less : ℕ) → zero ≡ suc less → IsRuling apps losses less deepest
      none less e = absurd (cc)
  rule-rules (suc room) c ts long plain = by_rule c ts (suc room) (rule apps losses room) long (λ less e. let same : room ≡ less = omega arith in subst (λ (n : ℕ). IsRuling apps losses n (rule apps losses room)) same (rule-rules room)) plain

  -- ---- main

  plain_found : (m : Main) → IsGroup apps losses [] m.made → (p : Path) (outcome : Outcome) → outcome_at m.made.tasks p ≡ Some outcome → IsPlainOutcome outcome
  plain_found m group p outcome e = let f = found-known m.made.tasks p outcome e in subst IsPlainOutcome f.1.1 (group.ruled p f.0 f.1.0).plain

  wait_rules : (wanted : Request) (go : Answer → Act Done) (m : Main) → Asks [] m.made.calls (Ask wanted go) → IsGroup apps losses [] m.made
      → ((a : Answer) (n : Main) → Asks [] n.made.calls (go a) → IsGroup apps losses [] n.made → IsGroup apps losses [] (perform (main_answer (rule apps losses main_room)) (go a) n).1.made)
      → (ps : List Path) → IsGroup apps losses [] (perform (main_answer (rule apps losses main_room)) (go (waits m ps).0) (waits m ps).1).1.made
  wait_rules wanted go m asks group further [] = further answer.Go m (asks-on [] m.made.calls wanted go answer.Go tt refl asks) group
  wait_rules wanted go m asks group further (p ∷ ps) = by_outcome (outcome_at m.made.tasks p) refl
    where
      by_outcome : (r : Option Outcome) → outcome_at m.made.tasks p ≡ r → IsGroup apps losses [] (perform (main_answer (rule apps losses main_room)) (go (outcome_answer r)) (acted m (Waits p))).1.made
      by_outcome None e = further answer.Go (acted m (Waits p)) (asks-on [] m.made.calls wanted go answer.Go tt refl asks) group
      by_outcome (Some outcome) e = further (answer.Outcome outcome) (acted m (Waits p)) (asks-on [] m.made.calls wanted go (answer.Outcome outcome) (is-answer outcome (plain_found m group p outcome e)) refl asks) group

  -- main's tasks are ruled, as far as it goes
  main_rules : (act : Act Done) (m : Main) → Asks [] m.made.calls act → IsGroup apps losses [] m.made → IsGroup apps losses [] (perform (main_answer (rule apps losses main_room)) act m).1.made
  main_rules (Give d) m asks group = group
  main_rules (Throw exception) m asks group = group
  main_rules (Ask (request.Call app arguments names) go) m asks group =
      let told_inputs = asks-inputs [] m.made.calls app arguments names go asks in
      let plain = (children-known apps losses [] m.made group (inputs arguments) told_inputs).1 in
      let c : Call = record { path = child [] m.made.calls; app = app; arguments = arguments; names = names } in
      let more = one-more apps losses [] m.made (rule apps losses main_room) app arguments names group told_inputs (rule-rules main_room c m.made.tasks refl plain) in
      main_rules (go (answer.Called (v.Future (child [] m.made.calls) (length names)))) (main_answer (rule apps losses main_room) (request.Call app arguments names) m).1 (asks-call [] m.made.calls app arguments names go (length names) asks) more.group
  main_rules (Ask (request.WaitValue f) go) m asks group = wait_rules (request.WaitValue f) go m asks group (λ a n h g. main_rules (go a) n h g) (path_in (out-Value f))
  main_rules (Ask (request.WaitName f) go) m asks group = wait_rules (request.WaitName f) go m asks group (λ a n h g. main_rules (go a) n h g) (path_in (out-Value f))
  main_rules (Ask (request.Print value) go) m asks group = main_rules (go answer.Go) (main_answer (rule apps losses main_room) (request.Print value) m).1 (asks-on [] m.made.calls (request.Print value) go answer.Go tt refl asks) group
  main_rules (Ask request.Checkpoint go) m asks group = main_rules (go answer.Go) (main_answer (rule apps losses main_room) request.Checkpoint m).1 (asks-on [] m.made.calls request.Checkpoint go answer.Go tt refl asks) group

  -- the whole evaluation
  pub whole-ruled : IsGroup apps losses [] (whole_ran tree losses).1.made
  unfolding main_ran
  whole-ruled = main_rules (main_act tree) at_start (record { paths = []; told = told.main; made = tt }) (none-made apps losses [])
