-- The tasks that a caller makes lie below it, each under the number of its call.
use Rattle.std.proofs.Common.{◌≡◌, ℕ, zero, suc, ◌<◌, Bool, true, false, List, [], ◌∷◌, ◌++◌, length, Option, Some, None, refl, sym, ◌∙◌, ap, subst, arith, append_assoc, length-append}
use Rattle.std.specs.Prelude.{slice_get, if◌then◌else◌}
use Rattle.flow_base.specs.declared.value.Value.{Value}
use Rattle.flow_base.specs.declared.outcome.Exception.TheVariants as x
use Rattle.flow_base.specs.declared.outcome.Outcome.TheVariants as o
use Rattle.script_tree.specs.declared.tree.AppDef.{AppDef}
use Rattle.flow_meaning.specs.declared.walk.Request.TheVariants as request
use Rattle.flow_meaning.specs.declared.walk.Answer.TheVariants as answer
use Rattle.flow_meaning.specs.Act.{Act, Give, Throw, Ask}
use Rattle.flow_meaning.specs.Inputs.{Path, inputs}
use Rattle.flow_meaning.specs.Meaning.{Done, body}
use Rattle.flow_meaning.specs.Operators.{Text}
use Rattle.flow_meaning.specs.Sequential.{Task, Tasks, Ran, Rule, Made, no_calls, makes, join_answer, perform, settles, runs, runs_join, by_rules, rule, app_names, lost_or, outcome_of, apply}
use Rattle.dependency_graph.specs.declared.readiness.Readiness.{Readiness}
use Rattle.dependency_graph.specs.declared.readiness.Readiness.TheVariants as readiness
use Rattle.dependency_graph.specs.Readiness.{ready, rest_of_rule, by_rules-ready}
use Rattle.body_requests.specs.Asks.{Each}
use Rattle.call_rules.specs.Calls.{Losses, child}
use Rattle.call_rules.specs.Groups.{IsUnder}
use Rattle.call_rules.proofs.Plain.{each-map}

-- each task is one of the first calls of the caller, or below one
abbrev pub AreUnder : Path → ℕ → Tasks → Type 0
AreUnder caller n ts = Each (λ (t : Task). IsUnder caller n t.path) ts

pub each-append : {A : Type 0} (P : A → Type 0) (xs ys : List A) → Each P xs → Each P ys → Each P (xs ++ ys)
each-append P [] ys h k = k
each-append P (x ∷ xs) ys h k = (h.0, each-append P xs ys h.1 k)

-- a rule whose calls have all that they make below them
pub record Made-below (path : Path) (ts : Tasks) : Type 0 where
  pub calls : ℕ
  pub under : AreUnder path calls ts

abbrev pub IsBelow : Rule → Type 0
IsBelow r = (path : Path) (app : ℕ) (arguments : List Value) (names : List Text) (ts : Tasks) → Made-below path (r path app arguments names ts).below

none-below : (path : Path) → Made-below path []
none-below path = record { calls = 0; under = tt }

-- ---- one more call

pub under-child : (caller : Path) (n : ℕ) (p : Path) → (calls : ℕ) → IsUnder (child caller n) calls p → IsUnder caller (suc n) p
under-child caller n p calls u = record { number = n; rest = suc u.number ∷ u.rest; is = u.is ∙ append_assoc caller (suc n ∷ []) (suc u.number ∷ u.rest); below = omega arith }

under-more : (caller : Path) (n : ℕ) (p : Path) → IsUnder caller n p → IsUnder caller (suc n) p
under-more caller n p u = record { number = u.number; rest = u.rest; is = u.is; below = (let lt = u.below in omega arith) }

pub under-call : (caller : Path) (n : ℕ) (t : Task) (below : Tasks) → t.path ≡ child caller n → Made-below (child caller n) below → AreUnder caller (suc n) (t ∷ below)
under-call caller n t below is made = (
  record { number = n; rest = []; is = is; below = omega arith },
  each-map (λ (s : Task). IsUnder (child caller n) made.calls s.path) (λ (s : Task). IsUnder caller (suc n) s.path) (λ s u. under-child caller n s.path made.calls u) below made.under,
)

pub under-both : (caller : Path) (n : ℕ) (ts us : Tasks) → AreUnder caller n ts → AreUnder caller (suc n) us → AreUnder caller (suc n) (ts ++ us)
under-both caller n ts us before new =
    each-append (λ (s : Task). IsUnder caller (suc n) s.path) ts us
    (each-map (λ (s : Task). IsUnder caller n s.path) (λ (s : Task). IsUnder caller (suc n) s.path) (λ s u. under-more caller n s.path u) ts before) new

pub under-makes : (r : Rule) → IsBelow r → (caller : Path) (app : ℕ) (arguments : List Value) (names : List Text) (m : Made) → AreUnder caller m.calls m.tasks
    → AreUnder caller (suc m.calls) (makes r caller app arguments names m).1.tasks
under-makes r below caller app arguments names m under =
    let path = child caller m.calls in
    let ran = r path app arguments names m.tasks in
    let task : Task = record { path = path; app = app; arguments = arguments; names = names; inputs = inputs arguments; outcome = ran.outcome } in
    under-both caller m.calls m.tasks (task ∷ ran.below) under (under-call caller m.calls task ran.below refl (below path app arguments names m.tasks))

-- ---- a body's calls

pub under-performed : (r : Rule) → IsBelow r → (caller : Path) (act : Act Done) (m : Made) → AreUnder caller m.calls m.tasks
    → AreUnder caller (perform (join_answer r caller) act m).1.calls (perform (join_answer r caller) act m).1.tasks
under-performed r below caller (Give d) m under = under
under-performed r below caller (Throw exception) m under = under
under-performed r below caller (Ask (request.Call app arguments names) go) m under =
    let next = makes r caller app arguments names m in
    under-performed r below caller (go next.0) next.1 (under-makes r below caller app arguments names m under)
under-performed r below caller (Ask (request.WaitValue f) go) m under = under-performed r below caller (go answer.Go) m under
under-performed r below caller (Ask (request.WaitName f) go) m under = under-performed r below caller (go answer.Go) m under
under-performed r below caller (Ask (request.Print value) go) m under = under-performed r below caller (go answer.Go) m under
under-performed r below caller (Ask request.Checkpoint go) m under = under-performed r below caller (go answer.Go) m under

-- ---- the rule of a call

module _ (apps : List AppDef) (losses : Losses) where
  under_body : (r : Rule) → IsBelow r → (path : Path) (app : AppDef) (values : List Value) → Made-below path (runs_join apps losses r path app values).below
  under_body r below path app values = record { calls = _; under = under-performed r below path (body (app_names apps losses) app.body app.parameters values []) no_calls tt }

  under_app : (room : ℕ) (r : Rule) → IsBelow r → (path : Path) (app : Option AppDef) (values : List Value) (names : List Text) → Made-below path (runs apps losses room r path app values names).below
  under_app zero r below path None values names = none-below path
  under_app (suc room) r below path None values names = none-below path
  under_app zero r below path (Some app) values names = by_join app.join
    where
      by_join : (join : Bool) → Made-below path (if join then settles (o.Failed x.DepthError) else settles (lost_or (losses path) (outcome_of (apply app values names)))).below
      by_join true = none-below path
      by_join false = none-below path
  under_app (suc room) r below path (Some app) values names = by_join app.join
    where
      by_join : (join : Bool) → Made-below path (if join then runs_join apps losses r path app values else settles (lost_or (losses path) (outcome_of (apply app values names)))).below
      by_join true = under_body r below path app values
      by_join false = none-below path

  under_rules : (room : ℕ) (r : Rule) → IsBelow r → IsBelow (by_rules apps losses room r)
  under_rules room r below path app arguments names ts =
      subst (λ (ran : Ran). Made-below path ran.below) (sym (by_rules-ready apps losses room r path app names ts arguments)) (by_ready (ready ts arguments))
    where
      by_ready : (what : Readiness) → Made-below path (rest_of_rule apps losses room r path app names what).below
      by_ready (readiness.Settles exception) = none-below path
      by_ready (readiness.Runs values) = under_app room r below path (slice_get apps app) values names

  abbrev pub deepest : Rule
  deepest path app arguments names ts = settles (o.Failed x.DepthError)

  pub rule-below : (room : ℕ) → IsBelow (rule apps losses room)
  rule-below zero = under_rules zero deepest (λ path app arguments names ts. none-below path)
  rule-below (suc room) = under_rules (suc room) (rule apps losses room) (rule-below room)

-- ---- lengths and places

pub under-longer : (caller : Path) (n : ℕ) (ts : Tasks) → AreUnder caller n ts → Each (λ (t : Task). length caller < length t.path) ts
under-longer caller n ts under = each-map (λ (t : Task). IsUnder caller n t.path) (λ (t : Task). length caller < length t.path) longer ts under
  where
    longer : (t : Task) → IsUnder caller n t.path → length caller < length t.path
    longer t u = let long = length-append caller (suc u.number ∷ u.rest) in let same = ap length u.is in omega arith
