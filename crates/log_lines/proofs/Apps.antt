-- Each task of an evaluation is of an app of the script.
use Rattle.std.proofs.Common.{◌≡◌, ℕ, zero, suc, Bool, true, false, if◌then◌else◌, List, [], ◌∷◌, ◌++◌, Option, Some, None, IsSome, length, slice_get, refl}
use Rattle.std.specs.List.{list_all}
use Rattle.flow_base.specs.declared.value.Value.{Value, out-Value}
use Rattle.flow_base.specs.declared.outcome.Exception.TheVariants as x
use Rattle.flow_base.specs.declared.outcome.Outcome.TheVariants as o
use Rattle.flow_base.specs.Values.{fits}
use Rattle.script_tree.specs.declared.tree.AppDef.{AppDef}
use Rattle.script_tree.specs.declared.body_kind.BodyKind.{BodyKind}
use Rattle.script_tree.specs.declared.body_kind.BodyKind.TheVariants.{Plain, Join, OfMain}
use Rattle.script_tree.specs.Grammar.{Tree}
use Rattle.script_tree.specs.Rules.{body_of, IsWellFormed}
use Rattle.flow_meaning.specs.declared.walk.Request.{Request}
use Rattle.flow_meaning.specs.declared.walk.Request.TheVariants as request
use Rattle.flow_meaning.specs.declared.walk.Answer.{Answer}
use Rattle.flow_meaning.specs.Act.{Act, Give, Throw, Ask}
use Rattle.flow_meaning.specs.Inputs.{Path, path_in, inputs, are_deep}
use Rattle.flow_meaning.specs.Operators.{Text}
use Rattle.flow_meaning.specs.Meaning.{Done}
use Rattle.flow_meaning.specs.Sequential.{perform, Tasks, failed_among, resolved, Ran, settles, Made, no_calls, Rule, makes, join_answer, unless_dependency, runs_join, runs, by_rules, rule, Main, waits, main_answer, main_room, at_start, main_ran, seq}
use Rattle.flow_meaning.specs.Walk.{main_act, body_act}
use Rattle.body_requests.specs.Asks.{Each, Asks, told_by, IsDeclared, RequestIn, AnyAnswer, AnyDone}
use Rattle.body_requests.proofs.Acts.{each_append}
use Rattle.body_requests.proofs.Declared.{main_well, act_well}
use Rattle.call_rules.specs.Calls.{Losses}
use Rattle.log_lines.specs.Lines.{IsOfApp, TasksAreOfApps}

declared_some : (o : Option AppDef) (n m : ℕ) → IsDeclared o n m → IsSome o
declared_some (Some a) n m h = refl
declared_some None n m h = absurd h

-- a call that a body may make is of an app
request_app : (b : BodyKind) (apps : List AppDef) (app : ℕ) (arguments : List Value) (names : List Text) → RequestIn b apps (request.Call app arguments names) → IsSome (slice_get apps app)
request_app Plain apps app arguments names h = absurd h
request_app Join apps app arguments names h = declared_some (slice_get apps app) (length arguments) (length names) h
request_app OfMain apps app arguments names h = declared_some (slice_get apps app) (length arguments) (length names) h

-- below the deepest calls
abbrev deepest : Rule
deepest path app arguments names ts = settles (o.Failed x.DepthError)

module _ (tree : Tree) where
  abbrev AreOfApps : Tasks → Type 0
  AreOfApps = Each (IsOfApp tree.0)

  -- a rule whose calls have tasks of apps alone below them
  abbrev MakesOfApps : Rule → Type 0
  MakesOfApps r = (path : Path) (app : ℕ) (arguments : List Value) (names : List Text) (ts : Tasks) → AreOfApps (r path app arguments names ts).below

  abbrev AsksOfApps : BodyKind → List Path → Act Done → Type 0
  AsksOfApps b = Asks (λ ps. RequestIn b tree.0) AnyAnswer AnyDone

  makes_apps : (r : Rule) → MakesOfApps r → (caller : Path) (app : ℕ) (arguments : List Value) (names : List Text) (m : Made) → IsSome (slice_get tree.0 app) → AreOfApps m.tasks → AreOfApps (makes r caller app arguments names m).1.tasks
  makes_apps r each caller app arguments names m there h = each_append (IsOfApp tree.0) m.tasks _ h (there, each _ app arguments names m.tasks)

  join_apps : (r : Rule) → MakesOfApps r → (caller : Path) (b : BodyKind) (w : Request) (m : Made) → RequestIn b tree.0 w → AreOfApps m.tasks → AreOfApps (join_answer r caller w m).1.tasks
  join_apps r each caller b (request.Call app arguments names) m fit h = makes_apps r each caller app arguments names m (request_app b tree.0 app arguments names fit) h
  join_apps r each caller b _ m fit h = h

  waits_apps : (m : Main) (ps : List Path) → AreOfApps m.made.tasks → AreOfApps (waits m ps).1.made.tasks
  waits_apps m [] h = h
  waits_apps m (p ∷ ps) h = h

  main_apps : (r : Rule) → MakesOfApps r → (b : BodyKind) (w : Request) (m : Main) → RequestIn b tree.0 w → AreOfApps m.made.tasks → AreOfApps (main_answer r w m).1.made.tasks
  main_apps r each b (request.Call app arguments names) m fit h = makes_apps r each [] app arguments names m.made (request_app b tree.0 app arguments names fit) h
  main_apps r each b (request.WaitValue f) m fit h = waits_apps m (path_in (out-Value f)) h
  main_apps r each b (request.WaitName f) m fit h = waits_apps m (path_in (out-Value f)) h
  main_apps r each b (request.Print value) m fit h = h
  main_apps r each b request.Checkpoint m fit h = h

  -- what each request keeps, the act keeps
  performed : {S : Type 0} (Keeps : S → Type 0) (respond : Request → S → Answer × S) (b : BodyKind)
      → ((w : Request) (s : S) → RequestIn b tree.0 w → Keeps s → Keeps (respond w s).1)
      → (ps : List Path) (act : Act Done) (s : S) → AsksOfApps b ps act → Keeps s → Keeps (perform respond act s).1
  performed Keeps respond b step ps (Give d) s asks h = h
  performed Keeps respond b step ps (Throw exception) s asks h = h
  performed Keeps respond b step ps (Ask w go) s asks h =
      let r = respond w s in
      performed Keeps respond b step (told_by r.0 ++ ps) (go r.0) r.1 (asks.1 r.0 tt) (step w s asks.0 h)

  ran_if : (b : Bool) (x y : Ran) → AreOfApps x.below → AreOfApps y.below → AreOfApps (if b then x else y).below
  ran_if true x y h k = h
  ran_if false x y h k = k

  unless_apps : (ps : List Path) (ran : Ran) → AreOfApps ran.below → AreOfApps (unless_dependency ps ran).below
  unless_apps [] ran h = h
  unless_apps (p ∷ ps) ran h = tt

  module _ (losses : Losses) (good : IsWellFormed tree) where
    runs_join_apps : (below : Rule) → MakesOfApps below → (path : Path) (k : ℕ) (app : AppDef) (arguments : List Value) → slice_get tree.0 k ≡ Some app → AreOfApps (runs_join tree.0 losses below path app arguments).below
    runs_join_apps below each path k app arguments at =
        performed (λ (m : Made). AreOfApps m.tasks) (join_answer below path) (body_of app) (join_apps below each path (body_of app)) [] (body_act tree (Some app) arguments) no_calls (act_well tree k app arguments good at) tt

    runs_apps : (room : ℕ) (below : Rule) → MakesOfApps below → (path : Path) (k : ℕ) (app : Option AppDef) (arguments : List Value) (names : List Text) → slice_get tree.0 k ≡ app → AreOfApps (runs tree.0 losses room below path app arguments names).below
    runs_apps room below each path k None arguments names at = tt
    runs_apps zero below each path k (Some app) arguments names at = ran_if app.join _ _ tt tt
    runs_apps (suc room) below each path k (Some app) arguments names at = ran_if app.join _ _ (runs_join_apps below each path k app arguments at) tt

    by_rules_apps : (room : ℕ) (below : Rule) → MakesOfApps below → MakesOfApps (by_rules tree.0 losses room below)
    by_rules_apps room below each path app arguments names ts =
        ran_if (are_deep arguments) _ _ tt (unless_apps (failed_among ts (inputs arguments)) _
        (ran_if (list_all fits (resolved ts arguments)) _ _ (runs_apps room below each path app (slice_get tree.0 app) (resolved ts arguments) names refl) tt))

    rule_apps : (room : ℕ) → MakesOfApps (rule tree.0 losses room)
    rule_apps zero = by_rules_apps zero deepest (λ path app arguments names ts. tt)
    rule_apps (suc room) = by_rules_apps (suc room) (rule tree.0 losses room) (rule_apps room)

    seq_apps : AreOfApps (seq tree.0 tree.1 losses).tasks
    unfolding seq main_ran
    seq_apps = performed (λ (m : Main). AreOfApps m.made.tasks) (main_answer (rule tree.0 losses main_room)) OfMain (main_apps (rule tree.0 losses main_room) (rule_apps main_room) OfMain) [] (main_act tree) at_start (main_well tree good) tt

pub tasks-apps : TasksAreOfApps
tasks-apps tree losses good = seq_apps tree losses good
