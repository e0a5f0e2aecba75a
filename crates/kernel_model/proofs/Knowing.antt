-- What the table of an evaluation says of the calls that a kernel knows, and of main.
use Rattle.std.proofs.Common.{◌≡◌, ℕ, zero, suc, ◌<◌, List, [], ◌∷◌, ◌++◌, length, map, Some, refl, sym, ◌∙◌, ap, subst}
use Rattle.std.specs.Prelude.{slice_get, Result, option_map}
use Rattle.std.proofs.lemmas.List.{append_assoc, append-nil}
use Rattle.flow_base.specs.declared.value.Value.{out-Value}
use Rattle.flow_base.specs.declared.outcome.Exception.{Exception}
use Rattle.flow_base.specs.declared.outcome.Outcome.{Outcome}
use Rattle.script_tree.specs.declared.tree.AppDef.{AppDef}
use Rattle.script_tree.specs.Grammar.{Tree}
use Rattle.flow_meaning.specs.declared.walk.Request.{Request}
use Rattle.flow_meaning.specs.declared.walk.Request.TheVariants as request
use Rattle.flow_meaning.specs.declared.walk.Answer.TheVariants as answer
use Rattle.flow_meaning.specs.Act as walk
use Rattle.flow_meaning.specs.Inputs.{Path, path_in}
use Rattle.flow_meaning.specs.Meaning.{Done}
use Rattle.flow_meaning.specs.Evaluations.{name_in}
use Rattle.flow_meaning.specs.Sequential.{Tasks, outcome_at, Main, MainAct, Waits, Prints, Checkpoints, Rule, perform, main_answer, acted, waits, seq}
use Rattle.history_laws.specs.declared.table.Expected.{Expected}
use Rattle.call_rules.specs.Calls.{Losses, child, Call, task_of, found, dry_answer, dry, Begin, Fails, Attempts, Joins, join_act, begin, calls_below, calls_with, awaits}
use Rattle.history_laws.specs.Tables.{task_at, row_key, table_key, acts_of, status_of, is_attempt, is_join, kind_with, key_with, expected, table}
use Rattle.kernel_model.specs.Known.{Known, call_at, path_at, settled_outcome, inputs_at, known, begin_at, key_at, main_rule, main_left, apps_in}
use Rattle.call_rules.specs.Groups.{IsRuled, AllKnown, HasTask}
use Rattle.kernel_model.specs.Invariants.{FollowsEvaluation, Tracks}
use Rattle.call_rules.proofs.Tasks.{outcome-found}
use Rattle.call_rules.proofs.Agreeing.{Agree, agree-back, known-agree, begin-agrees, awaits-agree, calls-agree}
use Rattle.kernel_model.proofs.Places.{known-at, known-only}
use Rattle.call_rules.proofs.Evaluating.{whole-ruled}
use Rattle.history_laws.proofs.Dues.{found-expected}
use Rattle.call_rules.specs.Told.{whole_ran, whole, IsTold}

-- ---- the table

pub tasks-are : (tree : Tree) (losses : Losses) → (table tree losses).tasks ≡ map (expected tree.0 (whole tree losses)) (whole tree losses)
unfolding seq
tasks-are tree losses = refl

pub acts-are : (tree : Tree) (losses : Losses) → (table tree losses).acts ≡ acts_of (whole_ran tree losses).1.acts
unfolding seq
acts-are tree losses = refl

pub task-is : (tree : Tree) (losses : Losses) (p : Path) → task_at (table tree losses) p ≡ option_map (expected tree.0 (whole tree losses)) (found (whole tree losses) p)
unfolding seq
task-is tree losses p = found-expected tree.0 (whole tree losses) (whole tree losses) p

-- ---- calls

pub known-whole : (w : Known) (losses : Losses) → Tracks w → FollowsEvaluation losses w → (p : Path) (outcome : Outcome) → outcome_at (known w) p ≡ Some outcome → outcome_at (whole w.tree losses) p ≡ Some outcome
known-whole w losses tracks e p outcome h =
    let at = known-only w p outcome h in
    let so : settled_outcome w at.place ≡ Some outcome = sym (known-at w tracks at.place at.within) ∙ (ap (outcome_at (known w)) at.is ∙ h) in
    ap (outcome_at (whole w.tree losses)) (sym at.is) ∙ e.agrees at.place outcome so

pub whole-agrees : (w : Known) (losses : Losses) → Tracks w → FollowsEvaluation losses w → (ps : List Path) → AllKnown (known w) ps → Agree (whole w.tree losses) (known w) ps
whole-agrees w losses tracks e ps h = agree-back (known w) (whole w.tree losses) ps (known-agree (known w) (whole w.tree losses) ps (known-whole w losses tracks e) h)

-- the table says of a call what the kernel knows of it
pub record KnowsCall (w : Known) (losses : Losses) (k : ℕ) : Type 0 where
  pub task : Expected
  pub is : task_at (table w.tree losses) (path_at w k) ≡ Some task
  pub app : task.app ≡ name_in (slice_get (apps_in w) (call_at w k).app)
  pub inputs : task.inputs ≡ inputs_at w k
  pub state : (outcome : Outcome) → settled_outcome w k ≡ Some outcome → task.status ≡ status_of outcome
  pub evaluated : (outcome : Outcome) → outcome_at (whole w.tree losses) (path_at w k) ≡ Some outcome → task.status ≡ status_of outcome
  pub runs : AllKnown (known w) (inputs_at w k) → task.runs ≡ is_attempt (begin_at w k)
  pub joins : AllKnown (known w) (inputs_at w k) → task.joins ≡ is_join (begin_at w k)
  pub calls : AllKnown (known w) (inputs_at w k) → task.calls ≡ length (calls_below (apps_in w) (known w) (call_at w k))
  pub awaits : AllKnown (known w) (inputs_at w k) → task.awaits ≡ awaits (apps_in w) (known w) (call_at w k)
  pub kind : AllKnown (known w) (inputs_at w k) → task.kind ≡ kind_with (call_at w k).names (begin_at w k)
  pub key : AllKnown (known w) (inputs_at w k) → task.key ≡ key_at w k

pub knows-call : (w : Known) (losses : Losses) → Tracks w → FollowsEvaluation losses w → (k : ℕ) → k < length w.calls → KnowsCall w losses k
knows-call w losses tracks e k lt =
    let c : Call = call_at w k in
    let apps : List AppDef = apps_in w in
    let all : Tasks = whole w.tree losses in
    let there = e.placed k lt in
    let agree : AllKnown (known w) (inputs_at w k) → Agree all (known w) (inputs_at w k) = whole-agrees w losses tracks e (inputs_at w k) in
    record {
      task = expected apps all (task_of c there.outcome);
      is = task-is w.tree losses c.path ∙ ap (option_map (expected apps all)) there.at;
      app = refl;
      inputs = refl;
      state = λ outcome h. let same : there.outcome ≡ outcome = (let f = outcome-found all c.path (task_of c there.outcome) there.at in let g = e.agrees k outcome h in cc) in ap status_of same;
      evaluated = λ outcome g. let same : there.outcome ≡ outcome = (let f = outcome-found all c.path (task_of c there.outcome) there.at in cc) in ap status_of same;
      runs = λ h. ap is_attempt (begin-agrees apps all (known w) c (agree h));
      joins = λ h. ap is_join (begin-agrees apps all (known w) c (agree h));
      calls = λ h. ap length (calls-agree apps all (known w) c (agree h));
      awaits = λ h. awaits-agree apps all (known w) c (agree h);
      kind = λ h. ap (kind_with c.names) (begin-agrees apps all (known w) c (agree h));
      key = λ h. ap (key_with c.names) (begin-agrees apps all (known w) c (agree h));
    }

-- the key of its row
pub row-key : (w : Known) (losses : Losses) (k : ℕ) → KnowsCall w losses k → AllKnown (known w) (inputs_at w k) → table_key (table w.tree losses) (path_at w k) ≡ key_at w k
row-key w losses k c h = ap row_key c.is ∙ c.key h

-- the rule of a call that is there, on the whole
pub ruled-at : (w : Known) (losses : Losses) → IsTold w.tree → FollowsEvaluation losses w → (k : ℕ) → k < length w.calls → (there : HasTask (whole w.tree losses) (call_at w k)) → IsRuled (apps_in w) losses (whole w.tree losses) (task_of (call_at w k) there.outcome)
ruled-at w losses told e k lt there = (whole-ruled w.tree told losses).ruled (path_at w k) (task_of (call_at w k) there.outcome) there.at

-- the i-th call of a body has the i-th path
pushed_paths : (caller : Path) (at : ℕ → ℕ) (cs : List Call) (c : Call) → ((i : ℕ) (d : Call) → slice_get cs i ≡ Some d → d.path ≡ child caller (at i)) → c.path ≡ child caller (at (length cs)) → (i : ℕ) (d : Call) → slice_get (cs ++ c ∷ []) i ≡ Some d → d.path ≡ child caller (at i)
pushed_paths caller at [] c early here zero d e = let same : c ≡ d = cc in subst (λ (b : Call). b.path ≡ child caller (at 0)) same here
pushed_paths caller at [] c early here (suc i) d e = absurd (cc)
pushed_paths caller at (b ∷ cs) c early here zero d e = early zero d e
pushed_paths caller at (b ∷ cs) c early here (suc i) d e = pushed_paths caller (λ n. at (suc n)) cs c (λ j f g. early (suc j) f g) here i d e

dry_paths : (caller : Path) (act : walk.Act Done) (cs : List Call) → ((i : ℕ) (c : Call) → slice_get cs i ≡ Some c → c.path ≡ child caller i) → (i : ℕ) (c : Call) → slice_get (perform (dry_answer caller) act cs).1 i ≡ Some c → c.path ≡ child caller i
dry_paths caller (walk.Give d) cs before = before
dry_paths caller (walk.Throw exception) cs before = before
dry_paths caller (walk.Ask (request.Call app arguments names) go) cs before =
    let c : Call = record { path = child caller (length cs); app = app; arguments = arguments; names = names } in
    dry_paths caller (go (dry_answer caller (request.Call app arguments names) cs).0) (cs ++ c ∷ []) (pushed_paths caller (λ n. n) cs c before refl)
dry_paths caller (walk.Ask (request.WaitValue f) go) cs before = dry_paths caller (go answer.Go) cs before
dry_paths caller (walk.Ask (request.WaitName f) go) cs before = dry_paths caller (go answer.Go) cs before
dry_paths caller (walk.Ask (request.Print value) go) cs before = dry_paths caller (go answer.Go) cs before
dry_paths caller (walk.Ask request.Checkpoint go) cs before = dry_paths caller (go answer.Go) cs before

pub dry-path : (caller : Path) (act : walk.Act Done) (i : ℕ) (c : Call) → slice_get (dry caller act).1 i ≡ Some c → c.path ≡ child caller i
dry-path caller act = dry_paths caller act [] (λ i c e. absurd (cc))

pub calls-path : (apps : List AppDef) (ts : Tasks) (c : Call) (i : ℕ) (d : Call) → slice_get (calls_below apps ts c) i ≡ Some d → d.path ≡ child c.path i
calls-path apps ts c i d e = by_begin (begin apps ts c) e
  where
    by_begin : (b : Begin) → slice_get (calls_with apps c.path b) i ≡ Some d → d.path ≡ child c.path i
    by_begin (Fails exception) h = absurd (cc)
    by_begin (Attempts app values) h = absurd (cc)
    by_begin (Joins app values) h = dry-path c.path (join_act apps app values) i d h

-- ---- main

-- an act only adds tasks and acts
pub record GoesOn (m n : Main) : Type 0 where
  pub tasks : Tasks
  pub acts : List MainAct
  pub has_tasks : n.made.tasks ≡ m.made.tasks ++ tasks
  pub has_acts : n.acts ≡ m.acts ++ acts

same_state : (m : Main) → GoesOn m m
same_state m = record { tasks = []; acts = []; has_tasks = sym (append-nil m.made.tasks); has_acts = sym (append-nil m.acts) }

one_act : (m : Main) (a : MainAct) → GoesOn m (acted m a)
one_act m a = record { tasks = []; acts = a ∷ []; has_tasks = sym (append-nil m.made.tasks); has_acts = refl }

waits_on : (m : Main) (ps : List Path) → GoesOn m (waits m ps).1
waits_on m [] = same_state m
waits_on m (p ∷ ps) = one_act m (Waits p)

answers_on : (r : Rule) (w : Request) (m : Main) → GoesOn m (main_answer r w m).1
answers_on r (request.Call app arguments names) m = record { tasks = _; acts = _; has_tasks = refl; has_acts = refl }
answers_on r (request.WaitValue f) m = waits_on m (path_in (out-Value f))
answers_on r (request.WaitName f) m = waits_on m (path_in (out-Value f))
answers_on r (request.Print value) m = record { tasks = []; acts = Prints value ∷ []; has_tasks = sym (append-nil m.made.tasks); has_acts = refl }
answers_on r request.Checkpoint m = one_act m Checkpoints

pub performs-on : (r : Rule) (act : walk.Act Done) (m : Main) → GoesOn m (perform (main_answer r) act m).1
performs-on r (walk.Give d) m = same_state m
performs-on r (walk.Throw exception) m = same_state m
performs-on r (walk.Ask w go) m =
    let first = answers_on r w m in
    let next : Main = (main_answer r w m).1 in
    let rest = performs-on r (go (main_answer r w m).0) next in
    record {
      tasks = first.tasks ++ rest.tasks;
      acts = first.acts ++ rest.acts;
      has_tasks = rest.has_tasks ∙ ap (λ (ts : Tasks). ts ++ rest.tasks) first.has_tasks ∙ append_assoc m.made.tasks first.tasks rest.tasks;
      has_acts = rest.has_acts ∙ ap (λ (acts : List MainAct). acts ++ rest.acts) first.has_acts ∙ append_assoc m.acts first.acts rest.acts;
    }

-- the whole goes on from where main is
pub whole-on : (w : Known) (losses : Losses) (e : FollowsEvaluation losses w) → GoesOn (record { made = e.made; acts = w.acts; printed = [] }) (whole_ran w.tree losses).1
whole-on w losses e =
    let on = performs-on (main_rule w losses) (main_left w) (record { made = e.made; acts = w.acts; printed = _ }) in
    let same = ap (λ (r : Result Done Exception × Main). r.1) e.goes_on in
    record { tasks = on.tasks; acts = on.acts; has_tasks = ap (λ (n : Main). n.made.tasks) same ∙ on.has_tasks; has_acts = ap (λ (n : Main). n.acts) same ∙ on.has_acts }
