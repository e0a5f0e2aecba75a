-- What a write of one step of main does to the state of a run.
use Rattle.std.proofs.Common.{◌≡◌, ℕ, suc, ◌+◌, ◌-◌, ◌^◌, ◌<◌, ◌≤◌, min, Bool, true, false, List, [], ◌∷◌, ◌++◌, length, map, Option, Some, None, IsSome, refl, sym, ◌∙◌, ap, subst, arith}
use Rattle.std.specs.Prelude.{slice_get, sum}
use Rattle.std.proofs.lemmas.List.{length-map, map-append}
use Rattle.flow_base.specs.declared.value.Value.{Value}
use Rattle.flow_base.specs.declared.outcome.Ending.{Ending}
use Rattle.flow_base.specs.declared.outcome.Outcome.{Outcome}
use Rattle.flow_base.specs.Values.{units}
use Rattle.script_tree.specs.Grammar.{Tree}
use Rattle.event_log.specs.declared.entry.Entry.{Entry}
use Rattle.event_log.specs.declared.entry.Entry.TheVariants as entry
use Rattle.task_record.specs.Tasks.{Task as Record}
use Rattle.task_record.specs.declared.status.Status.TheVariants as status
use Rattle.dependency_graph.specs.Places.{place_in}
use Rattle.dependency_graph.specs.declared.monitor.Settlement.{Settlement}
use Rattle.flow_meaning.specs.declared.walk.Request.TheVariants as request
use Rattle.flow_meaning.specs.Evaluations.{name_in}
use Rattle.flow_meaning.specs.Inputs.{Path}
use Rattle.flow_meaning.specs.Operators.{Text}
use Rattle.flow_meaning.specs.Sequential.{Waits, outcome_answer}
use Rattle.flow_meaning.specs.declared.walk.Answer.TheVariants as answer
use Rattle.call_rules.specs.Calls.{Call}
use Rattle.history_laws.specs.Reads.{submits}
use Rattle.stored_units.specs.Stored.{max_tasks, max_stored, name_units, call_units}
use Rattle.memo_table.specs.Table.{MemoView}
use Rattle.kernel_model.specs.declared.answers.Refusal.{Refusal}
use Rattle.kernel_model.specs.Known.{Known, Life, path_at, settled_outcome}
use Rattle.kernel_model.specs.Acts.{pending, answered, called, call_of as next_call, waited, printed, checkpointed}
use Rattle.kernel_model.specs.Conditions.{MainAsks, CanEndMain}
use Rattle.kernel_model.specs.Limits.{stored}
use Rattle.kernel_model.proofs.Counting.{sum-cons, stored-called, stored-printed, stored-unprinted, stored-waited, stored-checkpointed}
use Rattle.kernel_core.specs.MainTurns.{CanWait, AddsCall, IsWaited}
use Rattle.kernel_core.specs.declared.task.Task.{Task}
use Rattle.kernel_core.specs.declared.run_state.MainStep.{MainStep}
use Rattle.kernel_core.specs.declared.run_state.MainStep.TheVariants as step
use Rattle.kernel_core.specs.Tasks.{call_of, life_of, AreOver}
use Rattle.agenda_model.specs.Agendas.{running_in}
use Rattle.kernel_core.specs.Views.{known_with, IsFact, IsSound, IsIndexed}
use Rattle.kernel_core.proofs.MainSound.{units-fit, fact-stored, fact-printed, fact-checkpointed, fact-waited, fact-arrived, fact-main-ended, fact-called}
use Rattle.kernel_core.proofs.PathTables.{next-nowhere, indexed-called}
use Rattle.kernel_core.proofs.MainViews.{IsPushed, over-push, over-append, running-push, view-answered, view-called}

-- ---- one more step

step_sound : (v : Known) (tree : Tree) (tasks : List Task) (steps : List MainStep) (arrived : Bool) (ending : Option Ending) (memo : MemoView) (log : List Entry) (refusal : Option Refusal) (told : List (List Settlement)) (running kept more : ℕ) (s : MainStep)
    → IsSound (known_with tree tasks steps arrived ending memo log refusal told) tasks steps running kept
    → known_with tree tasks (steps ++ s ∷ []) false ending memo log refusal told ≡ v → IsFact v → AreOver (map call_of tasks) (map life_of tasks) (s ∷ []) → more ≡ stored v
    → IsSound (known_with tree tasks (steps ++ s ∷ []) false ending memo log refusal told) tasks (steps ++ s ∷ []) running more
step_sound v tree tasks steps arrived ending memo log refusal told running kept more s sound is fact over count = record {
  fact = subst IsFact (sym is) fact;
  over = over-append (map call_of tasks) (map life_of tasks) steps (s ∷ []) sound.over over;
  running = sound.running;
  units_are = count ∙ ap stored (sym is);
}

pub print-sound : (w : Known) (tree : Tree) (tasks : List Task) (steps : List MainStep) (arrived : Bool) (ending : Option Ending) (memo : MemoView) (log : List Entry) (refusal : Option Refusal) (told : List (List Settlement)) (running kept n : ℕ) (value : Value)
    → IsSound (known_with tree tasks steps arrived ending memo log refusal told) tasks steps running kept → known_with tree tasks steps arrived ending memo log refusal told ≡ w
    → MainAsks w (request.Print value) → n ≡ min (units value) (2 ^ 64 - 1) → n ≤ max_stored - kept
    → IsSound (known_with tree tasks (steps ++ step.Print value ∷ []) false ending memo log refusal told) tasks (steps ++ step.Print value ∷ []) running (kept + n)
print-sound w tree tasks steps arrived ending memo log refusal told running kept n value sound view asks cut small =
    let u : Known = known_with tree tasks steps arrived ending memo log refusal told in
    let within : kept ≤ max_stored = subst (λ (k : ℕ). k ≤ max_stored) (sym sound.units_are) (fact-stored u sound.fact) in
    let fits = units-fit kept n (units value) cut small within in
    let asks_u = subst (λ (w : Known). MainAsks w (request.Print value)) (sym view) asks in
    let total : kept + n ≡ stored u + units value = ap (λ (m : ℕ). m + n) sound.units_are ∙ ap (λ (m : ℕ). stored u + m) fits.0 in
    step_sound (printed u value) tree tasks steps arrived ending memo log refusal told running kept (kept + n) (step.Print value) sound
    (view-answered tree tasks steps arrived ending memo log refusal told (step.Print value))
    (fact-printed u value sound.fact asks_u (subst (λ (m : ℕ). m ≤ max_stored) total fits.1)) tt (total ∙ sym (stored-printed u value))

pub print-view : (w : Known) (tree : Tree) (tasks : List Task) (steps : List MainStep) (arrived : Bool) (ending : Option Ending) (memo : MemoView) (log : List Entry) (refusal : Option Refusal) (told : List (List Settlement)) (value : Value)
    → known_with tree tasks steps arrived ending memo log refusal told ≡ w → known_with tree tasks (steps ++ step.Print value ∷ []) false ending memo log refusal told ≡ printed w value
print-view w tree tasks steps arrived ending memo log refusal told value view = view-answered tree tasks steps arrived ending memo log refusal told (step.Print value) ∙ ap (λ (u : Known). printed u value) view

pub checkpoint-sound : (w : Known) (tree : Tree) (tasks : List Task) (steps : List MainStep) (arrived : Bool) (ending : Option Ending) (memo : MemoView) (log : List Entry) (refusal : Option Refusal) (told : List (List Settlement)) (running kept : ℕ)
    → IsSound (known_with tree tasks steps arrived ending memo log refusal told) tasks steps running kept → known_with tree tasks steps arrived ending memo log refusal told ≡ w
    → MainAsks w request.Checkpoint
    → IsSound (known_with tree tasks (steps ++ step.Checkpoint ∷ []) false ending memo log refusal told) tasks (steps ++ step.Checkpoint ∷ []) running kept
checkpoint-sound w tree tasks steps arrived ending memo log refusal told running kept sound view asks =
    let u : Known = known_with tree tasks steps arrived ending memo log refusal told in
    let asks_u = subst (λ (w : Known). MainAsks w request.Checkpoint) (sym view) asks in
    step_sound (checkpointed u) tree tasks steps arrived ending memo log refusal told running kept kept step.Checkpoint sound
    (view-answered tree tasks steps arrived ending memo log refusal told step.Checkpoint)
    (fact-checkpointed u sound.fact asks_u) tt (sound.units_are ∙ sym (stored-checkpointed u))

pub checkpoint-view : (w : Known) (tree : Tree) (tasks : List Task) (steps : List MainStep) (arrived : Bool) (ending : Option Ending) (memo : MemoView) (log : List Entry) (refusal : Option Refusal) (told : List (List Settlement))
    → known_with tree tasks steps arrived ending memo log refusal told ≡ w → known_with tree tasks (steps ++ step.Checkpoint ∷ []) false ending memo log refusal told ≡ checkpointed w
checkpoint-view w tree tasks steps arrived ending memo log refusal told view = view-answered tree tasks steps arrived ending memo log refusal told step.Checkpoint ∙ ap checkpointed view

-- ---- waits

waited_view : (tree : Tree) (tasks : List Task) (steps : List MainStep) (arrived : Bool) (ending : Option Ending) (memo : MemoView) (log : List Entry) (refusal : Option Refusal) (told : List (List Settlement)) (k : ℕ) (outcome : Outcome)
    → settled_outcome (known_with tree tasks steps arrived ending memo log refusal told) k ≡ Some outcome
    → known_with tree tasks (steps ++ step.Wait k ∷ []) false ending memo log refusal told ≡ waited (known_with tree tasks steps arrived ending memo log refusal told) (path_at (known_with tree tasks steps arrived ending memo log refusal told) k) outcome
waited_view tree tasks steps arrived ending memo log refusal told k outcome settled =
    let u : Known = known_with tree tasks steps arrived ending memo log refusal told in
    view-answered tree tasks steps arrived ending memo log refusal told (step.Wait k)
    ∙ ap (λ (found : Option Outcome). answered u (outcome_answer found) (Waits (path_at u k) ∷ [])) settled

pub wait-sound : (w : Known) (tree : Tree) (tasks : List Task) (steps : List MainStep) (arrived : Bool) (ending : Option Ending) (memo : MemoView) (log : List Entry) (refusal : Option Refusal) (told : List (List Settlement)) (running kept k : ℕ)
    → IsSound (known_with tree tasks steps arrived ending memo log refusal told) tasks steps running kept → known_with tree tasks steps arrived ending memo log refusal told ≡ w
    → CanWait w k
    → IsSound (known_with tree tasks (steps ++ step.Wait k ∷ []) false ending memo log refusal told) tasks (steps ++ step.Wait k ∷ []) running kept
wait-sound w tree tasks steps arrived ending memo log refusal told running kept k sound view can =
    let u : Known = known_with tree tasks steps arrived ending memo log refusal told in
    let here = subst (λ (w : Known). CanWait w k) (sym view) can in
    let there : IsSome (settled_outcome u k) = rw here.settled refl in
    step_sound (waited u (path_at u k) here.outcome) tree tasks steps arrived ending memo log refusal told running kept kept (step.Wait k) sound
    (waited_view tree tasks steps arrived ending memo log refusal told k here.outcome here.settled)
    (fact-waited u k here.outcome sound.fact here.waits here.settled) (here.waits.within, there, tt) (sound.units_are ∙ sym (stored-waited u (path_at u k) here.outcome))

pub wait-view : (w : Known) (tree : Tree) (tasks : List Task) (steps : List MainStep) (arrived : Bool) (ending : Option Ending) (memo : MemoView) (log : List Entry) (refusal : Option Refusal) (told : List (List Settlement)) (k : ℕ)
    → known_with tree tasks steps arrived ending memo log refusal told ≡ w → IsWaited w k (known_with tree tasks (steps ++ step.Wait k ∷ []) false ending memo log refusal told)
wait-view w tree tasks steps arrived ending memo log refusal told k view outcome settled =
    waited_view tree tasks steps arrived ending memo log refusal told k outcome (ap (λ (u : Known). settled_outcome u k) view ∙ settled)
    ∙ ap (λ (u : Known). waited u (path_at u k) outcome) view

-- ---- one more call

abbrev pub fresh : Path → ℕ → List Value → List Text → Record
fresh path app arguments names = record { path = path; app = app; arguments = arguments; names = names; status = status.Pending; attempts = 0; cost = 0 }

abbrev pub unended : Record → Task
unended r = record { «record» = r; end = None; ran = None }

-- what is written for the call
pub record Writes (tree : Tree) (tasks : List Task) (app : ℕ) (arguments : List Value) (names : List Text) (path : Path) (k : ℕ) (r : Record) (copy : Path) (name : Text) : Type 0 where
  pub number : k ≡ length tasks
  pub made : r ≡ fresh path app arguments names
  pub copied : copy ≡ path
  pub named : name ≡ name_in (slice_get tree.0 app)

pushed : (tree : Tree) (tasks : List Task) (app : ℕ) (arguments : List Value) (names : List Text) (path : Path) (k : ℕ) (r : Record) (copy : Path) (name : Text) (u : Known)
    → Writes tree tasks app arguments names path k r copy name → u.tree ≡ tree → path ≡ (next_call u app arguments names).path
    → IsPushed tree tasks (unended r) (next_call u app arguments names) k (entry.Submit copy name) u
pushed tree tasks app arguments names path k r copy name u writes same is = record {
  call = rw (writes.made, is) refl;
  life = rw writes.made refl;
  number = writes.number;
  entry = rw (writes.copied, is, writes.named, same) refl;
}

pub submit-view : (w : Known) (tree : Tree) (tasks : List Task) (steps : List MainStep) (arrived : Bool) (ending : Option Ending) (memo : MemoView) (log : List Entry) (refusal : Option Refusal) (told : List (List Settlement)) (running kept n : ℕ)
    (app : ℕ) (arguments : List Value) (names : List Text) (path : Path) (k : ℕ) (r : Record) (copy : Path) (name : Text)
    → IsSound (known_with tree tasks steps arrived ending memo log refusal told) tasks steps running kept → known_with tree tasks steps arrived ending memo log refusal told ≡ w
    → AddsCall w (next_call w app arguments names) path n → Writes tree tasks app arguments names path k r copy name
    → known_with tree (tasks ++ unended r ∷ []) (steps ++ step.Call k ∷ []) false ending memo (log ++ entry.Submit copy name ∷ []) refusal told ≡ called w (next_call w app arguments names)
submit-view w tree tasks steps arrived ending memo log refusal told running kept n app arguments names path k r copy name sound view adds writes =
    let u : Known = known_with tree tasks steps arrived ending memo log refusal told in
    let is : path ≡ (next_call u app arguments names).path = adds.path_is ∙ ap (λ (w : Known). (next_call w app arguments names).path) (sym view) in
    view-called tree tasks steps arrived ending memo log refusal told (unended r) (next_call u app arguments names) k (entry.Submit copy name) sound.over
    (pushed tree tasks app arguments names path k r copy name u writes refl is)
    ∙ ap (λ (w : Known). called w (next_call w app arguments names)) view

pub submit-sound : (w : Known) (tree : Tree) (tasks : List Task) (steps : List MainStep) (arrived : Bool) (ending : Option Ending) (memo : MemoView) (log : List Entry) (refusal : Option Refusal) (told : List (List Settlement)) (running kept n : ℕ)
    (app : ℕ) (arguments : List Value) (names : List Text) (path : Path) (k : ℕ) (r : Record) (copy : Path) (name : Text)
    → IsSound (known_with tree tasks steps arrived ending memo log refusal told) tasks steps running kept → known_with tree tasks steps arrived ending memo log refusal told ≡ w
    → MainAsks w (request.Call app arguments names) → AddsCall w (next_call w app arguments names) path n → Writes tree tasks app arguments names path k r copy name
    → IsSound (known_with tree (tasks ++ unended r ∷ []) (steps ++ step.Call k ∷ []) false ending memo (log ++ entry.Submit copy name ∷ []) refusal told) (tasks ++ unended r ∷ []) (steps ++ step.Call k ∷ []) running (kept + n)
submit-sound w tree tasks steps arrived ending memo log refusal told running kept n app arguments names path k r copy name sound view asks adds writes =
    let u : Known = known_with tree tasks steps arrived ending memo log refusal told in
    let c : Call = next_call w app arguments names in
    let fact_w = subst IsFact view sound.fact in
    let is = submit-view w tree tasks steps arrived ending memo log refusal told running kept n app arguments names path k r copy name sound view adds writes in
    let calls_are : map call_of (tasks ++ unended r ∷ []) ≡ map call_of tasks ++ call_of (unended r) ∷ [] = map-append call_of tasks (unended r ∷ []) in
    let life : life_of (unended r) ≡ pending = rw writes.made refl in
    let lives_are : map life_of (tasks ++ unended r ∷ []) ≡ map life_of tasks ++ pending ∷ [] = map-append life_of tasks (unended r ∷ []) ∙ ap (λ (l : Life). map life_of tasks ++ l ∷ []) life in
    let below : k < length (map call_of tasks ++ call_of (unended r) ∷ []) = last_below tasks (call_of (unended r)) k writes.number in
    record {
      fact = subst IsFact (sym is) (fact-called w app arguments names path n fact_w asks adds);
      over = rw (calls_are, lives_are) (over-append _ _ steps (step.Call k ∷ []) (over-push (map call_of tasks) (map life_of tasks) (call_of (unended r)) steps sound.over) (below, tt));
      running = sound.running ∙ sym (ap running_in lives_are ∙ running-push (map life_of tasks));
      units_are = ap (λ (m : ℕ). m + n) (sound.units_are ∙ ap stored view) ∙ ap (λ (m : ℕ). stored w + m) adds.units_are ∙ sym (stored-called w c) ∙ ap stored (sym is);
    }
  where
    last_below : (tasks : List Task) (c : Call) (k : ℕ) → k ≡ length tasks → k < length (map call_of tasks ++ c ∷ [])
    last_below [] c k is = omega arith
    last_below (t ∷ tasks) c k is = let h = last_below tasks c (length tasks) refl in omega arith

-- what the tests before a call give
pub call-adds : (w : Known) (tree : Tree) (tasks : List Task) (steps : List MainStep) (arrived : Bool) (ending : Option Ending) (memo : MemoView) (log : List Entry) (refusal : Option Refusal) (told : List (List Settlement)) (running kept n m mains : ℕ)
    (app : ℕ) (arguments : List Value) (names : List Text) (path : Path) (places : List Path)
    → IsSound (known_with tree tasks steps arrived ending memo log refusal told) tasks steps running kept → IsIndexed (known_with tree tasks steps arrived ending memo log refusal told) places mains → known_with tree tasks steps arrived ending memo log refusal told ≡ w
    → m ≡ length tasks → m < max_tasks → path ≡ (mains + 1) ∷ [] → n ≡ min (call_units arguments names) (2 ^ 64 - 1) → n ≤ max_stored - kept → AddsCall w (next_call w app arguments names) path n
call-adds w tree tasks steps arrived ending memo log refusal told running kept n m mains app arguments names path places sound index view count few at is fits =
    let u : Known = known_with tree tasks steps arrived ending memo log refusal told in
    let as_many : length u.calls ≡ m = length-map tasks call_of ∙ sym count in
    let within : kept ≤ max_stored = subst (λ (k : ℕ). k ≤ max_stored) (sym sound.units_are) (fact-stored u sound.fact) in
    let both = units-fit kept n (call_units arguments names) is fits within in
    let adds : AddsCall u (next_call u app arguments names) path n = record {
      path_is = at ∙ number mains (submits u.past) index.mains_are;
      units_are = both.0;
      few = subst (λ (k : ℕ). k < max_tasks) (sym as_many) few;
      small = subst (λ (k : ℕ). k + n ≤ max_stored) sound.units_are both.1;
    } in
    subst (λ (w : Known). AddsCall w (next_call w app arguments names) path n) view adds
  where
    number : (m k : ℕ) → m ≡ k → (m + 1) ∷ [] ≡ suc k ∷ []
    number m k e = let same : m + 1 ≡ suc k = omega arith in ap (λ (j : ℕ). j ∷ []) same

-- main's number of calls has room for one more
pub adds-few : (v w : Known) (places : List Path) (mains n : ℕ) (c : Call) (path : Path) → v ≡ w → IsIndexed v places mains → AddsCall w c path n → mains < max_tasks
adds-few v w places mains n c path view index adds =
    let below = (subst (λ (u : Known). IsIndexed u places mains) view index).few in
    let few = adds.few in
    omega (arith, below, few)

-- no call has the path of the next one
pub submit-new : (v w : Known) (places : List Path) (mains n app : ℕ) (arguments : List Value) (names : List Text) (path : Path) → v ≡ w → IsFact v → IsIndexed v places mains → AddsCall w (next_call w app arguments names) path n → place_in places path ≡ None
submit-new v w places mains n app arguments names path view fact index adds =
    ap (place_in places) adds.path_is ∙ next-nowhere w places mains (subst IsFact view fact).inv.holds.tracks (subst (λ (u : Known). IsIndexed u places mains) view index)

-- the table behind it
pub submit-indexed : (v w u : Known) (places places_after : List Path) (mains n app : ℕ) (arguments : List Value) (names : List Text) (path : Path) → v ≡ w → IsIndexed v places mains → AddsCall w (next_call w app arguments names) path n
    → places_after ≡ places ++ path ∷ [] → u ≡ called w (next_call w app arguments names) → IsIndexed u places_after (mains + 1)
submit-indexed v w u places places_after mains n app arguments names path view index adds after is =
    let c : Call = next_call w app arguments names in
    let table : places_after ≡ places ++ c.path ∷ [] = after ∙ ap (λ (p : Path). places ++ p ∷ []) adds.path_is in
    let behind = indexed-called w places mains c (subst (λ (u : Known). IsIndexed u places mains) view index) refl in
    subst (λ (u : Known). IsIndexed u places_after (mains + 1)) (sym is) (subst (λ (ps : List Path). IsIndexed (called w c) ps (mains + 1)) (sym table) behind)

-- a call whose units fit has few names
names_least : (names : List Text) → length names ≤ sum (map name_units names)
names_least [] = omega arith
names_least (name ∷ names) = let h = names_least names in let e = sum-cons name_units name names in omega arith

pub names-fit : (kept n : ℕ) (arguments : List Value) (names : List Text) → n ≡ min (call_units arguments names) (2 ^ 64 - 1) → n ≤ max_stored - kept → length names < 2 ^ 32
names-fit kept n arguments names is fits = small (length names) (sum (map units arguments)) (sum (map name_units names)) kept n (names_least names) is fits
  where
    small : (few a b kept n : ℕ) → few ≤ b → n ≡ min (a + b) (2 ^ 64 - 1) → n ≤ max_stored - kept → few < 2 ^ 32
    small few a b kept n less is fits = omega arith

-- ---- what leaves the steps

pub arrive-sound : (tree : Tree) (tasks : List Task) (steps : List MainStep) (arrived : Bool) (ending : Option Ending) (memo : MemoView) (log : List Entry) (refusal : Option Refusal) (told : List (List Settlement)) (running kept : ℕ)
    → IsSound (known_with tree tasks steps arrived ending memo log refusal told) tasks steps running kept
    → IsSound (known_with tree tasks steps true ending memo log refusal told) tasks steps running kept
arrive-sound tree tasks steps arrived ending memo log refusal told running kept sound =
    record { fact = fact-arrived (known_with tree tasks steps arrived ending memo log refusal told) sound.fact; over = sound.over; running = sound.running; units_are = sound.units_are }

pub end_main-sound : (w : Known) (tree : Tree) (tasks : List Task) (steps : List MainStep) (arrived : Bool) (ending : Option Ending) (memo : MemoView) (log : List Entry) (refusal : Option Refusal) (told : List (List Settlement)) (running kept : ℕ) (e : Ending)
    → IsSound (known_with tree tasks steps arrived ending memo log refusal told) tasks steps running kept → known_with tree tasks steps arrived ending memo log refusal told ≡ w
    → CanEndMain w e
    → IsSound (known_with tree tasks steps arrived (Some e) memo log refusal told) tasks steps running kept
end_main-sound w tree tasks steps arrived ending memo log refusal told running kept e sound view can =
    let u : Known = known_with tree tasks steps arrived ending memo log refusal told in
    record { fact = fact-main-ended u e sound.fact (subst (λ (w : Known). CanEndMain w e) (sym view) can); over = sound.over; running = sound.running; units_are = sound.units_are }
