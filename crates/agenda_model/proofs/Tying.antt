-- What joins a graph to the tasks, through a write to one task.
use Rattle.std.proofs.Common.{◌≡◌, ◌≢◌, inl, inr, ℕ, zero, suc, ◌<◌, ◌≤◌, true, false, not, List, [], ◌∷◌, ◌++◌, length, map, get_or, set, take, Option, Some, None, slice_get, refl, sym, ◌∙◌, ap, subst, arith, length-append}
use Rattle.std.proofs.lemmas.Bool.{cases_eq}
use Rattle.std.proofs.lemmas.List.{length-set, length-map, get_or-set_same, get_or-set_other, get_or-map}
use Rattle.std.proofs.lemmas.Option.{slice_get_within, slice_get-get_or, get_or_from_slice_get}
use Rattle.flow_base.specs.declared.outcome.Outcome.{Outcome}
use Rattle.flow_base.specs.declared.outcome.Outcome.TheVariants as o
use Rattle.flow_base.specs.declared.outcome.Exception.TheVariants as x
use Rattle.task_record.specs.declared.status.Status.{Status}
use Rattle.task_record.specs.declared.status.Status.TheVariants as status
use Rattle.task_record.specs.States.{is_settled}
use Rattle.dependency_graph.specs.declared.callback.FutureState.{FutureState}
use Rattle.dependency_graph.specs.declared.callback.FutureState.TheVariants as state
use Rattle.dependency_graph.specs.declared.callback.CallbackKind.{CallbackKind}
use Rattle.dependency_graph.specs.declared.callback.CallbackKind.TheVariants as kind
use Rattle.dependency_graph.specs.declared.monitor.Settlement.{Settlement}
use Rattle.dependency_graph.specs.CallbackViews.{CallbackView}
use Rattle.dependency_graph.specs.Callbacks.{is_open, state_in, has_number, made_ready_by, with_state}
use Rattle.dependency_graph.specs.Graphs.{Graph, IsOpenTask, with_settlement, with_state_of}
use Rattle.dependency_graph.specs.Monitors.{tell}
use Rattle.dependency_graph.specs.OutcomeStates.{state_of}
use Rattle.dependency_graph.specs.Places.{place_in, AreDistinct}
use Rattle.dependency_graph.proofs.Places.{distinct-places, place-of}
use Rattle.flow_meaning.specs.Inputs.{Path}
use Rattle.call_rules.specs.Calls.{Call}
use Rattle.history_laws.specs.Tables.{status_of}
use Rattle.kernel_model.specs.Known.{Life, no_call, no_life}
use Rattle.kernel_model.proofs.Places.{Distinct}
use Rattle.agenda_model.specs.Agendas.{IsLeft, IsCurrentAs, Waits, Lacks, Ties}
use Rattle.agenda_model.proofs.Queues.{status-here, status-other}

-- ---- the place of a task

abbrev pub paths_of : List Call → List Path
paths_of cs = map (λ (c : Call). c.path) cs

path_here : (cs : List Call) (k : ℕ) (p : Path) → slice_get (paths_of cs) k ≡ Some p → (k < length cs) × ((get_or cs k no_call).path ≡ p)
path_here cs k p at =
    let long = length-map cs (λ (c : Call). c.path) in
    let short = slice_get_within (paths_of cs) k p at in
    let within : k < length cs = omega (arith, long, short) in
    (within, sym (get_or-map (λ (c : Call). c.path) cs k no_call [] within) ∙ get_or_from_slice_get (paths_of cs) k p [] at)

paths-distinct : (cs : List Call) → Distinct cs → AreDistinct (paths_of cs)
paths-distinct cs distinct = distinct-places (paths_of cs) (λ i j p first second. (let a = path_here cs i p first in let b = path_here cs j p second in distinct i j a.0 b.0 (a.1 ∙ sym b.1)))

pub place-at : (g : Graph) (cs : List Call) (k : ℕ) → Distinct cs → g.paths ≡ paths_of cs → k < length cs → place_in g.paths (get_or cs k no_call).path ≡ Some k
place-at g cs k distinct are within =
    let long = length-map cs (λ (c : Call). c.path) in
    ap (λ (ps : List Path). place_in ps (get_or cs k no_call).path) are
    ∙ place-of (paths_of cs) k (get_or cs k no_call).path (paths-distinct cs distinct) (slice_get-get_or (paths_of cs) k [] (omega (arith, long, within)) ∙ ap Some (get_or-map (λ (c : Call). c.path) cs k no_call [] within))

-- an unsettled task is open
pub ties-opened : (g : Graph) (cs : List Call) (lives : List Life) (lacking : Option ℕ) (k : ℕ) → Distinct cs → Ties g cs lives lacking → k < length cs → is_settled (get_or lives k no_life).status ≡ false → IsOpenTask g (get_or cs k no_call).path
ties-opened g cs lives lacking k distinct ties within unsettled = record {
  task = k;
  is = place-at g cs k distinct ties.paths_are within;
  opened = ties.opens k within ∙ ap not unsettled;
}

-- ---- a write to one task

current_other : (kd : CallbackKind) (cs : List Call) (lives : List Life) (k j : ℕ) (life : Life) (waits : List ℕ) → j ≢ k → IsCurrentAs kd cs lives j waits → IsCurrentAs kd cs (set lives k life) j waits
current_other kind.Launch cs lives k j life waits ne h = record { within = h.within; pending = status-other lives k j life ne ∙ h.pending; inputs_are = h.inputs_are }
current_other kind.Join cs lives k j life waits ne h = record {
  within = h.within;
  joining = status-other lives k j life ne ∙ h.joining;
  result = h.result;
  ran = ap (λ (l : Life). l.ran) (get_or-set_other lives k j life no_life ne) ∙ h.ran;
  awaited_are = h.awaited_are;
}

-- no callback of the task is left
abbrev pub IsFree : Graph → ℕ → Type 0
IsFree g k = (c : ℕ) (view : CallbackView) → slice_get g.callbacks.waits c ≡ Some view → IsLeft g.callbacks c → view.task ≢ k

-- the callbacks are the same, and so are those that were given
pub record HasSame (g h : Graph) : Type 0 where
  pub paths : h.paths ≡ g.paths
  pub waits : h.callbacks.waits ≡ g.callbacks.waits
  pub given : take h.callbacks.given h.callbacks.made ≡ take g.callbacks.given g.callbacks.made
  pub states : length h.callbacks.states ≡ length g.callbacks.states
  pub within : h.callbacks.given ≤ length h.callbacks.made

-- the graph opens exactly the tasks that aren't settled
abbrev pub Opens : Graph → List Call → List Life → Type 0
Opens g cs lives = (j : ℕ) → j < length cs → is_open (state_in g.callbacks.states j) ≡ not (is_settled (get_or lives j no_life).status)

-- a task without a callback goes to a state in which it waits for none
pub ties-put : (g h : Graph) (cs : List Call) (lives : List Life) (lacking : Option ℕ) (k : ℕ) (life : Life) → Ties g cs lives lacking → k < length cs → HasSame g h → Opens h cs (set lives k life)
    → ((j : ℕ) → Lacks lacking j → j ≡ k) → IsFree g k → (Waits life.status → ⊥) → Ties h cs (set lives k life) None
ties-put g h cs lives lacking k life ties within same opens only free idle =
    let lived = ties.lived in
    let below : k < length lives = omega (arith, within, lived) in
    let there : (c : ℕ) (view : CallbackView) → slice_get h.callbacks.waits c ≡ Some view → slice_get g.callbacks.waits c ≡ Some view = λ c view at. ap (λ (ws : List CallbackView). slice_get ws c) (sym same.waits) ∙ at in
    let left : (c : ℕ) → IsLeft h.callbacks c → IsLeft g.callbacks c = λ c l. ap (has_number c) (sym same.given) ∙ l in
    record {
      paths_are = same.paths ∙ ties.paths_are;
      lived = length-set lives k life ∙ ties.lived;
      states = same.states ∙ ties.states;
      opens = opens;
      current = λ c view at l. (current_other view.kind cs lives k view.task life view.inputs (free c view (there c view at) (left c l)) (ties.current c view (there c view at) (left c l)).0, λ bad. bad);
      stored = λ j lt waits lacks. elim (cases_eq j k) [
        | inl e ↦ absurd (idle (subst Waits (ap (λ (i : ℕ). (get_or (set lives k life) i no_life).status) e ∙ status-here lives k life below) waits))
        | inr ne ↦
            let s = ties.stored j lt (subst Waits (status-other lives k j life ne) waits) (λ l. ne (only j l)) in
            record { number = s.number; view = s.view; there = ap (λ (ws : List CallbackView). slice_get ws s.number) same.waits ∙ s.there; task_is = s.task_is; left = ap (has_number s.number) same.given ∙ s.left }
      ];
      once = λ c d x y first second l m e. ties.once c d x y (there c x first) (there d y second) (left c l) (left d m) e;
      given = same.within;
    }

-- a task that doesn't wait has no callback
pub free-status : (g : Graph) (cs : List Call) (lives : List Life) (lacking : Option ℕ) (k : ℕ) → Ties g cs lives lacking → (Waits (get_or lives k no_life).status → ⊥) → IsFree g k
free-status g cs lives lacking k ties idle c view at left same = by_kind view.kind (ties.current c view at left).0
  where
    waits_as : (s : Status) → (get_or lives view.task no_life).status ≡ s → Waits s → Waits (get_or lives k no_life).status
    waits_as s is waits = subst Waits (sym is ∙ ap (λ (j : ℕ). (get_or lives j no_life).status) same) waits

    by_kind : (kd : CallbackKind) → IsCurrentAs kd cs lives view.task view.inputs → ⊥
    by_kind kind.Launch h = idle (waits_as status.Pending h.pending tt)
    by_kind kind.Join h = idle (waits_as status.Joining h.joining tt)

-- nor has one that lacks it
pub free-lacking : (g : Graph) (cs : List Call) (lives : List Life) (k : ℕ) → Ties g cs lives (Some k) → IsFree g k
free-lacking g cs lives k ties c view at left = (ties.current c view at left).1

-- ---- the same graph

pub same-graph : (g : Graph) → g.callbacks.given ≤ length g.callbacks.made → HasSame g g
same-graph g h = record { paths = refl; waits = refl; given = refl; states = refl; within = h }

pub opens-kept : (g : Graph) (cs : List Call) (lives : List Life) (k : ℕ) (life : Life) → k < length lives → Opens g cs lives → is_settled life.status ≡ is_settled (get_or lives k no_life).status → Opens g cs (set lives k life)
opens-kept g cs lives k life below opens same j lt = elim (cases_eq j k) [
  | inl e ↦ opens j lt ∙ ap not (ap (λ (i : ℕ). is_settled (get_or lives i no_life).status) e ∙ sym same ∙ sym (ap is_settled (ap (λ (i : ℕ). (get_or (set lives k life) i no_life).status) e ∙ status-here lives k life below)))
  | inr ne ↦ opens j lt ∙ ap (λ (s : Status). not (is_settled s)) (sym (status-other lives k j life ne))
]

-- ---- a settlement

pub status-settled : (outcome : Outcome) → is_settled (status_of outcome) ≡ true
status-settled (o.Value value files) = refl
status-settled (o.Failed (x.DependencyError paths)) = refl
status-settled (o.Failed exception) = refl

pub state-closed : (outcome : Outcome) → is_open (state_of outcome) ≡ false
state-closed (o.Value value files) = refl
state-closed (o.Failed exception) = refl

pub settled-idle : (s : Status) → is_settled s ≡ true → Waits s → ⊥
settled-idle status.Pending h waits = absurd (cc)
settled-idle status.Joining h waits = absurd (cc)
settled-idle status.Unsched h waits = waits
settled-idle status.Launched h waits = waits
settled-idle status.Running h waits = waits
settled-idle status.RunningEnded h waits = waits
settled-idle status.ExecDone h waits = waits
settled-idle status.MemoDone h waits = waits
settled-idle status.Failed h waits = waits
settled-idle status.DepFail h waits = waits
settled-idle status.FailRetryable h waits = waits

take-front : (xs ys : List ℕ) (i : ℕ) → i ≤ length xs → take i (xs ++ ys) ≡ take i xs
take-front xs ys zero h = refl
take-front [] ys (suc i) h = absurd (omega (arith, h))
take-front (x ∷ xs) ys (suc i) h = ap (λ (l : List ℕ). x ∷ l) (take-front xs ys i (omega (arith, h)))

abbrev settled_graph : Graph → ℕ → FutureState → List (List Settlement) → Graph
settled_graph g k s told = record g { callbacks = with_state k s g.callbacks; told = told }

same-settled : (g : Graph) (k : ℕ) (s : FutureState) (told : List (List Settlement)) → g.callbacks.given ≤ length g.callbacks.made → HasSame g (settled_graph g k s told)
same-settled g k s told h =
    let more = made_ready_by (set g.callbacks.states k s) g.callbacks.waits k in
    let longer = length-append g.callbacks.made more in
    record { paths = refl; waits = refl; given = take-front g.callbacks.made more g.callbacks.given h; states = length-set g.callbacks.states k s; within = omega (arith, h, longer) }

opens-settled : (g : Graph) (cs : List Call) (lives : List Life) (k : ℕ) (life : Life) (s : FutureState) (told : List (List Settlement)) → k < length lives → k < length g.callbacks.states → Opens g cs lives → is_settled life.status ≡ true → is_open s ≡ false → Opens (settled_graph g k s told) cs (set lives k life)
opens-settled g cs lives k life s told below there opens settles closes j lt = elim (cases_eq j k) [
  | inl e ↦
      ap (λ (i : ℕ). is_open (state_in (set g.callbacks.states k s) i)) e ∙ ap is_open (get_or-set_same g.callbacks.states k s state.Failed there) ∙ closes
      ∙ sym (ap (λ (i : ℕ). not (is_settled (get_or (set lives k life) i no_life).status)) e ∙ ap (λ (t : Status). not (is_settled t)) (status-here lives k life below) ∙ ap not settles)
  | inr ne ↦ ap is_open (get_or-set_other g.callbacks.states k j s state.Failed ne) ∙ opens j lt ∙ ap (λ (t : Status). not (is_settled t)) (sym (status-other lives k j life ne))
]

-- a task without a callback settles
pub ties-settled : (g : Graph) (cs : List Call) (lives : List Life) (lacking : Option ℕ) (k : ℕ) (life : Life) (s : Settlement) → Distinct cs → Ties g cs lives lacking → k < length cs → s.path ≡ (get_or cs k no_call).path → is_settled life.status ≡ true
    → ((j : ℕ) → Lacks lacking j → j ≡ k) → IsFree g k → Ties (with_settlement s g) cs (set lives k life) None
ties-settled g cs lives lacking k life s distinct ties within path settles only free =
    let lived = ties.lived in
    let states = ties.states in
    let below : k < length lives = omega (arith, within, lived) in
    let there : k < length g.callbacks.states = omega (arith, within, states) in
    let place : place_in g.paths s.path ≡ Some k = ap (place_in g.paths) path ∙ place-at g cs k distinct ties.paths_are within in
    let is : with_settlement s g ≡ settled_graph g k (state_of s.outcome) (tell s g.told) = ap (λ (at : Option ℕ). record g { callbacks = with_state_of at (state_of s.outcome) g.callbacks; told = tell s g.told }) place in
    subst (λ (h : Graph). Ties h cs (set lives k life) None) (sym is)
    (ties-put g (settled_graph g k (state_of s.outcome) (tell s g.told)) cs lives lacking k life ties within
    (same-settled g k (state_of s.outcome) (tell s g.told) ties.given)
    (opens-settled g cs lives k life (state_of s.outcome) (tell s g.told) below there ties.opens settles (state-closed s.outcome))
    only free (settled-idle life.status settles))

-- the graph stays, where the task is as settled as before
pub ties-kept : (g : Graph) (cs : List Call) (lives : List Life) (lacking : Option ℕ) (k : ℕ) (life : Life) → Ties g cs lives lacking → k < length cs → is_settled life.status ≡ is_settled (get_or lives k no_life).status
    → ((j : ℕ) → Lacks lacking j → j ≡ k) → IsFree g k → (Waits life.status → ⊥) → Ties g cs (set lives k life) None
ties-kept g cs lives lacking k life ties within same only free idle =
    let lived = ties.lived in
    ties-put g g cs lives lacking k life ties within (same-graph g ties.given) (opens-kept g cs lives k life (omega (arith, within, lived)) ties.opens same) only free idle
