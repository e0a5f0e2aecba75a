-- The run of a join's body, and the callback that ends the join, keep what joins a graph to the tasks of a run.
use Rattle.std.proofs.Common.{◌≡◌, ◌≢◌, inl, inr, ℕ, suc, ◌+◌, ◌<◌, Bool, not, List, [], ◌∷◌, ◌++◌, length, Option, Some, None, IsSome, get_or, set, refl, sym, ◌∙◌, ap, subst, arith, length-append, slice_get, Result}
use Rattle.std.proofs.lemmas.Bool.{cases_eq, cases_lt}
use Rattle.std.proofs.lemmas.List.{append_assoc, get_or_past, get_or-set_same, get_or-set_other, length-set}
use Rattle.flow_base.specs.declared.outcome.Exception.{Exception}
use Rattle.task_record.specs.declared.status.Status.TheVariants as status
use Rattle.task_record.specs.States.{is_settled}
use Rattle.dependency_graph.specs.declared.callback.CallbackKind.{CallbackKind}
use Rattle.dependency_graph.specs.declared.callback.CallbackKind.TheVariants as kind
use Rattle.dependency_graph.specs.CallbackViews.{CallbackView}
use Rattle.dependency_graph.specs.Callbacks.{AreBelow, IsExact, all_settled, if_settled}
use Rattle.dependency_graph.specs.Graphs.{AreThere, Graph, places_in, with_join, with_join_of, with_task}
use Rattle.dependency_graph.specs.Places.{place_in, AreDistinct}
use Rattle.flow_meaning.specs.Inputs.{Path, distinct, inputs}
use Rattle.flow_meaning.specs.Meaning.{Done}
use Rattle.body_requests.specs.Asks.{Each}
use Rattle.call_rules.specs.Calls.{Call, awaited, child}
use Rattle.call_rules.specs.Told.{IsChild}
use Rattle.call_rules.proofs.Plain.{each-map}
use Rattle.kernel_model.specs.Known.{Life, no_call, no_life}
use Rattle.agenda_model.specs.Agendas.{IsCurrent, IsCurrentAs, IsLeft, HasStatus, Ties, Waits, paths_at}
use Rattle.agenda_model.specs.Storing.{CanAddAll, with_tasks}
use Rattle.agenda_model.proofs.JoinCalls.{IsLong}
use Rattle.agenda_model.proofs.NewTasks.{Holds, left-after, left-before, next-left}
use Rattle.agenda_model.proofs.NumberLists.{get-cases, get-front, get-last}
use Rattle.agenda_model.proofs.PathPlaces.{are-there, distinct-apart, paths_of, place-here, place-more, place-new, places-back}

-- ---- callbacks wait for tasks that are there

-- a path that isn't empty is that of a call
pub long-below : (cs : List Call) (ns : List ℕ) → Each IsLong (paths_at cs ns) → AreBelow (length cs) ns
long-below cs [] h = tt
long-below cs (n ∷ ns) h = (
  elim (cases_lt n (length cs)) [
    | inl lt ↦ lt
    | inr ge ↦ let short : length (get_or cs n no_call).path ≡ 0 = ap (λ (c : Call). length c.path) (get_or_past cs n no_call (omega (arith, ge))) in let long = h.0 in absurd (omega (arith, short, long))
  ],
  long-below cs ns h.1,
)

current_below : (cs : List Call) (lives : List Life) → ((k : ℕ) → k < length cs → Each IsLong (inputs (get_or cs k no_call).arguments)) → ((k : ℕ) (result : Result Done Exception) → (get_or lives k no_life).ran ≡ Some result → Each IsLong (distinct (awaited result)))
    → (k : CallbackKind) (task : ℕ) (waits : List ℕ) → IsCurrentAs k cs lives task waits → AreBelow (length cs) waits
current_below cs lives of_calls of_joins kind.Launch task waits h = long-below cs waits (subst (Each IsLong) (sym h.inputs_are) (of_calls task h.within))
current_below cs lives of_calls of_joins kind.Join task waits h = long-below cs waits (subst (Each IsLong) (sym h.awaited_are) (of_joins task h.result h.ran))

pub holds-now : (g : Graph) (cs : List Call) (lives : List Life) (lacking : Option ℕ) → Ties g cs lives lacking → IsExact g.callbacks
    → ((k : ℕ) → k < length cs → Each IsLong (inputs (get_or cs k no_call).arguments)) → ((k : ℕ) (result : Result Done Exception) → (get_or lives k no_life).ran ≡ Some result → Each IsLong (distinct (awaited result)))
    → Holds g cs lives lacking
holds-now g cs lives lacking ties exact of_calls of_joins = record {
  ties = ties;
  waits = λ c view at left. current_below cs lives of_calls of_joins view.kind view.task view.inputs (ties.current c view at left).0;
  made = λ c h. (exact.only c h).there;
}

-- ---- the task of the join is written

current_put : (cs : List Call) (lives : List Life) (k : ℕ) (life : Life) (q : CallbackKind) (task : ℕ) (waits : List ℕ) → task ≢ k → IsCurrentAs q cs lives task waits → IsCurrentAs q cs (set lives k life) task waits
current_put cs lives k life kind.Launch task waits ne h = record {
  within = h.within;
  pending = ap (λ (l : Life). l.status) (get_or-set_other lives k task life no_life ne) ∙ h.pending;
  inputs_are = h.inputs_are;
}
current_put cs lives k life kind.Join task waits ne h = record {
  within = h.within;
  joining = ap (λ (l : Life). l.status) (get_or-set_other lives k task life no_life ne) ∙ h.joining;
  result = h.result;
  ran = ap (λ (l : Life). l.ran) (get_or-set_other lives k task life no_life ne) ∙ h.ran;
  awaited_are = h.awaited_are;
}

pub holds-put : (g : Graph) (cs : List Call) (lives : List Life) (k : ℕ) (life : Life) → Holds g cs lives (Some k) → k < length lives → is_settled life.status ≡ is_settled (get_or lives k no_life).status → Holds g cs (set lives k life) (Some k)
holds-put g cs lives k life h within same =
    let ties = h.ties in
    record {
      ties = record {
        paths_are = ties.paths_are;
        lived = length-set lives k life ∙ ties.lived;
        states = ties.states;
        opens = λ j lt. ties.opens j lt ∙ sym (elim (cases_eq j k) [
          | inl eq ↦ ap (λ (i : ℕ). not (is_settled (get_or (set lives k life) i no_life).status)) eq ∙ ap (λ (l : Life). not (is_settled l.status)) (get_or-set_same lives k life no_life within) ∙ ap not same ∙ ap (λ (i : ℕ). not (is_settled (get_or lives i no_life).status)) (sym eq)
          | inr ne ↦ ap (λ (l : Life). not (is_settled l.status)) (get_or-set_other lives k j life no_life ne)
        ]);
        current = λ c view at left. let was = ties.current c view at left in (current_put cs lives k life view.kind view.task view.inputs was.1 was.0, was.1);
        stored = λ j lt waits other. ties.stored j lt (subst (λ (l : Life). Waits l.status) (get_or-set_other lives k j life no_life other) waits) other;
        once = ties.once;
        given = ties.given;
      };
      waits = h.waits;
      made = h.made;
    }

-- ---- the callback that ends the join

module _ (g : Graph) (cs : List Call) (lives : List Life) (k : ℕ) (result : Result Done Exception) (h : Holds g cs lives (Some k)) where
  abbrev returned : List Path
  returned = distinct (awaited result)

  abbrev places : List ℕ
  places = places_in g.paths returned

  abbrev end_view : CallbackView
  end_view = record { kind = kind.Join; task = k; inputs = places }

  abbrev ready_now : Bool
  ready_now = all_settled g.callbacks.states places

  abbrev more : List ℕ
  more = if_settled ready_now (length g.callbacks.waits)

  -- the graph with it
  abbrev ended : Graph
  ended = record g { callbacks = with_join_of (Some k) places g.callbacks }

  before : (n : ℕ) → IsLeft ended.callbacks n → IsLeft g.callbacks n
  before n left = left-before g.callbacks more n h.ties.given left

  ties_ended : k < length cs → HasStatus lives status.Joining k → (get_or lives k no_life).ran ≡ Some result → AreThere g.paths returned → Ties ended cs lives None
  ties_ended within joining ran there =
      let ties = h.ties in
      let end_current : IsCurrent cs lives end_view = record {
        within = within;
        joining = joining;
        result = result;
        ran = ran;
        awaited_are = ap (λ (ps : List Path). paths_at cs (places_in ps returned)) ties.paths_are ∙ places-back cs returned (subst (λ (ps : List Path). AreThere ps returned) ties.paths_are there);
      } in
      record {
        paths_are = ties.paths_are;
        lived = ties.lived;
        states = ties.states;
        opens = ties.opens;
        current = λ n view at left. elim (get-cases g.callbacks.waits end_view view n at) [
          | inl old ↦ ((ties.current n view old (before n left)).0, λ l. l)
          | inr new ↦ (subst (λ (v : CallbackView). IsCurrent cs lives v) (sym new.is) end_current, λ l. l)
        ];
        stored = λ j lt waiting other. elim (cases_eq j k) [
          | inl eq ↦ record {
            number = length g.callbacks.waits;
            view = end_view;
            there = get-last g.callbacks.waits end_view;
            task_is = sym eq;
            left = next-left g.callbacks more ties.given h.made;
          }
          | inr ne ↦ let was = ties.stored j lt waiting ne in
              record { number = was.number; view = was.view; there = get-front g.callbacks.waits end_view was.view was.number was.there; task_is = was.task_is; left = left-after g.callbacks more was.number ties.given was.left }
        ];
        once = λ i j x y at also left left_too same. elim (get-cases g.callbacks.waits end_view x i at) [
          | inl old ↦ elim (get-cases g.callbacks.waits end_view y j also) [
            | inl old_too ↦ ties.once i j x y old old_too (before i left) (before j left_too) same
            | inr new ↦ absurd ((ties.current i x old (before i left)).1 (same ∙ ap (λ (v : CallbackView). v.task) new.is))
          ]
          | inr new ↦ elim (get-cases g.callbacks.waits end_view y j also) [
            | inl old_too ↦ absurd ((ties.current j y old_too (before j left_too)).1 (sym same ∙ ap (λ (v : CallbackView). v.task) new.is))
            | inr new_too ↦ new.at ∙ sym new_too.at
          ]
        ];
        given = let few = ties.given in let longer = length-append g.callbacks.made more in omega (arith, few, longer);
      }

  pub ties-ended : (path : Path) → place_in g.paths path ≡ Some k → k < length cs → HasStatus lives status.Joining k → (get_or lives k no_life).ran ≡ Some result → AreThere g.paths returned → Ties (with_join path returned g) cs lives None
  ties-ended path is within joining ran there = subst (λ (place : Option ℕ). Ties (record g { callbacks = with_join_of place places g.callbacks }) cs lives None) (sym is) (ties_ended within joining ran there)

-- ---- the calls of the join may be added

pub tasks-paths : (cs : List Call) (g : Graph) → (with_tasks cs g).paths ≡ g.paths ++ paths_of cs
tasks-paths [] g = sym (append-nil g.paths)
  where
    append-nil : (ps : List Path) → ps ++ [] ≡ ps
    append-nil [] = refl
    append-nil (p ∷ ps) = ap (λ (qs : List Path). p ∷ qs) (append-nil ps)
tasks-paths (c ∷ cs) g = tasks-paths cs (with_task c.path (inputs c.arguments) g) ∙ append_assoc g.paths (c.path ∷ []) (paths_of cs)

-- the first calls of this caller are there
abbrev pub Children : List Path → Path → ℕ → Type 0
Children paths caller n = (j : ℕ) → j < n → IsSome (place_in paths (child caller j))

pub children-there : (paths : List Path) (caller : Path) (n : ℕ) (ps : List Path) → Children paths caller n → Each (IsChild caller n) ps → AreThere paths ps
children-there paths caller n ps first h = are-there paths ps (each-map (IsChild caller n) (λ (p : Path). IsSome (place_in paths p)) (λ p of. subst (λ (q : Path). IsSome (place_in paths q)) (sym of.is) (first of.number of.below)) ps h)

children_more : (paths : List Path) (caller : Path) (n : ℕ) (p : Path) → p ≡ child caller n → Children paths caller n → Children (paths ++ p ∷ []) caller (suc n)
children_more paths caller n p is first j lt = elim (cases_eq j n) [
  | inl eq ↦ subst (λ (q : Path). IsSome (place_in (paths ++ p ∷ []) q)) (is ∙ ap (child caller) (sym eq)) (place-here paths p)
  | inr ne ↦ place-more paths (child caller j) p (first j (omega (arith, lt, ne)))
]

-- each of these calls is the next one of this caller
abbrev pub Follow : Path → ℕ → List Call → Type 0
Follow caller n cs = (i : ℕ) (c : Call) → slice_get cs i ≡ Some c → c.path ≡ child caller (n + i)

abbrev pub WaitBefore : Path → ℕ → List Call → Type 0
WaitBefore caller n cs = (i : ℕ) (c : Call) → slice_get cs i ≡ Some c → Each (IsChild caller (n + i)) (inputs c.arguments)

first_is : (n : ℕ) → n + 0 ≡ n
first_is n = omega arith

next_is : (n i : ℕ) → n + suc i ≡ suc n + i
next_is n i = omega arith

follow_next : (caller : Path) (n : ℕ) (c : Call) (cs : List Call) → Follow caller n (c ∷ cs) → Follow caller (suc n) cs
follow_next caller n c cs follow i d at = follow (suc i) d at ∙ ap (child caller) (next_is n i)

pub children-all : (caller : Path) (n : ℕ) (cs : List Call) (g : Graph) → Follow caller n cs → Children g.paths caller n → Children (with_tasks cs g).paths caller (n + length cs)
children-all caller n [] g follow first j lt = first j (omega (arith, lt))
children-all caller n (c ∷ cs) g follow first j lt =
    let here : c.path ≡ child caller n = follow 0 c refl ∙ ap (child caller) (first_is n) in
    children-all caller (suc n) cs (with_task c.path (inputs c.arguments) g) (follow_next caller n c cs follow) (children_more g.paths caller n c.path here first) j (omega (arith, lt))

pub can-add-all : (caller : Path) (n : ℕ) (cs : List Call) (g : Graph) → Follow caller n cs → WaitBefore caller n cs → Children g.paths caller n → AreDistinct (g.paths ++ paths_of cs) → CanAddAll g cs
unfolding inputs
can-add-all caller n [] g follow waits first apart = tt
can-add-all caller n (c ∷ cs) g follow waits first apart =
    let here : c.path ≡ child caller n = follow 0 c refl ∙ ap (child caller) (first_is n) in (
      record {
        new = place-new g.paths c.path (paths_of cs) apart;
        there = children-there g.paths caller n (inputs c.arguments) first (subst (λ (m : ℕ). Each (IsChild caller m) (inputs c.arguments)) (first_is n) (waits 0 c refl));
        distinct = distinct-apart _;
      },
      can-add-all caller (suc n) cs (with_task c.path (inputs c.arguments) g) (follow_next caller n c cs follow)
          (λ i d at. subst (λ (m : ℕ). Each (IsChild caller m) (inputs d.arguments)) (next_is n i) (waits (suc i) d at))
          (children_more g.paths caller n c.path here first)
          (subst AreDistinct (sym (append_assoc g.paths (c.path ∷ []) (paths_of cs))) apart),
    )
