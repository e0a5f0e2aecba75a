-- A new task with its launch keeps what joins a graph to the tasks of a run.
use Rattle.std.proofs.Common.{◌≡◌, inl, inr, ℕ, suc, ◌<◌, ◌≤◌, Bool, true, false, not, List, [], ◌∷◌, ◌++◌, length, map, take, Option, Some, refl, sym, ◌∙◌, ap, subst, arith, length-append, slice_get}
use Rattle.std.proofs.lemmas.Bool.{cases_lt}
use Rattle.std.proofs.lemmas.List.{map-append, get_or_append_left, get_or_push}
use Rattle.task_record.specs.States.{is_settled}
use Rattle.dependency_graph.specs.declared.callback.CallbackKind.{CallbackKind}
use Rattle.dependency_graph.specs.declared.callback.CallbackKind.TheVariants as kind
use Rattle.dependency_graph.specs.declared.callback.FutureState.{FutureState}
use Rattle.dependency_graph.specs.declared.callback.FutureState.TheVariants as state
use Rattle.dependency_graph.specs.CallbackViews.{CallbackView}
use Rattle.dependency_graph.specs.Callbacks.{Callbacks, AreBelow, all_settled, has_number, if_settled, is_open, state_in}
use Rattle.dependency_graph.specs.Graphs.{Graph, AreThere, places_in, with_task}
use Rattle.dependency_graph.proofs.GraphPlaces.{places-below}
use Rattle.dependency_graph.proofs.Numbers.{below-longer, has-either, has-single, is-false}
use Rattle.flow_meaning.specs.Inputs.{Path, inputs}
use Rattle.call_rules.specs.Calls.{Call}
use Rattle.kernel_model.specs.Acts.{pending, submitted, all_submitted}
use Rattle.kernel_model.specs.Known.{Known, Life, no_call, no_life}
use Rattle.kernel_model.proofs.Places.{length-pushed}
use Rattle.agenda_model.specs.Agendas.{IsCurrent, IsCurrentAs, IsLeft, Lacks, Ties, Waits, paths_at}
use Rattle.agenda_model.specs.Storing.{CanAddAll, with_tasks}
use Rattle.agenda_model.proofs.NumberLists.{take-front, take-has, get-front, get-last, get-cases}
use Rattle.agenda_model.proofs.PathPlaces.{places-back}

-- the graph has the tasks; callbacks wait for tasks that are there, and those that became ready were stored
pub record Holds (g : Graph) (cs : List Call) (lives : List Life) (lacking : Option ℕ) : Type 0 where
  pub ties : Ties g cs lives lacking
  pub waits : (c : ℕ) (view : CallbackView) → slice_get g.callbacks.waits c ≡ Some view → IsLeft g.callbacks c → AreBelow (length cs) view.inputs
  pub made : (c : ℕ) → has_number c g.callbacks.made ≡ true → c < length g.callbacks.waits

-- ---- one more callback

-- what is left of callbacks to which more is made ready
pub left-before : (g : Callbacks) (more : List ℕ) (c : ℕ) → g.given ≤ length g.made → has_number c (take g.given (g.made ++ more)) ≡ false → IsLeft g c
left-before g more c few left = ap (has_number c) (sym (take-front g.made more g.given few)) ∙ left

pub left-after : (g : Callbacks) (more : List ℕ) (c : ℕ) → g.given ≤ length g.made → IsLeft g c → has_number c (take g.given (g.made ++ more)) ≡ false
left-after g more c few left = ap (has_number c) (take-front g.made more g.given few) ∙ left

-- the next callback was not given
pub next-left : (g : Callbacks) (more : List ℕ) → g.given ≤ length g.made → ((c : ℕ) → has_number c g.made ≡ true → c < length g.waits) → has_number (length g.waits) (take g.given (g.made ++ more)) ≡ false
next-left g more few made = left-after g more (length g.waits) few (is-false (has_number (length g.waits) (take g.given g.made)) (λ h. let bad = made (length g.waits) (take-has (length g.waits) g.given g.made h) in absurd (omega (arith, bad))))

-- those that became ready were stored, with this one too
pub made-more : (g : Callbacks) (view : CallbackView) (now : Bool) → ((c : ℕ) → has_number c g.made ≡ true → c < length g.waits) → (c : ℕ) → has_number c (g.made ++ if_settled now (length g.waits)) ≡ true → c < length (g.waits ++ view ∷ [])
made-more g view now made c h =
    let longer = length-append g.waits (view ∷ []) in
    elim (has-either c g.made (if_settled now (length g.waits)) h) [
      | inl old ↦ let lt = made c old in omega (arith, lt, longer)
      | inr new ↦ let same = (has-single c (length g.waits) now new).1 in omega (arith, same, longer)
    ]

-- ---- one more task

-- paths of tasks that were there
pub paths-more : (cs : List Call) (c : Call) (ns : List ℕ) → AreBelow (length cs) ns → paths_at (cs ++ c ∷ []) ns ≡ paths_at cs ns
paths-more cs c [] h = refl
paths-more cs c (n ∷ ns) h = rw (get_or_append_left cs (c ∷ []) no_call n h.0, paths-more cs c ns h.1) refl

current-more : (cs : List Call) (lives : List Life) (c : Call) (k : CallbackKind) (task : ℕ) (waits : List ℕ) → length lives ≡ length cs → AreBelow (length cs) waits → IsCurrentAs k cs lives task waits → IsCurrentAs k (cs ++ c ∷ []) (lives ++ pending ∷ []) task waits
current-more cs lives c kind.Launch task waits lived below h =
    let within = h.within in
    record {
      within = let longer = length-pushed cs c in omega (arith, within, longer);
      pending = ap (λ (l : Life). l.status) (get_or_append_left lives (pending ∷ []) no_life task (omega (arith, within, lived))) ∙ h.pending;
      inputs_are = paths-more cs c waits below ∙ h.inputs_are ∙ ap (λ (d : Call). inputs d.arguments) (sym (get_or_append_left cs (c ∷ []) no_call task within));
    }
current-more cs lives c kind.Join task waits lived below h =
    let within = h.within in
    let same = get_or_append_left lives (pending ∷ []) no_life task (omega (arith, within, lived)) in
    record {
      within = let longer = length-pushed cs c in omega (arith, within, longer);
      joining = ap (λ (l : Life). l.status) same ∙ h.joining;
      result = h.result;
      ran = ap (λ (l : Life). l.ran) same ∙ h.ran;
      awaited_are = paths-more cs c waits below ∙ h.awaited_are;
    }

-- a callback that is current is one of a task that is there
current_within : (cs : List Call) (lives : List Life) (k : CallbackKind) (task : ℕ) (waits : List ℕ) → IsCurrentAs k cs lives task waits → task < length cs
current_within cs lives kind.Launch task waits h = h.within
current_within cs lives kind.Join task waits h = h.within

pub current-within : (cs : List Call) (lives : List Life) (view : CallbackView) → IsCurrent cs lives view → view.task < length cs
current-within cs lives view h = current_within cs lives view.kind view.task view.inputs h

module _ (g : Graph) (cs : List Call) (lives : List Life) (lacking : Option ℕ) (c : Call) (h : Holds g cs lives lacking) (there : AreThere g.paths (inputs c.arguments)) (none : Lacks lacking (length cs) → ⊥) where
  abbrev after : Graph
  after = with_task c.path (inputs c.arguments) g

  abbrev calls : List Call
  calls = cs ++ c ∷ []

  abbrev lives_after : List Life
  lives_after = lives ++ pending ∷ []

  abbrev places : List ℕ
  places = places_in g.paths (inputs c.arguments)

  abbrev new_view : CallbackView
  new_view = record { kind = kind.Launch; task = length g.callbacks.states; inputs = places }

  abbrev ready_now : Bool
  ready_now = all_settled (g.callbacks.states ++ state.Open ∷ []) places

  abbrev more : List ℕ
  more = if_settled ready_now (length g.callbacks.waits)

  number_is : length g.callbacks.states ≡ length cs
  number_is = h.ties.states

  below : AreBelow (length cs) places
  below = subst (λ (n : ℕ). AreBelow n places) (ap length h.ties.paths_are ∙ count cs) (places-below g.paths (inputs c.arguments))
    where
      count : (ds : List Call) → length (map (λ (d : Call). d.path) ds) ≡ length ds
      count [] = refl
      count (d ∷ ds) = ap suc (count ds)

  new_current : IsCurrent calls lives_after new_view
  new_current = record {
    within = let longer = length-pushed cs c in let same = number_is in omega (arith, longer, same);
    pending = ap (λ (l : Life). l.status) (get_or_push lives pending no_life (length g.callbacks.states) (h.ties.lived ∙ sym number_is));
    inputs_are = paths-more cs c places below
        ∙ ap (λ (ps : List Path). paths_at cs (places_in ps (inputs c.arguments))) h.ties.paths_are
        ∙ places-back cs (inputs c.arguments) (subst (λ (ps : List Path). AreThere ps (inputs c.arguments)) h.ties.paths_are there)
        ∙ ap (λ (d : Call). inputs d.arguments) (sym (get_or_push cs c no_call (length g.callbacks.states) (sym number_is)));
  }

  before : (n : ℕ) → IsLeft after.callbacks n → IsLeft g.callbacks n
  before n left = left-before g.callbacks more n h.ties.given left

  state_here : (ss : List FutureState) (s : FutureState) (n : ℕ) → n ≡ length ss → state_in (ss ++ s ∷ []) n ≡ s
  state_here ss s n e = get_or_push ss s state.Failed n (sym e)

  pub ties-pushed : Ties after calls lives_after lacking
  ties-pushed =
      let ties = h.ties in
      let longer = length-pushed cs c in
      let lived = ties.lived in
      let counted = ties.states in
      record {
        paths_are = ap (λ (ps : List Path). ps ++ c.path ∷ []) ties.paths_are ∙ sym (map-append (λ (d : Call). d.path) cs (c ∷ []));
        lived = let more_lives = length-pushed lives pending in omega (arith, longer, more_lives, lived);
        states = let more_states = length-pushed g.callbacks.states state.Open in omega (arith, longer, more_states, counted);
        opens = λ k within. elim (cases_lt k (length cs)) [
          | inl lt ↦ ap is_open (get_or_append_left g.callbacks.states (state.Open ∷ []) state.Failed k (omega (arith, lt, counted))) ∙ ties.opens k lt
              ∙ ap (λ (l : Life). not (is_settled l.status)) (sym (get_or_append_left lives (pending ∷ []) no_life k (omega (arith, lt, lived))))
          | inr ge ↦ let same : k ≡ length cs = omega (arith, within, longer, ge) in
              ap is_open (state_here g.callbacks.states state.Open k (same ∙ sym counted)) ∙ ap (λ (l : Life). not (is_settled l.status)) (sym (get_or_push lives pending no_life k (lived ∙ sym same)))
        ];
        current = λ n view at left. elim (get-cases g.callbacks.waits new_view view n at) [
          | inl old ↦ let was = ties.current n view old (before n left) in
              (current-more cs lives c view.kind view.task view.inputs lived (h.waits n view old (before n left)) was.0, was.1)
          | inr new ↦ (subst (λ (v : CallbackView). IsCurrent calls lives_after v) (sym new.is) new_current, λ l. none (subst (Lacks lacking) (ap (λ (v : CallbackView). v.task) new.is ∙ counted) l))
        ];
        stored = λ k within waiting given_to. elim (cases_lt k (length cs)) [
          | inl lt ↦ let was = ties.stored k lt (subst (λ (l : Life). Waits l.status) (get_or_append_left lives (pending ∷ []) no_life k (omega (arith, lt, lived))) waiting) given_to in
              record { number = was.number; view = was.view; there = get-front g.callbacks.waits new_view was.view was.number was.there; task_is = was.task_is; left = left-after g.callbacks more was.number ties.given was.left }
          | inr ge ↦ record {
            number = length g.callbacks.waits;
            view = new_view;
            there = get-last g.callbacks.waits new_view;
            task_is = omega (arith, within, longer, ge, counted);
            left = next-left g.callbacks more ties.given h.made;
          }
        ];
        once = λ i j x y at also left left_too same. elim (get-cases g.callbacks.waits new_view x i at) [
          | inl old ↦ elim (get-cases g.callbacks.waits new_view y j also) [
            | inl old_too ↦ ties.once i j x y old old_too (before i left) (before j left_too) same
            | inr new ↦ let lt = current-within cs lives x (ties.current i x old (before i left)).0 in let task : y.task ≡ length g.callbacks.states = ap (λ (v : CallbackView). v.task) new.is in absurd (omega (arith, lt, task, same, counted))
          ]
          | inr new ↦ elim (get-cases g.callbacks.waits new_view y j also) [
            | inl old_too ↦ let lt = current-within cs lives y (ties.current j y old_too (before j left_too)).0 in let task : x.task ≡ length g.callbacks.states = ap (λ (v : CallbackView). v.task) new.is in absurd (omega (arith, lt, task, same, counted))
            | inr new_too ↦ new.at ∙ sym new_too.at
          ]
        ];
        given = let few = ties.given in let longer_made = length-append g.callbacks.made more in omega (arith, few, longer_made);
      }

  pub holds-pushed : Holds after calls lives_after lacking
  holds-pushed = record {
    ties = ties-pushed;
    waits = λ n view at left. elim (get-cases g.callbacks.waits new_view view n at) [
      | inl old ↦ below-longer (length cs) (length calls) view.inputs (let longer = length-pushed cs c in omega (arith, longer)) (h.waits n view old (before n left))
      | inr new ↦ below-longer (length cs) (length calls) view.inputs (let longer = length-pushed cs c in omega (arith, longer)) (subst (λ (v : CallbackView). AreBelow (length cs) v.inputs) (sym new.is) below)
    ];
    made = made-more g.callbacks new_view ready_now h.made;
  }

-- ---- tasks one after another

pub holds-all : (g : Graph) (w : Known) (lacking : Option ℕ) (cs : List Call) → Holds g w.calls w.lives lacking → CanAddAll g cs → ((n : ℕ) → length w.calls ≤ n → Lacks lacking n → ⊥) → Holds (with_tasks cs g) (all_submitted w cs).calls (all_submitted w cs).lives lacking
holds-all g w lacking [] h can none = h
holds-all g w lacking (c ∷ cs) h can none =
    let longer = length-pushed w.calls c in
    holds-all (with_task c.path (inputs c.arguments) g) (submitted w c) lacking cs (holds-pushed g w.calls w.lives lacking c h can.0.there (none (length w.calls) (omega arith))) can.1 (λ n le. none n (omega (arith, le, longer)))
