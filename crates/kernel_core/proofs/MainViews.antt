-- What main's acts change of what is known.
use Rattle.std.proofs.Common.{◌≡◌, ℕ, ◌+◌, ◌<◌, Bool, false, List, [], ◌∷◌, ◌++◌, length, map, reverse, get_or, Option, refl, sym, ◌∙◌, ap, arith, length-append}
use Rattle.std.specs.Prelude.{flat_map}
use Rattle.std.proofs.lemmas.Grind.{flat_map-append}
use Rattle.std.proofs.lemmas.List.{map-append, reverse-append, get_or_append_left, get_or_push, length-map}
use Rattle.flow_base.specs.declared.outcome.Ending.{Ending}
use Rattle.script_tree.specs.Grammar.{Tree}
use Rattle.event_log.specs.declared.entry.Entry.{Entry}
use Rattle.dependency_graph.specs.declared.monitor.Settlement.{Settlement}
use Rattle.flow_meaning.specs.declared.walk.Answer.{Answer}
use Rattle.flow_meaning.specs.declared.walk.Answer.TheVariants as answer
use Rattle.flow_meaning.specs.Sequential.{MainAct, Calls, Waits, Prints, Checkpoints, outcome_answer}
use Rattle.call_rules.specs.Calls.{Call}
use Rattle.memo_table.specs.Table.{MemoView}
use Rattle.kernel_model.specs.declared.answers.Refusal.{Refusal}
use Rattle.kernel_model.specs.Known.{Known, Life, no_call, no_life, outcome_in}
use Rattle.kernel_model.specs.Acts.{future_of, pending, submit_of, answered, called}
use Rattle.kernel_model.proofs.Places.{outcome-pushed}
use Rattle.kernel_core.specs.declared.task.Task.{Task}
use Rattle.kernel_core.specs.declared.run_state.MainStep.{MainStep}
use Rattle.kernel_core.specs.declared.run_state.MainStep.TheVariants as step
use Rattle.kernel_core.specs.Tasks.{call_of, life_of, answer_of, acts_of, AreOver}
use Rattle.agenda_model.specs.Agendas.{running_in, runs}
use Rattle.kernel_core.specs.Views.{known_with}

-- ---- steps where a call is added

-- earlier answers stay
pub answers-push : (cs : List Call) (lives : List Life) (c : Call) (steps : List MainStep) → AreOver cs lives steps → map (answer_of (cs ++ c ∷ []) (lives ++ pending ∷ [])) steps ≡ map (answer_of cs lives) steps
answers-push cs lives c [] h = refl
answers-push cs lives c (step.Call k ∷ steps) h = rw (get_or_append_left cs (c ∷ []) no_call k h.0) (ap (λ (l : List Answer). answer.Called (future_of (get_or cs k no_call)) ∷ l) (answers-push cs lives c steps h.1))
answers-push cs lives c (step.Wait k ∷ steps) h = rw (outcome-pushed lives k) (ap (λ (l : List Answer). outcome_answer (outcome_in (get_or lives k no_life)) ∷ l) (answers-push cs lives c steps h.2))
answers-push cs lives c (step.Print value ∷ steps) h = ap (λ (l : List Answer). answer.Go ∷ l) (answers-push cs lives c steps h)
answers-push cs lives c (step.Checkpoint ∷ steps) h = ap (λ (l : List Answer). answer.Go ∷ l) (answers-push cs lives c steps h)

-- so do earlier acts
pub acts-push : (cs : List Call) (lives : List Life) (c : Call) (steps : List MainStep) → AreOver cs lives steps → flat_map (acts_of (cs ++ c ∷ [])) steps ≡ flat_map (acts_of cs) steps
acts-push cs lives c [] h = refl
acts-push cs lives c (step.Call k ∷ steps) h = rw (get_or_append_left cs (c ∷ []) no_call k h.0) (ap (λ (l : List MainAct). Calls (get_or cs k no_call).path ∷ l) (acts-push cs lives c steps h.1))
acts-push cs lives c (step.Wait k ∷ steps) h = rw (get_or_append_left cs (c ∷ []) no_call k h.0) (ap (λ (l : List MainAct). Waits (get_or cs k no_call).path ∷ l) (acts-push cs lives c steps h.2))
acts-push cs lives c (step.Print value ∷ steps) h = ap (λ (l : List MainAct). Prints value ∷ l) (acts-push cs lives c steps h)
acts-push cs lives c (step.Checkpoint ∷ steps) h = ap (λ (l : List MainAct). Checkpoints ∷ l) (acts-push cs lives c steps h)

longer : {X : Type 0} (xs : List X) (x : X) (k : ℕ) → k < length xs → k < length (xs ++ x ∷ [])
longer xs x k h = let more = length-append xs (x ∷ []) in omega arith

-- steps that are over stay so
pub over-push : (cs : List Call) (lives : List Life) (c : Call) (steps : List MainStep) → AreOver cs lives steps → AreOver (cs ++ c ∷ []) (lives ++ pending ∷ []) steps
over-push cs lives c [] h = tt
over-push cs lives c (step.Call k ∷ steps) h = (longer cs c k h.0, over-push cs lives c steps h.1)
over-push cs lives c (step.Wait k ∷ steps) h = (longer cs c k h.0, rw (outcome-pushed lives k) h.1, over-push cs lives c steps h.2)
over-push cs lives c (step.Print value ∷ steps) h = over-push cs lives c steps h
over-push cs lives c (step.Checkpoint ∷ steps) h = over-push cs lives c steps h

pub over-append : (cs : List Call) (lives : List Life) (steps others : List MainStep) → AreOver cs lives steps → AreOver cs lives others → AreOver cs lives (steps ++ others)
over-append cs lives [] others h g = g
over-append cs lives (step.Call k ∷ steps) others h g = (h.0, over-append cs lives steps others h.1 g)
over-append cs lives (step.Wait k ∷ steps) others h g = (h.0, h.1, over-append cs lives steps others h.2 g)
over-append cs lives (step.Print value ∷ steps) others h g = over-append cs lives steps others h g
over-append cs lives (step.Checkpoint ∷ steps) others h g = over-append cs lives steps others h g

pub running-push : (lives : List Life) → running_in (lives ++ pending ∷ []) ≡ running_in lives
running-push [] = refl
running-push (life ∷ lives) = ap (λ (n : ℕ). runs life.status + n) (running-push lives)

-- ---- views

-- a step behind the others
pub view-answered : (tree : Tree) (tasks : List Task) (steps : List MainStep) (arrived : Bool) (ending : Option Ending) (memo : MemoView) (log : List Entry) (refusal : Option Refusal) (told : List (List Settlement)) (s : MainStep)
    → known_with tree tasks (steps ++ s ∷ []) false ending memo log refusal told ≡ answered (known_with tree tasks steps arrived ending memo log refusal told) (answer_of (map call_of tasks) (map life_of tasks) s) (acts_of (map call_of tasks) s)
view-answered tree tasks steps arrived ending memo log refusal told s =
    let cs : List Call = map call_of tasks in
    let lives : List Life = map life_of tasks in
    let answers : map (answer_of cs lives) (steps ++ s ∷ []) ≡ map (answer_of cs lives) steps ++ answer_of cs lives s ∷ [] = map-append (answer_of cs lives) steps (s ∷ []) in
    let acts : flat_map (acts_of cs) (steps ++ s ∷ []) ≡ flat_map (acts_of cs) steps ++ acts_of cs s = flat_map-append (acts_of cs) steps (s ∷ []) ∙ ap (λ (l : List MainAct). flat_map (acts_of cs) steps ++ l) (last cs s) in
    ap (λ (l : List Answer). record { tree = tree; answers = l; arrived = false; ending = ending; memo = memo; calls = cs; lives = lives; acts = flat_map (acts_of cs) (steps ++ s ∷ []); past = reverse log; refusal = refusal; told = told }) answers
    ∙ ap (λ (l : List MainAct). record { tree = tree; answers = map (answer_of cs lives) steps ++ answer_of cs lives s ∷ []; arrived = false; ending = ending; memo = memo; calls = cs; lives = lives; acts = l; past = reverse log; refusal = refusal; told = told }) acts
  where
    last : (cs : List Call) (s : MainStep) → flat_map (acts_of cs) (s ∷ []) ≡ acts_of cs s
    last cs (step.Call k) = refl
    last cs (step.Wait k) = refl
    last cs (step.Print value) = refl
    last cs step.Checkpoint = refl

-- what a pushed task, its step and its entry are
pub record IsPushed (tree : Tree) (tasks : List Task) (t : Task) (c : Call) (k : ℕ) (e : Entry) (w : Known) : Type 0 where
  pub call : call_of t ≡ c
  pub life : life_of t ≡ pending
  pub number : k ≡ length tasks
  pub entry : e ≡ submit_of w c

pub view-called : (tree : Tree) (tasks : List Task) (steps : List MainStep) (arrived : Bool) (ending : Option Ending) (memo : MemoView) (log : List Entry) (refusal : Option Refusal) (told : List (List Settlement)) (t : Task) (c : Call) (k : ℕ) (e : Entry)
    → AreOver (map call_of tasks) (map life_of tasks) steps → IsPushed tree tasks t c k e (known_with tree tasks steps arrived ending memo log refusal told)
    → known_with tree (tasks ++ t ∷ []) (steps ++ step.Call k ∷ []) false ending memo (log ++ e ∷ []) refusal told ≡ called (known_with tree tasks steps arrived ending memo log refusal told) c
view-called tree tasks steps arrived ending memo log refusal told t c k e over h =
    let cs : List Call = map call_of tasks in
    let lives : List Life = map life_of tasks in
    let calls_are : map call_of (tasks ++ t ∷ []) ≡ cs ++ c ∷ [] = map-append call_of tasks (t ∷ []) ∙ ap (λ (d : Call). cs ++ d ∷ []) h.call in
    let lives_are : map life_of (tasks ++ t ∷ []) ≡ lives ++ pending ∷ [] = map-append life_of tasks (t ∷ []) ∙ ap (λ (l : Life). lives ++ l ∷ []) h.life in
    let count : length cs ≡ k = length-map tasks call_of ∙ sym h.number in
    let last : get_or (cs ++ c ∷ []) k no_call ≡ c = get_or_push cs c no_call k count in
    let answers : map (answer_of (cs ++ c ∷ []) (lives ++ pending ∷ [])) (steps ++ step.Call k ∷ []) ≡ map (answer_of cs lives) steps ++ answer.Called (future_of c) ∷ []
    = map-append (answer_of (cs ++ c ∷ []) (lives ++ pending ∷ [])) steps (step.Call k ∷ [])
    ∙ ap (λ (l : List Answer). l ++ answer.Called (future_of (get_or (cs ++ c ∷ []) k no_call)) ∷ []) (answers-push cs lives c steps over)
    ∙ ap (λ (d : Call). map (answer_of cs lives) steps ++ answer.Called (future_of d) ∷ []) last in
    let acts : flat_map (acts_of (cs ++ c ∷ [])) (steps ++ step.Call k ∷ []) ≡ flat_map (acts_of cs) steps ++ Calls c.path ∷ []
    = flat_map-append (acts_of (cs ++ c ∷ [])) steps (step.Call k ∷ [])
    ∙ ap (λ (l : List MainAct). l ++ Calls (get_or (cs ++ c ∷ []) k no_call).path ∷ []) (acts-push cs lives c steps over)
    ∙ ap (λ (d : Call). flat_map (acts_of cs) steps ++ Calls d.path ∷ []) last in
    let past : reverse (log ++ e ∷ []) ≡ e ∷ reverse log = reverse-append log (e ∷ []) in
    parts (map call_of (tasks ++ t ∷ [])) (map life_of (tasks ++ t ∷ [])) (cs ++ c ∷ []) (lives ++ pending ∷ []) (map (answer_of cs lives) steps ++ answer.Called (future_of c) ∷ []) (flat_map (acts_of cs) steps ++ Calls c.path ∷ []) (reverse (log ++ e ∷ [])) (submit_of (known_with tree tasks steps arrived ending memo log refusal told) c ∷ reverse log)
    calls_are lives_are answers acts (past ∙ ap (λ (f : Entry). f ∷ reverse log) h.entry)
  where
    whole : List Call → List Life → List Answer → List MainAct → List Entry → Known
    whole cs lives answers acts past = record { tree = tree; answers = answers; arrived = false; ending = ending; memo = memo; calls = cs; lives = lives; acts = acts; past = past; refusal = refusal; told = told }

    parts : (cs : List Call) (lives : List Life) (ds : List Call) (others : List Life) (answers : List Answer) (acts : List MainAct) (past before : List Entry) → cs ≡ ds → lives ≡ others
        → map (answer_of ds others) (steps ++ step.Call k ∷ []) ≡ answers → flat_map (acts_of ds) (steps ++ step.Call k ∷ []) ≡ acts → past ≡ before
        → whole cs lives (map (answer_of cs lives) (steps ++ step.Call k ∷ [])) (flat_map (acts_of cs) (steps ++ step.Call k ∷ [])) past ≡ whole ds others answers acts before
    parts cs lives ds others answers acts past before calls_are lives_are answers_are acts_are past_is = rw (calls_are, lives_are, answers_are, acts_are, past_is) refl
