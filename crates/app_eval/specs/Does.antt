-- What is left of a body that waits at a place, and what a function that runs a part of a body returned.
use Rattle.std.specs.Prelude.{◌≡◌, ℕ, suc, List, [], ◌∷◌, drop, Option, Some, None, Result, Ok, Err, slice_get}
use Rattle.flow_base.specs.declared.value.Value.{Value}
use Rattle.flow_base.specs.declared.outcome.Exception.TheVariants as x
use Rattle.script_tree.specs.declared.tree.BuiltIn.TheVariants as b
use Rattle.flow_meaning.specs.declared.walk.Answer.{Answer}
use Rattle.flow_meaning.specs.declared.walk.Request.TheVariants as request
use Rattle.flow_meaning.specs.Act.{Act, Give, Throw, Ask, ◌>>=◌}
use Rattle.flow_meaning.specs.Operators.{Text, text_of}
use Rattle.flow_meaning.specs.Meaning as m
use Rattle.flow_meaning.specs.Run.{Ran, Gave, Threw, run, request_of}
use Rattle.body_program.specs.declared.code.Code.{Code}
use Rattle.body_program.specs.declared.code.Step.{Step, out-Step}
use Rattle.body_program.specs.declared.code.Step.TheOpen.{Step-F}
use Rattle.body_program.specs.Meaning as code
use Rattle.body_program.specs.Meaning.{Store, Flow, Goes, Returns, Does, and_then, repeated, each_turn, code_value, step_does, steps_do, held, with_slot}
use Rattle.app_eval.specs.declared.frame.Flow.{Flow as FlowOf}
use Rattle.app_eval.specs.declared.operators.Stop.{Stop}
use Rattle.app_eval.specs.declared.position.InnerPosition.{InnerPosition, fold-InnerPosition}
use Rattle.app_eval.specs.declared.position.InnerPosition.TheOpen.{InnerPosition-F}
use Rattle.app_eval.specs.declared.position.Interrupt.{Interrupt}
use Rattle.app_eval.specs.declared.position.Interrupt.TheVariants as halt
use Rattle.app_eval.specs.declared.position.Position.{Position}
use Rattle.app_eval.specs.declared.interpreter.Iteration.{Iteration as TurnOf}
use Rattle.app_eval.specs.declared.interpreter.Iteration.TheVariants as turn
use Rattle.app_eval.specs.declared.operators.Stop.TheVariants as stop
use Rattle.app_eval.specs.Frames.{flow_of}
use Rattle.app_eval.specs.Gives.{StopsRun}

-- ---- what is left at a place

-- what is left of a step
abbrev pub Left : Type 0
Left = Step → Does

-- at a place that the steps don't have: no body waits there
abbrev pub nowhere : Does
nowhere s = Throw x.TypeError

module _ (names : List Text) where
  -- at its beginning, or inside
  abbrev pub left_of : Option Left → Left
  left_of None = step_does names
  left_of (Some inside) = inside

  abbrev pub left_at : Option Step → Option Left → Does
  left_at (Some step) inside s = left_of inside step s
  left_at None None s = Give (Goes s)
  left_at None (Some inside) s = nowhere s

  -- what is left of a block that waits in its step of this number
  abbrev pub block_left : List Step → ℕ → Option Left → Does
  block_left steps k inside s = left_at (slice_get steps k) inside s >>= λ f. and_then f (steps_do names (drop (suc k) steps))

  abbrev pub then_left : Step-F Step → ℕ → Option Left → Does
  then_left (Step-F.If e steps others) k inside s = block_left steps k inside s
  then_left _ k inside s = nowhere s

  abbrev pub otherwise_left : Step-F Step → ℕ → Option Left → Does
  otherwise_left (Step-F.If e steps others) k inside s = block_left others k inside s
  otherwise_left _ k inside s = nowhere s

  -- the turn, and the turns behind it
  abbrev pub turn_left : Step-F Step → ℕ → Option Left → Does
  turn_left (Step-F.While e body) k inside s = block_left body k inside s >>= λ f. and_then f (repeated e (steps_do names body))
  turn_left _ k inside s = nowhere s

  abbrev pub item_left : Step-F Step → List Value → ℕ → Option Left → Does
  item_left (Step-F.For slot e body) items k inside s = block_left body k inside s >>= λ f. and_then f (each_turn slot (steps_do names body) items)
  item_left _ items k inside s = nowhere s

  abbrev pub inside_step : InnerPosition-F Left → Left
  inside_step (InnerPosition-F.Then k inside) step = then_left (out-Step step) k inside
  inside_step (InnerPosition-F.Otherwise k inside) step = otherwise_left (out-Step step) k inside
  inside_step (InnerPosition-F.Iteration k inside) step = turn_left (out-Step step) k inside
  inside_step (InnerPosition-F.Item items next k inside) step = item_left (out-Step step) (drop next items) k inside

  unfoldable pub inside_does : InnerPosition → Left
  inside_does = fold-InnerPosition Left inside_step

  abbrev pub insides : Option InnerPosition → Option Left
  insides None = None
  insides (Some inside) = Some (inside_does inside)

  -- what is left of a step, and of a block
  abbrev pub step_at : Step → Option InnerPosition → Does
  step_at step inside = left_of (insides inside) step

  abbrev pub steps_at : List Step → ℕ → Option InnerPosition → Does
  steps_at steps k inside = block_left steps k (insides inside)

  -- a turn of a loop from a place on, and the turns behind it
  abbrev pub turns_at : Code → List Step → ℕ → Option InnerPosition → Does
  turns_at condition body k inside s = steps_at body k inside s >>= λ f. and_then f (repeated condition (steps_do names body))

  abbrev pub items_at : ℕ → List Step → List Value → ℕ → Option InnerPosition → Does
  items_at slot body items k inside s = steps_at body k inside s >>= λ f. and_then f (each_turn slot (steps_do names body) items)

-- ---- what functions returned

-- At a request it goes on from the place with the answers that it leaves.
abbrev pub Runs : {P A B : Type 0} → (A → Store → B) → (P → Store → Act B) → Result A (Interrupt P) → Store → List Answer → Ran B → Type 0
Runs given rest (Ok a) s told ran = ran ≡ Gave (given a s) told
Runs given rest (Err (halt.Raised exception)) s told ran = ran ≡ Threw exception
Runs given rest (Err (halt.Asks request place)) s told ran = (request_of ran ≡ Some request) × (run (rest place s) told ≡ ran)
Runs given rest (Err halt.NoMemory) s told ran = Unit {0}

-- a statement without blocks: at a request nothing has changed
abbrev pub RunsHere : Result FlowOf Stop → Store → Store → List Answer → Ran Flow → Type 0
RunsHere (Ok f) before s left ran = ran ≡ Gave (flow_of f s) left
RunsHere (Err (stop.Asks request)) before s left ran = (request_of ran ≡ Some request) × (s ≡ before)
RunsHere (Err st) before s left ran = StopsRun st ran

-- a condition or a list, with the answers that were told before and those that are left
abbrev pub Reads : {A : Type 0} → Result A (Interrupt (Unit {0})) → List Answer → List Answer → Ran A → Type 0
Reads (Ok a) told left ran = ran ≡ Gave a left
Reads (Err (halt.Raised exception)) told left ran = ran ≡ Threw exception
Reads (Err (halt.Asks request _)) told left ran = (request_of ran ≡ Some request) × (left ≡ told)
Reads (Err halt.NoMemory) told left ran = Unit {0}

abbrev pub turn_of : TurnOf → Store → Option Flow
turn_of turn.Over s = None
turn_of turn.Goes s = Some (Goes s)
turn_of (turn.Returns value) s = Some (Returns value s)

-- a turn of `while`: it asks in its condition, where nothing has changed, or in its block
abbrev pub RunsTurn : List Text → List Step → Result TurnOf (Interrupt (Option Position)) → Store → Store → List Answer → List Answer → Ran (Option Flow) → Type 0
RunsTurn names body (Ok t) before s told left ran = ran ≡ Gave (turn_of t s) left
RunsTurn names body (Err (halt.Raised exception)) before s told left ran = ran ≡ Threw exception
RunsTurn names body (Err (halt.Asks request None)) before s told left ran = (request_of ran ≡ Some request) × (s ≡ before) × (left ≡ told)
RunsTurn names body (Err (halt.Asks request (Some p))) before s told left ran = (request_of ran ≡ Some request) × (run (steps_at names body p.step p.inside s >>= λ f. Give (Some f)) left ≡ ran)
RunsTurn names body (Err halt.NoMemory) before s told left ran = Unit {0}

-- ---- statements without blocks

abbrev pub sets : ℕ → Code → Does
sets slot e s = code_value s.slots e >>= λ value. Give (Goes (with_slot slot value s))

abbrev pub appends_value : ℕ → Code → Does
appends_value slot e s = do
  list ← held (slice_get s.slots slot)
  item ← code_value s.slots e
  longer ← m.applied_to b.Append (list ∷ item ∷ [])
  Give (Goes (with_slot slot longer s))

abbrev pub gives_back : Code → Does
gives_back e s = code_value s.slots e >>= λ value. Give (Returns value s)

abbrev pub evaluates : Code → Does
evaluates e s = code_value s.slots e >>= λ _. Give (Goes s)

abbrev pub raises : Code → Does
raises e s = code_value s.slots e >>= text_of >>= λ t. Throw (x.AppError t)

abbrev pub writes_value : List Text → Code → Code → Does
writes_value names e t s = code_value s.slots e >>= λ at. code_value s.slots t >>= λ with. code.writes names at with s

abbrev pub prints : Code → Does
prints e s = code_value s.slots e >>= λ value. Ask (request.Print value) (λ _. Give (Goes s))

abbrev pub checkpoints : Does
checkpoints s = Ask request.Checkpoint (λ _. Give (Goes s))
