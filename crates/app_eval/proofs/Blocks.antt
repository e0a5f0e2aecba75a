-- What the functions that run blocks and loops return, by what the parts return.
use Rattle.std.proofs.Common.{◌≡◌, ◌<◌, ◌+◌, ℕ, zero, suc, Bool, true, false, List, [], ◌∷◌, drop, length, get_or, slice_get, Option, Some, None, Result, Ok, Err, inl, inr, refl, ap, sym, ◌∙◌, arith}
use Rattle.flow_base.specs.declared.value.Value.{Value}
use Rattle.flow_meaning.specs.declared.walk.Answer.{Answer}
use Rattle.flow_meaning.specs.Act.{Act, ◌>>=◌}
use Rattle.flow_meaning.specs.Operators.{Text}
use Rattle.flow_meaning.specs.Run.{Ran, Gave, run}
use Rattle.body_program.specs.declared.code.Code.{Code}
use Rattle.body_program.specs.declared.code.Simple.{Simple}
use Rattle.body_program.specs.declared.code.Step.{Step}
use Rattle.body_program.specs.declared.code.Step.TheVariants as t
use Rattle.body_program.specs.Meaning.{Store, Flow, Goes, Returns, and_then, each_turn, item_turn, one_turn, repeated, simple_does, step_does, steps_do}
use Rattle.app_eval.specs.Chains.{truth_calc}
use Rattle.app_eval.specs.declared.frame.Flow.{Flow as FlowOf}
use Rattle.app_eval.specs.declared.frame.Flow.TheVariants as flow
use Rattle.app_eval.specs.declared.interpreter.Iteration.{Iteration as TurnOf}
use Rattle.app_eval.specs.declared.operators.Stop.{Stop}
use Rattle.app_eval.specs.declared.operators.Stop.TheVariants as stop
use Rattle.app_eval.specs.declared.position.Interrupt.{Interrupt}
use Rattle.app_eval.specs.declared.position.Interrupt.TheVariants as h
use Rattle.app_eval.specs.declared.position.InnerPosition.{InnerPosition}
use Rattle.app_eval.specs.declared.position.InnerPosition.TheVariants as i
use Rattle.app_eval.specs.declared.position.Position.{Position}
use Rattle.app_eval.specs.Does.{RunsHere, Reads, Runs, RunsTurn, inside_does, insides, items_at, left_at, step_at, steps_at, turns_at}
use Rattle.app_eval.specs.Frames.{flow_of}
use Rattle.app_eval.specs.Interrupts.{Wraps, WrapsResult, at_step, in_item, in_otherwise, in_then, in_turn, mapped, halt_of}
use Rattle.app_eval.proofs.Parts.{gave_then, halts_then, wraps_runs, wraps_then}
use Rattle.app_eval.proofs.Insides.{dropped_at, simple_does_it, if_does, while_does, then_does, otherwise_does, turn_does, item_does}
use Rattle.app_eval.proofs.Turns.{Turning, asks_here, asks_inside, steps_never_raise, throws}

-- ---- blocks

pub slice_at : {A : Type 0} (xs : List A) (k : ℕ) (x : A) → k < length xs → x ≡ get_or xs k x → slice_get xs k ≡ Some x
slice_at [] k x p e = absurd (omega arith)
slice_at (y ∷ ys) zero x p e = ap Some (sym e)
slice_at (y ∷ ys) (suc k) x p e = slice_at ys k x (omega arith) e

dropped_next : {A : Type 0} (xs : List A) (k : ℕ) (x : A) → slice_get xs k ≡ Some x → drop k xs ≡ x ∷ drop (k + 1) xs
dropped_next xs k x e = let next : k + 1 ≡ suc k = omega arith in rw next (dropped_at xs k x e)

-- the step at the place, and then those behind it
block_at : (names : List Text) (steps : List Step) (k : ℕ) (inside : Option InnerPosition) (step : Step) (s : Store) → slice_get steps k ≡ Some step → steps_at names steps k inside s ≡ (step_at names step inside s >>= λ f. and_then f (steps_do names (drop (k + 1) steps)))
block_at names steps k inside step s e = let next : k + 1 ≡ suc k = omega arith in rw next (ap (λ (o : Option Step). left_at names o (insides names inside) s >>= λ f. and_then f (steps_do names (drop (suc k) steps))) e)

rest_at : (names : List Text) (steps : List Step) (k : ℕ) (step : Step) (s : Store) → slice_get steps k ≡ Some step → steps_do names (drop k steps) s ≡ (step_at names step None s >>= λ f. and_then f (steps_do names (drop (k + 1) steps)))
rest_at names steps k step s e = ap (λ (xs : List Step). steps_do names xs s) (dropped_next steps k step e)

pub step_goes : (names : List Text) (steps : List Step) (k : ℕ) (inside : Option InnerPosition) (step : Step) (result : Result FlowOf (Interrupt (Option InnerPosition))) (s0 s1 : Store) (rs r1 : List Answer) → slice_get steps k ≡ Some step → result ≡ Ok flow.Goes → Runs flow_of (step_at names step) result s1 r1 (run (step_at names step inside s0) rs) → run (steps_at names steps k inside s0) rs ≡ run (steps_do names (drop (k + 1) steps) s1) r1
step_goes names steps k inside step result s0 s1 rs r1 e is runs = ap (λ (a : Act Flow). run a rs) (block_at names steps k inside step s0 e) ∙ gave_then (step_at names step inside s0) _ rs r1 (Goes s1) (rw is at runs)

pub rest_goes : (names : List Text) (steps : List Step) (k : ℕ) (step : Step) (result : Result FlowOf (Interrupt (Option InnerPosition))) (s0 s1 : Store) (rs r1 : List Answer) → slice_get steps k ≡ Some step → result ≡ Ok flow.Goes → Runs flow_of (step_at names step) result s1 r1 (run (step_at names step None s0) rs) → run (steps_do names (drop (k + 1) steps) s1) r1 ≡ run (steps_do names (drop k steps) s0) rs
rest_goes names steps k step result s0 s1 rs r1 e is runs = sym (ap (λ (a : Act Flow). run a rs) (rest_at names steps k step s0 e) ∙ gave_then (step_at names step None s0) _ rs r1 (Goes s1) (rw is at runs))

pub rest_returns : (names : List Text) (steps : List Step) (k : ℕ) (step : Step) (result : Result FlowOf (Interrupt (Option InnerPosition))) (value : Value) (s0 s1 : Store) (rs r1 : List Answer) → slice_get steps k ≡ Some step → result ≡ Ok (flow.Returns value) → Runs flow_of (step_at names step) result s1 r1 (run (step_at names step None s0) rs) → run (steps_do names (drop k steps) s0) rs ≡ Gave (Returns value s1) r1
rest_returns names steps k step result value s0 s1 rs r1 e is runs = ap (λ (a : Act Flow). run a rs) (rest_at names steps k step s0 e) ∙ gave_then (step_at names step None s0) _ rs r1 (Returns value s1) (rw is at runs)

pub rest_halts : (names : List Text) (steps : List Step) (k : ℕ) (step : Step) (result : Result FlowOf (Interrupt (Option InnerPosition))) (halt : Interrupt (Option InnerPosition)) (s0 s1 : Store) (rs r1 : List Answer) → slice_get steps k ≡ Some step → result ≡ Err halt → Runs flow_of (step_at names step) result s1 r1 (run (step_at names step None s0) rs) → Runs flow_of (λ (p : Position). steps_at names steps p.step p.inside) (Err (mapped (at_step k) halt)) s1 r1 (run (steps_do names (drop k steps) s0) rs)
rest_halts names steps k step result halt s0 s1 rs r1 e is runs = rw (rest_at names steps k step s0 e) (halts_then flow_of flow_of (step_at names step) (λ (p : Position). steps_at names steps p.step p.inside) (at_step k) (step_at names step None s0) (λ f. and_then f (steps_do names (drop (k + 1) steps))) halt s1 rs r1 (λ p. block_at names steps k p step s1 e) (rw is at runs))

-- ---- if

pub then_runs : (names : List Text) (e : Code) (steps others part : List Step) (holds : Result Bool (Interrupt (Unit {0}))) (result : Result FlowOf (Interrupt Position)) (other : Result FlowOf (Interrupt (Option InnerPosition))) (s0 s1 : Store) (rs r0 r1 : List Answer) → part ≡ steps → holds ≡ Ok true → Reads holds rs r0 (run (truth_calc s0.slots e) rs) → WrapsResult in_then result other → Runs flow_of (λ (p : Position). steps_at names part p.step p.inside) result s1 r1 (run (steps_do names (drop 0 part) s0) r0) → Runs flow_of (step_at names (t.If e steps others)) other s1 r1 (run (step_does names (t.If e steps others) s0) rs)
then_runs names e steps others part holds result other s0 s1 rs r0 r1 same is reads wraps runs = rw (if_does names e steps others s0, gave_then (truth_calc s0.slots e) _ rs r0 true (rw is at reads)) (wraps_runs (λ (p : Position). steps_at names steps p.step p.inside) (step_at names (t.If e steps others)) in_then result other s1 r1 _ (λ p. then_does names p.step p.inside e steps others s1) wraps (rw same at runs))

pub otherwise_runs : (names : List Text) (e : Code) (steps others part : List Step) (holds : Result Bool (Interrupt (Unit {0}))) (result : Result FlowOf (Interrupt Position)) (other : Result FlowOf (Interrupt (Option InnerPosition))) (s0 s1 : Store) (rs r0 r1 : List Answer) → part ≡ others → holds ≡ Ok false → Reads holds rs r0 (run (truth_calc s0.slots e) rs) → WrapsResult in_otherwise result other → Runs flow_of (λ (p : Position). steps_at names part p.step p.inside) result s1 r1 (run (steps_do names (drop 0 part) s0) r0) → Runs flow_of (step_at names (t.If e steps others)) other s1 r1 (run (step_does names (t.If e steps others) s0) rs)
otherwise_runs names e steps others part holds result other s0 s1 rs r0 r1 same is reads wraps runs = rw (if_does names e steps others s0, gave_then (truth_calc s0.slots e) _ rs r0 false (rw is at reads)) (wraps_runs (λ (p : Position). steps_at names others p.step p.inside) (step_at names (t.If e steps others)) in_otherwise result other s1 r1 _ (λ p. otherwise_does names p.step p.inside e steps others s1) wraps (rw same at runs))

pub then_goes_on : (names : List Text) (e : Code) (steps others part : List Step) (k : ℕ) (inside : Option InnerPosition) (result : Result FlowOf (Interrupt Position)) (other : Result FlowOf (Interrupt (Option InnerPosition))) (s0 s1 : Store) (rs r1 : List Answer) → part ≡ steps → WrapsResult in_then result other → Runs flow_of (λ (p : Position). steps_at names part p.step p.inside) result s1 r1 (run (steps_at names part k inside s0) rs) → Runs flow_of (step_at names (t.If e steps others)) other s1 r1 (run (inside_does names (i.Then k inside) (t.If e steps others) s0) rs)
then_goes_on names e steps others part k inside result other s0 s1 rs r1 same wraps runs = rw (then_does names k inside e steps others s0) (wraps_runs (λ (p : Position). steps_at names steps p.step p.inside) (step_at names (t.If e steps others)) in_then result other s1 r1 _ (λ p. then_does names p.step p.inside e steps others s1) wraps (rw same at runs))

pub otherwise_goes_on : (names : List Text) (e : Code) (steps others part : List Step) (k : ℕ) (inside : Option InnerPosition) (result : Result FlowOf (Interrupt Position)) (other : Result FlowOf (Interrupt (Option InnerPosition))) (s0 s1 : Store) (rs r1 : List Answer) → part ≡ others → WrapsResult in_otherwise result other → Runs flow_of (λ (p : Position). steps_at names part p.step p.inside) result s1 r1 (run (steps_at names part k inside s0) rs) → Runs flow_of (step_at names (t.If e steps others)) other s1 r1 (run (inside_does names (i.Otherwise k inside) (t.If e steps others) s0) rs)
otherwise_goes_on names e steps others part k inside result other s0 s1 rs r1 same wraps runs = rw (otherwise_does names k inside e steps others s0) (wraps_runs (λ (p : Position). steps_at names others p.step p.inside) (step_at names (t.If e steps others)) in_otherwise result other s1 r1 _ (λ p. otherwise_does names p.step p.inside e steps others s1) wraps (rw same at runs))

-- ---- for

pub each_halts : (names : List Text) (slot : ℕ) (e : Code) (body : List Step) (items : List Value) (next : ℕ) (item : Value) (result : Result FlowOf (Interrupt Position)) (halt : Interrupt Position) (other : Interrupt (Option InnerPosition)) (s0 s1 : Store) (rs r1 : List Answer) → slice_get items next ≡ Some item → result ≡ Err halt → Wraps (in_item items (next + 1)) halt other → Runs flow_of (λ (p : Position). steps_at names body p.step p.inside) result s1 r1 (run (item_turn slot (steps_do names body) item s0) rs) → Runs flow_of (step_at names (t.For slot e body)) (Err other) s1 r1 (run (each_turn slot (steps_do names body) (drop next items) s0) rs)
each_halts names slot e body items next item result halt other s0 s1 rs r1 at is wraps runs = rw (dropped_next items next item at) (wraps_then flow_of flow_of (λ (p : Position). steps_at names body p.step p.inside) (step_at names (t.For slot e body)) (in_item items (next + 1)) (item_turn slot (steps_do names body) item s0) (λ f. and_then f (each_turn slot (steps_do names body) (drop (next + 1) items))) halt other s1 rs r1 (λ p. item_does names items (next + 1) p.step p.inside slot e body s1) wraps (rw is at runs))

pub items_halt : (names : List Text) (slot : ℕ) (e : Code) (body : List Step) (items : List Value) (next : ℕ) (place : Position) (result : Result FlowOf (Interrupt Position)) (halt : Interrupt Position) (other : Interrupt (Option InnerPosition)) (s0 s1 : Store) (rs r1 : List Answer) → result ≡ Err halt → Wraps (in_item items next) halt other → Runs flow_of (λ (p : Position). steps_at names body p.step p.inside) result s1 r1 (run (steps_at names body place.step place.inside s0) rs) → Runs flow_of (step_at names (t.For slot e body)) (Err other) s1 r1 (run (items_at names slot body (drop next items) place.step place.inside s0) rs)
items_halt names slot e body items next place result halt other s0 s1 rs r1 is wraps runs = wraps_then flow_of flow_of (λ (p : Position). steps_at names body p.step p.inside) (step_at names (t.For slot e body)) (in_item items next) (steps_at names body place.step place.inside s0) (λ f. and_then f (each_turn slot (steps_do names body) (drop next items))) halt other s1 rs r1 (λ p. item_does names items next p.step p.inside slot e body s1) wraps (rw is at runs)

-- ---- while

abbrev in_turn_at : Position → Option InnerPosition
in_turn_at p = Some (i.Iteration p.step p.inside)

turn_mapped : (halt : Interrupt Position) → mapped in_turn (mapped Some halt) ≡ mapped in_turn_at halt
turn_mapped (h.Raised exception) = refl
turn_mapped (h.Asks request place) = refl
turn_mapped h.NoMemory = refl

turn_wraps : (halt : Interrupt Position) (other : Interrupt (Option InnerPosition)) → Wraps in_turn (mapped Some halt) other → Wraps in_turn_at halt other
turn_wraps halt other (inl e) = inl (e ∙ turn_mapped halt)
turn_wraps halt other (inr e) = inr e

pub turns_halt : (names : List Text) (e : Code) (body : List Step) (place : Position) (result : Result FlowOf (Interrupt Position)) (halt : Interrupt Position) (further : Interrupt (Option Position)) (other : Interrupt (Option InnerPosition)) (s0 s1 : Store) (rs r1 : List Answer) → result ≡ Err halt → further ≡ mapped Some halt → Wraps in_turn further other → Runs flow_of (λ (p : Position). steps_at names body p.step p.inside) result s1 r1 (run (steps_at names body place.step place.inside s0) rs) → Runs flow_of (step_at names (t.While e body)) (Err other) s1 r1 (run (turns_at names e body place.step place.inside s0) rs)
turns_halt names e body place result halt further other s0 s1 rs r1 is same wraps runs = wraps_then flow_of flow_of (λ (p : Position). steps_at names body p.step p.inside) (step_at names (t.While e body)) in_turn_at (steps_at names body place.step place.inside s0) (λ f. and_then f (repeated e (steps_do names body))) halt other s1 rs r1 (λ p. turn_does names p.step p.inside e body s1) (turn_wraps halt other (rw same at wraps)) (rw is at runs)

turn_halts : (names : List Text) (e : Code) (body : List Step) (halt : Interrupt (Option Position)) (s0 s1 : Store) (rs r1 : List Answer) (ran : Ran Flow) → Turning e (steps_do names body) s0 rs ran → RunsTurn names body (Err halt) s0 s1 rs r1 (run (one_turn e (steps_do names body) s0) rs) → Runs flow_of (step_at names (t.While e body)) (Err (mapped in_turn halt)) s1 r1 ran
turn_halts names e body (h.Raised exception) s0 s1 rs r1 ran turning runs = throws exception turning runs
turn_halts names e body (h.Asks request None) s0 s1 rs r1 ran turning runs = let asks = asks_here request (steps_never_raise names body) turning runs.0 in (asks.0, rw (while_does names e body s1, runs.1, runs.2) asks.1)
turn_halts names e body (h.Asks request (Some p)) s0 s1 rs r1 ran turning runs = let asks = asks_inside request (λ s. steps_at names body p.step p.inside s) s1 r1 (steps_never_raise names body) turning runs.0 runs.1 in (asks.0, rw (turn_does names p.step p.inside e body s1) asks.1)
turn_halts names e body h.NoMemory s0 s1 rs r1 ran turning runs = tt

wraps_turn : (names : List Text) (e : Code) (body : List Step) (halt : Interrupt (Option Position)) (other : Interrupt (Option InnerPosition)) (s1 : Store) (r1 : List Answer) (ran : Ran Flow) → Wraps in_turn halt other → Runs flow_of (step_at names (t.While e body)) (Err (mapped in_turn halt)) s1 r1 ran → Runs flow_of (step_at names (t.While e body)) (Err other) s1 r1 ran
wraps_turn names e body halt other s1 r1 ran (inl e2) runs = rw e2 runs
wraps_turn names e body halt other s1 r1 ran (inr e2) runs = rw e2 tt

pub repeat_halts : (names : List Text) (e : Code) (body : List Step) (result : Result TurnOf (Interrupt (Option Position))) (halt : Interrupt (Option Position)) (other : Interrupt (Option InnerPosition)) (s0 s1 : Store) (rs r1 : List Answer) (ran : Ran Flow) → result ≡ Err halt → Wraps in_turn halt other → Turning e (steps_do names body) s0 rs ran → RunsTurn names body result s0 s1 rs r1 (run (one_turn e (steps_do names body) s0) rs) → Runs flow_of (step_at names (t.While e body)) (Err other) s1 r1 ran
repeat_halts names e body result halt other s0 s1 rs r1 ran is wraps turning runs = wraps_turn names e body halt other s1 r1 ran wraps (turn_halts names e body halt s0 s1 rs r1 ran turning (rw is at runs))

-- ---- statements without blocks

simple_halted : (names : List Text) (x : Simple) (st : Stop) (s0 s1 : Store) (rs left : List Answer) → RunsHere (Err st) s0 s1 left (run (simple_does names x s0) rs) → Runs flow_of (step_at names (t.Simple x)) (Err (mapped (λ _. None) (halt_of st))) s1 rs (run (simple_does names x s0) rs)
simple_halted names x (stop.Raised exception) s0 s1 rs left runs = runs
simple_halted names x (stop.Asks request) s0 s1 rs left runs = (runs.0, ap (λ (a : Act Flow). run a rs) (simple_does_it names x s1 ∙ ap (simple_does names x) runs.1))
simple_halted names x stop.NoMemory s0 s1 rs left runs = tt

pub simple_halts : (names : List Text) (x : Simple) (st : Stop) (first : Interrupt (Unit {0})) (other : Interrupt (Option InnerPosition)) (s0 s1 : Store) (told rs left : List Answer) → first ≡ halt_of st → other ≡ mapped (λ _. None) first → told ≡ rs → RunsHere (Err st) s0 s1 left (run (simple_does names x s0) told) → Runs flow_of (step_at names (t.Simple x)) (Err other) s1 rs (run (simple_does names x s0) rs)
simple_halts names x st first other s0 s1 told rs left is same begun runs = rw (same, is) (simple_halted names x st s0 s1 rs left (rw begun at runs))
