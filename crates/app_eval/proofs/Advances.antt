-- A body that runs goes on to its next request, or to its end.
use Rattle.std.proofs.Common.{◌≡◌, true, List, [], ◌∷◌, Option, Some, None, Result, Ok, Err, refl, sym, ap, ◌∙◌, subst}
use Rattle.std.specs.Arc.{arc_value}
use Rattle.flow_base.specs.declared.value.Value.{Value}
use Rattle.flow_base.specs.declared.outcome.Ended.{Ended}
use Rattle.flow_base.specs.declared.outcome.Ended.TheVariants as ended
use Rattle.flow_base.specs.declared.outcome.Exception.{Exception}
use Rattle.flow_base.specs.declared.outcome.FileOut.{FileOut}
use Rattle.flow_meaning.specs.declared.walk.Answer.{Answer}
use Rattle.flow_meaning.specs.declared.walk.Request.{Request}
use Rattle.flow_meaning.specs.Act.{Give, ◌>>=◌}
use Rattle.flow_meaning.specs.Meaning.{files_from}
use Rattle.flow_meaning.specs.Operators.{Text}
use Rattle.flow_meaning.specs.Run.{Ran, Gave, Threw, Asked, run, then_run, request_of}
use Rattle.flow_meaning.specs.Sequential.{end_of}
use Rattle.flow_meaning.proofs.Run.{run-bind}
use Rattle.body_program.specs.Meaning.{Flow, Goes, Returns, done}
use Rattle.body_program.specs.declared.code.Program.{Program}
use Rattle.body_program.specs.declared.code.Step.{Step}
use Rattle.app_eval.specs.declared.position.Interrupt.{Interrupt}
use Rattle.app_eval.specs.declared.position.Interrupt.TheVariants as halt
use Rattle.app_eval.specs.declared.position.Position.{Position}
use Rattle.app_eval.specs.declared.running.Running.{Running}
use Rattle.app_eval.specs.declared.running.Want.{Want}
use Rattle.app_eval.specs.declared.running.Want.TheVariants as want
use Rattle.app_eval.specs.Does.{Runs, steps_at}
use Rattle.app_eval.specs.Frames.{flow_of, store_of}
use Rattle.app_eval.specs.Runnings.{Advances, Fits, Halted, Unended, ran_of, wants}
use Rattle.app_eval.specs.Positions.{steps_fit}
use Rattle.app_eval.proofs.Fits.{asks_fits}

-- ---- the end asks for nothing

files_end : (value : Value) (given : List FileOut) (names : List Text) (written : List (Option Text)) (left : List Answer) → wants (run (files_from given names written >>= λ files. Give (value, files)) left) ≡ want.Ended (end_of (files_from given names written >>= λ files. Give (value, files)))
files_end value given [] written left = refl
files_end value given (name ∷ names) [] left = refl
files_end value given (name ∷ names) (None ∷ written) left = refl
files_end value given (name ∷ names) (Some content ∷ written) left = files_end value _ names written left

done_end : (names : List Text) (f : Flow) (left : List Answer) → wants (run (done names f) left) ≡ want.Ended (end_of (done names f))
done_end names (Goes s) left = files_end _ [] names s.written left
done_end names (Returns value s) left = files_end value [] names s.written left

-- ---- what is wanted

-- what the statements do from the place on, with the answers
abbrev steps_ran : List Text → Running → Ran Flow
steps_ran names r = run (steps_at names (arc_value r.program).steps r.place.step r.place.inside (store_of r.frame)) r.told.items

ran_by : (names : List Text) (r : Running) → ran_of names r ≡ then_run (steps_ran names r) (done names)
ran_by names r = run-bind (steps_at names (arc_value r.program).steps r.place.step r.place.inside (store_of r.frame)) (done names) r.told.items

unended : (w : Want) (T : Type 0) → T → Unended w T
unended (want.Asks request) T h = h
unended (want.Ended e) T h = tt

asked_wants : (names : List Text) (ran : Ran Flow) (request : Request) → request_of ran ≡ Some request → want.Asks request ≡ wants (then_run ran (done names))
asked_wants names (Gave f left) request h = absurd (cc)
asked_wants names (Threw exception) request h = absurd (cc)
asked_wants names (Asked w go) request h = let is : request ≡ w = cc in ap want.Asks is

pub ended_advances : (names : List Text) (before now : Running) (f : Flow) (left : List Answer) (e : Ended) → steps_ran names before ≡ Gave f left → e ≡ end_of (done names f) → (want.Ended e ≡ wants (ran_of names before)) × Unended (want.Ended e) (ran_of names now ≡ ran_of names before)
ended_advances names before now f left e ran is = (ap want.Ended is ∙ sym (done_end names f left) ∙ sym (ap (λ r. wants (then_run r (done names))) ran) ∙ sym (ap wants (ran_by names before)), tt)

abbrev Wanted : List Text → Running → Running → Want → Type 0
Wanted names before now w = (w ≡ wants (ran_of names before)) × Unended w (ran_of names now ≡ ran_of names before)

raised_wanted : (names : List Text) (before now : Running) (exception : Exception) → steps_ran names before ≡ Threw exception → Wanted names before now (want.Ended (ended.Raised exception))
raised_wanted names before now exception ran = (sym (ap (λ r. wants (then_run r (done names))) ran) ∙ sym (ap wants (ran_by names before)), tt)

asked_wanted : (names : List Text) (before now : Running) (request : Request) → request_of (steps_ran names before) ≡ Some request → steps_ran names now ≡ steps_ran names before → Wanted names before now (want.Asks request)
asked_wanted names before now request asks same = (
  asked_wants names (steps_ran names before) request asks ∙ sym (ap wants (ran_by names before)),
  unended (want.Asks request) _ (ran_by names now ∙ ap (λ r. then_run r (done names)) same ∙ sym (ran_by names before)),
)

advanced : {E : Type 0} (names : List Text) (before now : Running) (w : Want) (result : Result Want E) → result ≡ Ok w → Wanted names before now w → Advances names before now result
advanced names before now w result is h = subst (Advances names before now) (sym is) h

halted_same : {E : Type 0} (names : List Text) (before stepped now : Running) (h : Interrupt Position) (result : Result Want E) → stepped.program ≡ before.program → Runs flow_of (λ p. steps_at names (arc_value before.program).steps p.step p.inside) (Err h) (store_of stepped.frame) stepped.told.items (steps_ran names before) → Halted h stepped now result → Advances names before now result
halted_same names before stepped now (halt.Raised exception) result same runs halted = advanced names before now (want.Ended (ended.Raised exception)) result halted.0 (raised_wanted names before now exception runs)
halted_same names before stepped now (halt.Asks request place) result same runs halted =
    let at : steps_ran names now ≡ steps_ran names (record stepped { place = place }) = ap (steps_ran names) halted.1 in
    let program : steps_ran names (record stepped { place = place }) ≡ steps_ran names before = ap (λ p. run (steps_at names (arc_value {X = Program} p).steps place.step place.inside (store_of stepped.frame)) stepped.told.items) same ∙ runs.1 in
    advanced names before now (want.Asks request) result halted.0 (asked_wanted names before now request runs.0 (at ∙ program))
halted_same names before stepped now halt.NoMemory (Ok w) same runs halted = absurd halted.0
halted_same names before stepped now halt.NoMemory (Err e) same runs halted = tt

pub halted_advances : {E : Type 0} (names : List Text) (before stepped now : Running) (steps : List Step) (place : Position) (h : Interrupt Position) (result : Result Want E) → steps ≡ (arc_value before.program).steps → place ≡ before.place → stepped.program ≡ before.program → Runs flow_of (λ p. steps_at names steps p.step p.inside) (Err h) (store_of stepped.frame) stepped.told.items (run (steps_at names steps place.step place.inside (store_of before.frame)) before.told.items) → Halted h stepped now result → Advances names before now result
halted_advances names before stepped now steps place h result same at program runs halted =
    let here : Runs flow_of (λ p. steps_at names (arc_value before.program).steps p.step p.inside) (Err h) (store_of stepped.frame) stepped.told.items (run (steps_at names (arc_value before.program).steps place.step place.inside (store_of before.frame)) before.told.items) =
    subst (λ (ss : List Step). Runs flow_of (λ p. steps_at names ss p.step p.inside) (Err h) (store_of stepped.frame) stepped.told.items (run (steps_at names ss place.step place.inside (store_of before.frame)) before.told.items)) same runs in
    let from : Runs flow_of (λ p. steps_at names (arc_value before.program).steps p.step p.inside) (Err h) (store_of stepped.frame) stepped.told.items (steps_ran names before) =
    subst (λ (at : Position). Runs flow_of (λ p. steps_at names (arc_value before.program).steps p.step p.inside) (Err h) (store_of stepped.frame) stepped.told.items (run (steps_at names (arc_value before.program).steps at.step at.inside (store_of before.frame)) before.told.items)) at here in
    halted_same names before stepped now h result program from halted

pub begin_fits : (steps : List Step) (p : Position) → p ≡ record { step = 0; inside = None } → steps_fit steps p ≡ true
begin_fits steps p is = ap (λ (at : Position). steps_fit steps at) is

-- its steps have the place at which it waits then
pub halted_fits : {E : Type 0} (names : List Text) (stepped now : Running) (steps : List Step) (h : Interrupt Position) (result : Result Want E) (ran : Ran Flow) → steps ≡ (arc_value stepped.program).steps → Fits stepped → Runs flow_of (λ p. steps_at names steps p.step p.inside) (Err h) (store_of stepped.frame) stepped.told.items ran → Halted h stepped now result → Fits now
halted_fits names stepped now steps (halt.Raised exception) result ran same fits runs halted = rw halted.1 fits
halted_fits names stepped now steps (halt.Asks request place) result ran same fits runs halted =
    let here : steps_fit steps place ≡ true = asks_fits names steps place (store_of stepped.frame) stepped.told.items ran request runs.0 runs.1 in
    let there : steps_fit (arc_value stepped.program).steps place ≡ true = ap (λ ss. steps_fit ss place) (sym same) ∙ here in
    rw halted.1 there
halted_fits names stepped now steps halt.NoMemory result ran same fits runs halted = rw halted.1 fits
