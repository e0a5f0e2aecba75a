-- What a body that runs has left, and what it wants next.
use Rattle.std.specs.Prelude.{◌≡◌, ℕ, true, List, Result, Ok, Err, IfOk}
use Rattle.std.specs.Arc.{arc_value}
use Rattle.flow_base.specs.declared.outcome.Ended.{Ended}
use Rattle.flow_base.specs.declared.outcome.Ended.TheVariants as ended
use Rattle.flow_base.specs.declared.outcome.Exception.TheVariants as x
use Rattle.flow_meaning.specs.Act.{Act, ◌>>=◌}
use Rattle.flow_meaning.specs.Operators.{Text}
use Rattle.flow_meaning.specs.Meaning as m
use Rattle.flow_meaning.specs.Run.{Ran, Gave, Threw, Asked, run}
use Rattle.body_program.specs.Meaning.{done}
use Rattle.app_eval.specs.declared.position.Interrupt.{Interrupt}
use Rattle.app_eval.specs.declared.position.Interrupt.TheVariants as halt
use Rattle.app_eval.specs.declared.position.Position.{Position}
use Rattle.app_eval.specs.declared.running.Running.{Running}
use Rattle.app_eval.specs.declared.running.Want.{Want}
use Rattle.app_eval.specs.declared.running.Want.TheVariants as want
use Rattle.app_eval.specs.Does.{steps_at}
use Rattle.app_eval.specs.Frames.{store_of}
use Rattle.app_eval.specs.Positions.{steps_fit}

-- its steps have the position at which it waits
abbrev pub Fits : Running → Type 0
Fits r = steps_fit (arc_value r.program).steps r.place ≡ true

-- what it does from its place on, with the answers of the statement there still to come
abbrev pub left_after : List Text → Running → Act m.Done
left_after names r = steps_at names (arc_value r.program).steps r.place.step r.place.inside (store_of r.frame) >>= done names

abbrev pub ran_of : List Text → Running → Ran m.Done
ran_of names r = run (left_after names r) r.told.items

-- the next request, or the end
abbrev pub wants : Ran m.Done → Want
wants (Gave d left) = want.Ended (ended.Value d.0 d.1)
wants (Threw exception) = want.Ended (ended.Raised exception)
wants (Asked request go) = want.Asks request

-- It ends by the exception, or wants what it asks for and waits at the place.
abbrev pub Halted : {E : Type 0} → Interrupt Position → Running → Running → Result Want E → Type 0
Halted (halt.Raised exception) before now result = (result ≡ Ok (want.Ended (ended.Raised exception))) × (now ≡ before)
Halted (halt.Asks request place) before now result = (result ≡ Ok (want.Asks request)) × (now ≡ record before { place = place })
Halted halt.NoMemory before now result = (IfOk result (λ want. ⊥)) × (now ≡ before)

-- a statement about what waits, where something waits
abbrev pub Unended : Want → Type 0 → Type 0
Unended (want.Ended e) t = Unit {0}
Unended _ t = t

-- It wants what comes next, and has the same left.
abbrev pub Advances : {E : Type 0} → List Text → Running → Running → Result Want E → Type 0
Advances names before now (Err e) = Unit {0}
Advances names before now (Ok want) = (want ≡ wants (ran_of names before)) × Unended want (ran_of names now ≡ ran_of names before)

-- how a plain app ends: a request is a TypeError
abbrev pub ended_in : Want → Ended
ended_in (want.Ended e) = e
ended_in _ = ended.Raised x.TypeError

-- a walk as contracts see it: its body, and how often it may still be resumed
pub record Walk : Type 0 where
  pub running : Running
  pub rest : ℕ
