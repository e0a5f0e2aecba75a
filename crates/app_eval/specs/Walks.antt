-- What a walk has left to do, and what it wants next.
use Rattle.std.specs.Prelude.{◌≡◌, ℕ, List, [], ◌∷◌, Result, Ok, Err}
use Rattle.flow_base.specs.declared.outcome.Ended.TheVariants as ended
use Rattle.flow_meaning.specs.declared.walk.Answer.{Answer}
use Rattle.flow_meaning.specs.Act.{Act, Give, Throw, Ask, after}
use Rattle.flow_meaning.specs.Meaning as m
use Rattle.flow_meaning.specs.Run.{Ran, Gave, Threw, Asked}
use Rattle.app_eval.specs.declared.running.Want.{Want}
use Rattle.app_eval.specs.declared.running.Want.TheVariants as want
use Rattle.app_eval.specs.declared.walker.Reply.{Reply}
use Rattle.app_eval.specs.declared.walker.Reply.TheVariants as reply
use Rattle.app_eval.specs.Runnings.{Unended, Walk, ran_of}

-- what is left of a run: the act that follows the answers so far
abbrev pub act_of : Ran m.Done → Act m.Done
act_of (Gave d left) = Give d
act_of (Threw exception) = Throw exception
act_of (Asked request go) = Ask request go

-- what a walk has left to do
abbrev pub left_of : Walk → Act m.Done
left_of w = act_of (ran_of [] w.running)

-- how often it may still be resumed
abbrev pub rest_of : Walk → ℕ
rest_of w = w.rest

abbrev pub answers_of : Reply → List Answer
answers_of reply.Begin = []
answers_of (reply.Told answer) = answer ∷ []

-- what an act wants first
abbrev pub first_want : Act m.Done → Want
first_want (Give d) = want.Ended (ended.Value d.0 d.1)
first_want (Throw exception) = want.Ended (ended.Raised exception)
first_want (Ask request go) = want.Asks request

-- A resume wants what comes first in the act that is left after the reply, and that act is left.
abbrev pub Resumes : {E : Type 0} → Walk → Walk → Reply → Result Want E → Type 0
Resumes before now reply (Err e) = Unit {0}
Resumes before now reply (Ok want) = (want ≡ first_want (after (left_of before) (answers_of reply))) × Unended want (left_of now ≡ after (left_of before) (answers_of reply))
