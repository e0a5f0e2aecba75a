-- What a part of a body does: it gives something, throws an exception, or asks for something and goes on
-- by the answer. This is the one meaning of bodies: the sequential evaluation answers each request by the
-- rule of a call, a walk is an act after the answers so far, and a plain app's body asks for nothing.
use Rattle.std.specs.Prelude.{List, [], ◌∷◌, ◌++◌}
use Rattle.flow_base.specs.declared.outcome.Exception.{Exception}
use Rattle.flow_meaning.specs.declared.walk.Request.{Request}
use Rattle.flow_meaning.specs.declared.walk.Answer.{Answer}

pub data Act (A : Type 0) : Type 0 where
  Give : A → Act A
  Throw : Exception → Act A
  Ask : Request → (Answer → Act A) → Act A

infixl 10 ◌>>=◌
abbrev pub ◌>>=◌ : {A B : Type 0} → Act A → (A → Act B) → Act B
(Give a) >>= f = f a
(Throw x) >>= f = Throw x
(Ask request go) >>= f = Ask request (λ r. go r >>= f)

-- each of a list in order, behind those that are done
abbrev pub all_from : {A : Type 0} → List A → List (Act A) → Act (List A)
all_from given [] = Give given
all_from given (act ∷ acts) = act >>= λ x. all_from (given ++ x ∷ []) acts

abbrev pub all_of : {A : Type 0} → List (Act A) → Act (List A)
all_of = all_from []

-- what is left of an act after these answers
abbrev pub after : {A : Type 0} → Act A → List Answer → Act A
after a [] = a
after (Ask request go) (r ∷ rs) = after (go r) rs
after a (r ∷ rs) = a
