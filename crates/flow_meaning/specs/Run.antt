-- An act with the answers to its first requests: what it gives, with the answers that are left, or what it
-- asks for next.
use Rattle.std.specs.Prelude.{List, [], ◌∷◌, Option, Some, None}
use Rattle.flow_base.specs.declared.outcome.Exception.{Exception}
use Rattle.flow_meaning.specs.declared.walk.Request.{Request}
use Rattle.flow_meaning.specs.declared.walk.Answer.{Answer}
use Rattle.flow_meaning.specs.Act.{Act, Give, Throw, Ask, ◌>>=◌}

pub data Ran (A : Type 0) : Type 0 where
  Gave : A → List Answer → Ran A
  Threw : Exception → Ran A
  Asked : Request → (Answer → Act A) → Ran A

abbrev pub run : {A : Type 0} → Act A → List Answer → Ran A
run (Give a) rs = Gave a rs
run (Throw x) rs = Threw x
run (Ask request go) [] = Asked request go
run (Ask request go) (r ∷ rs) = run (go r) rs

-- the run of what comes behind
abbrev pub then_run : {A B : Type 0} → Ran A → (A → Act B) → Ran B
then_run (Gave a rs) f = run (f a) rs
then_run (Threw x) f = Threw x
then_run (Asked request go) f = Asked request (λ r. go r >>= f)

-- what it asks for, where the answers run out
abbrev pub request_of : {A : Type 0} → Ran A → Option Request
request_of (Asked request go) = Some request
request_of _ = None
