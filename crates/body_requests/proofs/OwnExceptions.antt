-- The exceptions of a body's own: all but that of a failed input.
use Rattle.std.proofs.Common.{Bool, true, false, if◌then◌else◌}
use Rattle.flow_base.specs.declared.outcome.Exception.{Exception}
use Rattle.flow_base.specs.declared.outcome.Exception.TheVariants as x
use Rattle.flow_meaning.specs.declared.walk.Answer.{Answer}
use Rattle.flow_meaning.specs.declared.walk.Answer.TheVariants as answer
use Rattle.flow_meaning.specs.Act.{Act, Give, Throw, Ask, ◌>>=◌}

-- an exception that a body may throw of its own
abbrev pub IsOwn : Exception → Type 0
IsOwn (x.DependencyError paths) = ⊥
IsOwn _ = Unit {0}

-- an answer without the outcome of a task
abbrev pub IsDry : Answer → Type 0
IsDry (answer.Outcome outcome) = ⊥
IsDry _ = Unit {0}

-- what an act throws, where no outcome of a task is answered, is its own
abbrev pub Own : {A : Type 0} → Act A → Type 0
Own (Give a) = Unit {0}
Own (Throw exception) = IsOwn exception
Own (Ask w go) = (a : Answer) → IsDry a → Own (go a)

pub own_then : {A B : Type 0} (a : Act A) (f : A → Act B) → Own a → ((y : A) → Own (f y)) → Own (a >>= f)
own_then (Give a) f h next = next a
own_then (Throw exception) f h next = h
own_then (Ask w go) f h next = λ a dry. own_then (go a) f (h a dry) next

pub own_if : {A : Type 0} (t : Bool) (a : A) (exception : Exception) → IsOwn exception → Own (if t then Give a else Throw exception)
own_if true a exception h = tt
own_if false a exception h = h
