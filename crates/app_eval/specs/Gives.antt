-- What an evaluating function returned, against the meaning.
use Rattle.std.specs.Prelude.{◌≡◌, List, Result, Ok, Err, Some}
use Rattle.std.specs.Borrow.{Bor}
use Rattle.flow_base.specs.declared.value.Value.{Value}
use Rattle.flow_base.specs.declared.outcome.Exception.{Exception}
use Rattle.flow_meaning.specs.Act.{Act, Give, Throw, Ask}
use Rattle.flow_meaning.specs.declared.walk.Answer.{Answer}
use Rattle.app_eval.specs.declared.operators.Failure.{Failure}
use Rattle.app_eval.specs.declared.operators.Failure.TheVariants as failure
use Rattle.app_eval.specs.declared.operators.Stop.{Stop}
use Rattle.app_eval.specs.declared.operators.Stop.TheVariants as stop
use Rattle.flow_meaning.specs.Run.{Ran, Gave, Threw, request_of}

-- ---- operations that neither allocate nor ask: exact

abbrev pub Answers : {A : Type 0} → Result A Exception → Act A → Type 0
Answers (Ok a) act = act ≡ Give a
Answers (Err exception) act = act ≡ Throw exception

-- one that answers where a value stands
abbrev pub AnswersRef : Result (Bor Value) Exception → Act Value → Type 0
AnswersRef (Ok a) act = act ≡ Give a.now
AnswersRef (Err exception) act = act ≡ Throw exception

-- ---- operations that allocate and don't ask

abbrev pub IsGiven : {A : Type 0} → Act A → Type 0
IsGiven (Give a) = Unit {0}
IsGiven (Throw exception) = ⊥
IsGiven (Ask request go) = ⊥

-- a test that comes before: whether there is a value, or the exception
abbrev pub Permits : {A : Type 0} → Result (Unit {0}) Exception → Act A → Type 0
Permits (Ok _) act = IsGiven act
Permits (Err exception) act = act ≡ Throw exception

-- Memory is wanted only where there is a value: an exception is raised before anything is allocated.
abbrev pub Fails : {A : Type 0} → Failure → Act A → Type 0
Fails (failure.Raised exception) act = act ≡ Throw exception
Fails failure.NoMemory act = IsGiven act

abbrev pub Gives : {A : Type 0} → Result A Failure → Act A → Type 0
Gives (Ok a) act = act ≡ Give a
Gives (Err f) act = Fails f act

-- one that copies what it raises, so that memory may be wanted before
abbrev pub Tells : {A : Type 0} → Result A Failure → Act A → Type 0
Tells (Ok a) act = act ≡ Give a
Tells (Err (failure.Raised exception)) act = act ≡ Throw exception
Tells (Err failure.NoMemory) act = Unit {0}

-- one that changes a value to what is given
abbrev pub Becomes : {A : Type 0} → Result (Unit {0}) Failure → A → Act A → Type 0
Becomes (Ok _) new act = act ≡ Give new
Becomes (Err f) new act = Fails f act

-- ---- evaluations that may ask, with the answers that are left

abbrev pub stop_of : Failure → Stop
stop_of (failure.Raised exception) = stop.Raised exception
stop_of failure.NoMemory = stop.NoMemory

abbrev pub StopsRun : {A : Type 0} → Stop → Ran A → Type 0
StopsRun (stop.Raised exception) ran = ran ≡ Threw exception
StopsRun (stop.Asks request) ran = request_of ran ≡ Some request
StopsRun stop.NoMemory ran = Unit {0}

abbrev pub GivesRun : {A : Type 0} → Result A Stop → List Answer → Ran A → Type 0
GivesRun (Ok a) left ran = ran ≡ Gave a left
GivesRun (Err s) left ran = StopsRun s ran
