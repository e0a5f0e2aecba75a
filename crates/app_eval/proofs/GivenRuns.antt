-- The run of an act that asks for nothing.
use Rattle.std.proofs.Common.{◌≡◌, ℕ, List, Result, Ok, Err, ap, refl}
use Rattle.flow_meaning.specs.declared.walk.Answer.{Answer}
use Rattle.flow_meaning.specs.Act.{Act}
use Rattle.flow_meaning.specs.Run.{Ran, Gave, Threw, Asked, run, then_run}
use Rattle.app_eval.specs.declared.operators.Stop.{Stop}
use Rattle.app_eval.specs.declared.operators.Stop.TheVariants as stop
use Rattle.app_eval.specs.declared.operators.Failure.{Failure}
use Rattle.app_eval.specs.declared.operators.Failure.TheVariants as failure
use Rattle.app_eval.specs.Gives.{Fails, StopsRun, stop_of}
use Rattle.flow_base.specs.declared.value.Value.{Value}
use Rattle.body_program.specs.declared.code.Code.{Code}
use Rattle.body_program.specs.declared.code.Code.TheVariants as c
use Rattle.body_program.specs.Meaning.{Slots, code_value}
use Rattle.flow_meaning.proofs.Run.{run-bind}
use Rattle.app_eval.specs.Chains.{call_from, values_calc}
use Rattle.app_eval.proofs.Codes.{value-Call}

-- a failure of an operation that asks for nothing
pub fails_run : {A : Type 0} (f : Failure) (act : Act A) (answers : List Answer) → Fails f act → StopsRun (stop_of f) (run act answers)
fails_run (failure.Raised exception) act answers h = ap (λ b. run b answers) h
fails_run failure.NoMemory act answers h = tt

pub stops_then : {A B : Type 0} (s : Stop) (ran : Ran A) (next : A → Act B) → StopsRun s ran → StopsRun s (then_run ran next)
stops_then (stop.Raised exception) ran next h = ap (λ r. then_run r next) h
stops_then (stop.Asks request) (Gave a left) next h = absurd (cc)
stops_then (stop.Asks request) (Threw exception) next h = absurd (cc)
stops_then (stop.Asks request) (Asked asked go) next h = h
stops_then stop.NoMemory ran next h = tt

-- a call whose arguments are known
pub run-Call : (slots : Slots) (app : ℕ) (arguments names : List Code) (vs : List Value) (answers left : List Answer) → run (values_calc slots arguments) answers ≡ Gave vs left → run (code_value slots (c.Call app arguments names)) answers ≡ run (call_from slots app vs names) left
run-Call slots app arguments names vs answers left h = rw (value-Call, run-bind (values_calc slots arguments), h) refl
