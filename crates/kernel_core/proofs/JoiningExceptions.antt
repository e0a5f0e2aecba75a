-- What the body of a join throws is of its own.
use Rattle.std.proofs.Common.{List, [], map}
use Rattle.std.specs.Prelude.{Result, Ok, Err}
use Rattle.flow_base.specs.declared.value.Value.{Value}
use Rattle.flow_base.specs.declared.outcome.Exception.{Exception}
use Rattle.script_tree.specs.declared.tree.AppDef.{AppDef}
use Rattle.flow_meaning.specs.declared.walk.Request.TheVariants as request
use Rattle.flow_meaning.specs.declared.walk.Answer.TheVariants as answer
use Rattle.flow_meaning.specs.Act.{Act, Give, Throw, Ask}
use Rattle.flow_meaning.specs.Inputs.{Path}
use Rattle.flow_meaning.specs.Sequential.{perform}
use Rattle.flow_meaning.specs.Meaning.{Done, body}
use Rattle.body_requests.proofs.OwnExceptions.{IsOwn, Own}
use Rattle.body_requests.proofs.OwnBlocks.{own_body}
use Rattle.call_rules.specs.Calls.{Call, dry_answer, join_dry}

abbrev pub GivesOwn : Result Done Exception → Type 0
GivesOwn (Ok d) = Unit {0}
GivesOwn (Err exception) = IsOwn exception

dry_own : (caller : Path) (act : Act Done) (cs : List Call) → Own act → GivesOwn (perform (dry_answer caller) act cs).0
dry_own caller (Give d) cs h = tt
dry_own caller (Throw exception) cs h = h
dry_own caller (Ask (request.Call app arguments names) go) cs h = let r = dry_answer caller (request.Call app arguments names) cs in dry_own caller (go r.0) r.1 (h r.0 tt)
dry_own caller (Ask (request.WaitValue f) go) cs h = dry_own caller (go answer.Go) cs (h answer.Go tt)
dry_own caller (Ask (request.WaitName f) go) cs h = dry_own caller (go answer.Go) cs (h answer.Go tt)
dry_own caller (Ask (request.Print value) go) cs h = dry_own caller (go answer.Go) cs (h answer.Go tt)
dry_own caller (Ask request.Checkpoint go) cs h = dry_own caller (go answer.Go) cs (h answer.Go tt)

-- what the body of a join throws is its own
pub join-own : (apps : List AppDef) (path : Path) (app : AppDef) (arguments : List Value) → GivesOwn (join_dry apps path app arguments).0
join-own apps path app arguments = dry_own path (body (map (λ (a : AppDef). a.name) apps) app.body app.parameters arguments []) [] (own_body (map (λ (a : AppDef). a.name) apps) [] app.body app.parameters arguments)
