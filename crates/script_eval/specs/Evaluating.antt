-- What the evaluation of a script answers.
use Rattle.std.specs.Prelude.{◌≡◌, None, Some, Ok, Err}
use Rattle.std.specs.declared.result.Result.{Result}
use Rattle.flow_base.specs.declared.outcome.Evaluation.{Evaluation}
use Rattle.script_tree.specs.Grammar.{Tree}
use Rattle.flow_meaning.specs.Evaluations.{evaluation_in}
use Rattle.flow_meaning.specs.Sequential.{seq}
use Rattle.call_rules.specs.Calls.{Losses}
use Rattle.stored_units.specs.declared.units.Limit.TheVariants as limit
use Rattle.stored_units.specs.Totals.{limit_met}
use Rattle.script_eval.specs.declared.evaluation.EvalFault.{EvalFault}
use Rattle.script_eval.specs.declared.evaluation.EvalFault.TheVariants.{TaskLimit, StoreLimit, NoMemory}

-- the sequential evaluation under these losses where it meets no limit, else the limit that it meets first
abbrev pub Evaluates : Tree → Losses → Result Evaluation EvalFault → Type 0
Evaluates tree losses (Ok evaluation) = (limit_met (seq tree.0 tree.1 losses) ≡ None) × (evaluation ≡ evaluation_in tree.0 (seq tree.0 tree.1 losses))
Evaluates tree losses (Err TaskLimit) = limit_met (seq tree.0 tree.1 losses) ≡ Some limit.Tasks
Evaluates tree losses (Err StoreLimit) = limit_met (seq tree.0 tree.1 losses) ≡ Some limit.Stored
Evaluates tree losses (Err NoMemory) = Unit {0}
