-- The equations of the folds, and of runs.
use Rattle.body_program.specs.declared.code.Code.{fold_out-Code}
use Rattle.body_program.specs.declared.code.Step.{fold_out-Step}
use Rattle.flow_meaning.proofs.Run.{run-bind}
use Rattle.app_eval.proofs.Codes.{value-Constant, value-TooLarge, value-Slot, value-List, value-One, value-Two, value-Three, value-Unknown, value-Call, value-Any, value-All, value-Compared, value-Sum, value-Product, value-At, value-Signed}
use Rattle.app_eval.proofs.GivenRuns.{fails_run, stops_then}

pub ruleset run_rules = (run-bind, fails_run, stops_then)

pub ruleset code_rules = (run-bind, fails_run, stops_then, value-Constant, value-TooLarge, value-Slot, value-List, value-One, value-Two, value-Three, value-Unknown, value-Call, value-Any, value-All, value-Compared, value-Sum, value-Product, value-At, value-Signed)

pub ruleset expr_rules = (run-bind, fold_out-Code)

pub ruleset step_rules = (run-bind, fold_out-Step)
