use Rattle.std.proofs.Common.{refl}
use Rattle.app_check.proofs.Definitions.{none_seen, parameter_next, parameters_end}
use Rattle.app_check.proofs.definition.see_names.Goals as goal

pub loop-before-preserved : goal.loop-before-preserved
loop-before-preserved c = parameter_next c.in-Some.rest.now c.loop-before.before _ c.index-rest-before.result _ _ _ _ c.loop-before-test.true c.index-rest-before.is refl c.pass_other.ensures c.in_ok-take_parameter-2.ensures c.loop-before.invariant

pub returns-after-loop-before : goal.returns-after-loop-before
returns-after-loop-before c = parameters_end c.in-Some.rest.now c.loop-before.before _ _ c.loop-before-test.false c.loop-before.invariant

pub returns-in_default : goal.returns-in_default
returns-in_default c = none_seen c.args.names.now _ c.in_default.ensures.cases
