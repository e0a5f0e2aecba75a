use Rattle.app_check.proofs.Definitions.{app_next, apps_end}
use Rattle.app_check.proofs.definition.see_apps.Goals as goal

pub loop-number-preserved : goal.loop-number-preserved
loop-number-preserved c = app_next c.args.apps.now c.loop-number.number c.index-apps-number.result _ _ _ c.loop-number-test.true c.index-apps-number.is c.in_ok-see_app.ensures c.loop-number.invariant

pub returns : goal.returns
returns c = apps_end c.args.apps.now c.loop-number.number _ _ c.loop-number-test.false c.loop-number.invariant
