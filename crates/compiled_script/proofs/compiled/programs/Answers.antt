use Rattle.std.proofs.Common.{List, subst}
use Rattle.std.specs.Arc.{arc_value}
use Rattle.script_tree.specs.declared.tree.AppDef.{AppDef}
use Rattle.compiled_script.specs.Programs.{IsProgramOfApp}
use Rattle.compiled_script.proofs.Bodies.{next}
use Rattle.compiled_script.proofs.compiled.programs.Goals as goal

pub loop-app-preserved : goal.loop-app-preserved
loop-app-preserved c =
    let is = subst (λ (apps : List AppDef). IsProgramOfApp apps c.app-item.result (arc_value c.in_ok-app_program.field-0)) c.in_ok-known.ensures c.in_ok-app_program.ensures in
    rw c.in_ok-push.ensures.items (next c.apps-apps.result.now c.apps-apps.result.now c.loop-app.app-index c.app-item.result c.loop-app.bodies.items c.in_ok-app_program.field-0 c.loop-app-test.true c.app-item.is c.loop-app.invariant is)
