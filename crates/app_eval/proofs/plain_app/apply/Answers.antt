use Rattle.std.proofs.Common.{slice_get}
use Rattle.std.specs.Arc.{arc_value}
use Rattle.app_eval.proofs.Scripts.{applies}
use Rattle.app_eval.proofs.plain_app.apply.Goals as goal

pub returns : goal.returns
returns c =
    let apps = c.args.script.now.tree.0 in
    applies apps (slice_get apps c.args.app) (arc_value c.body.result.now) (arc_value c.in_ok-clone.field-0) c.args.arguments.now c.args.names.now c.end_alone.result c.requires c.body.ensures c.in_ok-clone.ensures.cases c.end_alone.ensures
