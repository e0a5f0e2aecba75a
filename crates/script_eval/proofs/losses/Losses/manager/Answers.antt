use Rattle.std.proofs.Common.{◌∙◌, vec_items}
use Rattle.script_eval.proofs.LossTable.{looked_up}
use Rattle.script_eval.proofs.losses.Losses.manager.Goals as goal

pub returns : goal.returns
returns c = looked_up vec_items c.self.inside.managers.entries c.args.self.now c.self.view_is c.as_slice.result.now c.args.path.now _ c.as_slice.ensures (c.copied.ensures ∙ c.get.ensures.value)
