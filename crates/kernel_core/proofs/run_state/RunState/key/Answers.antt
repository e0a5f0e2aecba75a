use Rattle.std.proofs.Common.{refl, ◌∙◌}
use Rattle.std.specs.Arc.{arc_value}
use Rattle.kernel_core.proofs.RunReadings.{shows}
use Rattle.kernel_core.proofs.Recalling.{key-made}
use Rattle.kernel_core.proofs.run_state.RunState.key.Goals as goal

pub returns : goal.returns
returns c =
    let s = shows _ c.args.self.now c.self.inside.tasks.items c.self.view_is refl refl in
    key-made c.new.result _ c.args.self.now c.self.inside.tasks.items c.self.inside.texts c.args.k c.index.result.now (arc_value c.in_ok-text.text) (arc_value c.get.result.now) c.app.result c.args.values c.in_ok-names.names c.self.view_is s c.requires.within
    c.self.invariant.2 c.index.ensures c.get.ensures c.app.ensures c.in_ok-text.ensures.cases (c.in_ok-names.ensures ∙ c.as_slice.ensures ∙ c.names.ensures) c.new.ensures
