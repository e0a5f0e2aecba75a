use Rattle.std.proofs.Common.{◌≡◌, IfOk, refl, subst}
use Rattle.flow_base.specs.declared.outcome.Evaluation.{Evaluation}
use Rattle.kernel_core.specs.Parts.{parts_of}
use Rattle.kernel_model.specs.Evaluated.{evaluated}
use Rattle.kernel_core.proofs.PartsGiven.{parts-are, tasks-distinct}
use Rattle.kernel_core.proofs.run_state.RunState.into_parts.Goals as goal

pub returns-clause-evaluation : goal.returns-clause-evaluation
returns-clause-evaluation c =
    let k = c.self.inside in
    let whole : parts_of c.apps.result.now k.tasks.items k.steps.items k.ending ≡ evaluated c.args.self =
    rw (c.apps.ensures.apps, c.script-2.ensures.script) (parts-are _ _ k.tasks.items k.steps.items c.self.view_is refl refl refl) in
    subst (λ (e : Evaluation). IfOk c.evaluation_of-evaluation.result (λ evaluation. evaluation ≡ e)) whole c.evaluation_of-evaluation.ensures

pub evaluation_of-evaluation-requires : goal.evaluation_of-evaluation-requires
evaluation_of-evaluation-requires c = tasks-distinct c.self.inside.tasks.items c.self.invariant.0.fact.inv.holds.tracks.distinct
