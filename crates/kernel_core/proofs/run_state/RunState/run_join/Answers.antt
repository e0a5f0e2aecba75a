use Rattle.std.proofs.Common.{refl, ◌∙◌, ap, subst, arith}
use Rattle.kernel_model.specs.Limits.{stored}
use Rattle.kernel_core.specs.Views.{IsFact}
use Rattle.kernel_core.proofs.JoiningBodies.{join-gives, counts-calls, has-run, carries, body-refused, calls-refused, units-refused, adds-calls, path-reads, ran-stores, ran-stored}
use Rattle.kernel_core.proofs.run_state.RunState.run_join.Goals as goal

pub returns-in-Err-TooMany-clause-refused : goal.returns-in-Err-TooMany-clause-refused
returns-in-Err-TooMany-clause-refused g c =
    let k = c.self.inside in
    body-refused c.args.self.now c.args.k c.args.values c.run_body-body.result c.in-Err-TooMany.field-0 c.requires.can c.in-Err-TooMany.is (rw c.in-Err-TooMany.is at c.in-Err-TooMany.field-0-is)
    (join-gives _ c.args.self.now k.tasks.items k.steps.items k.log.items c.args.k c.args.values c.index.result.now k.script.tree c.path.result.now c.app.result c.run_body-body.result
    c.self.view_is refl c.requires.can c.index.ensures refl c.path.ensures c.app.ensures c.run_body-body.ensures)

pub returns-then-len-clause-refused : goal.returns-then-len-clause-refused
returns-then-len-clause-refused g c =
    let k = c.self.inside in
    let gives = join-gives _ c.args.self.now k.tasks.items k.steps.items k.log.items c.args.k c.args.values c.index.result.now k.script.tree c.path.result.now c.app.result c.run_body-body.result
    c.self.view_is refl c.requires.can c.index.ensures refl c.path.ensures c.app.ensures c.run_body-body.ensures in
    let ran = has-run c.args.self.now c.args.k c.args.values c.run_body-body.result c.in-Ok.body c.requires.can c.in-Ok.is gives in
    let count = counts-calls _ c.args.self.now k.tasks.items k.steps.items k.log.items c.len-2.result c.self.view_is refl (omega (arith, c.len-2.ensures)) in
    calls-refused c.args.self.now c.args.k c.args.values c.in-Ok.body.ended c.in-Ok.body.calls.items c.len-2.result c.len.result ran count (omega (arith, c.len.ensures)) c.if-len.true

pub returns-then-units-self-clause-refused : goal.returns-then-units-self-clause-refused
returns-then-units-self-clause-refused g c =
    let k = c.self.inside in
    let gives = join-gives _ c.args.self.now k.tasks.items k.steps.items k.log.items c.args.k c.args.values c.index.result.now k.script.tree c.path.result.now c.app.result c.run_body-body.result
    c.self.view_is refl c.requires.can c.index.ensures refl c.path.ensures c.app.ensures c.run_body-body.ensures in
    let ran = has-run c.args.self.now c.args.k c.args.values c.run_body-body.result c.in-Ok.body c.requires.can c.in-Ok.is gives in
    let count = counts-calls _ c.args.self.now k.tasks.items k.steps.items k.log.items c.len-2.result c.self.view_is refl (omega (arith, c.len-2.ensures)) in
    units-refused c.args.self.now c.args.k c.args.values c.in-Ok.body.ended c.in-Ok.body.calls.items c.len-2.result c.len.result k.stored c.all_units-units.result
    (subst IsFact c.self.view_is c.self.invariant.0.fact) ran count (omega (arith, c.len.ensures)) c.if-len.false (c.self.invariant.0.units_are ∙ ap stored c.self.view_is) (rw (← c.as_slice.ensures.value) c.all_units-units.ensures) c.if-units-self.true

pub submit_calls-requires : goal.submit_calls-requires
submit_calls-requires g c =
    let k = c.self.inside in
    let gives = join-gives _ c.args.self.now k.tasks.items k.steps.items k.log.items c.args.k c.args.values c.index.result.now k.script.tree c.path.result.now c.app.result c.run_body-body.result
    c.self.view_is refl c.requires.can c.index.ensures refl c.path.ensures c.app.ensures c.run_body-body.ensures in
    let ran = has-run c.args.self.now c.args.k c.args.values c.run_body-body.result c.in-Ok.body c.requires.can c.in-Ok.is gives in
    let count = counts-calls _ c.args.self.now k.tasks.items k.steps.items k.log.items c.len-2.result c.self.view_is refl (omega (arith, c.len-2.ensures)) in
    adds-calls c.args.self.now c.args.k c.args.values c.in-Ok.body.ended c.in-Ok.body.calls.items c.len-2.result c.len.result k.stored c.all_units-units.result
    (subst IsFact c.self.view_is c.self.invariant.0.fact) ran count (omega (arith, c.len.ensures)) c.if-len.false (c.self.invariant.0.units_are ∙ ap stored c.self.view_is) (rw (← c.as_slice.ensures.value) c.all_units-units.ensures) c.if-units-self.false

pub returns-clause-ok : goal.returns-clause-ok
returns-clause-ok g c =
    let k = c.self.inside in
    let gives = join-gives _ c.args.self.now k.tasks.items k.steps.items k.log.items c.args.k c.args.values c.index.result.now k.script.tree c.path.result.now c.app.result c.run_body-body.result
    c.self.view_is refl c.requires.can c.index.ensures refl c.path.ensures c.app.ensures c.run_body-body.ensures in
    let ran = has-run c.args.self.now c.args.k c.args.values c.run_body-body.result c.in-Ok.body c.requires.can c.in-Ok.is gives in
    carries c.args.self.now _ c.args.k c.args.values c.in-Ok.body.ended c.in-Ok.body.calls.items ran c.in_ok-submit_calls.ensures.ok

pub store_join-requires : goal.store_join-requires
store_join-requires g c =
    let k = c.self.inside in
    let gives = join-gives _ c.args.self.now k.tasks.items k.steps.items k.log.items c.args.k c.args.values c.index.result.now k.script.tree c.path.result.now c.app.result c.run_body-body.result
    c.self.view_is refl c.requires.can c.index.ensures refl c.path.ensures c.app.ensures c.run_body-body.ensures in
    let ran = has-run c.args.self.now c.args.k c.args.values c.run_body-body.result c.in-Ok.body c.requires.can c.in-Ok.is gives in
    let path = path-reads _ c.args.self.now k.tasks.items k.steps.items k.log.items c.args.k c.args.values c.index-2.result.now c.path-2.result.now c.self.view_is refl c.requires.can c.index-2.ensures c.path-2.ensures in
    ran-stores c.args.graph.now c.args.self.now c.args.k c.args.values c.in-Ok.body.ended c.in-Ok.body.calls.items c.path-2.result.now c.as_slice-2.result.now ran c.requires.store path c.as_slice-2.ensures.value

pub returns-clause-stored : goal.returns-clause-stored
returns-clause-stored g c =
    let k = c.self.inside in
    let gives = join-gives _ c.args.self.now k.tasks.items k.steps.items k.log.items c.args.k c.args.values c.index.result.now k.script.tree c.path.result.now c.app.result c.run_body-body.result
    c.self.view_is refl c.requires.can c.index.ensures refl c.path.ensures c.app.ensures c.run_body-body.ensures in
    let ran = has-run c.args.self.now c.args.k c.args.values c.run_body-body.result c.in-Ok.body c.requires.can c.in-Ok.is gives in
    let path = path-reads _ c.args.self.now k.tasks.items k.steps.items k.log.items c.args.k c.args.values c.index-2.result.now c.path-2.result.now c.self.view_is refl c.requires.can c.index-2.ensures c.path-2.ensures in
    ran-stored c.args.graph.now c.store_join.new.graph c.args.self.now c.args.k c.args.values c.in-Ok.body.ended c.in-Ok.body.calls.items c.path-2.result.now c.as_slice-2.result.now ran path c.as_slice-2.ensures.value c.in_ok-store_join.ensures.ok
