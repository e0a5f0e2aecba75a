use Rattle.std.proofs.Common.{refl, ◌∙◌, arith}
use Rattle.kernel_model.specs.Acts.{stored_by}
use Rattle.kernel_core.proofs.RunReadings.{shows}
use Rattle.kernel_core.proofs.StateViews.{indexed-behind}
use Rattle.kernel_core.proofs.StoringActs.{saved-same, store-view, store-refused, store-sound, store-ends, store-path}
use Rattle.kernel_core.proofs.run_state.RunState.store.Goals as goal

pub returns-then-units-self-clause-refused : goal.returns-then-units-self-clause-refused
returns-then-units-self-clause-refused c =
    let w = c.args.self.now in
    let s = shows _ w c.self.inside.tasks.items c.self.view_is refl refl in
    let may = c.requires in
    let ends = store-ends _ w c.self.inside.tasks.items c.self.inside.steps.items c.self.inside.running c.self.inside.stored c.args.k c.index.result.now c.in-Some.outcome c.self.view_is s c.self.invariant.0 may.unstored.store.over c.index.ensures c.in-Some.is in
    store-refused _ w c.self.inside.tasks.items c.self.inside.steps.items c.self.inside.running c.self.inside.stored c.key_units.result c.outcome_units.result c.saturating_add-units.result c.args.k c.args.key c.in-Some.outcome c.self.view_is c.self.invariant.0 may ends c.key_units.ensures c.outcome_units.ensures c.saturating_add-units.ensures c.if-units-self.true

pub invariant_of-self-2 : goal.invariant_of-self-2
invariant_of-self-2 c =
    let w = c.args.self.now in
    let s = shows _ w c.self.inside.tasks.items c.self.view_is refl refl in
    let may = c.requires in
    let ends = store-ends _ w c.self.inside.tasks.items c.self.inside.steps.items c.self.inside.running c.self.inside.stored c.args.k c.index.result.now c.in-Some.outcome c.self.view_is s c.self.invariant.0 may.unstored.store.over c.index.ensures c.in-Some.is in
    let path = store-path _ w c.self.inside.tasks.items c.self.inside.steps.items c.self.inside.running c.self.inside.stored c.args.k c.index-2.result.now c.in_ok-path.path c.self.view_is s c.self.invariant.0 may.unstored.store.over c.index-2.ensures (c.in_ok-path.ensures ∙ c.path.ensures) in
    let saved = may.unstored.saved in
    let is = store-view _ w c.args.k c.args.key c.in_ok-saved.saved saved c.store.new.self c.self.inside.log.items c.reserve.new.self.items c.push_reserved.new.self.items c.in_ok-path.path c.self.view_is refl (saved-same w c.args.k c.args.key c.in_ok-saved.saved saved c.in-Some.outcome ends c.in_ok-saved.ensures may.unstored.store) c.in_ok-store.ensures.ok path c.in_ok-reserve.ensures.items c.push_reserved.ensures.items in (
      store-sound _ w _ c.self.inside.tasks.items c.self.inside.steps.items c.self.inside.running c.self.inside.stored c.key_units.result c.outcome_units.result c.saturating_add-units.result c.args.k c.args.key saved c.in-Some.outcome c.self.view_is c.self.invariant.0 may may.unstored.store ends c.key_units.ensures c.outcome_units.ensures c.saturating_add-units.ensures c.if-units-self.false is,
      indexed-behind _ w (stored_by w c.args.k c.args.key saved) _ c.self.inside.places c.self.inside.mains c.self.view_is c.self.invariant.1 refl refl is,
      c.self.invariant.2,
      omega (arith, c.in_ok-reserve.ensures.ok, c.push_reserved.ensures.len, c.push_reserved.ensures.capacity),
    )

pub returns-clause-ok : goal.returns-clause-ok
returns-clause-ok c saved store =
    let w = c.args.self.now in
    let s = shows _ w c.self.inside.tasks.items c.self.view_is refl refl in
    let may = c.requires in
    let ends = store-ends _ w c.self.inside.tasks.items c.self.inside.steps.items c.self.inside.running c.self.inside.stored c.args.k c.index.result.now c.in-Some.outcome c.self.view_is s c.self.invariant.0 may.unstored.store.over c.index.ensures c.in-Some.is in
    let path = store-path _ w c.self.inside.tasks.items c.self.inside.steps.items c.self.inside.running c.self.inside.stored c.args.k c.index-2.result.now c.in_ok-path.path c.self.view_is s c.self.invariant.0 may.unstored.store.over c.index-2.ensures (c.in_ok-path.ensures ∙ c.path.ensures) in
    store-view _ w c.args.k c.args.key c.in_ok-saved.saved saved c.store.new.self c.self.inside.log.items c.reserve.new.self.items c.push_reserved.new.self.items c.in_ok-path.path c.self.view_is refl (saved-same w c.args.k c.args.key c.in_ok-saved.saved saved c.in-Some.outcome ends c.in_ok-saved.ensures store) c.in_ok-store.ensures.ok path c.in_ok-reserve.ensures.items c.push_reserved.ensures.items
