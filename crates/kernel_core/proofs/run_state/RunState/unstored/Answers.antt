use Rattle.std.proofs.Common.{refl, ◌∙◌, sym, ap}
use Rattle.kernel_model.specs.Known.{Known}
use Rattle.kernel_core.proofs.RunReadings.{shows}
use Rattle.kernel_core.proofs.Recalling.{over-within, over-app}
use Rattle.kernel_core.proofs.Storing.{over-values, over-key, looked, kept-found, unstored-is}
use Rattle.kernel_core.proofs.run_state.RunState.unstored.Goals as goal

pub has_value-requires : goal.has_value-requires
has_value-requires c = over-within c.args.self.now c.args.k c.facts.ensures.fact.inv c.requires

pub is_cached-requires : goal.is_cached-requires
is_cached-requires c = over-within c.args.self.now c.args.k c.facts.ensures.fact.inv c.requires

pub key-requires-clause-there : goal.key-requires-clause-there
key-requires-clause-there c = over-app c.args.self.now c.args.k c.facts.ensures.fact.inv c.requires

pub returns-then-is_some : goal.returns-then-is_some
returns-then-is_some c =
    let w = c.args.self.now in
    let s = shows _ w c.self.inside.tasks.items c.self.view_is refl refl in
    let within = over-within w c.args.k c.facts.ensures.fact.inv c.requires in
    let values = over-values w c.self.inside.tasks.items _ c.args.k c.index.result.now c.as_slice.result.now c.in_ok-values.values s c.settled.ensures within c.index.ensures (c.as_slice.ensures ∙ c.arguments-arguments.ensures) c.in_ok-values.ensures in
    let key = over-key w c.args.k c.in_ok-key.key c.in_ok-values.values c.facts.ensures.fact.inv c.requires (sym c.is_cached.ensures ∙ c.if-not-is_cached.false) values c.in_ok-key.ensures in
    kept-found w c.args.k c.in_ok-key.key key (looked c.look.result c.is_some.result c.self.inside.memo w c.in_ok-key.key (ap (λ (u : Known). u.memo) c.self.view_is) c.look.ensures c.is_some.ensures ∙ c.if-is_some.true)

pub returns : goal.returns
returns c =
    let w = c.args.self.now in
    let s = shows _ w c.self.inside.tasks.items c.self.view_is refl refl in
    let within = over-within w c.args.k c.facts.ensures.fact.inv c.requires in
    let values = over-values w c.self.inside.tasks.items _ c.args.k c.index.result.now c.as_slice.result.now c.in_ok-values.values s c.settled.ensures within c.index.ensures (c.as_slice.ensures ∙ c.arguments-arguments.ensures) c.in_ok-values.ensures in
    let key = over-key w c.args.k c.in_ok-key.key c.in_ok-values.values c.facts.ensures.fact.inv c.requires (sym c.is_cached.ensures ∙ c.if-not-is_cached.false) values c.in_ok-key.ensures in
    unstored-is w c.args.k c.in_ok-key.key c.requires key (sym c.has_value.ensures ∙ c.if-not-has_value.false) (looked c.look.result c.is_some.result c.self.inside.memo w c.in_ok-key.key (ap (λ (u : Known). u.memo) c.self.view_is) c.look.ensures c.is_some.ensures ∙ c.if-is_some.false)
