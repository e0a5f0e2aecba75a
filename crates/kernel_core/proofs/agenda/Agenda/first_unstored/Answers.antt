use Rattle.std.proofs.Common.{◌+◌, refl, arith, inl, inr, length}
use Rattle.std.proofs.lemmas.Bool.{cases_lt}
use Rattle.kernel_core.proofs.Serving.{at-is-over, passed-serves, same-serves}
use Rattle.kernel_core.proofs.KeptPlaces.{get-at, kept-itself, kept-more, found-some, found-none}
use Rattle.kernel_core.proofs.agenda.Agenda.first_unstored.Goals as goal

pub loop-k-init : goal.loop-k-init
loop-k-init g c = (kept-itself _ _ c.self.view_is, same-serves _ _ c.args.state.now c.self.view_is c.requires.serves)

pub unstored-requires : goal.unstored-requires
unstored-requires g c = at-is-over _ _ c.args.state.now c.in-Some.k.now c.loop-k.self-inside.kept refl c.loop-k.invariant.1 (get-at _ c.in-Some.k.now c.loop-k.self-inside.kept c.in-Some.k.now (omega (arith, c.in-Some.ensures.variant.0 refl)) c.in-Some.ensures.lookup)

pub loop-k-preserved : goal.loop-k-preserved
loop-k-preserved g c =
    let at = get-at _ c.in-Some.k.now c.loop-k.self-inside.kept c.in-Some.k.now (omega (arith, c.in-Some.ensures.variant.0 refl)) c.in-Some.ensures.lookup in
    let done = found-none c.in_ok-key.field-0 _ _ c.in_default-2.not-Some c.in_ok-key.ensures in
    (kept-more c.args.self.now _ (c.loop-k.self-inside.kept + 1) c.loop-k.invariant.0, passed-serves _ _ c.args.state.now c.in-Some.k.now c.loop-k.invariant.1 at done refl)

pub loop-k-smaller : goal.loop-k-smaller
loop-k-smaller g c = omega (arith, c.in-Some.ensures.variant.0 refl)

pub returns-in-Some-2-clause-found : goal.returns-in-Some-2-clause-found
returns-in-Some-2-clause-found g c =
    let at = get-at _ c.in-Some.k.now c.loop-k.self-inside.kept c.in-Some.k.now (omega (arith, c.in-Some.ensures.variant.0 refl)) c.in-Some.ensures.lookup in
    record { at = at; unstored = found-some c.in_ok-key.field-0 c.in-Some-2.key _ _ c.in-Some-2.is c.in_ok-key.ensures }

pub returns-clause-found : goal.returns-clause-found
returns-clause-found g c =
    let few = c.loop-k.invariant.1.front.within in
    elim (cases_lt c.loop-k.self-inside.kept (length c.loop-k.self-inside.over.items)) [
      | inl lt ↦ let bad = c.in_default.ensures.variant.1 (omega (arith, lt)) in absurd (cc)
      | inr ge ↦ omega (arith, few, ge)
    ]
