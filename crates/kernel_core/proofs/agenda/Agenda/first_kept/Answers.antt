use Rattle.std.proofs.Common.{arith}
use Rattle.kernel_core.proofs.Serving.{first-place, at-is-over}
use Rattle.kernel_core.proofs.KeptPlaces.{get-at, kept-at, found-is-none, needs-by, none-next, none-at-all}
use Rattle.kernel_core.proofs.agenda.Agenda.first_kept.Goals as goal

pub returns-then-self-gt0 : goal.returns-then-self-gt0
returns-then-self-gt0 g c = first-place _ _ c.args.state.now c.self.view_is c.requires.serves (omega (arith, c.if-self-gt0.true))

pub unstored-requires : goal.unstored-requires
unstored-requires g c = at-is-over _ _ c.args.state.now c.index.result.now c.loop-i.i c.self.view_is c.requires.serves (get-at _ c.index.result.now c.loop-i.i c.index.result.now (omega (arith, c.loop-i-test.true, c.len-i-end.ensures)) c.index.ensures)

pub returns-then-is_none : goal.returns-then-is_none
returns-then-is_none g c =
    let at = get-at _ c.index.result.now c.loop-i.i c.index.result.now (omega (arith, c.loop-i-test.true, c.len-i-end.ensures)) c.index.ensures in
    kept-at _ _ c.args.state.now c.index.result.now c.loop-i.i c.self.view_is (omega (arith, c.if-self-gt0.false)) at (found-is-none c.in_ok-unstored.field-0 _ _ c.if-is_none.ensures c.in_ok-unstored.ensures)

pub loop-i-preserved : goal.loop-i-preserved
loop-i-preserved g c =
    let at = get-at _ c.index.result.now c.loop-i.i c.index.result.now (omega (arith, c.loop-i-test.true, c.len-i-end.ensures)) c.index.ensures in
    none-next _ _ c.args.state.now c.index.result.now c.loop-i.i c.self.view_is at (needs-by c.args.state.now c.index.result.now c.in_ok-unstored.field-0 c.in_ok-unstored.ensures c.if-is_none.ensures) c.loop-i.invariant

pub returns : goal.returns
returns g c = none-at-all _ _ c.args.state.now c.loop-i.i c.self.view_is (omega (arith, c.loop-i-test.false, c.len-i-end.ensures)) c.loop-i.invariant
