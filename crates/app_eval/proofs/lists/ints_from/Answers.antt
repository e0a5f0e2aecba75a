use Rattle.std.proofs.Common.{arith, ◌+ℤ◌, ◌<ℤ◌, pos, w64, to_z, of_z}
use Rattle.std.proofs.lemmas.Int.{ints}
use Rattle.app_eval.proofs.Ranges.{ints_preserved}
use Rattle.app_eval.proofs.lists.ints_from.Goals as goal

pub loop-n-preserved : goal.loop-n-preserved
loop-n-preserved c =
    let n = to_z w64 c.loop-n.n-bits in
    let next = to_z w64 (of_z w64 (n +ℤ pos 1)) in
    let to = to_z w64 (of_z w64 c.args.to) in
    let below = c.loop-n-test.true in
    let h : n <ℤ to = grind (arith, ints) in
    ints_preserved c.loop-n.ints c.push.new.self _ n next to c.in_ok-push.ensures.ok (omega (arith, ints)) h c.loop-n.invariant
