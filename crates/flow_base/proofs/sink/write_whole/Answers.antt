use Rattle.flow_base.proofs.Pieces.{left-behind, piece-behind}
use Rattle.std.proofs.Common.{◌∙◌}
use Rattle.flow_base.proofs.sink.write_whole.Goals as goal

pub loop-rest-preserved : goal.loop-rest-preserved
loop-rest-preserved g c =
    let inv = c.loop-rest.invariant in
    let took = c.in_ok-count.ensures in
    record {
      left = left-behind _ _ _ took.most inv.left;
      taken = λ tells. piece-behind _ _ _ _ _ _ inv.left took.most (inv.taken tells) (took.taken tells);
      kept = took.cause.kept ∙ inv.kept;
    }
