use Rattle.std.proofs.Common.{◌≡◌, ◌++◌, take, length, IsTrue}
use Rattle.flow_base.proofs.Pieces.{done, Left}
use Rattle.flow_base.proofs.sink.write_whole.Given as goal

abbrev pub invariant-loop-rest : goal.invariant-loop-rest
invariant-loop-rest g l =
    let sink = g.S.Sink in
    record {
      left : Left l.bytes l.rest;
      taken : IsTrue sink.tells → (sink.state l.sink).taken ≡ (sink.state l.fn.sink).taken ++ take (done l.bytes l.rest) l.bytes;
      kept : (sink.state l.sink).faults ≡ (sink.state l.fn.sink).faults;
    }

abbrev pub decreases-loop-rest : goal.decreases-loop-rest
decreases-loop-rest g l = length l.rest
