use Rattle.parsl_engine.proofs.Lines.{pieces-told}
use Rattle.parsl_engine.proofs.exit.tell_unread.Goals as goal

pub returns : goal.returns
returns g c =
    let name = rw c.as_bytes.ensures.value at c.write_whole-2.ensures.unless_failed in
    pieces-told g.E.Sink.tells _ _ _ _ _ _ _ c.write_whole.ensures.cause.later c.write_whole-2.ensures.cause.later c.write_whole-3.ensures.cause.later
    c.write_whole.ensures.unless_failed name c.write_whole-3.ensures.unless_failed
