use Rattle.parsl_engine.proofs.Lines.{refused-told}
use Rattle.parsl_engine.proofs.exit.tell_refusal.Goals as goal

pub returns-in-Parse : goal.returns-in-Parse
returns-in-Parse g c =
    let told = rw c.number.ensures at c.tell_fault.ensures in
    refused-told g.E.Sink.tells _ _ _ _ c.in-Parse.is told

pub returns-in-Check : goal.returns-in-Check
returns-in-Check g c =
    let told = rw c.number-in-Check.ensures at c.tell_fault-in-Check.ensures in
    refused-told g.E.Sink.tells _ _ _ _ c.in-Check.is told
