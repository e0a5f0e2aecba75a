use Rattle.parsl_engine.proofs.Courses.{course-read}
use Rattle.parsl_engine.specs.declared.words.Command.TheVariants.{Run}
use Rattle.parsl_engine.proofs.top.run.Goals as goal

pub returns-in-Ok : goal.returns-in-Ok
returns-in-Ok g c =
    let read = rw c.as_str.ensures at c.in-Ok.ensures in
    let produced = rw c.deref.ensures.value at c.run_output.ensures in
    course-read Run c.args.script.now g.S.Shelf.tells g.O.Sink.tells _ _ _ _ _ _ c.in-Ok.bytes _ c.print.result read produced c.print.ensures
