use Rattle.std.proofs.Common.{◌∙◌, map, sym}
use Rattle.parsl_engine.proofs.Courses.{not_two}
use Rattle.parsl_engine.proofs.top.parsl_top.Goals as goal

pub returns-in-Seq : goal.returns-in-Seq
returns-in-Seq g c =
    let carries = c.plain_top.ensures (map g.M.Monitor.told c.args.monitors.now.items) in
    record {
      words = λ two. absurd (not_two carries.exit (sym carries.status_is ∙ two));
      no_reading = λ none. absurd (let some = c.in-Some.ensures in cc);
      carries = rw c.in-Some.ensures carries;
    }
