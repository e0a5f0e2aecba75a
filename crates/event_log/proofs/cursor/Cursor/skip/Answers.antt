use Rattle.std.proofs.Common.{Some, sym, ap, ◌∙◌}
use Rattle.event_log.proofs.Fronts.{behind_some, behind_none}
use Rattle.event_log.proofs.cursor.Cursor.skip.Goals as goal

pub returns-in-Some : goal.returns-in-Some
returns-in-Some c =
    let facts = c.in-Some.ensures.cases in
    rw (← c.self.view_is) (behind_some c.args.bytes.now c.self.inside.rest.now facts.0 ∙ ap (λ r. Some r) (sym facts.1))

pub returns-in-None : goal.returns-in-None
returns-in-None c = rw (← c.self.view_is) (behind_none c.args.bytes.now c.self.inside.rest.now c.in-None.ensures.cases)
