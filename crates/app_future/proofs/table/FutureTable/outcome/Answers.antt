use Rattle.std.proofs.Common.{None, Some, ap, ◌∙◌, vec_items}
use Rattle.app_future.specs.Futures.{outcome_in}
use Rattle.app_future.proofs.Entries.{looked_up}
use Rattle.app_future.proofs.table.FutureTable.outcome.Goals as goal

pub returns-in-Some : goal.returns-in-Some
returns-in-Some c = c.outcome.ensures ∙ ap outcome_in (looked_up vec_items c.self.inside.futures.entries c.args.self.now c.self.view_is c.as_slice.result.now c.args.path.now (Some c.in-Some.entry.now) c.as_slice.ensures c.in-Some.ensures.value)

pub returns-in-None : goal.returns-in-None
returns-in-None c = ap outcome_in (looked_up vec_items c.self.inside.futures.entries c.args.self.now c.self.view_is c.as_slice.result.now c.args.path.now None c.as_slice.ensures c.in-None.ensures.value)
