use Rattle.std.proofs.Common.{sym, ◌∙◌}
use Rattle.script_eval.proofs.Looking.{looked-from, looked-missing}
use Rattle.script_eval.proofs.group.GroupOutcomes.outcome.Goals as goal

pub returns-in-Some : goal.returns-in-Some
returns-in-Some c =
    c.outcome_at.ensures
    ∙ looked-from c.args.self.now.state.now c.args.self.now.first c.args.path.now c.place.ensures.distinct c.in-Some.place (sym c.place.ensures.place ∙ c.in-Some.is)

pub returns-in-None : goal.returns-in-None
returns-in-None c = looked-missing c.args.self.now.state.now c.args.self.now.first c.args.path.now c.place.ensures.distinct (sym c.place.ensures.place ∙ c.in-None.is)
