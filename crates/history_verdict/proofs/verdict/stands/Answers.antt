use Rattle.history_verdict.proofs.verdict.stands.Goals as goal

pub returns-in-Settling : goal.returns-in-Settling
returns-in-Settling c = rw c.in-Settling.is c.settling_law.ensures
