use Rattle.std.proofs.Common.{◌≡◌, drop}
use Rattle.history_laws.specs.Reads.{cost_in}
use Rattle.history_verdict.proofs.reads.cost_in.Given as goal

abbrev pub invariant-loop-cost : goal.invariant-loop-cost
invariant-loop-cost l = cost_in (drop l.cost-index l.costs) l.name ≡ cost_in l.costs l.name
