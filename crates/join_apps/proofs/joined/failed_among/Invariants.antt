use Rattle.std.proofs.Common.{◌≡◌, ◌++◌, drop}
use Rattle.flow_meaning.specs.Sequential.{failed_among}
use Rattle.join_apps.proofs.joined.failed_among.Given as goal

abbrev pub invariant-loop-path : goal.invariant-loop-path
invariant-loop-path g l =
    let ts = g.O.Outcomes.tasks l.outcomes in
    l.failed ++ failed_among ts (drop l.path-index l.paths) ≡ failed_among ts l.paths
