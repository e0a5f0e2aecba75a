use Rattle.std.proofs.Common.{◌≡◌, drop, map}
use Rattle.flow_base.specs.Values.{all_match, same}
use Rattle.flow_base.proofs.+same.Given as goal

abbrev pub invariant-same::all_same-loop-i : goal.invariant-same::all_same-loop-i
invariant-same::all_same-loop-i l = all_match (map same (drop l.i l.items)) (drop l.i l.others) ≡ all_match (map same l.items) l.others
