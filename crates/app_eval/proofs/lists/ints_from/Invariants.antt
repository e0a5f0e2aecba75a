use Rattle.std.proofs.Common.{◌≡◌, ◌++◌, ◌-ℤ◌}
use Rattle.flow_meaning.specs.Operators.{ints_from, count_between}
use Rattle.app_eval.proofs.lists.ints_from.Given as goal

abbrev pub invariant-loop-n : goal.invariant-loop-n
invariant-loop-n l = l.ints ++ ints_from l.n (count_between (l.to -ℤ l.n)) ≡ ints_from l.from (count_between (l.to -ℤ l.from))
