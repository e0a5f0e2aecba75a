use Rattle.std.proofs.Common.{take}
use Rattle.app_index.specs.Numbers.{AreNumbers}
use Rattle.app_index.proofs.apps.numbered.Given as goal

abbrev pub invariant-loop-number : goal.invariant-loop-number
invariant-loop-number l = AreNumbers (take l.number l.apps) l.numbers.entries
