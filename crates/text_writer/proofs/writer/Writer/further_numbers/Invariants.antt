use Rattle.std.proofs.Common.{◌≡◌, ◌++◌, take, [], ◌∷◌, map}
use Rattle.std.specs.Fmt.{decimal}
use Rattle.text_writer.specs.Written.{behind}
use Rattle.text_writer.proofs.writer.Writer.further_numbers.Given as goal

abbrev pub invariant-loop-number : goal.invariant-loop-number
invariant-loop-number l = l.self ≡ l.fn.self ++ behind (46 ∷ []) (map decimal (take l.number-index l.numbers))
