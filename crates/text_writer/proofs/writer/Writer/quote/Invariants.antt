use Rattle.std.proofs.Common.{◌≡◌, ◌++◌, take, [], ◌∷◌, flat_map}
use Rattle.text_writer.specs.Written.{escaped}
use Rattle.text_writer.proofs.writer.Writer.quote.Given as goal

abbrev pub invariant-loop-byte : goal.invariant-loop-byte
invariant-loop-byte l = l.self ≡ l.fn.self ++ 34 ∷ [] ++ flat_map escaped (take l.byte-index l.byte-items)
