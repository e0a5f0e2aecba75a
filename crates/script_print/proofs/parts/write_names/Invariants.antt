use Rattle.std.proofs.Common.{◌≡◌, ◌++◌, drop, flat_map, codes}
use Rattle.script_tree.specs.Canonical.{listed}
use Rattle.script_print.proofs.parts.write_names.Given as goal

abbrev pub invariant-loop-name : goal.invariant-loop-name
invariant-loop-name l = l.writer ++ flat_map (λ name. codes ", " ++ name) (drop l.name-index l.rest) ≡ l.fn.writer ++ listed l.fn.names
