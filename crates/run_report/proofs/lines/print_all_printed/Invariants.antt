use Rattle.std.proofs.Common.{◌≡◌, ◌++◌, take, flat_map}
use Rattle.run_report.specs.Shown.{print_line}
use Rattle.run_report.proofs.lines.print_all_printed.Given as goal

abbrev pub invariant-loop-value : goal.invariant-loop-value
invariant-loop-value l = l.writer ≡ l.fn.writer ++ flat_map print_line (take l.value-index l.values)
