use Rattle.std.proofs.Common.{◌≡◌, ◌++◌, take, map, codes}
use Rattle.text_writer.specs.Written.{behind}
use Rattle.run_report.specs.Shown.{shown}
use Rattle.run_report.proofs.value.+print_value.Given as goal

abbrev pub invariant-print_list-loop-item : goal.invariant-print_list-loop-item
invariant-print_list-loop-item l = l.writer ≡ l.initial.writer ++ behind (codes ", ") (map shown (take l.item-index l.rest))
