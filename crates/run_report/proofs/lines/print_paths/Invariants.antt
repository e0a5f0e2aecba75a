use Rattle.std.proofs.Common.{◌≡◌, ◌++◌, take}
use Rattle.run_report.specs.Shown.{paths_text}
use Rattle.run_report.proofs.lines.print_paths.Given as goal

abbrev pub invariant-loop-path : goal.invariant-loop-path
invariant-loop-path l = l.writer ≡ l.fn.writer ++ paths_text (take l.path-index l.paths)
