use Rattle.std.proofs.Common.{◌≡◌, ◌++◌, take, codes}
use Rattle.text_writer.specs.Written.{behind}
use Rattle.run_report.specs.Shown.{file_values}
use Rattle.run_report.proofs.lines.print_further_files.Given as goal

abbrev pub invariant-loop-file : goal.invariant-loop-file
invariant-loop-file l = l.writer ≡ l.fn.writer ++ behind (codes ", ") (file_values (take l.file-index l.files))
