use Rattle.std.proofs.Common.{◌≡◌, ◌++◌, take}
use Rattle.event_log.specs.LogText.{log_text}
use Rattle.event_log.proofs.print.write_log.Given as goal

abbrev pub invariant-loop-entry : goal.invariant-loop-entry
invariant-loop-entry l = l.writer ≡ l.fn.writer ++ log_text (take l.entry-index l.entries)
