use Rattle.std.specs.List.{AllWithin}
use Rattle.event_log.specs.Logs.{InRange}
use Rattle.log_lines.proofs.ranges.in_range.Given as goal

abbrev pub invariant-loop-entry : goal.invariant-loop-entry
invariant-loop-entry l = AllWithin InRange l.entries 0 l.entry-index
