use Rattle.std.proofs.Common.{◌≡◌, ◌+◌, ◌≤◌, length, sym, ap, ◌∙◌, inr}
use Rattle.event_log.specs.Logs.{max_entries}
use Rattle.event_log.proofs.Whole.{one_more_read, fewer_left, no_entry, not_empty}
use Rattle.event_log.proofs.read.read_log.Goals as goal

pub loop-cursor-smaller : goal.loop-cursor-smaller
loop-cursor-smaller c = fewer_left c.loop-cursor.cursor c.in-Ok.entry c.entry.new.self c.in-Ok.ensures

pub loop-cursor-preserved : goal.loop-cursor-preserved
loop-cursor-preserved c =
    let few : length c.loop-cursor.entries ≡ max_entries → ⊥ = λ full. c.if-len-eq-MAX_ENTRIES.false (c.len-in-loop-cursor.ensures ∙ full) in
    rw c.in_ok-push-in-Ok.ensures.ok (one_more_read c.args.bytes.now c.loop-cursor.entries c.loop-cursor.cursor c.in-Ok.entry c.entry.new.self c.loop-cursor.invariant few c.in-Ok.ensures)

pub returns-in-Err-NoEntry-clause-bad : goal.returns-in-Err-NoEntry-clause-bad
returns-in-Err-NoEntry-clause-bad c = λ line e.
    let number : c.len.result + 1 ≡ line = cc in
    let none = rw c.in-Err-NoEntry.field-0-is at c.in-Err-NoEntry.ensures in
    let long : 1 ≤ length c.loop-cursor.cursor = not_empty c.loop-cursor.cursor (sym c.is_at_end.ensures ∙ c.loop-cursor-test.true) in
    (c.loop-cursor.entries, c.loop-cursor.cursor, c.loop-cursor.invariant, sym number ∙ ap (λ n. n + 1) c.len.ensures, long, inr (no_entry c.loop-cursor.cursor none))
