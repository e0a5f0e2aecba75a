use Rattle.history_verdict.specs.Scan.{Stands}
use Rattle.history_verdict.proofs.Breaks.{breaks_at}
use Rattle.history_verdict.proofs.verdict.first_break.Goals as goal

pub returns-then-not-stands : goal.returns-then-not-stands
returns-then-not-stands c =
    breaks_at (Stands c.args.retries.now c.args.table.now c.args.law) c.args.entries.now c.loop-place.place c.index-entries-place.result c.loop-place-test.true c.index-entries-place.is c.loop-place.invariant
    (λ s. let t = c.if-not-stands.ensures.1 s in absurd (cc))
